-- Small facts of tests.
use Rattle.std.proofs.Common.{◌≡◌, ℕ, suc, ◌<◌, ◌≤◌, ◌==◌, nat_lt, nat_le, Bool, true, false, cond, not, ◌||◌, ◌&&◌, ◌⊎◌, inl, inr, refl, sym, ◌∙◌, ap, arith}
use Rattle.std.proofs.lemmas.Bool.Decides.{nat_tests}

-- each test passes or fails, and not both
pub is_or_not : (b : Bool) → (b ≡ true) ⊎ (b ≡ false)
is_or_not true = inl refl
is_or_not false = inr refl

pub clash : (b : Bool) → b ≡ true → b ≡ false → ⊥
clash b h g = cc

pub not_true : (b : Bool) → (b ≡ true → ⊥) → b ≡ false
not_true true h = absurd (h refl)
not_true false h = refl

pub is_false : (b : Bool) → not b ≡ true → b ≡ false
is_false true h = cc
is_false false h = refl

pub fails : (b : Bool) → (b ≡ true → ⊥) → not b ≡ true
fails true h = absurd (h refl)
fails false h = refl

pub same_tests : (a b : Bool) → (a ≡ true → b ≡ true) → (b ≡ true → a ≡ true) → a ≡ b
same_tests true b f g = sym (f refl)
same_tests false true f g = g refl
same_tests false false f g = refl

-- of two tests
pub both : (a b : Bool) → (a && b) ≡ true → (a ≡ true) × (b ≡ true)
both true b h = (refl, h)
both false b h = cc

pub both_true : (a b : Bool) → a ≡ true → b ≡ true → (a && b) ≡ true
both_true a b h g = rw (h, g) refl

pub and_false : (a : Bool) → (a && false) ≡ false
and_false true = refl
and_false false = refl

pub implied : (a b : Bool) → (not a || b) ≡ true → a ≡ true → b ≡ true
implied true b h e = h
implied false b h e = absurd (cc e)

pub is_or : (a b : Bool) → (a || b) ≡ true → (a ≡ true) ⊎ (b ≡ true)
is_or true b h = inl refl
is_or false b h = inr h

pub neither : (a b : Bool) → (a || b) ≡ false → (a ≡ false) × (b ≡ false)
neither true b h = cc
neither false b h = (refl, h)

pub or_later : (a b : Bool) → b ≡ true → (a || b) ≡ true
or_later true b h = refl
or_later false b h = h

pub or_false : (b : Bool) → (b || false) ≡ true → b ≡ true
or_false true h = refl
or_false false h = h

pub nor : (a b : Bool) → a ≡ false → b ≡ false → (a || b) ≡ false
nor a b h g = ap (λ a. a || b) h ∙ g

-- of numbers
pub eq_is : (n m : ℕ) → (n == m) ≡ true → n ≡ m
eq_is n m h = grind (arith, nat_tests)

pub eq_same : (n : ℕ) → (n == n) ≡ true
eq_same n = grind (arith, nat_tests)

pub eq_turned : (n m : ℕ) → (n == m) ≡ false → (m == n) ≡ false
eq_turned n m h = grind (arith, nat_tests)

pub eq_test : (m n : ℕ) → m ≡ n → (m == n) ≡ true
eq_test m n h = grind (arith, nat_tests)

pub eq_below : (m n : ℕ) → m < n → (m == n) ≡ false
eq_below m n h = grind (arith, nat_tests)

pub eq_above : (m n : ℕ) → n < m → (m == n) ≡ false
eq_above m n h = grind (arith, nat_tests)

pub is_apart : (n m : ℕ) → (n ≡ m → ⊥) → (n == m) ≡ false
is_apart n m h = grind (arith, nat_tests)

pub is_inner : (n : ℕ) → (n ≡ 0 → ⊥) → (n == 0) ≡ false
is_inner n h = grind (arith, nat_tests)

pub not_zero : (n : ℕ) → (n == 0) ≡ false → n ≡ 0 → ⊥
not_zero n e h = clash (n == 0) (ap (λ j. j == 0) h ∙ eq_same 0) e

pub suc_apart : (n : ℕ) → (suc n == 0) ≡ false
suc_apart n = grind (arith, nat_tests)

pub not_root : (n : ℕ) (b : Bool) → ((suc n == 0) || b) ≡ true → b ≡ true
not_root n b h = grind (arith, nat_tests)

pub lt_is : (m n : ℕ) → nat_lt m n ≡ true → m < n
lt_is m n h = grind (arith, nat_tests)

pub lt_test : (m n : ℕ) → m < n → nat_lt m n ≡ true
lt_test m n h = grind (arith, nat_tests)

pub not_lt : (m n : ℕ) → n ≤ m → nat_lt m n ≡ false
not_lt m n h = grind (arith, nat_tests)

pub ge_is : (m n : ℕ) → nat_lt m n ≡ false → n ≤ m
ge_is m n h = grind (arith, nat_tests)

pub le_is : (m n : ℕ) → nat_le m n ≡ true → m ≤ n
le_is m n h = grind (arith, nat_tests)

pub le_test : (m n : ℕ) → m ≤ n → nat_le m n ≡ true
le_test m n h = grind (arith, nat_tests)

pub not_le : (m n : ℕ) → n < m → nat_le m n ≡ false
not_le m n h = grind (arith, nat_tests)

pub gt_is : (m n : ℕ) → nat_le m n ≡ false → n < m
gt_is m n h = grind (arith, nat_tests)

-- what a test lets through
pub cond_most : (b : Bool) (n : ℕ) → cond b n 0 ≤ n
cond_most true n = omega arith
cond_most false n = omega arith
