-- Ascending rows of which one is new, changed or gone.
use Rattle.std.proofs.Common.{◌≡◌, ℕ, ◌+◌, ◌<◌, ◌≤◌, ◌==◌, Bool, true, false, cond, List, [], ◌∷◌, length, refl, ◌∙◌, ap, arith, nat_lt}
use Rattle.std.proofs.lemmas.Bool.Decides.{nat_tests}
use Rattle.std.specs.Prelude.{map, filter, if◌then◌else◌}
use Rattle.std.specs.List.{list_all}
use Rattle.fsrm_base.specs.Keyed.{has_row, with_row, with_change, least_free_from, least_free, is_ascending}
use Rattle.fsrm_base.proofs.TestLaws.{not_true, both, neither, eq_is, lt_is, lt_test}
use Rattle.fsrm_base.proofs.EditedRows.{absent_later}
use Rattle.fsrm_base.proofs.EditedTests.{list_all-filter}
use Rattle.fsrm_base.proofs.Look.{changed_key}
pub use Rattle.fsrm_base.proofs.EditedRows.{length-with_row, length-change}

abbrev pub is_above : {X : Type 0} → (X → ℕ) → X → List X → Bool
is_above key x [] = true
is_above key x (y ∷ ys) = nat_lt (key x) (key y)

pub record Parts {X : Type 0} (key : X → ℕ) (x : X) (ys : List X) : Type 0 where
  pub above : is_above key x ys ≡ true
  pub rest : is_ascending key ys ≡ true

pub parts : {X : Type 0} (key : X → ℕ) (x : X) (ys : List X) → is_ascending key (x ∷ ys) ≡ true → Parts key x ys
parts key x [] h = record { above = refl; rest = refl }
parts key x (y ∷ ys) h = record { above = (both _ _ h).0; rest = (both _ _ h).1 }

pub join : {X : Type 0} (key : X → ℕ) (x : X) (ys : List X) → is_above key x ys ≡ true → is_ascending key ys ≡ true → is_ascending key (x ∷ ys) ≡ true
join key x [] h g = refl
join key x (y ∷ ys) h g = rw (h, g) refl

not_lt : (m n : ℕ) → nat_lt m n ≡ false → (n == m) ≡ false → nat_lt n m ≡ true
not_lt m n h e = grind (arith, nat_tests)

above_at : {X : Type 0} (key : X → ℕ) (x row y : X) (ys : List X) (b : Bool) → nat_lt (key x) (key row) ≡ true → nat_lt (key x) (key y) ≡ true → is_above key x (cond b (row ∷ y ∷ ys) (y ∷ with_row key row ys)) ≡ true
above_at key x row y ys true h g = h
above_at key x row y ys false h g = g

above-with_row : {X : Type 0} (key : X → ℕ) (x row : X) (ys : List X) → nat_lt (key x) (key row) ≡ true → is_above key x ys ≡ true → is_above key x (with_row key row ys) ≡ true
above-with_row key x row [] h g = h
above-with_row key x row (y ∷ ys) h g = above_at key x row y ys (nat_lt (key row) (key y)) h g

ascending_at : {X : Type 0} (key : X → ℕ) (row x : X) (xs : List X) (b : Bool) → nat_lt (key row) (key x) ≡ b → (key x == key row) ≡ false → is_ascending key (x ∷ xs) ≡ true → is_ascending key (with_row key row xs) ≡ true → is_ascending key (cond b (row ∷ x ∷ xs) (x ∷ with_row key row xs)) ≡ true
ascending_at key row x xs true e n a h = join key row (x ∷ xs) e a
ascending_at key row x xs false e n a h =
    join key x (with_row key row xs) (above-with_row key x row xs (not_lt (key row) (key x) e n) (parts key x xs a).above) h

pub ascending-with_row : {X : Type 0} (key : X → ℕ) (row : X) (rows : List X) → has_row key (key row) rows ≡ false → is_ascending key rows ≡ true → is_ascending key (with_row key row rows) ≡ true
ascending-with_row key row [] absent a = refl
ascending-with_row key row (x ∷ xs) absent a =
    let apart : ((key x == key row) ≡ false) × (has_row key (key row) xs ≡ false) = neither _ _ absent in
    ascending_at key row x xs (nat_lt (key row) (key x)) refl apart.0 a (ascending-with_row key row xs apart.1 (parts key x xs a).rest)

above-map : {X : Type 0} (key : X → ℕ) (g : X → X) → ((r : X) → key (g r) ≡ key r) → (x : X) (ys : List X) → is_above key (g x) (map g ys) ≡ is_above key x ys
above-map key g k x [] = refl
above-map key g k x (y ∷ ys) = ap (λ i. nat_lt i (key (g y))) (k x) ∙ ap (λ i. nat_lt (key x) i) (k y)

pub ascending-map : {X : Type 0} (key : X → ℕ) (g : X → X) → ((r : X) → key (g r) ≡ key r) → (rows : List X) → is_ascending key rows ≡ true → is_ascending key (map g rows) ≡ true
ascending-map key g k [] a = refl
ascending-map key g k (x ∷ xs) a =
    let p = parts key x xs a in
    join key (g x) (map g xs) (above-map key g k x xs ∙ p.above) (ascending-map key g k xs p.rest)

pub ascending-change : {X : Type 0} (key : X → ℕ) (n : ℕ) (c : X → X) → ((r : X) → key (c r) ≡ key r) → (rows : List X) → is_ascending key rows ≡ true → is_ascending key (with_change key n c rows) ≡ true
ascending-change key n c k rows a = ascending-map key (λ r. if key r == n then c r else r) (λ r. changed_key key n c k (key r == n) r) rows a

-- all later rows are above
all_above : {X : Type 0} (key : X → ℕ) (x : X) (ys : List X) → is_ascending key (x ∷ ys) ≡ true → list_all (λ y. nat_lt (key x) (key y)) ys ≡ true
all_above key x [] a = refl
all_above key x (y ∷ ys) a =
    let p = parts key x (y ∷ ys) a in
    let later : is_ascending key (x ∷ ys) ≡ true = skip key x y ys p.above p.rest in
    rw (p.above, all_above key x ys later) refl
  where
    skip : {X : Type 0} (key : X → ℕ) (x y : X) (ys : List X) → nat_lt (key x) (key y) ≡ true → is_ascending key (y ∷ ys) ≡ true → is_ascending key (x ∷ ys) ≡ true
    skip key x y [] h a = refl
    skip key x y (z ∷ zs) h a =
        let p = parts key y (z ∷ zs) a in
        let m : key x < key y = lt_is _ _ h in
        let n : key y < key z = lt_is _ _ p.above in
        rw (lt_test (key x) (key z) (omega arith), p.rest) refl

above_all : {X : Type 0} (key : X → ℕ) (x : X) (ys : List X) → list_all (λ y. nat_lt (key x) (key y)) ys ≡ true → is_above key x ys ≡ true
above_all key x [] h = refl
above_all key x (y ∷ ys) h = (both _ _ h).0

filtered_at : {X : Type 0} (key : X → ℕ) (x : X) (ys : List X) (b : Bool) → is_above key x ys ≡ true → is_ascending key ys ≡ true → is_ascending key (cond b (x ∷ ys) ys) ≡ true
filtered_at key x ys true h a = join key x ys h a
filtered_at key x ys false h a = a

pub ascending-filter : {X : Type 0} (key : X → ℕ) (q : X → Bool) (rows : List X) → is_ascending key rows ≡ true → is_ascending key (filter q rows) ≡ true
ascending-filter key q [] a = refl
ascending-filter key q (x ∷ xs) a =
    filtered_at key x (filter q xs) (q x)
    (above_all key x (filter q xs) (list_all-filter (λ y. nat_lt (key x) (key y)) q xs (all_above key x xs a)))
    (ascending-filter key q xs (parts key x xs a).rest)

-- the least free number
pub record IsFree {X : Type 0} (key : X → ℕ) (n k : ℕ) (rows : List X) : Type 0 where
  pub free : has_row key k rows ≡ false
  pub least : n ≤ k
  pub most : k ≤ n + length rows

pub head_from : {X : Type 0} → (X → ℕ) → ℕ → List X → Type 0
head_from key n [] = Unit {0}
head_from key n (r ∷ rows) = n ≤ key r

next_from : {X : Type 0} (key : X → ℕ) (n : ℕ) (r : X) (rows : List X) → key r ≡ n → is_above key r rows ≡ true → head_from key (n + 1) rows
unfolding head_from
next_from key n r [] e h = tt
next_from key n r (s ∷ rows) e h = let m : key r < key s = lt_is _ _ h in omega arith

free_at : {X : Type 0} (key : X → ℕ) (n : ℕ) (r : X) (rows : List X) (b : Bool) → (key r == n) ≡ b → n ≤ key r → is_ascending key (r ∷ rows) ≡ true → (key r ≡ n → IsFree key (n + 1) (least_free_from key (n + 1) rows) rows) → IsFree key n (cond b (least_free_from key (n + 1) rows) n) (r ∷ rows)
free_at key n r rows true e le a f =
    let is : key r ≡ n = eq_is _ _ e in
    let g = f is in
    let apart : (key r == least_free_from key (n + 1) rows) ≡ false = not_true _ (λ t. let same : key r ≡ least_free_from key (n + 1) rows = eq_is _ _ t in absurd (omega (arith, g.least))) in
    record { free = rw (apart, g.free) refl; least = omega (arith, g.least); most = omega (arith, g.most) }
free_at key n r rows false e le a f =
    record { free = rw (e, absent_later key n r rows le a) refl; least = omega arith; most = omega arith }

pub least_free_from_is : {X : Type 0} (key : X → ℕ) (n : ℕ) (rows : List X) → head_from key n rows → is_ascending key rows ≡ true → IsFree key n (least_free_from key n rows) rows
unfolding head_from
least_free_from_is key n [] h a = record { free = refl; least = omega arith; most = omega arith }
least_free_from_is key n (r ∷ rows) h a =
    let p = parts key r rows a in
    free_at key n r rows (key r == n) refl h a (λ e. least_free_from_is key (n + 1) rows (next_from key n r rows e p.above) p.rest)

from_zero : {X : Type 0} (key : X → ℕ) (rows : List X) → head_from key 0 rows
unfolding head_from
from_zero key [] = tt
from_zero key (r ∷ rows) = omega arith

-- the least free number is no row's, and at most the number of rows
pub least_free_is : {X : Type 0} (key : X → ℕ) (rows : List X) → is_ascending key rows ≡ true → IsFree key 0 (least_free key rows) rows
least_free_is key rows a = least_free_from_is key 0 rows (from_zero key rows) a

-- lengths
