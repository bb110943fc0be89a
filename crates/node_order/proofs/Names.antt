-- The order of names, and of the places of nodes.
use Rattle.std.proofs.Common.{◌≡◌, ℕ, ◌<◌, ◌==◌, ◌&&◌, ◌||◌, nat_lt, Bool, true, false, ◌⊎◌, inl, inr, List, [], ◌∷◌, refl, sym, ◌∙◌, ap, subst, arith, Ordering, Less, Equal, Greater, nat_cmp, is_lt}
use Rattle.std.proofs.lemmas.Bool.Decides.{nat_tests}
use Rattle.std.proofs.lemmas.Cmp.{nat_list_cmp_total, tied_itself}
use Rattle.std.proofs.lemmas.Slice.Eq.{bytes_eq-Decides}
use Rattle.std.specs.Cmp.Lexicographic.{slice_cmp, texts_ties}
use Rattle.std.specs.Ordering.{ordering_reverse, is_eq}
use Rattle.std.specs.Str.{chars}
use Rattle.fsrm_model.specs.values.Name.{folded, same_name, name_before}
use Rattle.fsrm_base.proofs.TestLaws.{not_true, eq_is, lt_is}

-- names that are one have one folding
pub same_folded : (a b : List ℕ) → same_name a b ≡ true → folded a ≡ folded b
same_folded a b h = (bytes_eq-Decides (folded a) (folded b)).0 h

folded_same : (a b : List ℕ) → folded a ≡ folded b → same_name a b ≡ true
folded_same a b h = (bytes_eq-Decides (folded a) (folded b)).1 h

pub names_same : (a b c : List ℕ) → same_name a c ≡ true → same_name b c ≡ true → same_name a b ≡ true
names_same a b c h g = folded_same a b (same_folded a c h ∙ sym (same_folded b c g))

less_is : (o : Ordering) → is_lt o ≡ true → o ≡ Less
less_is Less h = refl
less_is Equal h = cc
less_is Greater h = cc

pub name_before_then : (a b c : List ℕ) → name_before a b ≡ true → name_before b c ≡ true → name_before a c ≡ true
name_before_then a b c h g = ap is_lt (nat_list_cmp_total.trans (folded a) (folded b) (folded c) (less_is _ h) (less_is _ g))

-- a name compares as another spelling of it
pub name_before_as : (a b c : List ℕ) → same_name b c ≡ true → name_before a b ≡ name_before a c
name_before_as a b c h = ap (λ x. is_lt (slice_cmp nat_cmp (folded a) x)) (same_folded b c h)

pub name_as_before : (a b c : List ℕ) → same_name a b ≡ true → name_before a c ≡ name_before b c
name_as_before a b c h = ap (λ x. is_lt (slice_cmp nat_cmp x (folded c))) (same_folded a b h)

pub name_before_apart : (a b : List ℕ) → name_before a b ≡ true → same_name a b ≡ false
name_before_apart a b h =
    not_true (same_name a b) (λ t.
    let none : name_before a b ≡ false = name_as_before a b b t ∙ ap is_lt (tied_itself nat_list_cmp_total (folded b)) in
    cc)

turned : (o p : Ordering) → o ≡ ordering_reverse p → is_lt p ≡ true → is_lt o ≡ false
turned o Less e h = ap is_lt e
turned o Equal e h = cc
turned o Greater e h = cc

pub name_before_turned : (a b : List ℕ) → name_before a b ≡ true → name_before b a ≡ false
name_before_turned a b h = turned _ _ (nat_list_cmp_total.antisymm (folded b) (folded a)) h

other : (o p : Ordering) → o ≡ ordering_reverse p → is_lt p ≡ false → is_eq p ≡ false → is_lt o ≡ true
other o Less e h g = cc
other o Equal e h g = cc
other o Greater e h g = ap is_lt e

-- of two names that differ, one comes before
pub name_before_or_after : (a b : List ℕ) → name_before a b ≡ false → same_name a b ≡ false → name_before b a ≡ true
name_before_or_after a b h g = other _ _ (nat_list_cmp_total.antisymm (folded b) (folded a)) h (sym (texts_ties (folded a) (folded b)) ∙ g)

none_before_nothing : (xs : List ℕ) → is_lt (slice_cmp nat_cmp xs []) ≡ false
none_before_nothing [] = refl
none_before_nothing (x ∷ xs) = refl

-- no name comes before the empty one
pub name_before_empty : (a : List ℕ) → name_before a [] ≡ false
unfolding chars
name_before_empty a = none_before_nothing (folded a)

-- the order of two places, each a folder and a name
abbrev pub comes : ℕ → List ℕ → ℕ → List ℕ → Bool
comes p a q b = nat_lt p q || ((p == q) && name_before a b)

pub record Comes (p : ℕ) (a : List ℕ) (q : ℕ) (b : List ℕ) : Type 0 where
  pub way : (p < q) ⊎ ((p ≡ q) × (name_before a b ≡ true))

pub record Stays (p : ℕ) (a : List ℕ) (q : ℕ) (b : List ℕ) : Type 0 where
  pub way : (q < p) ⊎ ((p ≡ q) × (name_before a b ≡ false))

comes_at : (p q : ℕ) (a b : List ℕ) (l e : Bool) → nat_lt p q ≡ l → (p == q) ≡ e → (l || (e && name_before a b)) ≡ true → Comes p a q b
comes_at p q a b true e i j h = record { way = inl (lt_is p q i) }
comes_at p q a b false true i j h = record { way = inr (eq_is p q j, h) }
comes_at p q a b false false i j h = cc

pub comes_is : (p : ℕ) (a : List ℕ) (q : ℕ) (b : List ℕ) → comes p a q b ≡ true → Comes p a q b
comes_is p a q b h = comes_at p q a b (nat_lt p q) (p == q) refl refl h

not_either : (p q : ℕ) → nat_lt p q ≡ false → (p == q) ≡ false → q < p
not_either p q h g = grind (arith, nat_tests)

stays_at : (p q : ℕ) (a b : List ℕ) (l e : Bool) → nat_lt p q ≡ l → (p == q) ≡ e → (l || (e && name_before a b)) ≡ false → Stays p a q b
stays_at p q a b true e i j h = cc
stays_at p q a b false true i j h = record { way = inr (eq_is p q j, h) }
stays_at p q a b false false i j h = record { way = inl (not_either p q i j) }

pub stays_is : (p : ℕ) (a : List ℕ) (q : ℕ) (b : List ℕ) → comes p a q b ≡ false → Stays p a q b
stays_is p a q b h = stays_at p q a b (nat_lt p q) (p == q) refl refl h

pub comes_below : (p : ℕ) (a : List ℕ) (q : ℕ) (b : List ℕ) → p < q → comes p a q b ≡ true
comes_below p a q b h = let t : nat_lt p q ≡ true = grind (arith, nat_tests) in rw t refl

same_place : (p : ℕ) (b : Bool) → (nat_lt p p || ((p == p) && b)) ≡ b
same_place p b = let l : nat_lt p p ≡ false = grind (arith, nat_tests) in let e : (p == p) ≡ true = grind (arith, nat_tests) in rw (l, e) refl

pub comes_within : (p : ℕ) (a b : List ℕ) → comes p a p b ≡ name_before a b
comes_within p a b = same_place p (name_before a b)

pub comes_equal : (p : ℕ) (a : List ℕ) (q : ℕ) (b : List ℕ) → p ≡ q → comes p a q b ≡ name_before a b
comes_equal p a q b e = subst (λ n. comes p a n b ≡ name_before a b) e (comes_within p a b)

pub stays_above : (p : ℕ) (a : List ℕ) (q : ℕ) (b : List ℕ) → q < p → comes p a q b ≡ false
stays_above p a q b h = let l : nat_lt p q ≡ false = grind (arith, nat_tests) in let e : (p == q) ≡ false = grind (arith, nat_tests) in rw (l, e) refl

pub comes_then : (p : ℕ) (a : List ℕ) (q : ℕ) (b : List ℕ) (r : ℕ) (c : List ℕ) → comes p a q b ≡ true → comes q b r c ≡ true → comes p a r c ≡ true
comes_then p a q b r c h g =
    elim (comes_is p a q b h).way [
      | inl l ↦ elim (comes_is q b r c g).way [
        | inl m ↦ comes_below p a r c (omega arith)
        | inr m ↦ comes_below p a r c (omega (arith, m.0))
      ]
      | inr l ↦ elim (comes_is q b r c g).way [
        | inl m ↦ comes_below p a r c (omega (arith, l.0))
        | inr m ↦ comes_equal p a r c (l.0 ∙ m.0) ∙ name_before_then a b c l.1 m.1
      ]
    ]

pub comes_turned : (p : ℕ) (a : List ℕ) (q : ℕ) (b : List ℕ) → comes p a q b ≡ true → comes q b p a ≡ false
comes_turned p a q b h =
    elim (comes_is p a q b h).way [
      | inl l ↦ stays_above q b p a l
      | inr l ↦ comes_equal q b p a (sym l.0) ∙ name_before_turned a b l.1
    ]

pub comes_itself : (p : ℕ) (a : List ℕ) → comes p a p a ≡ false
comes_itself p a = comes_within p a a ∙ ap is_lt (tied_itself nat_list_cmp_total (folded a))

-- of two places that differ, one comes before
pub comes_or_after : (p : ℕ) (a : List ℕ) (q : ℕ) (b : List ℕ) → comes p a q b ≡ false → (p ≡ q → same_name a b ≡ false) → comes q b p a ≡ true
comes_or_after p a q b h g =
    elim (stays_is p a q b h).way [
      | inl l ↦ comes_below q b p a l
      | inr l ↦ comes_equal q b p a (sym l.0) ∙ name_before_or_after a b l.1 (g l.0)
    ]

pub comes_apart : (p : ℕ) (a : List ℕ) (q : ℕ) (b : List ℕ) → comes p a q b ≡ true → p ≡ q → same_name a b ≡ false
comes_apart p a q b h e = name_before_apart a b (sym (comes_equal p a q b e) ∙ h)

pub comes_as : (p : ℕ) (a : List ℕ) (q : ℕ) (b c : List ℕ) → same_name b c ≡ true → comes p a q b ≡ comes p a q c
comes_as p a q b c h = ap (λ t. nat_lt p q || ((p == q) && t)) (name_before_as a b c h)

pub as_comes : (p : ℕ) (a b : List ℕ) (q : ℕ) (c : List ℕ) → same_name a b ≡ true → comes p a q c ≡ comes p b q c
as_comes p a b q c h = ap (λ t. nat_lt p q || ((p == q) && t)) (name_as_before a b c h)

-- names are the same either way round
pub name_turned : (a b : List ℕ) → same_name a b ≡ true → same_name b a ≡ true
name_turned a b h = folded_same b a (sym (same_folded a b h))
