-- Lists into which an item was put, or from which one was taken.
use Rattle.std.proofs.Common.{◌≡◌, ℕ, zero, suc, ◌+◌, ◌<◌, ◌≤◌, nat_lt, Bool, true, false, cond, All, AllPairs, ◌⊎◌, inl, inr, List, [], ◌∷◌, length, get_or, insert, remove, map, filter, IsPermutation, refl, sym, ◌∙◌, ap, subst, arith}
use Rattle.std.proofs.lemmas.Bool.{cases_lt}
use Rattle.std.proofs.lemmas.List.Edits.{length-insert, get_or-insert_below, get_or-insert_at, get_or-insert_above, get_or-remove_below, get_or-remove_above}
use Rattle.std.proofs.lemmas.List.Sorted.{IsPermutation-refl, IsPermutation-cons, IsPermutation-trans, IsPermutation-middle}
use Rattle.fsrm_base.specs.Keyed.{with_row}

pub map-insert : {X Y : Type 0} (f : X → Y) (xs : List X) (p : ℕ) (x : X) → map f (insert xs p x) ≡ insert (map f xs) p (f x)
map-insert f xs zero x = refl
map-insert f [] (suc p) x = refl
map-insert f (y ∷ ys) (suc p) x = ap (λ zs. f y ∷ zs) (map-insert f ys p x)

pub map-remove : {X Y : Type 0} (f : X → Y) (xs : List X) (p : ℕ) → map f (remove xs p) ≡ remove (map f xs) p
map-remove f [] zero = refl
map-remove f [] (suc p) = refl
map-remove f (y ∷ ys) zero = refl
map-remove f (y ∷ ys) (suc p) = ap (λ zs. f y ∷ zs) (map-remove f ys p)

-- what stands at a place after an item was put in
record Inserted {X : Type 0} (xs : List X) (p : ℕ) (x d : X) (k : ℕ) : Type 0 where
  cases : ((k < p) × (get_or (insert xs p x) k d ≡ get_or xs k d)) ⊎ (((k ≡ p) × (get_or (insert xs p x) k d ≡ x)) ⊎ ((j : ℕ) × (p ≤ j) × (k ≡ j + 1) × (get_or (insert xs p x) k d ≡ get_or xs j d)))

inserted : {X : Type 0} (xs : List X) (p : ℕ) (x d : X) (k : ℕ) → p ≤ length xs → Inserted xs p x d k
inserted xs p x d zero l =
    elim (cases_lt 0 p) [
      | inl m ↦ record { cases = inl (m, get_or-insert_below xs p x d 0 m l) }
      | inr m ↦ let e : 0 ≡ p = omega arith in record { cases = inr (inl (e, ap (λ i. get_or (insert xs p x) i d) e ∙ get_or-insert_at xs p x d l)) }
    ]
inserted xs p x d (suc j) l =
    elim (cases_lt (suc j) p) [
      | inl m ↦ record { cases = inl (m, get_or-insert_below xs p x d (suc j) m l) }
      | inr m ↦ elim (cases_lt p (suc j)) [
        | inl n ↦ let e : suc j ≡ j + 1 = omega arith in record { cases = inr (inr (j, omega arith, e, ap (λ i. get_or (insert xs p x) i d) e ∙ get_or-insert_above xs p x d j (omega arith) l)) }
        | inr n ↦ let e : suc j ≡ p = omega arith in record { cases = inr (inl (e, ap (λ i. get_or (insert xs p x) i d) e ∙ get_or-insert_at xs p x d l)) }
      ]
    ]

pub pairs_insert : {X : Type 0} (R : X → X → Type 0) (xs : List X) (p : ℕ) (x : X) → p ≤ length xs → AllPairs R xs → ((k : ℕ) (d : X) → k < p → R (get_or xs k d) x) → ((k : ℕ) (d : X) → p ≤ k → k < length xs → R x (get_or xs k d)) → AllPairs R (insert xs p x)
pairs_insert R xs p x l h below above i j d m n =
    let size : length (insert xs p x) ≡ length xs + 1 = length-insert xs p x l in
    let a = inserted xs p x d i l in
    let b = inserted xs p x d j l in
    elim a.cases [
      | inl u ↦ elim b.cases [
        | inl v ↦ rw (u.1, v.1) (h i j d m (omega arith))
        | inr (inl v) ↦ rw (u.1, v.1) (below i d u.0)
        | inr (inr v) ↦ rw (u.1, v.3) (h i v.0 d (omega arith) (omega arith))
      ]
      | inr (inl u) ↦ elim b.cases [
        | inl v ↦ absurd (omega arith)
        | inr (inl v) ↦ absurd (omega arith)
        | inr (inr v) ↦ rw (u.1, v.3) (above v.0 d v.1 (omega arith))
      ]
      | inr (inr u) ↦ elim b.cases [
        | inl v ↦ absurd (omega arith)
        | inr (inl v) ↦ absurd (omega arith)
        | inr (inr v) ↦ rw (u.3, v.3) (h u.0 v.0 d (omega arith) (omega arith))
      ]
    ]

pub all_insert : {X : Type 0} (P : X → Type 0) (xs : List X) (p : ℕ) (x : X) → p ≤ length xs → P x → All P xs → All P (insert xs p x)
all_insert P xs p x l own all i d m =
    let size : length (insert xs p x) ≡ length xs + 1 = length-insert xs p x l in
    let a = inserted xs p x d i l in
    elim a.cases [
      | inl u ↦ subst P (sym u.1) (all i d (omega (arith, u.0, l)))
      | inr (inl u) ↦ subst P (sym u.1) own
      | inr (inr u) ↦ subst P (sym u.3) (all u.0 d (omega (arith, u.2, m, size)))
    ]

-- what stands at a place after an item was taken out
pub record Removed {X : Type 0} (xs : List X) (p : ℕ) (d : X) (k : ℕ) : Type 0 where
  pub place : ℕ
  pub is : get_or (remove xs p) k d ≡ get_or xs place d
  pub cases : ((k < p) × (place ≡ k)) ⊎ ((p ≤ k) × (place ≡ k + 1))

pub removed : {X : Type 0} (xs : List X) (p : ℕ) (d : X) (k : ℕ) → p < length xs → Removed xs p d k
removed xs p d k l =
    elim (cases_lt k p) [
      | inl m ↦ record { place = k; is = get_or-remove_below xs p d k m l; cases = inl (m, refl) }
      | inr m ↦ record { place = k + 1; is = get_or-remove_above xs p d k m l; cases = inr (m, refl) }
    ]

-- one more row among those that pass a test
placed_at : {X : Type 0} (row r : X) (kept more : List X) (b : Bool) → IsPermutation (row ∷ kept) more → IsPermutation (row ∷ cond b (r ∷ kept) kept) (cond b (r ∷ more) more)
placed_at row r kept more true h =
    IsPermutation-trans (row ∷ r ∷ kept) (r ∷ row ∷ kept) (r ∷ more) (IsPermutation-middle (row ∷ []) r kept) (IsPermutation-cons r (row ∷ kept) more h)
placed_at row r kept more false h = h

passing : {X : Type 0} (p : X → Bool) (row : X) (rows : List X) → p row ≡ true → filter p (row ∷ rows) ≡ row ∷ filter p rows
passing p row rows t = ap (λ b. cond b (row ∷ filter p rows) (filter p rows)) t

with_row_at : {X : Type 0} (p : X → Bool) (row r : X) (rows more : List X) (b : Bool) → p row ≡ true → IsPermutation (row ∷ filter p rows) (filter p more) → IsPermutation (row ∷ filter p (r ∷ rows)) (filter p (cond b (row ∷ r ∷ rows) (r ∷ more)))
with_row_at p row r rows more true t h = subst (IsPermutation (row ∷ filter p (r ∷ rows))) (sym (passing p row (r ∷ rows) t)) (IsPermutation-refl (row ∷ filter p (r ∷ rows)))
with_row_at p row r rows more false t h = placed_at row r (filter p rows) (filter p more) (p r) h

pub with_row_moves : {X : Type 0} (key : X → ℕ) (p : X → Bool) (row : X) (rows : List X) → p row ≡ true → IsPermutation (row ∷ filter p rows) (filter p (with_row key row rows))
with_row_moves key p row [] t = subst (IsPermutation (row ∷ [])) (sym (passing p row [] t)) (IsPermutation-refl (row ∷ []))
with_row_moves key p row (r ∷ rows) t = with_row_at p row r rows (with_row key row rows) (nat_lt (key row) (key r)) t (with_row_moves key p row rows t)

-- tests after a change that keeps their answers
filter_at : {X : Type 0} (g : X → X) (x : X) (kept more : List X) (b : Bool) → more ≡ map g kept → cond b (g x ∷ more) more ≡ map g (cond b (x ∷ kept) kept)
filter_at g x kept more true e = ap (λ ys. g x ∷ ys) e
filter_at g x kept more false e = e

pub filter-map : {X : Type 0} (p : X → Bool) (g : X → X) → ((x : X) → p (g x) ≡ p x) → (xs : List X) → filter p (map g xs) ≡ map g (filter p xs)
filter-map p g h [] = refl
filter-map p g h (x ∷ xs) =
    ap (λ b. cond b (g x ∷ filter p (map g xs)) (filter p (map g xs))) (h x)
    ∙ filter_at g x (filter p xs) (filter p (map g xs)) (p x) (filter-map p g h xs)

pub map-map_same : {X Y : Type 0} (f : X → Y) (g : X → X) → ((x : X) → f (g x) ≡ f x) → (xs : List X) → map f (map g xs) ≡ map f xs
map-map_same f g h [] = refl
map-map_same f g h (x ∷ xs) = ap (λ y. y ∷ map f (map g xs)) (h x) ∙ ap (λ ys. f x ∷ ys) (map-map_same f g h xs)

-- two tests in either order
turned_at : {X : Type 0} (p q : X → Bool) (x : X) (xs ys zs : List X) (b c : Bool) → p x ≡ b → q x ≡ c → filter p ys ≡ filter q zs → filter p (cond c (x ∷ ys) ys) ≡ filter q (cond b (x ∷ zs) zs)
turned_at p q x xs ys zs true true i j h = passing p x ys i ∙ (ap (λ ws. x ∷ ws) h ∙ sym (passing q x zs j))
turned_at p q x xs ys zs false true i j h = ap (λ b. cond b (x ∷ filter p ys) (filter p ys)) i ∙ h
turned_at p q x xs ys zs true false i j h = h ∙ sym (ap (λ b. cond b (x ∷ filter q zs) (filter q zs)) j)
turned_at p q x xs ys zs false false i j h = h

pub filters_turned : {X : Type 0} (p q : X → Bool) (xs : List X) → filter p (filter q xs) ≡ filter q (filter p xs)
filters_turned p q [] = refl
filters_turned p q (x ∷ xs) = turned_at p q x xs (filter q xs) (filter p xs) (p x) (q x) refl refl (filters_turned p q xs)
