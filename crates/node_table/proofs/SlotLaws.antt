-- What is in the slots that rows and names stand for.
use Rattle.std.proofs.Common.{◌≡◌, ◌≢◌, ℕ, zero, suc, ◌+◌, ◌<◌, Bool, true, false, not, cond, List, [], ◌∷◌, ◌++◌, length, take, Option, Some, None, refl, sym, ◌∙◌, ap, inl, inr, arith}
use Rattle.std.specs.Prelude.{is_some, option_map}
use Rattle.std.proofs.lemmas.Bool.{cases_eq, cases_lt, not-true}
use Rattle.std.proofs.lemmas.List.{append-nil, ext_get_or, get_or_past, take_more}
use Rattle.fsrm_model.specs.declared.row.NodeRow.{NodeRow}
use Rattle.name_region.specs.Contents.{Contents}
use Rattle.node_table.specs.declared.row.Row.{Row}
use Rattle.node_table.specs.Kept.{name_under, slot_in, slots_in}
use Rattle.node_table.specs.Rows.{empty_row, is_empty, key_of, row_at, row_in}
use Rattle.node_table.specs.Slots.{is_taken, rows_of, slot_at, with_at, with_slot}
use Rattle.node_table.proofs.PlaceLaws.{length-with_at, at_same, at_other}

pub length-slots_in : (n : ℕ) (rs : List Row) (c : Contents) → length (slots_in n rs c) ≡ length rs
length-slots_in n [] c = refl
length-slots_in n (r ∷ rs) c = ap suc (length-slots_in (suc n) rs c)

in_slot_from : (m n : ℕ) (rs : List Row) (c : Contents) → slot_at (slots_in m rs c) n ≡ slot_in (m + n) (row_at rs n) c
in_slot_from m zero [] c = refl
in_slot_from m (suc n) [] c = refl
in_slot_from m zero (r ∷ rs) c = let i : m ≡ m + zero = omega arith in ap (λ k. slot_in k r c) i
in_slot_from m (suc n) (r ∷ rs) c = let i : suc m + n ≡ m + suc n = omega arith in in_slot_from (suc m) n rs c ∙ ap (λ k. slot_in k (row_at rs n) c) i

-- what is in a slot
pub in_slot : (n : ℕ) (rs : List Row) (c : Contents) → slot_at (slots_in 0 rs c) n ≡ slot_in n (row_at rs n) c
in_slot n rs c = let i : 0 + n ≡ n = omega arith in in_slot_from 0 n rs c ∙ ap (λ k. slot_in k (row_at rs n) c) i

-- the slots with another row, and with names of which no other row has another
module _ (rs : List Row) (n : ℕ) (r : Row) (old new : Contents) (same : (j : ℕ) → j ≢ n → slot_in j (row_at rs j) new ≡ slot_in j (row_at rs j) old) where
  made : List (Option NodeRow)
  made = slots_in 0 (with_at empty_row rs n r) new

  wanted : List (Option NodeRow)
  wanted = with_slot (slots_in 0 rs old) n (slot_in n r new)

  as_long : length made ≡ length wanted
  unfolding made wanted
  as_long = omega (arith, length-slots_in 0 (with_at empty_row rs n r) new, length-with_at empty_row rs n r, length-slots_in 0 rs old, length-with_at {X = Option NodeRow} None (slots_in 0 rs old) n (slot_in n r new))

  alike : (j : ℕ) → slot_at made j ≡ slot_at wanted j
  unfolding made wanted
  alike j =
      elim (cases_eq j n) [
        | inl here ↦
            in_slot j (with_at empty_row rs n r) new
            ∙ (ap (λ k. slot_in k (row_at (with_at empty_row rs n r) k) new) here
            ∙ (ap (λ (x : Row). slot_in n x new) (at_same empty_row rs n r)
            ∙ sym (ap (slot_at (with_slot (slots_in 0 rs old) n (slot_in n r new))) here ∙ at_same {X = Option NodeRow} None (slots_in 0 rs old) n (slot_in n r new))))
        | inr ne ↦
            in_slot j (with_at empty_row rs n r) new
            ∙ (ap (λ (x : Row). slot_in j x new) (at_other empty_row rs n j r ne)
            ∙ (same j ne ∙ sym (at_other {X = Option NodeRow} None (slots_in 0 rs old) n j (slot_in n r new) ne ∙ in_slot j rs old)))
      ]

  pub slots-with_at : slots_in 0 (with_at empty_row rs n r) new ≡ with_slot (slots_in 0 rs old) n (slot_in n r new)
  unfolding made wanted
  slots-with_at = ext_get_or None made wanted as_long (λ j _. alike j)

-- ---- slots with rows
some_if : {A B : Type 0} (b : Bool) (f : A → B) (x : A) → is_some (option_map f (cond b None (Some x))) ≡ not b
some_if true f x = refl
some_if false f x = refl

pub taken_is : (n : ℕ) (rs : List Row) (c : Contents) → is_taken (slots_in 0 rs c) n ≡ not (is_empty (row_at rs n))
taken_is n rs c =
    let row = row_at rs n in
    ap is_some (in_slot n rs c) ∙ some_if (is_empty row) (λ key. row_in n row (name_under c key)) row.name

pub none_if : (o : Option NodeRow) → is_some o ≡ false → o ≡ None
none_if None h = refl
none_if (Some row) h = absurd (cc h)

pub nothing_at : (n : ℕ) (rs : List Row) (c : Contents) → is_taken (slots_in 0 rs c) n ≡ false → slot_at (slots_in 0 rs c) n ≡ None
nothing_at n rs c free = none_if (slot_at (slots_in 0 rs c) n) free

pub not_empty : (n : ℕ) (rs : List Row) (c : Contents) → is_taken (slots_in 0 rs c) n ≡ true → is_empty (row_at rs n) ≡ false
not_empty n rs c taken = not-true (is_empty (row_at rs n)) (sym (taken_is n rs c) ∙ taken)

pub key_is : (r : Row) → is_empty r ≡ false → key_of r ≡ Some r.name
key_is r taken = ap (λ b. cond b None (Some r.name)) taken

pub slot_with : (n k : ℕ) (r : Row) (c : Contents) → key_of r ≡ Some k → slot_in n r c ≡ Some (row_in n r (name_under c k))
slot_with n k r c own = ap (option_map (λ key. row_in n r (name_under c key))) own

pub slot_of : (n : ℕ) (rs : List Row) (c : Contents) → is_empty (row_at rs n) ≡ false → slot_at (slots_in 0 rs c) n ≡ Some (row_in n (row_at rs n) (name_under c (row_at rs n).name))
slot_of n rs c taken = in_slot n rs c ∙ slot_with n (row_at rs n).name (row_at rs n) c (key_is (row_at rs n) taken)

pub within_rows : (rs : List Row) (n : ℕ) → is_empty (row_at rs n) ≡ false → n < length rs
within_rows rs n taken =
    elim (cases_lt n (length rs)) [
      | inl within ↦ within
      | inr past ↦ absurd (let clash : true ≡ false = sym (ap is_empty (get_or_past rs n empty_row past)) ∙ taken in cc clash)
    ]

-- ---- the rows of the first slots
rows_of-append : (xs ys : List (Option NodeRow)) → rows_of (xs ++ ys) ≡ rows_of xs ++ rows_of ys
rows_of-append [] ys = refl
rows_of-append (None ∷ xs) ys = rows_of-append xs ys
rows_of-append (Some row ∷ xs) ys = ap (λ rows. row ∷ rows) (rows_of-append xs ys)

pub rows_more : (slots : List (Option NodeRow)) (n : ℕ) (slot : Option NodeRow) → n < length slots → slot_at slots n ≡ slot → rows_of (take (n + 1) slots) ≡ rows_of (take n slots) ++ rows_of (slot ∷ [])
rows_more slots n slot within is =
    ap rows_of (take_more slots n None within) ∙ (ap (λ s. rows_of (take n slots ++ s ∷ [])) is ∙ rows_of-append (take n slots) (slot ∷ []))

pub none_more : (slots : List (Option NodeRow)) (n : ℕ) → n < length slots → slot_at slots n ≡ None → rows_of (take (n + 1) slots) ≡ rows_of (take n slots)
none_more slots n within is = rows_more slots n None within is ∙ append-nil (rows_of (take n slots))
