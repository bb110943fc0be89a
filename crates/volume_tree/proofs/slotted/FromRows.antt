-- A table of rows that are read one after another.
use Rattle.std.proofs.Common.{◌≡◌, ℕ, zero, suc, Bool, ◌+◌, ◌<◌, ◌≤◌, true, false, List, [], ◌∷◌, ◌++◌, length, take, drop, get_or, refl, sym, ◌∙◌, ap, arith, Some, None, Option, Err, Result}
use Rattle.std.specs.List.{list_all}
use Rattle.std.specs.Result.{IsErrOf}
use Rattle.std.proofs.lemmas.List.{drop_more, get_or_past, take_more}
use Rattle.std.proofs.lemmas.List.Sums.{sum_by-take-le, sum_by_push}
use Rattle.std.specs.Prelude.{is_some}
use Rattle.fsrm_base.proofs.TestLaws.{both, le_is, lt_is}
use Rattle.fsrm_model.specs.declared.row.NodeRow.{NodeRow}
use Rattle.fsrm_model.specs.nodes.Tree.{name_bytes}
use Rattle.node_table.specs.Slots.{rows_of, AreSlots, is_taken, with_slot}
use Rattle.node_table.specs.Views.{IsInRange}
use Rattle.node_table.proofs.PlaceLaws.{length-with_at}
use Rattle.volume_tree.specs.Sound.{are_from, is_in_range}
use Rattle.volume_tree.proofs.kept.Sound.{from_parts}
use Rattle.node_order.proofs.SlotLaws.{slots_with}

-- an error that is passed on
pub passed_on : {A B E : Type 0} (r : Result B E) (y fault due : E) → IsErrOf r due → r ≡ Err y → y ≡ fault → IsErrOf {T = A} (Err fault) due
passed_on {A} {B} {E} r y fault due e h is =
    let same : fault ≡ due = cc in
    let error : E → Result A E = λ f. Err f in
    ap error same

-- a row after all others
later : (slots : List (Option NodeRow)) (n : ℕ) (row : NodeRow) → length slots ≤ n → rows_of (with_slot slots n (Some row)) ≡ rows_of slots ++ row ∷ []
later [] zero row h = refl
later [] (suc n) row h = later [] n row (omega arith)
later (None ∷ slots) zero row h = absurd (omega arith)
later (None ∷ slots) (suc n) row h = later slots n row (omega arith)
later (Some r ∷ slots) zero row h = absurd (omega arith)
later (Some r ∷ slots) (suc n) row h = ap (λ rows. r ∷ rows) (later slots n row (omega arith))

passes_from : {X : Type 0} (p : X → Bool) (xs : List X) (i : ℕ) (d : X) → i < length xs → list_all p xs ≡ true → p (get_or xs i d) ≡ true
passes_from p [] i d l h = absurd (omega arith)
passes_from p (x ∷ xs) zero d l h = (both (p x) (list_all p xs) h).0
passes_from p (x ∷ xs) (suc i) d l h = passes_from p xs i d (omega arith) (both (p x) (list_all p xs) h).1

-- what is known of the next row, when those before it are in slots
pub record IsNext (bound names : ℕ) (slots : List (Option NodeRow)) (rows : List NodeRow) (i : ℕ) (row : NodeRow) : Type 0 where
  pub later_is : length slots ≤ row.number
  pub below : row.number < bound
  pub empty : is_taken slots row.number ≡ false
  pub room : name_bytes (take i rows) + length row.name ≤ names
  pub range : IsInRange row
  pub slots_are : AreSlots 0 (with_slot slots row.number (Some row))
  pub rows_are : rows_of (with_slot slots row.number (Some row)) ≡ take (i + 1) rows
  pub rest : are_from (length (with_slot slots row.number (Some row))) bound (drop (i + 1) rows) ≡ true
  pub fit : length (with_slot slots row.number (Some row)) ≤ bound

in_range : (row : NodeRow) → is_in_range row ≡ true → IsInRange row
in_range row h =
    let a = both _ _ h in
    let b = both _ _ a.1 in
    let d = both _ _ b.1 in
    record { bytes = le_is _ _ a.0; created_at = le_is _ _ b.0; modified_at = le_is _ _ d.0; accessed_at = le_is _ _ d.1 }

pub next_row : (bound names : ℕ) (slots : List (Option NodeRow)) (rows : List NodeRow) (i : ℕ) (row : NodeRow) → i < length rows → row ≡ get_or rows i row → AreSlots 0 slots → rows_of slots ≡ take i rows → are_from (length slots) bound (drop i rows) ≡ true → list_all is_in_range rows ≡ true → name_bytes rows ≤ names → IsNext bound names slots rows i row
next_row bound names slots rows i row within is are taken rest range fits =
    let here : drop i rows ≡ row ∷ drop (i + 1) rows = drop_more rows i row within ∙ ap (λ r. r ∷ drop (i + 1) rows) (sym is) in
    let parts = from_parts (length slots) bound row (drop (i + 1) rows) (sym (ap (are_from (length slots) bound) here) ∙ rest) in
    let least = parts.least in
    let below : row.number < bound = lt_is row.number bound parts.below in
    let more : take (i + 1) rows ≡ take i rows ++ row ∷ [] = take_more rows i row within ∙ ap (λ r. take i rows ++ r ∷ []) (sym is) in
    let size : length (with_slot slots row.number (Some row)) ≡ suc row.number = omega (arith, least, length-with_at {X = Option NodeRow} None slots row.number (Some row)) in
    let bytes = ap name_bytes more in
    record {
      later_is = least;
      below = below;
      empty = ap is_some (get_or_past slots row.number None least);
      room = omega (arith, fits, bytes, sum_by_push (λ (r : NodeRow). length r.name) (take i rows) row, sum_by-take-le (λ (r : NodeRow). length r.name) rows (i + 1));
      range = in_range row (ap is_in_range is ∙ passes_from is_in_range rows i row within range);
      slots_are = slots_with row.number slots (Some row) are refl;
      rows_are = later slots row.number row least ∙ (ap (λ rs. rs ++ row ∷ []) taken ∙ sym more);
      rest = ap (λ n. are_from n bound (drop (i + 1) rows)) size ∙ parts.rest;
      fit = omega (arith, size, below);
    }
