-- Where the entries of lower folders end.
use Rattle.std.proofs.Common.{◌≡◌, ℕ, ◌+◌, ◌-◌, ◌<◌, ◌≤◌, inl, inr, List, [], length, slice_get, Some, None, sym, ◌∙◌, subst, arith}
use Rattle.std.proofs.lemmas.Bool.{cases_lt}
use Rattle.std.proofs.lemmas.List.Elements.{All-contains}
use Rattle.std.proofs.lemmas.Option.{slice_get-get_or}
use Rattle.fsrm_model.specs.declared.row.NodeRow.{NodeRow}
use Rattle.block_list.specs.Runs.{entries_of, start_of}
use Rattle.node_order.specs.Entries.{AreOwn, IsFirst, IsLower, IsNotLower, IsOwn, Sequence}
use Rattle.node_order.specs.Order.{IsFloor, IsListed, IsPlace}
use Rattle.node_order.proofs.Halving.{lower_before, upper_stays}
use Rattle.node_order.proofs.Spans.{floor_first, floor_past, place_none, place_some}

-- after an entry of a lower folder there is a floor
floor_lower : (nodes : List NodeRow) (order : Sequence) (folder k : ℕ) → IsListed nodes (entries_of order.runs) → AreOwn nodes order → IsLower order folder k → IsFloor nodes (entries_of order.runs) folder [] (k + 1)
floor_lower nodes order folder k h own e =
    let is = All-contains (IsOwn nodes) order.entries e.entry own.each e.listed in
    let less = e.lower in
    let parent = is.parent_is in
    floor_past nodes (entries_of order.runs) folder [] k e.entry.node is.row h e.at is.found (sym (lower_before is.row folder (omega (arith, less, parent))))

floor_on : (nodes : List NodeRow) (order : Sequence) (folder i j : ℕ) → IsListed nodes (entries_of order.runs) → AreOwn nodes order → IsFloor nodes (entries_of order.runs) folder [] i → i ≤ j → (i < j → IsLower order folder (j - 1)) → IsFloor nodes (entries_of order.runs) folder [] j
floor_on nodes order folder i j h own f l e =
    elim (cases_lt i j) [
      | inl m ↦
          let is : j - 1 + 1 ≡ j = omega arith in
          subst (IsFloor nodes (entries_of order.runs) folder []) is (floor_lower nodes order folder (j - 1) h own (e m))
      | inr m ↦ let is : i ≡ j = omega arith in subst (IsFloor nodes (entries_of order.runs) folder []) is f
    ]

-- it is the place from which the folders are the greater ones, if no lower one stands there
place_on : (nodes : List NodeRow) (order : Sequence) (folder k : ℕ) → IsListed nodes (entries_of order.runs) → AreOwn nodes order → IsFloor nodes (entries_of order.runs) folder [] k → (k < length (entries_of order.runs) → IsNotLower order folder k) → IsPlace nodes (entries_of order.runs) folder [] k
place_on nodes order folder k h own f e =
    elim (cases_lt k (length (entries_of order.runs))) [
      | inl m ↦
          let at = e m in
          let is = All-contains (IsOwn nodes) order.entries at.entry own.each at.listed in
          let most = at.other in
          let parent = is.parent_is in
          place_some nodes (entries_of order.runs) folder [] k at.entry.node is.row h f at.at is.found (sym (upper_stays is.row folder (omega (arith, most, parent))))
      | inr m ↦ let within = f.within in place_none nodes (entries_of order.runs) folder [] k f (omega arith)
    ]

-- such a place is that of the empty name
pub place_first : (nodes : List NodeRow) (order : Sequence) (folder k : ℕ) → IsListed nodes (entries_of order.runs) → AreOwn nodes order → IsFirst order folder k → IsPlace nodes (entries_of order.runs) folder [] k
place_first nodes order folder k h own f =
    place_on nodes order folder k h own (floor_on nodes order folder 0 k h own (floor_first nodes (entries_of order.runs) folder []) (omega arith) f.lower) f.other

-- so many runs from one on, in front of which the last run begins with an entry of a lower folder, and after which the next one doesn't
pub record AreLowerLeft (order : Sequence) (folder low size : ℕ) : Type 0 where
  pub within : low + size ≤ length order.runs
  pub lower : (run : ℕ) → run + 1 ≡ low → IsLower order folder (start_of order.runs run)
  pub other : low + size < length order.runs → IsNotLower order folder (start_of order.runs (low + size))

-- something stands before the end
pub none_past : (xs : List ℕ) (k : ℕ) → slice_get xs k ≡ None → k < length xs → ⊥
none_past xs k e l = no _ (sym e ∙ slice_get-get_or xs k 0 l)
  where
    no : (n : ℕ) → None ≡ Some n → ⊥
    no n e = cc
