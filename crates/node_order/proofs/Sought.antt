-- What is left of a search for a place after a look at the middle.
use Rattle.std.proofs.Common.{◌≡◌, ℕ, ◌+◌, ◌-◌, ◌/◌, ◌<◌, ◌≤◌, Bool, true, false, List, length, slice_get, Some, sym, subst, arith}
use Rattle.std.proofs.lemmas.Option.{slice_get_within}
use Rattle.fsrm_model.specs.declared.row.NodeRow.{NodeRow}
use Rattle.fsrm_model.specs.nodes.Tree.{node_of}
use Rattle.block_list.specs.Runs.{entries_of, start_of}
use Rattle.node_order.specs.Order.{IsCeiling, IsFloor, IsListed, IsPlace, is_before}
use Rattle.node_order.proofs.Narrowed.{Passes}
use Rattle.node_order.proofs.Runs.{run_past, starts_rise}
use Rattle.node_order.proofs.Spans.{after_here, beyond_last, floor_past}

-- the end, what doesn't come before the name, and a later place
pub ceiling_last : (nodes : List NodeRow) (order : List ℕ) (folder : ℕ) (name : List ℕ) (place : ℕ) → place ≡ length order → IsCeiling nodes order folder name place
ceiling_last nodes order folder name place is = let b = beyond_last nodes order folder name place is in record { within = b.within; after = b.after }

pub ceiling_here : (nodes : List NodeRow) (order : List ℕ) (folder : ℕ) (name : List ℕ) (k n : ℕ) (row : NodeRow) → IsListed nodes order → slice_get order k ≡ Some n → node_of nodes n ≡ Some row → is_before row folder name ≡ false → IsCeiling nodes order folder name k
ceiling_here nodes order folder name k n row h e f t =
    let inside = slice_get_within order k n e in
    record { within = omega arith; after = after_here nodes order folder name k n row h e f t }

pub ceiling_after : (nodes : List NodeRow) (order : List ℕ) (folder : ℕ) (name : List ℕ) (k j : ℕ) → k ≤ j → j ≤ length order → IsCeiling nodes order folder name k → IsCeiling nodes order folder name j
ceiling_after nodes order folder name k j l m c = record { within = m; after = λ i n row p. c.after i n row (omega arith) }

-- a floor that is a ceiling is the place
pub place_between : (nodes : List NodeRow) (order : List ℕ) (folder : ℕ) (name : List ℕ) (place : ℕ) → IsFloor nodes order folder name place → IsCeiling nodes order folder name place → IsPlace nodes order folder name place
place_between nodes order folder name place f c = record { within = f.within; before = f.before; after = c.after }

-- so many runs from one on, in front of which the runs begin before the name's place, and behind which no entry does
pub record AreRunsSought (nodes : List NodeRow) (runs : List (List ℕ)) (folder : ℕ) (name : List ℕ) (low size : ℕ) : Type 0 where
  pub within : low + size ≤ length runs
  pub floor : (run : ℕ) → run + 1 ≡ low → IsFloor nodes (entries_of runs) folder name (start_of runs run + 1)
  pub ceiling : IsCeiling nodes (entries_of runs) folder name (start_of runs (low + size))

pub runs_sought : (nodes : List NodeRow) (runs : List (List ℕ)) (folder : ℕ) (name : List ℕ) (low size passed n : ℕ) (before : Bool) (row : NodeRow) → IsListed nodes (entries_of runs) → AreRunsSought nodes runs folder name low size → 0 < size → slice_get (entries_of runs) (start_of runs (low + (size - 1) / 2)) ≡ Some n → node_of nodes n ≡ Some row → before ≡ is_before row folder name → Passes before size passed → AreRunsSought nodes runs folder name (low + passed) (size / 2)
runs_sought nodes runs folder name low size passed n true row o h s at found t p =
    let same : low + size ≡ low + passed + size / 2 = omega (arith, p) in
    record {
      within = omega (arith, same, h.within);
      floor = λ run e. run_past nodes runs folder name (low + (size - 1) / 2) n row o at found (sym t) run (omega (arith, e, p, s));
      ceiling = subst (λ k. IsCeiling nodes (entries_of runs) folder name (start_of runs k)) same h.ceiling;
    }
runs_sought nodes runs folder name low size passed n false row o h s at found t p =
    let same : low + size / 2 ≡ low + passed + size / 2 = omega (arith, p) in
    let middle = low + (size - 1) / 2 in
    let next = starts_rise runs middle (low + size / 2) (omega (arith, s)) in
    let end = starts_rise runs (low + size / 2) (low + size) (omega arith) in
    let whole = h.ceiling.within in
    record {
      within = omega (arith, same, h.within, s);
      floor = λ run e. h.floor run (omega (arith, e, p));
      ceiling = subst (λ k. IsCeiling nodes (entries_of runs) folder name (start_of runs k)) same
          (ceiling_after nodes (entries_of runs) folder name (start_of runs middle) (start_of runs (low + size / 2)) next (omega (arith, end, whole))
          (ceiling_here nodes (entries_of runs) folder name (start_of runs middle) n row o at found (sym t)));
    }

-- so many entries of a run that begins at a place and has so many in all
pub record AreEntriesSought (nodes : List NodeRow) (order : List ℕ) (folder : ℕ) (name : List ℕ) (start count low size : ℕ) : Type 0 where
  pub within : low + size ≤ count
  pub floor : IsFloor nodes order folder name (start + low)
  pub ceiling : IsCeiling nodes order folder name (start + (low + size))

pub entries_sought : (nodes : List NodeRow) (order : List ℕ) (folder : ℕ) (name : List ℕ) (start count low size passed n : ℕ) (before : Bool) (row : NodeRow) → IsListed nodes order → AreEntriesSought nodes order folder name start count low size → 0 < size → slice_get order (start + (low + (size - 1) / 2)) ≡ Some n → node_of nodes n ≡ Some row → before ≡ is_before row folder name → Passes before size passed → AreEntriesSought nodes order folder name start count (low + passed) (size / 2)
entries_sought nodes order folder name start count low size passed n true row o h s at found t p =
    let same : low + size ≡ low + passed + size / 2 = omega (arith, p) in
    let next : start + (low + (size - 1) / 2) + 1 ≡ start + (low + passed) = omega (arith, p, s) in
    record {
      within = omega (arith, same, h.within);
      floor = subst (IsFloor nodes order folder name) next (floor_past nodes order folder name (start + (low + (size - 1) / 2)) n row o at found (sym t));
      ceiling = subst (λ k. IsCeiling nodes order folder name (start + k)) same h.ceiling;
    }
entries_sought nodes order folder name start count low size passed n false row o h s at found t p =
    let same : low + size / 2 ≡ low + passed + size / 2 = omega (arith, p) in
    let stays : low ≡ low + passed = omega (arith, p) in
    let middle = start + (low + (size - 1) / 2) in
    let whole = h.ceiling.within in
    record {
      within = omega (arith, same, h.within, s);
      floor = subst (λ k. IsFloor nodes order folder name (start + k)) stays h.floor;
      ceiling = subst (λ k. IsCeiling nodes order folder name (start + k)) same
          (ceiling_after nodes order folder name middle (start + (low + size / 2)) (omega (arith, s)) (omega (arith, whole)) (ceiling_here nodes order folder name middle n row o at found (sym t)));
    }
