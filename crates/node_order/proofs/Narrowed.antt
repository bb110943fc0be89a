-- What is left of a search after a look at the middle.
use Rattle.std.proofs.Common.{◌≡◌, ℕ, ◌+◌, ◌-◌, ◌/◌, ◌<◌, ◌≤◌, Bool, true, false, List, length, slice_get, Some, sym, subst, arith}
use Rattle.std.specs.Prelude.{if◌then◌else◌}
use Rattle.fsrm_model.specs.declared.row.NodeRow.{NodeRow}
use Rattle.fsrm_model.specs.nodes.Tree.{node_of}
use Rattle.block_list.specs.Runs.{entries_of, start_of}
use Rattle.node_order.specs.Order.{IsBeyond, IsFloor, IsListed, is_before, is_named}
use Rattle.node_order.proofs.Halving.{IsFew, few_halved}
use Rattle.node_order.proofs.Runs.{run_past, starts_rise}
use Rattle.node_order.proofs.Spans.{beyond_after, beyond_here, floor_past}

abbrev pub Passes : Bool → ℕ → ℕ → Type 0
Passes before size passed = passed ≡ (if before then size - size / 2 else 0)

-- what is passed and what is left then aren't more than there were
pub passed_within : (before : Bool) (size passed : ℕ) → Passes before size passed → passed + size / 2 ≤ size
passed_within true size passed p = omega (arith, p)
passed_within false size passed p = omega (arith, p)

-- so many runs from one on, in front of which the runs begin before the name's place, and behind which no entry does
pub record AreRunsLeft (nodes : List NodeRow) (runs : List (List ℕ)) (folder : ℕ) (name : List ℕ) (begun low size looks : ℕ) : Type 0 where
  pub within : low + size ≤ length runs
  pub floor : (run : ℕ) → run + 1 ≡ low → IsFloor nodes (entries_of runs) folder name (start_of runs run + 1)
  pub beyond : IsBeyond nodes (entries_of runs) folder name (start_of runs (low + size))
  pub few : IsFew (begun + 14) size looks
  pub fewer : length runs < 8192 → IsFew (begun + 13) size looks
  pub least : begun ≤ looks
  pub some : size < length runs → begun + 1 ≤ looks

pub runs_left : (nodes : List NodeRow) (runs : List (List ℕ)) (folder : ℕ) (name : List ℕ) (begun low size looks passed n : ℕ) (before : Bool) (row : NodeRow) → IsListed nodes (entries_of runs) → AreRunsLeft nodes runs folder name begun low size looks → 0 < size → slice_get (entries_of runs) (start_of runs (low + (size - 1) / 2)) ≡ Some n → node_of nodes n ≡ Some row → before ≡ is_before row folder name → is_named row folder name ≡ false → Passes before size passed → AreRunsLeft nodes runs folder name begun (low + passed) (size / 2) (looks + 1)
runs_left nodes runs folder name begun low size looks passed n true row o h s at found t u p =
    let same : low + size ≡ low + passed + size / 2 = omega (arith, p) in
    record {
      within = omega (arith, same, h.within);
      floor = λ run e. run_past nodes runs folder name (low + (size - 1) / 2) n row o at found (sym t) run (omega (arith, e, p, s));
      beyond = subst (λ k. IsBeyond nodes (entries_of runs) folder name (start_of runs k)) same h.beyond;
      few = few_halved (begun + 14) size looks h.few s;
      fewer = λ l. few_halved (begun + 13) size looks (h.fewer l) s;
      least = omega (arith, h.least);
      some = λ _. omega (arith, h.least);
    }
runs_left nodes runs folder name begun low size looks passed n false row o h s at found t u p =
    let same : low + size / 2 ≡ low + passed + size / 2 = omega (arith, p) in
    let middle = low + (size - 1) / 2 in
    let next = starts_rise runs middle (low + size / 2) (omega (arith, s)) in
    let end = starts_rise runs (low + size / 2) (low + size) (omega arith) in
    let whole = h.beyond.within in
    record {
      within = omega (arith, same, h.within, s);
      floor = λ run e. h.floor run (omega (arith, e, p));
      beyond = subst (λ k. IsBeyond nodes (entries_of runs) folder name (start_of runs k)) same
          (beyond_after nodes (entries_of runs) folder name (start_of runs middle) (start_of runs (low + size / 2)) next (omega (arith, end, whole))
          (beyond_here nodes (entries_of runs) folder name (start_of runs middle) n row o at found (sym t) u));
      few = few_halved (begun + 14) size looks h.few s;
      fewer = λ l. few_halved (begun + 13) size looks (h.fewer l) s;
      least = omega (arith, h.least);
      some = λ _. omega (arith, h.least);
    }

-- so many entries of a run that begins at a place and has so many in all
pub record AreEntriesLeft (nodes : List NodeRow) (order : List ℕ) (folder : ℕ) (name : List ℕ) (start count begun low size looks : ℕ) : Type 0 where
  pub within : low + size ≤ count
  pub floor : IsFloor nodes order folder name (start + low)
  pub beyond : IsBeyond nodes order folder name (start + (low + size))
  pub few : IsFew (begun + 7) size looks
  pub least : begun ≤ looks

pub entries_left : (nodes : List NodeRow) (order : List ℕ) (folder : ℕ) (name : List ℕ) (start count begun low size looks passed n : ℕ) (before : Bool) (row : NodeRow) → IsListed nodes order → AreEntriesLeft nodes order folder name start count begun low size looks → 0 < size → slice_get order (start + (low + (size - 1) / 2)) ≡ Some n → node_of nodes n ≡ Some row → before ≡ is_before row folder name → is_named row folder name ≡ false → Passes before size passed → AreEntriesLeft nodes order folder name start count begun (low + passed) (size / 2) (looks + 1)
entries_left nodes order folder name start count begun low size looks passed n true row o h s at found t u p =
    let same : low + size ≡ low + passed + size / 2 = omega (arith, p) in
    let next : start + (low + (size - 1) / 2) + 1 ≡ start + (low + passed) = omega (arith, p, s) in
    record {
      within = omega (arith, same, h.within);
      floor = subst (IsFloor nodes order folder name) next (floor_past nodes order folder name (start + (low + (size - 1) / 2)) n row o at found (sym t));
      beyond = subst (λ k. IsBeyond nodes order folder name (start + k)) same h.beyond;
      few = few_halved (begun + 7) size looks h.few s;
      least = omega (arith, h.least);
    }
entries_left nodes order folder name start count begun low size looks passed n false row o h s at found t u p =
    let same : low + size / 2 ≡ low + passed + size / 2 = omega (arith, p) in
    let stays : low ≡ low + passed = omega (arith, p) in
    let middle = start + (low + (size - 1) / 2) in
    let whole = h.beyond.within in
    record {
      within = omega (arith, same, h.within, s);
      floor = subst (λ k. IsFloor nodes order folder name (start + k)) stays h.floor;
      beyond = subst (λ k. IsBeyond nodes order folder name (start + k)) same
          (beyond_after nodes order folder name middle (start + (low + size / 2)) (omega (arith, s)) (omega (arith, whole)) (beyond_here nodes order folder name middle n row o at found (sym t) u));
      few = few_halved (begun + 7) size looks h.few s;
      least = omega (arith, h.least);
    }
