-- A tree whose slots are a table's.
use Rattle.std.proofs.Common.{◌≡◌, ℕ, ◌+◌, ◌-◌, ◌<◌, ◌≤◌, ◌==◌, not, true, false, List, [], length, refl, sym, ◌∙◌, ap, subst, Some, None, Option}
use Rattle.fsrm_model.specs.declared.row.Capacity.{Capacity}
use Rattle.fsrm_model.specs.declared.row.NodeRow.{NodeRow}
use Rattle.fsrm_base.specs.Keyed.{has_row, with_change, with_row, without_row}
use Rattle.fsrm_base.specs.Numbers.{with_number, without_number}
use Rattle.fsrm_model.specs.nodes.FileOps.{placed}
use Rattle.fsrm_model.specs.nodes.Tree.{number, fresh, name_of}
use Rattle.fsrm_model.specs.store.Capacities.{is_capacity}
use Rattle.fsrm_model.specs.store.Valid.{IsVolume}
use Rattle.fsrm_base.proofs.TestLaws.{both, le_is}
use Rattle.number_set.specs.Numbers.{Numbers}
use Rattle.node_table.specs.Slots.{slot_at, with_change_at, with_slot}
use Rattle.node_table.specs.Table.{Table}
use Rattle.node_table.proofs.PlaceLaws.{length-with_at}
use Rattle.node_order.proofs.SlotLaws.{changed, filled, length_kept, nothing_in, rows_gone, rows_put, slots_with}
use Rattle.volume_tree.specs.Kept.{rows_of, IsHeld}
use Rattle.volume_tree.specs.Late.{IsRegister}
use Rattle.volume_tree.specs.Volume.{Volume}
use Rattle.volume_tree.specs.declared.register.Register.{Register}
use Rattle.volume_tree.proofs.kept.KeptLaws.{kept_gone, kept_made, kept_moved, kept_settled}
use Rattle.volume_tree.proofs.slotted.FreshLaws.{fresh_free}

abbrev pub volume : Capacity → List NodeRow → Volume
volume K nodes = record { size = K; nodes = nodes }

pub nodes_least : (K : Capacity) → is_capacity K ≡ true → 2 ≤ K.nodes
nodes_least K h = le_is 2 K.nodes (both _ _ (both _ _ h).0).0

-- the slot of the least free number is empty
pub fresh_empty : (K : Capacity) (count used : ℕ) (holes : Numbers) (table : Table) (register : Register) (n : ℕ) → IsHeld K count used holes table register → n ≡ fresh (rows_of table.slots) → has_row number n (rows_of table.slots) ≡ false
fresh_empty K count used holes table register n h is = ap (λ k. has_row number k (rows_of table.slots)) is ∙ fresh_free (rows_of table.slots) h.kept.volume.ascending

-- a table with a new row
abbrev pub made_table : Table → NodeRow → Table
made_table table row = record table { slots = with_slot table.slots row.number (Some row) }

pub made_rows : (K : Capacity) (count used : ℕ) (holes : Numbers) (table : Table) (register : Register) (row : NodeRow) → IsHeld K count used holes table register → row.number ≡ fresh (rows_of table.slots) → rows_of (made_table table row).slots ≡ with_row number row (rows_of table.slots)
made_rows K count used holes table register row h is =
    let slots = table.slots in
    rows_put slots row h.kept.slots_are (nothing_in row.number slots h.kept.slots_are (fresh_empty K count used holes table register row.number h is))

-- one more node is held
pub held_made : (K : Capacity) (count used : ℕ) (holes : Numbers) (table : Table) (register more : Register) (row : NodeRow) → IsHeld K count used holes table register → row.number ≡ fresh (rows_of table.slots) → IsVolume K (with_row number row (rows_of table.slots)) → IsRegister (rows_of (made_table table row).slots) [] more → more.order.room ≡ register.order.room → IsHeld K (count + 1) (used + length row.name) (record holes { members = without_number row.number holes.members }) (made_table table row) more
held_made K count used holes table register more row h is volume entered room =
    let slots = table.slots in
    record {
      nodes_are = h.nodes_are;
      names_are = h.names_are;
      kept = kept_made K count used holes slots (with_slot slots row.number (Some row)) register more row h.kept is volume (slots_with row.number slots (Some row) h.kept.slots_are refl) (made_rows K count used holes table register row h is) (length-with_at {X = Option NodeRow} None slots row.number (Some row)) entered room;
    }

-- a node less is held
abbrev pub gone_table : Table → ℕ → Table
gone_table table n = record table { slots = with_slot table.slots n None }

pub held_gone : (K : Capacity) (count used : ℕ) (holes : Numbers) (table : Table) (register less : Register) (n : ℕ) → IsHeld K count used holes table register → has_row number n (rows_of table.slots) ≡ true → IsVolume K (without_row number n (rows_of table.slots)) → IsRegister (rows_of (gone_table table n).slots) [] less → less.order.room ≡ register.order.room → IsHeld K (count - 1) (used - length (name_of (rows_of table.slots) n)) (record holes { members = with_number n holes.members }) (gone_table table n) less
held_gone K count used holes table register less n h has volume left room =
    let slots = table.slots in
    let a = h.kept.slots_are in
    let within = (filled slots n a has).within in
    record {
      nodes_are = h.nodes_are;
      names_are = h.names_are;
      kept = kept_gone K count used holes slots (with_slot slots n None) register less n h.kept has volume (slots_with n slots None a tt) (rows_gone n slots a) (length_kept n slots None within) left room;
    }

-- a node at another place is held
abbrev pub moved_table : Table → ℕ → ℕ → List ℕ → Table
moved_table table n folder name = record table { slots = with_change_at table.slots n (placed folder name) }

pub held_moved : (K : Capacity) (count used now : ℕ) (holes : Numbers) (table : Table) (register moved : Register) (n folder : ℕ) (name : List ℕ) → IsHeld K count used holes table register → has_row number n (rows_of table.slots) ≡ true → IsVolume K (with_change number n (placed folder name) (rows_of table.slots)) → now + length (name_of (rows_of table.slots) n) ≡ used + length name → IsRegister (rows_of (moved_table table n folder name).slots) [] moved → moved.order.room ≡ register.order.room → IsHeld K count now holes (moved_table table n folder name) moved
held_moved K count used now holes table register moved n folder name h has volume bytes entered room =
    let slots = table.slots in
    let new = changed slots n (placed folder name) h.kept.slots_are has (λ r. refl) in
    record {
      nodes_are = h.nodes_are;
      names_are = h.names_are;
      kept = kept_moved K count used now holes slots (with_change_at slots n (placed folder name)) register moved n folder name h.kept has volume bytes new.slots_are new.rows_are new.size entered room;
    }

-- a tree that is arranged is held
pub held_settled : (K : Capacity) (count used : ℕ) (holes : Numbers) (table : Table) (register arranged : Register) → IsHeld K count used holes table register → IsRegister (rows_of table.slots) [] arranged → arranged.order.room ≡ register.order.room → IsHeld K count used holes table arranged
held_settled K count used holes table register arranged h is room =
    record { nodes_are = h.nodes_are; names_are = h.names_are; kept = kept_settled K count used holes table.slots register arranged h.kept is room }
