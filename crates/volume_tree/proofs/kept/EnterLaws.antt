-- A node that is made, moved or taken away, between the table and the register.
use Rattle.std.proofs.Common.{◌≡◌, ℕ, ◌+◌, ◌-◌, ◌<◌, ◌≤◌, ◌==◌, not, true, false, List, [], ◌∷◌, length, refl, sym, ◌∙◌, ap, subst, arith, Some, None, Option, option_map}
use Rattle.std.specs.Prelude.{if◌then◌else◌}
use Rattle.std.proofs.lemmas.Option.{same_Some}
use Rattle.fsrm_base.proofs.Look.{found_has, found_key, row_of-change}
use Rattle.fsrm_base.proofs.TestLaws.{eq_same, is_inner}
use Rattle.fsrm_base.specs.Keyed.{has_row, with_change, with_row, without_row}
use Rattle.fsrm_base.specs.Numbers.{without_number}
use Rattle.fsrm_model.specs.declared.row.Capacity.{Capacity}
use Rattle.fsrm_model.specs.declared.row.NodeRow.{NodeRow}
use Rattle.fsrm_model.specs.nodes.FileOps.{placed}
use Rattle.fsrm_model.specs.nodes.Tree.{children, fresh, is_folder, node_of, number}
use Rattle.fsrm_model.specs.store.Valid.{IsVolume, is_own}
use Rattle.number_set.specs.Numbers.{Numbers}
use Rattle.block_list.specs.Runs.{entries_of}
use Rattle.node_table.specs.Slots.{slot_at, with_change_at, with_slot}
use Rattle.node_table.specs.Table.{Table}
use Rattle.node_order.specs.Order.{LacksName, inner}
use Rattle.node_order.proofs.OwnEntries.{new_there}
use Rattle.node_order.proofs.SlotLaws.{changed, row_is, rows_gone, slots_with}
use Rattle.volume_tree.specs.Kept.{AreSlots, IsHeld, rows_of}
use Rattle.volume_tree.specs.Late.{IsRegister}
use Rattle.volume_tree.specs.Volume.{Volume, new_fault}
use Rattle.volume_tree.specs.declared.register.Register.{Register}
use Rattle.volume_tree.proofs.kept.HeldLaws.{fresh_empty, gone_table, held_made, made_rows, made_table, moved_table, volume}
use Rattle.volume_tree.proofs.kept.KeptLaws.{volume_gone, volume_made}
use Rattle.volume_tree.proofs.kept.MakeLaws.{may_make}
use Rattle.volume_tree.proofs.late.Entered.{absent_out}
use Rattle.volume_tree.proofs.late.Named.{lacks_apart}
use Rattle.volume_tree.proofs.late.Registers.{inner_few, register_gone, register_moved, register_new, volume_apart}
use Rattle.volume_tree.proofs.slotted.FreshLaws.{fresh_apart}

-- a node stands in the table, and not in the register yet
pub record IsReady (K : Capacity) (nodes : List NodeRow) (register : Register) (row : NodeRow) : Type 0 where
  pub volume : IsVolume K nodes
  pub there : node_of nodes row.number ≡ Some row
  pub inner : (row.number == 0) ≡ false
  pub lacks : LacksName nodes (entries_of register.order.runs) row.parent row.name
  pub absent : IsRegister nodes (row.number ∷ []) register

ready : (K : Capacity) (nodes : List NodeRow) (register : Register) (row : NodeRow) → IsVolume K nodes → node_of nodes row.number ≡ Some row → (row.number == 0) ≡ false → IsRegister nodes (row.number ∷ []) register → IsReady K nodes register row
ready K nodes register row v found other h =
    record {
      volume = v;
      there = found;
      inner = other;
      lacks = lacks_apart nodes (entries_of register.order.runs) row.number row (volume_apart K nodes v) found other (absent_out nodes [] register.order register.late.items row.number v.ascending h.entered).listed;
      absent = h;
    }

-- a new node
pub record IsMade (K : Capacity) (table made : Table) (register : Register) (row : NodeRow) : Type 0 where
  pub number_is : row.number ≡ fresh (rows_of table.slots)
  pub is : made ≡ made_table table row
  pub slots : AreSlots 0 made.slots
  pub rows : rows_of made.slots ≡ with_row number row (rows_of table.slots)
  pub ready : IsReady K (rows_of made.slots) register row

made_at : (K : Capacity) (count used : ℕ) (holes : Numbers) (table : Table) (register : Register) (v : Volume) (row : NodeRow) → IsHeld K count used holes table register → volume K (rows_of table.slots) ≡ v → row.number ≡ fresh (rows_of table.slots) → is_own row ≡ true → is_folder v.nodes row.parent ≡ true → new_fault v row.parent row.name ≡ None → IsMade K table (made_table table row) register row
made_at K count used holes table register v row h view is own folder free =
    let nodes = rows_of table.slots in
    let k = h.kept in
    let may = may_make (volume K nodes) row.parent row.name (ap (λ (w : Volume). new_fault w row.parent row.name) view ∙ free) in
    let inside : is_folder nodes row.parent ≡ true = ap (λ (w : Volume). is_folder w.nodes row.parent) view ∙ folder in
    let lacks : has_row number row.number nodes ≡ false = fresh_empty K count used holes table register row.number h is in
    let other : (row.number == 0) ≡ false = is_inner row.number (λ z. fresh_apart 0 nodes k.volume.ascending k.volume.has_root (sym z ∙ is)) in
    let more = volume_made K count used holes table.slots register row k is own inside may.alone (omega (arith, may.room, k.count_is)) (omega (arith, may.names, k.used_is)) in
    let rows = made_rows K count used holes table register row h is in
    let new = register_new nodes row register lacks other (omega (arith, inner_few K (with_row number row nodes) more, k.room_is)) k.register_is in
    record {
      number_is = is;
      is = refl;
      slots = slots_with row.number table.slots (Some row) k.slots_are refl;
      rows = rows;
      ready = subst (λ (ns : List NodeRow). IsReady K ns register row) (sym rows) (ready K (with_row number row nodes) register row more (new_there number row nodes lacks) other new);
    }

pub made_is : (K : Capacity) (count used : ℕ) (holes : Numbers) (table made : Table) (register : Register) (v : Volume) (row shown : NodeRow) → IsHeld K count used holes table register → volume K (rows_of table.slots) ≡ v → row.number ≡ fresh (rows_of table.slots) → is_own row ≡ true → is_folder v.nodes row.parent ≡ true → new_fault v row.parent row.name ≡ None → shown ≡ row → made ≡ made_table table shown → IsMade K table made register shown
made_is K count used holes table made register v row shown h view is own folder free same table_is =
    subst (λ (t : Table). IsMade K table t register shown) (sym table_is)
    (subst (λ (r : NodeRow). IsMade K table (made_table table r) register r) (sym same) (made_at K count used holes table register v row h view is own folder free))

pub made_held : (K : Capacity) (count used bytes : ℕ) (holes left : Numbers) (table made : Table) (register more : Register) (row : NodeRow) → IsHeld K count used holes table register → IsMade K table made register row → left ≡ record holes { members = without_number row.number holes.members } → bytes ≡ length row.name → IsRegister (rows_of made.slots) [] more → more.order.room ≡ register.order.room → IsHeld K (count + 1) (used + bytes) left made more
made_held K count used bytes holes left table made register more row h m gone size entered room =
    let here : IsRegister (rows_of (made_table table row).slots) [] more = subst (λ (t : Table). IsRegister (rows_of t.slots) [] more) m.is entered in
    let held = held_made K count used holes table register more row h m.number_is (subst (IsVolume K) m.rows m.ready.volume) here room in
    subst (λ (t : Table). IsHeld K (count + 1) (used + bytes) left t more) (sym m.is)
    (subst (λ (set : Numbers). IsHeld K (count + 1) (used + bytes) set (made_table table row) more) (sym gone)
    (subst (λ (n : ℕ). IsHeld K (count + 1) (used + n) (record holes { members = without_number row.number holes.members }) (made_table table row) more) (sym size) held))

-- a node that left the register goes from the table
pub left_gone : (K : Capacity) (table : Table) (register : Register) (n : ℕ) (row : NodeRow) → AreSlots 0 table.slots → IsVolume K (rows_of table.slots) → IsVolume K (without_row number n (rows_of table.slots)) → node_of (rows_of table.slots) n ≡ Some row → (n == 0) ≡ false → register.order.room ≡ K.nodes → IsRegister (rows_of table.slots) (row.number ∷ []) register → IsRegister (rows_of (gone_table table n).slots) [] register
left_gone K table register n row slots v less found other room h =
    let nodes = rows_of table.slots in
    subst (λ (ns : List NodeRow). IsRegister ns [] register) (sym (rows_gone n table.slots slots))
    (register_gone nodes n row register v.ascending found other (omega (arith, inner_few K (without_row number n nodes) less, room))
    (subst (λ (m : ℕ). IsRegister nodes (m ∷ []) register) (found_key number n nodes row found) h))

-- a node that left the register is moved in the table
pub record IsMoved (K : Capacity) (table made : Table) (register : Register) (n folder : ℕ) (name : List ℕ) (row : NodeRow) : Type 0 where
  pub is : made ≡ moved_table table n folder name
  pub number_is : row.number ≡ n
  pub parent_is : row.parent ≡ folder
  pub name_is : row.name ≡ name
  pub slots : AreSlots 0 made.slots
  pub ready : IsReady K (rows_of made.slots) register row

moved_there : (nodes : List NodeRow) (n folder : ℕ) (name : List ℕ) (row : NodeRow) → node_of nodes n ≡ Some row → node_of (with_change number n (placed folder name) nodes) n ≡ Some (placed folder name row)
moved_there nodes n folder name row found =
    let c = placed folder name in
    let own : (number row == n) ≡ true = ap (λ (m : ℕ). m == n) (found_key number n nodes row found) ∙ eq_same n in
    row_of-change number n c (λ r. refl) n nodes
    ∙ (ap (option_map (λ (r : NodeRow). if number r == n then c r else r)) found ∙ ap (λ b. Some (if b then c row else row)) own)

moved_at : (K : Capacity) (table : Table) (register : Register) (n folder : ℕ) (name : List ℕ) (row shown : NodeRow) → AreSlots 0 table.slots → IsVolume K (rows_of table.slots) → IsVolume K (with_change number n (placed folder name) (rows_of table.slots)) → node_of (rows_of table.slots) n ≡ Some row → (n == 0) ≡ false → register.order.room ≡ K.nodes → IsRegister (rows_of table.slots) (row.number ∷ []) register → slot_at (moved_table table n folder name).slots n ≡ Some shown → IsMoved K table (moved_table table n folder name) register n folder name shown
moved_at K table register n folder name row shown slots v more found other room h at =
    let nodes = rows_of table.slots in
    let c = placed folder name in
    let has = found_has number n nodes row found in
    let new = changed table.slots n c slots has (λ r. refl) in
    let moved = with_change number n c nodes in
    let here : node_of moved n ≡ Some shown = ap (λ (ns : List NodeRow). node_of ns n) (sym new.rows_are) ∙ (row_is n (with_change_at table.slots n c) new.slots_are ∙ at) in
    let is : shown ≡ c row = same_Some shown (c row) (sym here ∙ moved_there nodes n folder name row found) in
    let num : shown.number ≡ n = found_key number n moved shown here in
    let old : IsRegister nodes (n ∷ []) register = subst (λ (m : ℕ). IsRegister nodes (m ∷ []) register) (found_key number n nodes row found) h in
    let next = register_moved nodes n c register v.ascending (λ r. refl) (omega (arith, inner_few K moved more, room)) old in
    record {
      is = refl;
      number_is = num;
      parent_is = ap (λ (r : NodeRow). r.parent) is;
      name_is = ap (λ (r : NodeRow). r.name) is;
      slots = new.slots_are;
      ready = subst (λ (ns : List NodeRow). IsReady K ns register shown) (sym new.rows_are)
          (ready K moved register shown more (ap (node_of moved) num ∙ here) (ap (λ m. m == 0) num ∙ other) (subst (λ (m : ℕ). IsRegister moved (m ∷ []) register) (sym num) next));
    }

pub moved_is : (K : Capacity) (table made : Table) (register : Register) (n folder : ℕ) (name : List ℕ) (row shown : NodeRow) → AreSlots 0 table.slots → IsVolume K (rows_of table.slots) → IsVolume K (with_change number n (placed folder name) (rows_of table.slots)) → node_of (rows_of table.slots) n ≡ Some row → (n == 0) ≡ false → register.order.room ≡ K.nodes → IsRegister (rows_of table.slots) (row.number ∷ []) register → made ≡ moved_table table n folder name → slot_at made.slots n ≡ Some shown → IsMoved K table made register n folder name shown
moved_is K table made register n folder name row shown slots v more found other room h is at =
    subst (λ (t : Table). IsMoved K table t register n folder name shown) (sym is)
    (moved_at K table register n folder name row shown slots v more found other room h (ap (λ (t : Table). slot_at t.slots n) (sym is) ∙ at))
