use Rattle.std.proofs.Common.{◌≡◌, ℕ, ◌+◌, ◌-◌, true, false, length, List, [], ◌∷◌, Some, None, refl, sym, ◌∙◌, ap, subst, arith}
use Rattle.std.specs.Prelude.{◌==◌}
use Rattle.fsrm_base.specs.Keyed.{has_row, with_change}
use Rattle.fsrm_base.proofs.Look.{found_key, has_row-change}
use Rattle.fsrm_model.specs.declared.row.NodeRow.{NodeRow}
use Rattle.fsrm_model.specs.values.Name.{is_name}
use Rattle.fsrm_model.specs.nodes.FileOps.{placed}
use Rattle.fsrm_model.specs.nodes.Tree.{is_folder, name_bytes, name_of, node_of, number}
use Rattle.fsrm_model.specs.store.Valid.{IsVolume}
use Rattle.fsrm_model.proofs.nodes.Walks.{found_name}
use Rattle.fsrm_model.proofs.valid.CapacityLaws.{names_most}
use Rattle.name_index.specs.Hash.{name_hash}
use Rattle.node_table.specs.Slots.{is_taken}
use Rattle.node_table.specs.Table.{Table}
use Rattle.node_table.specs.Views.{seen}
use Rattle.node_order.proofs.SlotLaws.{changed, there_is}
use Rattle.volume_tree.specs.Kept.{IsHeld, rows_of}
use Rattle.volume_tree.specs.Late.{IsRegister}
use Rattle.volume_tree.specs.Volume.{Volume, Move, move_fault, with_place}
use Rattle.volume_tree.proofs.kept.EnterLaws.{IsMoved, moved_is}
use Rattle.volume_tree.proofs.kept.HeldLaws.{held_moved, moved_table, volume as volume_of}
use Rattle.volume_tree.proofs.kept.KeptLaws.{name_fits}
use Rattle.volume_tree.proofs.kept.MoveLaws.{may_move, volume_moved}
use Rattle.volume_tree.proofs.late.Registers.{volume_apart}
use Rattle.volume_tree.proofs.tree.Tree.make_move.Goals as goal

pub arrange_if_many-requires-clause-apart : goal.arrange_if_many-requires-clause-apart
arrange_if_many-requires-clause-apart g c = volume_apart c.self.inside.size _ c.self.invariant.kept.volume

pub overflow_cast-old_bytes : goal.overflow_cast-old_bytes
overflow_cast-old_bytes g c =
    let slots = c.self.inside.slots.slots in
    let m = c.ready.inside in
    let has : has_row number m.node (rows_of slots) ≡ true = ap (λ (move : Move). has_row number move.node (rows_of slots)) c.ready.view_is ∙ (ap (λ (v : Volume). has_row number c.args.ready.node v.nodes) c.self.view_is ∙ c.requires.there) in
    let row : NodeRow = seen c.node-row.result in
    let bytes : length row.name ≡ length (name_of (rows_of slots) m.node) = ap length (sym (found_name (rows_of slots) m.node row c.node-row.ensures.node)) in
    let fit = name_fits c.self.inside.size _ m.node c.self.invariant.kept.volume has in
    let names = c.self.invariant.kept.volume.names in
    let most = names_most c.self.inside.size c.self.invariant.kept.size in
    omega (arith, fit, bytes, names, most)

pub leave-requires : goal.leave-requires
leave-requires g c =
    let i = c.self.inside in
    let m = c.ready.inside in
    let nodes = rows_of i.slots.slots in
    let row : NodeRow = seen c.node-row.result in
    let own : row.number ≡ m.node = found_key number m.node nodes row c.node-row.ensures.node in
    record {
      slots = c.self.invariant.kept.slots_are;
      apart = volume_apart i.size nodes c.self.invariant.kept.volume;
      there = ap (node_of nodes) own ∙ c.node-row.ensures.node;
      inner = ap (λ (n : ℕ). n == 0) own ∙ (ap (λ (move : Move). move.node == 0) c.ready.view_is ∙ c.requires.inner);
      register = c.arrange_if_many.ensures.register;
    }

pub set_place-requires-clause-taken : goal.set_place-requires-clause-taken
set_place-requires-clause-taken g c =
    let slots = c.self.inside.slots.slots in
    let m = c.ready.inside in
    there_is m.node slots c.self.invariant.kept.slots_are
    ∙ (ap (λ (move : Move). has_row number move.node (rows_of slots)) c.ready.view_is ∙ (ap (λ (v : Volume). has_row number c.args.ready.node v.nodes) c.self.view_is ∙ c.requires.there))

pub set_place-requires-clause-room : goal.set_place-requires-clause-room
set_place-requires-clause-room g c =
    let i = c.self.inside in
    let h = c.self.invariant in
    let slots = i.slots.slots in
    let m = c.ready.inside in
    let held : Volume = record { size = i.size; nodes = rows_of slots } in
    let has : has_row number m.node (rows_of slots) ≡ true = ap (λ (move : Move). has_row number move.node (rows_of slots)) c.ready.view_is ∙ (ap (λ (v : Volume). has_row number c.args.ready.node v.nodes) c.self.view_is ∙ c.requires.there) in
    let inner : (m.node == 0) ≡ false = ap (λ (move : Move). move.node == 0) c.ready.view_is ∙ c.requires.inner in
    let folder : is_folder (rows_of slots) m.folder ≡ true = ap (λ (move : Move). is_folder (rows_of slots) move.folder) c.ready.view_is ∙ (ap (λ (v : Volume). is_folder v.nodes c.args.ready.folder) c.self.view_is ∙ c.requires.folder) in
    let named : is_name m.name.now ≡ true = ap (λ (move : Move). is_name move.name) c.ready.view_is ∙ c.requires.name in
    let may : move_fault held m.node m.folder m.name.now ≡ None = ap (λ (move : Move). move_fault held move.node move.folder move.name) c.ready.view_is ∙ (ap (λ (v : Volume). move_fault v c.args.ready.node c.args.ready.folder c.args.ready.name) c.self.view_is ∙ c.requires.may) in
    let names = (volume_moved held m.node m.folder m.name.now h.kept.volume has inner folder named may).names in
    let new = changed slots m.node (placed m.folder m.name.now) h.kept.slots_are has (λ r. refl) in
    omega (arith, names, ap name_bytes new.rows_are, h.names_are)

pub node-moved-requires : goal.node-moved-requires
node-moved-requires g c =
    let i = c.self.inside in
    let slots = i.slots.slots in
    let m = c.ready.inside in
    let has : has_row number m.node (rows_of slots) ≡ true = ap (λ (move : Move). has_row number move.node (rows_of slots)) c.ready.view_is ∙ (ap (λ (v : Volume). has_row number c.args.ready.node v.nodes) c.self.view_is ∙ c.requires.there) in
    let new = changed slots m.node (placed m.folder m.name.now) c.self.invariant.kept.slots_are has (λ r. refl) in
    subst (λ (t : Table). is_taken t.slots m.node ≡ true) (sym c.set_place.ensures)
    (there_is m.node (moved_table i.slots m.node m.folder m.name.now).slots new.slots_are
    ∙ (ap (has_row number m.node) new.rows_are ∙ (has_row-change number m.node (placed m.folder m.name.now) (λ r. refl) m.node (rows_of slots) ∙ has)))

pub enter-requires : goal.enter-requires
enter-requires g c =
    let i = c.self.inside in
    let h = c.self.invariant in
    let slots = i.slots.slots in
    let m = c.ready.inside in
    let held : Volume = record { size = i.size; nodes = rows_of slots } in
    let has : has_row number m.node (rows_of slots) ≡ true = ap (λ (move : Move). has_row number move.node (rows_of slots)) c.ready.view_is ∙ (ap (λ (v : Volume). has_row number c.args.ready.node v.nodes) c.self.view_is ∙ c.requires.there) in
    let inner : (m.node == 0) ≡ false = ap (λ (move : Move). move.node == 0) c.ready.view_is ∙ c.requires.inner in
    let folder : is_folder (rows_of slots) m.folder ≡ true = ap (λ (move : Move). is_folder (rows_of slots) move.folder) c.ready.view_is ∙ (ap (λ (v : Volume). is_folder v.nodes c.args.ready.folder) c.self.view_is ∙ c.requires.folder) in
    let named : is_name m.name.now ≡ true = ap (λ (move : Move). is_name move.name) c.ready.view_is ∙ c.requires.name in
    let may : move_fault held m.node m.folder m.name.now ≡ None = ap (λ (move : Move). move_fault held move.node move.folder move.name) c.ready.view_is ∙ (ap (λ (v : Volume). move_fault v c.args.ready.node c.args.ready.folder c.args.ready.name) c.self.view_is ∙ c.requires.may) in
    let volume = volume_moved held m.node m.folder m.name.now h.kept.volume has inner folder named may in
    let room = c.leave.ensures.room ∙ (c.arrange_if_many.ensures.room ∙ h.kept.room_is) in
    let moved : IsMoved i.size i.slots c.set_place.new.self c.leave.new.self m.node m.folder m.name.now (seen c.node-moved.result) =
    moved_is i.size i.slots c.set_place.new.self c.leave.new.self m.node m.folder m.name.now (seen c.node-row.result) (seen c.node-moved.result) h.kept.slots_are h.kept.volume volume c.node-row.ensures.node inner room c.leave.ensures.left c.set_place.ensures c.node-moved.ensures in
    record {
      slots = moved.slots;
      there = moved.ready.there;
      inner = moved.ready.inner;
      hash = c.hash_of-hash.ensures ∙ sym (ap (λ p. name_hash p (seen c.node-moved.result).name) moved.parent_is ∙ ap (name_hash m.folder) moved.name_is);
      alone = moved.ready.lacks;
      absent = ([], moved.ready.absent);
    }

pub overflow_sub-self : goal.overflow_sub-self
overflow_sub-self g c =
    let slots = c.self.inside.slots.slots in
    let m = c.ready.inside in
    let has : has_row number m.node (rows_of slots) ≡ true = ap (λ (move : Move). has_row number move.node (rows_of slots)) c.ready.view_is ∙ (ap (λ (v : Volume). has_row number c.args.ready.node v.nodes) c.self.view_is ∙ c.requires.there) in
    let fit = name_fits c.self.inside.size _ m.node c.self.invariant.kept.volume has in
    let row : NodeRow = seen c.node-row.result in
    let bytes : length row.name ≡ length (name_of (rows_of slots) m.node) = ap length (sym (found_name (rows_of slots) m.node row c.node-row.ensures.node)) in
    let used = c.self.invariant.kept.used_is in
    omega (arith, fit, bytes, used)

pub overflow_add-self : goal.overflow_add-self
overflow_add-self g c =
    let slots = c.self.inside.slots.slots in
    let m = c.ready.inside in
    let held : Volume = record { size = c.self.inside.size; nodes = rows_of slots } in
    let may : move_fault held m.node m.folder m.name.now ≡ None = ap (λ (move : Move). move_fault held move.node move.folder move.name) c.ready.view_is ∙ (ap (λ (v : Volume). move_fault v c.args.ready.node c.args.ready.folder c.args.ready.name) c.self.view_is ∙ c.requires.may) in
    let has : has_row number m.node (rows_of slots) ≡ true = ap (λ (move : Move). has_row number move.node (rows_of slots)) c.ready.view_is ∙ (ap (λ (v : Volume). has_row number c.args.ready.node v.nodes) c.self.view_is ∙ c.requires.there) in
    let fit = name_fits c.self.inside.size _ m.node c.self.invariant.kept.volume has in
    let room = (may_move held m.node m.folder m.name.now may).room in
    let row : NodeRow = seen c.node-row.result in
    let bytes : length row.name ≡ length (name_of (rows_of slots) m.node) = ap length (sym (found_name (rows_of slots) m.node row c.node-row.ensures.node)) in
    let used = c.self.invariant.kept.used_is in
    let most = names_most c.self.inside.size c.self.invariant.kept.size in
    omega (arith, fit, room, bytes, used, most)

pub invariant_of-self : goal.invariant_of-self
invariant_of-self g c =
    let i = c.self.inside in
    let h = c.self.invariant in
    let slots = i.slots.slots in
    let m = c.ready.inside in
    let held : Volume = record { size = i.size; nodes = rows_of slots } in
    let has : has_row number m.node (rows_of slots) ≡ true = ap (λ (move : Move). has_row number move.node (rows_of slots)) c.ready.view_is ∙ (ap (λ (v : Volume). has_row number c.args.ready.node v.nodes) c.self.view_is ∙ c.requires.there) in
    let inner : (m.node == 0) ≡ false = ap (λ (move : Move). move.node == 0) c.ready.view_is ∙ c.requires.inner in
    let folder : is_folder (rows_of slots) m.folder ≡ true = ap (λ (move : Move). is_folder (rows_of slots) move.folder) c.ready.view_is ∙ (ap (λ (v : Volume). is_folder v.nodes c.args.ready.folder) c.self.view_is ∙ c.requires.folder) in
    let named : is_name m.name.now ≡ true = ap (λ (move : Move). is_name move.name) c.ready.view_is ∙ c.requires.name in
    let may : move_fault held m.node m.folder m.name.now ≡ None = ap (λ (move : Move). move_fault held move.node move.folder move.name) c.ready.view_is ∙ (ap (λ (v : Volume). move_fault v c.args.ready.node c.args.ready.folder c.args.ready.name) c.self.view_is ∙ c.requires.may) in
    let volume = volume_moved held m.node m.folder m.name.now h.kept.volume has inner folder named may in
    let row : NodeRow = seen c.node-row.result in
    let bytes : length row.name ≡ length (name_of (rows_of slots) m.node) = ap length (sym (found_name (rows_of slots) m.node row c.node-row.ensures.node)) in
    let fit = name_fits i.size _ m.node h.kept.volume has in
    let same = h.kept.used_is in
    let less = c.leave.ensures.room ∙ c.arrange_if_many.ensures.room in
    let moved : IsMoved i.size i.slots c.set_place.new.self c.leave.new.self m.node m.folder m.name.now (seen c.node-moved.result) =
    moved_is i.size i.slots c.set_place.new.self c.leave.new.self m.node m.folder m.name.now row (seen c.node-moved.result) h.kept.slots_are h.kept.volume volume c.node-row.ensures.node inner (less ∙ h.kept.room_is) c.leave.ensures.left c.set_place.ensures c.node-moved.ensures in
    let entered = c.enter.ensures.entered [] moved.ready.absent in
    subst (λ (t : Table). IsHeld i.size i.count (i.used - length row.name + length m.name.now) i.holes t c.enter.new.self) (sym c.set_place.ensures)
    (held_moved i.size i.count i.used (i.used - length row.name + length m.name.now) i.holes i.slots i.register c.enter.new.self m.node m.folder m.name.now h has volume (omega (arith, bytes, fit, same))
    (subst (λ (t : Table). IsRegister (rows_of t.slots) [] c.enter.new.self) c.set_place.ensures entered) (c.enter.ensures.room ∙ less))

pub returns-clause-made : goal.returns-clause-made
returns-clause-made g c =
    let i = c.self.inside in
    let h = c.self.invariant in
    let slots = i.slots.slots in
    let m = c.ready.inside in
    let has : has_row number m.node (rows_of slots) ≡ true = ap (λ (move : Move). has_row number move.node (rows_of slots)) c.ready.view_is ∙ (ap (λ (v : Volume). has_row number c.args.ready.node v.nodes) c.self.view_is ∙ c.requires.there) in
    let new = changed slots m.node (placed m.folder m.name.now) h.kept.slots_are has (λ r. refl) in
    ap (λ (t : Table). volume_of i.size (rows_of t.slots)) c.set_place.ensures
    ∙ (ap (volume_of i.size) new.rows_are
    ∙ (ap (λ (move : Move). with_place (volume_of i.size (rows_of slots)) move.node move.folder move.name) c.ready.view_is ∙ ap (λ (v : Volume). with_place v c.args.ready.node c.args.ready.folder c.args.ready.name) c.self.view_is))

pub returns-clause-kept : goal.returns-clause-kept
returns-clause-kept g c = (invariant_of-self g c).kept.volume
