use Rattle.std.proofs.Common.{◌≡◌, ℕ, ◌-◌, Bool, true, false, length, [], ◌∷◌, Option, Some, None, sym, ◌∙◌, ap, subst, arith, refl}
use Rattle.std.specs.Prelude.{not, ◌==◌}
use Rattle.std.specs.Option.{option_map_or}
use Rattle.fsrm_model.specs.declared.row.NodeRow.{NodeRow}
use Rattle.fsrm_base.specs.Causes.{◌when◌}
use Rattle.fsrm_base.specs.Keyed.{has_row}
use Rattle.fsrm_base.specs.Numbers.{with_number}
use Rattle.fsrm_base.proofs.Look.{found_key}
use Rattle.fsrm_model.specs.nodes.Tree.{number, node_of, name_of, is_folder, children}
use Rattle.fsrm_model.proofs.nodes.UsageLaws.{no_child_of_file}
use Rattle.fsrm_model.proofs.nodes.Walks.{found_name}
use Rattle.fsrm_model.proofs.valid.CapacityLaws.{names_most}
use Rattle.number_set.specs.Numbers.{Numbers}
use Rattle.node_table.specs.Table.{Table}
use Rattle.node_table.specs.Views.{seen}
use Rattle.node_order.proofs.SlotLaws.{rows_gone, there_is}
use Rattle.volume_tree.specs.Kept.{IsHeld, rows_of}
use Rattle.volume_tree.specs.Volume.{Volume, remove_fault, without_node}
use Rattle.volume_tree.proofs.kept.EnterLaws.{left_gone}
use Rattle.volume_tree.proofs.kept.HeldLaws.{gone_table, held_gone, held_settled, volume}
use Rattle.volume_tree.specs.declared.answer.TreeFault.TheVariants.{NotEmpty}
use Rattle.volume_tree.proofs.kept.KeptLaws.{name_fits, node_below, volume_gone}
use Rattle.volume_tree.proofs.late.Registers.{volume_apart}
use Rattle.volume_tree.proofs.tree.Tree.remove.Goals as goal

pub arrange_if_many-requires-clause-apart : goal.arrange_if_many-requires-clause-apart
arrange_if_many-requires-clause-apart g c = volume_apart c.self.inside.size _ c.self.invariant.kept.volume

pub has_child-requires-clause-file : goal.has_child-requires-clause-file
has_child-requires-clause-file g c =
    λ file.
    let nodes = c.self.inside.slots.slots in
    let row : NodeRow = seen c.node-row.result in
    let found = c.node-row.ensures.node in
    let kind : is_folder (rows_of nodes) c.args.node ≡ false = ap (λ (o : Option NodeRow). option_map_or (λ (r : NodeRow). r.folder) o false) found ∙ file in
    let none : children (rows_of nodes) c.args.node ≡ [] = no_child_of_file c.self.inside.size _ c.args.node c.self.invariant.kept.volume kind in
    ap (children (rows_of nodes)) (found_key number c.args.node (rows_of nodes) row found) ∙ none

pub invariant_of-self : goal.invariant_of-self
invariant_of-self g c = held_settled _ _ _ _ _ c.self.inside.register _ c.self.invariant c.arrange_if_many.ensures.register c.arrange_if_many.ensures.room

pub returns-then-has_child-clause-refused : goal.returns-then-has_child-clause-refused
returns-then-has_child-clause-refused g c =
    let n = c.args.node in
    let slots = c.self.inside.slots.slots in
    let row : NodeRow = seen c.node-row.result in
    let found : node_of (rows_of slots) n ≡ Some row = c.node-row.ensures.node in
    let filled : not (length (children (rows_of slots) n) == 0) ≡ true =
    ap (λ (k : ℕ). not (length (children (rows_of slots) k) == 0)) (sym (found_key number n (rows_of slots) row found))
    ∙ (sym c.has_child.ensures.value ∙ c.if-has_child.true) in
    sym (ap (λ (v : Volume). remove_fault v n) c.self.view_is) ∙ ap (λ (b : Bool). NotEmpty when b) filled

pub returns-then-has_child-clause-err : goal.returns-then-has_child-clause-err
returns-then-has_child-clause-err g c = c.self.view_is

pub returns-then-has_child-clause-kept : goal.returns-then-has_child-clause-kept
returns-then-has_child-clause-kept g c = c.self.invariant.kept.volume

pub returns-clause-may : goal.returns-clause-may
returns-clause-may g c =
    let n = c.args.node in
    let slots = c.self.inside.slots.slots in
    let row : NodeRow = seen c.node-row.result in
    let found : node_of (rows_of slots) n ≡ Some row = c.node-row.ensures.node in
    let leaf : not (length (children (rows_of slots) n) == 0) ≡ false =
    ap (λ (k : ℕ). not (length (children (rows_of slots) k) == 0)) (sym (found_key number n (rows_of slots) row found))
    ∙ (sym c.has_child.ensures.value ∙ c.if-has_child.false) in
    sym (ap (λ (v : Volume). remove_fault v n) c.self.view_is) ∙ ap (λ (b : Bool). NotEmpty when b) leaf

pub leave-requires : goal.leave-requires
leave-requires g c =
    let i = c.self.inside in
    let nodes = rows_of i.slots.slots in
    let row : NodeRow = seen c.node-row.result in
    let own : row.number ≡ c.args.node = found_key number c.args.node nodes row c.node-row.ensures.node in
    record {
      slots = c.self.invariant.kept.slots_are;
      apart = volume_apart i.size nodes c.self.invariant.kept.volume;
      there = ap (node_of nodes) own ∙ c.node-row.ensures.node;
      inner = ap (λ (m : ℕ). m == 0) own ∙ c.requires.inner;
      register = c.arrange_if_many.ensures.register;
    }

pub overflow_cast-bytes : goal.overflow_cast-bytes
overflow_cast-bytes g c =
    let slots = c.self.inside.slots.slots in
    let has : has_row number c.args.node (rows_of slots) ≡ true = ap (λ (v : Volume). has_row number c.args.node v.nodes) c.self.view_is ∙ c.requires.there in
    let row : NodeRow = seen c.node-row.result in
    let found : node_of (rows_of slots) c.args.node ≡ Some row = c.node-row.ensures.node in
    let bytes : length row.name ≡ length (name_of (rows_of slots) c.args.node) = ap length (sym (found_name (rows_of slots) c.args.node row found)) in
    let fit = name_fits c.self.inside.size _ c.args.node c.self.invariant.kept.volume has in
    let names = c.self.invariant.kept.volume.names in
    let most = names_most c.self.inside.size c.self.invariant.kept.size in
    omega (arith, fit, bytes, names, most)

pub overflow_sub-self-2 : goal.overflow_sub-self-2
overflow_sub-self-2 g c =
    let slots = c.self.inside.slots.slots in
    let has : has_row number c.args.node (rows_of slots) ≡ true = ap (λ (v : Volume). has_row number c.args.node v.nodes) c.self.view_is ∙ c.requires.there in
    let row : NodeRow = seen c.node-row.result in
    let found : node_of (rows_of slots) c.args.node ≡ Some row = c.node-row.ensures.node in
    let bytes : length row.name ≡ length (name_of (rows_of slots) c.args.node) = ap length (sym (found_name (rows_of slots) c.args.node row found)) in
    let fit = name_fits c.self.inside.size _ c.args.node c.self.invariant.kept.volume has in
    let used = c.self.invariant.kept.used_is in
    omega (arith, fit, bytes, used)

pub invariant_of-self-2 : goal.invariant_of-self-2
invariant_of-self-2 g c =
    let i = c.self.inside in
    let h = c.self.invariant in
    let n = c.args.node in
    let nodes = rows_of i.slots.slots in
    let has : has_row number n nodes ≡ true = ap (λ (v : Volume). has_row number n v.nodes) c.self.view_is ∙ c.requires.there in
    let row : NodeRow = seen c.node-row.result in
    let found : node_of nodes n ≡ Some row = c.node-row.ensures.node in
    let leaf : not (length (children nodes n) == 0) ≡ false =
    ap (λ (k : ℕ). not (length (children nodes k) == 0)) (sym (found_key number n nodes row found))
    ∙ (sym c.has_child.ensures.value ∙ c.if-has_child.false) in
    let less = volume_gone i.size nodes n h.kept.volume has c.requires.inner leaf in
    let bytes : length row.name ≡ length (name_of nodes n) = ap length (sym (found_name nodes n row found)) in
    let room = c.leave.ensures.room ∙ c.arrange_if_many.ensures.room in
    let register = left_gone i.size i.slots c.leave.new.self n row h.kept.slots_are h.kept.volume less found c.requires.inner (room ∙ h.kept.room_is) c.leave.ensures.left in
    let held = held_gone i.size i.count i.used i.holes i.slots i.register c.leave.new.self n h has less register room in
    let holes : Numbers = record i.holes { members = with_number n i.holes.members } in
    subst (λ (t : Table). IsHeld i.size (i.count - 1) (i.used - length row.name) c.insert.new.self t c.leave.new.self) (sym c.take_away.ensures)
    (subst (λ (set : Numbers). IsHeld i.size (i.count - 1) (i.used - length row.name) set (gone_table i.slots n) c.leave.new.self) (sym c.insert.ensures)
    (subst (λ (m : ℕ). IsHeld i.size (i.count - 1) (i.used - m) holes (gone_table i.slots n) c.leave.new.self) (sym bytes) held))

pub take_away-requires : goal.take_away-requires
take_away-requires g c =
    let i = c.self.inside in
    there_is c.args.node i.slots.slots c.self.invariant.kept.slots_are ∙ (ap (λ (v : Volume). has_row number c.args.node v.nodes) c.self.view_is ∙ c.requires.there)

pub returns-clause-made : goal.returns-clause-made
returns-clause-made g c =
    let i = c.self.inside in
    ap (λ (t : Table). volume i.size (rows_of t.slots)) c.take_away.ensures
    ∙ (ap (volume i.size) (rows_gone c.args.node i.slots.slots c.self.invariant.kept.slots_are) ∙ ap (λ (v : Volume). without_node v c.args.node) c.self.view_is)

pub insert-requires : goal.insert-requires
insert-requires g c =
    let has : has_row number c.args.node (rows_of c.self.inside.slots.slots) ≡ true = ap (λ (v : Volume). has_row number c.args.node v.nodes) c.self.view_is ∙ c.requires.there in
    let below = node_below c.self.inside.size _ c.args.node c.self.invariant.kept.volume has in
    let bound = c.self.invariant.kept.bound_is in
    omega (arith, below, bound)

pub returns-clause-kept : goal.returns-clause-kept
returns-clause-kept g c = (invariant_of-self-2 g c).kept.volume
