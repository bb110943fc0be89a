use Rattle.std.proofs.Common.{◌≡◌, ◌==◌, ℕ, List, not, length, sym, ◌∙◌, ap}
use Rattle.std.specs.List.{list_any}
use Rattle.fsrm_model.specs.declared.row.NodeRow.{NodeRow}
use Rattle.block_list.specs.Runs.{entries_of}
use Rattle.node_order.specs.declared.entries.Entry.{Entry}
use Rattle.node_order.proofs.SlotRows.{slots_ascend}
use Rattle.volume_tree.specs.Kept.{rows_of}
use Rattle.volume_tree.proofs.late.Parents.{late_has, listed_has}
use Rattle.volume_tree.proofs.late.Registers.{few_listed}
use Rattle.volume_tree.proofs.register.Register.has_child.Goals as goal

pub returns-then-not-row-clause-value : goal.returns-then-not-row-clause-value
returns-then-not-row-clause-value g c = ap (λ (rows : List NodeRow). not (length rows == 0)) (sym (c.requires.file c.if-not-row.true))

pub lists_child-requires-clause-order : goal.lists_child-requires-clause-order
lists_child-requires-clause-order g c = c.requires.register.entered.listed

pub lists_child-requires-clause-entries : goal.lists_child-requires-clause-entries
lists_child-requires-clause-entries g c = c.requires.register.entered.entries

pub lists_child-requires-clause-few : goal.lists_child-requires-clause-few
lists_child-requires-clause-few g c = few_listed _ _ c.args.self.now c.requires.register

pub returns-then-lists_child-clause-value : goal.returns-then-lists_child-clause-value
returns-then-lists_child-clause-value g c = listed_has (rows_of c.args.slots.now.slots) c.args.row.now.number (entries_of c.args.self.now.order.runs) c.lists_child.result c.lists_child.ensures.value c.if-lists_child.true

pub returns-clause-value : goal.returns-clause-value
returns-clause-value g c =
    let r = c.args.self.now in
    late_has (rows_of c.args.slots.now.slots) r.order r.late.items c.args.row.now.number c.lists_child.result c.names_folder.result (slots_ascend c.args.slots.now.slots c.requires.slots) c.requires.register.entered c.lists_child.ensures.value c.if-lists_child.false (c.names_folder.ensures ∙ ap (λ (es : List Entry). list_any (λ (e : Entry). e.parent == c.args.row.now.number) es) c.deref.ensures.value)
