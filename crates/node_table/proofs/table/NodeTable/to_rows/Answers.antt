-- One slot more, with a row or empty.
use Rattle.std.proofs.Common.{◌≡◌, ◌<◌, ◌++◌, ◌∷◌, [], List, None, Some, sym, ◌∙◌, ap, arith, length, take}
use Rattle.fsrm_model.specs.declared.row.NodeRow.{NodeRow}
use Rattle.node_table.specs.Slots.{rows_of, slot_at}
use Rattle.node_table.specs.Views.{seen}
use Rattle.node_table.proofs.SlotLaws.{none_if, none_more, rows_more}
use Rattle.node_table.proofs.table.NodeTable.to_rows.Goals.{then-is_taken+in_ok-to_row+in_ok-push, else-is_taken}
use Rattle.node_table.proofs.table.NodeTable.to_rows.Goals as goal

pub loop-number-preserved : goal.loop-number-preserved
loop-number-preserved c =
    let slots = c.args.self.now.slots in
    let n = c.loop-number.number in
    let within : n < length slots = omega (arith, c.loop-number-test.true, c.len-number-end.ensures.len) in
    elim c.if-is_taken.branch [
      | then-is_taken+in_ok-to_row+in_ok-push w ↦
          w.rows-is
          ∙ (w.in_ok-push.ensures.ok
          ∙ (ap (λ (rows : List NodeRow). rows ++ w.in_ok-to_row.field-0 ∷ []) c.loop-number.invariant
          ∙ (ap (λ (row : NodeRow). rows_of (take n slots) ++ row ∷ []) w.in_ok-to_row.ensures ∙ sym (rows_more slots n (Some (seen w.node.result)) within w.node.ensures))))
      | else-is_taken w ↦
          let none : slot_at slots n ≡ None = none_if (slot_at slots n) (sym c.is_taken.ensures ∙ w.if-is_taken.false) in
          w.rows-is ∙ (c.loop-number.invariant ∙ sym (none_more slots n within none))
    ]
