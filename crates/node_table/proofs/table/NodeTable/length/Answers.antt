-- The row of the slot has it.
use Rattle.std.proofs.Common.{◌≡◌, false, Some, sym, ◌∙◌, ap}
use Rattle.std.specs.Prelude.{option_map}
use Rattle.fsrm_model.specs.declared.row.NodeRow.{NodeRow}
use Rattle.node_table.specs.declared.row.Row.{Row}
use Rattle.node_table.specs.Rows.{is_empty, length_of, row_at}
use Rattle.node_table.specs.Slots.{is_taken, slot_at}
use Rattle.node_table.specs.Table.{Table}
use Rattle.node_table.proofs.SlotLaws.{not_empty, slot_of}
use Rattle.node_table.proofs.table.NodeTable.length.Goals as goal

pub get-requires : goal.get-requires
get-requires c = let i = c.self.inside in not_empty c.args.number i.rows.rows i.names (ap (λ (t : Table). is_taken t.slots c.args.number) c.self.view_is ∙ c.requires)

pub returns : goal.returns
returns c =
    let i = c.self.inside in
    let taken : is_empty (row_at i.rows.rows c.args.number) ≡ false = not_empty c.args.number i.rows.rows i.names (ap (λ (t : Table). is_taken t.slots c.args.number) c.self.view_is ∙ c.requires) in
    sym (ap (λ (t : Table). option_map (λ (row : NodeRow). row.length) (slot_at t.slots c.args.number)) c.self.view_is)
    ∙ (ap (option_map (λ (row : NodeRow). row.length)) (slot_of c.args.number i.rows.rows i.names taken) ∙ (ap (λ (row : Row). Some (length_of row)) (sym c.get.ensures) ∙ ap (λ n. Some n) (sym c.length.ensures)))
