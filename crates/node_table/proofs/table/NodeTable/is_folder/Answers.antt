-- The row of the slot has it.
use Rattle.std.proofs.Common.{◌≡◌, false, Some, sym, ◌∙◌, ap}
use Rattle.std.specs.Prelude.{option_map}
use Rattle.fsrm_model.specs.declared.row.NodeRow.{NodeRow}
use Rattle.node_table.specs.declared.row.Row.{Row}
use Rattle.node_table.specs.Rows.{is_empty, is_folder, row_at}
use Rattle.node_table.specs.Slots.{is_taken, slot_at}
use Rattle.node_table.specs.Table.{Table}
use Rattle.node_table.proofs.SlotLaws.{not_empty, slot_of}
use Rattle.node_table.proofs.table.NodeTable.is_folder.Goals as goal

pub get-requires : goal.get-requires
get-requires c = let i = c.self.inside in not_empty c.args.number i.rows.rows i.names (ap (λ (t : Table). is_taken t.slots c.args.number) c.self.view_is ∙ c.requires)

pub returns : goal.returns
returns c =
    let i = c.self.inside in
    let taken : is_empty (row_at i.rows.rows c.args.number) ≡ false = not_empty c.args.number i.rows.rows i.names (ap (λ (t : Table). is_taken t.slots c.args.number) c.self.view_is ∙ c.requires) in
    sym (ap (λ (t : Table). option_map (λ (row : NodeRow). row.folder) (slot_at t.slots c.args.number)) c.self.view_is)
    ∙ (ap (option_map (λ (row : NodeRow). row.folder)) (slot_of c.args.number i.rows.rows i.names taken) ∙ (ap (λ (row : Row). Some (is_folder row)) (sym c.get.ensures) ∙ ap (λ b. Some b) (sym c.is_folder.ensures)))
