-- The row shows the node, with the name under its key.
use Rattle.std.proofs.Common.{◌≡◌, false, List, ℕ, Option, Some, [], sym, ◌∙◌, ap}
use Rattle.std.specs.Prelude.{unwrap_or}
use Rattle.fsrm_model.specs.declared.row.NodeRow.{NodeRow}
use Rattle.name_region.specs.Contents.{is_live}
use Rattle.node_table.specs.declared.row.Row.{Row}
use Rattle.node_table.specs.Kept.{name_under}
use Rattle.node_table.specs.Rows.{is_empty, row_at, row_in}
use Rattle.node_table.specs.Slots.{is_taken, slot_at}
use Rattle.node_table.specs.Table.{Table}
use Rattle.node_table.proofs.SlotLaws.{not_empty, slot_of}
use Rattle.node_table.proofs.TableLaws.{held_at}
use Rattle.node_table.proofs.table.NodeTable.node.Goals as goal

pub get-row-requires : goal.get-row-requires
get-row-requires c = let i = c.self.inside in not_empty c.args.number i.rows.rows i.names (ap (λ (t : Table). is_taken t.slots c.args.number) c.self.view_is ∙ c.requires)

pub get-requires : goal.get-requires
get-requires c =
    let i = c.self.inside in
    let taken : is_empty (row_at i.rows.rows c.args.number) ≡ false = not_empty c.args.number i.rows.rows i.names (ap (λ (t : Table). is_taken t.slots c.args.number) c.self.view_is ∙ c.requires) in
    ap (λ (row : Row). is_live i.names row.name) c.get-row.ensures ∙ (held_at i.rows i.names c.args.number c.self.invariant taken).live

pub returns : goal.returns
returns c =
    let i = c.self.inside in
    let n = c.args.number in
    let taken : is_empty (row_at i.rows.rows n) ≡ false = not_empty n i.rows.rows i.names (ap (λ (t : Table). is_taken t.slots n) c.self.view_is ∙ c.requires) in
    sym (ap (λ (t : Table). slot_at t.slots n) c.self.view_is)
    ∙ (slot_of n i.rows.rows i.names taken
    ∙ (ap (λ (row : Row). Some (row_in n row (name_under i.names row.name))) (sym c.get-row.ensures)
    ∙ (ap (λ (o : Option (List ℕ)). Some (row_in n c.get-row.result (unwrap_or o []))) c.get.ensures ∙ ap (λ (row : NodeRow). Some row) (sym c.view.ensures))))
