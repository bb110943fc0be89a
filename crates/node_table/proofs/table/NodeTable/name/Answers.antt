-- The name is under the key of the row.
use Rattle.std.proofs.Common.{◌≡◌, false, List, ℕ, Option, Some, [], sym, ◌∙◌, ap}
use Rattle.std.specs.Prelude.{option_map, unwrap_or}
use Rattle.fsrm_model.specs.declared.row.NodeRow.{NodeRow}
use Rattle.name_region.specs.Contents.{is_live, text_of}
use Rattle.node_table.specs.declared.row.Row.{Row}
use Rattle.node_table.specs.Rows.{is_empty, row_at}
use Rattle.node_table.specs.Slots.{is_taken, slot_at}
use Rattle.node_table.specs.Table.{Table}
use Rattle.node_table.proofs.SlotLaws.{not_empty, slot_of}
use Rattle.node_table.proofs.TableLaws.{held_at}
use Rattle.node_table.proofs.table.NodeTable.name.Goals as goal

pub get-requires : goal.get-requires
get-requires c = let i = c.self.inside in not_empty c.args.number i.rows.rows i.names (ap (λ (t : Table). is_taken t.slots c.args.number) c.self.view_is ∙ c.requires)

pub get-requires-2 : goal.get-requires-2
get-requires-2 c =
    let i = c.self.inside in
    let taken : is_empty (row_at i.rows.rows c.args.number) ≡ false = not_empty c.args.number i.rows.rows i.names (ap (λ (t : Table). is_taken t.slots c.args.number) c.self.view_is ∙ c.requires) in
    ap (λ (row : Row). is_live i.names row.name) c.get.ensures ∙ (held_at i.rows i.names c.args.number c.self.invariant taken).live

pub returns : goal.returns
returns c =
    let i = c.self.inside in
    let taken : is_empty (row_at i.rows.rows c.args.number) ≡ false = not_empty c.args.number i.rows.rows i.names (ap (λ (t : Table). is_taken t.slots c.args.number) c.self.view_is ∙ c.requires) in
    sym (ap (λ (t : Table). option_map (λ (row : NodeRow). row.name) (slot_at t.slots c.args.number)) c.self.view_is)
    ∙ (ap (option_map (λ (row : NodeRow). row.name)) (slot_of c.args.number i.rows.rows i.names taken)
    ∙ ap (λ (o : Option (List ℕ)). Some (unwrap_or o [])) (ap (λ (row : Row). text_of i.names row.name) (sym c.get.ensures) ∙ c.get-2.ensures))
