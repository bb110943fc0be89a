-- The key of the row is released, and its slot is empty.
use Rattle.std.proofs.Common.{◌≡◌, false, None, ◌∙◌, ap}
use Rattle.name_region.specs.Contents.{is_live, with_text}
use Rattle.node_table.specs.declared.row.Row.{Row}
use Rattle.node_table.specs.Kept.{table_of}
use Rattle.node_table.specs.Rows.{empty_row, is_empty, row_at}
use Rattle.node_table.specs.Slots.{is_taken, with_at, with_slot}
use Rattle.node_table.specs.Table.{Table}
use Rattle.node_table.proofs.SlotLaws.{not_empty}
use Rattle.node_table.proofs.TableLaws.{below_room, held_at, names_without, rows_without, same_table, same_view, take_slots, take_table}
use Rattle.node_table.proofs.table.NodeTable.take_away.Goals as goal

pub get-requires : goal.get-requires
get-requires c = let i = c.self.inside in not_empty c.args.number i.rows.rows i.names (ap (λ (t : Table). is_taken t.slots c.args.number) c.self.view_is ∙ c.requires)

pub release-requires : goal.release-requires
release-requires c =
    let i = c.self.inside in
    let taken : is_empty (row_at i.rows.rows c.args.number) ≡ false = not_empty c.args.number i.rows.rows i.names (ap (λ (t : Table). is_taken t.slots c.args.number) c.self.view_is ∙ c.requires) in
    ap (λ (row : Row). is_live i.names row.name) c.get.ensures ∙ (held_at i.rows i.names c.args.number c.self.invariant taken).live

pub put-requires : goal.put-requires
put-requires c =
    let i = c.self.inside in
    let taken : is_empty (row_at i.rows.rows c.args.number) ≡ false = not_empty c.args.number i.rows.rows i.names (ap (λ (t : Table). is_taken t.slots c.args.number) c.self.view_is ∙ c.requires) in
    below_room i.rows i.names c.args.number c.self.invariant taken

pub invariant_of-self : goal.invariant_of-self
invariant_of-self c =
    let i = c.self.inside in
    let n = c.args.number in
    let taken : is_empty (row_at i.rows.rows n) ≡ false = not_empty n i.rows.rows i.names (ap (λ (t : Table). is_taken t.slots n) c.self.view_is ∙ c.requires) in
    let rows : c.put.new.self ≡ rows_without i.rows n = c.put.ensures ∙ ap (λ (row : Row). record i.rows { rows = with_at empty_row i.rows.rows n row }) c.empty.ensures in
    let names : c.release.new.self ≡ names_without i.rows i.names n = c.release.ensures ∙ ap (λ (row : Row). with_text i.names row.name None) c.get.ensures in
    same_table (rows_without i.rows n) c.put.new.self (names_without i.rows i.names n) c.release.new.self rows names (take_table i.rows i.names c.self.invariant n taken)

pub returns : goal.returns
returns c =
    let i = c.self.inside in
    let n = c.args.number in
    let taken : is_empty (row_at i.rows.rows n) ≡ false = not_empty n i.rows.rows i.names (ap (λ (t : Table). is_taken t.slots n) c.self.view_is ∙ c.requires) in
    let rows : c.put.new.self ≡ rows_without i.rows n = c.put.ensures ∙ ap (λ (row : Row). record i.rows { rows = with_at empty_row i.rows.rows n row }) c.empty.ensures in
    let names : c.release.new.self ≡ names_without i.rows i.names n = c.release.ensures ∙ ap (λ (row : Row). with_text i.names row.name None) c.get.ensures in
    same_view (rows_without i.rows n) c.put.new.self (names_without i.rows i.names n) c.release.new.self rows names
    ∙ (ap (λ ss. record (table_of i.rows i.names) { slots = ss }) (take_slots i.rows i.names c.self.invariant n taken) ∙ ap (λ (t : Table). record t { slots = with_slot t.slots n None }) c.self.view_is)
