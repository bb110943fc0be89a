-- There is a key for the node, and its row and its name show it.
use Rattle.std.proofs.Common.{◌≡◌, ◌<◌, None, Some, ◌∙◌, ap, arith}
use Rattle.fsrm_model.specs.declared.row.NodeRow.{NodeRow}
use Rattle.name_region.specs.Contents.{with_text}
use Rattle.node_table.specs.Kept.{slots_in, table_of}
use Rattle.node_table.specs.Rows.{empty_row}
use Rattle.node_table.specs.Slots.{is_taken, slot_at, with_at, with_slot}
use Rattle.node_table.specs.Table.{Table}
use Rattle.node_table.specs.Views.{seen}
use Rattle.node_table.proofs.SlotLaws.{nothing_at}
use Rattle.node_table.proofs.TableLaws.{IsNew, key_left, put_slots, put_table, same_table, same_view}
use Rattle.node_table.proofs.table.NodeTable.put.Goals as goal

pub store-key-requires-clause-few : goal.store-key-requires-clause-few
store-key-requires-clause-few c =
    let i = c.self.inside in
    let n = c.args.node.now.number in
    let below : n < i.rows.room = omega (arith, c.requires.within, ap (λ (t : Table). t.nodes) c.self.view_is) in
    let empty : slot_at (slots_in 0 i.rows.rows i.names) n ≡ None = nothing_at n i.rows.rows i.names (ap (λ (t : Table). is_taken t.slots n) c.self.view_is ∙ c.requires.empty) in
    key_left i.rows i.names n (seen c.args.node.now) c.self.invariant below empty

pub invariant_of-self : goal.invariant_of-self
invariant_of-self c =
    let i = c.self.inside in
    let n = c.args.node.now.number in
    let row : NodeRow = seen c.args.node.now in
    let stored = c.store-key.ensures in
    let below : n < i.rows.room = omega (arith, c.requires.within, ap (λ (t : Table). t.nodes) c.self.view_is) in
    let empty : slot_at (slots_in 0 i.rows.rows i.names) n ≡ None = nothing_at n i.rows.rows i.names (ap (λ (t : Table). is_taken t.slots n) c.self.view_is ∙ c.requires.empty) in
    let new : IsNew i.rows i.names n c.store-key.result c.of.result row = record { below = below; empty = empty; within = stored.key; dead = stored.dead; own = c.of.ensures.key; says = c.of.ensures.row } in
    same_table (record i.rows { rows = with_at empty_row i.rows.rows n c.of.result }) c.put.new.self (with_text i.names c.store-key.result (Some row.name)) c.store-key.new.names c.put.ensures stored.stored
    (put_table i.rows i.names c.self.invariant n c.store-key.result c.of.result row new)

pub returns : goal.returns
returns c =
    let i = c.self.inside in
    let n = c.args.node.now.number in
    let row : NodeRow = seen c.args.node.now in
    let stored = c.store-key.ensures in
    let below : n < i.rows.room = omega (arith, c.requires.within, ap (λ (t : Table). t.nodes) c.self.view_is) in
    let empty : slot_at (slots_in 0 i.rows.rows i.names) n ≡ None = nothing_at n i.rows.rows i.names (ap (λ (t : Table). is_taken t.slots n) c.self.view_is ∙ c.requires.empty) in
    let new : IsNew i.rows i.names n c.store-key.result c.of.result row = record { below = below; empty = empty; within = stored.key; dead = stored.dead; own = c.of.ensures.key; says = c.of.ensures.row } in
    same_view (record i.rows { rows = with_at empty_row i.rows.rows n c.of.result }) c.put.new.self (with_text i.names c.store-key.result (Some row.name)) c.store-key.new.names c.put.ensures stored.stored
    ∙ (ap (λ ss. record (table_of i.rows i.names) { slots = ss }) (put_slots i.rows i.names c.self.invariant n c.store-key.result c.of.result row new)
    ∙ ap (λ (t : Table). record t { slots = with_slot t.slots n (Some row) }) c.self.view_is)
