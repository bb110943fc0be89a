-- The row says the same of its node, but for what is set.
use Rattle.std.proofs.Common.{◌≡◌, ℕ, false, List, refl, ◌∙◌, ap}
use Rattle.fsrm_model.specs.nodes.FileOps.{resized}
use Rattle.node_table.specs.declared.row.Row.{Row}
use Rattle.node_table.specs.Kept.{table_of}
use Rattle.node_table.specs.Rows.{empty_row, is_empty, key_of, row_at, row_in}
use Rattle.node_table.specs.Slots.{is_taken, with_at, with_change_at}
use Rattle.node_table.specs.Table.{Table}
use Rattle.node_table.proofs.SlotLaws.{not_empty}
use Rattle.node_table.proofs.TableLaws.{below_room, change_slots, change_table, same_table, same_view}
use Rattle.node_table.proofs.table.NodeTable.set_length.Goals as goal

pub get-row-requires : goal.get-row-requires
get-row-requires c = let i = c.self.inside in not_empty c.args.number i.rows.rows i.names (ap (λ (t : Table). is_taken t.slots c.args.number) c.self.view_is ∙ c.requires.taken)

pub resized-requires-clause-taken : goal.resized-requires-clause-taken
resized-requires-clause-taken c =
    let i = c.self.inside in
    ap is_empty c.get-row.ensures ∙ not_empty c.args.number i.rows.rows i.names (ap (λ (t : Table). is_taken t.slots c.args.number) c.self.view_is ∙ c.requires.taken)

pub put-requires : goal.put-requires
put-requires c =
    let i = c.self.inside in
    let taken : is_empty (row_at i.rows.rows c.args.number) ≡ false = not_empty c.args.number i.rows.rows i.names (ap (λ (t : Table). is_taken t.slots c.args.number) c.self.view_is ∙ c.requires.taken) in
    below_room i.rows i.names c.args.number c.self.invariant taken

pub invariant_of-self : goal.invariant_of-self
invariant_of-self c =
    let i = c.self.inside in
    let n = c.args.number in
    let taken : is_empty (row_at i.rows.rows n) ≡ false = not_empty n i.rows.rows i.names (ap (λ (t : Table). is_taken t.slots n) c.self.view_is ∙ c.requires.taken) in
    let same : key_of c.resized.result ≡ key_of (row_at i.rows.rows n) = c.resized.ensures.key ∙ ap key_of c.get-row.ensures in
    let says : (m : ℕ) (name : List ℕ) → row_in m c.resized.result name ≡ resized c.args.length c.args.moment (row_in m (row_at i.rows.rows n) name) = λ m name. c.resized.ensures.row m name ∙ ap (λ (row : Row). resized c.args.length c.args.moment (row_in m row name)) c.get-row.ensures in
    same_table (record i.rows { rows = with_at empty_row i.rows.rows n c.resized.result }) c.put.new.self i.names i.names c.put.ensures refl
    (change_table i.rows i.names c.self.invariant n taken c.resized.result same (resized c.args.length c.args.moment) says)

pub returns : goal.returns
returns c =
    let i = c.self.inside in
    let n = c.args.number in
    let taken : is_empty (row_at i.rows.rows n) ≡ false = not_empty n i.rows.rows i.names (ap (λ (t : Table). is_taken t.slots n) c.self.view_is ∙ c.requires.taken) in
    let same : key_of c.resized.result ≡ key_of (row_at i.rows.rows n) = c.resized.ensures.key ∙ ap key_of c.get-row.ensures in
    let says : (m : ℕ) (name : List ℕ) → row_in m c.resized.result name ≡ resized c.args.length c.args.moment (row_in m (row_at i.rows.rows n) name) = λ m name. c.resized.ensures.row m name ∙ ap (λ (row : Row). resized c.args.length c.args.moment (row_in m row name)) c.get-row.ensures in
    same_view (record i.rows { rows = with_at empty_row i.rows.rows n c.resized.result }) c.put.new.self i.names i.names c.put.ensures refl
    ∙ (ap (λ ss. record (table_of i.rows i.names) { slots = ss }) (change_slots i.rows i.names c.self.invariant n taken c.resized.result same (resized c.args.length c.args.moment) says)
    ∙ ap (λ (t : Table). record t { slots = with_change_at t.slots n (resized c.args.length c.args.moment) }) c.self.view_is)
