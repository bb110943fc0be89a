-- The old name's key is released before the new name is stored.
use Rattle.std.proofs.Common.{◌≡◌, ◌+◌, ◌<◌, ◌≤◌, false, None, Some, sym, ◌∙◌, ap, subst, length}
use Rattle.fsrm_model.specs.nodes.FileOps.{placed}
use Rattle.fsrm_model.specs.nodes.Tree.{name_bytes}
use Rattle.name_region.specs.Contents.{Contents, is_live, live_count, text_of, used, with_text}
use Rattle.node_table.specs.declared.row.Row.{Row}
use Rattle.node_table.specs.Kept.{name_under, table_of}
use Rattle.node_table.specs.Rows.{empty_row, is_empty, row_at, row_in}
use Rattle.node_table.specs.Slots.{is_taken, rows_of, with_at, with_change_at}
use Rattle.node_table.specs.Table.{Table}
use Rattle.node_table.proofs.SlotLaws.{not_empty}
use Rattle.node_table.proofs.TableLaws.{below_room, held_at, key_fits, name_fits, names_without, node_in, place_slots, place_table, same_table, same_view}
use Rattle.node_table.proofs.table.NodeTable.set_place.Goals as goal

pub get-row-requires : goal.get-row-requires
get-row-requires c = let i = c.self.inside in not_empty c.args.number i.rows.rows i.names (ap (λ (t : Table). is_taken t.slots c.args.number) c.self.view_is ∙ c.requires.taken)

pub release-requires : goal.release-requires
release-requires c =
    let i = c.self.inside in
    let taken : is_empty (row_at i.rows.rows c.args.number) ≡ false = not_empty c.args.number i.rows.rows i.names (ap (λ (t : Table). is_taken t.slots c.args.number) c.self.view_is ∙ c.requires.taken) in
    ap (λ (row : Row). is_live i.names row.name) c.get-row.ensures ∙ (held_at i.rows i.names c.args.number c.self.invariant taken).live

pub store-key-requires-clause-room : goal.store-key-requires-clause-room
store-key-requires-clause-room c =
    let i = c.self.inside in
    let n = c.args.number in
    let name = c.args.name.now in
    let taken : is_empty (row_at i.rows.rows n) ≡ false = not_empty n i.rows.rows i.names (ap (λ (t : Table). is_taken t.slots n) c.self.view_is ∙ c.requires.taken) in
    let names : c.release.new.self ≡ names_without i.rows i.names n = c.release.ensures ∙ ap (λ (row : Row). with_text i.names row.name None) c.get-row.ensures in
    let room = subst (λ (t : Table). name_bytes (rows_of (with_change_at t.slots n (placed c.args.folder name))) ≤ t.names) (sym c.self.view_is) c.requires.room in
    subst (λ (held : Contents). used held + length name ≤ held.bytes) (sym names) (name_fits i.rows i.names c.self.invariant n taken (placed c.args.folder name) room)

pub store-key-requires-clause-few : goal.store-key-requires-clause-few
store-key-requires-clause-few c =
    let i = c.self.inside in
    let n = c.args.number in
    let taken : is_empty (row_at i.rows.rows n) ≡ false = not_empty n i.rows.rows i.names (ap (λ (t : Table). is_taken t.slots n) c.self.view_is ∙ c.requires.taken) in
    let names : c.release.new.self ≡ names_without i.rows i.names n = c.release.ensures ∙ ap (λ (row : Row). with_text i.names row.name None) c.get-row.ensures in
    subst (λ (held : Contents). live_count held < length held.texts) (sym names) (key_fits i.rows i.names c.self.invariant n taken)

pub placed-requires : goal.placed-requires
placed-requires c =
    let i = c.self.inside in
    ap is_empty c.get-row.ensures ∙ not_empty c.args.number i.rows.rows i.names (ap (λ (t : Table). is_taken t.slots c.args.number) c.self.view_is ∙ c.requires.taken)

pub put-requires : goal.put-requires
put-requires c =
    let i = c.self.inside in
    let taken : is_empty (row_at i.rows.rows c.args.number) ≡ false = not_empty c.args.number i.rows.rows i.names (ap (λ (t : Table). is_taken t.slots c.args.number) c.self.view_is ∙ c.requires.taken) in
    below_room i.rows i.names c.args.number c.self.invariant taken

pub invariant_of-self : goal.invariant_of-self
invariant_of-self c =
    let i = c.self.inside in
    let n = c.args.number in
    let k = c.store-key.result in
    let name = c.args.name.now in
    let taken : is_empty (row_at i.rows.rows n) ≡ false = not_empty n i.rows.rows i.names (ap (λ (t : Table). is_taken t.slots n) c.self.view_is ∙ c.requires.taken) in
    let names : c.release.new.self ≡ names_without i.rows i.names n = c.release.ensures ∙ ap (λ (row : Row). with_text i.names row.name None) c.get-row.ensures in
    let within : k < length (names_without i.rows i.names n).texts = subst (λ (held : Contents). k < length held.texts) names c.store-key.ensures.key in
    let dead : text_of (names_without i.rows i.names n) k ≡ None = subst (λ (held : Contents). text_of held k ≡ None) names c.store-key.ensures.dead in
    let says : row_in n c.placed.result name ≡ placed c.args.folder name (node_in i.rows i.names n) =
    c.placed.ensures.row n (name_under i.names (row_at i.rows.rows n).name) name ∙ ap (λ (row : Row). placed c.args.folder name (row_in n row (name_under i.names (row_at i.rows.rows n).name))) c.get-row.ensures in
    let stored : c.store-key.new.names ≡ with_text (names_without i.rows i.names n) k (Some name) = c.store-key.ensures.stored ∙ ap (λ (held : Contents). with_text held k (Some name)) names in
    same_table (record i.rows { rows = with_at empty_row i.rows.rows n c.placed.result }) c.put.new.self (with_text (names_without i.rows i.names n) k (Some name)) c.store-key.new.names c.put.ensures stored
    (place_table i.rows i.names c.self.invariant n taken k c.placed.result (placed c.args.folder name) within dead c.placed.ensures.key says)

pub returns : goal.returns
returns c =
    let i = c.self.inside in
    let n = c.args.number in
    let k = c.store-key.result in
    let name = c.args.name.now in
    let taken : is_empty (row_at i.rows.rows n) ≡ false = not_empty n i.rows.rows i.names (ap (λ (t : Table). is_taken t.slots n) c.self.view_is ∙ c.requires.taken) in
    let names : c.release.new.self ≡ names_without i.rows i.names n = c.release.ensures ∙ ap (λ (row : Row). with_text i.names row.name None) c.get-row.ensures in
    let within : k < length (names_without i.rows i.names n).texts = subst (λ (held : Contents). k < length held.texts) names c.store-key.ensures.key in
    let dead : text_of (names_without i.rows i.names n) k ≡ None = subst (λ (held : Contents). text_of held k ≡ None) names c.store-key.ensures.dead in
    let says : row_in n c.placed.result name ≡ placed c.args.folder name (node_in i.rows i.names n) =
    c.placed.ensures.row n (name_under i.names (row_at i.rows.rows n).name) name ∙ ap (λ (row : Row). placed c.args.folder name (row_in n row (name_under i.names (row_at i.rows.rows n).name))) c.get-row.ensures in
    let stored : c.store-key.new.names ≡ with_text (names_without i.rows i.names n) k (Some name) = c.store-key.ensures.stored ∙ ap (λ (held : Contents). with_text held k (Some name)) names in
    same_view (record i.rows { rows = with_at empty_row i.rows.rows n c.placed.result }) c.put.new.self (with_text (names_without i.rows i.names n) k (Some name)) c.store-key.new.names c.put.ensures stored
    ∙ (ap (λ ss. record (table_of i.rows i.names) { slots = ss }) (place_slots i.rows i.names c.self.invariant n taken k c.placed.result (placed c.args.folder name) within dead c.placed.ensures.key says)
    ∙ ap (λ (t : Table). record t { slots = with_change_at t.slots n (placed c.args.folder name) }) c.self.view_is)
