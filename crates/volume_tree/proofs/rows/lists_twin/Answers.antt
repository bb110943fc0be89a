use Rattle.std.proofs.Common.{◌≡◌, Some, None, slice_get, option_map, subst, sym, ◌∙◌, ap, refl}
use Rattle.std.proofs.lemmas.Option.{same_Some}
use Rattle.block_list.specs.Places.{index_of}
use Rattle.block_list.specs.Runs.{entries_of}
use Rattle.node_order.specs.Entries.{IsOwn, number_in}
use Rattle.node_order.proofs.ListLaws.{place_in}
use Rattle.node_table.specs.Views.{seen}
use Rattle.volume_tree.specs.Kept.{rows_of}
use Rattle.volume_tree.proofs.late.RowsTwins.{entry_place, is_twin, none_some, not_twin, place_lacks, unlike}
use Rattle.volume_tree.proofs.rows.lists_twin.Goals as goal

pub late_place-place-requires-clause-own : goal.late_place-place-requires-clause-own
late_place-place-requires-clause-own c =
    subst (IsOwn (rows_of c.args.slots.now.slots)) (sym c.at-entry.ensures) (record { row = seen c.args.row.now; found = c.requires.there; parent_is = refl; prefix_is = refl })

pub returns-in-Some-clause-twin : goal.returns-in-Some-clause-twin
returns-in-Some-clause-twin c = is_twin (rows_of c.args.slots.now.slots) c.args.row.now c.in-Some.other.node c.is_twin.result c.is_twin.ensures

pub returns-in-Some-clause-none : goal.returns-in-Some-clause-none
returns-in-Some-clause-none c =
    λ e.
    let nodes = rows_of c.args.slots.now.slots in
    let runs = c.args.order.now.runs in
    let row = c.args.row.now in
    let place = index_of runs c.late_place-place.result in
    let at : slice_get (entries_of runs) place ≡ Some c.in-Some.other.node = sym c.entry_at.ensures.number ∙ ap (option_map number_in) c.in-Some.is in
    place_lacks nodes (entries_of runs) row.parent row.name.now place c.requires.order
    (entry_place nodes (entries_of runs) row c.at-entry.result place c.requires.there c.at-entry.ensures c.late_place-place.ensures.place)
    (λ n stands. not_twin nodes row c.in-Some.other.node n c.is_twin.result c.is_twin.ensures e (same_Some _ _ (sym at ∙ stands)) (unlike (entries_of runs) n row.number (place_in (entries_of runs) place n stands) c.requires.other))

pub returns-in-None-clause-none : goal.returns-in-None-clause-none
returns-in-None-clause-none c =
    λ e.
    let nodes = rows_of c.args.slots.now.slots in
    let runs = c.args.order.now.runs in
    let row = c.args.row.now in
    let place = index_of runs c.late_place-place.result in
    let at : slice_get (entries_of runs) place ≡ None = sym c.entry_at.ensures.number ∙ ap (option_map number_in) c.in-None.is in
    place_lacks nodes (entries_of runs) row.parent row.name.now place c.requires.order
    (entry_place nodes (entries_of runs) row c.at-entry.result place c.requires.there c.at-entry.ensures c.late_place-place.ensures.place)
    (λ n stands. absurd (none_some (slice_get (entries_of runs) place) n at stands))
