use Rattle.std.proofs.Common.{ℕ, ◌==◌, sym, ◌∙◌, ap}
use Rattle.std.specs.List.{list_any}
use Rattle.std.proofs.lemmas.List.Elements.{All-contains}
use Rattle.block_list.specs.Places.{index_of}
use Rattle.block_list.specs.Runs.{entries_of}
use Rattle.node_table.specs.Slots.{rows_of}
use Rattle.node_order.specs.Entries.{IsOwn}
use Rattle.node_order.specs.Order.{is_child_of}
use Rattle.node_order.proofs.Children.{childless_end, has_there}
use Rattle.node_order.proofs.Runs.{past_end}
use Rattle.node_order.proofs.order.lists_child.Goals as goal

pub returns-in-None-clause-value : goal.returns-in-None-clause-value
returns-in-None-clause-value g c =
    let runs = c.args.order.now.runs in
    let nodes = rows_of c.args.slots.now.slots in
    let place = c.first_from-place.ensures.place in
    childless_end nodes (entries_of runs) c.from.result (index_of runs c.first_from-place.result) c.requires.order place (past_end (entries_of runs) (index_of runs c.first_from-place.result) place.within (sym c.in-None.ensures.number))
    ∙ ap (λ (f : ℕ). list_any (λ n. is_child_of nodes n f) (entries_of runs)) c.from.ensures

pub returns-in-Some-clause-value : goal.returns-in-Some-clause-value
returns-in-Some-clause-value g c =
    let runs = c.args.order.now.runs in
    let nodes = rows_of c.args.slots.now.slots in
    let own = All-contains (IsOwn nodes) c.args.order.now.entries c.in-Some.entry c.requires.entries.each c.in-Some.ensures.listed in
    c.is_child.ensures.value
    ∙ (ap (λ (p : ℕ). p == c.args.folder) own.parent_is
    ∙ (ap (λ (f : ℕ). own.row.parent == f) (sym c.from.ensures)
    ∙ (has_there nodes (entries_of runs) c.from.result (index_of runs c.first_from-place.result) _ own.row c.requires.order c.first_from-place.ensures.place (sym c.in-Some.ensures.number) own.found
    ∙ ap (λ (f : ℕ). list_any (λ n. is_child_of nodes n f) (entries_of runs)) c.from.ensures)))
