use Rattle.std.proofs.Common.{◌≡◌, ◌∙◌, ap, remove, subst, sym}
use Rattle.block_list.specs.Places.{IsEntry, index_of}
use Rattle.block_list.specs.Runs.{entries_of}
use Rattle.node_order.specs.Entries.{Sequence, numbers_in}
use Rattle.node_order.proofs.EntryRuns.{entry_in, index-numbers, removed_numbers}
use Rattle.node_order.proofs.entries.Order.remove.Goals as goal

pub remove-requires : goal.remove-requires
remove-requires c = entry_in c.self.inside.list.runs c.args.place (subst (λ (v : Sequence). IsEntry v.runs c.args.place) (sym c.self.view_is) c.requires)

pub returns-clause-room : goal.returns-clause-room
returns-clause-room c = c.remove.ensures.room ∙ ap (λ (v : Sequence). v.room) c.self.view_is

pub returns-clause-numbers : goal.returns-clause-numbers
returns-clause-numbers c =
    let new = c.remove.new.self.runs in
    subst (λ (v : Sequence). entries_of (numbers_in new) ≡ remove (entries_of v.runs) (index_of v.runs c.args.place)) c.self.view_is
    (removed_numbers c.self.inside.list.runs new c.args.place c.remove.ensures.entries)

pub returns-clause-entries : goal.returns-clause-entries
returns-clause-entries c =
    let runs = c.self.inside.list.runs in
    let place = c.args.place in
    subst (λ (v : Sequence). entries_of c.remove.new.self.runs ≡ remove v.entries (index_of v.runs place)) c.self.view_is
    (c.remove.ensures.entries ∙ ap (remove (entries_of runs)) (sym (index-numbers runs place)))
