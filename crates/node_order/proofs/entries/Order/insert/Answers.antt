use Rattle.std.proofs.Common.{◌≡◌, ◌<◌, ◌∙◌, ap, arith, insert, length, subst, sym}
use Rattle.block_list.specs.Places.{IsGap, index_of}
use Rattle.block_list.specs.Runs.{entries_of}
use Rattle.node_order.specs.Entries.{Sequence, numbers_in}
use Rattle.node_order.proofs.EntryRuns.{gap_in, index-numbers, inserted_numbers, size-numbers}
use Rattle.node_order.proofs.entries.Order.insert.Goals as goal

pub insert-requires-clause-room : goal.insert-requires-clause-room
insert-requires-clause-room c =
    let few = subst (λ (v : Sequence). length (entries_of v.runs) < v.room) (sym c.self.view_is) c.requires.room in
    omega (arith, few, size-numbers c.self.inside.list.runs)

pub insert-requires-clause-place : goal.insert-requires-clause-place
insert-requires-clause-place c = gap_in c.self.inside.list.runs c.args.place (subst (λ (v : Sequence). IsGap v.runs c.args.place) (sym c.self.view_is) c.requires.place)

pub returns-clause-room : goal.returns-clause-room
returns-clause-room c = c.insert.ensures.room ∙ ap (λ (v : Sequence). v.room) c.self.view_is

pub returns-clause-numbers : goal.returns-clause-numbers
returns-clause-numbers c =
    let new = c.insert.new.self.runs in
    subst (λ (v : Sequence). entries_of (numbers_in new) ≡ insert (entries_of v.runs) (index_of v.runs c.args.place) c.args.entry.node) c.self.view_is
    (inserted_numbers c.self.inside.list.runs new c.args.place c.args.entry c.insert.ensures.entries)

pub returns-clause-entries : goal.returns-clause-entries
returns-clause-entries c =
    let runs = c.self.inside.list.runs in
    let place = c.args.place in
    subst (λ (v : Sequence). entries_of c.insert.new.self.runs ≡ insert v.entries (index_of v.runs place) c.args.entry) c.self.view_is
    (c.insert.ensures.entries ∙ ap (λ n. insert (entries_of runs) n c.args.entry) (sym (index-numbers runs place)))
