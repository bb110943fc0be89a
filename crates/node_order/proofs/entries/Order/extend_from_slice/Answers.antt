use Rattle.std.proofs.Common.{◌≡◌, ◌+◌, ◌≤◌, ◌++◌, ◌∙◌, ap, arith, length, map, subst, sym}
use Rattle.block_list.specs.Runs.{entries_of}
use Rattle.node_order.specs.Entries.{Sequence, number_in, numbers_in}
use Rattle.node_order.proofs.EntryRuns.{added_numbers, size-numbers}
use Rattle.node_order.proofs.entries.Order.extend_from_slice.Goals as goal

pub extend_from_slice-requires : goal.extend_from_slice-requires
extend_from_slice-requires c =
    let few = subst (λ (v : Sequence). length (entries_of v.runs) + length c.args.entries.now ≤ v.room) (sym c.self.view_is) c.requires in
    omega (arith, few, size-numbers c.self.inside.list.runs)

pub returns-clause-room : goal.returns-clause-room
returns-clause-room c = c.extend_from_slice.ensures.room ∙ ap (λ (v : Sequence). v.room) c.self.view_is

pub returns-clause-numbers : goal.returns-clause-numbers
returns-clause-numbers c =
    let new = c.extend_from_slice.new.self.runs in
    subst (λ (v : Sequence). entries_of (numbers_in new) ≡ entries_of v.runs ++ map number_in c.args.entries.now) c.self.view_is
    (added_numbers c.self.inside.list.runs new c.args.entries.now c.extend_from_slice.ensures.entries)

pub returns-clause-entries : goal.returns-clause-entries
returns-clause-entries c =
    subst (λ (v : Sequence). entries_of c.extend_from_slice.new.self.runs ≡ v.entries ++ c.args.entries.now) c.self.view_is c.extend_from_slice.ensures.entries
