use Rattle.std.proofs.Common.{◌≡◌, ap, arith, Contains, length, slice_get, Some, subst}
use Rattle.block_list.specs.Runs.{entries_of, start_of}
use Rattle.node_order.specs.Entries.{Sequence, numbers_in}
use Rattle.node_order.proofs.EntryRuns.{contains_read, count-numbers, get-numbers, start-numbers}
use Rattle.node_order.proofs.entries.Order.first.Goals as goal

pub first-requires : goal.first-requires
first-requires c = omega (arith, c.requires, count-numbers c.self.inside.list.runs, ap (λ (v : Sequence). length v.runs) c.self.view_is)

pub returns-clause-number : goal.returns-clause-number
returns-clause-number c =
    let runs = c.self.inside.list.runs in
    let run = c.args.run in
    subst (λ (v : Sequence). slice_get (entries_of v.runs) (start_of v.runs run) ≡ Some c.first.result.node) c.self.view_is
    (get-numbers runs (start_of runs run) (start_of (numbers_in runs) run) c.first.result (start-numbers runs run) c.first.ensures)

pub returns-clause-listed : goal.returns-clause-listed
returns-clause-listed c =
    let runs = c.self.inside.list.runs in
    subst (λ (v : Sequence). Contains v.entries c.first.result) c.self.view_is (contains_read (entries_of runs) (start_of runs c.args.run) c.first.result c.first.ensures)
