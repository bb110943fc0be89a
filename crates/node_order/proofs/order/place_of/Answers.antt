use Rattle.std.proofs.Common.{rules, ◌≡◌, ◌+◌, subst, arith}
use Rattle.block_list.specs.Runs.{entries_of, start_of}
use Rattle.node_table.specs.Slots.{rows_of}
use Rattle.node_order.specs.Order.{IsPlace}
use Rattle.node_order.proofs.order.place_of.Goals as goal

pub returns-in-Ok-clause-taken : goal.returns-in-Ok-clause-taken
returns-in-Ok-clause-taken g c =
    let runs = c.args.order.now.runs in
    let same : start_of runs c.in-Ok.run' ≡ start_of runs c.in-Ok.run' + 0 = omega arith in
    let taken : IsPlace (rows_of c.args.slots.now.slots) (entries_of runs) c.args.folder c.args.name.now (start_of runs c.in-Ok.run') = search rules in
    subst (IsPlace (rows_of c.args.slots.now.slots) (entries_of runs) c.args.folder c.args.name.now) same taken
