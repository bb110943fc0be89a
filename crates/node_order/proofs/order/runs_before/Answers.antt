use Rattle.std.proofs.Common.{◌≡◌, ◌+◌, ◌-◌, ◌/◌, sym, subst, arith}
use Rattle.block_list.specs.Runs.{entries_of, start_of}
use Rattle.node_table.specs.Slots.{rows_of}
use Rattle.node_order.specs.Order.{IsBeyond}
use Rattle.node_order.proofs.Narrowed.{AreRunsLeft, runs_left}
use Rattle.node_order.proofs.Spans.{named_place}
use Rattle.node_order.proofs.order.runs_before.Goals as goal

pub loop-size-preserved : goal.loop-size-preserved
loop-size-preserved g c =
    let stands = c.in-Some.ensures.stands in
    subst (AreRunsLeft (rows_of c.args.slots.now.slots) c.args.order.now.runs c.args.folder c.args.name.now c.args.steps.now (c.loop-size.low + c.passed-low.result) (c.loop-size.size / 2)) (sym c.in-Some.ensures.count)
    (runs_left (rows_of c.args.slots.now.slots) c.args.order.now.runs c.args.folder c.args.name.now c.args.steps.now c.loop-size.low c.loop-size.size c.loop-size.steps c.passed-low.result c.first.result.node c.in-Some.before stands.row
    c.requires.order c.loop-size.invariant c.loop-size-test.true c.first.ensures.number stands.found stands.before_is stands.other c.passed-low.ensures)

pub returns-in_default-clause-taken : goal.returns-in_default-clause-taken
returns-in_default-clause-taken g c =
    let stands = c.in_default.ensures.stands in
    named_place (rows_of c.args.slots.now.slots) (entries_of c.args.order.now.runs) c.args.folder c.args.name.now (start_of c.args.order.now.runs (c.loop-size.low + (c.loop-size.size - 1) / 2)) c.requires.order
    (record { number = c.first.result.node; row = stands.row; at = c.first.ensures.number; found = stands.found; named = stands.named })

pub returns-clause-beyond : goal.returns-clause-beyond
returns-clause-beyond g c =
    let same : c.loop-size.low + c.loop-size.size ≡ c.loop-size.low = omega arith in
    subst (λ k. IsBeyond (rows_of c.args.slots.now.slots) (entries_of c.args.order.now.runs) c.args.folder c.args.name.now (start_of c.args.order.now.runs k)) same c.loop-size.invariant.beyond
