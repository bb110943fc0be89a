use Rattle.std.proofs.Common.{◌≡◌, ◌+◌, ap, arith}
use Rattle.block_list.specs.Runs.{start_of}
use Rattle.block_list.proofs.Joined.{entries_more, gap_within}
use Rattle.node_order.proofs.Runs.{starts_rise}
use Rattle.node_order.proofs.segments.between.Goals as goal

pub returns-then-first-end : goal.returns-then-first-end
returns-then-first-end c =
    let runs = c.args.order.now.runs in
    omega (arith, starts_rise runs (c.args.end.run + 1) c.args.first.run (omega arith), entries_more runs c.args.end.run (omega (arith, c.requires.first.run)), c.requires.end.offset, c.requires.ordered)

pub loop-run-init : goal.loop-run-init
loop-run-init c = omega arith

pub overflow_add-count : goal.overflow_add-count
overflow_add-count c =
    let runs = c.args.order.now.runs in
    omega (arith, starts_rise runs (c.loop-run.run + 1) c.args.end.run (omega arith), gap_within runs c.args.end c.requires.end, c.requires.few, c.run.ensures.next, c.loop-run.invariant)

pub loop-run-preserved : goal.loop-run-preserved
loop-run-preserved c = omega (arith, c.run.ensures.next, c.loop-run.invariant)

pub overflow_sub-result : goal.overflow_sub-result
overflow_sub-result c =
    let last : c.loop-run.run ≡ c.args.end.run = omega arith in
    omega (arith, ap (λ run. start_of c.args.order.now.runs run) last, c.loop-run.invariant, c.requires.ordered)

pub returns : goal.returns
returns c =
    let last : c.loop-run.run ≡ c.args.end.run = omega arith in
    omega (arith, ap (λ run. start_of c.args.order.now.runs run) last, c.loop-run.invariant, c.requires.ordered)
