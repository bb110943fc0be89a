use Rattle.std.proofs.Common.{length, ap, arith}
use Rattle.quota_usage.proofs.ClimbLaws.{height_most}
use Rattle.quota_usage.proofs.climb.height.Goals as goal

pub loop-at-init : goal.loop-at-init
loop-at-init g c = record { so_far = omega (arith, ap length c.way_up-way.ensures); looks = omega (arith, ap length c.way_up-way.ensures) }

pub prove-unreachable-requires : goal.prove-unreachable-requires
prove-unreachable-requires g c =
    omega (arith, ap length c.in-Some.ensures.some, height_most c.args.tree.now.nodes c.args.node, c.loop-at.invariant.so_far, c.count-count.ensures, c.if-prove.true)

pub loop-at-preserved : goal.loop-at-preserved
loop-at-preserved g c = record {
  so_far = omega (arith, ap length c.in-Some.ensures.some, c.loop-at.invariant.so_far);
  looks = omega (arith, c.in-Some.ensures.count, c.loop-at.invariant.looks);
}

pub returns-clause-value : goal.returns-clause-value
returns-clause-value g c = omega (arith, ap length c.in_default.ensures.none, c.loop-at.invariant.so_far)
