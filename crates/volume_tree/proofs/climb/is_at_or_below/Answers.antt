use Rattle.std.proofs.Common.{length, ◌∙◌, ap, arith}
use Rattle.volume_tree.proofs.kept.LookLaws.{passes}
use Rattle.volume_tree.proofs.climb.is_at_or_below.Goals as goal

pub loop-at-preserved : goal.loop-at-preserved
loop-at-preserved g c =
    let next = passes c.args.node c.loop-at.way c.in-Some.at c.next.new.self c.in-Some.ensures.some c.if-at-node.false in
    record {
      same = next.same ∙ c.loop-at.invariant.same;
      count = omega (arith, next.one, c.loop-at.invariant.count, c.in-Some.ensures.count, ap length c.in-Some.ensures.some);
      looks = omega (arith, c.loop-at.invariant.looks, c.in-Some.ensures.count);
    }
