use Rattle.std.proofs.Common.{ℕ, List, length, ap, subst, arith}
use Rattle.fsrm_base.specs.Numbers.{is_in}
use Rattle.fsrm_parts.specs.Crossing.{Drops}
use Rattle.fsrm_parts.proofs.settling.ClimbNotes.{drop_ended, drop_next}
use Rattle.fsrm_parts.proofs.charging.drop_above.Goals as goal

pub loop-at-init : goal.loop-at-init
loop-at-init g c =
    let is = c.way_up-way.ensures in
    record {
      dropped = λ end rest. subst (λ (ns : List ℕ). Drops c.args.crossing.now end c.args.objects.now.quotas (λ q. is_in ns q.folder)) is rest;
      looks = omega (arith, ap length is);
    }

pub loop-at-preserved : goal.loop-at-preserved
loop-at-preserved g c =
    let l = c.loop-at in
    record {
      dropped = λ end rest.
          l.invariant.dropped end (drop_next c.in-Some.at c.next.new.self l.way c.in-Some.ensures.some l.crossing c.drop_noted.new.crossing end c.args.objects.now.quotas c.drop_noted.ensures rest);
      looks = omega (arith, c.in-Some.ensures.count, l.invariant.looks);
    }

pub returns-clause-dropped : goal.returns-clause-dropped
returns-clause-dropped g c =
    c.loop-at.invariant.dropped c.loop-at.crossing (drop_ended c.loop-at.way c.in_default.ensures.none c.loop-at.crossing c.args.objects.now.quotas)
