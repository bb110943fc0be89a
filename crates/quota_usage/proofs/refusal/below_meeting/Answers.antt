use Rattle.std.proofs.Common.{◌≡◌, ◌<◌, ◌≤◌, true, length, sym, ◌∙◌, subst, arith}
use Rattle.fsrm_model.specs.nodes.Tree.{chain, is_under}
use Rattle.fsrm_model.proofs.nodes.Climbs.{under_own}
use Rattle.fsrm_base.proofs.TestLaws.{clash}
use Rattle.quota_usage.specs.Climb.{moved_refusal}
use Rattle.quota_usage.proofs.ClimbLaws.{step_up, passes_up, first_here}
use Rattle.quota_usage.proofs.Meetings.{from_inner, to_inner, not_from, common_from, common_to, moved_at}
use Rattle.quota_usage.proofs.refusal.below_meeting.Goals as goal

pub loop-at_from-init : goal.loop-at_from-init
loop-at_from-init g c =
    let nodes = c.args.tree.now.nodes in
    record {
      from_there = c.requires.from;
      to_there = c.requires.to;
      from_on = under_own nodes c.args.from;
      to_on = under_own nodes c.args.to;
      from_high = c.height-from_height.ensures.value;
      to_high = c.height-to_height.ensures.value;
      common = λ f on above. on;
      below = λ minus f on off. absurd (clash _ on off);
      looks = omega (arith, c.height-from_height.ensures.looks, c.height-to_height.ensures.looks);
    }

pub loop-at_from-smaller-then-to_height-from_height : goal.loop-at_from-smaller-then-to_height-from_height
loop-at_from-smaller-then-to_height-from_height g c =
    let nodes = c.args.tree.now.nodes in
    let l = c.loop-at_from.invariant in
    let lower : length (chain nodes c.loop-at_from.at_to) < length (chain nodes c.loop-at_from.at_from) = omega (arith, l.from_high, l.to_high, c.if-to_height-from_height.true) in
    let inner = from_inner nodes c.loop-at_from.at_from c.loop-at_from.at_to lower in
    let step = step_up nodes c.requires.tree c.loop-at_from.at_from c.parent-at_from.result l.from_there inner c.parent-at_from.ensures.value in
    omega (arith, step.lower)

pub loop-at_from-preserved-then-to_height-from_height : goal.loop-at_from-preserved-then-to_height-from_height
loop-at_from-preserved-then-to_height-from_height g c =
    let nodes = c.args.tree.now.nodes in
    let l = c.loop-at_from.invariant in
    let t = c.requires.tree in
    let is = c.parent-at_from.ensures.value in
    let lower : length (chain nodes c.loop-at_from.at_to) < length (chain nodes c.loop-at_from.at_from) = omega (arith, l.from_high, l.to_high, c.if-to_height-from_height.true) in
    let inner = from_inner nodes c.loop-at_from.at_from c.loop-at_from.at_to lower in
    let step = step_up nodes t c.loop-at_from.at_from c.parent-at_from.result l.from_there inner is in
    record {
      from_there = step.there;
      to_there = l.to_there;
      from_on = step.on c.args.from c.requires.from l.from_on;
      to_on = l.to_on;
      from_high = omega (arith, step.lower, l.from_high);
      to_high = l.to_high;
      common = common_from nodes t c.args.from c.loop-at_from.at_from c.loop-at_from.at_to c.parent-at_from.result l.from_there l.to_there c.loop-at_from-test.true lower is l.common;
      below = l.below;
      looks = omega (arith, step.lower, l.looks, c.parent-at_from.ensures.count);
    }

pub judge-requires : goal.judge-requires
judge-requires g c =
    let nodes = c.args.tree.now.nodes in
    let l = c.loop-at_from.invariant in
    let higher : length (chain nodes c.loop-at_from.at_from) ≤ length (chain nodes c.loop-at_from.at_to) = omega (arith, l.from_high, l.to_high, c.if-to_height-from_height.false) in
    let off = not_from nodes c.requires.tree c.args.from c.loop-at_from.at_from c.loop-at_from.at_to l.from_there l.to_there c.loop-at_from-test.true higher l.common in
    λ bytes used. c.requires.fits c.loop-at_from.at_to bytes l.to_on off used

pub returns-in-Some-clause-refused : goal.returns-in-Some-clause-refused
returns-in-Some-clause-refused g c =
    let nodes = c.args.tree.now.nodes in
    let l = c.loop-at_from.invariant in
    let higher : length (chain nodes c.loop-at_from.at_from) ≤ length (chain nodes c.loop-at_from.at_to) = omega (arith, l.from_high, l.to_high, c.if-to_height-from_height.false) in
    let off = not_from nodes c.requires.tree c.args.from c.loop-at_from.at_from c.loop-at_from.at_to l.from_there l.to_there c.loop-at_from-test.true higher l.common in
    λ minus.
    first_here nodes (moved_refusal nodes c.args.objects.now.quotas c.args.counters.now c.args.from c.args.to minus c.args.plus) c.args.to c.loop-at_from.at_to c.in-Some.exceeded
    (sym (moved_at nodes c.args.objects.now.quotas c.args.counters.now c.args.from c.args.to minus c.args.plus c.loop-at_from.at_to off l.to_on ∙ (sym c.judge.ensures ∙ c.in-Some.is)))
    l.to_on (l.below minus)

pub loop-at_from-smaller : goal.loop-at_from-smaller
loop-at_from-smaller g c =
    let nodes = c.args.tree.now.nodes in
    let l = c.loop-at_from.invariant in
    let higher : length (chain nodes c.loop-at_from.at_from) ≤ length (chain nodes c.loop-at_from.at_to) = omega (arith, l.from_high, l.to_high, c.if-to_height-from_height.false) in
    let inner = to_inner nodes c.requires.tree c.loop-at_from.at_from c.loop-at_from.at_to l.from_there c.loop-at_from-test.true higher in
    let step = step_up nodes c.requires.tree c.loop-at_from.at_to c.parent-at_to.result l.to_there inner c.parent-at_to.ensures.value in
    omega (arith, step.lower)

pub loop-at_from-preserved : goal.loop-at_from-preserved
loop-at_from-preserved g c =
    let nodes = c.args.tree.now.nodes in
    let l = c.loop-at_from.invariant in
    let t = c.requires.tree in
    let is = c.parent-at_to.ensures.value in
    let higher : length (chain nodes c.loop-at_from.at_from) ≤ length (chain nodes c.loop-at_from.at_to) = omega (arith, l.from_high, l.to_high, c.if-to_height-from_height.false) in
    let off = not_from nodes t c.args.from c.loop-at_from.at_from c.loop-at_from.at_to l.from_there l.to_there c.loop-at_from-test.true higher l.common in
    let inner = to_inner nodes t c.loop-at_from.at_from c.loop-at_from.at_to l.from_there c.loop-at_from-test.true higher in
    let step = step_up nodes t c.loop-at_from.at_to c.parent-at_to.result l.to_there inner is in
    record {
      from_there = l.from_there;
      to_there = step.there;
      from_on = l.from_on;
      to_on = step.on c.args.to c.requires.to l.to_on;
      from_high = l.from_high;
      to_high = omega (arith, step.lower, l.to_high);
      common = common_to nodes t c.args.from c.loop-at_from.at_from c.loop-at_from.at_to c.parent-at_to.result l.to_there inner is l.common;
      below = λ minus.
          passes_up nodes t (moved_refusal nodes c.args.objects.now.quotas c.args.counters.now c.args.from c.args.to minus c.args.plus) c.args.to c.loop-at_from.at_to c.parent-at_to.result l.to_there inner is
          (moved_at nodes c.args.objects.now.quotas c.args.counters.now c.args.from c.args.to minus c.args.plus c.loop-at_from.at_to off l.to_on ∙ (sym c.judge.ensures ∙ c.in_default.is))
          (l.below minus);
      looks = omega (arith, step.lower, l.looks, c.parent-at_to.ensures.count);
    }

pub returns-clause-met : goal.returns-clause-met
returns-clause-met g c =
    let l = c.loop-at_from.invariant in
    λ minus. record {
      on_from = subst (λ n. is_under c.args.tree.now.nodes n c.args.from ≡ true) c.loop-at_from-test.false l.from_on;
      on_to = l.to_on;
      below = l.below minus;
    }
