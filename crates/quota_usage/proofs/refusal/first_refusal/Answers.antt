use Rattle.std.proofs.Common.{ℕ, List, length, sym, ◌∙◌, ap, arith}
use Rattle.fsrm_base.specs.Numbers.{is_in}
use Rattle.quota_usage.specs.Climb.{refusal_of}
use Rattle.quota_usage.proofs.ClimbLaws.{fits_first, fits_later, first_in, first_goes, first_stops, nearest}
use Rattle.quota_usage.proofs.refusal.first_refusal.Goals as goal

pub loop-at-init : goal.loop-at-init
loop-at-init g c =
    let is = c.way_up-way.ensures in
    record {
      fits = record { fits = λ folder bytes on used. c.requires.fits.fits folder bytes (sym (ap (λ (ns : List ℕ). is_in ns folder) is) ∙ on) used };
      first = ap (first_in (refusal_of c.args.objects.now.quotas c.args.counters.now c.args.minus c.args.plus)) is;
      looks = omega (arith, ap length is);
    }

pub judge-refusal-requires : goal.judge-refusal-requires
judge-refusal-requires g c =
    fits_first c.args.counters.now c.loop-at.way c.next.new.self c.in-Some.at c.args.minus c.args.plus c.in-Some.ensures.some c.loop-at.invariant.fits

pub returns-then-is_some-clause-nearest : goal.returns-then-is_some-clause-nearest
returns-then-is_some-clause-nearest g c =
    let refusal = refusal_of c.args.objects.now.quotas c.args.counters.now c.args.minus c.args.plus in
    nearest c.args.tree.now.nodes c.requires.tree refusal c.args.start c.judge-refusal.result c.requires.there
    (sym (first_stops refusal c.loop-at.way c.next.new.self c.in-Some.at c.judge-refusal.result _ c.in-Some.ensures.some c.judge-refusal.ensures (sym c.is_some.ensures ∙ c.if-is_some.true) c.loop-at.invariant.first))

pub loop-at-preserved : goal.loop-at-preserved
loop-at-preserved g c =
    let refusal = refusal_of c.args.objects.now.quotas c.args.counters.now c.args.minus c.args.plus in
    record {
      fits = fits_later c.args.counters.now c.loop-at.way c.next.new.self c.in-Some.at c.args.minus c.args.plus c.in-Some.ensures.some c.loop-at.invariant.fits;
      first = first_goes refusal c.loop-at.way c.next.new.self c.in-Some.at c.judge-refusal.result _ c.in-Some.ensures.some c.judge-refusal.ensures (sym c.is_some.ensures ∙ c.if-is_some.false) c.loop-at.invariant.first;
      looks = omega (arith, c.in-Some.ensures.count, c.loop-at.invariant.looks);
    }

pub returns-clause-nearest : goal.returns-clause-nearest
returns-clause-nearest g c =
    let refusal = refusal_of c.args.objects.now.quotas c.args.counters.now c.args.minus c.args.plus in
    nearest c.args.tree.now.nodes c.requires.tree refusal c.args.start _ c.requires.there
    (sym c.loop-at.invariant.first ∙ ap (first_in refusal) c.in_default.ensures.none)
