use Rattle.std.proofs.Common.{◌≡◌, rules, refl, ap, sym, ◌∙◌, subst}
use Rattle.std.specs.Prelude.{option_map}
use Rattle.number_set.specs.Numbers.{Numbers, no_numbers}
use Rattle.number_set.proofs.TakenLaws.{first_in, none_first, none_taken, taken_is}
use Rattle.fsrm_parts.specs.Crossing.{gained_acts, used_before}
use Rattle.fsrm_parts.proofs.settling.SettledLaws.{Settled, at_place_has, gained_used, less_left, settled_all, settled_next, settled_none}
use Rattle.fsrm_parts.proofs.due.settle_noted.Goals as goal

pub loop-place-init : goal.loop-place-init
loop-place-init c = record {
  settled = settled_none (gained_acts c.args.usage.now c.args.gain.minus c.args.gain.plus c.args.run_limit c.args.gain.moment) c.args.gain.moment c.args.marks.now c.args.objects.now c.args.crossing.now.members c.requires.log c.requires.marked c.requires.noted c.requires.orderly c.requires.within;
  sorted = c.requires.sorted;
  bound = refl;
}

pub quota_at-requires : goal.quota_at-requires
quota_at-requires c = c.loop-place.invariant.settled.within c.in-Some.place (first_in c.in-Some.place c.loop-place.crossing.members (sym c.take_least.ensures.least ∙ c.in-Some.is))

pub settle-requires-clause-quota : goal.settle-requires-clause-quota
settle-requires-clause-quota c = at_place_has c.loop-place.objects.quotas c.in-Some.place c.quota_at.result.now c.loop-place.invariant.settled.orderly_now c.quota_at.ensures

pub settle-requires-clause-orderly : goal.settle-requires-clause-orderly
settle-requires-clause-orderly c = c.loop-place.invariant.settled.orderly_now

pub settle-requires-clause-marked : goal.settle-requires-clause-marked
settle-requires-clause-marked c = c.loop-place.invariant.settled.settles.there

pub loop-place-smaller : goal.loop-place-smaller
loop-place-smaller c =
    let least = sym c.take_least.ensures.least ∙ c.in-Some.is in
    let taken = taken_is c.loop-place.crossing c.take_least.new.self c.in-Some.place c.loop-place.invariant.settled.set least c.take_least.ensures.rest in
    less_left c.loop-place.crossing.members c.take_least.new.self.members c.in-Some.place least (ap (λ (n : Numbers). n.members) taken)

pub loop-place-preserved : goal.loop-place-preserved
loop-place-preserved c =
    let f = gained_acts c.args.usage.now c.args.gain.minus c.args.gain.plus c.args.run_limit c.args.gain.moment in
    let q = c.quota_at.result.now in
    let least = sym c.take_least.ensures.least ∙ c.in-Some.is in
    let taken = taken_is c.loop-place.crossing c.take_least.new.self c.in-Some.place c.loop-place.invariant.settled.set least c.take_least.ensures.rest in
    let before : c.map-before.result ≡ option_map (used_before c.args.gain.minus c.args.gain.plus) c.used-used.result = search rules in
    let is = gained_used c.args.usage.now c.args.gain.minus c.args.gain.plus c.args.run_limit c.args.gain.moment q c.map-before.result c.used-used.result c.used-used.ensures before in
    record {
      settled = subst (Settled f c.args.gain.moment c.args.marks.now c.settle.new.self c.args.objects.now c.settle.new.objects c.args.crossing.now.members) (sym (ap (λ (n : Numbers). n.members) taken))
          (settled_next f c.args.gain.moment c.args.marks.now c.loop-place.marks c.settle.new.self c.args.objects.now c.loop-place.objects c.settle.new.objects c.args.crossing.now.members c.loop-place.crossing.members c.in-Some.place q
          c.loop-place.invariant.settled least c.quota_at.ensures c.map-before.result c.used-used.result c.args.run_limit is c.settle.ensures.settled);
      sorted = c.settle.ensures.sorted;
      bound = ap (λ (n : Numbers). n.bound) c.take_least.ensures.rest ∙ c.loop-place.invariant.bound;
    }

pub returns-clause-settled : goal.returns-clause-settled
returns-clause-settled c =
    settled_all (gained_acts c.args.usage.now c.args.gain.minus c.args.gain.plus c.args.run_limit c.args.gain.moment) c.args.gain.moment c.args.marks.now c.loop-place.marks c.args.objects.now c.loop-place.objects c.args.crossing.now.members c.loop-place.crossing.members c.loop-place.invariant.settled
    (none_first c.loop-place.crossing.members (sym c.take_least.ensures.least ∙ c.in_default.is))

pub returns-clause-sorted : goal.returns-clause-sorted
returns-clause-sorted c = c.loop-place.invariant.sorted

pub returns-clause-none : goal.returns-clause-none
returns-clause-none c =
    let none = sym c.take_least.ensures.least ∙ c.in_default.is in
    none_taken c.loop-place.crossing c.take_least.new.self none c.take_least.ensures.rest
    ∙ (ap (λ ns. record c.loop-place.crossing { members = ns }) (none_first c.loop-place.crossing.members none) ∙ ap no_numbers c.loop-place.invariant.bound)
