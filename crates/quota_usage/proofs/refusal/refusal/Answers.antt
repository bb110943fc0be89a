use Rattle.std.proofs.Common.{Option, ℕ, ◌∙◌, sym, subst}
use Rattle.quota_usage.proofs.CounterLaws.{no_counters}
use Rattle.quota_usage.proofs.Refusals.{none_refuses}
use Rattle.quota_usage.specs.Climb.{refusal_of, refusal_at, IsNearestTo}
use Rattle.quota_usage.proofs.ChargeLaws.{given_fits}
use Rattle.quota_usage.proofs.Meetings.{given_at, nearest_same}
use Rattle.quota_usage.proofs.refusal.refusal.Goals as goal

pub first_refusal-requires-clause-fits : goal.first_refusal-requires-clause-fits
first_refusal-requires-clause-fits g c =
    let change = c.args.change.now in
    given_fits c.args.tree.now.nodes c.args.counters.now change.from change.to c.in-Some.to change.minus change.plus c.in-None.is c.in-Some.is c.requires.fits.fits

pub returns-in-None-clause-nearest : goal.returns-in-None-clause-nearest
returns-in-None-clause-nearest g c =
    let nodes = c.args.tree.now.nodes in
    let change = c.args.change.now in
    let quotas = c.args.objects.now.quotas in
    let counters = c.args.counters.now in
    subst (λ (o : Option ℕ). IsNearestTo nodes (refusal_at nodes quotas counters change) o c.first_refusal.result) (sym c.in-Some.is)
    (nearest_same nodes (refusal_of quotas counters 0 change.plus) (refusal_at nodes quotas counters change) c.in-Some.to c.first_refusal.result
    (λ f on. given_at nodes quotas counters change c.in-Some.to f c.in-None.is c.in-Some.is on)
    c.first_refusal.ensures.nearest)

pub returns-then-is_empty-clause-nearest : goal.returns-then-is_empty-clause-nearest
returns-then-is_empty-clause-nearest g c =
    none_refuses c.args.tree.now.nodes c.args.objects.now.quotas c.args.counters.now c.args.change.now c.args.change.now.to
    (no_counters c.args.counters.now (sym c.is_empty.ensures ∙ c.if-is_empty.true))
