use Rattle.std.proofs.Common.{Some, ◌∙◌, ap}
use Rattle.quota_usage.specs.Climb.{refusal_of, moved_refusal, refusal_at}
use Rattle.quota_usage.proofs.ChargeLaws.{there, both_fits}
use Rattle.quota_usage.proofs.Meetings.{over, has_above, changed_at, both_at, nearest_same, nearest_met, meeting_same, below_fits, met_fits}
use Rattle.quota_usage.proofs.refusal.move_refusal.Goals as goal

pub first_refusal-requires-clause-fits : goal.first_refusal-requires-clause-fits
first_refusal-requires-clause-fits g c =
    let change = c.args.change.now in
    both_fits c.args.tree.now.nodes c.args.counters.now change.from change.to c.args.from c.args.to change.minus change.plus c.requires.from c.requires.to c.if-from-to.true c.requires.fits.fits

pub returns-then-from-to-clause-nearest : goal.returns-then-from-to-clause-nearest
returns-then-from-to-clause-nearest g c =
    let nodes = c.args.tree.now.nodes in
    let change = c.args.change.now in
    let quotas = c.args.objects.now.quotas in
    let counters = c.args.counters.now in
    nearest_same nodes (refusal_of quotas counters change.minus change.plus) (refusal_at nodes quotas counters change) c.args.to c.first_refusal.result
    (λ f on. both_at nodes quotas counters change c.args.to c.args.to f (c.requires.from ∙ ap Some c.if-from-to.true) c.requires.to on on)
    c.first_refusal.ensures.nearest

pub below_meeting-requires-clause-fits : goal.below_meeting-requires-clause-fits
below_meeting-requires-clause-fits g c =
    let change = c.args.change.now in
    below_fits c.args.tree.now.nodes c.args.counters.now change.from change.to c.args.from c.args.to change.minus change.plus c.requires.from c.requires.to c.requires.fits.fits

pub first_refusal-requires-in-Ok-clause-there : goal.first_refusal-requires-in-Ok-clause-there
first_refusal-requires-in-Ok-clause-there g c =
    let nodes = c.args.tree.now.nodes in
    has_above nodes c.requires.tree c.in-Ok.node c.args.to (there nodes c.args.change.now.to c.args.to c.requires.to c.requires.change.to) (c.in-Ok.ensures.met 0).on_to

pub first_refusal-requires-in-Ok-clause-fits : goal.first_refusal-requires-in-Ok-clause-fits
first_refusal-requires-in-Ok-clause-fits g c =
    let nodes = c.args.tree.now.nodes in
    let change = c.args.change.now in
    let m = c.in-Ok.ensures.met 0 in
    met_fits nodes c.requires.tree c.args.counters.now change.from change.to c.args.from c.args.to c.in-Ok.node change.minus change.plus c.requires.from c.requires.to
    (there nodes change.from c.args.from c.requires.from c.requires.change.from)
    (there nodes change.to c.args.to c.requires.to c.requires.change.to)
    m.on_from m.on_to c.requires.fits.fits

pub returns-in-Ok-clause-nearest : goal.returns-in-Ok-clause-nearest
returns-in-Ok-clause-nearest g c =
    let nodes = c.args.tree.now.nodes in
    let t = c.requires.tree in
    let change = c.args.change.now in
    let quotas = c.args.objects.now.quotas in
    let counters = c.args.counters.now in
    let refusal = refusal_at nodes quotas counters change in
    let from_there = there nodes change.from c.args.from c.requires.from c.requires.change.from in
    let to_there = there nodes change.to c.args.to c.requires.to c.requires.change.to in
    let m = meeting_same nodes (moved_refusal nodes quotas counters c.args.from c.args.to change.minus change.plus) refusal c.args.from c.args.to c.in-Ok.node
    (λ f. changed_at nodes quotas counters change c.args.from c.args.to f c.requires.from c.requires.to) (c.in-Ok.ensures.met change.minus) in
    nearest_met nodes t (refusal_of quotas counters change.minus change.plus) refusal c.args.from c.args.to c.in-Ok.node c.first_refusal-in-Ok.result to_there m
    (λ f on.
    both_at nodes quotas counters change c.args.from c.args.to f c.requires.from c.requires.to
    (over nodes t f c.in-Ok.node c.args.from from_there m.on_from on)
    (over nodes t f c.in-Ok.node c.args.to to_there m.on_to on))
    c.first_refusal-in-Ok.ensures.nearest

pub returns-in-Err-clause-nearest : goal.returns-in-Err-clause-nearest
returns-in-Err-clause-nearest g c =
    let nodes = c.args.tree.now.nodes in
    let change = c.args.change.now in
    let quotas = c.args.objects.now.quotas in
    let counters = c.args.counters.now in
    nearest_same nodes (moved_refusal nodes quotas counters c.args.from c.args.to change.minus change.plus) (refusal_at nodes quotas counters change) c.args.to (Some c.in-Err.exceeded)
    (λ f on. changed_at nodes quotas counters change c.args.from c.args.to f c.requires.from c.requires.to)
    (c.in-Err.ensures.refused change.minus)
