use Rattle.fsrm_parts.proofs.settling.NoteLaws.{drops_absent, drops_one, placed_at}
use Rattle.fsrm_parts.proofs.charging.drop_noted.Goals as goal

pub returns-in_default : goal.returns-in_default
returns-in_default c = drops_absent c.args.crossing.now c.args.objects.now.quotas c.args.folder c.requires c.in_default.ensures.place

pub returns : goal.returns
returns c =
    let quotas = c.args.objects.now.quotas in
    drops_one c.args.crossing.now c.remove.new.self quotas c.args.folder c.in-Some.place (placed_at quotas c.args.folder c.in-Some.place c.in-Some.ensures.place) c.requires c.remove.ensures
