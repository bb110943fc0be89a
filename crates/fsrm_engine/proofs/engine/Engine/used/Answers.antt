use Rattle.std.proofs.Common.{ap, ◌∙◌}
use Rattle.fsrm_model.specs.objects.Quota.{used_of}
use Rattle.fsrm_engine.specs.Machine.{Machine}
use Rattle.fsrm_engine.proofs.operations.IdleLaws.{used_at}
use Rattle.fsrm_engine.proofs.engine.Engine.used.Goals as goal

pub returns : goal.returns
returns c =
    used_at c.self.inside.parts c.args.folder c.used.result c.self.invariant.sound.counted c.used.ensures
    ∙ ap (λ (o : Machine). used_of o.size o.rows c.args.folder) c.self.view_is
