use Rattle.std.proofs.Common.{refl}
use Rattle.fsrm_model.specs.declared.command.AdminDeed.TheVariants.{Options as AdminOptions}
use Rattle.fsrm_model.specs.declared.command.Deed.TheVariants.{Admin}
use Rattle.fsrm_engine.specs.declared.parts.Parts.{Parts}
use Rattle.fsrm_engine.specs.Machine.{rows_of}
use Rattle.fsrm_engine.proofs.settling.CalmLaws.{calm_same}
use Rattle.fsrm_engine.proofs.settling.EndLaws.{few_log}
use Rattle.fsrm_engine.proofs.steps.StepLaws.{done_as, followed_own}
use Rattle.fsrm_engine.proofs.parts.Parts.set_options.Goals as goal

pub returns-clause-ok : goal.returns-clause-ok
returns-clause-ok c =
    let p = c.args.self.now in
    let mid : Parts = record p { run_limit = c.args.run_limit } in
    let e = c.requires.ready.whole.sound.counted in
    done_as p mid c.done.new.self c.args.moment (Admin (AdminOptions c.args.run_limit)) c.done.result
    (record {
      quotas = p.objects.quotas;
      after = c.requires.ready.after;
      none = refl;
      lasts = refl;
      size = refl;
      idle = record { numbers = c.requires.ready.idle.numbers; places = c.requires.ready.idle.places; crossing = c.requires.ready.idle.crossing };
      made = followed_own (record (rows_of p) { run_limit = c.args.run_limit });
      raised = refl;
    })
    refl (few_log p c.requires.ready.whole) (calm_same p mid c.args.moment e e refl refl refl) c.done.ensures.ended c.done.ensures.answer
