use Rattle.std.proofs.Common.{◌≡◌, Some, refl, ap, sym, ◌∙◌}
use Rattle.std.specs.Prelude.{is_some}
use Rattle.std.specs.Option.{option_copied}
use Rattle.fsrm_model.specs.declared.command.Deed.TheVariants.{Reports}
use Rattle.fsrm_model.specs.declared.command.ReportsDeed.TheVariants.{Run as ReportsRun}
use Rattle.fsrm_model.specs.objects.Jobs.{job_named}
use Rattle.fsrm_objects.specs.Tables.{Tables}
use Rattle.fsrm_parts.proofs.tables.AnswerLaws.{on_err}
use Rattle.fsrm_engine.proofs.steps.StepLaws.{refused_as}
use Rattle.fsrm_engine.proofs.tables.GroupLaws.{retabled_counted, retabled_ended}
use Rattle.fsrm_engine.proofs.tables.JobLaws.{job_ran, named_there, run_missing}
use Rattle.fsrm_engine.proofs.parts.Parts.job_run.Goals as goal

pub returns-in_default-clause-ok : goal.returns-in_default-clause-ok
returns-in_default-clause-ok c =
    let p = c.args.self.now in
    refused_as p c.args.moment (Reports (ReportsRun c.args.name.now)) c.refused.result _ c.requires.ready.idle c.requires.ready.after
    (run_missing p c.args.moment c.args.name.now (sym c.job_named.ensures ∙ ap option_copied c.in_default.is)) refl c.refused.ensures

pub returns-in_err-outcome-clause-memory : goal.returns-in_err-outcome-clause-memory
returns-in_err-outcome-clause-memory c = on_err _ (ap is_some (sym c.job_named.ensures ∙ ap option_copied c.in-Some.is))

pub run_job-requires : goal.run_job-requires
run_job-requires c =
    let p = c.args.self.now in
    let is : job_named p.objects.jobs c.args.name.now ≡ Some c.in-Some.job.now = sym c.job_named.ensures ∙ ap option_copied c.in-Some.is in
    named_there p c.args.name.now c.in-Some.job.now c.requires.ready.whole.valid is

pub end-requires-clause-counted : goal.end-requires-clause-counted
end-requires-clause-counted c =
    retabled_counted c.args.self.now c.args.self.now.groups c.run_job.new.self c.requires.ready.whole (ap (λ (t : Tables). t.quotas) c.run_job.ensures)

pub returns-clause-ok : goal.returns-clause-ok
returns-clause-ok c =
    let p = c.args.self.now in
    let is : job_named p.objects.jobs c.args.name.now ≡ Some c.in-Some.job.now = sym c.job_named.ensures ∙ ap option_copied c.in-Some.is in
    job_ran p c.args.moment c.args.name.now c.in-Some.job.now is c.requires.ready.whole c.requires.ready.idle c.requires.ready.after
    c.end.new.self c.run_job.new.self c.in_ok-outcome.outcome _ c.run_job.ensures c.end.ensures.ended c.in_ok-outcome.ensures refl

pub returns-clause-sound : goal.returns-clause-sound
returns-clause-sound c =
    retabled_ended c.args.self.now c.args.self.now.groups c.run_job.new.self c.requires.ready.whole (ap (λ (t : Tables). t.quotas) c.run_job.ensures) c.end.new.self c.args.moment c.end.ensures.ended c.end.ensures.counted
