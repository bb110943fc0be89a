use Rattle.std.proofs.Common.{◌≡◌, Some, refl, ap, sym, ◌∙◌}
use Rattle.std.specs.Option.{option_copied}
use Rattle.fsrm_model.specs.declared.command.Deed.TheVariants.{Reports}
use Rattle.fsrm_model.specs.declared.command.ReportsDeed.TheVariants.{Delete as ReportsDelete}
use Rattle.fsrm_model.specs.objects.Jobs.{job_named}
use Rattle.fsrm_objects.specs.Tables.{Tables}
use Rattle.fsrm_engine.proofs.steps.StepLaws.{refused_as}
use Rattle.fsrm_engine.proofs.tables.GroupLaws.{retabled_counted, retabled_ended}
use Rattle.fsrm_engine.proofs.tables.JobLaws.{delete_missing, job_deleted, named_there}
use Rattle.fsrm_engine.proofs.parts.Parts.job_delete.Goals as goal

pub returns-in_default-clause-ok : goal.returns-in_default-clause-ok
returns-in_default-clause-ok c =
    let p = c.args.self.now in
    refused_as p c.args.moment (Reports (ReportsDelete c.args.name.now)) c.refused.result _ c.requires.ready.idle c.requires.ready.after
    (delete_missing p c.args.moment c.args.name.now (sym c.job_named.ensures ∙ ap option_copied c.in_default.is)) refl c.refused.ensures

pub drop_job-requires : goal.drop_job-requires
drop_job-requires c =
    let p = c.args.self.now in
    let is : job_named p.objects.jobs c.args.name.now ≡ Some c.in-Some.job.now = sym c.job_named.ensures ∙ ap option_copied c.in-Some.is in
    named_there p c.args.name.now c.in-Some.job.now c.requires.ready.whole.valid is

pub done-requires-clause-counted : goal.done-requires-clause-counted
done-requires-clause-counted c =
    retabled_counted c.args.self.now c.args.self.now.groups c.drop_job.new.self c.requires.ready.whole (ap (λ (t : Tables). t.quotas) c.drop_job.ensures)

pub returns-clause-ok : goal.returns-clause-ok
returns-clause-ok c =
    let p = c.args.self.now in
    let is : job_named p.objects.jobs c.args.name.now ≡ Some c.in-Some.job.now = sym c.job_named.ensures ∙ ap option_copied c.in-Some.is in
    job_deleted p c.args.moment c.args.name.now c.in-Some.job.now is c.requires.ready.whole c.requires.ready.idle c.requires.ready.after
    c.done.new.self c.drop_job.new.self c.done.result c.drop_job.ensures c.done.ensures.ended c.done.ensures.answer

pub returns-clause-sound : goal.returns-clause-sound
returns-clause-sound c =
    retabled_ended c.args.self.now c.args.self.now.groups c.drop_job.new.self c.requires.ready.whole (ap (λ (t : Tables). t.quotas) c.drop_job.ensures) c.done.new.self c.args.moment c.done.ensures.ended c.done.ensures.counted
