use Rattle.std.proofs.Common.{refl, ap}
use Rattle.fsrm_model.specs.declared.command.Deed.TheVariants.{Reports}
use Rattle.fsrm_model.specs.declared.command.ReportsDeed.TheVariants.{Add as ReportsAdd}
use Rattle.fsrm_objects.specs.Tables.{Tables}
use Rattle.fsrm_engine.proofs.coming.MemoryLaws.{folder_wants}
use Rattle.fsrm_parts.proofs.tables.AnswerLaws.{on_err}
use Rattle.fsrm_engine.proofs.steps.StepLaws.{refused_as}
use Rattle.fsrm_engine.proofs.tables.GroupLaws.{retabled_counted, retabled_ended, retabled_sound}
use Rattle.fsrm_engine.proofs.tables.JobLaws.{job_added, job_unadded, new_short}
use Rattle.fsrm_parts.proofs.walks.FoundLaws.{missing}
use Rattle.fsrm_engine.proofs.parts.Parts.job_add.Goals as goal

pub returns-in_default-clause-ok : goal.returns-in_default-clause-ok
returns-in_default-clause-ok g c =
    let p = c.args.self.now in
    refused_as p c.args.moment (Reports (ReportsAdd c.args.job.now)) c.refused.result _ c.requires.ready.idle c.requires.ready.after
    (missing p.tree.nodes c.args.job.now.scope _ c.in_default.ensures.folder) refl c.refused.ensures

pub returns-in_err-row-clause-memory : goal.returns-in_err-row-clause-memory
returns-in_err-row-clause-memory g c = on_err _ (folder_wants c.args.self.now.tree.nodes c.args.job.now.scope c.in-Some.scope c.in-Some.ensures.folder)

pub add_job-requires : goal.add_job-requires
add_job-requires g c = new_short c.in-Some.scope c.args.moment c.args.job.now c.in_ok-row.row c.in_ok-row.ensures c.requires.valid

pub done-requires-clause-counted : goal.done-requires-clause-counted
done-requires-clause-counted g c =
    retabled_counted c.args.self.now c.args.self.now.groups c.add_job.new.self c.requires.ready.whole (ap (λ (t : Tables). t.quotas) c.in-Ok.ensures.ok)

pub returns-in-Ok-clause-ok : goal.returns-in-Ok-clause-ok
returns-in-Ok-clause-ok g c =
    job_added c.args.self.now c.args.moment c.args.job.now c.in-Some.scope c.in-Some.ensures.folder c.requires.ready.whole c.in_ok-row.row c.room-room.result c.in_ok-row.ensures c.room-room.ensures
    c.requires.ready.idle c.requires.ready.after c.add_job.new.self c.done.new.self c.done.result c.in-Ok.ensures.may c.in-Ok.ensures.ok c.done.ensures.ended c.done.ensures.answer

pub returns-in-Ok-clause-sound : goal.returns-in-Ok-clause-sound
returns-in-Ok-clause-sound g c =
    retabled_ended c.args.self.now c.args.self.now.groups c.add_job.new.self c.requires.ready.whole (ap (λ (t : Tables). t.quotas) c.in-Ok.ensures.ok) c.done.new.self c.args.moment c.done.ensures.ended c.done.ensures.counted

pub returns-in-Err-clause-ok : goal.returns-in-Err-clause-ok
returns-in-Err-clause-ok g c =
    job_unadded c.args.self.now c.args.moment c.args.job.now c.in-Some.scope c.in-Some.ensures.folder c.requires.ready.whole c.in_ok-row.row c.room-room.result c.in_ok-row.ensures c.room-room.ensures
    c.requires.ready.idle c.requires.ready.after c.add_job.new.self c.in-Err.fault c.refused_for.result c.in-Err.ensures.refused c.in-Err.ensures.err c.refused_for.ensures.ok

pub returns-in-Err-clause-memory : goal.returns-in-Err-clause-memory
returns-in-Err-clause-memory g c = on_err c.refused_for.result (folder_wants c.args.self.now.tree.nodes c.args.job.now.scope c.in-Some.scope c.in-Some.ensures.folder)

pub returns-in-Err-clause-sound : goal.returns-in-Err-clause-sound
returns-in-Err-clause-sound g c =
    retabled_sound c.args.self.now c.args.self.now.groups c.add_job.new.self c.requires.ready.whole (ap (λ (t : Tables). t.quotas) c.in-Err.ensures.err)
