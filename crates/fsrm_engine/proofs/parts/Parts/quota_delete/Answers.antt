use Rattle.std.proofs.Common.{refl, ap}
use Rattle.fsrm_model.specs.declared.command.Deed.TheVariants.{Quota}
use Rattle.fsrm_model.specs.declared.command.QuotaDeed.TheVariants.{Delete as QuotaDelete}
use Rattle.fsrm_base.specs.Keyed.{without_row}
use Rattle.fsrm_base.specs.Numbers.{without_number}
use Rattle.fsrm_model.specs.objects.Quota.{folder_of}
use Rattle.fsrm_engine.specs.Machine.{rows_of}
use Rattle.fsrm_parts.proofs.walks.PlaceLaws.{target_is}
use Rattle.fsrm_engine.proofs.tables.QuotaLaws.{first_bare, quota_due}
use Rattle.fsrm_engine.proofs.steps.StepLaws.{done_as, refused_as, still_few}
use Rattle.fsrm_engine.proofs.tables.TurnLaws.{turned, turned_accepts, turned_keeps, turned_sound}
use Rattle.fsrm_engine.proofs.settling.EndLaws.{few_log}
use Rattle.fsrm_engine.proofs.settling.TurnedCalm.{calm_deleted}
use Rattle.fsrm_engine.proofs.steps.WholeLaws.{sound_ended}
use Rattle.fsrm_engine.proofs.parts.Parts.quota_delete.Goals as goal

pub returns-in-Err-clause-ok : goal.returns-in-Err-clause-ok
returns-in-Err-clause-ok g c =
    refused_as c.args.self.now c.args.moment (Quota (QuotaDelete c.args.path.now)) c.refused.result _ c.requires.ready.idle c.requires.ready.after c.in-Err.ensures.err (first_bare (rows_of c.args.self.now) c.args.path.now _ c.in-Err.ensures.err) c.refused.ensures

pub returns-clause-ok : goal.returns-clause-ok
returns-clause-ok g c =
    let p = c.args.self.now in
    let R = rows_of p in
    let n = c.in-Ok.quota.now.folder in
    let at = c.in-Ok.ensures.ok in
    let after = without_row folder_of n p.objects.quotas in
    let queue = without_number n p.scans.queue in
    let turns = c.leave.ensures.turns p.tree c.requires.ready.whole.sound.scanning in
    let mid = c.take_away.new.self in
    let t = turned p mid c.leave.new.self after queue c.take_away.ensures.taken turns c.leave.ensures.queue in
    done_as p mid c.done.new.self c.args.moment (Quota (QuotaDelete c.args.path.now)) _
    (turned_accepts p mid c.args.moment (Quota (QuotaDelete c.args.path.now)) after queue c.requires.ready.idle c.requires.ready.after (quota_due R _ _ at)
    (ap (λ k. record R { quotas = without_row folder_of k R.quotas; queue = without_number k R.queue }) (target_is R.nodes c.args.path.now n at.at.resolved)) refl t)
    refl (still_few p mid (turned_keeps p mid after queue t) (few_log p c.requires.ready.whole))
    (calm_deleted p mid c.args.moment n queue t) c.done.ensures.ended c.done.ensures.answer

pub returns-clause-sound : goal.returns-clause-sound
returns-clause-sound g c =
    let p = c.args.self.now in
    let turns = c.leave.ensures.turns p.tree c.requires.ready.whole.sound.scanning in
    let mid = c.take_away.new.self in
    sound_ended mid c.done.new.self c.args.moment c.done.ensures.ended c.done.ensures.counted
    (turned_sound p mid c.leave.new.self (without_row folder_of c.in-Ok.quota.now.folder p.objects.quotas) c.take_away.ensures.taken c.take_away.ensures.counted turns).scanning
