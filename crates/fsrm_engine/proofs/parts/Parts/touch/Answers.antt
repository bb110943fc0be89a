use Rattle.std.proofs.Common.{refl, ap, sym, ◌∙◌}
use Rattle.fsrm_model.specs.declared.command.Deed.TheVariants.{File}
use Rattle.fsrm_model.specs.declared.command.FileOp.TheVariants.{Touch}
use Rattle.fsrm_model.specs.nodes.FileOps.{touched}
use Rattle.fsrm_base.specs.Keyed.{with_change}
use Rattle.fsrm_model.specs.nodes.Tree.{number}
use Rattle.volume_tree.specs.Volume.{Volume}
use Rattle.fsrm_engine.specs.declared.parts.Parts.{Parts}
use Rattle.rescan.proofs.queued.Touching.{touch_goes}
use Rattle.fsrm_engine.proofs.operations.IdleLaws.{idle_touched, touch_due}
use Rattle.fsrm_parts.proofs.walks.PlaceLaws.{target_is}
use Rattle.fsrm_engine.proofs.operations.FollowLaws.{goes_to, volume_is, op_accepts}
use Rattle.fsrm_engine.proofs.settling.CalmLaws.{calm_same}
use Rattle.fsrm_engine.proofs.settling.EndLaws.{few_log}
use Rattle.fsrm_engine.proofs.steps.StepLaws.{done_as}
use Rattle.fsrm_engine.proofs.steps.WholeLaws.{sound_ended}
use Rattle.fsrm_engine.proofs.parts.Parts.touch.Goals as goal

pub done-requires-clause-counted : goal.done-requires-clause-counted
done-requires-clause-counted g c =
    let p = c.args.self.now in
    idle_touched p.tree c.touch.new.self p.objects.quotas p.usage _ c.args.moment c.requires.ready.whole.sound.counted c.in-Some.ensures.file.there c.touch.ensures.made c.touch.ensures.kept

pub returns-clause-ok : goal.returns-clause-ok
returns-clause-ok g c =
    let p = c.args.self.now in
    let f = c.in-Some.ensures.file in
    let made = c.touch.ensures.made in
    let mid : Parts = record p { tree = c.touch.new.self } in
    let size = ap (λ (w : Volume). w.size) made in
    done_as p mid c.done.new.self c.args.moment (File (Touch c.args.path.now)) c.done.result
    (op_accepts p mid c.args.moment (Touch c.args.path.now) p.objects.quotas _ c.requires.ready.idle c.requires.ready.after
    (touch_due p c.args.moment _ _ f)
    (ap (λ n. with_change number n (touched c.args.moment) p.tree.nodes) (target_is p.tree.nodes c.args.path.now _ f.resolved) ∙ sym (ap (λ (w : Volume). w.nodes) made))
    (record { quotas_are = refl; screens_are = refl; excepts_are = refl; jobs_are = refl; autos_are = refl }) refl (λ k. refl)
    (goes_to _ _ c.touch.new.self _ _ made (touch_goes p.tree p.scans _ c.args.moment c.requires.ready.whole.sound.scanning (volume_is _ _ made c.touch.ensures.kept)))
    (record { size = size; marks = refl; crossing = refl; groups = refl; templates = refl; audit = refl; run_limit = refl; last_moment = refl }) refl)
    refl (few_log p c.requires.ready.whole) (calm_same p mid c.args.moment c.requires.ready.whole.sound.counted (idle_touched p.tree c.touch.new.self p.objects.quotas p.usage c.in-Some.file.number c.args.moment c.requires.ready.whole.sound.counted f.there made c.touch.ensures.kept) size refl refl)
    c.done.ensures.ended c.done.ensures.answer

pub returns-clause-sound : goal.returns-clause-sound
returns-clause-sound g c =
    let p = c.args.self.now in
    let made = c.touch.ensures.made in
    sound_ended (record p { tree = c.touch.new.self }) c.done.new.self c.args.moment c.done.ensures.ended c.done.ensures.counted
    (goes_to _ _ c.touch.new.self _ _ made (touch_goes p.tree p.scans _ c.args.moment c.requires.ready.whole.sound.scanning (volume_is _ _ made c.touch.ensures.kept))).scanning
