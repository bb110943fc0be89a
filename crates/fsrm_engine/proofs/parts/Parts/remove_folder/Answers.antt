use Rattle.std.proofs.Common.{◌≡◌, None, refl, ap, ◌∙◌, arith}
use Rattle.fsrm_model.specs.declared.command.Deed.TheVariants.{File}
use Rattle.fsrm_model.specs.declared.command.FileOp.TheVariants.{Remove}
use Rattle.fsrm_model.proofs.nodes.Keeps.{folder_found}
use Rattle.fsrm_objects.specs.Tables.{Tables, without_except, without_jobs, without_screen}
use Rattle.volume_tree.specs.Volume.{Volume}
use Rattle.fsrm_engine.specs.declared.parts.Parts.{Parts}
use Rattle.fsrm_engine.proofs.operations.IdleLaws.{may_go, idle_gone}
use Rattle.fsrm_parts.proofs.walks.PlaceLaws.{has_resolved}
use Rattle.fsrm_engine.proofs.operations.RemoveLaws.{remove_due}
use Rattle.fsrm_engine.proofs.operations.GoingLaws.{without_objects, no_fault, full_fault, goes_well, left_queue, rmdir_accepts, next_without}
use Rattle.fsrm_engine.proofs.steps.StepLaws.{done_as, refused_as, tree_first}
use Rattle.fsrm_engine.proofs.operations.FollowLaws.{goes_to, volume_is, when_ok}
use Rattle.fsrm_engine.proofs.operations.GoneLaws.{calm_without}
use Rattle.fsrm_engine.proofs.settling.EndLaws.{few_log}
use Rattle.fsrm_engine.proofs.steps.WholeLaws.{sound_ended}
use Rattle.fsrm_engine.proofs.parts.Parts.remove_folder.Goals as goal

pub remove-requires-clause-there : goal.remove-requires-clause-there
remove-requires-clause-there g c = has_resolved _ _ _ _ c.requires.ready.whole.sound.counted.volume c.requires.resolved

pub done-requires-clause-counted : goal.done-requires-clause-counted
done-requires-clause-counted g c =
    let p = c.args.self.now in
    let e = c.requires.ready.whole.sound.counted in
    let may = may_go p.tree c.args.node c.requires.inner (has_resolved _ _ _ _ e.volume c.requires.resolved) (when_ok _ _ c.unwrap.ensures c.remove.ensures.may) in
    let objects : c.drop_jobs.new.self ≡ without_objects p.objects c.args.node = c.drop_jobs.ensures ∙ ap (λ (t : Tables). without_jobs t c.args.node) (c.drop_screens.ensures ∙ ap (λ (t : Tables). without_except (without_screen t c.args.node) c.args.node) c.drop_quota.ensures.objects) in
    idle_gone p.tree c.remove.new.self p.objects.quotas c.drop_jobs.new.self.quotas p.usage c.drop_quota.new.usage c.args.node e may
    c.requires.kind (when_ok _ _ c.unwrap.ensures c.remove.ensures.made) c.remove.ensures.kept (ap (λ (t : Tables). t.quotas) objects) c.drop_quota.ensures.usage

pub returns-clause-ok : goal.returns-clause-ok
returns-clause-ok g c =
    let p = c.args.self.now in
    let k = c.requires.ready.whole.sound.counted.volume in
    let at = c.requires.resolved in
    let made = when_ok _ _ c.unwrap.ensures c.remove.ensures.made in
    let turns = c.leave.ensures.turns p.tree c.requires.ready.whole.sound.scanning in
    let goes = goes_to _ _ c.remove.new.self _ _ made (c.follow_rmdir.ensures.follows (volume_is _ _ made c.remove.ensures.kept)) in
    let absent = left_queue c.args.node p.scans.queue c.leave.new.self.queue c.leave.ensures.queue in
    let row = folder_found p.tree.nodes c.args.node c.requires.kind in
    let mid : Parts = record p { tree = c.remove.new.self; scans = c.follow_rmdir.new.self; usage = c.drop_quota.new.usage; objects = c.drop_jobs.new.self; templates = c.drop_auto.new.templates } in
    let size = ap (λ (w : Volume). w.size) made in
    let may = may_go p.tree c.args.node c.requires.inner (has_resolved _ _ _ _ k at) (when_ok _ _ c.unwrap.ensures c.remove.ensures.may) in
    let objects : c.drop_jobs.new.self ≡ without_objects p.objects c.args.node = c.drop_jobs.ensures ∙ ap (λ (t : Tables). without_jobs t c.args.node) (c.drop_screens.ensures ∙ ap (λ (t : Tables). without_except (without_screen t c.args.node) c.args.node) c.drop_quota.ensures.objects) in
    let quotas = ap (λ (t : Tables). t.quotas) objects in
    done_as p mid c.done.new.self c.args.moment (File (Remove c.args.path.now)) c.done.result
    (rmdir_accepts p mid c.leave.new.self c.args.moment c.args.path.now c.args.node c.requires.ready.idle c.requires.ready.after
    (remove_due p c.args.moment _ _ k at c.requires.inner ∙ ap (λ o. tree_first o None) (when_ok _ _ c.unwrap.ensures c.remove.ensures.may))
    at made objects c.leave.ensures.queue turns goes
    (next_without p.tree c.remove.new.self c.leave.new.self c.args.node row.row turns.scanning absent made c.remove.ensures.kept row.found row.folder)
    (record { size = size; marks = refl; crossing = refl; groups = refl; templates = c.drop_auto.ensures; audit = refl; run_limit = refl; last_moment = refl }))
    refl (few_log p c.requires.ready.whole) (calm_without p mid c.args.moment c.args.node c.requires.ready.whole.sound.counted (idle_gone p.tree c.remove.new.self p.objects.quotas c.drop_jobs.new.self.quotas p.usage c.drop_quota.new.usage c.args.node c.requires.ready.whole.sound.counted may c.requires.kind made c.remove.ensures.kept quotas c.drop_quota.ensures.usage) size quotas c.drop_quota.ensures.usage)
    c.done.ensures.ended c.done.ensures.answer

pub returns-clause-sound : goal.returns-clause-sound
returns-clause-sound g c =
    let p = c.args.self.now in
    let made = when_ok _ _ c.unwrap.ensures c.remove.ensures.made in
    let goes = goes_to _ _ c.remove.new.self _ _ made (c.follow_rmdir.ensures.follows (volume_is _ _ made c.remove.ensures.kept)) in
    sound_ended (record p { tree = c.remove.new.self; scans = c.follow_rmdir.new.self; usage = c.drop_quota.new.usage; objects = c.drop_jobs.new.self; templates = c.drop_auto.new.templates }) c.done.new.self c.args.moment c.done.ensures.ended c.done.ensures.counted goes.scanning

pub unwrap-requires : goal.unwrap-requires
unwrap-requires g c = goes_well c.args.self.now.tree c.args.node c.remove.result (no_fault c.args.self.now.tree c.args.node (omega (arith, c.child_count.ensures.value, c.if-child_count-gt0.false))) c.remove.ensures.refused

pub returns-then-child_count-gt0-clause-ok : goal.returns-then-child_count-gt0-clause-ok
returns-then-child_count-gt0-clause-ok g c =
    let p = c.args.self.now in
    refused_as p c.args.moment (File (Remove c.args.path.now)) _ _ c.requires.ready.idle c.requires.ready.after
    (remove_due p c.args.moment _ _ c.requires.ready.whole.sound.counted.volume c.requires.resolved c.requires.inner
    ∙ ap (λ o. tree_first o None) (full_fault p.tree c.args.node c.child_count.result c.child_count.ensures.value c.if-child_count-gt0.true)) refl
    c.refused.ensures

pub follow_rmdir-requires-clause-scanning : goal.follow_rmdir-requires-clause-scanning
follow_rmdir-requires-clause-scanning g c = (c.leave.ensures.turns c.args.self.now.tree c.requires.ready.whole.sound.scanning).scanning

pub follow_rmdir-requires-clause-there : goal.follow_rmdir-requires-clause-there
follow_rmdir-requires-clause-there g c = has_resolved _ _ _ _ c.requires.ready.whole.sound.counted.volume c.requires.resolved

pub follow_rmdir-requires-clause-leaf : goal.follow_rmdir-requires-clause-leaf
follow_rmdir-requires-clause-leaf g c = omega (arith, c.child_count.ensures.value, c.if-child_count-gt0.false)

pub follow_rmdir-requires-clause-absent : goal.follow_rmdir-requires-clause-absent
follow_rmdir-requires-clause-absent g c = left_queue c.args.node c.args.self.now.scans.queue c.leave.new.self.queue c.leave.ensures.queue
