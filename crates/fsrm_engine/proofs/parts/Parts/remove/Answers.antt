use Rattle.std.proofs.Common.{None, refl, ap, sym, ◌∙◌, arith}
use Rattle.std.specs.Prelude.{filter}
use Rattle.fsrm_model.specs.declared.command.Deed.TheVariants.{File}
use Rattle.fsrm_model.specs.declared.command.FileOp.TheVariants.{Remove}
use Rattle.fsrm_model.specs.nodes.FileOps.{plain}
use Rattle.fsrm_model.specs.objects.AutoApply.{auto_folder}
use Rattle.fsrm_base.specs.Keyed.{without_row}
use Rattle.fsrm_base.proofs.TestLaws.{is_inner}
use Rattle.fsrm_model.specs.objects.Jobs.{is_elsewhere}
use Rattle.fsrm_model.specs.objects.Quota.{folder_of}
use Rattle.fsrm_model.specs.objects.Screens.{screen_folder, except_folder}
use Rattle.fsrm_model.specs.nodes.Tree.{number}
use Rattle.volume_tree.specs.Volume.{Volume}
use Rattle.fsrm_engine.specs.declared.parts.Parts.{Parts}
use Rattle.rescan.proofs.queued.Leaving.{file_children}
use Rattle.fsrm_engine.proofs.operations.IdleLaws.{may_go, file_goes, gone_change, idle_charged, looks_at_file}
use Rattle.fsrm_parts.proofs.walks.PlaceLaws.{has_resolved, shown_folder, target_is}
use Rattle.fsrm_engine.proofs.operations.RemoveLaws.{remove_due, remove_root}
use Rattle.fsrm_engine.proofs.operations.GoingLaws.{no_fault, goes_well}
use Rattle.fsrm_engine.proofs.steps.StepLaws.{done_as, refused_as, tree_first}
use Rattle.fsrm_engine.proofs.operations.FollowLaws.{goes_to, volume_is, shown_length, when_ok, file_absent, remove_queue, remove_next, op_accepts}
use Rattle.fsrm_engine.proofs.operations.GoneLaws.{calm_gone, no_auto, no_except, no_job, no_screen}
use Rattle.fsrm_engine.proofs.settling.EndLaws.{few_log}
use Rattle.fsrm_engine.proofs.steps.WholeLaws.{sound_ended}
use Rattle.fsrm_engine.proofs.parts.Parts.remove.Goals as goal

pub returns-then-node-eq0-clause-ok : goal.returns-then-node-eq0-clause-ok
returns-then-node-eq0-clause-ok g c =
    refused_as c.args.self.now c.args.moment (File (Remove c.args.path.now)) _ _ c.requires.ready.idle c.requires.ready.after
    (remove_root c.args.self.now c.args.moment _ _ c.requires.ready.whole.sound.counted.volume (sym c.in-Some.ensures.value) c.if-node-eq0.true) refl
    c.refused-then-node-eq0.ensures

pub node-view-requires : goal.node-view-requires
node-view-requires g c = has_resolved _ _ _ _ c.requires.ready.whole.sound.counted.volume (sym c.in-Some.ensures.value)

pub follow_remove-requires-clause-there : goal.follow_remove-requires-clause-there
follow_remove-requires-clause-there g c = has_resolved _ _ _ _ c.requires.ready.whole.sound.counted.volume (sym c.in-Some.ensures.value)

pub follow_remove-requires-clause-own : goal.follow_remove-requires-clause-own
follow_remove-requires-clause-own g c = λ row found. shown_length c.args.self.now.tree.nodes c.in-Some.node c.node-view.result row c.node-view.ensures.view found

pub remove-requires-clause-there : goal.remove-requires-clause-there
remove-requires-clause-there g c = has_resolved _ _ _ _ c.requires.ready.whole.sound.counted.volume (sym c.in-Some.ensures.value)

pub unwrap-requires : goal.unwrap-requires
unwrap-requires g c =
    let v = c.args.self.now.tree in
    let file = shown_folder v.nodes c.in-Some.node c.node-view.result c.node-view.ensures.view ∙ c.if-view.false in
    goes_well v c.in-Some.node c.remove.result (no_fault v c.in-Some.node (file_children v.size v.nodes c.in-Some.node c.requires.ready.whole.sound.counted.volume file)) c.remove.ensures.refused

pub charge-requires-clause-change : goal.charge-requires-clause-change
charge-requires-clause-change g c =
    let p = c.args.self.now in
    let n = c.in-Some.node in
    let e = c.requires.ready.whole.sound.counted in
    let file = shown_folder p.tree.nodes n c.node-view.result c.node-view.ensures.view ∙ c.if-view.false in
    let may = may_go p.tree n (is_inner _ c.if-node-eq0.false) (has_resolved _ _ _ _ e.volume (sym c.in-Some.ensures.value)) (when_ok _ _ c.unwrap.ensures c.remove.ensures.may) in
    (file_goes p.tree c.remove.new.self p.objects.quotas p.usage n c.allocated.result c.node-view.result e may file (when_ok _ _ c.unwrap.ensures c.remove.ensures.made) c.remove.ensures.kept c.node-view.ensures.view c.allocated.ensures.space).is_change

pub charge-requires-clause-fits : goal.charge-requires-clause-fits
charge-requires-clause-fits g c =
    let p = c.args.self.now in
    let n = c.in-Some.node in
    let e = c.requires.ready.whole.sound.counted in
    let file = shown_folder p.tree.nodes n c.node-view.result c.node-view.ensures.view ∙ c.if-view.false in
    let may = may_go p.tree n (is_inner _ c.if-node-eq0.false) (has_resolved _ _ _ _ e.volume (sym c.in-Some.ensures.value)) (when_ok _ _ c.unwrap.ensures c.remove.ensures.may) in
    (file_goes p.tree c.remove.new.self p.objects.quotas p.usage n c.allocated.result c.node-view.result e may file (when_ok _ _ c.unwrap.ensures c.remove.ensures.made) c.remove.ensures.kept c.node-view.ensures.view c.allocated.ensures.space).fits

pub done-requires-clause-counted : goal.done-requires-clause-counted
done-requires-clause-counted g c =
    let p = c.args.self.now in
    let n = c.in-Some.node in
    let e = c.requires.ready.whole.sound.counted in
    let file = shown_folder p.tree.nodes n c.node-view.result c.node-view.ensures.view ∙ c.if-view.false in
    let may = may_go p.tree n (is_inner _ c.if-node-eq0.false) (has_resolved _ _ _ _ e.volume (sym c.in-Some.ensures.value)) (when_ok _ _ c.unwrap.ensures c.remove.ensures.may) in
    let goes = file_goes p.tree c.remove.new.self p.objects.quotas p.usage n c.allocated.result c.node-view.result e may file (when_ok _ _ c.unwrap.ensures c.remove.ensures.made) c.remove.ensures.kept c.node-view.ensures.view c.allocated.ensures.space in
    idle_charged c.remove.new.self p.objects.quotas p.usage c.charge.new.self n _ goes c.charge.ensures.made

pub returns-clause-ok : goal.returns-clause-ok
returns-clause-ok g c =
    let p = c.args.self.now in
    let n = c.in-Some.node in
    let e = c.requires.ready.whole.sound.counted in
    let at = sym c.in-Some.ensures.value in
    let inner = is_inner _ c.if-node-eq0.false in
    let to = target_is p.tree.nodes c.args.path.now n at in
    let file = shown_folder p.tree.nodes n c.node-view.result c.node-view.ensures.view ∙ c.if-view.false in
    let fault = when_ok _ _ c.unwrap.ensures c.remove.ensures.may in
    let may = may_go p.tree n inner (has_resolved _ _ _ _ e.volume at) fault in
    let made = when_ok _ _ c.unwrap.ensures c.remove.ensures.made in
    let goes = file_goes p.tree c.remove.new.self p.objects.quotas p.usage n c.allocated.result c.node-view.result e may file made c.remove.ensures.kept c.node-view.ensures.view c.allocated.ensures.space in
    let gone = gone_change c.node-view.result.parent c.allocated.result in
    let mid : Parts = record p { tree = c.remove.new.self; scans = c.follow_remove.new.self; usage = c.charge.new.self } in
    let size = ap (λ (w : Volume). w.size) made in
    done_as p mid c.done.new.self c.args.moment (File (Remove c.args.path.now)) c.done.result
    (op_accepts p mid c.args.moment (Remove c.args.path.now) p.objects.quotas _ c.requires.ready.idle c.requires.ready.after
    (remove_due p c.args.moment _ _ e.volume at inner ∙ ap (λ o. tree_first o None) fault)
    (ap (λ n. without_row number n p.tree.nodes) to ∙ sym (ap (λ (w : Volume). w.nodes) made))
    (record {
      quotas_are = ap (λ n. without_row folder_of n p.objects.quotas) to ∙ goes.no_quota;
      screens_are = ap (λ n. without_row screen_folder n p.objects.screens) to ∙ no_screen p n c.requires.ready.whole file;
      excepts_are = ap (λ n. without_row except_folder n p.objects.excepts) to ∙ no_except p n c.requires.ready.whole file;
      jobs_are = ap (λ n. filter (is_elsewhere n) p.objects.jobs) to ∙ no_job p n c.requires.ready.whole file;
      autos_are = ap (λ n. without_row auto_folder n p.templates.autos) to ∙ no_auto p n c.requires.ready.whole file;
    })
    (remove_queue p c.args.moment c.args.path.now n at ∙ file_absent p.tree p.scans n c.requires.ready.whole.sound.scanning file)
    (remove_next p c.args.path.now n (plain p.tree.nodes (Remove c.args.path.now) c.args.moment) at)
    (goes_to _ _ c.remove.new.self _ _ made (c.follow_remove.ensures.follows (volume_is _ _ made c.remove.ensures.kept)))
    (record { size = size; marks = refl; crossing = refl; groups = refl; templates = refl; audit = refl; run_limit = refl; last_moment = refl }) refl)
    refl (few_log p c.requires.ready.whole) (calm_gone p c.remove.new.self c.follow_remove.new.self c.charge.new.self gone c.args.moment refl c.charge.ensures.made size e (idle_charged c.remove.new.self p.objects.quotas p.usage c.charge.new.self n gone goes c.charge.ensures.made))
    c.done.ensures.ended c.done.ensures.answer

pub returns-clause-sound : goal.returns-clause-sound
returns-clause-sound g c =
    let made = when_ok _ _ c.unwrap.ensures c.remove.ensures.made in
    let goes = goes_to _ _ c.remove.new.self _ _ made (c.follow_remove.ensures.follows (volume_is _ _ made c.remove.ensures.kept)) in
    sound_ended (record c.args.self.now { tree = c.remove.new.self; scans = c.follow_remove.new.self; usage = c.charge.new.self }) c.done.new.self c.args.moment c.done.ensures.ended c.done.ensures.counted goes.scanning

pub returns-clause-looks : goal.returns-clause-looks
returns-clause-looks g c =
    let v = c.args.self.now.tree in
    let k = c.requires.ready.whole.sound.counted.volume in
    let at = sym c.in-Some.ensures.value in
    let may = may_go v c.in-Some.node (is_inner _ c.if-node-eq0.false) (has_resolved _ _ _ _ k at) (when_ok _ _ c.unwrap.ensures c.remove.ensures.may) in
    let few = looks_at_file v c.remove.new.self c.args.path.now c.in-Some.node _ _ _ _ _ c.node-view.result k at may (when_ok _ _ c.unwrap.ensures c.remove.ensures.made) c.node-view.ensures.view
    c.node-view.ensures.count c.follow_remove.ensures.looks c.remove.ensures.looks c.charge.ensures.looks in
    omega (arith, c.in-Some.ensures.looks, few)
