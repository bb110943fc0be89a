use Rattle.std.proofs.Common.{◌==◌, Some, refl, ap, sym, ◌∙◌, subst, arith}
use Rattle.std.proofs.lemmas.Option.{same_Some}
use Rattle.std.specs.Prelude.{option_map}
use Rattle.fsrm_model.specs.declared.command.Deed.TheVariants.{File}
use Rattle.fsrm_model.specs.declared.command.FileOp.TheVariants.{Resize}
use Rattle.fsrm_model.specs.nodes.FileOps.{resized}
use Rattle.fsrm_base.specs.Keyed.{with_change}
use Rattle.fsrm_base.proofs.TestLaws.{clash, eq_test}
use Rattle.fsrm_model.specs.nodes.Tree.{number}
use Rattle.fsrm_model.proofs.nodes.Resolves.{resolved}
use Rattle.volume_tree.specs.Volume.{Volume}
use Rattle.quota_usage.specs.declared.change.Change.{Change}
use Rattle.fsrm_parts.specs.Crossing.{IsCovered}
use Rattle.fsrm_parts.specs.Faults.{exceeded_refusal}
use Rattle.fsrm_engine.specs.Machine.{charged_parts}
use Rattle.fsrm_engine.proofs.steps.StepLaws.{done_with}
use Rattle.fsrm_parts.proofs.walks.PlaceLaws.{shown_folder, target_is}
use Rattle.fsrm_engine.proofs.operations.FitLaws.{fits_plus}
use Rattle.fsrm_engine.proofs.operations.GrowthLaws.{resize_changes, resize_due, by_quotas, file_parent, file_height, there_resized, resized_height, resize_done}
use Rattle.fsrm_engine.proofs.operations.FollowLaws.{goes_to, volume_is, shown_length, op_accepts}
use Rattle.fsrm_engine.proofs.operations.ChargedLaws.{charged_due, covered_by, refused_op}
use Rattle.fsrm_engine.proofs.settling.EndLaws.{few_log}
use Rattle.fsrm_parts.proofs.settling.OrderlyQuotas.{quotas_orderly}
use Rattle.fsrm_engine.proofs.settling.RefuseLaws.{refused_sound, refuser_there}
use Rattle.fsrm_engine.proofs.tables.RanLaws.{counted_run, sound_run}
use Rattle.fsrm_engine.proofs.parts.Parts.resize.Goals as goal

pub resize-requires-clause-there : goal.resize-requires-clause-there
resize-requires-clause-there g c = c.in-Some.ensures.file.there

pub admit-requires-clause-change : goal.admit-requires-clause-change
admit-requires-clause-change g c =
    let v = c.args.self.now.tree in
    let p = file_parent v.size v.nodes c.args.path.now c.in-Some.file c.requires.ready.whole.sound.counted.volume c.in-Some.ensures.file in
    record { from = p; to = p }

pub admit-requires-clause-fits : goal.admit-requires-clause-fits
admit-requires-clause-fits g c =
    let p = c.args.self.now in
    let e = c.requires.ready.whole.sound.counted in
    fits_plus p.tree.size p.tree.nodes p.tree.nodes p.objects.quotas p.usage _ e.volume e.legal e.are_quotas e.sums c.allocated-2.ensures.small

pub returns-in-Err-clause-ok : goal.returns-in-Err-clause-ok
returns-in-Err-clause-ok g c =
    let p = c.args.self.now in
    let e = c.requires.ready.whole.sound.counted in
    let f = c.in-Some.ensures.file in
    let changes = resize_changes p.tree.size p.tree.nodes p.objects.quotas c.args.path.now c.in-Some.file c.args.length c.args.moment c.allocated.result c.allocated-2.result e.volume e.are_quotas f c.allocated.ensures.space c.allocated-2.ensures.space in
    refused_op p c.refuse.new.self c.args.moment (File (Resize c.args.path.now c.args.length)) c.refuse.result _ _ c.in-Err.exceeded e c.requires.ready.idle c.requires.ready.after
    (resize_due p c.args.moment c.args.path.now c.in-Some.file c.args.length e.volume f)
    (sym (ap (λ n. with_change number n (resized c.args.length c.args.moment) p.tree.nodes) (target_is p.tree.nodes c.args.path.now _ f.resolved)))
    changes c.in-Err.ensures.err c.refuse.ensures.refused

pub returns-in-Err-clause-sound : goal.returns-in-Err-clause-sound
returns-in-Err-clause-sound g c =
    refused_sound c.args.self.now c.refuse.new.self c.args.moment c.in-Err.exceeded c.refuse.result c.refuse.ensures.refused c.refuse.ensures.counted c.requires.ready.whole.sound.scanning

pub refuse-requires-clause-there : goal.refuse-requires-clause-there
refuse-requires-clause-there g c =
    refuser_there c.args.self.now (record { from = Some c.in-Some.file.parent; to = Some c.in-Some.file.parent; minus = c.allocated.result; plus = c.allocated-2.result }) c.in-Err.exceeded c.requires.ready.whole.sound.counted c.in-Err.ensures.err

pub returns-in-Err-clause-looks : goal.returns-in-Err-clause-looks
returns-in-Err-clause-looks g c =
    let v = c.args.self.now.tree in
    omega (arith, c.in-Some.ensures.looks, c.in-Err.ensures.looks, file_height v.size v.nodes c.args.path.now c.in-Some.file c.requires.ready.whole.sound.counted.volume c.in-Some.ensures.file)

pub charge-requires-clause-change : goal.charge-requires-clause-change
charge-requires-clause-change g c =
    let v = c.args.self.now.tree in
    let p = there_resized v c.resize.new.self c.in-Some.file.number c.args.length c.args.moment c.in-Some.file.parent c.resize.ensures.made (file_parent v.size v.nodes c.args.path.now c.in-Some.file c.requires.ready.whole.sound.counted.volume c.in-Some.ensures.file) in
    record { from = p; to = p }

pub charge-requires-clause-fits : goal.charge-requires-clause-fits
charge-requires-clause-fits g c =
    let p = c.args.self.now in
    let e = c.requires.ready.whole.sound.counted in
    fits_plus p.tree.size p.tree.nodes c.resize.new.self.nodes p.objects.quotas p.usage _ e.volume e.legal e.are_quotas e.sums c.allocated-2.ensures.small

pub charge-requires-clause-quotas : goal.charge-requires-clause-quotas
charge-requires-clause-quotas g c = let p = c.args.self.now in quotas_orderly p.tree.nodes p.objects.quotas c.requires.ready.whole.sound.counted.are_quotas

pub charge-requires-clause-covered : goal.charge-requires-clause-covered
charge-requires-clause-covered g c =
    let p = c.args.self.now in
    let e = c.requires.ready.whole.sound.counted in
    let change : Change = record { from = Some c.in-Some.file.parent; to = Some c.in-Some.file.parent; minus = c.allocated.result; plus = c.allocated-2.result } in
    subst (λ (w : Volume). IsCovered w.nodes p.usage change) (sym c.resize.ensures.made)
    (covered_by p _ change e
    (resize_changes p.tree.size p.tree.nodes p.objects.quotas c.args.path.now c.in-Some.file c.args.length c.args.moment c.allocated.result c.allocated-2.result e.volume e.are_quotas c.in-Some.ensures.file c.allocated.ensures.space c.allocated-2.ensures.space)
    (λ from to given at other. absurd (clash (from == to) (eq_test from to (sym (same_Some c.in-Some.file.parent from given) ∙ same_Some c.in-Some.file.parent to at)) other)))

pub charge-requires-clause-calm : goal.charge-requires-clause-calm
charge-requires-clause-calm g c = record { numbers = c.requires.ready.idle.numbers; crossing = c.requires.ready.idle.crossing }

pub charge-requires-clause-log : goal.charge-requires-clause-log
charge-requires-clause-log g c = few_log c.args.self.now c.requires.ready.whole

pub done-requires-clause-counted : goal.done-requires-clause-counted
done-requires-clause-counted g c =
    let p = c.args.self.now in
    counted_run _ c.charge.new.self c.args.moment _ c.requires.ready.in_range
    (resize_done p.tree c.resize.new.self p.objects.quotas _ p.usage _ c.args.path.now c.in-Some.file c.args.length c.args.moment c.allocated.result c.allocated-2.result
    c.requires.ready.whole.sound.counted c.in-Some.ensures.file c.allocated.ensures.space c.allocated-2.ensures.space c.resize.ensures.made c.resize.ensures.kept c.requires.ready.in_range refl refl).engine
    c.charge.ensures.charged

pub returns-clause-ok : goal.returns-clause-ok
returns-clause-ok g c =
    let p = c.args.self.now in
    let e = c.requires.ready.whole.sound.counted in
    let f = c.in-Some.ensures.file in
    let w = c.resize.new.self in
    let made = c.resize.ensures.made in
    let changes = resize_changes p.tree.size p.tree.nodes p.objects.quotas c.args.path.now c.in-Some.file c.args.length c.args.moment c.allocated.result c.allocated-2.result e.volume e.are_quotas f c.allocated.ensures.space c.allocated-2.ensures.space in
    let change : Change = record { from = Some c.in-Some.file.parent; to = Some c.in-Some.file.parent; minus = c.allocated.result; plus = c.allocated-2.result } in
    let mid = charged_parts (record p { tree = w; scans = c.follow_resize.new.self }) change c.args.moment in
    let d = resize_done p.tree w p.objects.quotas mid.objects.quotas p.usage mid.usage c.args.path.now c.in-Some.file c.args.length c.args.moment c.allocated.result c.allocated-2.result
    e f c.allocated.ensures.space c.allocated-2.ensures.space made c.resize.ensures.kept c.requires.ready.in_range refl refl in
    let size = ap (λ (u : Volume). u.size) made in
    done_with p mid c.charge.new.self c.done.new.self c.args.moment (File (Resize c.args.path.now c.args.length)) c.done.result _
    (op_accepts p mid c.args.moment (Resize c.args.path.now c.args.length) p.objects.quotas _ c.requires.ready.idle c.requires.ready.after
    (resize_due p c.args.moment c.args.path.now c.in-Some.file c.args.length e.volume f ∙ by_quotas p _ _ _ e changes (ap (option_map exceeded_refusal) c.in_default-admit.ensures.ok))
    (ap (λ n. with_change number n (resized c.args.length c.args.moment) p.tree.nodes) (target_is p.tree.nodes c.args.path.now _ f.resolved) ∙ sym (ap (λ (u : Volume). u.nodes) made))
    (record { quotas_are = refl; screens_are = refl; excepts_are = refl; jobs_are = refl; autos_are = refl }) refl (λ k. refl)
    (goes_to _ _ w _ _ made (c.follow_resize.ensures.follows c.args.moment (volume_is _ _ made c.resize.ensures.kept)))
    (record { size = size; marks = refl; crossing = refl; groups = refl; templates = refl; audit = refl; run_limit = refl; last_moment = refl }) d.raised_are)
    refl c.charge.ensures.charged (charged_due p w c.follow_resize.new.self change c.args.moment size e d.engine) c.done.ensures.ended c.done.ensures.answer

pub returns-clause-sound : goal.returns-clause-sound
returns-clause-sound g c =
    let made = c.resize.ensures.made in
    let change : Change = record { from = Some c.in-Some.file.parent; to = Some c.in-Some.file.parent; minus = c.allocated.result; plus = c.allocated-2.result } in
    sound_run (charged_parts (record c.args.self.now { tree = c.resize.new.self; scans = c.follow_resize.new.self }) change c.args.moment) c.charge.new.self c.done.new.self c.args.moment _
    c.charge.ensures.charged c.done.ensures.ended c.done.ensures.counted
    (goes_to _ _ c.resize.new.self _ _ made (c.follow_resize.ensures.follows c.args.moment (volume_is _ _ made c.resize.ensures.kept))).scanning

pub returns-clause-looks : goal.returns-clause-looks
returns-clause-looks g c =
    let v = c.args.self.now.tree in
    let k = c.requires.ready.whole.sound.counted.volume in
    let f = c.in-Some.ensures.file in
    omega (
      arith,
      c.in-Some.ensures.looks,
      c.in_default-admit.ensures.looks,
      c.follow_resize.ensures.looks,
      c.resize.ensures.count,
      c.charge.ensures.looks,
      (resolved v.size v.nodes c.args.path.now c.in-Some.file.number k f.resolved).deep,
      file_height v.size v.nodes c.args.path.now c.in-Some.file k f,
      resized_height v c.resize.new.self c.in-Some.file.number c.args.length c.args.moment c.in-Some.file.parent c.resize.ensures.made,
    )

pub follow_resize-requires-clause-there : goal.follow_resize-requires-clause-there
follow_resize-requires-clause-there g c = c.in-Some.ensures.file.there

pub follow_resize-requires-clause-file : goal.follow_resize-requires-clause-file
follow_resize-requires-clause-file g c =
    let f = c.in-Some.ensures.file in
    shown_folder c.args.self.now.tree.nodes c.in-Some.file.number c.in-Some.file f.shows ∙ f.file

pub follow_resize-requires-clause-own : goal.follow_resize-requires-clause-own
follow_resize-requires-clause-own g c = λ row found. shown_length c.args.self.now.tree.nodes c.in-Some.file.number c.in-Some.file row c.in-Some.ensures.file.shows found
