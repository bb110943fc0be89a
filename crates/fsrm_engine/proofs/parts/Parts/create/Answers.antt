use Rattle.std.proofs.Common.{false, None, Some, refl, ap, sym, ◌∙◌, arith, subst}
use Rattle.fsrm_model.specs.declared.command.Deed.TheVariants.{File}
use Rattle.fsrm_model.specs.declared.command.FileOp.TheVariants.{Create}
use Rattle.fsrm_model.proofs.valid.ValidLaws.{folder_has}
use Rattle.volume_tree.specs.Volume.{Volume}
use Rattle.quota_usage.specs.declared.change.Change.{Change}
use Rattle.std.specs.Prelude.{option_map}
use Rattle.fsrm_parts.specs.Crossing.{IsCovered}
use Rattle.fsrm_parts.specs.Faults.{exceeded_refusal}
use Rattle.fsrm_engine.specs.declared.parts.Parts.{Parts}
use Rattle.fsrm_engine.specs.Machine.{charged_parts}
use Rattle.fsrm_engine.specs.Reporting.{name_under, screen_told}
use Rattle.fsrm_engine.proofs.judging.DoneLaws.{done_named, sound_named}
use Rattle.fsrm_engine.proofs.judging.JudgedLaws.{few_told, told_one, told_there}
use Rattle.fsrm_engine.proofs.judging.NameLaws.{answers_it, block_sound, blocked_op, created_judged, unblocked}
use Rattle.fsrm_engine.proofs.steps.StepLaws.{refused_as}
use Rattle.fsrm_parts.proofs.walks.PlaceLaws.{place_depth}
use Rattle.fsrm_engine.proofs.operations.NewLaws.{create_free, create_refused, made_is, new_bare, none_by, some_by}
use Rattle.fsrm_engine.proofs.operations.FitLaws.{fits_plus}
use Rattle.fsrm_engine.proofs.operations.GrowthLaws.{by_quotas}
use Rattle.fsrm_engine.proofs.operations.MakeLaws.{make_changes, make_done, made_height, there_made}
use Rattle.fsrm_engine.proofs.operations.FollowLaws.{is_made, back_scans, left_back, made_length, made_chain, op_made}
use Rattle.fsrm_engine.proofs.operations.ChargedLaws.{charged_due, covered_by, refused_op}
use Rattle.fsrm_engine.proofs.settling.EndLaws.{few_log}
use Rattle.fsrm_parts.proofs.settling.OrderlyQuotas.{quotas_orderly}
use Rattle.fsrm_engine.proofs.settling.RefuseLaws.{refused_sound, refuser_there}
use Rattle.fsrm_engine.proofs.parts.Parts.create.Goals as goal

pub returns-in-Err-clause-ok : goal.returns-in-Err-clause-ok
returns-in-Err-clause-ok g c =
    let p = c.args.self.now in
    refused_as p c.args.moment (File (Create c.args.path.now c.args.length c.args.owner)) _ c.in-Err.refusal c.requires.ready.idle c.requires.ready.after
    (create_refused p c.args.moment c.args.path.now c.args.length c.args.owner c.in-Err.refusal c.requires.ready.whole.sound.counted.volume c.in-Err.ensures.err)
    (new_bare p.tree c.args.path.now c.in-Err.refusal c.in-Err.ensures.err) c.refused.ensures

pub admit-requires-clause-change : goal.admit-requires-clause-change
admit-requires-clause-change g c = record { from = tt; to = folder_has c.args.self.now.tree.nodes c.in-Ok.found.0.folder c.in-Ok.ensures.ok.at.folder_is }

pub admit-requires-clause-fits : goal.admit-requires-clause-fits
admit-requires-clause-fits g c =
    let p = c.args.self.now in
    let e = c.requires.ready.whole.sound.counted in
    fits_plus p.tree.size p.tree.nodes p.tree.nodes p.objects.quotas p.usage _ e.volume e.legal e.are_quotas e.sums c.allocated.ensures.small

pub returns-in-Err-admit-clause-ok : goal.returns-in-Err-admit-clause-ok
returns-in-Err-admit-clause-ok g c =
    let p = c.args.self.now in
    let d = c.in-Ok.found.0.folder in
    let name = c.in-Ok.found.0.name.now in
    let judged = c.judge-judged.result in
    let j = created_judged p c.args.path.now c.args.length c.args.owner d name judged c.in-Ok.ensures.ok.at c.judge-judged.ensures.judged in
    let e = c.requires.ready.whole.sound.counted in
    let at = c.in-Ok.ensures.ok.at in
    let changes = make_changes p.tree.size p.tree.nodes p.objects.quotas c.in-Ok.found.0.folder c.in-Ok.found.0.name.now c.args.length c.args.owner c.args.moment c.allocated.result e.volume e.are_quotas at.folder_is c.allocated.ensures.space in
    refused_op p c.refuse.new.self c.args.moment (File (Create c.args.path.now c.args.length c.args.owner)) c.refuse.result _ _ c.in-Err-admit.exceeded e c.requires.ready.idle c.requires.ready.after
    (create_free p c.args.moment c.args.path.now c.args.length c.args.owner d name e.volume c.in-Ok.ensures.ok
    ∙ none_by _ _ (unblocked p (Create c.args.path.now c.args.length c.args.owner) judged c.args.owner d name j c.in_default.ensures))
    (ap (λ (w : Volume). w.nodes) (made_is p.tree c.args.path.now c.in-Ok.found.0.folder c.in-Ok.found.0.name.now false c.args.length c.args.owner c.args.moment at))
    changes c.in-Err-admit.ensures.err c.refuse.ensures.refused

pub returns-in-Err-admit-clause-sound : goal.returns-in-Err-admit-clause-sound
returns-in-Err-admit-clause-sound g c =
    refused_sound c.args.self.now c.refuse.new.self c.args.moment c.in-Err-admit.exceeded c.refuse.result c.refuse.ensures.refused c.refuse.ensures.counted c.requires.ready.whole.sound.scanning

pub refuse-requires-clause-there : goal.refuse-requires-clause-there
refuse-requires-clause-there g c =
    refuser_there c.args.self.now (record { from = None; to = Some c.in-Ok.found.0.folder; minus = 0; plus = c.allocated.result }) c.in-Err-admit.exceeded c.requires.ready.whole.sound.counted c.in-Err-admit.ensures.err

pub returns-in-Err-admit-clause-looks : goal.returns-in-Err-admit-clause-looks
returns-in-Err-admit-clause-looks g c =
    omega (arith, c.in-Ok.ensures.looks, c.in-Err-admit.ensures.looks, c.judge-judged.ensures.looks, place_depth _ _ _ _ _ c.requires.ready.whole.sound.counted.volume c.in-Ok.ensures.ok.at)

pub end_named-requires-clause-change : goal.end_named-requires-clause-change
end_named-requires-clause-change g c =
    record { from = tt; to = there_made c.args.self.now.tree c.make_file-node.new.self c.in-Ok.found.0.folder c.in-Ok.found.0.name.now c.args.length c.args.owner c.args.moment c.requires.ready.whole.sound.counted.volume c.in-Ok.ensures.ok.at.folder_is c.make_file-node.ensures.made }

pub end_named-requires-clause-fits : goal.end_named-requires-clause-fits
end_named-requires-clause-fits g c =
    let p = c.args.self.now in
    let e = c.requires.ready.whole.sound.counted in
    fits_plus p.tree.size p.tree.nodes c.make_file-node.new.self.nodes p.objects.quotas p.usage _ e.volume e.legal e.are_quotas e.sums c.allocated.ensures.small

pub end_named-requires-clause-quotas : goal.end_named-requires-clause-quotas
end_named-requires-clause-quotas g c = let p = c.args.self.now in quotas_orderly p.tree.nodes p.objects.quotas c.requires.ready.whole.sound.counted.are_quotas

pub end_named-requires-clause-covered : goal.end_named-requires-clause-covered
end_named-requires-clause-covered g c =
    let p = c.args.self.now in
    let e = c.requires.ready.whole.sound.counted in
    let change : Change = record { from = None; to = Some c.in-Ok.found.0.folder; minus = 0; plus = c.allocated.result } in
    subst (λ (w : Volume). IsCovered w.nodes p.usage change) (sym c.make_file-node.ensures.made)
    (covered_by p _ change e
    (make_changes p.tree.size p.tree.nodes p.objects.quotas c.in-Ok.found.0.folder c.in-Ok.found.0.name.now c.args.length c.args.owner c.args.moment c.allocated.result e.volume e.are_quotas c.in-Ok.ensures.ok.at.folder_is c.allocated.ensures.space)
    (λ from to given at other. absurd (cc given)))

pub end_named-requires-clause-idle : goal.end_named-requires-clause-idle
end_named-requires-clause-idle g c = record { numbers = c.requires.ready.idle.numbers; places = c.requires.ready.idle.places; crossing = c.requires.ready.idle.crossing }

pub end_named-requires-clause-log : goal.end_named-requires-clause-log
end_named-requires-clause-log g c = few_log c.args.self.now c.requires.ready.whole

pub end_named-requires-clause-counted : goal.end_named-requires-clause-counted
end_named-requires-clause-counted g c =
    let p = c.args.self.now in
    (make_done p.tree c.make_file-node.new.self p.objects.quotas _ p.usage _ c.in-Ok.found.0.folder c.in-Ok.found.0.name.now c.args.length c.args.owner c.args.moment c.allocated.result
    c.requires.ready.whole.sound.counted c.in-Ok.ensures.ok.at.folder_is c.allocated.ensures.space c.make_file-node.ensures.made c.make_file-node.ensures.kept c.requires.ready.in_range refl refl).engine

pub returns-clause-ok : goal.returns-clause-ok
returns-clause-ok g c =
    let p = c.args.self.now in
    let d = c.in-Ok.found.0.folder in
    let name = c.in-Ok.found.0.name.now in
    let judged = c.judge-judged.result in
    let j = created_judged p c.args.path.now c.args.length c.args.owner d name judged c.in-Ok.ensures.ok.at c.judge-judged.ensures.judged in
    let e = c.requires.ready.whole.sound.counted in
    let at = c.in-Ok.ensures.ok.at in
    let w = c.make_file-node.new.self in
    let changes = make_changes p.tree.size p.tree.nodes p.objects.quotas d name c.args.length c.args.owner c.args.moment c.allocated.result e.volume e.are_quotas at.folder_is c.allocated.ensures.space in
    let made = is_made p.tree w c.make_file-node.result d name false c.args.length c.args.owner c.args.moment e.volume c.make_file-node.ensures.made c.make_file-node.ensures.number in
    let change : Change = record { from = None; to = Some d; minus = 0; plus = c.allocated.result } in
    let mid : Parts = record p { tree = w; scans = c.follow_create.new.self } in
    let charged = charged_parts mid change c.args.moment in
    let done = make_done p.tree w p.objects.quotas charged.objects.quotas p.usage charged.usage d name c.args.length c.args.owner c.args.moment c.allocated.result
    e at.folder_is c.allocated.ensures.space c.make_file-node.ensures.made c.make_file-node.ensures.kept c.requires.ready.in_range refl refl in
    let size = ap (λ (w : Volume). w.size) c.make_file-node.ensures.made in
    let op = Create c.args.path.now c.args.length c.args.owner in
    let oj = name_under (screen_told p judged) c.args.owner d name in
    done_named p mid c.end_named.new.self c.args.moment (File op) c.end_named.result change oj
    (record {
      after = c.requires.ready.after;
      none = create_free p c.args.moment c.args.path.now c.args.length c.args.owner d name e.volume c.in-Ok.ensures.ok
          ∙ (none_by _ _ (unblocked p (Create c.args.path.now c.args.length c.args.owner) judged c.args.owner d name j c.in_default.ensures)
          ∙ by_quotas p _ _ _ e changes (ap (option_map exceeded_refusal) c.in_default-admit.ensures.ok));
      lasts = refl;
      judged_is = j.named;
      size = size;
      idle = record { numbers = c.requires.ready.idle.numbers; places = c.requires.ready.idle.places; crossing = c.requires.ready.idle.crossing };
      made = op_made p mid c.args.moment op p.objects.quotas _
          (ap (λ (w : Volume). w.nodes) (sym (c.make_file-node.ensures.made ∙ made_is p.tree _ _ _ false c.args.length c.args.owner c.args.moment at)))
          (record { quotas_are = refl; screens_are = refl; excepts_are = refl; jobs_are = refl; autos_are = refl }) refl (λ k. left_back p w c.make_file-node.result made.back)
          c.follow_create.ensures.follows (record { size = size; marks = refl; crossing = refl; groups = refl; templates = refl; audit = refl; run_limit = refl; last_moment = refl });
    })
    (few_log p c.requires.ready.whole) c.end_named.ensures.ended done.raised_are (charged_due p w c.follow_create.new.self change c.args.moment size e done.engine)
    (answers_it p c.args.moment op c.end_named.result judged c.args.owner d name j c.end_named.ensures.answer)

pub returns-clause-sound : goal.returns-clause-sound
returns-clause-sound g c =
    let p = c.args.self.now in
    let mid : Parts = record p { tree = c.make_file-node.new.self; scans = c.follow_create.new.self } in
    sound_named mid c.end_named.new.self _ _ c.args.moment c.requires.ready.idle.places (few_log p c.requires.ready.whole) c.end_named.ensures.ended c.end_named.ensures.counted c.follow_create.ensures.follows.scanning

pub returns-clause-looks : goal.returns-clause-looks
returns-clause-looks g c =
    let v = c.args.self.now.tree in
    let k = c.requires.ready.whole.sound.counted.volume in
    let at = c.in-Ok.ensures.ok.at in
    omega (
      arith,
      c.in-Ok.ensures.looks,
      c.judge-judged.ensures.looks,
      c.in_default-admit.ensures.looks,
      c.make_file-node.ensures.count,
      c.follow_create.ensures.looks,
      c.end_named.ensures.looks,
      made_chain v c.make_file-node.new.self c.make_file-node.result c.in-Ok.found.0.folder c.in-Ok.found.0.name.now false c.args.length c.args.owner c.args.moment k at.folder_is c.make_file-node.ensures.made c.make_file-node.ensures.number,
      place_depth _ _ _ _ _ k at,
      made_height v c.make_file-node.new.self c.in-Ok.found.0.folder c.in-Ok.found.0.name.now c.args.length c.args.owner c.args.moment k at.folder_is c.make_file-node.ensures.made,
    )

pub follow_create-requires-clause-there : goal.follow_create-requires-clause-there
follow_create-requires-clause-there g c =
    (is_made c.args.self.now.tree c.make_file-node.new.self c.make_file-node.result c.in-Ok.found.0.folder c.in-Ok.found.0.name.now false c.args.length c.args.owner c.args.moment c.requires.ready.whole.sound.counted.volume c.make_file-node.ensures.made c.make_file-node.ensures.number).there

pub follow_create-requires-clause-file : goal.follow_create-requires-clause-file
follow_create-requires-clause-file g c =
    (is_made c.args.self.now.tree c.make_file-node.new.self c.make_file-node.result c.in-Ok.found.0.folder c.in-Ok.found.0.name.now false c.args.length c.args.owner c.args.moment c.requires.ready.whole.sound.counted.volume c.make_file-node.ensures.made c.make_file-node.ensures.number).kind

pub follow_create-requires-clause-own : goal.follow_create-requires-clause-own
follow_create-requires-clause-own g c = λ row found.
    let v = c.args.self.now.tree in
    made_length v c.make_file-node.new.self c.make_file-node.result _ row (is_made v c.make_file-node.new.self c.make_file-node.result c.in-Ok.found.0.folder c.in-Ok.found.0.name.now false c.args.length c.args.owner c.args.moment c.requires.ready.whole.sound.counted.volume c.make_file-node.ensures.made c.make_file-node.ensures.number) found

pub follow_create-requires-clause-scanning : goal.follow_create-requires-clause-scanning
follow_create-requires-clause-scanning g c =
    let v = c.args.self.now.tree in
    back_scans v c.make_file-node.new.self c.make_file-node.result _ (is_made v c.make_file-node.new.self c.make_file-node.result c.in-Ok.found.0.folder c.in-Ok.found.0.name.now false c.args.length c.args.owner c.args.moment c.requires.ready.whole.sound.counted.volume c.make_file-node.ensures.made c.make_file-node.ensures.number).back c.requires.ready.whole.sound.scanning

pub end_named-requires-clause-there : goal.end_named-requires-clause-there
end_named-requires-clause-there g c = told_there c.args.self.now c.in-Ok.found.0.folder c.in-Ok.found.0.name.now c.judge-judged.result c.judge-judged.ensures.judged

pub end_named-requires-clause-few : goal.end_named-requires-clause-few
end_named-requires-clause-few g c = λ screen found. few_told c.args.self.now c.judge-judged.result screen c.requires.ready.whole found

pub block-requires-clause-there : goal.block-requires-clause-there
block-requires-clause-there g c =
    let p = c.args.self.now in
    let d = c.in-Ok.found.0.folder in
    let name = c.in-Ok.found.0.name.now in
    let judged = c.judge-judged.result in
    let j = created_judged p c.args.path.now c.args.length c.args.owner d name judged c.in-Ok.ensures.ok.at c.judge-judged.ensures.judged in
    told_one p judged c.in-Some.active j.there c.in-Some.ensures.0

pub returns-in-Some-clause-ok : goal.returns-in-Some-clause-ok
returns-in-Some-clause-ok g c =
    let p = c.args.self.now in
    let d = c.in-Ok.found.0.folder in
    let name = c.in-Ok.found.0.name.now in
    let judged = c.judge-judged.result in
    let j = created_judged p c.args.path.now c.args.length c.args.owner d name judged c.in-Ok.ensures.ok.at c.judge-judged.ensures.judged in
    blocked_op p c.block.new.self c.args.moment (Create c.args.path.now c.args.length c.args.owner) c.block.result judged c.in-Some.active c.args.owner d name c.requires.ready.idle c.requires.ready.after
    (λ refusal h. create_free p c.args.moment c.args.path.now c.args.length c.args.owner d name c.requires.ready.whole.sound.counted.volume c.in-Ok.ensures.ok
    ∙ some_by _ _ refusal h)
    j c.in-Some.ensures.0 c.in-Some.ensures.1 c.block.ensures.blocked

pub returns-in-Some-clause-sound : goal.returns-in-Some-clause-sound
returns-in-Some-clause-sound g c =
    let p = c.args.self.now in
    let d = c.in-Ok.found.0.folder in
    let name = c.in-Ok.found.0.name.now in
    let judged = c.judge-judged.result in
    let j = created_judged p c.args.path.now c.args.length c.args.owner d name judged c.in-Ok.ensures.ok.at c.judge-judged.ensures.judged in
    block_sound p c.block.new.self c.args.moment (Create c.args.path.now c.args.length c.args.owner) c.block.result judged c.in-Some.active c.args.owner d name j c.in-Some.ensures.0 c.block.ensures.blocked c.block.ensures.counted c.requires.ready.whole.sound.scanning

pub returns-in-Some-clause-looks : goal.returns-in-Some-clause-looks
returns-in-Some-clause-looks g c =
    omega (arith, c.in-Ok.ensures.looks, c.judge-judged.ensures.looks, place_depth _ _ _ _ _ c.requires.ready.whole.sound.counted.volume c.in-Ok.ensures.ok.at)
