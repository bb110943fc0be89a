use Rattle.std.proofs.Common.{◌∙◌, arith}
use Rattle.fsrm_base.proofs.SortedRows.{row_at}
use Rattle.fsrm_model.specs.objects.Quota.{folder_of}
use Rattle.fsrm_parts.proofs.settling.NoteLaws.{notes_absent, notes_failed, notes_one, placed_at}
use Rattle.fsrm_parts.proofs.charging.note_if.Goals as goal

pub returns-then-not-crosses : goal.returns-then-not-crosses
returns-then-not-crosses c = λ passes same.
    notes_failed c.args.crossing.now c.args.objects.now.quotas c.args.folder passes (λ q own found. same q found ∙ c.if-not-crosses.true) c.requires.ascending

pub returns-in_default : goal.returns-in_default
returns-in_default c = λ passes same.
    notes_absent c.args.crossing.now c.args.objects.now.quotas c.args.folder passes c.requires.ascending c.in_default.ensures.place

pub insert-requires : goal.insert-requires
insert-requires c = omega (arith, c.in-Some.ensures.place.within, c.in-Some.ensures.few, c.requires.bound)

pub returns : goal.returns
returns c = λ passes same.
    let quotas = c.args.objects.now.quotas in
    let p = placed_at quotas c.args.folder c.in-Some.place c.in-Some.ensures.place in
    notes_one c.args.crossing.now c.insert.new.self quotas c.args.folder c.in-Some.place passes p c.requires.ascending
    (same p.quota (row_at folder_of c.args.folder quotas c.in-Some.place p.quota c.requires.ascending p.there p.own) ∙ c.if-not-crosses.false)
    c.insert.ensures
