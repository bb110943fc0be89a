use Rattle.std.proofs.Common.{sym, ◌∙◌, ap, arith}
use Rattle.std.proofs.lemmas.List.{drop_all}
use Rattle.std.specs.List.{list_all}
use Rattle.templates.specs.Reached.{keeps}
use Rattle.templates.proofs.UpdateLaws.{left_from}
use Rattle.templates.proofs.derived.all_keep.Goals as goal

pub returns-then-not-keeps : goal.returns-then-not-keeps
returns-then-not-keeps c =
    let all = list_all (keeps c.args.mode c.args.old.now c.args.new.now) in
    let step = ap all (left_from c.args.objects.now.quotas c.loop-place.place c.quota_at.result.now c.quota_at.ensures) in
    sym (c.loop-place.invariant ∙ (rw (sym c.keeps.ensures ∙ c.if-not-keeps.true) at step))

pub loop-place-preserved : goal.loop-place-preserved
loop-place-preserved c =
    let all = list_all (keeps c.args.mode c.args.old.now c.args.new.now) in
    let step = ap all (left_from c.args.objects.now.quotas c.loop-place.place c.quota_at.result.now c.quota_at.ensures) in
    c.loop-place.invariant ∙ (rw (sym c.keeps.ensures ∙ c.if-not-keeps.false) at step)

pub returns : goal.returns
returns c =
    let none = drop_all c.loop-place.place c.args.objects.now.quotas (omega (arith, c.quota_count-place-end.ensures.count, c.loop-place-test.false)) in
    sym (c.loop-place.invariant ∙ ap (list_all (keeps c.args.mode c.args.old.now c.args.new.now)) none)
