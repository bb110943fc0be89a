use Rattle.std.proofs.Common.{sym, ◌∙◌}
use Rattle.std.specs.Str.Iter.{chars_rest}
use Rattle.std.proofs.lemmas.Str.{IsUtf8-past_char}
use Rattle.name_rules.proofs.Folds.{ended, longer, shorter, same_heads, other_heads}
use Rattle.name_rules.proofs.order.cmp_characters.Goals as goal

pub returns-in_default : goal.returns-in_default
returns-in_default c =
    let kept = c.loop-one.invariant in
    sym (longer _ _ _ kept.text c.in-Some.ensures.steps.0 (chars_rest c.loop-one.others) c.in_default.ensures.steps.0.0) ∙ kept.left

pub loop-one-preserved : goal.loop-one-preserved
loop-one-preserved c =
    let kept = c.loop-one.invariant in
    let cut = c.in-Some.ensures.steps.0 in
    let other_cut = c.in-Some-next.ensures.steps.0 in
    record {
      text = IsUtf8-past_char _ _ _ kept.text cut;
      other_text = IsUtf8-past_char _ _ _ kept.other_text other_cut;
      left = sym (same_heads _ _ _ _ _ _ kept.text kept.other_text cut other_cut (sym c.in-Equal.ensures)) ∙ kept.left;
    }

pub returns-in_default-cmp_folded : goal.returns-in_default-cmp_folded
returns-in_default-cmp_folded c =
    let kept = c.loop-one.invariant in
    sym (other_heads _ _ _ _ _ _ kept.text kept.other_text c.in-Some.ensures.steps.0 c.in-Some-next.ensures.steps.0 c.cmp_folded.result (sym c.cmp_folded.ensures) c.in_default-cmp_folded.not-Equal) ∙ kept.left

pub returns-in-Some-next-2 : goal.returns-in-Some-next-2
returns-in-Some-next-2 c =
    let kept = c.loop-one.invariant in
    sym (shorter _ _ _ kept.other_text c.in-Some-next-2.ensures.steps.0 (chars_rest c.loop-one.one-iterator) c.in-None.ensures.steps.0.0) ∙ kept.left

pub returns-in-None-next : goal.returns-in-None-next
returns-in-None-next c =
    let kept = c.loop-one.invariant in
    sym (ended _ _ c.in-None.ensures.steps.0.0 c.in-None-next.ensures.steps.0.0) ∙ kept.left
