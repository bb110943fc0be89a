use Rattle.std.proofs.Common.{ℕ, List, ap, sym, ◌∙◌}
use Rattle.fsrm_base.specs.Numbers.{is_in}
use Rattle.fsrm_model.specs.declared.row.ScreenRow.{ScreenRow}
use Rattle.fsrm_parts.proofs.tables.GroupListLaws.{any_here, any_later}
use Rattle.fsrm_parts.proofs.groups.is_screened.Goals as goal

pub returns-then-contains : goal.returns-then-contains
returns-then-contains c =
    any_here (λ (screen : ScreenRow). is_in screen.groups c.args.number) c.args.objects.now.screens c.loop-place.place c.screen_at.result.now _ c.screen_at.ensures c.loop-place.invariant
    (ap (λ (ns : List ℕ). is_in ns c.args.number) (sym c.as_slice.ensures) ∙ (sym c.contains.ensures.value ∙ c.if-contains.true))

pub loop-place-preserved : goal.loop-place-preserved
loop-place-preserved c =
    any_later (λ (screen : ScreenRow). is_in screen.groups c.args.number) c.args.objects.now.screens c.loop-place.place c.screen_at.result.now _ c.screen_at.ensures c.loop-place.invariant
    (ap (λ (ns : List ℕ). is_in ns c.args.number) (sym c.as_slice.ensures) ∙ (sym c.contains.ensures.value ∙ c.if-contains.false))
