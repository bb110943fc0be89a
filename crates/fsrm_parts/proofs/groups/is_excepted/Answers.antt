use Rattle.std.proofs.Common.{ℕ, List, ap, sym, ◌∙◌}
use Rattle.fsrm_base.specs.Numbers.{is_in}
use Rattle.fsrm_model.specs.declared.row.ExceptRow.{ExceptRow}
use Rattle.fsrm_parts.proofs.tables.GroupListLaws.{any_here, any_later}
use Rattle.fsrm_parts.proofs.groups.is_excepted.Goals as goal

pub returns-then-contains : goal.returns-then-contains
returns-then-contains c =
    any_here (λ (except : ExceptRow). is_in except.groups c.args.number) c.args.objects.now.excepts c.loop-place.place c.except_at.result.now _ c.except_at.ensures c.loop-place.invariant
    (ap (λ (ns : List ℕ). is_in ns c.args.number) (sym c.as_slice.ensures) ∙ (sym c.contains.ensures.value ∙ c.if-contains.true))

pub loop-place-preserved : goal.loop-place-preserved
loop-place-preserved c =
    any_later (λ (except : ExceptRow). is_in except.groups c.args.number) c.args.objects.now.excepts c.loop-place.place c.except_at.result.now _ c.except_at.ensures c.loop-place.invariant
    (ap (λ (ns : List ℕ). is_in ns c.args.number) (sym c.as_slice.ensures) ∙ (sym c.contains.ensures.value ∙ c.if-contains.false))
