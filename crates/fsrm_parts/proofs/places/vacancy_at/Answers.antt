use Rattle.std.proofs.Common.{Some, sym, ap, ◌∙◌}
use Rattle.fsrm_parts.proofs.walks.VacantLaws.{faulty_new, stray_new}
use Rattle.fsrm_parts.proofs.places.vacancy_at.Goals as goal

pub returns-in-Err-clause-err : goal.returns-in-Err-clause-err
returns-in-Err-clause-err g c = stray_new c.args.tree.now c.args.path.now c.in-Err.refusal c.in-Err.ensures.err

pub returns-in-Ok-may_create-clause-ok : goal.returns-in-Ok-may_create-clause-ok
returns-in-Ok-may_create-clause-ok g c = record { at = c.in-Ok.ensures.ok; may = c.in-Ok-may_create.ensures.may }

pub returns-in-Err-may_create-clause-err : goal.returns-in-Err-may_create-clause-err
returns-in-Err-may_create-clause-err g c =
    faulty_new c.args.tree.now c.args.path.now _ _ c.in-Err-may_create.fault c.in-Ok.ensures.ok c.in-Err-may_create.ensures.fault ∙ ap (λ refusal. Some refusal) (sym c.refusal_of.ensures)
