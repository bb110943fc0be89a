use Rattle.std.proofs.Common.{List, ap, ◌∙◌}
use Rattle.fsrm_model.specs.declared.row.ExceptRow.{ExceptRow}
use Rattle.stored_rows.specs.Rows.{are_alone_screens, are_named_excepts, are_whole_jobs, are_whole_quotas}
use Rattle.fsrm_parts.proofs.tables.FilledLaws.{alone_screens, named_excepts, whole_jobs, whole_quotas}
use Rattle.fsrm_parts.proofs.filling.fill_objects.Goals as goal

pub objects_of-requires-clause-quotas : goal.objects_of-requires-clause-quotas
objects_of-requires-clause-quotas c = ap are_whole_quotas c.as_slice-quotas.ensures ∙ whole_quotas c.args.rows.now c.requires

pub objects_of-requires-clause-screens : goal.objects_of-requires-clause-screens
objects_of-requires-clause-screens c =
    ap (λ (es : List ExceptRow). are_alone_screens es c.as_slice-screens.result.now) c.as_slice-excepts.ensures
    ∙ (ap (are_alone_screens c.args.rows.now.excepts) c.as_slice-screens.ensures ∙ alone_screens c.args.rows.now c.requires)

pub objects_of-requires-clause-excepts : goal.objects_of-requires-clause-excepts
objects_of-requires-clause-excepts c = ap are_named_excepts c.as_slice-excepts.ensures ∙ named_excepts c.args.rows.now c.requires

pub objects_of-requires-clause-jobs : goal.objects_of-requires-clause-jobs
objects_of-requires-clause-jobs c = ap are_whole_jobs c.as_slice.ensures ∙ whole_jobs c.args.rows.now c.requires
