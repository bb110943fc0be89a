use Rattle.std.proofs.Common.{List, ap, sym, ◌∙◌}
use Rattle.fsrm_base.proofs.EditedRows.{without_absent}
use Rattle.fsrm_model.specs.declared.row.AutoRow.{AutoRow}
use Rattle.fsrm_model.specs.objects.AutoApply.{auto_folder}
use Rattle.fsrm_parts.proofs.tables.AbsentLaws.{row_test}
use Rattle.fsrm_parts.proofs.removals.drop_auto.Goals as goal

pub drop_auto-requires : goal.drop_auto-requires
drop_auto-requires c =
    row_test auto_folder c.args.templates.now.autos c.args.folder c.auto.result c.auto.ensures.found ∙ sym c.if-is_some.ensures

pub returns-else-is_some : goal.returns-else-is_some
returns-else-is_some c =
    let held = c.args.templates.now in
    ap (λ (autos : List AutoRow). record held { autos = autos })
    (sym (without_absent auto_folder c.args.folder held.autos (row_test auto_folder held.autos c.args.folder c.auto.result c.auto.ensures.found ∙ sym c.if-is_some.ensures)))
