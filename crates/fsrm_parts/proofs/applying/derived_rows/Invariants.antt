use Rattle.std.proofs.Common.{◌≡◌, ◌+◌, ◌≤◌, Some, take}
use Rattle.fsrm_model.specs.declared.row.TemplateRow.{TemplateRow}
use Rattle.fsrm_model.specs.objects.Templates.{template_of}
use Rattle.fsrm_parts.specs.Applying.{derived_rows}
use Rattle.fsrm_parts.proofs.applying.derived_rows.Given as goal

-- the quotas of the first folders
abbrev pub invariant-loop-folder : goal.invariant-loop-folder
invariant-loop-folder g l = record {
  rows : (source : TemplateRow) → template_of l.templates.templates l.template ≡ Some source → l.rows.items ≡ derived_rows l.tree.nodes source l.moment (take l.folder-index l.folders);
  looks : l.steps ≤ l.fn.steps + l.folder-index;
}
