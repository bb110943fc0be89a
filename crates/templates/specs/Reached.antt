-- The quotas that a template's change reaches, as they were.
use Rattle.std.specs.Prelude.{◌&&◌, ◌||◌, not, Bool, List, map, if◌then◌else◌}
use Rattle.std.specs.Cmp.Lexicographic.{pointwise}
use Rattle.std.specs.List.{list_all}
use Rattle.fsrm_model.specs.declared.command.Update.{Update}
use Rattle.fsrm_model.specs.declared.row.QuotaRow.{QuotaRow}
use Rattle.fsrm_model.specs.declared.row.TemplateRow.{TemplateRow}
use Rattle.fsrm_model.specs.declared.row.Threshold.{Threshold}
use Rattle.fsrm_model.specs.objects.Templates.{is_reached, is_unrun, same_threshold}
use Rattle.templates.specs.declared.reached.Reached.{Reached}
use Rattle.templates.specs.declared.reached.Was.{Was}

-- whether a quota has the thresholds of a template, and none of their actions ever ran
abbrev pub has_thresholds : TemplateRow → QuotaRow → Bool
has_thresholds template quota = pointwise same_threshold template.thresholds quota.thresholds && list_all is_unrun quota.thresholds

-- whether a quota keeps its thresholds if the template changes
abbrev pub keeps : Update → TemplateRow → TemplateRow → QuotaRow → Bool
keeps mode old new quota = not (is_reached mode old quota) || has_thresholds new quota

-- whether a quota's thresholds stand apart, and the whole quota, if these are those that do
abbrev pub stand_apart : Was → Bool
stand_apart was = was.same

abbrev pub whole : List Threshold → Was → QuotaRow
whole thresholds was = if was.same then record was.row { thresholds = thresholds } else was.row

-- the quotas
abbrev pub were : Reached → List QuotaRow
were reached = map (whole reached.thresholds) reached.rows

-- a list of thresholds changes places with that of a quota whose own stand apart
abbrev pub traded : List Threshold → Was → Was
traded thresholds was = record was { row = whole thresholds was }

abbrev pub own_list : List Threshold → Was → List Threshold
own_list thresholds was = if was.same then was.row.thresholds else thresholds
