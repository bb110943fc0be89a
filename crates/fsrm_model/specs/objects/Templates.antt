-- Quota templates, and the quotas that are derived from them (MS-FSRM, IFsrmQuotaTemplate).
use Rattle.std.specs.Prelude.{ℕ, ◌==◌, ◌&&◌, nat_lt, Bool, true, false, List, find, is_none, Option, Some, None, bytes_eq, if◌then◌else◌}
use Rattle.std.specs.Bool.{beq}
use Rattle.std.specs.Cmp.Lexicographic.{pointwise}
use Rattle.std.specs.List.{list_all}
use Rattle.std.specs.Option.{option_map_or}
use Rattle.std.specs.Ordering.{int_eq}
use Rattle.fsrm_base.specs.Keyed.{row_of}
use Rattle.fsrm_model.specs.declared.command.Update.{Update}
use Rattle.fsrm_model.specs.declared.command.Update.TheVariants.{Keep, Matching, All}
use Rattle.fsrm_model.specs.declared.row.Action.{Action}
use Rattle.fsrm_model.specs.declared.row.ActionKind.{ActionKind}
use Rattle.fsrm_model.specs.declared.row.ActionKind.TheVariants.{Event, Mail, Program, Report}
use Rattle.fsrm_model.specs.declared.row.QuotaRow.{QuotaRow}
use Rattle.fsrm_model.specs.declared.row.QuotaState.{QuotaState}
use Rattle.fsrm_model.specs.declared.row.TemplateRow.{TemplateRow}
use Rattle.fsrm_model.specs.declared.row.Threshold.{Threshold}
use Rattle.fsrm_model.specs.values.Limits.{most_templates}
use Rattle.fsrm_model.specs.values.Name.{is_named}
use Rattle.fsrm_model.specs.values.Patterns.{is_object_name}
use Rattle.fsrm_model.specs.objects.Quota.{is_limit}
use Rattle.fsrm_model.specs.objects.Thresholds.{are_thresholds}

abbrev pub template_number : TemplateRow → ℕ
template_number template = template.number

abbrev pub template_name : TemplateRow → List ℕ
template_name template = template.name

-- the template of a number, and that of a name, in any spelling
abbrev pub template_of : List TemplateRow → ℕ → Option TemplateRow
template_of templates number = row_of template_number number templates

abbrev pub template_named : List TemplateRow → List ℕ → Option TemplateRow
template_named templates name = find (is_named template_name name) templates

-- ---- what a template is
-- thresholds of which no action ever ran
abbrev pub is_unrun : Threshold → Bool
is_unrun threshold = list_all (λ action. is_none action.last_run) threshold.actions

-- what a template has, whatever stands beside it. Its number is 0 to 1,023
abbrev pub is_template : TemplateRow → Bool
is_template template =
    (nat_lt template.number most_templates && is_object_name template.name)
    && (is_limit template.limit && (are_thresholds template.thresholds && list_all is_unrun template.thresholds))

-- ---- quotas of a template
-- A quota on a folder as its template has it: with its limit, its type and its thresholds, whose actions never ran, and with peak 0
-- at the moment that it is made
abbrev pub derived : TemplateRow → ℕ → QuotaState → ℕ → QuotaRow
derived template folder state moment =
    record {
      folder = folder;
      limit = template.limit;
      enforce = template.enforce;
      state = state;
      thresholds = template.thresholds;
      template = Some template.number;
      peak = 0;
      peak_at = moment;
    }

-- whether a quota was derived from the template of a number
abbrev pub is_derived : ℕ → QuotaRow → Bool
is_derived number quota = option_map_or (λ n. n == number) quota.template false

-- a quota whose template is gone stays, without one
abbrev pub without_source : ℕ → QuotaRow → QuotaRow
without_source number quota = if is_derived number quota then record quota { template = None } else quota

-- ---- quotas that match their template
abbrev pub same_kind : ActionKind → ActionKind → Bool
same_kind Event Event = true
same_kind Mail Mail = true
same_kind Program Program = true
same_kind Report Report = true
same_kind a b = false

-- whether two actions are the same, whenever they ran
abbrev pub same_action : Action → Action → Bool
same_action a b = same_kind a.kind b.kind && (int_eq a.minutes b.minutes && bytes_eq a.text b.text)

abbrev pub same_threshold : Threshold → Threshold → Bool
same_threshold a b = (a.percent == b.percent) && pointwise same_action a.actions b.actions

-- whether a quota has the limit, the type and the thresholds of a template
abbrev pub matches_template : TemplateRow → QuotaRow → Bool
matches_template template quota =
    ((template.limit == quota.limit) && beq template.enforce quota.enforce)
    && pointwise same_threshold template.thresholds quota.thresholds

-- ---- a template's change
-- whether it reaches a quota: none, those that match the template as it was, or all that were derived from it
abbrev pub is_reached : Update → TemplateRow → QuotaRow → Bool
is_reached Keep old quota = false
is_reached Matching old quota = is_derived old.number quota && matches_template old quota
is_reached All old quota = is_derived old.number quota

-- a quota that it reaches has the template's limit, type and thresholds from now on, whose actions never ran. All else of it stays
abbrev pub as_template : TemplateRow → QuotaRow → QuotaRow
as_template template quota =
    record quota { limit = template.limit; enforce = template.enforce; thresholds = template.thresholds }

abbrev pub updated : Update → TemplateRow → TemplateRow → QuotaRow → QuotaRow
updated mode old new quota = if is_reached mode old quota then as_template new quota else quota
