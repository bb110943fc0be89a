-- The commands on quota templates: their refusals in order, and what they do.
use Rattle.std.specs.Prelude.{ℕ, ◌==◌, Bool, true, false, not, is_some, is_none, List, [], ◌∷◌, map, Option, None, unwrap_or}
use Rattle.std.specs.List.{list_any}
use Rattle.std.specs.Option.{option_map_or}
use Rattle.fsrm_base.specs.Keyed.{with_row, with_change, without_row, least_free}
use Rattle.fsrm_model.specs.declared.command.Ask.TheVariants.{Templates}
use Rattle.fsrm_model.specs.declared.command.NewTemplate.{NewTemplate}
use Rattle.fsrm_model.specs.declared.command.Outcome.TheVariants.{Done, Listing}
use Rattle.fsrm_model.specs.declared.command.Refusal.TheVariants.{DuplicateName, NotFound, InUse, OutOfRange}
use Rattle.fsrm_model.specs.declared.command.TemplateChange.{TemplateChange}
use Rattle.fsrm_model.specs.declared.command.Update.{Update}
use Rattle.fsrm_model.specs.declared.row.QuotaRow.{QuotaRow}
use Rattle.fsrm_model.specs.declared.row.Rows.{Rows}
use Rattle.fsrm_model.specs.declared.row.TemplateRow.{TemplateRow}
use Rattle.fsrm_model.specs.declared.row.Threshold.{Threshold}
use Rattle.fsrm_model.specs.commands.Check.{◌when◌, templates_full, texts_full}
use Rattle.fsrm_model.specs.objects.Templates.{template_number, template_named, without_source, updated}
use Rattle.fsrm_model.specs.objects.Thresholds.{are_too_many, may_be_removed, changed_thresholds}
use Rattle.fsrm_model.specs.commands.Work.{Work, asks}

-- the number of a template, and its thresholds. If there is none: 0, and none
abbrev pub number_in : Option TemplateRow → ℕ
number_in template = option_map_or template_number template 0

abbrev pub thresholds_in : Option TemplateRow → List Threshold
thresholds_in template = option_map_or (λ t. t.thresholds) template []

-- a new template takes the least number that is free
abbrev pub new_template : List TemplateRow → NewTemplate → TemplateRow
new_template templates new =
    record {
      number = least_free template_number templates;
      name = new.name;
      limit = new.limit;
      enforce = new.enforce;
      thresholds = changed_thresholds [] new.thresholds.percents new.thresholds.notices [];
    }

abbrev pub template_add_work : Rows → NewTemplate → Work
template_add_work R new =
    let template = new_template R.templates new in
    let after = record R { templates = with_row template_number template R.templates } in
    asks
    ((DuplicateName when is_some (template_named R.templates new.name))
    ∷ (OutOfRange when are_too_many template.thresholds) ∷ templates_full after ∷ texts_full after ∷ [])
    after (Done None) true

-- a template with another limit, or of another type, if these are given, and with other thresholds
abbrev pub retemplated : TemplateChange → TemplateRow → TemplateRow
retemplated change template =
    let coming = change.thresholds in
    record template {
      limit = unwrap_or change.limit template.limit;
      enforce = unwrap_or change.enforce template.enforce;
      thresholds = changed_thresholds change.removed coming.percents coming.notices template.thresholds;
    }

-- the quotas after a change of a template
abbrev pub updated_quotas : Update → Option TemplateRow → (TemplateRow → TemplateRow) → List QuotaRow → List QuotaRow
updated_quotas mode old change quotas = option_map_or (λ template. map (updated mode template (change template)) quotas) old quotas

-- the template changes as a quota does, and then the quotas that were derived from it. Which of them match is judged by the
-- template as it was
abbrev pub template_modify_work : Rows → TemplateChange → Work
template_modify_work R change =
    let old = template_named R.templates change.name in
    let thresholds = thresholds_in old in
    let coming = change.thresholds in
    let after = record R {
      templates = with_change template_number (number_in old) (retemplated change) R.templates;
      quotas = updated_quotas change.update old (retemplated change) R.quotas;
    } in
    asks
    ((NotFound when is_none old) ∷ (NotFound when not (may_be_removed change.removed thresholds))
    ∷ (OutOfRange when are_too_many (changed_thresholds change.removed coming.percents coming.notices thresholds))
    ∷ texts_full after ∷ [])
    after (Done None) true

-- whether an auto-apply quota names a template
abbrev pub is_applied : Rows → ℕ → Bool
is_applied R number = list_any (λ auto. auto.template == number) R.autos

-- the quotas that were derived from it stay, without a template
abbrev pub template_delete_work : Rows → List ℕ → Work
template_delete_work R name =
    let old = template_named R.templates name in
    asks ((NotFound when is_none old) ∷ (InUse when is_applied R (number_in old)) ∷ [])
    (record R {
      templates = without_row template_number (number_in old) R.templates;
      quotas = map (without_source (number_in old)) R.quotas;
    })
    (Done None) true

-- a list changes nothing
abbrev pub template_list_work : Rows → Work
template_list_work R = asks [] R (Listing Templates) false
