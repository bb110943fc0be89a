-- Templates and auto-apply quotas, and edits of their tables.
use Rattle.std.specs.Prelude.{ℕ, ◌+◌, List, [], filter, sum_by}
use Rattle.std.specs.Option.{option_map_or}
use Rattle.fsrm_base.specs.Keyed.{least_free, with_row, with_change, without_row}
use Rattle.fsrm_model.specs.declared.command.Update.{Update}
use Rattle.fsrm_model.specs.declared.row.AutoRow.{AutoRow}
use Rattle.fsrm_model.specs.declared.row.QuotaRow.{QuotaRow}
use Rattle.fsrm_model.specs.declared.row.TemplateRow.{TemplateRow}
use Rattle.fsrm_model.specs.objects.AutoApply.{auto_folder}
use Rattle.fsrm_model.specs.objects.Templates.{is_reached, template_number, template_of}
use Rattle.fsrm_model.specs.commands.TemplateWork.{updated_quotas}
use Rattle.fsrm_model.specs.values.Texts.{auto_bytes, template_bytes}

-- the rows of both tables
pub record Held : Type 0 where
  pub templates : List TemplateRow
  pub autos : List AutoRow

-- the bytes of the texts that they hold
abbrev pub texts_in : Held → ℕ
texts_in held = sum_by template_bytes held.templates + sum_by auto_bytes held.autos

-- ---- edits
-- a row under the number that it gets
abbrev pub numbered : List TemplateRow → TemplateRow → TemplateRow
numbered templates row = record row { number = least_free template_number templates }

-- with one more template, with another row under a number, without that of a number
abbrev pub with_template : Held → TemplateRow → Held
with_template held row = record held { templates = with_row template_number row held.templates }

abbrev pub with_other : Held → TemplateRow → Held
with_other held row = record held { templates = with_change template_number row.number (λ old. row) held.templates }

abbrev pub without_template : Held → ℕ → Held
without_template held number = record held { templates = without_row template_number number held.templates }

-- with one more auto-apply quota, and without that of a folder
abbrev pub with_auto : Held → AutoRow → Held
with_auto held row = record held { autos = with_row auto_folder row held.autos }

abbrev pub without_auto : Held → ℕ → Held
without_auto held folder = record held { autos = without_row auto_folder folder held.autos }

-- ---- a template's change
-- the quotas that it reaches if this row takes the place of the template of its number, and all quotas after it
abbrev pub reached_by : Held → TemplateRow → Update → List QuotaRow → List QuotaRow
reached_by held row mode quotas =
    option_map_or (λ old. filter (is_reached mode old) quotas) (template_of held.templates row.number) []

abbrev pub updated_by : Held → TemplateRow → Update → List QuotaRow → List QuotaRow
updated_by held row mode quotas = updated_quotas mode (template_of held.templates row.number) (λ old. row) quotas
