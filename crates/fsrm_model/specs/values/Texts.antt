-- The texts that objects hold, and how many bytes they have.
use Rattle.std.specs.Prelude.{ℕ, ◌+◌, List, length, sum_by}
use Rattle.std.specs.Option.{option_map_or}
use Rattle.fsrm_model.specs.declared.row.Action.{Action}
use Rattle.fsrm_model.specs.declared.row.AutoRow.{AutoRow}
use Rattle.fsrm_model.specs.declared.row.GroupRow.{GroupRow}
use Rattle.fsrm_model.specs.declared.row.JobRow.{JobRow}
use Rattle.fsrm_model.specs.declared.row.QuotaRow.{QuotaRow}
use Rattle.fsrm_model.specs.declared.row.Rows.{Rows}
use Rattle.fsrm_model.specs.declared.row.TemplateRow.{TemplateRow}
use Rattle.fsrm_model.specs.declared.row.Threshold.{Threshold}

abbrev pub texts_bytes : List (List ℕ) → ℕ
texts_bytes texts = sum_by (λ text. length text) texts

abbrev pub action_bytes : List Action → ℕ
action_bytes actions = sum_by (λ action. length action.text) actions

abbrev pub threshold_bytes : List Threshold → ℕ
threshold_bytes thresholds = sum_by (λ threshold. action_bytes threshold.actions) thresholds

-- what each object has: its name, its patterns, the texts of its actions, the names that it excludes, ..
abbrev pub quota_bytes : QuotaRow → ℕ
quota_bytes quota = threshold_bytes quota.thresholds

abbrev pub template_bytes : TemplateRow → ℕ
template_bytes template = length template.name + threshold_bytes template.thresholds

abbrev pub auto_bytes : AutoRow → ℕ
auto_bytes auto = texts_bytes auto.excluded

abbrev pub group_bytes : GroupRow → ℕ
group_bytes group = length group.name + (texts_bytes group.members + texts_bytes group.non_members)

abbrev pub job_bytes : JobRow → ℕ
job_bytes job = length job.name + length job.schedule + option_map_or (λ pattern. length pattern) job.filter.pattern 0

-- the bytes of all of them. Copies of a text count once each
abbrev pub object_texts : Rows → ℕ
object_texts R =
    sum_by quota_bytes R.quotas
    + sum_by template_bytes R.templates
    + sum_by auto_bytes R.autos
    + sum_by group_bytes R.groups
    + sum_by (λ screen. action_bytes screen.actions) R.screens
    + sum_by job_bytes R.jobs
