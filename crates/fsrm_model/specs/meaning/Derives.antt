-- Which quotas match a template, which ones its change reaches, and which folders get a quota of a template, apart from any
-- computation.
use Rattle.std.specs.Prelude.{◌≡◌, ℕ, false, map, Some, None}
use Rattle.fsrm_model.specs.declared.command.Update.{Update}
use Rattle.fsrm_model.specs.declared.command.Update.TheVariants.{Keep, Matching, All}
use Rattle.fsrm_model.specs.declared.row.Action.{Action}
use Rattle.fsrm_model.specs.declared.row.AutoRow.{AutoRow}
use Rattle.fsrm_model.specs.declared.row.QuotaRow.{QuotaRow}
use Rattle.fsrm_model.specs.declared.row.Rows.{Rows}
use Rattle.fsrm_model.specs.declared.row.TemplateRow.{TemplateRow}
use Rattle.fsrm_model.specs.declared.row.Threshold.{Threshold}
use Rattle.fsrm_model.specs.objects.AutoApply.{auto_of, excludes}
use Rattle.fsrm_model.specs.objects.Quota.{quota_of}
use Rattle.fsrm_model.specs.objects.QuotaStates.{start}
use Rattle.fsrm_model.specs.objects.Templates.{template_of, derived}
use Rattle.fsrm_model.specs.nodes.Tree.{parent_of, name_of}

-- as if no action ever ran
abbrev pub unrun : Action → Action
unrun action = record action { last_run = None }

abbrev pub unrun_threshold : Threshold → Threshold
unrun_threshold threshold = record threshold { actions = map unrun threshold.actions }

-- a quota has a template's limit, its type and its thresholds
pub record Matches (template : TemplateRow) (quota : QuotaRow) : Type 0 where
  pub limit : template.limit ≡ quota.limit
  pub enforce : template.enforce ≡ quota.enforce
  pub thresholds : map unrun_threshold template.thresholds ≡ map unrun_threshold quota.thresholds

-- a template's change reaches no quota, those that were derived from it and match it as it was, or all that were derived from it
abbrev pub Reaches : Update → TemplateRow → QuotaRow → Type 0
Reaches Keep old quota = ⊥
Reaches Matching old quota = (quota.template ≡ Some old.number) × Matches old quota
Reaches All old quota = quota.template ≡ Some old.number

-- a folder without a quota stands in one with an auto-apply quota, which doesn't exclude its name: the quota is that of the template
pub record Gets (R : Rows) (moment folder : ℕ) (quota : QuotaRow) : Type 0 where
  pub auto : AutoRow
  pub template : TemplateRow
  pub unset : quota_of R folder ≡ None
  pub above : auto_of R (parent_of R.nodes folder) ≡ Some auto
  pub included : excludes auto (name_of R.nodes folder) ≡ false
  pub source : template_of R.templates auto.template ≡ Some template
  pub made : derived template folder (start R.nodes folder) moment ≡ quota
