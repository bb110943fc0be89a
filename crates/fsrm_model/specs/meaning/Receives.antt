-- What an accepted command makes of quotas: it changes those of a template with the template, and gives folders quotas of one.
use Rattle.std.specs.Prelude.{◌≡◌, ℕ, true, List, [], ◌∷◌, map, Some, None, if◌then◌else◌}
use Rattle.fsrm_base.specs.Keyed.{with_row, with_change}
use Rattle.fsrm_base.specs.Numbers.{is_in}
use Rattle.fsrm_model.specs.declared.command.Command.{Command}
use Rattle.fsrm_model.specs.declared.command.NewAutoquota.{NewAutoquota}
use Rattle.fsrm_model.specs.declared.command.TemplateChange.{TemplateChange}
use Rattle.fsrm_model.specs.declared.row.Capacity.{Capacity}
use Rattle.fsrm_model.specs.declared.row.NodeRow.{NodeRow}
use Rattle.fsrm_model.specs.declared.row.QuotaRow.{QuotaRow}
use Rattle.fsrm_model.specs.declared.row.Rows.{Rows}
use Rattle.fsrm_model.specs.declared.row.TemplateRow.{TemplateRow}
use Rattle.fsrm_model.specs.objects.Acts.{of_quotas}
use Rattle.fsrm_model.specs.objects.AutoApply.{auto_folder}
use Rattle.fsrm_model.specs.commands.AutoWork.{new_auto}
use Rattle.fsrm_model.specs.meaning.Derives.{Gets}
use Rattle.fsrm_model.specs.nodes.FileOps.{target}
use Rattle.fsrm_model.specs.nodes.Leads.{leads_to_folder}
use Rattle.fsrm_model.specs.objects.Quota.{quota_of, peaked}
use Rattle.fsrm_model.specs.objects.Runs.{run_quota}
use Rattle.fsrm_model.specs.commands.Step.{Stepped, step}
use Rattle.fsrm_model.specs.objects.Templates.{template_number, template_named, updated}
use Rattle.fsrm_model.specs.commands.TemplateWork.{number_in, retemplated}

-- a quota at the end of a command that lasts: a peak that is too low is raised, and its actions have run that the command has run
abbrev pub ended : Capacity → ℕ → Stepped → QuotaRow → QuotaRow
ended K moment s quota = run_quota moment (of_quotas s.acts) (peaked K s.rows.nodes moment quota)

-- the template of the name changes, and with it the quotas that this reaches
pub record Modifies (K : Capacity) (R : Rows) (c : Command) (change : TemplateChange) : Type 0 where
  pub old : TemplateRow
  pub named : template_named R.templates change.name ≡ Some old
  pub templates : (step K R c).rows.templates ≡ with_change template_number old.number (retemplated change) R.templates
  pub quotas : (step K R c).rows.quotas ≡ map (λ quota. ended K c.moment (step K R c) (updated change.update old (retemplated change old) quota)) R.quotas

-- rows with one more auto-apply quota, as a command gives it
abbrev pub with_auto : Rows → NewAutoquota → Rows
with_auto R new =
    let row = new_auto (target R.nodes new.path) (number_in (template_named R.templates new.template)) new.excluded in
    record R { autos = with_row auto_folder row R.autos }

-- the folder that a path leads to, if it leads to one
abbrev pub moved_folder : List NodeRow → List (List ℕ) → List ℕ
moved_folder nodes from = if leads_to_folder nodes from then target nodes from ∷ [] else []

-- each of these folders has the quota from then on that it gets in other rows, no other folder has a new one, and those that were
-- there stay
pub record Gives (K : Capacity) (R E : Rows) (c : Command) (folders : List ℕ) : Type 0 where
  pub given : (folder : ℕ) (quota : QuotaRow) → is_in folders folder ≡ true → Gets E c.moment folder quota → quota_of (step K R c).rows folder ≡ Some (ended K c.moment (step K R c) quota)
  pub stays : (folder : ℕ) (quota : QuotaRow) → quota_of R folder ≡ Some quota → quota_of (step K R c).rows folder ≡ Some (ended K c.moment (step K R c) quota)
  pub none : (folder : ℕ) → quota_of R folder ≡ None → ((quota : QuotaRow) → is_in folders folder ≡ true → Gets E c.moment folder quota → ⊥) → quota_of (step K R c).rows folder ≡ None
