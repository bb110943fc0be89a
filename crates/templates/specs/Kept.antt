-- How the tables are held.
use Rattle.std.specs.Prelude.{◌≡◌, ℕ, ◌+◌, ◌*◌, ◌≤◌, true, length}
use Rattle.std.specs.List.{list_all}
use Rattle.fsrm_base.specs.Keyed.{has_row, is_ascending}
use Rattle.fsrm_model.specs.objects.AutoApply.{auto_folder, is_auto}
use Rattle.fsrm_model.specs.values.Limits.{longest_name, most_autos, most_excluded, most_templates}
use Rattle.fsrm_model.specs.values.Name.{names_differ}
use Rattle.fsrm_model.specs.objects.Templates.{is_template, template_name, template_number}
use Rattle.fsrm_objects.specs.Kept.{most_quota_bytes}
use Rattle.templates.specs.Held.{Held, texts_in}

-- the bytes of the texts of a template and of an auto-apply quota whose lists and texts are as long as they may be
abbrev pub most_template_bytes : ℕ
most_template_bytes = longest_name + most_quota_bytes

abbrev pub most_auto_bytes : ℕ
most_auto_bytes = most_excluded * longest_name

-- what the rows of both tables have to be, beside what each table keeps of its own
pub record AreTied (held : Held) : Type 0 where
  pub valid : list_all is_template held.templates ≡ true
  pub apart : names_differ template_name held.templates ≡ true
  pub autos_valid : list_all is_auto held.autos ≡ true
  pub there : list_all (λ auto. has_row template_number auto.template held.templates) held.autos ≡ true

-- Templates in the order of their numbers, no two of one name, and auto-apply quotas in the order of their folders. Each row is
-- as it may be, the template of each auto-apply quota is there, and the bytes of all texts are counted
pub record AreHeld (held : Held) (texts : ℕ) : Type 0 where
  pub ascending : is_ascending template_number held.templates ≡ true
  pub few : length held.templates ≤ most_templates
  pub valid : list_all is_template held.templates ≡ true
  pub apart : names_differ template_name held.templates ≡ true
  pub autos_ascending : is_ascending auto_folder held.autos ≡ true
  pub autos_few : length held.autos ≤ most_autos
  pub autos_valid : list_all is_auto held.autos ≡ true
  pub there : list_all (λ auto. has_row template_number auto.template held.templates) held.autos ≡ true
  pub texts_are : texts ≡ texts_in held
