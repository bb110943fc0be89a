-- Quotas that come to folders by auto-apply.
use Rattle.std.specs.Prelude.{◌≡◌, ℕ, ◌+◌, ◌*◌, ◌≤◌, ◌&&◌, nat_le, nat_lt, not, true, List, [], ◌∷◌, length, Option, Some, None}
use Rattle.std.specs.List.{AllByRecursion, list_all}
use Rattle.std.specs.Option.{option_map_or}
use Rattle.fsrm_base.specs.Keyed.{has_row, is_ascending}
use Rattle.fsrm_model.specs.declared.command.Refusal.{Refusal}
use Rattle.fsrm_model.specs.declared.command.Refusal.TheVariants.{TableFull, TextsFull}
use Rattle.fsrm_model.specs.declared.row.AutoRow.{AutoRow}
use Rattle.fsrm_model.specs.declared.row.QuotaRow.{QuotaRow}
use Rattle.fsrm_model.specs.declared.row.TemplateRow.{TemplateRow}
use Rattle.fsrm_model.specs.commands.Check.{◌when◌, first}
use Rattle.fsrm_model.specs.values.Limits.{most_autos, most_quotas}
use Rattle.fsrm_model.specs.objects.Quota.{folder_of, counts, is_limit}
use Rattle.fsrm_model.specs.objects.Templates.{template_of}
use Rattle.fsrm_model.specs.values.Texts.{auto_bytes, threshold_bytes}
use Rattle.fsrm_model.specs.objects.Thresholds.{are_thresholds}
use Rattle.fsrm_model.specs.nodes.Tree.{is_folder, usage}
use Rattle.fsrm_model.specs.store.Valid.{is_moment}
use Rattle.fsrm_objects.specs.Tables.{quota_texts}
use Rattle.fsrm_engine.specs.declared.parts.Parts.{Parts}
use Rattle.fsrm_engine.specs.Faults.{text_room}
use Rattle.fsrm_parts.specs.Applying.{derived_rows, given_folders}

-- quotas that come to folders that have none: legal, in the order of their folders, and those that count use nothing yet
pub record AreComing (parts : Parts) (rows : List QuotaRow) : Type 0 where
  pub ascending : is_ascending folder_of rows ≡ true
  pub absent : list_all (λ row. not (has_row folder_of row.folder parts.objects.quotas)) rows ≡ true
  pub folders : list_all (λ row. is_folder parts.tree.nodes row.folder) rows ≡ true
  pub legal : list_all (λ row. is_limit row.limit && (are_thresholds row.thresholds && is_moment row.peak_at)) rows ≡ true
  pub unused : AllByRecursion (λ row. counts row ≡ true → usage parts.tree.size parts.tree.nodes row.folder ≡ 0) rows
  pub few : length parts.objects.quotas + length rows ≤ most_quotas
  pub short : quota_texts rows ≤ text_room parts

-- the bytes of the texts of one
abbrev pub derived_bytes : List TemplateRow → ℕ → ℕ
derived_bytes templates template =
    option_map_or (λ (row : TemplateRow). threshold_bytes row.thresholds) (template_of templates template) 0

-- why so many quotas of a template can't come, if so many bytes of texts may still come
abbrev pub quotas_full : Parts → ℕ → ℕ → ℕ → Option Refusal
quotas_full parts template count room =
    first ((TableFull when nat_lt most_quotas (length parts.objects.quotas + count))
    ∷ (TextsFull when nat_lt room (count * derived_bytes parts.templates.templates template)) ∷ [])

-- why it can't come, if it gives so many quotas
abbrev pub apply_refusal : Parts → AutoRow → ℕ → Option Refusal
apply_refusal parts auto count =
    first ((TableFull when nat_le most_autos (length parts.templates.autos))
    ∷ (TableFull when nat_lt most_quotas (length parts.objects.quotas + count))
    ∷ (TextsFull when nat_lt (text_room parts) (count * derived_bytes parts.templates.templates auto.template + auto_bytes auto)) ∷ [])

-- nothing refuses it, and these are the quotas that it gives
pub record IsGiven (parts : Parts) (auto : AutoRow) (moment : ℕ) (rows : List QuotaRow) : Type 0 where
  pub may : apply_refusal parts auto (length (given_folders parts.tree.nodes parts.objects.quotas auto)) ≡ None
  pub rows_are : (source : TemplateRow) → template_of parts.templates.templates auto.template ≡ Some source → rows ≡ derived_rows parts.tree.nodes source moment (given_folders parts.tree.nodes parts.objects.quotas auto)
