-- Quotas of a template, on folders that have none, may come.
use Rattle.std.proofs.Common.{◌≡◌, ℕ, ◌+◌, ◌*◌, ◌≤◌, ◌==◌, nat_lt, Bool, true, false, ◌&&◌, List, [], ◌∷◌, length, Option, Some, None, refl, ap, arith}
use Rattle.std.specs.Prelude.{is_none}
use Rattle.std.specs.List.{AllByRecursion, list_all}
use Rattle.std.specs.Option.{option_map_or}
use Rattle.fsrm_base.specs.Causes.{◌when◌, first}
use Rattle.fsrm_base.specs.Keyed.{is_ascending, row_of}
use Rattle.fsrm_base.specs.Numbers.{is_set}
use Rattle.fsrm_base.proofs.EditedRows.{sum_by-without_row}
use Rattle.fsrm_base.proofs.Members.{all_found}
use Rattle.fsrm_base.proofs.TestLaws.{both, both_true, ge_is, le_test}
use Rattle.fsrm_model.specs.declared.command.Refusal.TheVariants.{TableFull, TextsFull}
use Rattle.fsrm_model.specs.declared.row.QuotaRow.{QuotaRow}
use Rattle.fsrm_model.specs.declared.row.TemplateRow.{TemplateRow}
use Rattle.fsrm_model.specs.values.Limits.{latest_moment, most_quotas, most_templates, most_text_bytes}
use Rattle.fsrm_model.specs.objects.Quota.{folder_of, counts, is_complete, is_limit}
use Rattle.fsrm_model.specs.objects.QuotaStates.{start}
use Rattle.fsrm_model.specs.objects.Templates.{is_template, template_name, template_number, template_of}
use Rattle.fsrm_model.specs.values.Texts.{template_bytes, threshold_bytes}
use Rattle.fsrm_model.specs.objects.Thresholds.{are_thresholds}
use Rattle.fsrm_model.specs.nodes.Tree.{is_folder, usage}
use Rattle.fsrm_model.specs.store.Valid.{IsValid, IsVolume, is_moment}
use Rattle.fsrm_model.proofs.valid.NamesApart.{named_parts}
use Rattle.fsrm_model.proofs.valid.TemplatesKept.{IsTemplate, template_parts}
use Rattle.fsrm_engine.specs.declared.parts.Parts.{Parts}
use Rattle.fsrm_engine.specs.Applying.{AreComing, derived_bytes, quotas_full}
use Rattle.fsrm_parts.specs.Applying.{derived_rows}
use Rattle.fsrm_engine.specs.Faults.{text_room}
use Rattle.fsrm_engine.specs.Machine.{IsWhole, rows_of}
use Rattle.fsrm_engine.proofs.applied.ComingRows.{derived_absent, derived_ascend, derived_folders, derived_legal, derived_many, derived_texts}
use Rattle.fsrm_engine.proofs.tables.StateLaws.{empty_folder, first_empty}

-- the templates of a store
pub templates_ascend : (p : Parts) → IsValid p.tree.size (rows_of p) → is_ascending template_number p.templates.templates ≡ true
templates_ascend p s = (named_parts template_number template_name most_templates is_template p.templates.templates s.tables.templates).ascending

pub template_legal : (p : Parts) (n : ℕ) (t : TemplateRow) → IsWhole p → template_of p.templates.templates n ≡ Some t → IsTemplate t
template_legal p n t w found =
    let all = named_parts template_number template_name most_templates is_template p.templates.templates w.valid.tables.templates in
    template_parts t (all_found is_template (λ x. template_number x == n) p.templates.templates t all.each found)

-- their texts are few
pub template_few : (p : Parts) (n : ℕ) (t : TemplateRow) → IsValid p.tree.size (rows_of p) → template_of p.templates.templates n ≡ Some t → threshold_bytes t.thresholds ≤ most_text_bytes
template_few p n t s found =
    let one = sum_by-without_row template_number template_bytes n t p.templates.templates (templates_ascend p s) found in
    omega (arith, one, s.texts)

-- ---- they may come
module _ (p : Parts) (t : TemplateRow) (moment : ℕ) (volume : IsVolume p.tree.size p.tree.nodes) where
  unused : (folders : List ℕ) → list_all (is_folder p.tree.nodes) folders ≡ true → AllByRecursion (λ (row : QuotaRow). counts row ≡ true → usage p.tree.size p.tree.nodes row.folder ≡ 0) (derived_rows p.tree.nodes t moment folders)
  unused [] h = tt
  unused (f ∷ folders) h =
      let parts = both (is_folder p.tree.nodes f) (list_all (is_folder p.tree.nodes) folders) h in
      let own : is_complete (start p.tree.nodes f) ≡ true → usage p.tree.size p.tree.nodes f ≡ 0 = λ c. empty_folder p.tree.size p.tree.nodes f volume parts.0 (first_empty p.tree.nodes f true c) in
      (own, unused folders parts.1)

  pub derived_coming : (folders : List ℕ) → IsTemplate t → moment ≤ latest_moment → is_set folders ≡ true → list_all (is_folder p.tree.nodes) folders ≡ true → list_all (λ f. is_none (row_of folder_of f p.objects.quotas)) folders ≡ true → length p.objects.quotas + length folders ≤ most_quotas → length folders * threshold_bytes t.thresholds ≤ text_room p → AreComing p (derived_rows p.tree.nodes t moment folders)
  derived_coming folders legal late set kinds absent few short =
      record {
        ascending = derived_ascend p.tree.nodes t moment folders set;
        absent = derived_absent p.tree.nodes t moment p.objects.quotas folders absent;
        folders = derived_folders p.tree.nodes t moment folders kinds;
        legal = derived_legal p.tree.nodes t moment folders
            (both_true (is_limit t.limit) (are_thresholds t.thresholds && is_moment moment) legal.limit
            (both_true (are_thresholds t.thresholds) (is_moment moment) legal.thresholds (le_test moment latest_moment late)));
        unused = unused folders kinds;
        few = omega (arith, few, derived_many p.tree.nodes t moment folders);
        short = omega (arith, short, derived_texts p.tree.nodes t moment folders);
      }

-- ---- what it is that nothing refuses them
pub record IsFit (p : Parts) (count bytes room : ℕ) : Type 0 where
  pub few : length p.objects.quotas + count ≤ most_quotas
  pub short : count * bytes ≤ room

two_none : (a b : Bool) → first ((TableFull when a) ∷ (TextsFull when b) ∷ []) ≡ None → (a ≡ false) × (b ≡ false)
two_none true b h = cc h
two_none false true h = cc h
two_none false false h = (refl, refl)

pub may_come : (p : Parts) (n count room : ℕ) → quotas_full p n count room ≡ None → IsFit p count (derived_bytes p.templates.templates n) room
may_come p n count room h =
    let parts = two_none (nat_lt most_quotas (length p.objects.quotas + count)) (nat_lt room (count * derived_bytes p.templates.templates n)) h in
    record { few = ge_is _ _ parts.0; short = ge_is _ _ parts.1 }

-- the bytes of one, where its template is known
pub bytes_are : (p : Parts) (n : ℕ) (t : TemplateRow) → template_of p.templates.templates n ≡ Some t → derived_bytes p.templates.templates n ≡ threshold_bytes t.thresholds
bytes_are p n t found = ap (λ (o : Option TemplateRow). option_map_or (λ (row : TemplateRow). threshold_bytes row.thresholds) o 0) found
