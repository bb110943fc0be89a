-- Rows after an edit are as they are to be. `seen` says what contracts see of the rows before it.
use Rattle.std.proofs.Common.{◌≡◌, ℕ, ◌==◌, true, false, List, Option, Some, None, refl, sym, ◌∙◌, ap, subst}
use Rattle.std.proofs.lemmas.Option.{same_Some}
use Rattle.std.specs.List.{list_any}
use Rattle.std.specs.Prelude.{IfSome, is_some, option_map}
use Rattle.fsrm_base.specs.Keyed.{row_of, has_row, is_ascending, with_row, with_change, without_row}
use Rattle.fsrm_base.proofs.EditedTests.{list_all-filter, list_all-with_change, list_all-with_row}
use Rattle.fsrm_base.proofs.Look.{found_has, found_key, found_own, has_row-change, has_row-without_other, is_some-find, is_some-mapped}
use Rattle.fsrm_base.proofs.Members.{all_found}
use Rattle.fsrm_base.proofs.RowLaws.{change_same}
use Rattle.fsrm_model.specs.declared.row.AutoRow.{AutoRow}
use Rattle.fsrm_model.specs.declared.row.TemplateRow.{TemplateRow}
use Rattle.fsrm_model.specs.objects.AutoApply.{auto_folder, is_auto}
use Rattle.fsrm_model.specs.values.Name.{is_named, names_differ}
use Rattle.fsrm_model.specs.objects.Templates.{is_template, template_name, template_named, template_number, template_of}
use Rattle.fsrm_model.proofs.valid.NamesApart.{apart-filter, apart-with_change, apart-with_row, there-with_row}
use Rattle.fsrm_model.proofs.valid.ScreensKept.{all_apart, all_weaker}
use Rattle.templates.specs.Held.{Held, with_auto, with_other, with_template, without_auto, without_template}
use Rattle.templates.specs.Kept.{AreTied}

-- a template that has the name of another row is there
pub named_there : (templates : List TemplateRow) (row : TemplateRow) → option_map template_name (template_of templates row.number) ≡ Some row.name → has_row template_number row.number templates ≡ true
named_there templates row named =
    sym (is_some-find (λ (r : TemplateRow). r.number == row.number) templates)
    ∙ (sym (is_some-mapped template_name (template_of templates row.number)) ∙ ap is_some named)

-- the template that is found by its name is there by its number
pub found_there : (name : List ℕ) (templates : List TemplateRow) (row : TemplateRow) → is_ascending template_number templates ≡ true → template_named templates name ≡ Some row → has_row template_number row.number templates ≡ true
found_there name templates row ascending is = found_has template_number row.number templates row (found_own template_number (is_named template_name name) templates row ascending is)

module _ {held value : Held} (seen : held ≡ value) (are : AreTied held) where
  tied : AreTied value
  tied = subst AreTied seen are

  pub valid_one : (n : ℕ) (row : TemplateRow) → template_of value.templates n ≡ Some row → is_template row ≡ true
  valid_one n row is = all_found is_template (λ r. r.number == n) value.templates row tied.valid is

  -- the template of a folder's auto-apply quota is there
  pub source_there : (folder : ℕ) → IfSome (row_of auto_folder folder value.autos) (λ auto. has_row template_number auto.template value.templates ≡ true)
  source_there folder = at (row_of auto_folder folder value.autos) (λ auto is. all_found (λ a. has_row template_number a.template value.templates) (λ a. a.folder == folder) value.autos auto tied.there is)
    where
      at : (o : Option AutoRow) → ((auto : AutoRow) → o ≡ Some auto → has_row template_number auto.template value.templates ≡ true) → IfSome o (λ auto. has_row template_number auto.template value.templates ≡ true)
      at None h = tt
      at (Some auto) h = h auto refl

  -- ---- templates
  pub more_tied : (row : TemplateRow) → has_row template_number row.number value.templates ≡ false → is_template row ≡ true → list_any (is_named template_name row.name) value.templates ≡ false → AreTied (with_template held row)
  more_tied row free valid new = subst (λ (h : Held). AreTied (with_template h row)) (sym seen) (record {
    valid = list_all-with_row template_number is_template row value.templates valid tied.valid;
    apart = apart-with_row template_number template_name row value.templates new tied.apart;
    autos_valid = tied.autos_valid;
    there = all_weaker (λ auto. has_row template_number auto.template value.templates) (λ auto. has_row template_number auto.template (with_row template_number row value.templates)) value.autos
        (λ auto is. there-with_row template_number row value.templates free auto.template is) tied.there;
  })

  pub less_tied : (n : ℕ) → list_any (λ auto. auto.template == n) value.autos ≡ false → AreTied (without_template held n)
  less_tied n unused = subst (λ (h : Held). AreTied (without_template h n)) (sym seen) (record {
    valid = list_all-filter is_template _ value.templates tied.valid;
    apart = apart-filter template_name _ value.templates tied.apart;
    autos_valid = tied.autos_valid;
    there = all_apart (λ auto. auto.template == n) (λ auto. has_row template_number auto.template value.templates) (λ auto. has_row template_number auto.template (without_row template_number n value.templates)) value.autos
        (λ auto apart is. has_row-without_other template_number n auto.template value.templates apart ∙ is) unused tied.there;
  })

  module _ (row : TemplateRow) (ascending : is_ascending template_number value.templates ≡ true) (named : option_map template_name (template_of value.templates row.number) ≡ Some row.name) where
    -- its number and its name stay
    abbrev other : TemplateRow → TemplateRow
    other r = record row { number = r.number; name = r.name }

    same : with_change template_number row.number (λ (r : TemplateRow). row) value.templates ≡ with_change template_number row.number other value.templates
    same =
        change_same template_number row.number (λ (r : TemplateRow). row) other value.templates ascending
        (λ r is. ap (λ (k : ℕ). record row { number = k }) (sym (found_key template_number row.number value.templates r is))
        ∙ ap (λ (name : List ℕ). record row { number = r.number; name = name }) (same_Some row.name r.name (sym named ∙ ap (option_map template_name) is)))

    pub other_tied : is_template row ≡ true → AreTied (with_other held row)
    other_tied valid = subst (λ (h : Held). AreTied (with_other h row)) (sym seen) (record {
      valid = list_all-with_change template_number is_template row.number (λ (r : TemplateRow). row) value.templates tied.valid (λ r is. valid);
      apart = ap (names_differ template_name) same ∙ (apart-with_change template_number template_name row.number other (λ r. refl) value.templates ∙ tied.apart);
      autos_valid = tied.autos_valid;
      there = all_weaker (λ auto. has_row template_number auto.template value.templates) (λ auto. has_row template_number auto.template (with_change template_number row.number (λ old. row) value.templates)) value.autos
          (λ auto is. ap (has_row template_number auto.template) same ∙ (has_row-change template_number row.number other (λ r. refl) auto.template value.templates ∙ is)) tied.there;
    })

  -- ---- auto-apply quotas
  pub auto_more : (row : AutoRow) → has_row template_number row.template value.templates ≡ true → is_auto row ≡ true → AreTied (with_auto held row)
  auto_more row there valid = subst (λ (h : Held). AreTied (with_auto h row)) (sym seen) (record {
    valid = tied.valid;
    apart = tied.apart;
    autos_valid = list_all-with_row auto_folder is_auto row value.autos valid tied.autos_valid;
    there = list_all-with_row auto_folder (λ auto. has_row template_number auto.template value.templates) row value.autos there tied.there;
  })

  pub auto_less : (n : ℕ) → AreTied (without_auto held n)
  auto_less n = subst (λ (h : Held). AreTied (without_auto h n)) (sym seen) (record {
    valid = tied.valid;
    apart = tied.apart;
    autos_valid = list_all-filter is_auto _ value.autos tied.autos_valid;
    there = list_all-filter (λ auto. has_row template_number auto.template value.templates) _ value.autos tied.there;
  })
