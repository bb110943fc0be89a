-- Quotas that come to others one after another, and the quotas of a template on folders that have none.
use Rattle.std.proofs.Common.{◌≡◌, ℕ, suc, ◌+◌, ◌*◌, ◌==◌, ◌⊎◌, inl, inr, nat_lt, Bool, true, false, cond, not, ◌&&◌, List, [], ◌∷◌, length, Some, None, refl, sym, ◌∙◌, ap, subst, arith}
use Rattle.std.proofs.lemmas.List.Sums.{sum_by-cons}
use Rattle.std.proofs.lemmas.Option.{same_Some}
use Rattle.std.specs.Prelude.{fold, is_none, map, sum_by}
use Rattle.std.specs.List.{AllByRecursion, list_all}
use Rattle.fsrm_base.specs.Keyed.{has_row, is_ascending, row_of, with_row}
use Rattle.fsrm_base.specs.Numbers.{is_set}
use Rattle.fsrm_base.proofs.EditedRows.{sum_by-with_row}
use Rattle.fsrm_base.proofs.Look.{has_row-new_other, is_some-find}
use Rattle.fsrm_base.proofs.Order.{length-with_row}
use Rattle.fsrm_base.proofs.TestLaws.{both, both_true, neither}
use Rattle.fsrm_model.specs.declared.row.NodeRow.{NodeRow}
use Rattle.fsrm_model.specs.declared.row.QuotaRow.{QuotaRow}
use Rattle.fsrm_model.specs.declared.row.TemplateRow.{TemplateRow}
use Rattle.fsrm_model.specs.objects.AutoApply.{quotas_with}
use Rattle.fsrm_model.specs.objects.Quota.{folder_of, is_limit}
use Rattle.fsrm_model.specs.objects.QuotaStates.{start}
use Rattle.fsrm_model.specs.objects.Templates.{derived}
use Rattle.fsrm_model.specs.values.Texts.{quota_bytes, threshold_bytes}
use Rattle.fsrm_model.specs.objects.Thresholds.{are_thresholds}
use Rattle.fsrm_model.specs.nodes.Tree.{is_folder}
use Rattle.fsrm_model.specs.store.Valid.{is_moment}

-- ---- quotas that come
pub length-coming : (quotas coming : List QuotaRow) → length (fold quotas_with quotas coming) ≡ length quotas + length coming
length-coming quotas [] = omega arith
length-coming quotas (q ∷ coming) =
    let rest : length (fold quotas_with (with_row folder_of q quotas) coming) ≡ length (with_row folder_of q quotas) + length coming = length-coming (with_row folder_of q quotas) coming in
    omega (arith, rest, length-with_row folder_of q quotas)

pub bytes-coming : (quotas coming : List QuotaRow) → sum_by quota_bytes (fold quotas_with quotas coming) ≡ sum_by quota_bytes quotas + sum_by quota_bytes coming
bytes-coming quotas [] = omega arith
bytes-coming quotas (q ∷ coming) =
    let rest : sum_by quota_bytes (fold quotas_with (with_row folder_of q quotas) coming) ≡ sum_by quota_bytes (with_row folder_of q quotas) + sum_by quota_bytes coming = bytes-coming (with_row folder_of q quotas) coming in
    omega (arith, rest, sum_by-with_row folder_of quota_bytes q quotas, sum_by-cons quota_bytes q coming)

-- a row that is found beside a new one is that one, or was there
found_with : {X : Type 0} (key : X → ℕ) (n : ℕ) (row found : X) (rows : List X) → row_of key n (with_row key row rows) ≡ Some found → (row_of key n rows ≡ Some found) ⊎ (found ≡ row)
found_with key n row found [] h = at (key row == n) h
  where
    at : (b : Bool) → cond b (Some row) None ≡ Some found → (None ≡ Some found) ⊎ (found ≡ row)
    at true h = inr (sym (same_Some row found h))
    at false h = inl h
found_with {X} key n row found (r ∷ rows) h = by (nat_lt (key row) (key r)) h (found_with key n row found rows)
  where
    first : (b : Bool) → cond b (Some row) (row_of key n (r ∷ rows)) ≡ Some found → (row_of key n (r ∷ rows) ≡ Some found) ⊎ (found ≡ row)
    first true h = inr (sym (same_Some row found h))
    first false h = inl h

    later : (b : Bool) → cond b (Some r) (row_of key n (with_row key row rows)) ≡ Some found → (row_of key n (with_row key row rows) ≡ Some found → (row_of key n rows ≡ Some found) ⊎ (found ≡ row)) → (cond b (Some r) (row_of key n rows) ≡ Some found) ⊎ (found ≡ row)
    later true h rest = inl h
    later false h rest = rest h

    by : (b : Bool) → row_of key n (cond b (row ∷ r ∷ rows) (r ∷ with_row key row rows)) ≡ Some found → (row_of key n (with_row key row rows) ≡ Some found → (row_of key n rows ≡ Some found) ⊎ (found ≡ row)) → (row_of key n (r ∷ rows) ≡ Some found) ⊎ (found ≡ row)
    by true h rest = first (key row == n) h
    by false h rest = later (key r == n) h rest

-- a folder's quota then is that which it had, or one of those that came
pub coming_found : (P : QuotaRow → Type 0) (f : ℕ) (q : QuotaRow) (quotas coming : List QuotaRow) → AllByRecursion P coming → row_of folder_of f (fold quotas_with quotas coming) ≡ Some q → (row_of folder_of f quotas ≡ Some q) ⊎ P q
coming_found P f q quotas [] all h = inl h
coming_found P f q quotas (c ∷ coming) all h =
    elim (coming_found P f q (with_row folder_of c quotas) coming all.1 h) [
      | inl found ↦ at (found_with folder_of f c q quotas found)
      | inr own ↦ inr own
    ]
  where
    at : (row_of folder_of f quotas ≡ Some q) ⊎ (q ≡ c) → (row_of folder_of f quotas ≡ Some q) ⊎ P q
    at (inl old) = inl old
    at (inr same) = inr (subst P (sym same) all.0)

-- the others still come to folders without a quota if one has come
pub absent_later : (q : QuotaRow) (quotas rest : List QuotaRow) → has_row folder_of q.folder rest ≡ false → list_all (λ r. not (has_row folder_of r.folder quotas)) rest ≡ true → list_all (λ r. not (has_row folder_of r.folder (with_row folder_of q quotas))) rest ≡ true
absent_later q quotas [] apart h = refl
absent_later q quotas (r ∷ rest) apart h =
    let no = neither (folder_of r == q.folder) (has_row folder_of q.folder rest) apart in
    let parts = both (not (has_row folder_of r.folder quotas)) (list_all (λ r. not (has_row folder_of r.folder quotas)) rest) h in
    both_true (not (has_row folder_of r.folder (with_row folder_of q quotas))) (list_all (λ r. not (has_row folder_of r.folder (with_row folder_of q quotas))) rest)
    (ap not (has_row-new_other folder_of q r.folder quotas no.0) ∙ parts.0) (absent_later q quotas rest no.1 parts.1)

-- ---- quotas of a template
module _ (nodes : List NodeRow) (t : TemplateRow) (moment : ℕ) where
  abbrev made : ℕ → QuotaRow
  made f = derived t f (start nodes f) moment

  pub derived_ascend : (folders : List ℕ) → is_set folders ≡ true → is_ascending folder_of (map made folders) ≡ true
  derived_ascend [] h = refl
  derived_ascend (f ∷ []) h = refl
  derived_ascend (f ∷ g ∷ folders) h =
      let parts = both (nat_lt f g) (is_set (g ∷ folders)) h in
      both_true (nat_lt f g) (is_ascending folder_of (map made (g ∷ folders))) parts.0 (derived_ascend (g ∷ folders) parts.1)

  pub derived_absent : (quotas : List QuotaRow) (folders : List ℕ) → list_all (λ f. is_none (row_of folder_of f quotas)) folders ≡ true → list_all (λ row. not (has_row folder_of row.folder quotas)) (map made folders) ≡ true
  derived_absent quotas [] h = refl
  derived_absent quotas (f ∷ folders) h =
      let parts = both (is_none (row_of folder_of f quotas)) (list_all (λ f. is_none (row_of folder_of f quotas)) folders) h in
      both_true (not (has_row folder_of f quotas)) (list_all (λ row. not (has_row folder_of row.folder quotas)) (map made folders))
      (ap not (sym (is_some-find (λ r. folder_of r == f) quotas)) ∙ parts.0) (derived_absent quotas folders parts.1)

  pub derived_folders : (folders : List ℕ) → list_all (is_folder nodes) folders ≡ true → list_all (λ row. is_folder nodes row.folder) (map made folders) ≡ true
  derived_folders [] h = refl
  derived_folders (f ∷ folders) h =
      let parts = both (is_folder nodes f) (list_all (is_folder nodes) folders) h in
      both_true (is_folder nodes f) (list_all (λ row. is_folder nodes row.folder) (map made folders)) parts.0 (derived_folders folders parts.1)

  pub derived_legal : (folders : List ℕ) → (is_limit t.limit && (are_thresholds t.thresholds && is_moment moment)) ≡ true → list_all (λ row. is_limit row.limit && (are_thresholds row.thresholds && is_moment row.peak_at)) (map made folders) ≡ true
  derived_legal [] h = refl
  derived_legal (f ∷ folders) h =
      both_true (is_limit t.limit && (are_thresholds t.thresholds && is_moment moment)) (list_all (λ row. is_limit row.limit && (are_thresholds row.thresholds && is_moment row.peak_at)) (map made folders))
      h (derived_legal folders h)

  pub derived_many : (folders : List ℕ) → length (map made folders) ≡ length folders
  derived_many [] = refl
  derived_many (f ∷ folders) = ap (λ n. suc n) (derived_many folders)

  pub derived_texts : (folders : List ℕ) → sum_by quota_bytes (map made folders) ≡ length folders * threshold_bytes t.thresholds
  derived_texts [] = omega arith
  derived_texts (f ∷ folders) =
      let first : quota_bytes (made f) ≡ threshold_bytes t.thresholds = refl in
      let more : suc (length folders) * threshold_bytes t.thresholds ≡ length folders * threshold_bytes t.thresholds + threshold_bytes t.thresholds = omega arith in
      let all : sum_by quota_bytes (map made (f ∷ folders)) ≡ threshold_bytes t.thresholds + sum_by quota_bytes (map made folders) = sum_by-cons quota_bytes (made f) (map made folders) in
      omega (arith, all, more, derived_texts folders)
