-- A quota whose lists and texts aren't too long has few bytes of texts.
use Rattle.std.proofs.Common.{◌≡◌, ℕ, ◌≤◌, nat_le, Bool, true, false, cond, List, [], ◌∷◌, length, None, refl, arith}
use Rattle.std.specs.List.{list_all, list_any}
use Rattle.fsrm_model.specs.declared.row.Action.{Action}
use Rattle.fsrm_model.specs.declared.row.QuotaRow.{QuotaRow}
use Rattle.fsrm_model.specs.declared.row.Threshold.{Threshold}
use Rattle.fsrm_model.specs.values.Limits.{longest_action_text}
use Rattle.fsrm_model.specs.objects.Quota.{folder_of}
use Rattle.fsrm_model.specs.objects.Templates.{is_derived, without_source}
use Rattle.fsrm_model.specs.values.Texts.{action_bytes, quota_bytes}
use Rattle.fsrm_model.specs.objects.Thresholds.{are_too_many, is_crowded}
use Rattle.fsrm_base.proofs.Sums.{sum_by_within}
use Rattle.fsrm_base.proofs.TestLaws.{both, both_true, ge_is, le_test, neither}
use Rattle.fsrm_objects.specs.Tables.{has_short_texts, is_short}

pub actions_small : (actions : List Action) → length actions ≤ 8 → list_all is_short actions ≡ true → action_bytes actions ≤ 8192
actions_small actions few short = omega (arith, sum_by_within (λ action. length action.text) longest_action_text actions short)

each_small : (thresholds : List Threshold) → list_any is_crowded thresholds ≡ false → list_all (λ threshold. list_all is_short threshold.actions) thresholds ≡ true → list_all (λ threshold. nat_le (action_bytes threshold.actions) 8192) thresholds ≡ true
each_small [] few short = refl
each_small (threshold ∷ thresholds) few short =
    let its = neither (is_crowded threshold) (list_any is_crowded thresholds) few in
    let texts = both (list_all is_short threshold.actions) _ short in
    both_true _ _ (le_test _ 8192 (actions_small threshold.actions (ge_is 8 (length threshold.actions) its.0) texts.0)) (each_small thresholds its.1 texts.1)

pub quota_fits : (row : QuotaRow) → are_too_many row.thresholds ≡ false → has_short_texts row ≡ true → quota_bytes row ≤ 131072
quota_fits row few short =
    let its = neither _ (list_any is_crowded row.thresholds) few in
    let least : length row.thresholds ≤ 16 = ge_is 16 (length row.thresholds) its.0 in
    omega (arith, sum_by_within (λ (threshold : Threshold). action_bytes threshold.actions) 8192 row.thresholds (each_small row.thresholds its.1 short))

-- one whose template is gone keeps its folder and its texts
module _ (template : ℕ) (row : QuotaRow) where
  freed : (f : QuotaRow → ℕ) (b : Bool) → f (record row { template = None }) ≡ f row → f (cond b (record row { template = None }) row) ≡ f row
  freed f true same = same
  freed f false same = refl

  pub source_folder : folder_of (without_source template row) ≡ folder_of row
  source_folder = freed folder_of (is_derived template row) refl

  pub source_bytes : quota_bytes (without_source template row) ≡ quota_bytes row
  source_bytes = freed quota_bytes (is_derived template row) refl
