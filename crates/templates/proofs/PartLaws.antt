-- What a template and an auto-apply quota have, and how long their texts are.
use Rattle.std.proofs.Common.{◌≡◌, ℕ, ◌<◌, ◌≤◌, ◌&&◌, nat_lt, nat_le, true, false, not, List, length, ◌∙◌, ap, arith}
use Rattle.std.specs.List.{list_all}
use Rattle.fsrm_base.specs.Keyed.{is_ascending}
use Rattle.fsrm_base.proofs.Sums.{sum_by_within}
use Rattle.fsrm_base.proofs.TestLaws.{both, is_false, le_is, lt_test}
use Rattle.fsrm_model.specs.declared.row.Action.{Action}
use Rattle.fsrm_model.specs.declared.row.AutoRow.{AutoRow}
use Rattle.fsrm_model.specs.declared.row.QuotaState.TheVariants.{Complete}
use Rattle.fsrm_model.specs.declared.row.TemplateRow.{TemplateRow}
use Rattle.fsrm_model.specs.declared.row.Threshold.{Threshold}
use Rattle.fsrm_model.specs.objects.AutoApply.{is_auto}
use Rattle.fsrm_model.specs.values.Limits.{longest_action_text, longest_name, most_excluded, most_templates}
use Rattle.fsrm_model.specs.values.Name.{is_name, is_name_byte}
use Rattle.fsrm_model.specs.values.Patterns.{is_object_byte, is_object_name}
use Rattle.fsrm_model.specs.objects.Quota.{is_limit}
use Rattle.fsrm_model.specs.objects.Templates.{derived, is_template, is_unrun}
use Rattle.fsrm_model.specs.values.Texts.{auto_bytes, template_bytes, threshold_bytes}
use Rattle.fsrm_model.specs.objects.Thresholds.{are_minutes, are_thresholds, are_too_many, is_action, is_action_text, is_kept_action, is_percent, is_printing, is_threshold, percent_of}
use Rattle.fsrm_model.proofs.valid.ScreensKept.{all_weaker}
use Rattle.fsrm_model.proofs.valid.TemplatesKept.{template_parts}
use Rattle.fsrm_objects.specs.Tables.{is_short}
use Rattle.fsrm_objects.proofs.QuotaRows.{quota_fits}

-- ---- a template
short_action : (action : Action) → is_kept_action action ≡ true → is_short action ≡ true
short_action action h =
    let own = both (is_action action) _ h in
    let text = both (are_minutes action.minutes) (is_action_text action.text) own.0 in
    (both (nat_le (length action.text) longest_action_text) (list_all is_printing action.text) text.1).0

-- thresholds are few, and their texts short
pub small_thresholds : (thresholds : List Threshold) → are_thresholds thresholds ≡ true → (are_too_many thresholds ≡ false) × (list_all (λ threshold. list_all is_short threshold.actions) thresholds ≡ true)
small_thresholds thresholds h =
    let parts = both (is_ascending percent_of thresholds && not (are_too_many thresholds)) (list_all is_threshold thresholds) h in (
      is_false (are_too_many thresholds) (both (is_ascending percent_of thresholds) (not (are_too_many thresholds)) parts.0).1,
      all_weaker is_threshold (λ threshold. list_all is_short threshold.actions) thresholds
          (λ t is. all_weaker is_kept_action is_short t.actions short_action (both (is_percent t.percent) (list_all is_kept_action t.actions) is).1) parts.1,
    )

pub thresholds_fit : (row : TemplateRow) → is_template row ≡ true → threshold_bytes row.thresholds ≤ 131072
thresholds_fit row is =
    let small = small_thresholds row.thresholds (template_parts row is).thresholds in
    quota_fits (derived row 0 Complete 0) small.0 small.1

name_short : (name : List ℕ) → is_object_name name ≡ true → length name ≤ 255
name_short name is = le_is _ _ (both (nat_lt 0 (length name)) _ (both _ (list_all is_object_byte name) is).0).1

pub template_fits : (row : TemplateRow) → is_template row ≡ true → template_bytes row ≤ 131327
template_fits row is = omega (arith, name_short row.name (template_parts row is).named, thresholds_fit row is)

pub new_fits : (row : TemplateRow) → is_template (record row { number = 0 }) ≡ true → template_bytes row ≤ 131327
new_fits row is = template_fits (record row { number = 0 }) is

-- under another number
pub renumbered : (row : TemplateRow) (n : ℕ) → is_template (record row { number = 0 }) ≡ true → n < most_templates → is_template (record row { number = n }) ≡ true
renumbered row n is below =
    ap (λ b. (b && is_object_name row.name) && (is_limit row.limit && (are_thresholds row.thresholds && list_all is_unrun row.thresholds))) (lt_test n most_templates below) ∙ is

-- ---- an auto-apply quota
excluded_short : (text : List ℕ) → is_name text ≡ true → nat_le (length text) longest_name ≡ true
excluded_short text is =
    let front = both ((nat_lt 0 (length text) && nat_le (length text) longest_name) && list_all is_name_byte text) _ is in
    let counts = both (nat_lt 0 (length text) && nat_le (length text) longest_name) (list_all is_name_byte text) front.0 in
    (both (nat_lt 0 (length text)) (nat_le (length text) longest_name) counts.0).1

pub auto_fits : (row : AutoRow) → is_auto row ≡ true → auto_bytes row ≤ 8160
auto_fits row is =
    let parts = both (nat_le (length row.excluded) most_excluded) (list_all is_name row.excluded) is in
    let few : length row.excluded ≤ 32 = le_is (length row.excluded) most_excluded parts.0 in
    omega (arith, sum_by_within (λ (text : List ℕ). length text) longest_name row.excluded (all_weaker is_name (λ text. nat_le (length text) longest_name) row.excluded excluded_short parts.1))
