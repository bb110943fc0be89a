-- The numbers of actions, and what they name.
use Rattle.std.proofs.Common.{◌≡◌, ℕ, zero, suc, ◌+◌, ◌*◌, ◌<◌, true, List, [], ◌∷◌, Option, Some, None, refl, ◌∙◌, ap, subst, arith, is_some, slice_get, option_map}
use Rattle.std.specs.Option.{option_and_then}
use Rattle.fsrm_base.specs.Keyed.{is_ascending}
use Rattle.fsrm_base.proofs.EditedRows.{ascending_tail}
use Rattle.fsrm_base.proofs.SortedRows.{later_above}
use Rattle.fsrm_model.specs.declared.command.Act.{Act}
use Rattle.fsrm_model.specs.declared.command.Subject.TheVariants.{Quota}
use Rattle.fsrm_model.specs.declared.row.Action.{Action}
use Rattle.fsrm_model.specs.declared.row.QuotaRow.{QuotaRow}
use Rattle.fsrm_model.specs.declared.row.Threshold.{Threshold}
use Rattle.fsrm_model.specs.objects.DueActions.{act_of}
use Rattle.thresholds.specs.Marked.{act_at, act_in, action_at, quota_place, threshold_place, action_place}

-- ---- the digits of a number that is made of them
pub quota_digit : (q t a : ℕ) → t < 16 → a < 8 → quota_place ((q * 128 + t * 8) + a) ≡ q
quota_digit q t a few small = omega (arith, few, small)

pub threshold_digit : (q t a : ℕ) → t < 16 → a < 8 → threshold_place ((q * 128 + t * 8) + a) ≡ t
threshold_digit q t a few small = omega (arith, few, small)

pub action_digit : (q t a : ℕ) → t < 16 → a < 8 → action_place ((q * 128 + t * 8) + a) ≡ a
action_digit q t a few small = omega (arith, few, small)

-- what a number names
pub record Found (quotas : List QuotaRow) (number : ℕ) : Type 0 where
  pub quota : QuotaRow
  pub threshold : Threshold
  pub action : Action
  pub quota_is : slice_get quotas (quota_place number) ≡ Some quota
  pub threshold_is : slice_get quota.thresholds (threshold_place number) ≡ Some threshold
  pub action_is : slice_get threshold.actions (action_place number) ≡ Some action

-- its act, and its action
abbrev pub found_act : {quotas : List QuotaRow} {number : ℕ} → Found quotas number → Act
found_act {quotas} {number} found = act_of (Quota found.quota.folder found.threshold.percent) (action_place number, found.action)

pub found_is : (quotas : List QuotaRow) (number : ℕ) (found : Found quotas number) → act_at quotas number ≡ Some (found_act found)
found_is quotas number found =
    ap (option_and_then (λ quota. act_in quota number)) found.quota_is
    ∙ (ap (option_and_then (λ (t : Threshold). option_map (λ action. act_of (Quota found.quota.folder t.percent) (action_place number, action)) (slice_get t.actions (action_place number)))) found.threshold_is
    ∙ ap (option_map (λ action. act_of (Quota found.quota.folder found.threshold.percent) (action_place number, action))) found.action_is)

pub found_action : (quotas : List QuotaRow) (number : ℕ) (found : Found quotas number) → action_at quotas number ≡ Some found.action
found_action quotas number found =
    ap (option_and_then (λ (quota : QuotaRow). option_and_then (λ (t : Threshold). slice_get t.actions (action_place number)) (slice_get quota.thresholds (threshold_place number)))) found.quota_is
    ∙ (ap (option_and_then (λ (t : Threshold). slice_get t.actions (action_place number))) found.threshold_is ∙ found.action_is)

-- whatever has an act is found
pub found : (quotas : List QuotaRow) (number : ℕ) → is_some (act_at quotas number) ≡ true → Found quotas number
found quotas number there = at (slice_get quotas (quota_place number)) refl there
  where
    last : (quota : QuotaRow) → slice_get quotas (quota_place number) ≡ Some quota → (t : Threshold) → slice_get quota.thresholds (threshold_place number) ≡ Some t → (o : Option Action) → slice_get t.actions (action_place number) ≡ o → is_some (option_map (λ action. act_of (Quota quota.folder t.percent) (action_place number, action)) o) ≡ true → Found quotas number
    last quota e t f (Some action) g there = record { quota = quota; threshold = t; action = action; quota_is = e; threshold_is = f; action_is = g }
    last quota e t f None g there = cc

    inner : (quota : QuotaRow) → slice_get quotas (quota_place number) ≡ Some quota → (o : Option Threshold) → slice_get quota.thresholds (threshold_place number) ≡ o → is_some (option_and_then (λ (t : Threshold). option_map (λ action. act_of (Quota quota.folder t.percent) (action_place number, action)) (slice_get t.actions (action_place number))) o) ≡ true → Found quotas number
    inner quota e (Some t) f there = last quota e t f (slice_get t.actions (action_place number)) refl there
    inner quota e None f there = cc

    at : (o : Option QuotaRow) → slice_get quotas (quota_place number) ≡ o → is_some (option_and_then (λ quota. act_in quota number) o) ≡ true → Found quotas number
    at (Some quota) e there = inner quota e (slice_get quota.thresholds (threshold_place number)) refl there
    at None e there = cc

-- ---- numbers ascend as acts do
-- what stands earlier in ascending rows has the lesser number
pub earlier : {X : Type 0} (key : X → ℕ) (rows : List X) (i j : ℕ) (r s : X) → is_ascending key rows ≡ true → i < j → slice_get rows i ≡ Some r → slice_get rows j ≡ Some s → key r < key s
earlier key [] i j r s a l e f = cc
earlier key (x ∷ rows) zero zero r s a l e f = absurd (omega (arith, l))
earlier key (x ∷ rows) zero (suc j) r s a l e f = subst (λ y. key y < key s) (cc) (later_above key x rows j s a f)
earlier key (x ∷ rows) (suc i) zero r s a l e f = absurd (omega (arith, l))
earlier key (x ∷ rows) (suc i) (suc j) r s a l e f = earlier key rows i j r s (ascending_tail key x rows a) (omega (arith, l)) e f
