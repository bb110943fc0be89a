-- Quotas that keep their thresholds while their limits change.
use Rattle.std.proofs.Common.{◌≡◌, ℕ, ◌==◌, ◌&&◌, ◌||◌, Bool, true, false, cond, not, List, [], ◌∷◌, Option, Some, refl, ap, sym, ◌∙◌}
use Rattle.std.specs.List.{list_any}
use Rattle.std.specs.Option.{option_map_or}
use Rattle.fsrm_base.specs.Keyed.{has_row, row_of}
use Rattle.fsrm_base.proofs.TestLaws.{eq_is, neither}
use Rattle.fsrm_model.specs.declared.row.QuotaRow.{QuotaRow}
use Rattle.fsrm_model.specs.declared.row.Threshold.{Threshold}
use Rattle.fsrm_model.specs.objects.DueActions.{quota_acts}
use Rattle.fsrm_model.specs.objects.Quota.{folder_of}
use Rattle.fsrm_model.specs.objects.Reached.{has_reached, reaches}
use Rattle.fsrm_model.specs.objects.Thresholds.{percent_of}
use Rattle.fsrm_model.proofs.thresholds.SettleLaws.{no_acts}
use Rattle.fsrm_objects.specs.Tables.{Tables}
use Rattle.quota_usage.specs.declared.change.Counter.{Counter}
use Rattle.quota_usage.specs.Counters.{used_in}
use Rattle.templates.specs.declared.reached.Was.{Was}
use Rattle.templates.specs.Reached.{whole}
use Rattle.templates.proofs.ReachedLaws.{whole_folder}
use Rattle.thresholds.specs.Settled.{crosses, due_in}
use Rattle.fsrm_parts.specs.Updated.{updated_acts, limit_crosses}

-- a test of percentages that fails at each of some thresholds fails at a percentage that is among them
fails_there : (test : ℕ → Bool) (thresholds : List Threshold) (percent : ℕ) → list_any (λ (t : Threshold). test t.percent) thresholds ≡ false → has_row percent_of percent thresholds ≡ true → test percent ≡ false
fails_there test [] percent none has = cc
fails_there test (t ∷ thresholds) percent none has =
    let off = neither (test t.percent) (list_any (λ (t : Threshold). test t.percent) thresholds) none in
    at off.0 (fails_there test thresholds percent off.1) (t.percent == percent) refl has
  where
    at : test t.percent ≡ false → (has_row percent_of percent thresholds ≡ true → test percent ≡ false) → (b : Bool) → (t.percent == percent) ≡ b → (b || has_row percent_of percent thresholds) ≡ true → test percent ≡ false
    at own later true e h = ap test (sym (eq_is t.percent percent e)) ∙ own
    at own later false e h = later h

-- so a quota that keeps its thresholds crosses no percentage, if it crosses none of them by its limit
uncrossed : (apart : List Threshold) (row quota : QuotaRow) (used : Option ℕ) → row.thresholds ≡ apart → quota.thresholds ≡ apart → limit_crosses row.limit quota.limit used apart ≡ false → (percent : ℕ) → crosses (Some row) used used quota percent ≡ false
uncrossed apart row quota used was now none percent =
    ap (λ (ts : List Threshold). (has_row percent_of percent ts && reaches quota.limit percent used) && not (has_reached row percent used)) now
    ∙ (ap (λ (ts : List Threshold). (has_row percent_of percent apart && reaches quota.limit percent used) && not (has_row percent_of percent ts && reaches row.limit percent used)) was
    ∙ at (has_row percent_of percent apart) refl)
  where
    at : (b : Bool) → has_row percent_of percent apart ≡ b → ((b && reaches quota.limit percent used) && not (b && reaches row.limit percent used)) ≡ false
    at true has = fails_there (λ n. reaches quota.limit n used && not (reaches row.limit n used)) apart percent none has
    at false has = refl

pub calm : (tables : Tables) (apart : List Threshold) (w : Was) (quota : QuotaRow) (used : Option ℕ) (run_limit m : ℕ) → w.same ≡ true → row_of folder_of w.row.folder tables.quotas ≡ Some quota → quota.thresholds ≡ apart → limit_crosses w.row.limit quota.limit used apart ≡ false → due_in tables (Some (whole apart w)) used used run_limit m w.row.folder ≡ []
calm tables apart w quota used run_limit m same found now none =
    let row = record w.row { thresholds = apart } in
    ap (λ b. due_in tables (Some (cond b row w.row)) used used run_limit m w.row.folder) same
    ∙ (ap (λ o. option_map_or (λ (q : QuotaRow). quota_acts (crosses (Some row) used used q) run_limit m q) o []) found
    ∙ no_acts (crosses (Some row) used used quota) run_limit m quota (uncrossed apart row quota used refl now none))

-- the acts of a quota that had this row before
pub acts_are : (tables : Tables) (counters : List Counter) (apart : List Threshold) (w : Was) (used : Option ℕ) (run_limit m : ℕ) → used ≡ used_in counters w.row.folder → due_in tables (Some (whole apart w)) used used run_limit m w.row.folder ≡ updated_acts tables counters run_limit m (whole apart w)
acts_are tables counters apart w used run_limit m is =
    ap (λ u. due_in tables (Some (whole apart w)) u u run_limit m w.row.folder) is
    ∙ ap (λ k. due_in tables (Some (whole apart w)) (used_in counters k) (used_in counters k) run_limit m k) (sym (whole_folder apart w))
