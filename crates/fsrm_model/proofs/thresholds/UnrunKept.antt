-- Thresholds of which no action ever ran are such again when a command changes them: what it gives never ran.
use Rattle.std.proofs.Common.{◌≡◌, ℕ, Bool, true, false, cond, not, ◌&&◌, List, [], ◌∷◌, refl, ◌∙◌}
use Rattle.std.proofs.lemmas.List.Folds.{list_all-append}
use Rattle.std.specs.Prelude.{fold, is_none}
use Rattle.std.specs.List.{list_all}
use Rattle.fsrm_model.specs.declared.command.Added.{Added}
use Rattle.fsrm_model.specs.declared.row.Action.{Action}
use Rattle.fsrm_model.specs.declared.row.Threshold.{Threshold}
use Rattle.fsrm_base.specs.Keyed.{has_row, with_row}
use Rattle.fsrm_base.specs.Numbers.{is_in}
use Rattle.fsrm_model.specs.objects.Templates.{is_unrun}
use Rattle.fsrm_model.specs.objects.Thresholds.{percent_of, is_percent, is_action, is_new_action, is_notice, without_thresholds, with_threshold, with_action, with_notice, changed_thresholds}
use Rattle.fsrm_base.proofs.EditedTests.{list_all-with_row, list_all-filter, list_all-with_change}
use Rattle.fsrm_base.proofs.TestLaws.{both, both_true}

unrun-threshold : (thresholds : List Threshold) (percent : ℕ) → list_all is_unrun thresholds ≡ true → list_all is_unrun (with_threshold thresholds percent) ≡ true
unrun-threshold thresholds percent are = at (has_row percent_of percent thresholds)
  where
    new : Threshold
    new = record { percent = percent; actions = [] }

    at : (b : Bool) → list_all is_unrun (cond b thresholds (with_row percent_of new thresholds)) ≡ true
    at true = are
    at false = list_all-with_row percent_of is_unrun new thresholds refl are

unrun-notice : (thresholds : List Threshold) (notice : Added) → is_notice notice ≡ true → list_all is_unrun thresholds ≡ true → list_all is_unrun (with_notice thresholds notice) ≡ true
unrun-notice thresholds notice legal are =
    let parts = both (is_percent notice.percent) (is_new_action notice.action) legal in
    let own = both (is_action notice.action) (is_none notice.action.last_run) parts.1 in
    list_all-with_change percent_of is_unrun notice.percent (with_action notice.action) (with_threshold thresholds notice.percent)
    (unrun-threshold thresholds notice.percent are) (more own.1)
  where
    more : is_none notice.action.last_run ≡ true → (t : Threshold) → is_unrun t ≡ true → is_unrun (with_action notice.action t) ≡ true
    more own t h =
        list_all-append (λ (a : Action). is_none a.last_run) t.actions (notice.action ∷ [])
        ∙ both_true (is_unrun t) (is_none notice.action.last_run && true) h (both_true (is_none notice.action.last_run) true own refl)

unrun-percents : (percents : List ℕ) (thresholds : List Threshold) → list_all is_unrun thresholds ≡ true → list_all is_unrun (fold with_threshold thresholds percents) ≡ true
unrun-percents [] thresholds are = are
unrun-percents (n ∷ percents) thresholds are = unrun-percents percents (with_threshold thresholds n) (unrun-threshold thresholds n are)

unrun-notices : (notices : List Added) (thresholds : List Threshold) → list_all is_notice notices ≡ true → list_all is_unrun thresholds ≡ true → list_all is_unrun (fold with_notice thresholds notices) ≡ true
unrun-notices [] thresholds legal are = are
unrun-notices (notice ∷ notices) thresholds legal are =
    let parts = both (is_notice notice) (list_all is_notice notices) legal in
    unrun-notices notices (with_notice thresholds notice) parts.1 (unrun-notice thresholds notice parts.0 are)

pub changed_unrun : (removed percents : List ℕ) (notices : List Added) (thresholds : List Threshold) → list_all is_notice notices ≡ true → list_all is_unrun thresholds ≡ true → list_all is_unrun (changed_thresholds removed percents notices thresholds) ≡ true
changed_unrun removed percents notices thresholds legal are =
    unrun-notices notices (fold with_threshold (without_thresholds removed thresholds) percents) legal
    (unrun-percents percents (without_thresholds removed thresholds)
    (list_all-filter is_unrun (λ t. not (is_in removed t.percent)) thresholds are))
