-- Which actions a command makes due, and which ones a screen that judges a name, apart from any computation.
use Rattle.std.specs.Prelude.{◌≡◌, ℕ, ◌*◌, ◌≤◌, ◌&&◌, Bool, true, List, slice_get, Some}
use Rattle.std.specs.List.{list_all}
use Rattle.fsrm_model.specs.declared.command.Refusal.TheVariants.{QuotaExceeded}
use Rattle.fsrm_model.specs.declared.command.Subject.{Subject}
use Rattle.fsrm_model.specs.declared.command.Subject.TheVariants.{Quota, Screen}
use Rattle.fsrm_model.specs.declared.row.Action.{Action}
use Rattle.fsrm_model.specs.declared.row.Capacity.{Capacity}
use Rattle.fsrm_model.specs.declared.row.NodeRow.{NodeRow}
use Rattle.fsrm_model.specs.declared.row.QuotaRow.{QuotaRow}
use Rattle.fsrm_model.specs.declared.row.Rows.{Rows}
use Rattle.fsrm_model.specs.declared.row.ScreenRow.{ScreenRow}
use Rattle.fsrm_model.specs.objects.Acts.{actions_of}
use Rattle.fsrm_model.specs.objects.DueActions.{ready}
use Rattle.fsrm_base.specs.Keyed.{is_ascending}
use Rattle.fsrm_model.specs.objects.Quota.{folder_of, exceeded}
use Rattle.fsrm_model.specs.objects.Reached.{IsReached}
use Rattle.fsrm_model.specs.objects.Thresholds.{percent_of}

-- quotas in the order of their folders, and the thresholds of each in that of their percentages
abbrev pub are_ascending : List QuotaRow → Bool
are_ascending quotas = is_ascending folder_of quotas && list_all (λ quota. is_ascending percent_of quota.thresholds) quotas

-- the action at a place of a quota's threshold may run, and the threshold is reached now and wasn't before
pub record Raises (K : Capacity) (before after : Rows) (moment folder percent place : ℕ) : Type 0 where
  pub action : Action
  pub there : slice_get (actions_of after (Quota folder percent)) place ≡ Some action
  pub may_run : ready after.run_limit moment action ≡ true
  pub is_reached : IsReached K after folder percent
  pub was_not : IsReached K before folder percent → ⊥

-- a quota refuses that the nodes become these; the action is one of its own and may run, and its threshold isn't reached, but
-- would have been
pub record RaisesRefused (K : Capacity) (R : Rows) (nodes : List NodeRow) (moment folder percent place : ℕ) : Type 0 where
  pub would : ℕ
  pub limit : ℕ
  pub refuses : exceeded K R nodes ≡ Some (QuotaExceeded folder would limit)
  pub action : Action
  pub there : slice_get (actions_of R (Quota folder percent)) place ≡ Some action
  pub may_run : ready R.run_limit moment action ≡ true
  pub was_not : IsReached K R folder percent → ⊥
  pub would_be : percent * limit ≤ 100 * would

-- the subject is the screen, and its action at a place may run
pub record RunsOfScreen (run_limit moment : ℕ) (screen : ScreenRow) (subject : Subject) (place : ℕ) : Type 0 where
  pub own : subject ≡ Screen screen.folder
  pub action : Action
  pub there : slice_get screen.actions place ≡ Some action
  pub may_run : ready run_limit moment action ≡ true
