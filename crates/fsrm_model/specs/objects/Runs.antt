-- What is left when actions ran: each has its last run, and the log of actions its entry.
use Rattle.std.specs.Prelude.{ℕ, ◌-◌, List, ◌++◌, map, drop, length, Some, if◌then◌else◌}
use Rattle.std.specs.List.{enumerate_from}
use Rattle.fsrm_model.specs.declared.command.Act.{Act}
use Rattle.fsrm_model.specs.declared.command.Subject.{Subject}
use Rattle.fsrm_model.specs.declared.command.Subject.TheVariants.{Quota, Screen}
use Rattle.fsrm_model.specs.declared.row.ActRow.{ActRow}
use Rattle.fsrm_model.specs.declared.row.Action.{Action}
use Rattle.fsrm_model.specs.declared.row.QuotaRow.{QuotaRow}
use Rattle.fsrm_model.specs.declared.row.Rows.{Rows}
use Rattle.fsrm_model.specs.declared.row.ScreenRow.{ScreenRow}
use Rattle.fsrm_model.specs.declared.row.Threshold.{Threshold}
use Rattle.fsrm_model.specs.objects.Acts.{folder_in, percent_in, has_act}
use Rattle.fsrm_model.specs.values.Limits.{most_entries}

-- the actions of a subject, of a threshold, of a quota and of a screen after acts ran at a moment
abbrev pub run_actions : ℕ → List Act → Subject → List Action → List Action
run_actions moment acts subject actions =
    map (λ (at : ℕ × Action). if has_act acts subject at.0 then record at.1 { last_run = Some moment } else at.1) (enumerate_from 0 actions)

abbrev pub run_threshold : ℕ → List Act → ℕ → Threshold → Threshold
run_threshold moment acts folder threshold =
    record threshold { actions = run_actions moment acts (Quota folder threshold.percent) threshold.actions }

abbrev pub run_quota : ℕ → List Act → QuotaRow → QuotaRow
run_quota moment acts quota = record quota { thresholds = map (run_threshold moment acts quota.folder) quota.thresholds }

abbrev pub run_screen : ℕ → List Act → ScreenRow → ScreenRow
run_screen moment acts screen = record screen { actions = run_actions moment acts (Screen screen.folder) screen.actions }

-- what a log keeps: its last 1,024 entries
abbrev pub last_entries : {X : Type 0} → List X → List X
last_entries log = drop (length log - most_entries) log

-- an act's entry in the log of actions
abbrev pub entry_of : ℕ → Act → ActRow
entry_of moment act =
    record { moment = moment; folder = folder_in act.subject; percent = percent_in act.subject; kind = act.kind }

-- the rows after acts ran at a moment
abbrev pub ran : ℕ → List Act → Rows → Rows
ran moment acts R =
    record R {
      quotas = map (run_quota moment acts) R.quotas;
      screens = map (run_screen moment acts) R.screens;
      acts = last_entries (R.acts ++ map (entry_of moment) acts);
    }
