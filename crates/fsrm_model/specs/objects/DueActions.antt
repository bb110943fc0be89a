-- The actions that are due: those of the thresholds that a command crosses, and of the screen that judges a name, as far as
-- their run limits let them run (MS-FSRM, IFsrmAction, RunLimitInterval).
use Rattle.std.specs.Prelude.{ℕ, ◌+◌, ◌*◌, nat_le, Bool, true, false, ℤ, pos, negsuc, List, [], map, filter, flat_map, slice_get}
use Rattle.std.specs.List.{enumerate_from}
use Rattle.std.specs.Option.{option_map_or}
use Rattle.fsrm_model.specs.declared.command.Act.{Act}
use Rattle.fsrm_model.specs.declared.command.Subject.{Subject}
use Rattle.fsrm_model.specs.declared.command.Subject.TheVariants.{Quota, Screen}
use Rattle.fsrm_model.specs.declared.row.Action.{Action}
use Rattle.fsrm_model.specs.declared.row.Capacity.{Capacity}
use Rattle.fsrm_model.specs.declared.row.NodeRow.{NodeRow}
use Rattle.fsrm_model.specs.declared.row.QuotaRow.{QuotaRow}
use Rattle.fsrm_model.specs.declared.row.Rows.{Rows}
use Rattle.fsrm_model.specs.declared.row.ScreenRow.{ScreenRow}
use Rattle.fsrm_model.specs.objects.Quota.{over, deepest}
use Rattle.fsrm_model.specs.objects.Reached.{crossed}

-- the minutes that pass at least between two runs: the action's own, or if they are negative (-1) the setting
abbrev pub minutes_of : ℕ → ℤ → ℕ
minutes_of run_limit (pos minutes) = minutes
minutes_of run_limit (negsuc n) = run_limit

-- an action may run at a moment if it never ran, or if its minutes have passed since its last run
abbrev pub ready : ℕ → ℕ → Action → Bool
ready run_limit moment action =
    option_map_or (λ run. nat_le (run + 60 * minutes_of run_limit action.minutes) moment) action.last_run true

-- whether an action is there at a place, and may run
abbrev pub is_ready_at : ℕ → ℕ → List Action → ℕ → Bool
is_ready_at run_limit moment actions place = option_map_or (ready run_limit moment) (slice_get actions place) false

-- the act of an action, which stands with its place
abbrev pub act_of : Subject → (ℕ × Action) → Act
act_of subject at = record { subject = subject; place = at.0; kind = at.1.kind }

-- the acts of a subject's actions that may run at a moment, in the order of their places
abbrev pub ready_acts : ℕ → ℕ → Subject → List Action → List Act
ready_acts run_limit moment subject actions =
    map (act_of subject) (filter (λ (at : ℕ × Action). ready run_limit moment at.1) (enumerate_from 0 actions))

-- the acts that may run of a quota's thresholds, of those whose percentage passes a test
abbrev pub quota_acts : (ℕ → Bool) → ℕ → ℕ → QuotaRow → List Act
quota_acts passes run_limit moment quota =
    flat_map (λ threshold. ready_acts run_limit moment (Quota quota.folder threshold.percent) threshold.actions)
    (filter (λ threshold. passes threshold.percent) quota.thresholds)

-- the acts that a command makes due: of each threshold that it crosses, the actions that may run
abbrev pub due : Capacity → Rows → Rows → ℕ → List Act
due K before after moment =
    flat_map (λ quota. quota_acts (crossed K before after quota.folder) after.run_limit moment quota) after.quotas

-- The acts that are due when a quota refuses an operation that would leave these nodes. They are those of the deepest quota
-- that refuses: of each threshold that it would have crossed, the actions that may run. None are due if no quota refuses
abbrev pub due_refused : Capacity → Rows → List NodeRow → ℕ → List Act
due_refused K R nodes moment =
    option_map_or (λ quota. quota_acts (crossed K R (record R { nodes = nodes }) quota.folder) R.run_limit moment quota)
    (deepest nodes (over K R nodes)) []

-- the acts that are due when a screen judges a name: its actions that may run
abbrev pub due_screen : ℕ → ℕ → ScreenRow → List Act
due_screen run_limit moment screen = ready_acts run_limit moment (Screen screen.folder) screen.actions
