-- A refused command leaves everything as it was, with two exceptions: a screen that blocks a name, and a quota that refuses while
-- actions are due.
use Rattle.std.specs.Prelude.{ℕ, not, Bool, false, List, [], is_some, if◌then◌else◌}
use Rattle.std.specs.Option.{option_map_or}
use Rattle.fsrm_model.specs.declared.command.Act.{Act}
use Rattle.fsrm_model.specs.declared.command.Refusal.{Refusal}
use Rattle.fsrm_model.specs.declared.command.Refusal.TheVariants.{ScreenBlocked, QuotaExceeded}
use Rattle.fsrm_model.specs.declared.row.Capacity.{Capacity}
use Rattle.fsrm_model.specs.declared.row.Rows.{Rows}
use Rattle.fsrm_model.specs.objects.Audits.{audited}
use Rattle.fsrm_model.specs.objects.DueActions.{due_refused, due_screen}
use Rattle.fsrm_model.specs.objects.Quota.{peaks}
use Rattle.fsrm_model.specs.objects.Runs.{ran}
use Rattle.fsrm_model.specs.store.Valid.{is_empty}
use Rattle.fsrm_model.specs.commands.Work.{Work}

-- the actions that run all the same: if a screen blocks the name, those of its own that may run; if a quota refuses the operation,
-- those that are due then
abbrev pub run_by_refusal : Capacity → Rows → ℕ → Work → Refusal → List Act
run_by_refusal K R moment w (ScreenBlocked screen) = option_map_or (λ j. due_screen R.run_limit moment j.screen) w.judged []
run_by_refusal K R moment w (QuotaExceeded folder would limit) = due_refused K R w.effect.nodes moment
run_by_refusal K R moment w other = []

-- whether it leaves something: a blocked name does in any case, and a quota that refuses if actions run
abbrev pub may_leave : Capacity → Rows → ℕ → Work → Refusal → Bool
may_leave K R moment w (ScreenBlocked screen) = is_some w.judged
may_leave K R moment w (QuotaExceeded folder would limit) = not (is_empty (due_refused K R w.effect.nodes moment))
may_leave K R moment w other = false

-- a blocked name has its entry in the audit log
abbrev pub noted : Rows → ℕ → Work → Refusal → Rows
noted R moment w (ScreenBlocked screen) = option_map_or (λ j. audited moment j R) w.judged R
noted R moment w other = R

-- what is left then: these rows with the runs of the actions and their entries, the moment, and no peak below its usage
abbrev pub left_with : Capacity → Rows → ℕ → List Act → Rows
left_with K R moment acts = record (peaks K (ran moment acts R) moment) { last_moment = moment }

abbrev pub left_after : Capacity → Rows → ℕ → Work → Refusal → Rows
left_after K R moment w refusal =
    if may_leave K R moment w refusal then left_with K (noted R moment w refusal) moment (run_by_refusal K R moment w refusal) else R
