-- One command: the machine's step.
use Rattle.std.specs.Prelude.{ℕ, nat_lt, Bool, true, false, List, [], ◌∷◌, ◌++◌, Option, Some, None, option_map, if◌then◌else◌}
use Rattle.fsrm_model.specs.declared.row.Capacity.{Capacity}
use Rattle.fsrm_model.specs.declared.row.Rows.{Rows}
use Rattle.fsrm_model.specs.declared.command.Act.{Act}
use Rattle.fsrm_model.specs.declared.command.Command.{Command}
use Rattle.fsrm_model.specs.declared.command.Outcome.{Outcome}
use Rattle.fsrm_model.specs.declared.command.Outcome.TheVariants.{Refused}
use Rattle.fsrm_model.specs.declared.command.Refusal.{Refusal}
use Rattle.fsrm_model.specs.declared.command.Refusal.TheVariants.{ClockBack, ScreenBlocked, QuotaExceeded}
use Rattle.fsrm_model.specs.objects.Audits.{audited}
pub use Rattle.fsrm_model.specs.commands.Commands.{work}
use Rattle.fsrm_model.specs.commands.Check.{◌when◌, first}
use Rattle.fsrm_model.specs.objects.DueActions.{due, due_refused, due_screen}
use Rattle.fsrm_model.specs.objects.Runs.{ran}
use Rattle.fsrm_model.specs.commands.Work.{Work, Judged}
use Rattle.fsrm_model.specs.objects.Quota.{peaks}
use Rattle.fsrm_model.specs.objects.QuotaStates.{followed}

-- what a command leaves and answers, and the actions that it runs
pub record Stepped : Type 0 where
  pub rows : Rows
  pub outcome : Outcome
  pub lasting : Bool
  pub acts : List Act

-- whether no refusal is the answer
abbrev pub is_accepted : Outcome → Bool
is_accepted (Refused refusal) = false
is_accepted other = true

-- rows, and the actions that led to them
pub record Acted : Type 0 where
  pub rows : Rows
  pub acts : List Act

-- no action ran
abbrev pub unacted : Rows → Acted
unacted R = record { rows = R; acts = [] }

-- rows after acts ran at a moment, and these acts
abbrev pub acted : ℕ → List Act → Rows → Acted
acted moment acts R = record { rows = ran moment acts R; acts = acts }

-- what a name leaves that a screen judges: its entry in the audit log, and the runs of the screen's actions that are due
abbrev pub screened_by : Rows → ℕ → Judged → Acted
screened_by R moment judged = acted moment (due_screen R.run_limit moment judged.screen) (audited moment judged R)

-- rows, and what a name leaves there that a screen judges, if a command gives one
abbrev pub screened : Rows → ℕ → Option Judged → Acted
screened after moment None = unacted after
screened after moment (Some judged) = screened_by after moment judged

-- the end of a command that lasts: peaks are raised, then the actions run that are due, and its moment becomes the last one
abbrev pub concluded : Capacity → Rows → Acted → ℕ → Acted
concluded K before after moment =
    let peaked = peaks K after.rows moment in
    let end = acted moment (due K before peaked moment) peaked in
    record { rows = record end.rows { last_moment = moment }; acts = after.acts ++ end.acts }

-- what a command leaves that lasts
abbrev pub lasted : Capacity → Rows → Acted → ℕ → Outcome → Stepped
lasted K before after moment outcome =
    let end = concluded K before after moment in
    record { rows = end.rows; outcome = outcome; lasting = true; acts = end.acts }

-- what a command leaves that doesn't
abbrev pub unlasting : Rows → Outcome → Stepped
unlasting R outcome = record { rows = R; outcome = outcome; lasting = false; acts = [] }

-- the rows after these acts ran, and the acts. None if there is no act
abbrev pub ran_if_any : ℕ → List Act → Rows → Option Acted
ran_if_any moment [] R = None
ran_if_any moment (act ∷ acts) R = Some (acted moment (act ∷ acts) R)

-- what a refused command changes all the same, or None if it changes nothing: when a screen blocks the name, what that leaves;
-- when a quota refuses, the actions that are then due have run
abbrev pub left_by : Capacity → Rows → ℕ → Work → Refusal → Option Acted
left_by K R moment w (ScreenBlocked screen) = option_map (screened_by R moment) w.judged
left_by K R moment w (QuotaExceeded folder would limit) = ran_if_any moment (due_refused K R w.effect.nodes moment) R
left_by K R moment w other = None

abbrev pub refused_leaving : Capacity → Rows → ℕ → Refusal → Option Acted → Stepped
refused_leaving K R moment refusal None = unlasting R (Refused refusal)
refused_leaving K R moment refusal (Some after) = lasted K R after moment (Refused refusal)

-- a refused command leaves everything as it was, but for what the refusal leaves
abbrev pub refused : Capacity → Rows → ℕ → Work → Refusal → Stepped
refused K R moment w refusal = refused_leaving K R moment refusal (left_by K R moment w refusal)

-- a command that no check refuses. After its effect a scan may begin
abbrev pub accepted : Capacity → Rows → ℕ → Work → Stepped
accepted K R moment w =
    let after = followed R w.effect in
    if w.lasts then lasted K R (screened after moment w.judged) moment w.outcome else unlasting after w.outcome

-- a command, by the check that refuses it
abbrev pub decided : Capacity → Rows → ℕ → Work → Option Refusal → Stepped
decided K R moment w (Some refusal) = refused K R moment w refusal
decided K R moment w None = accepted K R moment w

-- a command is refused for its moment first, and then by the first of its own refusals that holds
abbrev pub step : Capacity → Rows → Command → Stepped
step K R c =
    let w = work K R c.moment c.deed in
    decided K R c.moment w (first ((ClockBack when nat_lt c.moment R.last_moment) ∷ w.checks))
