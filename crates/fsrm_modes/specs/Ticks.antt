-- What a run does that runs the report jobs which are due.
use Rattle.std.specs.Prelude.{◌≡◌, ℕ, ◌+◌, List, [], ◌∷◌, ◌++◌, codes, map}
use Rattle.fsrm_model.specs.declared.command.Command.{Command}
use Rattle.fsrm_model.specs.declared.row.Capacity.{Capacity}
use Rattle.fsrm_model.specs.declared.row.Rows.{Rows}
use Rattle.fsrm_model.specs.store.Lasting.{lasting}
use Rattle.fsrm_model.specs.texts.Printed.{body_line}
use Rattle.fsrm_session.specs.Turns.{Turn, command_turn, rows_after, said_turn}
use Rattle.report_schedule.specs.DueJobs.{due_runs, unread_names}
use Rattle.report_schedule.specs.Ticks.{ticked}

-- the line of a job whose text spells no schedule
abbrev pub unread_line : List ℕ → List ℕ
unread_line name = body_line (codes "unread" ∷ name ∷ [])

abbrev pub unread_turn : List ℕ → Turn
unread_turn name = said_turn (unread_line name)

abbrev pub unread_turns : List (List ℕ) → List Turn
unread_turns names = map unread_turn names

-- commands, whose lines have the numbers from one on
abbrev pub commands_turns : Capacity → ℕ → List Command → List Turn
commands_turns K line [] = []
commands_turns K line (c ∷ commands) = command_turn K line c ∷ commands_turns K (line + 1) commands

-- a run over these rows: the jobs are told that have no schedule, and then those that are due there run, each in the
-- order of their numbers
abbrev pub tick_turns : Capacity → Rows → ℕ → List Turn
tick_turns K R moment = unread_turns (unread_names R.jobs) ++ commands_turns K 1 (due_runs moment R.jobs)

-- ---- the rows after ticks
-- The jobs that were due ran at this moment, and no other did. Beside jobs only what may differ after each command:
-- quotas, for their peaks and their actions' last runs, the log of actions, and the last moment.
pub record IsTicked (moment : ℕ) (R S : Rows) : Type 0 where
  pub jobs : S.jobs ≡ map (λ job. ticked job moment) R.jobs
  pub others : record S { quotas = R.quotas; jobs = R.jobs; acts = R.acts; last_moment = R.last_moment } ≡ R

-- the rows after runs at these moments, each of which begins with what is kept of the rows before
abbrev pub after_runs : Capacity → Rows → List ℕ → Rows
after_runs K R [] = R
after_runs K R (moment ∷ moments) = after_runs K (lasting (rows_after R (tick_turns K R moment))) moments
