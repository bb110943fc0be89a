-- What a journal keeps of commands, and what its entries make of rows. A store recovers its rows from what it kept of
-- them at one time (`Lasting`) and the entries of the commands since then that last.
use Rattle.std.specs.Prelude.{◌≡◌, ℕ, ◌+◌, Bool, true, false, not, List, [], ◌∷◌, ◌++◌, Ok, Err, Option, Some, None, is_some, unwrap_or, if◌then◌else◌}
use Rattle.std.specs.List.{list_all}
use Rattle.std.specs.Option.{option_map_or}
use Rattle.fsrm_model.specs.declared.command.Act.{Act}
use Rattle.fsrm_model.specs.declared.command.Command.{Command}
use Rattle.fsrm_model.specs.declared.command.Deed.{Deed}
use Rattle.fsrm_model.specs.declared.command.Deed.TheVariants.{Step, Quota}
use Rattle.fsrm_model.specs.declared.command.QuotaDeed.TheVariants.{Scan as QuotaScan}
use Rattle.fsrm_model.specs.declared.command.Entry.{Entry}
use Rattle.fsrm_model.specs.declared.command.Entry.TheVariants.{Order, Finish}
use Rattle.fsrm_model.specs.declared.command.Outcome.{Outcome}
use Rattle.fsrm_model.specs.declared.command.Outcome.TheVariants.{Refused, Scanned}
use Rattle.fsrm_model.specs.declared.command.Refusal.TheVariants.{ScreenBlocked, QuotaExceeded}
use Rattle.fsrm_model.specs.declared.row.Capacity.{Capacity}
use Rattle.fsrm_model.specs.declared.row.QuotaRow.{QuotaRow}
use Rattle.fsrm_model.specs.declared.row.QuotaState.{QuotaState}
use Rattle.fsrm_model.specs.declared.row.QuotaState.TheVariants.{Complete, Disabled, Rebuilding, Incomplete}
use Rattle.fsrm_model.specs.declared.row.Rows.{Rows}
use Rattle.fsrm_model.specs.commands.Commands.{kind}
use Rattle.fsrm_model.specs.objects.DueActions.{due_refused}
use Rattle.fsrm_model.specs.nodes.FileOps.{target}
use Rattle.fsrm_model.specs.store.Lasting.{lasting}
use Rattle.fsrm_model.specs.lines.Line.{read_line}
use Rattle.fsrm_model.specs.objects.Quota.{quota_of, counts}
use Rattle.fsrm_model.specs.objects.QuotaStates.{is_rebuilding, state_of, with_state, head, followed}
use Rattle.fsrm_model.specs.lines.Reading.{Read}
use Rattle.fsrm_model.specs.lines.Script.{replied, without_cr}
use Rattle.fsrm_model.specs.commands.Step.{Acted, step, work, unacted, concluded}
use Rattle.fsrm_model.specs.store.Valid.{is_empty, is_moment, IsValid}
use Rattle.fsrm_model.specs.store.Valued.{is_command}

-- ---- what entries make of rows: a command is done again, and a scan is finished whatever it had visited
-- whether a quota is still to be counted
abbrev pub is_unfinished : QuotaState → Bool
is_unfinished Complete = false
is_unfinished Disabled = false
is_unfinished Rebuilding = true
is_unfinished Incomplete = true

-- a folder's quota counts from now on, what is there. It leaves the queue, and the rest follows as after a command that lasts
abbrev pub completed : Capacity → Rows → ℕ → ℕ → Acted
completed K R moment folder = concluded K R (unacted (followed R (with_state R folder Complete))) moment

abbrev pub finished : Capacity → Rows → ℕ → ℕ → Rows
finished K R moment folder = (completed K R moment folder).rows

-- a finish of a folder's scan: if its quota was still to be counted it counts from now on, and else nothing changes
abbrev pub finish : Capacity → Rows → ℕ → ℕ → Rows
finish K R moment folder = if is_unfinished (state_of R folder) then finished K R moment folder else R

-- the acts that run then
abbrev pub finish_acts : Capacity → Rows → ℕ → ℕ → List Act
finish_acts K R moment folder = if is_unfinished (state_of R folder) then (completed K R moment folder).acts else []

-- what an entry makes of rows, and entries one after another
abbrev pub after_entry : Capacity → Rows → Entry → Rows
after_entry K R (Order c) = (step K R c).rows
after_entry K R (Finish moment folder) = finish K R moment folder

abbrev pub replayed : Capacity → Rows → List Entry → Rows
replayed K R [] = R
replayed K R (entry ∷ entries) = replayed K (after_entry K R entry) entries

-- the rows that a store recovers. Scans that still wait are lost: their quotas are incomplete
abbrev pub recovered : Capacity → Rows → List Entry → Rows
recovered K base entries = lasting (replayed K base entries)

-- ---- which commands last
-- whether a command goes on with a scan
abbrev pub is_scan_step : Deed → Bool
is_scan_step (Step n) = true
is_scan_step other = false

-- whether a step finished its scan
abbrev pub is_finished_scan : Outcome → Bool
is_finished_scan (Scanned folder visited used) = is_some used
is_finished_scan other = false

-- A command that isn't refused lasts if its entry has a kind: all have one but those that only show something. But a quota
-- that is to be scanned must have been complete, and a step must finish the scan
abbrev pub accepted_lasts : Rows → Deed → Outcome → Bool
accepted_lasts R (Step n) outcome = is_finished_scan outcome
accepted_lasts R (Quota (QuotaScan path)) outcome = option_map_or counts (quota_of R (target R.nodes path)) false
accepted_lasts R other outcome = is_some (kind other)

-- a refused one lasts if a screen blocks the name, or if a quota refuses it and actions are due then
abbrev pub lasts_by : Capacity → Rows → Command → Outcome → Bool
lasts_by K R c (Refused (ScreenBlocked screen)) = true
lasts_by K R c (Refused (QuotaExceeded folder would limit)) =
    not (is_empty (due_refused K R (work K R c.moment c.deed).effect.nodes c.moment))
lasts_by K R c (Refused other) = false
lasts_by K R c outcome = accepted_lasts R c.deed outcome

abbrev pub lasts : Capacity → Rows → Command → Bool
lasts K R c = lasts_by K R c (step K R c).outcome

-- ---- the entries of commands
-- The entry of a command that lasts: the command itself, but for a step that the scan at the head of the queue is
-- finished
abbrev pub deed_entry : Rows → ℕ → Deed → Entry
deed_entry R moment (Step n) = Finish moment (unwrap_or (head R.queue) 0)
deed_entry R moment deed = Order (record { moment = moment; deed = deed })

abbrev pub journal_entry : Rows → Command → Entry
journal_entry R c = deed_entry R c.moment c.deed

-- the entries of a command: none if it doesn't last
abbrev pub command_entries : Capacity → Rows → Command → List Entry
command_entries K R c = if (step K R c).lasting then journal_entry R c ∷ [] else []

-- those of a line: none if it is skipped, or spells no command
abbrev pub read_entries : Capacity → Rows → Option (Read Command) → List Entry
read_entries K R None = []
read_entries K R (Some (Err refusal)) = []
read_entries K R (Some (Ok c)) = command_entries K R c

unfoldable pub line_entries : Capacity → Rows → List ℕ → List Entry
line_entries K R bytes = read_entries K R (read_line (without_cr bytes))

-- those of lines that are numbered from a number on
abbrev pub entries_from : Capacity → Rows → ℕ → List (List ℕ) → List Entry
entries_from K R line [] = []
entries_from K R line (l ∷ ls) = line_entries K R l ++ entries_from K (replied K R line l).rows (line + 1) ls

-- an entry whose values are in their ranges
abbrev pub is_valid_entry : Entry → Bool
is_valid_entry (Order c) = is_command c
is_valid_entry (Finish moment folder) = is_moment moment

-- ---- what a journal says of rows
-- Rows are journaled by a base and the entries since then: they are valid, and what is recovered is what is kept of
-- them
pub record IsJournaled (K : Capacity) (base : Rows) (entries : List Entry) (R : Rows) : Type 0 where
  pub recovers : recovered K base entries ≡ lasting R
  pub valid : IsValid K R

-- whether no scan waits: then valid rows are kept as they are
abbrev pub none_rebuilding : List QuotaRow → Bool
none_rebuilding quotas = list_all (λ quota. not (is_rebuilding quota.state)) quotas
