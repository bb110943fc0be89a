-- What a run owes for the mode that its words ask for: what `run` promises of one mode, and of each.
use Rattle.std.proofs.Common.{◌≡◌, ℕ, ◌≤◌, Some, List, length}
use Rattle.std.specs.Prelude.{◌⊎◌, ◌↔◌, None, Option}
use Rattle.std.specs.Option.{ForSome}
use Rattle.fsrm_model.specs.commands.Cost.{list_cost}
use Rattle.fsrm_model.specs.declared.command.Ask.TheVariants.{Quotas}
use Rattle.fsrm_model.specs.declared.row.Capacity.{Capacity}
use Rattle.fsrm_model.specs.declared.row.Rows.{Rows}
use Rattle.fsrm_model.specs.texts.Text.{list_lines}
use Rattle.fsrm_model.specs.values.Limits.{longest_script}
use Rattle.fsrm_outside.specs.Causes.{Rose}
use Rattle.fsrm_outside.specs.Changes.{Same, Through}
use Rattle.fsrm_outside.specs.Members.{Members}
use Rattle.fsrm_outside.specs.Parts.{Parts}
use Rattle.fsrm_outside.specs.Runs.{CrashSafe}
use Rattle.fsrm_session.specs.Covers.{Covers}
use Rattle.fsrm_session.specs.Turns.{script_turns, Turn}
use Rattle.fsrm_store.specs.Init.{IsNew, MakesStore}
use Rattle.made_script.specs.Lines.{made_lines}
use Rattle.notice_text.specs.Outbox.{outbox_text}
use Rattle.program_words.specs.declared.modes.Mode.{Mode}
use Rattle.program_words.specs.declared.modes.Mode.TheVariants.{Init, Replay, Show, Outbox, Work, Expire, Tick}
use Rattle.fsrm_modes.specs.Answers.{most_taken, Fits, IsDoneOrNoMemory, IsIdleOver, IsQuiet, IsReadyOver, IsTooLong, ReadsNothing, Tells, WritesNothing}
use Rattle.fsrm_modes.specs.Bytes.{TakenMost}
use Rattle.fsrm_modes.specs.Expiry.{ask_of, expire_cost, expire_turns}
use Rattle.fsrm_modes.specs.Looks.{FewForScript, FewForTurns, FewToShow}
use Rattle.fsrm_modes.specs.OwnTurns.{TakesTurns}
use Rattle.fsrm_modes.specs.Promises.{Begins, Replays, Shows}
use Rattle.fsrm_modes.specs.Statuses.{KeepsDisk, KeepsReads, KeepsWrites, RunCounts}
use Rattle.fsrm_modes.specs.Tasks.{EndsScript}
use Rattle.fsrm_modes.specs.Ticks.{tick_turns}
use Rattle.fsrm_modes.specs.Views.{outbox_cost, view_cost, view_text}
use Rattle.fsrm_modes.specs.Working.{work_turns, FewForLines, Works}
use Rattle.fsrm_modes.specs.declared.show.View.{View}
use Rattle.fsrm_modes.specs.declared.show.View.TheVariants as views
use Rattle.fsrm_modes.specs.declared.status.Status.{Status}
use Rattle.fsrm_modes.specs.declared.status.Status.TheVariants.{Done, Usage, ReadFault, WriteFault, DiskFault, TooLong, NoMemory}

-- ---- what is owed for one mode
pub record OwesInit {O : Type 0} (M : Members O) (size : Capacity) (status : Status) (old new : O) (was now : ℕ) : Type 0 where
  pub made : (parts : Parts) → M.reads old ≡ Some parts → status ≡ Done → IsNew M.reads M.disk_clock M.images size new
  pub making : (parts : Parts) → M.reads old ≡ Some parts → MakesStore M.disk_clock M.images size old new
  pub unshown : M.shown new ≡ M.shown old
  pub untouched : status ≡ NoMemory → new ≡ old
  pub looks : now ≡ was

pub record OwesReplay {O : Type 0} (M : Members O) (status : Status) (old new : O) (was now : ℕ) : Type 0 where
  pub runs : (K : Capacity) (R : Rows) (script before : List ℕ) → M.left old ≡ Some script → Begins M K R before old → TakesTurns M K R status (script_turns K script) before new
  pub ends : (K : Capacity) (R : Rows) (script before : List ℕ) → M.left old ≡ Some script → Begins M K R before old → EndsScript M K R status script before old new
  pub crash : (K : Capacity) (R : Rows) (script before : List ℕ) (start : ℕ) → M.left old ≡ Some script → Begins M K R before old → M.disk_clock old ≡ Some start → M.sink_clock old ≡ Some start → CrashSafe M (Covers K R (script_turns K script)) start old new
  pub looks : (K : Capacity) (R : Rows) (script before : List ℕ) → M.left old ≡ Some script → (begins : Begins M K R before old) → FewForTurns begins.parts R (script_turns K script) 0 was now

pub record OwesView {O : Type 0} (M : Members O) (view : View) (status : Status) (old new : O) (was now : ℕ) : Type 0 where
  pub shows : (K : Capacity) (R : Rows) (before : List ℕ) → Begins M K R before old → Shows M (view_text view K R) status before new
  pub looks : (K : Capacity) (R : Rows) (before : List ℕ) → (begins : Begins M K R before old) → FewToShow begins.parts (view_cost view R) was now

-- for a mode that takes turns of its own, and so many looks beside theirs
pub record OwesTurns {O : Type 0} (M : Members O) (turns : Capacity → Rows → List Turn) (beside : Capacity → Rows → ℕ) (status : Status) (old new : O) (was now : ℕ) : Type 0 where
  pub runs : (K : Capacity) (R : Rows) (before : List ℕ) → Begins M K R before old → TakesTurns M K R status (turns K R) before new
  pub crash : (K : Capacity) (R : Rows) (before : List ℕ) (start : ℕ) → Begins M K R before old → M.disk_clock old ≡ Some start → M.sink_clock old ≡ Some start → CrashSafe M (Covers K R (turns K R)) start old new
  pub looks : (K : Capacity) (R : Rows) (before : List ℕ) → (begins : Begins M K R before old) → FewForTurns begins.parts R (turns K R) (beside K R) was now

abbrev pub Owes : {O : Type 0} → Members O → Mode → Status → O → O → ℕ → ℕ → Type 0
Owes M (Init size) status old new was now = OwesInit M size status old new was now
Owes M (Replay group) status old new was now = OwesReplay M status old new was now
Owes M Show status old new was now = OwesView M views.Quotas status old new was now
Owes M (Outbox since) status old new was now = OwesView M (views.Outbox since) status old new was now
Owes M (Work seed count) status old new was now = OwesTurns M (λ (K : Capacity) (R : Rows). work_turns K R seed count) (λ (K : Capacity) (R : Rows). 0) status old new was now
Owes M (Expire from to days pattern moment) status old new was now =
    let ask = ask_of from to days pattern moment in OwesTurns M (λ (K : Capacity) (R : Rows). expire_turns K R ask) (λ (K : Capacity) (R : Rows). expire_cost K R ask) status old new was now
Owes M (Tick moment) status old new was now = OwesTurns M (λ (K : Capacity) (R : Rows). tick_turns K R moment) (λ (K : Capacity) (R : Rows). 0) status old new was now

-- ---- and for each
-- what its answer says
pub record Serves {O : Type 0} (M : Members O) (mine : Mode) (status : Status) (old new : O) (was now : ℕ) : Type 0 where
  pub own : Owes M mine status old new was now
  pub fits : Fits mine status
  pub tells : (parts : Parts) → M.reads old ≡ Some parts → Tells mine parts status
  pub quiet : (parts : Parts) → M.reads old ≡ Some parts → IsIdleOver mine parts → IsQuiet M old new
  pub left : ReadsNothing mine → M.left new ≡ M.left old
  pub unwritten : WritesNothing mine → (M.reads new ≡ M.reads old) × Through M.disk_clock M.images Same old new

-- what was taken, and which calls failed
pub record Counted {O : Type 0} (M : Members O) (status : Status) (old new : O) : Type 0 where
  pub taken : TakenMost (M.left old) (M.left new) (most_taken status)
  pub long : (script : List ℕ) → M.left old ≡ Some script → status ≡ TooLong → IsTooLong script (M.left new)
  pub counts : RunCounts status (M.read_faults old) (M.read_faults new) (M.write_faults old) (M.write_faults new) (M.disk_faults old) (M.disk_faults new)

-- what holds if the words ask for nothing
pub record Unasked {O : Type 0} (words : Option Mode) (status : Status) (old new : O) (was now : ℕ) : Type 0 where
  pub usage : status ≡ Usage → words ≡ None
  pub asked : words ≡ None → (status ≡ Usage) ⊎ (status ≡ NoMemory)
  pub idle : words ≡ None → new ≡ old
  pub looks : words ≡ None → now ≡ was

-- ---- all that `run` promises, in its order
abbrev pub Clauses : {O : Type 0} → Members O → Option Mode → Status → O → O → ℕ → ℕ → Type 0
Clauses M words status old new was now = record {
  replay : (group : ℕ) (K : Capacity) (R : Rows) (script before : List ℕ) → words ≡ Some (Replay group) → M.left old ≡ Some script → Begins M K R before old → Replays M K R status script before old new;
  crash : (group : ℕ) (K : Capacity) (R : Rows) (script before : List ℕ) (start : ℕ) → words ≡ Some (Replay group) → M.left old ≡ Some script → Begins M K R before old → M.disk_clock old ≡ Some start → M.sink_clock old ≡ Some start
      → CrashSafe M (Covers K R (script_turns K script)) start old new;
  show : (K : Capacity) (R : Rows) (before : List ℕ) → words ≡ Some Show → Begins M K R before old → Shows M (list_lines K R (Quotas None)) status before new;
  outbox : (since : ℕ) (K : Capacity) (R : Rows) (before : List ℕ) → words ≡ Some (Outbox since) → Begins M K R before old → Shows M (outbox_text K R since) status before new;
  unwritten : (asked : Mode) → words ≡ Some asked → WritesNothing asked → (M.reads new ≡ M.reads old) × Through M.disk_clock M.images Same old new;
  work : (seed count : ℕ) (K : Capacity) (R : Rows) (before : List ℕ) → words ≡ Some (Work seed count) → Begins M K R before old → Works M K R status seed count before new;
  work_crash : (seed count : ℕ) (K : Capacity) (R : Rows) (before : List ℕ) (start : ℕ) → words ≡ Some (Work seed count) → Begins M K R before old → M.disk_clock old ≡ Some start → M.sink_clock old ≡ Some start
      → CrashSafe M (Covers K R (work_turns K R seed count)) start old new;
  expire : (from to : List (List ℕ)) (days : ℕ) (pattern : List ℕ) (moment : ℕ) (K : Capacity) (R : Rows) (before : List ℕ) → words ≡ Some (Expire from to days pattern moment) → Begins M K R before old
      → TakesTurns M K R status (expire_turns K R (ask_of from to days pattern moment)) before new;
  expire_crash : (from to : List (List ℕ)) (days : ℕ) (pattern : List ℕ) (moment : ℕ) (K : Capacity) (R : Rows) (before : List ℕ) (start : ℕ) → words ≡ Some (Expire from to days pattern moment) → Begins M K R before old
      → M.disk_clock old ≡ Some start → M.sink_clock old ≡ Some start → CrashSafe M (Covers K R (expire_turns K R (ask_of from to days pattern moment))) start old new;
  tick : (moment : ℕ) (K : Capacity) (R : Rows) (before : List ℕ) → words ≡ Some (Tick moment) → Begins M K R before old → TakesTurns M K R status (tick_turns K R moment) before new;
  tick_crash : (moment : ℕ) (K : Capacity) (R : Rows) (before : List ℕ) (start : ℕ) → words ≡ Some (Tick moment) → Begins M K R before old → M.disk_clock old ≡ Some start → M.sink_clock old ≡ Some start
      → CrashSafe M (Covers K R (tick_turns K R moment)) start old new;
  made : (size : Capacity) (parts : Parts) → words ≡ Some (Init size) → M.reads old ≡ Some parts → status ≡ Done → IsNew M.reads M.disk_clock M.images size new;
  making : (size : Capacity) (parts : Parts) → words ≡ Some (Init size) → M.reads old ≡ Some parts → MakesStore M.disk_clock M.images size old new;
  unshown : (size : Capacity) → words ≡ Some (Init size) → M.shown new ≡ M.shown old;
  untouched : (size : Capacity) → words ≡ Some (Init size) → status ≡ NoMemory → new ≡ old;
  usage : status ≡ Usage → words ≡ None;
  asked : words ≡ None → (status ≡ Usage) ⊎ (status ≡ NoMemory);
  idle : words ≡ None → new ≡ old;
  fits : (asked : Mode) → words ≡ Some asked → Fits asked status;
  store : (asked : Mode) (parts : Parts) → words ≡ Some asked → M.reads old ≡ Some parts → Tells asked parts status;
  quiet : (asked : Mode) (parts : Parts) → words ≡ Some asked → M.reads old ≡ Some parts → IsIdleOver asked parts → IsQuiet M old new;
  too_long : ForSome (M.left old) (λ script. (status ≡ TooLong) ↔ IsTooLong script (M.left new));
  taken : TakenMost (M.left old) (M.left new) (most_taken status);
  left : (asked : Mode) → words ≡ Some asked → ReadsNothing asked → M.left new ≡ M.left old;
  read_fault : status ≡ ReadFault → Rose (M.read_faults old) (M.read_faults new);
  write_fault : status ≡ WriteFault → Rose (M.write_faults old) (M.write_faults new);
  disk_fault : status ≡ DiskFault → Rose (M.disk_faults old) (M.disk_faults new);
  reads_kept : KeepsReads status (M.read_faults old) (M.read_faults new);
  writes_kept : KeepsWrites status (M.write_faults old) (M.write_faults new);
  disk_kept : KeepsDisk status (M.disk_faults old) (M.disk_faults new);
  complete : (asked : Mode) (parts : Parts) (script : List ℕ) → words ≡ Some asked → M.reads old ≡ Some parts → M.left old ≡ Some script → IsReadyOver asked parts → length script ≤ longest_script
      → (Rose (M.read_faults old) (M.read_faults new) → ⊥) → (Rose (M.write_faults old) (M.write_faults new) → ⊥) → (Rose (M.disk_faults old) (M.disk_faults new) → ⊥) → IsDoneOrNoMemory status;
  looks : (group : ℕ) (K : Capacity) (R : Rows) (script before : List ℕ) → words ≡ Some (Replay group) → M.left old ≡ Some script → (begins : Begins M K R before old) → FewForScript begins.parts K R script was now;
  show_looks : (K : Capacity) (R : Rows) (before : List ℕ) → words ≡ Some Show → (begins : Begins M K R before old) → FewToShow begins.parts (list_cost R (Quotas None)) was now;
  outbox_looks : (since : ℕ) (K : Capacity) (R : Rows) (before : List ℕ) → words ≡ Some (Outbox since) → (begins : Begins M K R before old) → FewToShow begins.parts (outbox_cost R since) was now;
  work_looks : (seed count : ℕ) (K : Capacity) (R : Rows) (before : List ℕ) → words ≡ Some (Work seed count) → (begins : Begins M K R before old) → FewForLines begins.parts K R (made_lines seed count) was now;
  expire_looks : (from to : List (List ℕ)) (days : ℕ) (pattern : List ℕ) (moment : ℕ) (K : Capacity) (R : Rows) (before : List ℕ) → words ≡ Some (Expire from to days pattern moment) → (begins : Begins M K R before old)
      → FewForTurns begins.parts R (expire_turns K R (ask_of from to days pattern moment)) (expire_cost K R (ask_of from to days pattern moment)) was now;
  tick_looks : (moment : ℕ) (K : Capacity) (R : Rows) (before : List ℕ) → words ≡ Some (Tick moment) → (begins : Begins M K R before old) → FewForTurns begins.parts R (tick_turns K R moment) 0 was now;
  init_looks : (size : Capacity) → words ≡ Some (Init size) → now ≡ was;
  no_looks : words ≡ None → now ≡ was;
}
