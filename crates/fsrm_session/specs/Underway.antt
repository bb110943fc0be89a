-- How far a run has come, and how it goes on or stops.
use Rattle.std.specs.Prelude.{◌≡◌, ℕ, ◌≤◌, true, false, Some, List, [], ◌∷◌, ◌++◌, length, Option}
use Rattle.fsrm_model.specs.declared.row.Capacity.{Capacity}
use Rattle.fsrm_model.specs.declared.row.Rows.{Rows}
use Rattle.fsrm_model.specs.store.Lasting.{lasting}
use Rattle.fsrm_outside.specs.Members.{Members}
use Rattle.fsrm_outside.specs.Parts.{Parts}
use Rattle.fsrm_outside.specs.Runs.{CoversMore, EachMoment}
use Rattle.fsrm_outside.specs.Shown.{IsFront}
use Rattle.fsrm_store.specs.Standing.{IsReady, Standing}
use Rattle.fsrm_session.specs.Covers.{Covers}
use Rattle.fsrm_session.specs.Turns.{Turn, rows_after, text_of}
use Rattle.fsrm_session.specs.declared.session.Session.{Session}
use Rattle.fsrm_session.specs.declared.stop.Stop.{Stop}
use Rattle.fsrm_session.specs.declared.stop.Stop.TheVariants.{WriteFault, DiskFault, NoMemory}

-- ---- what a session needs
-- Its store may be written to.
pub record CanFlush {D : Type 0} (reads : D → Option Parts) (session : Session) (disk : D) : Type 0 where
  pub sound : session.store.sound ≡ true
  pub young : session.store.is_old ≡ false
  pub ready : IsReady reads session.store.journal disk

-- And no act waits: it may take a command.
pub record CanTake {D : Type 0} (reads : D → Option Parts) (session : Session) (disk : D) : Type 0 where
  pub flush : CanFlush reads session disk
  pub idle : session.store.engine.waiting ≡ []

-- ---- how far it has come
-- a front of the words was shown, after what had been shown before
abbrev pub ShowsSome : {O : Type 0} → Members O → List ℕ → List ℕ → O → Type 0
ShowsSome M words before now = (front : List ℕ) × (M.shown now ≡ Some (before ++ front)) × IsFront front words

-- These turns were taken over the rows R. Of their text these words were told so far, of which some are shown and the
-- rest waits. What is shown is of first turns of which all is on the disk.
pub record Underway {O : Type 0} (M : Members O) (K : Capacity) (R : Rows) (turns : List Turn) (words before : List ℕ) (session : Session) (now : O) : Type 0 where
  pub first : List Turn
  pub later : List Turn
  pub split : turns ≡ first ++ later
  pub shown : List ℕ
  pub shown_is : M.shown now ≡ Some (before ++ shown)
  pub words_are : words ≡ shown ++ session.kept.items
  pub front : IsFront words (text_of R turns)
  pub few : length shown ≤ length (text_of R first)
  pub size : session.store.engine.size ≡ K
  pub rows : session.store.engine.rows ≡ rows_after R turns
  pub standing : Standing M.reads M.disk_clock M.images (lasting (rows_after R first)) session.store now

-- at each moment each image covers what is shown of the turns
abbrev pub Safe : {O : Type 0} → Members O → Capacity → Rows → List Turn → List ℕ → O → O → Type 0
Safe M K R turns before old new = EachMoment M (CoversMore (Covers K R turns) (length before)) old new

-- ---- how it goes on, whatever turns were taken before
-- What waits may be shown.
pub record Calms {O : Type 0} (M : Members O) (was next : Session) (old new : O) : Type 0 where
  pub calms : (K : Capacity) (R : Rows) (turns : List Turn) (words before : List ℕ) → Underway M K R turns words before was old
      → Underway M K R turns words before next new × Safe M K R turns before old new

-- A turn is taken, of which nothing is told yet.
pub record Enters {O : Type 0} (M : Members O) (turn : Turn) (was next : Session) (old new : O) : Type 0 where
  pub enters : (K : Capacity) (R : Rows) (turns : List Turn) (words before : List ℕ) → Underway M K R turns words before was old
      → Underway M K R (turns ++ turn ∷ []) words before next new × Safe M K R (turns ++ turn ∷ []) before old new

-- More is told of turns that were taken.
pub record Tells {O : Type 0} (M : Members O) (more : List ℕ) (was next : Session) (old new : O) : Type 0 where
  pub tells : (K : Capacity) (R : Rows) (turns : List Turn) (words before : List ℕ) → Underway M K R turns words before was old → IsFront (words ++ more) (text_of R turns)
      → Underway M K R turns (words ++ more) before next new × Safe M K R turns before old new

-- Turns are taken, and their whole text is told.
pub record Goes {O : Type 0} (M : Members O) (more : List Turn) (was next : Session) (old new : O) : Type 0 where
  pub goes : (K : Capacity) (R : Rows) (turns : List Turn) (before : List ℕ) → Underway M K R turns (text_of R turns) before was old
      → Underway M K R (turns ++ more) (text_of R (turns ++ more)) before next new × Safe M K R (turns ++ more) before old new

-- ---- how it stops
-- Of turns that could be taken some first ones were, and of their text some was told. It may still be shown.
pub record Left {O : Type 0} (M : Members O) (K : Capacity) (R : Rows) (turns : List Turn) (before : List ℕ) (session : Session) (now : O) : Type 0 where
  pub done : List Turn
  pub rest : List Turn
  pub are : turns ≡ done ++ rest
  pub words : List ℕ
  pub here : Underway M K R done words before session now

-- If memory ran out the session goes on to stand; else nothing more can be done.
abbrev pub Stopped : {O : Type 0} → Members O → Stop → Capacity → Rows → List Turn → List ℕ → Session → O → Type 0
Stopped M WriteFault K R turns before session now = ShowsSome M (text_of R turns) before now
Stopped M DiskFault K R turns before session now = ShowsSome M (text_of R turns) before now
Stopped M NoMemory K R turns before session now = Left M K R turns before session now

-- so it is after turns of which the words were told
pub record Breaks {O : Type 0} (M : Members O) (stop : Stop) (was next : Session) (old new : O) : Type 0 where
  pub breaks : (K : Capacity) (R : Rows) (turns : List Turn) (words before : List ℕ) → Underway M K R turns words before was old
      → Stopped M stop K R turns before next new × Safe M K R turns before old new

-- as they were being told
pub record StopsTelling {O : Type 0} (M : Members O) (stop : Stop) (more : List ℕ) (was next : Session) (old new : O) : Type 0 where
  pub stops : (K : Capacity) (R : Rows) (turns : List Turn) (words before : List ℕ) → Underway M K R turns words before was old → IsFront (words ++ more) (text_of R turns)
      → Stopped M stop K R turns before next new × Safe M K R turns before old new

-- as turns were being taken
pub record Stops {O : Type 0} (M : Members O) (stop : Stop) (more : List Turn) (was next : Session) (old new : O) : Type 0 where
  pub stops : (K : Capacity) (R : Rows) (turns : List Turn) (before : List ℕ) → Underway M K R turns (text_of R turns) before was old
      → Stopped M stop K R (turns ++ more) before next new × Safe M K R (turns ++ more) before old new
