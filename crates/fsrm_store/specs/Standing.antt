-- A store beside its disk.
use Rattle.std.specs.Prelude.{◌≡◌, ◌⊎◌, ◌≤◌, ◌+◌, ◌-◌, ℕ, zero, suc, max, nat_eq, true, Option, Ok, List, [], ◌∷◌, length}
use Rattle.fsrm_model.specs.commands.Step.{step}
use Rattle.fsrm_model.specs.declared.command.Command.{Command}
use Rattle.fsrm_model.specs.declared.command.Entry.{Entry}
use Rattle.fsrm_model.specs.declared.row.Capacity.{Capacity}
use Rattle.fsrm_model.specs.declared.row.Rows.{Rows}
use Rattle.fsrm_model.specs.store.Lasting.{lasting}
use Rattle.fsrm_model.specs.store.Replays.{command_entries}
use Rattle.fsrm_model.specs.store.Valued.{is_command}
use Rattle.fsrm_outside.specs.Parts.{Parts, part_of}
use Rattle.fsrm_journal.specs.Heads.{head_of}
use Rattle.fsrm_journal.specs.HeadSays.{head_says}
use Rattle.fsrm_journal.specs.Opened.{judged_parts}
use Rattle.fsrm_journal.specs.Stores.{Holding, Stands, StandsAt}
use Rattle.fsrm_journal.specs.declared.heads.Head.{Head}
use Rattle.fsrm_journal.specs.declared.journal.Journal.{Journal}
use Rattle.fsrm_store.specs.Keeps.{HasTail, HoldsState, Keeps}
pub use Rattle.fsrm_store.specs.NewHalf.{IsReady}
use Rattle.fsrm_store.specs.Recovery.{is_first_version}
use Rattle.fsrm_store.specs.States.{state_of}
use Rattle.fsrm_store.specs.States.State.{Holds}
use Rattle.fsrm_store.specs.declared.store.Store.{Store}

-- The disk holds what the store has of these rows, and of `kept` is what a crash leaves now.
pub record StandsFor {D : Type 0} (reads : D → Option Parts) (clock : D → Option ℕ) (images : D → ℕ → Parts → Type 0) (kept R : Rows) (store : Store) (disk : D) : Type 0 where
  pub head : Head
  pub bytes : List ℕ
  pub bodies : List (List ℕ)
  pub held : List (List ℕ)
  pub stands : Stands reads clock images head bytes bodies store.journal disk
  pub holding : Holding held store.journal
  pub keeps : Keeps kept head bytes bodies held R
  pub size : head.size ≡ store.engine.size
  pub long : store.image ≡ length bytes
  pub version : store.is_old ≡ nat_eq head.version 1

-- So it does of the engine's rows. While a command is kept, the engine is ahead of what is held.
abbrev pub Standing : {D : Type 0} → (D → Option Parts) → (D → Option ℕ) → (D → ℕ → Parts → Type 0) → Rows → Store → D → Type 0
Standing reads clock images kept store disk = StandsFor reads clock images kept store.engine.rows store disk

-- A command that lasts leads from rows to rows, and this is its entry.
pub record Leads (K : Capacity) (R : Rows) (entry : Entry) (next : Rows) : Type 0 where
  pub command : Command
  pub valid : is_command command ≡ true
  pub entries : command_entries K R command ≡ entry ∷ []
  pub rows : (step K R command).rows ≡ next

-- Parts hold either rows, in a store of this size.
abbrev pub HoldsEither : Capacity → Rows → Rows → Parts → Type 0
HoldsEither K kept next parts = HoldsState K kept parts ⊎ HoldsState K next parts

-- what a crash leaves after a call that answered Ok: what is kept of the rows, unless entries are held
abbrev pub rows_kept : ℕ → Rows → Rows → Rows
rows_kept zero kept R = lasting R
rows_kept (suc held) kept R = kept

abbrev pub now_kept : Rows → Store → Rows
now_kept kept store = rows_kept store.journal.held kept store.engine.rows

-- the bytes of the records after the image
abbrev pub tail_of : Journal → ℕ
tail_of journal = journal.end - journal.image_end

-- the records are no longer than the image, or than 1 MiB
abbrev pub IsShort : Store → Type 0
IsShort store = tail_of store.journal ≤ max 1048576 store.image

-- One entry more is held, and nothing was written.
pub record IsHeld (old new : Store) : Type 0 where
  pub count : new.journal.held ≡ old.journal.held + 1
  pub end : new.journal.end ≡ old.journal.end
  pub image_end : new.journal.image_end ≡ old.journal.image_end
  pub image : new.image ≡ old.image

-- All entries are written, and a half that they made too long was left for a new one.
pub record IsWritten (store : Store) : Type 0 where
  pub none : store.journal.held ≡ 0
  pub short : IsShort store

-- The journal, and all that is known beside it, stays as it was. Only the engine may be another.
pub record KeepsJournal (old new : Store) : Type 0 where
  pub journal : new.journal ≡ old.journal
  pub image : new.image ≡ old.image
  pub group : new.group ≡ old.group
  pub is_old : new.is_old ≡ old.is_old
  pub sound : new.sound ≡ old.sound

-- What a read tells of a store that stands: the rows that are kept, which half rules, how long its image is, whether it has
-- version 1, and how many bytes the records after the image have.
pub record IsTold (kept : Rows) (store : Store) (parts : Parts) : Type 0 where
  pub state : state_of parts ≡ Holds store.engine.size kept
  pub rules : judged_parts parts ≡ Ok store.journal.ruling
  pub image : (head_says (head_of (part_of store.journal.ruling parts))).image ≡ store.image
  pub version : is_first_version store.journal.ruling parts ≡ store.is_old
  pub tail : HasTail (tail_of store.journal) parts

-- What stands for one stands for the other: the journal stands where it stood and holds what it held, and the rows are the
-- same.
pub record StandsAlike (old new : Store) : Type 0 where
  pub at : (head : Head) (image : List ℕ) (bodies : List (List ℕ)) (parts : Parts) → StandsAt head image bodies parts old.journal → StandsAt head image bodies parts new.journal
  pub holding : (held : List (List ℕ)) → Holding held old.journal → Holding held new.journal
  pub end : new.journal.end ≡ old.journal.end
  pub image_end : new.journal.image_end ≡ old.journal.image_end
  pub ruling : new.journal.ruling ≡ old.journal.ruling
  pub size : new.engine.size ≡ old.engine.size
  pub rows : new.engine.rows ≡ old.engine.rows
  pub image : new.image ≡ old.image
  pub is_old : new.is_old ≡ old.is_old
