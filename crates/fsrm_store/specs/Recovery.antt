-- What a store finds when it is opened, and how it answers.
use Rattle.std.specs.Prelude.{◌≡◌, ◌⊎◌, ℕ, ◌+◌, ◌*◌, ◌≤◌, Bool, true, nat_eq, Option, Some, Result, Ok, Err, IsErrOf, List, [], ◌∷◌, ◌++◌, length}
use Rattle.std.specs.List.{list_all}
use Rattle.fsrm_model.specs.declared.command.Entry.{Entry}
use Rattle.fsrm_model.specs.declared.command.Entry.TheVariants.{Order, Finish}
use Rattle.fsrm_model.specs.declared.row.Capacity.{Capacity}
use Rattle.fsrm_model.specs.declared.row.Rows.{Rows}
use Rattle.fsrm_model.specs.commands.Cost.{cost}
use Rattle.fsrm_model.specs.nodes.Tree.{under}
use Rattle.fsrm_model.specs.store.Lasting.{lasting}
use Rattle.fsrm_model.specs.store.Replays.{after_entry, is_valid_entry, recovered, replayed}
use Rattle.fsrm_outside.specs.Causes.{Rose}
use Rattle.fsrm_outside.specs.Changes.{Same, Through}
use Rattle.fsrm_outside.specs.Parts.{Parts, part_of}
use Rattle.fsrm_outside.specs.declared.traits.Part.{Part}
use Rattle.fsrm_journal.specs.Heads.{head_of}
use Rattle.fsrm_journal.specs.HeadSays.{head_says}
use Rattle.fsrm_journal.specs.Reading.{Comes}
use Rattle.fsrm_journal.specs.Stores.{ReadUpTo, Stands}
use Rattle.fsrm_journal.specs.declared.heads.Head.{Head}
use Rattle.fsrm_journal.specs.declared.journal.Journal.{Journal}
use Rattle.fsrm_engine.specs.Machine.{Machine}
use Rattle.image_codec.specs.ImageIn.{outcome}
use Rattle.image_codec.specs.Images.{image_in}
use Rattle.image_codec.specs.declared.image_in.ImageIn.{ImageIn}
use Rattle.fsrm_store.specs.Keeps.{Spell, Tells}
use Rattle.fsrm_store.specs.Reads.{Rules, image_bytes, ComesTo}
use Rattle.fsrm_store.specs.States.{state_of}
use Rattle.fsrm_store.specs.States.State.{NoState, DamagedAt}
use Rattle.fsrm_store.specs.declared.fault.StoreFault.{StoreFault}
use Rattle.fsrm_store.specs.declared.fault.StoreFault.TheVariants.{NoStore, AlreadyStore, Damaged, DiskFault, NoMemory}

-- ---- how a call answers that only reads
-- A refusal is the state of the parts, but for those of the device and of memory.
abbrev pub IsRefused : Parts → StoreFault → Type 0
IsRefused parts NoStore = state_of parts ≡ NoState
IsRefused parts AlreadyStore = ⊥
IsRefused parts (Damaged part place) = state_of parts ≡ DamagedAt part place
IsRefused parts DiskFault = Unit {0}
IsRefused parts NoMemory = Unit {0}

-- Nothing was written: a read gives what it gave before, and each image is one of those that there were.
pub record OnlyReads {D : Type 0} (reads : D → Option Parts) (clock : D → Option ℕ) (images : D → ℕ → Parts → Type 0) (by : D → D → Type 0) (old new : D) : Type 0 where
  pub same : reads new ≡ reads old
  pub crash : Through clock images Same old new
  pub ran : by old new

-- A failed call of the disk is told where the count of such calls rose, and a count that rose is told.
pub record TellsFaults {T : Type 0} (before now : ℕ) (result : Result T StoreFault) : Type 0 where
  pub later : before ≤ now
  pub failed : IsErrOf result DiskFault → Rose before now
  pub counted : IsErrOf result DiskFault ⊎ (now ≡ before)

-- ---- the image
-- A reader of an image has taken these bytes, which the journal has read of it.
pub record Taken (head : Head) (told : Option Parts) (old journal : Journal) (image : ImageIn) : Type 0 where
  pub bytes : List ℕ
  pub short : length bytes ≤ journal.end
  pub so_far : (more : List ℕ) → outcome image more ≡ image_in head.image (bytes ++ more)
  pub read : (parts : Parts) → told ≡ Some parts → ReadUpTo head [] [] parts old → ReadUpTo head bytes [] parts journal

-- So it has taken all of them.
pub record TakenWhole (head : Head) (told : Option Parts) (old journal : Journal) (image : ImageIn) : Type 0 where
  pub taken : Taken head told old journal image
  pub whole : (parts : Parts) → told ≡ Some parts → ReadUpTo head [] [] parts old → taken.bytes ≡ image_bytes old.ruling head parts

-- The journal has read the image of these parts, which tells these rows.
pub record ReadsRows (head : Head) (rows : Rows) (parts : Parts) (journal : Journal) : Type 0 where
  pub image : List ℕ
  pub read : ReadUpTo head image [] parts journal
  pub whole : head.image ≡ length image
  pub tells : image_in (length image) image ≡ Ok rows

-- ---- the looks
-- of an entry that is done once more, and of entries one after another
abbrev pub entry_cost : Rows → Entry → ℕ
entry_cost R (Order c) = cost R c
entry_cost R (Finish moment folder) = 3 * length (under R.nodes folder)

abbrev pub entries_cost : Capacity → Rows → List Entry → ℕ
entries_cost K R [] = 0
entries_cost K R (entry ∷ entries) = entry_cost R entry + entries_cost K (after_entry K R entry) entries

-- ---- the entries
-- The journal has read the image of these parts, which tells these rows, and then bodies that spell these entries.
pub record HasRead (head : Head) (base : Rows) (entries : List Entry) (parts : Parts) (journal : Journal) : Type 0 where
  pub image : List ℕ
  pub bodies : List (List ℕ)
  pub read : ReadUpTo head image bodies parts journal
  pub whole : head.image ≡ length image
  pub tells : Tells head image bodies base entries

-- All is read, and stands.
pub record AllRead {D : Type 0} (reads : D → Option Parts) (clock : D → Option ℕ) (images : D → ℕ → Parts → Type 0) (head : Head) (base : Rows) (entries : List Entry) (journal : Journal) (disk : D) : Type 0 where
  pub image : List ℕ
  pub bodies : List (List ℕ)
  pub stands : Stands reads clock images head image bodies journal disk
  pub tells : Tells head image bodies base entries

-- The machine has done the entries once more that the journal has read, and no act waits.
pub record Redone (told : Option Parts) (old journal : Journal) (was now : Machine) (looks steps : ℕ) : Type 0 where
  pub entries : List Entry
  pub valid : list_all is_valid_entry entries ≡ true
  pub size : now.size ≡ was.size
  pub rows : now.rows ≡ replayed was.size was.rows entries
  pub idle : now.waiting ≡ []
  pub few : steps ≤ looks + entries_cost was.size was.rows entries
  pub read : (parts : Parts) (head : Head) (base : Rows) → told ≡ Some parts → HasRead head base [] parts old → HasRead head base entries parts journal

-- All entries are done once more, and the store stands.
pub record RedoneAll {D : Type 0} (reads : D → Option Parts) (clock : D → Option ℕ) (images : D → ℕ → Parts → Type 0) (head : Head) (base : Rows) (journal : Journal) (was now : Machine) (disk : D) : Type 0 where
  pub entries : List Entry
  pub valid : list_all is_valid_entry entries ≡ true
  pub rows : now.rows ≡ replayed was.size was.rows entries
  pub size : now.size ≡ was.size
  pub read : AllRead reads clock images head base entries journal disk

-- The engine has the rows that these bytes keep: the entries are done again over those of the image, and scans are given up.
pub record Restored {D : Type 0} (reads : D → Option Parts) (clock : D → Option ℕ) (images : D → ℕ → Parts → Type 0) (head : Head) (engine : Machine) (journal : Journal) (disk : D) : Type 0 where
  pub base : Rows
  pub entries : List Entry
  pub valid : list_all is_valid_entry entries ≡ true
  pub rows : engine.rows ≡ recovered head.size base entries
  pub size : engine.size ≡ head.size
  pub read : AllRead reads clock images head base entries journal disk

-- An engine is handed on, and its scans are given up, where all went well.
abbrev pub given_up : {T : Type 0} → Result T StoreFault → Machine → Result Machine StoreFault
given_up (Ok done) engine = Ok (record engine { rows = lasting engine.rows })
given_up (Err fault) engine = Err fault

-- ---- what it all costs
-- Entries that were done once more took no more looks than entries to which a reader comes.
pub record RedoneLooks (ruling : Part) (head : Head) (base : Rows) (parts : Parts) (was : Machine) (looks steps : ℕ) : Type 0 where
  pub entries : List Entry
  pub end : ℕ
  pub comes : ComesTo ruling head base entries end parts
  pub few : steps ≤ looks + entries_cost was.size was.rows entries

-- All took no more than 3 looks for each node of the image, and those of entries after it to which a reader comes.
pub record OpeningLooks (parts : Parts) (looks steps : ℕ) : Type 0 where
  pub ruling : Part
  pub head : Head
  pub base : Rows
  pub bodies : List (List ℕ)
  pub entries : List Entry
  pub end : ℕ
  pub half : Rules ruling head parts
  pub rows : image_in head.image (image_bytes ruling head parts) ≡ Ok base
  pub comes : Comes (part_of ruling parts) (48 + head.image) bodies end
  pub told : Spell bodies entries
  pub few : steps ≤ looks + (3 * length base.nodes + entries_cost head.size base entries)

-- Where the image tells no rows there was no look.
abbrev pub FewLooks : Parts → ℕ → ℕ → Type 0
FewLooks parts looks steps = (steps ≡ looks) ⊎ OpeningLooks parts looks steps

-- ---- the version
abbrev pub is_first_version : Part → Parts → Bool
is_first_version ruling parts = nat_eq (head_says (head_of (part_of ruling parts))).version 1
