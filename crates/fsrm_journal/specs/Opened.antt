-- What opening a journal answers.
use Rattle.std.specs.Prelude.{◌≡◌, ◌+◌, ◌-◌, ◌^◌, min, Result, Ok, Err, length}
use Rattle.fsrm_outside.specs.Parts.{Parts, part_of, other}
use Rattle.fsrm_outside.specs.declared.traits.Part.{Part}
use Rattle.fsrm_journal.specs.Heads.{head_of, is_open, judged}
use Rattle.fsrm_journal.specs.HeadSays.{head_says}
use Rattle.fsrm_journal.specs.declared.fault.JournalFault.{JournalFault}
use Rattle.fsrm_journal.specs.declared.fault.JournalFault.TheVariants.{NoStore, AlreadyStore, Damaged, DiskFault, NoMemory}
use Rattle.fsrm_journal.specs.declared.heads.Head.{Head}
use Rattle.fsrm_journal.specs.declared.journal.Journal.{Journal}

abbrev pub judged_parts : Parts → Result Part JournalFault
judged_parts parts = judged (head_of parts.zero) (head_of parts.one)

-- The half that rules, its head, and the place of its image, which is read first.
pub record IsOpened (parts : Parts) (journal : Journal) (head : Head) : Type 0 where
  pub rules : judged_parts parts ≡ Ok journal.ruling
  pub says : head ≡ head_says (head_of (part_of journal.ruling parts))
  -- the image comes next, and then the records
  pub at : journal.end ≡ 48
  pub image : journal.image_end ≡ min (head.image + 48) (2 ^ 64 - 1)
  pub long : journal.len ≡ length (part_of journal.ruling parts)
  -- what is known for the change to the other half
  pub generation : journal.generation ≡ head.generation
  pub beside : journal.beside_open ≡ is_open (head_of (part_of (other journal.ruling) parts))

-- a refusal is that of the heads, but for those of the device and of memory
abbrev pub IsRefused : Parts → JournalFault → Type 0
IsRefused parts NoStore = judged_parts parts ≡ Err NoStore
IsRefused parts (Damaged part place) = judged_parts parts ≡ Err (Damaged part place)
IsRefused parts AlreadyStore = judged_parts parts ≡ Err AlreadyStore
IsRefused parts DiskFault = Unit {0}
IsRefused parts NoMemory = Unit {0}

-- the same half rules, and what is known of both stays
pub record StandsOn (old new : Journal) : Type 0 where
  pub ruling : new.ruling ≡ old.ruling
  pub generation : new.generation ≡ old.generation
  pub beside : new.beside_open ≡ old.beside_open

-- the same records are held
pub record HoldsOn (old new : Journal) : Type 0 where
  pub held : new.held ≡ old.held
  pub bytes : new.bytes.items ≡ old.bytes.items
  pub group : new.group ≡ old.group

-- reading goes on, and changes nothing but its place
pub record ReadsOn (old new : Journal) : Type 0 where
  pub ruling : new.ruling ≡ old.ruling
  pub generation : new.generation ≡ old.generation
  pub beside : new.beside_open ≡ old.beside_open
  pub image_end : new.image_end ≡ old.image_end
  pub len : new.len ≡ old.len
  pub written : new.written ≡ old.written
  pub bytes : new.bytes.items ≡ old.bytes.items
  pub held : new.held ≡ old.held
  pub group : new.group ≡ old.group
