-- Which looks images take: 2 a node for each, and each comes after more than 1 MiB of records.
use Rattle.std.specs.Prelude.{◌≡◌, ◌⊎◌, ℕ, zero, suc, ◌+◌, ◌*◌, ◌≤◌, ◌<◌, max, List, length, sum_by, Result, Ok, Err}
use Rattle.fsrm_model.specs.declared.command.Entry.{Entry}
use Rattle.fsrm_outside.specs.Parts.{other}
use Rattle.fsrm_journal.specs.declared.journal.Journal.{Journal}
use Rattle.record_codec.specs.Entries.{entry as entry_format}
use Rattle.fsrm_store.specs.Standing.{tail_of}
use Rattle.fsrm_store.specs.declared.fault.StoreFault.{StoreFault}
use Rattle.fsrm_store.specs.declared.fault.StoreFault.TheVariants.{DiskFault, NoMemory}
use Rattle.fsrm_store.specs.declared.store.Store.{Store}

-- the bytes of an entry's record: its gate, the length of its body, and the body
abbrev pub record_bytes : Entry → ℕ
record_bytes entry = 5 + length (entry_format.spell entry)

abbrev pub entries_bytes : List Entry → ℕ
entries_bytes entries = sum_by record_bytes entries

-- the bytes of the records that are held. The first of them has no gate yet
abbrev pub held_bytes : ℕ → List ℕ → ℕ
held_bytes zero bytes = 0
held_bytes (suc more) bytes = suc (length bytes)

-- the bytes of all records since the image, those that are held, too
abbrev pub bytes_since : Journal → ℕ
bytes_since journal = tail_of journal + held_bytes journal.held journal.bytes.items

-- what is left of them after a call. After a fault of the disk that is at least nothing
abbrev pub bytes_left : {T : Type 0} → Result T StoreFault → Store → ℕ
bytes_left (Ok done) store = bytes_since store.journal
bytes_left (Err NoMemory) store = bytes_since store.journal
bytes_left (Err DiskFault) store = 0
bytes_left (Err other) store = 0

-- Of records that had so many bytes, 1 MiB and more went for each image that was written, and so many bytes are left. The
-- images took 2 looks a node, and nothing else took more looks than at first.
pub record Amortized (nodes looks steps bytes left : ℕ) : Type 0 where
  pub images : ℕ
  pub few : steps ≤ looks + images * (2 * nodes)
  pub paid : images * 1048576 + left ≤ bytes

-- ---- when an image is written
-- the half that ruled still does, with its image
pub record RulesStill (old new : Store) : Type 0 where
  pub ruling : new.journal.ruling ≡ old.journal.ruling
  pub image_end : new.journal.image_end ≡ old.journal.image_end
  pub image : new.image ≡ old.image

-- The other half rules: the records after the image came to have more bytes than the image, and more than 1 MiB.
pub record TurnsOver (old new : Store) (bytes : ℕ) : Type 0 where
  pub long : max 1048576 old.image < bytes
  pub ruling : new.journal.ruling ≡ other old.journal.ruling

-- it stays or turns over
abbrev pub KeepsHalf : Store → Store → ℕ → Type 0
KeepsHalf old new bytes = RulesStill old new ⊎ TurnsOver old new bytes
