-- What a change to the other half asks for, and what it leaves.
use Rattle.std.specs.Prelude.{◌≡◌, ◌<◌, ℕ, Option, List, [], length}
use Rattle.std.specs.Option.{ForSome}
use Rattle.fsrm_model.specs.declared.row.Capacity.{Capacity}
use Rattle.fsrm_model.specs.declared.row.Rows.{Rows}
use Rattle.fsrm_model.specs.store.Lasting.{lasting}
use Rattle.fsrm_outside.specs.Parts.{Parts, part_of, other}
use Rattle.fsrm_journal.specs.Stores.{Stands}
use Rattle.fsrm_journal.specs.declared.heads.Head.{Head}
use Rattle.fsrm_journal.specs.declared.journal.Journal.{Journal}
use Rattle.fsrm_store.specs.Keeps.{Keeps}

-- Where the disk tells its parts, the half that rules has a gate after its records, and the other one has its gate. A disk
-- asks for it before it writes there.
abbrev pub IsReady : {D : Type 0} → (D → Option Parts) → Journal → D → Type 0
IsReady reads journal disk = ForSome (reads disk) (λ parts. (journal.end < length (part_of journal.ruling parts)) × (0 < length (part_of (other journal.ruling) parts)))

-- The half that rules has version 2 and an image of so many bytes, which keeps these rows in a store of this size, and no
-- record.
pub record HasImage {D : Type 0} (reads : D → Option Parts) (clock : D → Option ℕ) (images : D → ℕ → Parts → Type 0) (K : Capacity) (R : Rows) (long : ℕ) (journal : Journal) (disk : D) : Type 0 where
  pub head : Head
  pub bytes : List ℕ
  pub stands : Stands reads clock images head bytes [] journal disk
  pub keeps : Keeps (lasting R) head bytes [] [] R
  pub size : head.size ≡ K
  pub version : head.version ≡ 2
  pub whole : long ≡ length bytes
