-- What a crash may leave. Let the stable bytes be those after the last sync that did its work. In an image each part's
-- length lies between that of the stable bytes and the greatest since; bytes within the stable ones and outside all
-- ranges written since equal these; all others may be any.
use Rattle.std.specs.Prelude.{◌≡◌, ◌⊎◌, ℕ, ◌+◌, ◌≤◌, ◌<◌, max, true, false, List, [], ◌∷◌, length, slice_index}
use Rattle.fsrm_outside.specs.Parts.{Parts, part_of}
use Rattle.fsrm_outside.specs.Record.{now_of}
use Rattle.fsrm_outside.specs.declared.calls.Call.{Call}
use Rattle.fsrm_outside.specs.declared.calls.Call.TheVariants.{Read, Write, Len, ReadAt, WriteAt, FailedAt, Sync}
use Rattle.fsrm_outside.specs.declared.traits.Part.{Part}
use Rattle.fsrm_outside.specs.declared.traits.Part.TheVariants.{Zero, One}

-- of one part: the stable bytes, the ranges written since (place and length), and the greatest length since
pub record Since : Type 0 where
  pub stable : List ℕ
  pub written : List (ℕ × ℕ)
  pub greatest : ℕ

abbrev pub IsOutside : List (ℕ × ℕ) → ℕ → Type 0
IsOutside [] k = Unit {0}
IsOutside (range ∷ written) k = ((k < range.0) ⊎ (range.0 + range.1 ≤ k)) × IsOutside written k

pub record IsPartImage (since : Since) (image : List ℕ) : Type 0 where
  pub no_shorter : length since.stable ≤ length image
  pub no_longer : length image ≤ since.greatest
  pub same : (k : ℕ) → k < length since.stable → IsOutside since.written k → slice_index image k ≡ slice_index since.stable k

-- a write of n bytes more, also one that failed
abbrev pub wrote : Since → ℕ → ℕ → Since
wrote since place n = record { stable = since.stable; written = (place, n) ∷ since.written; greatest = max since.greatest (place + n) }

-- nothing was written since
abbrev pub settled : List ℕ → Since
settled bytes = record { stable = bytes; written = []; greatest = length bytes }

-- of a record of calls, the newest first
abbrev pub since_of : Parts → List Call → Part → Since
since_of start [] part = settled (part_of part start)
since_of start (WriteAt Zero place bytes ∷ calls) Zero = wrote (since_of start calls Zero) place (length bytes.items)
since_of start (WriteAt Zero place bytes ∷ calls) One = since_of start calls One
since_of start (WriteAt One place bytes ∷ calls) Zero = since_of start calls Zero
since_of start (WriteAt One place bytes ∷ calls) One = wrote (since_of start calls One) place (length bytes.items)
since_of start (FailedAt Zero place count ∷ calls) Zero = wrote (since_of start calls Zero) place count
since_of start (FailedAt Zero place count ∷ calls) One = since_of start calls One
since_of start (FailedAt One place count ∷ calls) Zero = since_of start calls Zero
since_of start (FailedAt One place count ∷ calls) One = wrote (since_of start calls One) place count
since_of start (Sync true ∷ calls) part = settled (part_of part (now_of start calls))
since_of start (Sync false ∷ calls) part = since_of start calls part
since_of start (Read ∷ calls) part = since_of start calls part
since_of start (Write bytes ∷ calls) part = since_of start calls part
since_of start (Len ∷ calls) part = since_of start calls part
since_of start (ReadAt ∷ calls) part = since_of start calls part

abbrev pub IsImage : Parts → List Call → Parts → Type 0
IsImage start calls image = IsPartImage (since_of start calls Zero) image.zero × IsPartImage (since_of start calls One) image.one
