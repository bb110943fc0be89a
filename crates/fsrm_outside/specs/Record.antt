-- What a record of calls says. The newest call stands first, so that one call more is one constructor more.
use Rattle.std.specs.Prelude.{◌≡◌, ℕ, ◌≤◌, Bool, true, List, [], ◌∷◌, ◌++◌, length, drop, reverse, nat_le, ◌&&◌}
use Rattle.fsrm_outside.specs.Changes.{Written}
use Rattle.fsrm_outside.specs.Parts.{Parts, part_of}
use Rattle.fsrm_outside.specs.declared.calls.Call.{Call}
use Rattle.fsrm_outside.specs.declared.calls.Call.TheVariants.{Read, Write, Len, ReadAt, WriteAt, FailedAt, Sync}
use Rattle.fsrm_outside.specs.declared.calls.CallKind.{CallKind}
use Rattle.fsrm_outside.specs.declared.calls.CallKind.TheVariants as kinds

abbrev pub kind_of : Call → CallKind
kind_of Read = kinds.Read
kind_of (Write bytes) = kinds.Write
kind_of Len = kinds.Len
kind_of ReadAt = kinds.ReadAt
kind_of (WriteAt part place bytes) = kinds.WriteAt
kind_of (FailedAt part place count) = kinds.WriteAt
kind_of (Sync done) = kinds.Sync

-- the calls after the first ones, the newest first
abbrev pub since : ℕ → List Call → List Call
since begun calls = reverse (drop begun calls)

-- what a read gives after these calls
abbrev pub now_of : Parts → List Call → Parts
now_of start [] = start
now_of start (WriteAt part place bytes ∷ calls) = Written part place bytes.items (now_of start calls)
now_of start (FailedAt part place count ∷ calls) = now_of start calls
now_of start (Read ∷ calls) = now_of start calls
now_of start (Write bytes ∷ calls) = now_of start calls
now_of start (Len ∷ calls) = now_of start calls
now_of start (ReadAt ∷ calls) = now_of start calls
now_of start (Sync done ∷ calls) = now_of start calls

-- each write began within its part, or at its end
abbrev pub valid : Parts → List Call → Bool
valid start [] = true
valid start (WriteAt part place bytes ∷ calls) = nat_le place (length (part_of part (now_of start calls))) && valid start calls
valid start (FailedAt part place count ∷ calls) = nat_le place (length (part_of part (now_of start calls))) && valid start calls
valid start (Read ∷ calls) = valid start calls
valid start (Write bytes ∷ calls) = valid start calls
valid start (Len ∷ calls) = valid start calls
valid start (ReadAt ∷ calls) = valid start calls
valid start (Sync done ∷ calls) = valid start calls

-- the call leaves what a read gives as it is; one that failed began within its part
abbrev pub Stays : Parts → Call → Type 0
Stays now (WriteAt part place bytes) = ⊥
Stays now (FailedAt part place count) = place ≤ length (part_of part now)
Stays now Read = Unit {0}
Stays now (Write bytes) = Unit {0}
Stays now Len = Unit {0}
Stays now ReadAt = Unit {0}
Stays now (Sync done) = Unit {0}

-- what the calls have shown
abbrev pub text_of : List Call → List ℕ
text_of [] = []
text_of (Write bytes ∷ calls) = text_of calls ++ bytes.items
text_of (WriteAt part place bytes ∷ calls) = text_of calls
text_of (FailedAt part place count ∷ calls) = text_of calls
text_of (Sync done ∷ calls) = text_of calls
text_of (Read ∷ calls) = text_of calls
text_of (Len ∷ calls) = text_of calls
text_of (ReadAt ∷ calls) = text_of calls

abbrev pub IsRead : Call → Type 0
IsRead Read = Unit {0}
IsRead (Write bytes) = ⊥
IsRead Len = ⊥
IsRead ReadAt = ⊥
IsRead (WriteAt part place bytes) = ⊥
IsRead (FailedAt part place count) = ⊥
IsRead (Sync done) = ⊥

abbrev pub IsWrite : Call → Type 0
IsWrite Read = ⊥
IsWrite (Write bytes) = Unit {0}
IsWrite Len = ⊥
IsWrite ReadAt = ⊥
IsWrite (WriteAt part place bytes) = ⊥
IsWrite (FailedAt part place count) = ⊥
IsWrite (Sync done) = ⊥

abbrev pub IsDisk : Call → Type 0
IsDisk Read = ⊥
IsDisk (Write bytes) = ⊥
IsDisk Len = Unit {0}
IsDisk ReadAt = Unit {0}
IsDisk (WriteAt part place bytes) = Unit {0}
IsDisk (FailedAt part place count) = Unit {0}
IsDisk (Sync done) = Unit {0}

abbrev pub Each : (Call → Type 0) → List Call → Type 0
Each P [] = Unit {0}
Each P (call ∷ calls) = P call × Each P calls

-- the record goes on with calls of one kind
pub record GoesOn (P : Call → Type 0) (old new : List Call) : Type 0 where
  pub more : List Call
  pub is : new ≡ old ++ more
  pub kind : Each P more
