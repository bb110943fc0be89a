-- What making a store answers, and what a crash during it leaves.
use Rattle.std.specs.Prelude.{◌≡◌, ◌⊎◌, ℕ, ◌+◌, ◌≤◌, ◌<◌, Bool, true, false, ◌||◌, Option, Some, Result, Ok, Err, List, ◌∷◌, length, drop, slice_index}
use Rattle.fsrm_outside.specs.Parts.{Parts}
use Rattle.fsrm_outside.specs.declared.traits.Part.TheVariants.{Zero, One}
use Rattle.fsrm_journal.specs.Heads.{head_of, is_open}
use Rattle.fsrm_journal.specs.Halves.{AllButGate, Fresh}
use Rattle.fsrm_journal.specs.Opened.{judged_parts}
use Rattle.fsrm_journal.specs.declared.fault.JournalFault.{JournalFault}
use Rattle.fsrm_journal.specs.declared.fault.JournalFault.TheVariants.{NoStore, AlreadyStore, Damaged, DiskFault, NoMemory}
use Rattle.fsrm_journal.specs.declared.heads.Head.{Head}

-- a gate is open
abbrev pub has_store : Parts → Bool
has_store parts = is_open (head_of parts.zero) || is_open (head_of parts.one)

-- where there is a store none is made, and only there is that told
abbrev pub IsFormatted : {A : Type 0} → Parts → Result A JournalFault → Type 0
IsFormatted parts (Ok done) = has_store parts ≡ false
IsFormatted parts (Err AlreadyStore) = has_store parts ≡ true
IsFormatted parts (Err DiskFault) = Unit {0}
IsFormatted parts (Err NoStore) = ⊥
IsFormatted parts (Err (Damaged part place)) = ⊥
IsFormatted parts (Err NoMemory) = ⊥

-- The new store is in part 0, and the first gate of its records is 0. Of part 1 the gate alone was written, as 0.
pub record IsMade (head : Head) (image : List ℕ) (was now : Parts) : Type 0 where
  pub fresh : Fresh Zero head image now
  pub gate : slice_index now.zero (48 + length image) ≡ 0
  pub beside : now.one ≡ 0 ∷ drop 1 was.one

-- the same bytes, but for the gates
pub record SameButGates (was now : Parts) : Type 0 where
  pub zero : drop 1 now.zero ≡ drop 1 was.zero
  pub one : drop 1 now.one ≡ drop 1 was.one

-- no store, or the new one
abbrev pub NoneOrFresh : Head → List ℕ → Parts → Type 0
NoneOrFresh head image parts = (judged_parts parts ≡ Err NoStore) ⊎ Fresh Zero head image parts

-- What a crash leaves: up to the moment `begun` what it might have left at entry; then that, but for the gates; once they
-- are closed, no store; and once the new one is there whole, it or no store, and from then on nothing but its gate is
-- written. Three calls close the gates, so no gate that was closed is opened again: by the third moment after `begun`
-- they are closed, or the call has ended.
pub record Formats {D : Type 0} (clock : D → Option ℕ) (images : D → ℕ → Parts → Type 0) (head : Head) (image : List ℕ) (old new : D) : Type 0 where
  pub begun : ℕ
  pub closed : ℕ
  pub whole : ℕ
  pub rest : List ℕ
  pub beside : List ℕ
  pub quiet : (s t m : ℕ) (left : Parts) → clock old ≡ Some s → clock new ≡ Some t → s ≤ m → m ≤ t → m ≤ begun → images new m left → images old s left
  pub soon : (t : ℕ) → clock new ≡ Some t → (closed ≤ begun + 3) ⊎ (t ≤ begun + 3)
  pub before : (s t m : ℕ) (left : Parts) → clock old ≡ Some s → clock new ≡ Some t → s ≤ m → m ≤ t → m < closed → images new m left → (was : Parts) × images old s was × SameButGates was left
  pub shut : (t m : ℕ) (left : Parts) → clock new ≡ Some t → closed ≤ m → m ≤ t → m < whole → images new m left → judged_parts left ≡ Err NoStore
  pub after : (t m : ℕ) (left : Parts) → clock new ≡ Some t → closed ≤ m → m ≤ t → whole ≤ m → images new m left → NoneOrFresh head image left × AllButGate One beside head image rest left
