-- Making a store: what it answers, and what a crash during it leaves.
use Rattle.std.specs.Prelude.{◌≡◌, ◌⊎◌, ℕ, ◌+◌, ◌≤◌, ◌<◌, true, false, Option, Some, Result, Ok, Err}
use Rattle.std.specs.Option.{ForSome}
use Rattle.fsrm_model.specs.declared.row.Capacity.{Capacity}
use Rattle.fsrm_model.specs.nodes.Fresh.{new_rows}
use Rattle.fsrm_outside.specs.Moments.{EachNow}
use Rattle.fsrm_outside.specs.Parts.{Parts, part_of}
use Rattle.fsrm_outside.specs.declared.traits.Part.{Part}
use Rattle.fsrm_outside.specs.declared.traits.Part.TheVariants.{Zero}
use Rattle.fsrm_journal.specs.HeadSays.{head_says}
use Rattle.fsrm_journal.specs.Heads.{head_of}
use Rattle.fsrm_journal.specs.Formatted.{has_store, SameButGates}
use Rattle.fsrm_journal.specs.Opened.{judged_parts}
use Rattle.fsrm_store.specs.Keeps.{HasTail}
use Rattle.fsrm_store.specs.Recovery.{is_first_version}
use Rattle.fsrm_store.specs.States.{state_of}
use Rattle.fsrm_store.specs.States.State.{NoState, Holds}
use Rattle.fsrm_store.specs.declared.fault.StoreFault.{StoreFault}
use Rattle.fsrm_store.specs.declared.fault.StoreFault.TheVariants.{NoStore, AlreadyStore, Damaged, DiskFault, NoMemory}

-- where a gate is open no store is made, and only there is that told
abbrev pub IsInit : {A : Type 0} → Parts → Result A StoreFault → Type 0
IsInit parts (Ok done) = has_store parts ≡ false
IsInit parts (Err AlreadyStore) = has_store parts ≡ true
IsInit parts (Err DiskFault) = Unit {0}
IsInit parts (Err NoMemory) = Unit {0}
IsInit parts (Err NoStore) = ⊥
IsInit parts (Err (Damaged part place)) = ⊥

-- The new store of this size: part 0 rules, as the first generation and in version 2, and no record comes after its image.
pub record HoldsNew (size : Capacity) (parts : Parts) : Type 0 where
  pub rows : state_of parts ≡ Holds size new_rows
  pub rules : judged_parts parts ≡ Ok Zero
  pub first : (head_says (head_of (part_of Zero parts))).generation ≡ 1
  pub empty : HasTail 0 parts
  pub young : (ruling : Part) → judged_parts parts ≡ Ok ruling → is_first_version ruling parts ≡ false

-- A read gives the new store, and so does a crash.
pub record IsNew {D : Type 0} (reads : D → Option Parts) (clock : D → Option ℕ) (images : D → ℕ → Parts → Type 0) (size : Capacity) (disk : D) : Type 0 where
  pub told : ForSome (reads disk) (HoldsNew size)
  pub left : EachNow clock images (HoldsNew size) disk

-- What a crash leaves: up to the moment `begun` what it might have left at entry; then that, but for the gates; and from the
-- moment `closed` on no store, or the new one. Three calls close the gates: by the third moment after `begun` they are
-- closed, or the call has ended.
pub record MakesStore {D : Type 0} (clock : D → Option ℕ) (images : D → ℕ → Parts → Type 0) (size : Capacity) (old new : D) : Type 0 where
  pub begun : ℕ
  pub closed : ℕ
  pub quiet : (s t m : ℕ) (left : Parts) → clock old ≡ Some s → clock new ≡ Some t → s ≤ m → m ≤ t → m ≤ begun → images new m left → images old s left
  pub soon : (t : ℕ) → clock new ≡ Some t → (closed ≤ begun + 3) ⊎ (t ≤ begun + 3)
  pub before : (s t m : ℕ) (left : Parts) → clock old ≡ Some s → clock new ≡ Some t → s ≤ m → m ≤ t → m < closed → images new m left → (was : Parts) × images old s was × SameButGates was left
  pub after : (t m : ℕ) (left : Parts) → clock new ≡ Some t → closed ≤ m → m ≤ t → images new m left → (state_of left ≡ NoState) ⊎ HoldsNew size left
