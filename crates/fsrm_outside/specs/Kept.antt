-- What the calls of one trait leave of what the others tell.
use Rattle.std.specs.Prelude.{◌≡◌, ◌↔◌, ℕ, ◌≤◌, Option, Some, List}
use Rattle.fsrm_outside.specs.Parts.{Parts}
use Rattle.fsrm_outside.specs.Told.{Later}

-- The disk is as it was: what a read gives, what a crash may leave, and how often it failed.
pub record KeepsDisk {O : Type 0} (reads : O → Option Parts) (clock : O → Option ℕ) (images : O → ℕ → Parts → Type 0) (faults : O → ℕ) (old new : O) : Type 0 where
  pub same_reads : reads new ≡ reads old
  pub later : Later (clock old) (clock new)
  -- at each moment since, the images are those of the start
  pub since : (s t m : ℕ) (image : Parts) → clock old ≡ Some s → clock new ≡ Some t → s ≤ m → m ≤ t → images new m image ↔ images old s image
  -- and those of earlier moments stay
  pub past : (s m : ℕ) (image : Parts) → clock old ≡ Some s → m ≤ s → images new m image ↔ images old m image
  pub same_faults : faults new ≡ faults old

-- The sink is as it was: what it was shown, also at each moment, and how often it failed.
pub record KeepsSink {O : Type 0} (shown : O → Option (List ℕ)) (clock : O → Option ℕ) (shown_at : O → ℕ → List ℕ) (faults : O → ℕ) (old new : O) : Type 0 where
  pub same_shown : shown new ≡ shown old
  pub later : Later (clock old) (clock new)
  -- at each moment since, what is shown is what was shown at the start
  pub since : (s t m : ℕ) → clock old ≡ Some s → clock new ≡ Some t → s ≤ m → m ≤ t → shown_at new m ≡ shown_at old s
  -- and what was shown at earlier moments stays
  pub past : (s m : ℕ) → clock old ≡ Some s → m ≤ s → shown_at new m ≡ shown_at old m
  pub same_faults : faults new ≡ faults old

-- The source is as it was: what it has left, and how often it failed.
pub record KeepsSource {O : Type 0} (left : O → Option (List ℕ)) (faults : O → ℕ) (old new : O) : Type 0 where
  pub same_left : left new ≡ left old
  pub same_faults : faults new ≡ faults old
