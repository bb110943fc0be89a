-- What holds at each moment of a run of calls, of a source, a sink and a disk.
--
-- A function that both writes and calls the disk passes on `EachMoment`: at each moment some word Q holds of how many
-- bytes are shown and of each image. `proofs/EachMoments` has it of each kind of call, and of calls after one another.
-- A run that first syncs, and only reads until then, passes on `Synced` of that, and then `CrashSafe` of the whole
-- (`proofs/Runs`), where Covers n holds of parts by which n shown bytes are kept.
use Rattle.std.specs.Prelude.{◌≡◌, ◌⊎◌, ℕ, ◌+◌, ◌≤◌, ◌<◌, Some, length}
use Rattle.fsrm_outside.specs.Members.{Members}
use Rattle.fsrm_outside.specs.Parts.{Parts}
use Rattle.fsrm_outside.specs.Told.{Later}

-- Earlier moments stay, and at each moment from old to new Q holds of how much is shown and of each image.
pub record EachMoment {O : Type 0} (M : Members O) (Q : ℕ → Parts → Type 0) (old new : O) : Type 0 where
  pub disk_later : Later (M.disk_clock old) (M.disk_clock new)
  pub sink_later : Later (M.sink_clock old) (M.sink_clock new)
  pub images_past : (t m : ℕ) (i : Parts) → M.disk_clock old ≡ Some t → m ≤ t → M.images new m i → M.images old m i
  pub shown_past : (t m : ℕ) → M.sink_clock old ≡ Some t → m ≤ t → M.shown_at new m ≡ M.shown_at old m
  pub each : (s t m : ℕ) (i : Parts) → M.disk_clock old ≡ Some s → M.sink_clock old ≡ Some s → M.disk_clock new ≡ Some t → M.sink_clock new ≡ Some t
      → s ≤ m → m ≤ t → M.images new m i → Q (length (M.shown_at new m)) i

-- The object has come to some moment, and nothing was shown or written. From an earlier moment on, the first, the only
-- image is what a read gave at the start; up to it each is one of the start. The first call of the disk brought it.
pub record Synced {O : Type 0} (M : Members O) (start : ℕ) (old now : O) : Type 0 where
  pub first : ℕ
  pub present : ℕ
  pub from : start ≤ first
  pub soon : first ≤ start + 1
  pub come : first ≤ present
  pub disk_told : M.disk_clock now ≡ Some present
  pub sink_told : M.sink_clock now ≡ Some present
  pub before : (m : ℕ) (i : Parts) → start ≤ m → m < first → M.images now m i → M.images old start i
  pub since : (m : ℕ) (i : Parts) → first ≤ m → m ≤ present → M.images now m i → M.reads old ≡ Some i
  pub unshown : (m : ℕ) → start ≤ m → m ≤ present → M.shown_at now m ≡ M.shown_at old start

-- Up to some moment each image is one of the start, and nothing is shown. At that moment the only one is what a read
-- gave at the start. From it on each image covers what is shown. The first call of the disk brings it: it is at most one
-- moment after the start, or no later moment has come.
pub record CrashSafe {O : Type 0} (M : Members O) (Covers : ℕ → Parts → Type 0) (start : ℕ) (old new : O) : Type 0 where
  pub first : ℕ
  pub from : start ≤ first
  pub soon : (t : ℕ) → M.disk_clock new ≡ Some t → (first ≤ start + 1) ⊎ (t ≤ start + 1)
  pub before : (t m : ℕ) (i : Parts) → M.disk_clock new ≡ Some t → start ≤ m → m < first → m ≤ t → M.images new m i → M.images old start i
  pub unshown : (t m : ℕ) → M.disk_clock new ≡ Some t → start ≤ m → m < first → m ≤ t → M.shown_at new m ≡ M.shown_at old start
  pub at_first : (t : ℕ) (i : Parts) → M.disk_clock new ≡ Some t → first ≤ t → M.images new first i → M.reads old ≡ Some i
  pub since : (t m : ℕ) (i : Parts) → M.disk_clock new ≡ Some t → first ≤ m → m ≤ t → M.images new m i
      → (shown : ℕ) → length (M.shown_at new m) ≡ length (M.shown_at old start) + shown → Covers shown i

-- the same of the number of all bytes that are shown, of which there were some before
abbrev pub CoversMore : (ℕ → Parts → Type 0) → ℕ → ℕ → Parts → Type 0
CoversMore Covers before n parts = (shown : ℕ) → n ≡ before + shown → Covers shown parts
