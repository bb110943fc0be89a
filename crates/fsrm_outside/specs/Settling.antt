-- From when on a crash leaves what a read gives.
use Rattle.std.specs.Prelude.{◌≡◌, ◌⊎◌, ℕ, ◌+◌, ◌≤◌, Option, Some}
use Rattle.fsrm_outside.specs.Parts.{Parts}

-- a crash leaves what a read gives
abbrev pub Stable : {D : Type 0} → (D → Option Parts) → (D → Option ℕ) → (D → ℕ → Parts → Type 0) → D → Type 0
Stable reads clock images disk = (t : ℕ) (image : Parts) → clock disk ≡ Some t → images disk t image → reads disk ≡ Some image

-- From a moment on a crash leaves what a read gives. It has come, unless the call failed in this way. The first call
-- of the disk brings it: it is at most one moment after old, or no later moment has come.
pub record Settles {D : Type 0} (reads : D → Option Parts) (clock : D → Option ℕ) (images : D → ℕ → Parts → Type 0) (failed : Type 0) (old disk : D) : Type 0 where
  pub since : ℕ
  pub after : (t m : ℕ) (image : Parts) → clock disk ≡ Some t → since ≤ m → m ≤ t → images disk m image → reads disk ≡ Some image
  pub comes : (t : ℕ) → clock disk ≡ Some t → (since ≤ t) ⊎ failed
  pub soon : (s t : ℕ) → clock old ≡ Some s → clock disk ≡ Some t → (since ≤ s + 1) ⊎ (t ≤ s + 1)
