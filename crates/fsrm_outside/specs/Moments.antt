-- What holds of the images of a disk, now and over a run of calls.
use Rattle.std.specs.Prelude.{◌≡◌, ℕ, ◌≤◌, Option, Some}
use Rattle.fsrm_outside.specs.Parts.{Parts}

-- each image of this moment has Q
pub record EachNow {D : Type 0} (clock : D → Option ℕ) (images : D → ℕ → Parts → Type 0) (Q : Parts → Type 0) (disk : D) : Type 0 where
  pub now : (t : ℕ) (image : Parts) → clock disk ≡ Some t → images disk t image → Q image

-- each image of each moment from old to new has P
pub record EachImage {D : Type 0} (clock : D → Option ℕ) (images : D → ℕ → Parts → Type 0) (P : Parts → Type 0) (old new : D) : Type 0 where
  pub each : (s t m : ℕ) (image : Parts) → clock old ≡ Some s → clock new ≡ Some t → s ≤ m → m ≤ t → images new m image → P image
