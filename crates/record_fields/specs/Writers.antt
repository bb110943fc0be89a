-- What a writer of the code leaves.
use Rattle.std.specs.Prelude.{◌≡◌, ◌≤◌, ℕ, List, ◌++◌, length, take, drop}

-- Bytes are written after those up to a place, as many as there is room for, and end at another place. No others
-- change.
pub record Writes (old : List ℕ) (at : ℕ) (new : List ℕ) (end : ℕ) (bytes : List ℕ) : Type 0 where
  pub room : length new ≡ length old
  pub within : end ≤ length new
  pub onward : at ≤ end
  pub beyond : drop end new ≡ drop end old
  pub text : take end new ≡ take (length old) (take at old ++ bytes)
