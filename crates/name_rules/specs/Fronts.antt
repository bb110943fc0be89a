-- What two texts begin with alike.
use Rattle.std.specs.Prelude.{◌≡◌, ◌<◌, ◌≤◌, ◌&&◌, ℕ, Bool, true, List, length, slice_index}
use Rattle.std.specs.Char.{is_ascii, eq_ignore_ascii_case}

-- two bytes are characters of ASCII, and the same but for the case of a letter
abbrev pub are_same_ascii : ℕ → ℕ → Bool
are_same_ascii x y = (is_ascii x && is_ascii y) && eq_ignore_ascii_case x y

-- so many bytes at the front of both are characters of ASCII, and the same but for the case of letters
pub record HasSameFront (a b : List ℕ) (count : ℕ) : Type 0 where
  pub within : count ≤ length a
  pub within_other : count ≤ length b
  pub alike : (k : ℕ) → k < count → are_same_ascii (slice_index a k) (slice_index b k) ≡ true
