-- What the words of a set say, and the level above them.
use Rattle.std.specs.Prelude.{◌≡◌, ℕ, ◌*◌, ◌<◌, ◌/◌, ◌%◌, ◌==◌, Bool, true, false, not, List, filter, length, slice_index}
use Rattle.std.specs.Int.{bit_at}
use Rattle.std.specs.List.{range_with_len}
use Rattle.fsrm_base.specs.Numbers.{is_in, is_set}
use Rattle.number_set.specs.Numbers.{Numbers}

-- whether the bit of a number is set
unfoldable pub has_bit : List ℕ → ℕ → Bool
has_bit words n = bit_at (slice_index words (n / 64)) (n % 64) == 1

-- whether a word has a bit that is set
unfoldable pub is_occupied : List ℕ → ℕ → Bool
is_occupied words place = not (slice_index words place == 0)

-- the numbers whose bits are set, ascending
unfoldable pub numbers_of : List ℕ → List ℕ
numbers_of words = filter (has_bit words) (range_with_len 0 (64 * length words))

-- the set above several words: the places of those that aren't empty
pub record Marks (places : Numbers) (words : List ℕ) : Type 0 where
  pub several : 1 < length words
  pub bound : places.bound ≡ length words
  pub set : is_set places.members ≡ true
  pub members : (k : ℕ) → is_in places.members k ≡ is_occupied words k

-- the least number whose bit is set in a word
pub record IsLeastIn (words : List ℕ) (place n : ℕ) : Type 0 where
  pub place_is : n / 64 ≡ place
  pub bit : has_bit words n ≡ true
  pub least : (m : ℕ) → m / 64 ≡ place → m < n → has_bit words m ≡ false
