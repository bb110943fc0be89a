-- What a call makes of a disk, and what a crash may leave of it.
use Rattle.std.specs.Prelude.{◌≡◌, ℕ, ◌+◌, ◌≤◌, max, Option, Some, List, ◌++◌, length, take, drop}
use Rattle.fsrm_outside.specs.declared.traits.Part.{Part}
use Rattle.fsrm_outside.specs.Parts.{Parts, part_of, with_part, other}

-- the bytes of a part after a write
abbrev pub over : ℕ → List ℕ → List ℕ → List ℕ
over place bytes old = take place old ++ bytes ++ drop (place + length bytes) old

-- both parts after a write
abbrev pub Written : Part → ℕ → List ℕ → Parts → Parts
Written part place bytes old = with_part part (over place bytes (part_of part old)) old

-- After a write of n bytes that a crash cuts short: any bytes in the range, the same elsewhere, some length between.
pub record Torn (part : Part) (place n : ℕ) (old new : Parts) : Type 0 where
  pub other_part : part_of (other part) new ≡ part_of (other part) old
  pub before : take place (part_of part new) ≡ take place (part_of part old)
  pub after : drop (place + n) (part_of part new) ≡ drop (place + n) (part_of part old)
  pub no_shorter : length (part_of part old) ≤ length (part_of part new)
  pub no_longer : length (part_of part new) ≤ max (length (part_of part old)) (place + n)

abbrev pub Same : Parts → Parts → Type 0
Same old new = new ≡ old

-- each image of a moment of the call comes by a step from an image of its start
abbrev pub Through : {D : Type 0} → (D → Option ℕ) → (D → ℕ → Parts → Type 0) → (Parts → Parts → Type 0) → D → D → Type 0
Through clock images step old new =
    (s t m : ℕ) (image : Parts) → clock old ≡ Some s → clock new ≡ Some t → s ≤ m → m ≤ t → images new m image → (was : Parts) × images old s was × step was image
