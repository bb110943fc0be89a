-- The first characters of a name as a number. As far as the numbers of names differ, they are in the order of the names.
use Rattle.std.specs.Prelude.{ℕ, zero, suc, ◌+◌, ◌-◌, ◌*◌, ◌^◌, nat_lt, List, [], ◌∷◌, if◌then◌else◌}
use Rattle.fsrm_model.specs.values.Name.{folded}

-- a number of so many digits of base 256. Each character is a digit, and after the last one all digits are 0; but from the
-- first character on that is 255 or more all are 255
abbrev pub number_of : ℕ → List ℕ → ℕ
number_of zero cs = 0
number_of (suc n) [] = 0
number_of (suc n) (c ∷ cs) = if nat_lt c 255 then c * 256 ^ n + number_of n cs else 256 ^ suc n - 1

-- the first eight characters, folded
abbrev pub prefix : List ℕ → ℕ
prefix name = number_of 8 (folded name)
