-- Sets of numbers, as lists that ascend.
use Rattle.std.specs.Prelude.{ℕ, ◌==◌, ◌&&◌, Bool, true, not, List, [], ◌∷◌, filter, if◌then◌else◌}
use Rattle.std.specs.List.{list_any}
use Rattle.fsrm_base.specs.Keyed.{is_ascending, with_row, without_row}

abbrev pub itself : ℕ → ℕ
itself n = n

-- whether a number is a member
abbrev pub is_in : List ℕ → ℕ → Bool
is_in members n = list_any (λ k. k == n) members

-- whether the members ascend, each once
abbrev pub is_set : List ℕ → Bool
is_set members = is_ascending itself members

-- whether numbers, in whatever order, stand each once
abbrev pub each_once : List ℕ → Bool
each_once [] = true
each_once (n ∷ ns) = not (is_in ns n) && each_once ns

-- with one number, and without one
abbrev pub with_number : ℕ → List ℕ → List ℕ
with_number n members = if is_in members n then members else with_row itself n members

abbrev pub without_number : ℕ → List ℕ → List ℕ
without_number n members = without_row itself n members

-- with all of these numbers, and without any of them
abbrev pub with_numbers : List ℕ → List ℕ → List ℕ
with_numbers [] members = members
with_numbers (n ∷ ns) members = with_numbers ns (with_number n members)

abbrev pub without_numbers : List ℕ → List ℕ → List ℕ
without_numbers ns members = filter (λ k. not (is_in ns k)) members
