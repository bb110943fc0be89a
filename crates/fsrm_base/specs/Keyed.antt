-- Lists of rows that ascend by a number, their key, each number at most once.
use Rattle.std.specs.Prelude.{ℕ, ◌+◌, nat_lt, ◌==◌, Bool, true, not, ◌&&◌, List, [], ◌∷◌, map, filter, find, Option, if◌then◌else◌}
use Rattle.std.specs.List.{list_any}

-- the row of a number
abbrev pub row_of : {X : Type 0} → (X → ℕ) → ℕ → List X → Option X
row_of key n rows = find (λ r. key r == n) rows

-- whether a row has the number
abbrev pub has_row : {X : Type 0} → (X → ℕ) → ℕ → List X → Bool
has_row key n rows = list_any (λ r. key r == n) rows

-- whether the numbers ascend, each at most once
abbrev pub is_ascending : {X : Type 0} → (X → ℕ) → List X → Bool
is_ascending key [] = true
is_ascending key (x ∷ []) = true
is_ascending key (x ∷ y ∷ xs) = nat_lt (key x) (key y) && is_ascending key (y ∷ xs)

-- ascending rows with one more, at its place
abbrev pub with_row : {X : Type 0} → (X → ℕ) → X → List X → List X
with_row key row [] = row ∷ []
with_row key row (r ∷ rows) = if nat_lt (key row) (key r) then row ∷ r ∷ rows else r ∷ with_row key row rows

-- rows in which the row of a number was changed
abbrev pub with_change : {X : Type 0} → (X → ℕ) → ℕ → (X → X) → List X → List X
with_change key n change rows = map (λ r. if key r == n then change r else r) rows

-- rows without that of a number
abbrev pub without_row : {X : Type 0} → (X → ℕ) → ℕ → List X → List X
without_row key n rows = filter (λ r. not (key r == n)) rows

-- the least number from n on that none of the ascending rows has, if they have none below n
abbrev pub least_free_from : {X : Type 0} → (X → ℕ) → ℕ → List X → ℕ
least_free_from key n [] = n
least_free_from key n (r ∷ rows) = if key r == n then least_free_from key (n + 1) rows else n

-- the least number that none of the ascending rows has
abbrev pub least_free : {X : Type 0} → (X → ℕ) → List X → ℕ
least_free key rows = least_free_from key 0 rows
