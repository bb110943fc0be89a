-- Which nodes a call passes.
use Rattle.std.specs.Prelude.{ℕ, suc, ◌==◌, List, [], ◌∷◌, if◌then◌else◌}

-- how many nodes of a way are passed up to a node, that one among them; all, if it isn't on the way
abbrev pub passed : ℕ → List ℕ → ℕ
passed node [] = 0
passed node (n ∷ ns) = if n == node then 1 else suc (passed node ns)
