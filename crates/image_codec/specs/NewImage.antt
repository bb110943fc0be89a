-- The image of a new store, byte by byte.
use Rattle.std.specs.Prelude.{ℕ, List, ◌∷◌, ◌++◌, replicate}

abbrev pub zeros : ℕ → List ℕ
zeros n = replicate n 0

-- the last moment and the run limit; one node, the root: its number, its parent, its name, which is empty, that it is a
-- folder, its length, its owner and its moments; and nine lists that are empty
abbrev pub new_image : List ℕ
new_image =
    zeros 8 ++ (60 ∷ zeros 3)
    ++ (1 ∷ zeros 3) ++ (zeros 4 ++ zeros 4 ++ zeros 2 ++ (1 ∷ zeros 8) ++ (1 ∷ zeros 3) ++ zeros 24)
    ++ zeros 36
