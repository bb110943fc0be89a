-- A table of guesses, and how many entries it may have without more memory.
use Rattle.std.specs.Prelude.{◌≡◌, vec_capacity}
use Rattle.volume_tree.specs.declared.hints.Hints.{Hints}

-- the table has the room that it had
abbrev pub KeepsRoom : Hints → Hints → Type 0
KeepsRoom old new = vec_capacity new.folders ≡ vec_capacity old.folders
