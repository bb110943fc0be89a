-- Paths, as they are written.
use Rattle.std.specs.Prelude.{ℕ, ◌-◌, ◌==◌, ◌&&◌, ◌||◌, not, Bool, List, length, slice_index}

-- Whether a text that is read as a path is the one spelling of that path: with a large D, and no last backslash but that
-- of the volume
abbrev pub is_spelled_so : List ℕ → Bool
is_spelled_so text =
    (slice_index text 0 == 68) && ((length text == 3) || not (slice_index text (length text - 1) == 92))
