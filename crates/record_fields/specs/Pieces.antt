-- What a reader of pieces has read, and has still to read.
use Rattle.std.specs.Prelude.{List, ◌++◌, Ok}
use Rattle.record_fields.specs.Formats.{Read, ◌>>=◌}

-- the values that were read before, and those that are read now
abbrev pub with_front : {X : Type 0} → List X → Read (List X) → Read (List X)
with_front front read = read >>= λ x. Ok (front ++ x.0, x.1)
