-- What a reader of the code gives.
use Rattle.std.specs.Prelude.{◌≡◌, ℕ, List, Result, Ok, Err}
use Rattle.std.specs.Borrow.{Bor}
use Rattle.record_fields.specs.declared.flaw.FieldFault.{FieldFault}
use Rattle.record_fields.specs.declared.flaw.Flaw.{Flaw}
use Rattle.record_fields.specs.declared.flaw.FieldFault.TheVariants.{NoMemory, Flawed}
use Rattle.record_fields.specs.Formats.{Read}

-- it fails as reading does, unless memory ran out
abbrev pub Fails : {X : Type 0} → FieldFault → Read X → Type 0
Fails NoMemory read = Unit {0}
Fails (Flawed flaw) read = read ≡ Err flaw

-- it gives the value that reading gives, and leaves the bytes that it leaves
abbrev pub Gives : {X : Type 0} → Result X FieldFault → List ℕ → Read X → Type 0
Gives (Ok x) rest read = read ≡ Ok (x, rest)
Gives (Err fault) rest read = Fails fault read

-- the same, where no memory is taken
abbrev pub Shows : {X : Type 0} → Result X Flaw → List ℕ → Read X → Type 0
Shows (Ok x) rest read = read ≡ Ok (x, rest)
Shows (Err flaw) rest read = read ≡ Err flaw

-- the same, of a text that is lent
abbrev pub Lends : Result (Bor (List ℕ)) Flaw → List ℕ → Read (List ℕ) → Type 0
Lends (Ok x) rest read = read ≡ Ok (x.now, rest)
Lends (Err flaw) rest read = read ≡ Err flaw
