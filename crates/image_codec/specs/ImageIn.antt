-- A reader of an image that comes in pieces: what it answers if these bytes come yet, and no others.
use Rattle.std.specs.Prelude.{◌≡◌, ◌+◌, ◌-◌, ◌==◌, ◌&&◌, ◌||◌, nat_lt, ℕ, Bool, List, ◌++◌, length, take, Option, is_none, Result, Ok, Err}
use Rattle.fsrm_model.specs.declared.row.Rows.{Rows}
use Rattle.record_fields.specs.Formats.{Read}
use Rattle.record_codec.specs.declared.fault.CodecFault.{CodecFault}
use Rattle.record_codec.specs.declared.fault.CodecFault.TheVariants.{BadRecord, NoMemory}
use Rattle.image_codec.specs.declared.image_in.ImageIn.{ImageIn}
use Rattle.image_codec.specs.Images.{of_length}
use Rattle.image_codec.specs.Sections.{resume}

-- what reading gives of these bytes, after those that are held
abbrev pub resumed : ImageIn → List ℕ → Read Rows
resumed reader bytes = resume reader.section reader.rows reader.still (reader.held.items ++ bytes)

-- of these bytes, those that belong to the image
abbrev pub own_bytes : ImageIn → List ℕ → List ℕ
own_bytes reader bytes = take (reader.len - reader.came) bytes

abbrev pub outcome : ImageIn → List ℕ → Result Rows ℕ
outcome reader bytes =
    of_length (reader.came + length bytes == reader.len) (reader.came + length (own_bytes reader bytes))
    (resumed reader (own_bytes reader bytes))

-- a reader that has taken some more bytes
pub record ReadsOn (before : ImageIn) (bytes : List ℕ) (now : ImageIn) : Type 0 where
  pub len : now.len ≡ before.len
  pub came : now.came ≡ before.came + length bytes
  pub goes_on : (more : List ℕ) → resumed now more ≡ resumed before (bytes ++ more)

-- what a call answers is the rows, or the place of what is wrong, unless memory runs out
abbrev pub AreRead : Result Rows CodecFault → Result Rows ℕ → Type 0
AreRead (Ok R) read = read ≡ Ok R
AreRead (Err NoMemory) read = Unit {0}
AreRead (Err (BadRecord place)) read = read ≡ Err place

-- whether bytes follow a whole image: some that are held, or some past its length
abbrev pub past_end : Option ℕ → ℕ → ℕ → Bool
past_end cut held beyond = nat_lt 0 beyond || (is_none cut && nat_lt 0 held)
