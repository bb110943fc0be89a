-- What the two parts of a disk hold.
use Rattle.std.specs.Prelude.{ℕ, List}
use Rattle.fsrm_outside.specs.declared.traits.Part.{Part}
use Rattle.fsrm_outside.specs.declared.traits.Part.TheVariants.{Zero, One}

pub record Parts : Type 0 where
  pub zero : List ℕ
  pub one : List ℕ

abbrev pub part_of : Part → Parts → List ℕ
part_of Zero parts = parts.zero
part_of One parts = parts.one

-- the same, but for that part
abbrev pub with_part : Part → List ℕ → Parts → Parts
with_part Zero bytes parts = record { zero = bytes; one = parts.one }
with_part One bytes parts = record { zero = parts.zero; one = bytes }

abbrev pub other : Part → Part
other Zero = One
other One = Zero
