-- The bytes of both parts of a disk, as contracts name them.
use Rattle.std.specs.Prelude.{ℕ, ◌≤◌, length, vec_capacity}
use Rattle.fsrm_outside.specs.Parts.{Parts}
use Rattle.fsrm_outside.specs.declared.contents.Contents.{Contents}
use Rattle.fsrm_outside.specs.declared.traits.Part.{Part}
use Rattle.fsrm_outside.specs.declared.traits.Part.TheVariants.{Zero, One}

abbrev pub parts_in : Contents → Parts
parts_in contents = record { zero = contents.zero.items; one = contents.one.items }

-- how many bytes a part may hold with no memory more
abbrev pub room_of : Part → Contents → ℕ
room_of Zero contents = vec_capacity contents.zero
room_of One contents = vec_capacity contents.one

-- the contents have room for these parts
pub record HasRoom (contents : Contents) (parts : Parts) : Type 0 where
  pub zero : length parts.zero ≤ room_of Zero contents
  pub one : length parts.one ≤ room_of One contents
