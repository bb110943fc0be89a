-- The level above has a smaller bound.
use Rattle.std.specs.Prelude.{ℕ, ◌≤◌, max, List}
use Rattle.std.proofs.Common.{arith}
use Rattle.number_set.specs.declared.levels.Above.{Above}
use Rattle.number_set.specs.declared.levels.Above.TheVariants.{Nothing, Level}
use Rattle.number_set.specs.declared.levels.Levels.TheDeep.{deep-Above}
use Rattle.number_set.specs.Levels.{IsLevel}

pub depth_le_bound : (bound : ℕ) (words : List ℕ) (above : Above) → IsLevel bound words above → max (deep-Above above) 0 ≤ bound
depth_le_bound bound words Nothing h = omega arith
depth_le_bound bound words (Level above) h = let b = h.level.bound in let r = h.room in let several = h.level.several in omega arith
