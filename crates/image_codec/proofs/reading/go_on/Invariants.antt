use Rattle.std.proofs.Common.{◌≡◌, ℕ, List, ◌++◌, length}
use Rattle.image_codec.specs.Sections.{following, resume}
use Rattle.image_codec.proofs.reading.go_on.Given as goal

abbrev pub invariant-sections : goal.invariant-sections
invariant-sections l = (more : List ℕ) → resume l.section l.rows l.still (l.rest ++ more) ≡ resume l.fn.section l.fn.rows l.fn.still (l.fn.bytes ++ more)

abbrev pub decreases-sections : goal.decreases-sections
decreases-sections l = length (following l.section)
