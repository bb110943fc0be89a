use Rattle.std.proofs.Common.{◌≡◌, ℕ, List, ◌++◌, length}
use Rattle.image_codec.specs.ImageIn.{outcome}
use Rattle.image_codec.proofs.image_in.ImageIn.feed.Given as goal

abbrev pub invariant-loop-rest : goal.invariant-loop-rest
invariant-loop-rest l = (more : List ℕ) → outcome l.self (l.rest ++ more) ≡ outcome l.fn.self (l.bytes ++ more)

abbrev pub decreases-loop-rest : goal.decreases-loop-rest
decreases-loop-rest l = length l.rest
