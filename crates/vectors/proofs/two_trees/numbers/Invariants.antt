use Rattle.std.proofs.Common.{length}
use Rattle.vectors.proofs.two_trees.numbers.Given as goal

abbrev pub decreases-loop-siblings : goal.decreases-loop-siblings
decreases-loop-siblings g l = length l.children
