use Rattle.std.proofs.Common.{refl, arith}
use Rattle.command_words.specs.Taking.{left, end}
use Rattle.command_words.proofs.words.Words.new.Goals as goal

pub returns-clause-left : goal.returns-clause-left
unfolding left
returns-clause-left c = refl

pub returns-clause-end : goal.returns-clause-end
unfolding end
returns-clause-end c = omega arith
