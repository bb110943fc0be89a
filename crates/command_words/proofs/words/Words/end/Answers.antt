use Rattle.std.proofs.Common.{refl}
use Rattle.command_words.specs.Taking.{end}
use Rattle.command_words.proofs.words.Words.end.Goals as goal

pub returns : goal.returns
unfolding end
returns c = refl
