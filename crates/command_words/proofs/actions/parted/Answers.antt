use Rattle.std.proofs.Common.{arith}
use Rattle.std.proofs.lemmas.Str.Pattern.{split_once_first}
use Rattle.command_words.proofs.CommaLaws.{parted_is}
use Rattle.command_words.proofs.actions.parted.Goals as goal

pub returns : goal.returns
returns c = parted_is c.args.text.now c.split_once.result (split_once_first 44 c.args.text.now c.split_once.result c.split_once.ensures.cases (omega arith))
