use Rattle.std.proofs.Common.{eqb-true}
use Rattle.name_rules.proofs.Words.{ascii_word}
use Rattle.name_rules.proofs.order.is_same_word.Goals as goal

pub returns-then-word-from_le_bytes-clause-ascii : goal.returns-then-word-from_le_bytes-clause-ascii
returns-then-word-from_le_bytes-clause-ascii c = λ none.
    ascii_word c.args.one.now c.from_le_bytes-word.result c.told-one c.fits-one c.from_le_bytes-word.ensures (eqb-true _ _ none)
