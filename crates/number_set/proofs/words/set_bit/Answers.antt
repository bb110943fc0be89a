use Rattle.number_set.specs.Words.{is_occupied}
use Rattle.number_set.proofs.WordLaws.{set_has, set_occupies, is_not}
use Rattle.number_set.proofs.words.set_bit.Goals as goal

pub returns-clause-bits : goal.returns-clause-bits
returns-clause-bits c = λ n. set_has c.args.words.now c.args.number n c.requires

pub returns-clause-occupied : goal.returns-clause-occupied
returns-clause-occupied c = λ k. set_occupies c.args.words.now c.args.number k c.requires

pub returns-clause-empty : goal.returns-clause-empty
unfolding is_occupied
returns-clause-empty c = is_not _
