use Rattle.number_set.proofs.WordLaws.{clear_has, clear_occupies}
use Rattle.number_set.proofs.words.clear_bit.Goals as goal

pub returns-clause-bits : goal.returns-clause-bits
returns-clause-bits c = λ n. clear_has c.args.words.now c.args.number n c.requires

pub returns-clause-occupied : goal.returns-clause-occupied
returns-clause-occupied c = λ k. clear_occupies c.args.words.now _ k _ c.requires
