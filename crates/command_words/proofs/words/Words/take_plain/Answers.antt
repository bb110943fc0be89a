use Rattle.command_words.specs.Taking.{left}
use Rattle.command_words.proofs.LineWords.{plain_length, plain_taken, word_end}
use Rattle.command_words.proofs.words.Words.take_plain.Goals as goal

pub advance-requires : goal.advance-requires
advance-requires c =
    let rest = c.args.self.now.rest.now in
    word_end rest c.args.count (plain_length rest c.args.count c.requires)

pub returns-clause-left : goal.returns-clause-left
unfolding left
returns-clause-left c =
    let words = c.args.self.now in
    let after = c.advance.new.self in
    plain_taken words.column after.column words.rest.now c.args.count after.rest.now c.requires c.advance.ensures.rest c.advance.ensures.column
