use Rattle.std.proofs.Common.{arith}
use Rattle.command_words.specs.Taking.{end}
use Rattle.command_words.proofs.LineWords.{same_end}
use Rattle.command_words.proofs.words.Words.advance.Goals as goal

pub overflow_add-self : goal.overflow_add-self
overflow_add-self c =
    let words = c.args.self.now in
    omega (arith, same_end words.column c.args.count words.rest.now c.after-self.result.now c.requires.0 c.after-self.ensures, words.within)

pub invariant_of-self : goal.invariant_of-self
invariant_of-self c =
    let words = c.args.self.now in
    omega (arith, same_end words.column c.args.count words.rest.now c.after-self.result.now c.requires.0 c.after-self.ensures, words.within)

pub returns-clause-end : goal.returns-clause-end
unfolding end
returns-clause-end c =
    let words = c.args.self.now in
    same_end words.column c.args.count words.rest.now c.after-self.result.now c.requires.0 c.after-self.ensures
