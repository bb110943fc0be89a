use Rattle.command_words.proofs.Taken.{left_from}
use Rattle.command_words.proofs.words.Words.next_left.Goals as goal

pub returns-in-None : goal.returns-in-None
returns-in-None c =
    left_from c.next_copied.result c.args.self.now c.next_plain.new.self c.next_copied.new.self c.in-None.ensures.0 c.in-None.ensures.1 c.next_copied.ensures
