use Rattle.fsrm_model.specs.lines.Line.{path_word}
use Rattle.command_words.specs.Taking.{lent_word}
use Rattle.command_words.proofs.Taken.{path_read, taken_from}
use Rattle.command_words.proofs.words.Words.path.Goals as goal

pub returns-in-Some : goal.returns-in-Some
returns-in-Some c = path_read c.read_path_word.result c.args.self.now c.next_plain.new.self (lent_word c.in-Some.word) c.in-Some.ensures.0 c.in-Some.ensures.1 c.read_path_word.ensures

pub returns-in-None : goal.returns-in-None
returns-in-None c = taken_from c.other_path.result c.args.self.now c.next_plain.new.self c.other_path.new.self path_word c.in-None.ensures.0 c.in-None.ensures.1 c.other_path.ensures
