use Rattle.std.proofs.Common.{◌∙◌, sym}
use Rattle.memchr.specs.Find.{is_byte3}
use Rattle.command_words.proofs.Marks.{first_mark}
use Rattle.command_words.proofs.words.plain_len.Goals as goal

pub returns : goal.returns
returns c = c.unwrap_or.ensures ∙ sym (first_mark (is_byte3 32 9 34) c.args.text.now c.memchr3.result c.memchr3.ensures)
