use Rattle.std.proofs.Common.{subst}
use Rattle.memchr.specs.Find.{IsFirstByte, is_byte}
use Rattle.command_words.proofs.Quotes.{quoted_length-some, quoted_length-none}
use Rattle.command_words.proofs.words.quoted_len.Goals as goal

pub returns-in-Some : goal.returns-in-Some
returns-in-Some c =
    let text = c.args.text.now in
    quoted_length-some text c.in-Some.place (subst (IsFirstByte (is_byte 34) text) c.in-Some.is c.memchr.ensures)

pub returns-in-None : goal.returns-in-None
returns-in-None c =
    let text = c.args.text.now in
    quoted_length-none text (subst (IsFirstByte (is_byte 34) text) c.in-None.is c.memchr.ensures)
