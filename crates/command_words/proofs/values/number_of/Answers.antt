use Rattle.std.proofs.Common.{sym, ◌∙◌}
use Rattle.command_words.proofs.Numbers.{no_number, number_read}
use Rattle.command_words.proofs.values.number_of.Goals as goal

pub returns-then-not-is_number_length : goal.returns-then-not-is_number_length
returns-then-not-is_number_length c = no_number c.args.text.now (sym c.is_number_length.ensures ∙ c.if-not-is_number_length.true)

pub returns : goal.returns
returns c = number_read c.number_from_digits.result c.args.text.now (sym c.is_number_length.ensures ∙ c.if-not-is_number_length.false) c.number_from_digits.ensures
