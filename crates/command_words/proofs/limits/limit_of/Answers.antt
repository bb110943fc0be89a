use Rattle.std.proofs.Common.{◌*◌, ◌∙◌, sym}
use Rattle.std.specs.Str.Parse.{digits_value}
use Rattle.command_words.proofs.LimitWords.{limit_read, limit_refused, large_refused}
use Rattle.command_words.proofs.limits.limit_of.Goals as goal

pub returns-in-Some : goal.returns-in-Some
returns-in-Some c =
    limit_read (digits_value 10 c.args.digits.now * c.args.unit) c.in-Some.limit c.in-Some.ensures.fits (sym c.is_limit.ensures ∙ c.if-is_limit.true)

pub returns-in_default : goal.returns-in_default
returns-in_default c =
    limit_refused (digits_value 10 c.args.digits.now * c.args.unit) c.in-Some.limit c.in-Some.ensures.fits (sym c.is_limit.ensures ∙ c.if-is_limit.false)

pub returns-in_default-2 : goal.returns-in_default-2
returns-in_default-2 c = large_refused (digits_value 10 c.args.digits.now * c.args.unit) c.in_default.ensures.too_many
