use Rattle.std.proofs.Common.{◌≡◌, ◌∙◌, ap, sym, arith, pos, unsigned_abs, to_z-of_z}
use Rattle.std.specs.Prelude.{int_lt}
use Rattle.reply_text.proofs.ActionLines.{negative_word, natural_word}
use Rattle.reply_text.proofs.actions.minutes_parts.Goals as goal

pub returns-then-minutes-lt0 : goal.returns-then-minutes-lt0
returns-then-minutes-lt0 c =
    let minutes = c.args.minutes in
    let digits : c.from.result ≡ unsigned_abs c.args.minutes = grind (arith, to_z-of_z) in
    negative_word minutes c.from.result (ap (λ z. int_lt z (pos 0)) (sym (to_z-of_z c.ranges.minutes)) ∙ c.if-minutes-lt0.true) digits

pub returns-else-minutes-lt0 : goal.returns-else-minutes-lt0
returns-else-minutes-lt0 c =
    let minutes = c.args.minutes in
    let digits : c.from.result ≡ unsigned_abs c.args.minutes = grind (arith, to_z-of_z) in
    natural_word minutes c.from.result (ap (λ z. int_lt z (pos 0)) (sym (to_z-of_z c.ranges.minutes)) ∙ c.if-minutes-lt0.false) digits
