use Rattle.std.proofs.Common.{arith, sym, subst, ap, ◌∙◌, length, drop, take}
use Rattle.std.specs.Str.{IsUtf8}
use Rattle.record_fields.proofs.TextChecks.{text_shown, text_refused}
use Rattle.record_fields.proofs.reader.Reader.read_text.Goals as goal

pub returns-in_default : goal.returns-in_default
returns-in_default c =
    let back = c.split_at.ensures.back in
    text_refused c.args.self.now c.self.inside.rest.now c.split_at-2.result.0.now c.read_u16-len.result c.self.view_is (omega arith) c.read_u16-len.ensures
    (omega (arith, ap length back)) (c.split_at-2.ensures.front ∙ ap (take c.read_u16-len.result) back) c.in_default.ensures.cases.0

pub returns : goal.returns
returns c =
    let back = c.split_at.ensures.back in
    let text = c.in-Ok.ensures.cases in
    text_shown c.args.self.now c.self.inside.rest.now c.in-Ok.text.now c.split_at-2.result.1.now c.read_u16-len.result c.self.view_is (omega arith) c.read_u16-len.ensures
    (omega (arith, ap length back)) (text.0 ∙ c.split_at-2.ensures.front ∙ ap (take c.read_u16-len.result) back) (c.split_at-2.ensures.back ∙ ap (drop c.read_u16-len.result) back)
    (subst IsUtf8 (sym text.0) text.1)
