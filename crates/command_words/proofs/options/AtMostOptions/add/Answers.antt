use Rattle.std.proofs.Common.{rules, ◌≡◌, nat_le, ◌∷◌, ◌++◌, [], true, false, Ok, Err, sym, refl, arith}
use Rattle.std.specs.Str.{str_eq_ignore_ascii_case}
use Rattle.fsrm_model.specs.lines.ValueForms.{value_from}
use Rattle.fsrm_model.specs.lines.Options.{at_most, times_in}
use Rattle.fsrm_model.specs.lines.Reading.{guarded}
use Rattle.fsrm_model.specs.declared.command.Refusal.TheVariants.{OutOfRange}
use Rattle.fsrm_base.proofs.TestLaws.{not_le}
use Rattle.std.proofs.lemmas.Bool.{le-leb}
use Rattle.std.specs.Prelude.{not}
use Rattle.command_words.specs.declared.fault.LineFault.TheVariants.{NoMemory}
use Rattle.command_words.proofs.OptionLaws.{named_own, at_most_fresh, each_more, faulty, own}
use Rattle.command_words.proofs.options.AtMostOptions.add.Goals as goal

pub returns-in_err-value : goal.returns-in_err-value
returns-in_err-value g c before holds =
    let form = g.F.Form.form c.args.self.form in
    let key = at_most c.args.self.most c.args.self.name.now form in
    let column = c.args.word.now.column in
    let text = c.args.word.now.value.now in
    let named : str_eq_ignore_ascii_case c.args.self.name.now c.args.word.now.name.now ≡ true = sym (c.if-not-is_named.ensures) in
    let fault : c.from_residual.result ≡ Err c.in_err-value.field-0.0 = search rules in
    rw fault (
      key,
      named_own key c.args.word.now.name.now named,
      faulty c.in_err-value.field-0.0 (value_from form column text) _ (λ x. guarded (not (nat_le c.args.self.most (times_in key before))) OutOfRange (before ++ own key x ∷ [])) (c.in_err-value.ensures)
          (λ read is. at_most_fresh c.args.self.most c.args.self.name.now form column text before read (nat_le c.args.self.most (times_in key before)) is refl),
    )

pub returns-then-len-self : goal.returns-then-len-self
returns-then-len-self g c before holds =
    let form = g.F.Form.form c.args.self.form in
    let key = at_most c.args.self.most c.args.self.name.now form in
    let named : str_eq_ignore_ascii_case c.args.self.name.now c.args.word.now.name.now ≡ true = sym (c.if-not-is_named.ensures) in
    let value = c.in_ok-value.ensures in
    let full = le-leb c.args.self.most (times_in key before) (omega (arith, c.if-len-self.true, c.len.ensures, holds.count)) in (
      key,
      named_own key c.args.word.now.name.now named,
      at_most_fresh c.args.self.most c.args.self.name.now form c.args.word.now.column c.args.word.now.value.now before (Ok value.0) true value.1 full,
    )

pub returns-in_err-push : goal.returns-in_err-push
returns-in_err-push g c before holds =
    let key = at_most c.args.self.most c.args.self.name.now (g.F.Form.form c.args.self.form) in
    let named : str_eq_ignore_ascii_case c.args.self.name.now c.args.word.now.name.now ≡ true = sym (c.if-not-is_named.ensures) in
    let fault : c.from_residual-in_err-push.result ≡ Err NoMemory = search rules in
    rw fault (key, named_own key c.args.word.now.name.now named, tt)

pub returns : goal.returns
returns g c before holds =
    let form = g.F.Form.form c.args.self.form in
    let key = at_most c.args.self.most c.args.self.name.now form in
    let named : str_eq_ignore_ascii_case c.args.self.name.now c.args.word.now.name.now ≡ true = sym (c.if-not-is_named.ensures) in
    let value = c.in_ok-value.ensures in
    let pushed : c.push.new.self ≡ c.args.given.now ++ c.in_ok-value.value ∷ [] = search rules in
    let room = not_le c.args.self.most (times_in key before) (omega (arith, c.if-len-self.false, c.len.ensures, holds.count)) in (
      key,
      before ++ own key value.0 ∷ [],
      named_own key c.args.word.now.name.now named,
      at_most_fresh c.args.self.most c.args.self.name.now form c.args.word.now.column c.args.word.now.value.now before (Ok value.0) false value.1 room,
      rw pushed (each_more g.F.Form.of key c.args.given.now before value.0 c.in_ok-value.value value.2 holds),
    )
