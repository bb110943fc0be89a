use Rattle.std.proofs.Common.{rules, ◌≡◌, ◌∷◌, ◌++◌, [], true, Ok, Err, sym}
use Rattle.std.specs.Str.{str_eq_ignore_ascii_case}
use Rattle.fsrm_model.specs.lines.ValueForms.{value_from}
use Rattle.fsrm_model.specs.lines.Options.{repeated}
use Rattle.command_words.specs.declared.fault.LineFault.TheVariants.{NoMemory}
use Rattle.command_words.proofs.OptionLaws.{named_own, repeated_fresh, each_more, faulty, own}
use Rattle.command_words.proofs.options.RepeatedOptions.add.Goals as goal

pub returns-in_err-read : goal.returns-in_err-read
returns-in_err-read g c before holds =
    let form = g.F.Form.form c.args.self.form in
    let key = repeated c.args.self.name.now form in
    let column = c.args.word.now.column in
    let text = c.args.word.now.value.now in
    let named : str_eq_ignore_ascii_case c.args.self.name.now c.args.word.now.name.now ≡ true = sym (c.if-not-is_named.ensures) in
    let fault : c.from_residual.result ≡ Err c.in_err-read.field-0.0 = search rules in
    rw fault (
      key,
      named_own key c.args.word.now.name.now named,
      faulty c.in_err-read.field-0.0 (value_from form column text) _ (λ x. Ok (before ++ own key x ∷ [])) (c.in_err-read.ensures)
          (λ read is. repeated_fresh c.args.self.name.now form column text before read is),
    )

pub returns-in_err-push : goal.returns-in_err-push
returns-in_err-push g c before holds =
    let key = repeated c.args.self.name.now (g.F.Form.form c.args.self.form) in
    let named : str_eq_ignore_ascii_case c.args.self.name.now c.args.word.now.name.now ≡ true = sym (c.if-not-is_named.ensures) in
    let fault : c.from_residual-in_err-push.result ≡ Err NoMemory = search rules in
    rw fault (key, named_own key c.args.word.now.name.now named, tt)

pub returns : goal.returns
returns g c before holds =
    let form = g.F.Form.form c.args.self.form in
    let key = repeated c.args.self.name.now form in
    let named : str_eq_ignore_ascii_case c.args.self.name.now c.args.word.now.name.now ≡ true = sym (c.if-not-is_named.ensures) in
    let value = c.in_ok-read.ensures in
    let pushed : c.push.new.self ≡ c.args.given.now ++ c.in_ok-read.field-0 ∷ [] = search rules in (
      key,
      before ++ own key value.0 ∷ [],
      named_own key c.args.word.now.name.now named,
      repeated_fresh c.args.self.name.now form c.args.word.now.column c.args.word.now.value.now before (Ok value.0) value.1,
      rw pushed (each_more g.F.Form.of key c.args.given.now before value.0 c.in_ok-read.field-0 value.2 holds),
    )
