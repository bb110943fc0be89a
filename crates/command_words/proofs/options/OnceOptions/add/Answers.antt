use Rattle.std.proofs.Common.{rules, ◌≡◌, ◌∷◌, ◌++◌, [], true, Ok, Err, sym}
use Rattle.std.specs.Str.{str_eq_ignore_ascii_case}
use Rattle.fsrm_model.specs.lines.ValueForms.{value_from}
use Rattle.fsrm_model.specs.lines.Options.{once}
use Rattle.command_words.proofs.OptionLaws.{named_own, once_again, once_fresh, once_more, faulty, own, not_some}
use Rattle.command_words.proofs.options.OnceOptions.add.Goals as goal

pub returns-then-is_some : goal.returns-then-is_some
returns-then-is_some g c before holds =
    let form = g.F.Form.form c.args.self.form in
    let key = once c.args.self.name.now form in
    let named : str_eq_ignore_ascii_case c.args.self.name.now c.args.word.now.name.now ≡ true = sym (c.if-not-is_named.ensures) in
    let again = once_again g.F.Form.of c.args.self.name.now form c.args.given.now c.args.word.now.column c.args.word.now.value.now before (sym (c.if-is_some.ensures)) holds in
    (key, named_own key c.args.word.now.name.now named, rw c.bad_line.ensures again)

pub returns-in_err-read : goal.returns-in_err-read
returns-in_err-read g c before holds =
    let form = g.F.Form.form c.args.self.form in
    let key = once c.args.self.name.now form in
    let column = c.args.word.now.column in
    let text = c.args.word.now.value.now in
    let named : str_eq_ignore_ascii_case c.args.self.name.now c.args.word.now.name.now ≡ true = sym (c.if-not-is_named.ensures) in
    let none = not_some c.args.given.now (sym (c.if-is_some.ensures)) in
    let fault : c.from_residual.result ≡ Err c.in_err-read.field-0.0 = search rules in
    rw fault (
      key,
      named_own key c.args.word.now.name.now named,
      faulty c.in_err-read.field-0.0 (value_from form column text) _ (λ x. Ok (before ++ own key x ∷ [])) (c.in_err-read.ensures)
          (λ read is. once_fresh g.F.Form.of c.args.self.name.now form c.args.given.now column text before read none holds is),
    )

pub returns : goal.returns
returns g c before holds =
    let form = g.F.Form.form c.args.self.form in
    let key = once c.args.self.name.now form in
    let column = c.args.word.now.column in
    let text = c.args.word.now.value.now in
    let named : str_eq_ignore_ascii_case c.args.self.name.now c.args.word.now.name.now ≡ true = sym (c.if-not-is_named.ensures) in
    let none = not_some c.args.given.now (sym (c.if-is_some.ensures)) in
    let value = c.in_ok-read.ensures in (
      key,
      before ++ own key value.0 ∷ [],
      named_own key c.args.word.now.name.now named,
      once_fresh g.F.Form.of c.args.self.name.now form c.args.given.now column text before (Ok value.0) none holds value.1,
      once_more g.F.Form.of key c.args.given.now before value.0 c.in_ok-read.field-0 none value.2 holds,
    )
