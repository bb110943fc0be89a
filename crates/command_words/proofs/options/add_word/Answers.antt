use Rattle.std.proofs.Common.{rules, ◌≡◌, ℕ, List, Ok, Err, Some, None, ap, subst, arith}
use Rattle.std.specs.List.{after_first}
use Rattle.std.proofs.lemmas.Str.Pattern.{split_once_first}
use Rattle.fsrm_model.specs.lines.Options.{word_key, key_named, is_colon}
use Rattle.command_words.specs.Taking.{line_word}
use Rattle.command_words.proofs.OptionLaws.{no_key, key_before, word_without, word_added, word_other, word_faulty}
use Rattle.command_words.proofs.options.add_word.Goals as goal

pub returns-in_default : goal.returns-in_default
returns-in_default g c before holds =
    let keys = g.O.Options.keys c.args.options in
    let lacks = split_once_first 58 c.as_str.result.now None c.in_default.ensures.cases (omega arith) in
    let none = subst (λ (text : List ℕ). word_key keys text ≡ None) c.as_str.ensures.value (no_key keys c.as_str.result.now lacks) in
    rw c.bad_line.ensures (word_without keys (line_word c.args.word.now) before none)

pub returns-in_err-add : goal.returns-in_err-add
returns-in_err-add g c before holds =
    let keys = g.O.Options.keys c.args.options in
    let split = split_once_first 58 c.as_str.result.now (Some (c.in-Some.name, c.in-Some.value)) c.in-Some.ensures.cases (omega arith) in
    let named = subst (λ (text : List ℕ). word_key keys text ≡ key_named keys c.in-Some.name.now) c.as_str.ensures.value (key_before keys c.as_str.result.now c.in-Some.name.now split.0 split.1) in
    let value = subst (λ (text : List ℕ). c.in-Some.value.now ≡ after_first is_colon text) c.as_str.ensures.value split.2 in
    let fault : c.from_residual.result ≡ Err c.in_err-add.field-0.0 = search rules in
    rw fault (word_faulty (g.O.Options.holds c.args.options) keys (line_word c.args.word.now) c.in-Some.name.now c.in-Some.value.now before c.in_err-add.field-0.0 c.args.given.now c.add.new.given named value (c.in_err-add.ensures before holds))

pub returns-then-branch : goal.returns-then-branch
returns-then-branch g c before holds =
    let keys = g.O.Options.keys c.args.options in
    let split = split_once_first 58 c.as_str.result.now (Some (c.in-Some.name, c.in-Some.value)) c.in-Some.ensures.cases (omega arith) in
    let named = subst (λ (text : List ℕ). word_key keys text ≡ key_named keys c.in-Some.name.now) c.as_str.ensures.value (key_before keys c.as_str.result.now c.in-Some.name.now split.0 split.1) in
    let value = subst (λ (text : List ℕ). c.in-Some.value.now ≡ after_first is_colon text) c.as_str.ensures.value split.2 in
    word_added (g.O.Options.holds c.args.options) keys (line_word c.args.word.now) c.in-Some.name.now c.in-Some.value.now before (Ok c.in_ok-add.field-0) c.args.given.now c.add.new.given named value (ap Ok c.if-branch.true) (c.in_ok-add.ensures before holds)

pub returns : goal.returns
returns g c before holds =
    let keys = g.O.Options.keys c.args.options in
    let split = split_once_first 58 c.as_str.result.now (Some (c.in-Some.name, c.in-Some.value)) c.in-Some.ensures.cases (omega arith) in
    let named = subst (λ (text : List ℕ). word_key keys text ≡ key_named keys c.in-Some.name.now) c.as_str.ensures.value (key_before keys c.as_str.result.now c.in-Some.name.now split.0 split.1) in
    let value = subst (λ (text : List ℕ). c.in-Some.value.now ≡ after_first is_colon text) c.as_str.ensures.value split.2 in
    rw c.bad_line-2.ensures
    (word_other (g.O.Options.holds c.args.options) keys (line_word c.args.word.now) c.in-Some.name.now c.in-Some.value.now before (Ok c.in_ok-add.field-0) c.args.given.now c.add.new.given named value (ap Ok c.if-branch.false) (c.in_ok-add.ensures before holds))
