use Rattle.std.proofs.Common.{Ok, Option, [], ◌∙◌, subst}
use Rattle.std.proofs.lemmas.Result.{err_from_is_err_and}
use Rattle.fsrm_model.specs.lines.Options.{options}
use Rattle.command_words.specs.declared.words.Word.{Word}
use Rattle.command_words.specs.Taking.{left, line_word, TakesLeft}
use Rattle.command_words.proofs.OptionLaws.{words_fail, words_more}
use Rattle.command_words.proofs.options.read_options.Goals as goal

pub loop-given-preserved-in_ok-add_word : goal.loop-given-preserved-in_ok-add_word
loop-given-preserved-in_ok-add_word g c =
    let keys = g.O.Options.keys c.args.options in
    let before = c.loop-given.invariant in
    let took = subst (λ (next : Option Word). TakesLeft (Ok next) c.loop-given.words c.next_left.new.self) c.in-Some.is c.in_ok-word.ensures in
    let added = c.in_ok-add_word.ensures before.given before.holds in
    record {
      given = added.0;
      holds = added.2;
      read = words_more keys (left c.loop-given.words) (left c.next_left.new.self) (line_word c.in-Some.word) before.given added.0 (options keys (left c.args.words.now) []) took.0 before.read added.1;
      end = took.1 ∙ before.end;
    }

pub loop-given-preserved : goal.loop-given-preserved
loop-given-preserved g c =
    let keys = g.O.Options.keys c.args.options in
    let before = c.loop-given.invariant in
    let took = subst (λ (next : Option Word). TakesLeft (Ok next) c.loop-given.words c.next_left.new.self) c.in-Some.is c.in_ok-word.ensures in
    let added = c.in_ok-add_word.ensures before.given before.holds in
    record {
      given = added.0;
      holds = added.2;
      read = words_more keys (left c.loop-given.words) (left c.next_left.new.self) (line_word c.in-Some.word) before.given added.0 (options keys (left c.args.words.now) []) took.0 before.read added.1;
      end = took.1 ∙ before.end;
    }

pub returns-in_err-add_word-clause-read : goal.returns-in_err-add_word-clause-read
returns-in_err-add_word-clause-read g c =
    let keys = g.O.Options.keys c.args.options in
    let before = c.loop-given.invariant in
    let took = subst (λ (next : Option Word). TakesLeft (Ok next) c.loop-given.words c.next_left.new.self) c.in-Some.is c.in_ok-word.ensures in
    let p = err_from_is_err_and c.from_residual-in_err-add_word.result c.from_residual-in_err-add_word.ensures.1 in
    rw (p.1, p.2)
    (words_fail keys (left c.loop-given.words) (left c.next_left.new.self) (line_word c.in-Some.word) before.given (options keys (left c.args.words.now) []) c.in_err-add_word.field-0.0 took.0 before.read
    (c.in_err-add_word.ensures before.given before.holds))
