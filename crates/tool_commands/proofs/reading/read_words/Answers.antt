use Rattle.std.proofs.Common.{Err, sym, ap, ◌∙◌, subst}
use Rattle.std.proofs.lemmas.Result.{err_from_is_err_and}
use Rattle.fsrm_model.specs.lines.Line.{readers, next_word, deed_words}
use Rattle.command_words.specs.Taking.{left, end, lent_word}
use Rattle.command_words.proofs.Taken.{same_read}
use Rattle.tool_commands.specs.LineFaults.{ReadsWords, at_moment}
use Rattle.tool_commands.proofs.NamedWords.{named_read, moment_read, fault_at_moment, line_words}
use Rattle.tool_commands.proofs.reading.read_words.Goals as goal

pub returns-in_err-moment : goal.returns-in_err-moment
returns-in_err-moment c =
    let words = c.new-words.result in
    let line = line_words c.args.line.now (end words) (left words) (sym c.in_default.is ∙ c.unclosed_quote.ensures.column) c.new-words.ensures.left c.new-words.ensures.end in
    let fault = err_from_is_err_and c.from_residual.result c.from_residual.ensures.1 in
    rw (fault.1, fault.2) (subst (ReadsWords (Err c.in_err-moment.field-0.0)) line (fault_at_moment (end words) (left words) c.in_err-moment.field-0.0 c.in_err-moment.ensures))

pub returns-in-Some-next_plain : goal.returns-in-Some-next_plain
returns-in-Some-next_plain c =
    let words = c.new-words.result in
    let next = c.moment.new.self in
    let last = c.next_plain.new.self in
    let moment = c.in_ok-moment.ensures in
    let name = c.in-Some-next_plain.ensures in
    let line = line_words c.args.line.now (end words) (left words) (sym c.in_default.is ∙ c.unclosed_quote.ensures.column) c.new-words.ensures.left c.new-words.ensures.end in
    subst (ReadsWords c.deed.result) line
    (moment_read (end words) (end next) (left words) (left next) c.in_ok-moment.moment c.deed.result moment.0 moment.1
    (named_read readers (end next) (end last) (left next) (left last) (lent_word c.in-Some-next_plain.name) (λ last reader more. reader last more)
    (λ read. ReadsWords c.deed.result (at_moment c.in_ok-moment.moment read)) (ap (λ given. next_word (end next) given) name.0) name.1 c.deed.ensures))

pub returns-in-None : goal.returns-in-None
returns-in-None c =
    let words = c.new-words.result in
    let next = c.moment.new.self in
    let moment = c.in_ok-moment.ensures in
    let name = c.in-None.ensures in
    let line = line_words c.args.line.now (end words) (left words) (sym c.in_default.is ∙ c.unclosed_quote.ensures.column) c.new-words.ensures.left c.new-words.ensures.end in
    subst (ReadsWords c.other_deed.result) line
    (moment_read (end words) (end next) (left words) (left next) c.in_ok-moment.moment c.other_deed.result moment.0 moment.1
    (subst (λ read. ReadsWords c.other_deed.result (at_moment c.in_ok-moment.moment read)) (same_read deed_words next c.next_plain.new.self name.0 name.1) c.other_deed.ensures))
