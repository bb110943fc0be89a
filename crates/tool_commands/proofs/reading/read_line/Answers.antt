use Rattle.std.proofs.Common.{◌≡◌, sym, ◌∙◌}
use Rattle.std.specs.Str.Lossy.{utf8_valid_len}
use Rattle.tool_commands.proofs.Lines.{not_text, passed_over, by_words, read_of, valid_of, faults_of}
use Rattle.fsrm_model.proofs.lines.ScriptLaws.{too_long}
use Rattle.tool_commands.proofs.reading.read_line.Goals as goal

pub returns-then-line-gt-LONGEST_LINE-clause-fault : goal.returns-then-line-gt-LONGEST_LINE-clause-fault
returns-then-line-gt-LONGEST_LINE-clause-fault c = too_long c.args.line.now c.if-line-gt-LONGEST_LINE.true

pub returns-in-Err-clause-fault : goal.returns-in-Err-clause-fault
returns-in-Err-clause-fault c =
    let at : c.valid_up_to.result ≡ utf8_valid_len c.args.line.now = c.valid_up_to.ensures ∙ c.in-Err.ensures.valid_len in
    rw (c.bad_line.ensures, at) (not_text c.args.line.now c.if-line-gt-LONGEST_LINE.false c.in-Err.ensures.cases.0)

pub returns-then-is_skipped-clause-read : goal.returns-then-is_skipped-clause-read
returns-then-is_skipped-clause-read c =
    passed_over c.args.line.now c.if-line-gt-LONGEST_LINE.false c.in-Ok.ensures.cases.1 (sym c.is_skipped.ensures ∙ c.if-is_skipped.true)

pub returns-clause-read : goal.returns-clause-read
returns-clause-read c =
    let reads = by_words c.args.line.now c.if-line-gt-LONGEST_LINE.false c.in-Ok.ensures.cases.1 (sym c.is_skipped.ensures ∙ c.if-is_skipped.false) in
    read_of c.args.line.now c.in-Ok.text.now c.read_words.result c.in-Ok.ensures.cases.0 reads c.read_words.ensures

pub returns-clause-valid : goal.returns-clause-valid
returns-clause-valid c =
    let reads = by_words c.args.line.now c.if-line-gt-LONGEST_LINE.false c.in-Ok.ensures.cases.1 (sym c.is_skipped.ensures ∙ c.if-is_skipped.false) in
    valid_of c.args.line.now c.read_words.result (read_of c.args.line.now c.in-Ok.text.now c.read_words.result c.in-Ok.ensures.cases.0 reads c.read_words.ensures)

pub returns-clause-fault : goal.returns-clause-fault
returns-clause-fault c =
    let reads = by_words c.args.line.now c.if-line-gt-LONGEST_LINE.false c.in-Ok.ensures.cases.1 (sym c.is_skipped.ensures ∙ c.if-is_skipped.false) in
    faults_of c.args.line.now c.in-Ok.text.now c.read_words.result c.in-Ok.ensures.cases.0 reads c.read_words.ensures
