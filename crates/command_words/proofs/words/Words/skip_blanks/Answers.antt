use Rattle.std.proofs.Common.{◌∙◌, ap, subst}
use Rattle.std.specs.List.{prefix_len}
use Rattle.std.specs.Str.{IsUtf8}
use Rattle.fsrm_model.specs.lines.Words.{is_blank}
use Rattle.command_words.specs.Taking.{left}
use Rattle.command_words.proofs.LineWords.{skipped, no_blanks, blanks_end}
use Rattle.command_words.proofs.words.Words.skip_blanks.Goals as goal

pub advance-requires : goal.advance-requires
advance-requires c =
    blanks_end c.args.self.now.rest.now c.blanks-blanks.result (subst IsUtf8 c.as_bytes.ensures.value c.as_bytes.ensures.utf8) (c.blanks-blanks.ensures ∙ ap (prefix_len is_blank) c.as_bytes.ensures.value)

pub returns-clause-left : goal.returns-clause-left
unfolding left
returns-clause-left c =
    let words = c.args.self.now in
    let after = c.advance.new.self in
    skipped words.column after.column words.rest.now c.as_bytes.result.now c.blanks-blanks.result after.rest.now c.as_bytes.ensures.value c.blanks-blanks.ensures c.advance.ensures.rest c.advance.ensures.column

pub returns-clause-none : goal.returns-clause-none
returns-clause-none c = no_blanks c.args.self.now.rest.now c.as_bytes.result.now c.blanks-blanks.result c.advance.new.self.rest.now c.as_bytes.ensures.value c.blanks-blanks.ensures c.advance.ensures.rest
