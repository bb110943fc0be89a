use Rattle.std.proofs.Common.{◌∙◌, refl}
use Rattle.reply_text.proofs.ScreenLines.{except_groups, except_node, except_shown}
use Rattle.line_parts.proofs.Sent.{cut_first, passed_on, two_texts}
use Rattle.reply_text.proofs.screens.write_except.Goals as goal

pub path_text-requires : goal.path_text-requires
path_text-requires g c = except_node c.args.engine.now.size c.args.engine.now.rows c.args.except.now c.requires.store c.requires.own

pub write_names-requires : goal.write_names-requires
write_names-requires g c =
    let e = c.args.engine.now in
    rw (c.groups.ensures.groups, c.as_slice.ensures) (except_groups e.size e.rows c.args.except.now c.requires.store c.requires.own)

pub returns-in_err-write_word-clause-writes : goal.returns-in_err-write_word-clause-writes
returns-in_err-write_word-clause-writes g c =
    let rows = c.args.engine.now.rows in
    let except = c.args.except.now in
    passed_on c.from_residual-in_err-write_word.result c.from_residual-in_err-write_word.ensures.1
    (cut_first _
    (except_shown rows.nodes rows.groups rows.groups except c.as_str.result.now except.groups (c.as_str.ensures ∙ c.in_ok-path.ensures.text) refl refl)
    c.in_err-write_word.ensures.writes)

pub returns-clause-writes : goal.returns-clause-writes
returns-clause-writes g c =
    let rows = c.args.engine.now.rows in
    let except = c.args.except.now in
    two_texts g.met.S.Sink.write_then
    (except_shown rows.nodes rows.groups c.groups.result.now except c.as_str.result.now c.as_slice.result.now (c.as_str.ensures ∙ c.in_ok-path.ensures.text) c.groups.ensures.groups c.as_slice.ensures)
    c.in_ok-write_word.ensures.writes c.write_names.ensures.writes
