use Rattle.std.proofs.Common.{◌∙◌, refl}
use Rattle.reply_text.proofs.ScreenLines.{screen_groups, screen_node, screen_shown}
use Rattle.line_parts.proofs.Sent.{cut_first, cut_second, passed_on, three_texts}
use Rattle.reply_text.proofs.screens.write_screen.Goals as goal

pub path_text-requires : goal.path_text-requires
path_text-requires g c = screen_node c.args.engine.now.size c.args.engine.now.rows c.args.screen.now c.requires.store c.requires.own

pub write_names-requires : goal.write_names-requires
write_names-requires g c =
    let e = c.args.engine.now in
    rw (c.groups.ensures.groups, c.as_slice.ensures) (screen_groups e.size e.rows c.args.screen.now c.requires.store c.requires.own)

pub returns-in_err-write_mode-clause-writes : goal.returns-in_err-write_mode-clause-writes
returns-in_err-write_mode-clause-writes g c =
    let rows = c.args.engine.now.rows in
    let screen = c.args.screen.now in
    passed_on c.from_residual-in_err-write_mode.result c.from_residual-in_err-write_mode.ensures.1
    (cut_first _
    (screen_shown rows.nodes rows.groups rows.groups screen c.as_str.result.now screen.groups screen.actions (c.as_str.ensures ∙ c.in_ok-path.ensures.text) refl refl refl)
    c.in_err-write_mode.ensures.writes)

pub returns-in_err-write_names-clause-writes : goal.returns-in_err-write_names-clause-writes
returns-in_err-write_names-clause-writes g c =
    let rows = c.args.engine.now.rows in
    let screen = c.args.screen.now in
    passed_on c.from_residual-in_err-write_names.result c.from_residual-in_err-write_names.ensures.1
    (cut_second _ g.met.S.Sink.write_then
    (screen_shown rows.nodes rows.groups c.groups.result.now screen c.as_str.result.now c.as_slice.result.now screen.actions (c.as_str.ensures ∙ c.in_ok-path.ensures.text) c.groups.ensures.groups c.as_slice.ensures refl)
    c.in_ok-write_mode.ensures.writes c.in_err-write_names.ensures.writes)

pub returns-clause-writes : goal.returns-clause-writes
returns-clause-writes g c =
    let rows = c.args.engine.now.rows in
    let screen = c.args.screen.now in
    three_texts g.met.S.Sink.write_then
    (screen_shown rows.nodes rows.groups c.groups.result.now screen c.as_str.result.now c.as_slice.result.now c.as_slice-2.result.now (c.as_str.ensures ∙ c.in_ok-path.ensures.text) c.groups.ensures.groups c.as_slice.ensures c.as_slice-2.ensures)
    c.in_ok-write_mode.ensures.writes c.in_ok-write_names.ensures.writes c.write_dos.ensures.writes
