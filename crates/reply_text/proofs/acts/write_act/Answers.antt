use Rattle.std.proofs.Common.{◌∙◌, ap, arith}
use Rattle.fsrm_base.specs.Keyed.{has_row}
use Rattle.fsrm_model.specs.commands.Cost.{path_cost}
use Rattle.fsrm_model.specs.texts.Printed.{path_text}
use Rattle.fsrm_model.specs.nodes.Tree.{number}
use Rattle.reply_text.proofs.ActLines.{act_node, act_same}
use Rattle.line_parts.proofs.Sent.{told}
use Rattle.reply_text.proofs.acts.write_act.Goals as goal

pub path_text-requires : goal.path_text-requires
path_text-requires g c =
    ap (λ n. has_row number n c.args.engine.now.rows.nodes) c.folder.ensures
    ∙ act_node c.args.engine.now.size c.args.engine.now.rows c.args.act.now c.requires.store c.requires.named

pub returns-clause-writes : goal.returns-clause-writes
returns-clause-writes g c =
    let rows = c.args.engine.now.rows in
    told
    (act_same rows c.args.act.now c.as_str.result.now c.act_text.result.now (c.as_str.ensures ∙ (c.in_ok-path.ensures.text ∙ ap (path_text rows.nodes) c.folder.ensures)) c.act_text.ensures)
    c.write_line.ensures.writes

pub returns-clause-looks : goal.returns-clause-looks
returns-clause-looks g c = omega (arith, c.path_text.ensures.looks, ap (path_cost c.args.engine.now.rows.nodes) c.folder.ensures)

pub returns-in_err-path-clause-looks : goal.returns-in_err-path-clause-looks
returns-in_err-path-clause-looks g c = omega (arith, c.path_text.ensures.looks, ap (path_cost c.args.engine.now.rows.nodes) c.folder.ensures)
