use Rattle.std.proofs.Common.{◌∙◌, ap, arith}
use Rattle.fsrm_base.specs.Keyed.{has_row}
use Rattle.fsrm_model.specs.commands.Cost.{path_cost}
use Rattle.fsrm_model.specs.nodes.Tree.{number}
use Rattle.fsrm_model.specs.texts.Printed.{path_text}
use Rattle.line_parts.proofs.Sent.{told}
use Rattle.notice_text.specs.Expand.{is_wide}
use Rattle.notice_text.proofs.StoreLaws.{act_node, notice_same, wide_facts}
use Rattle.notice_text.proofs.outboxes.write_notice.Goals as goal

pub path_text-requires : goal.path_text-requires
path_text-requires g c =
    ap (λ n. has_row number n c.args.engine.now.rows.nodes) c.folder.ensures
    ∙ act_node c.args.engine.now.size c.args.engine.now.rows c.args.notice.now.act c.objects-objects.ensures.store c.requires.act

pub write_lines-requires : goal.write_lines-requires
write_lines-requires g c =
    ap is_wide c.quota_facts-quota.ensures ∙ wide_facts c.args.engine.now.size c.args.engine.now.rows c.args.notice.now.act.subject c.objects-objects.ensures.store

pub returns-clause-writes : goal.returns-clause-writes
returns-clause-writes g c =
    let rows = c.args.engine.now.rows in
    told
    (notice_same c.args.engine.now.size rows c.args.notice.now c.as_str.result.now c.moment_text-date.result c.act_text.result.now c.quota_facts-quota.result
    (c.as_str.ensures ∙ (c.in_ok-path.ensures.text ∙ ap (path_text rows.nodes) c.folder.ensures)) c.moment_text-date.ensures c.act_text.ensures c.quota_facts-quota.ensures)
    c.write_lines.ensures.writes

pub returns-clause-looks : goal.returns-clause-looks
returns-clause-looks g c = omega (arith, c.path_text.ensures.looks, ap (path_cost c.args.engine.now.rows.nodes) c.folder.ensures)

pub returns-in_err-path-clause-looks : goal.returns-in_err-path-clause-looks
returns-in_err-path-clause-looks g c = omega (arith, c.path_text.ensures.looks, ap (path_cost c.args.engine.now.rows.nodes) c.folder.ensures)
