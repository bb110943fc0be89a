use Rattle.std.proofs.Common.{◌≡◌, ◌∙◌, refl}
use Rattle.reply_text.specs.Lines.{line_text, quota_text}
use Rattle.reply_text.proofs.Nodes.{is_node}
use Rattle.reply_text.proofs.Quotas.{in_time, line_same, lines_shown}
use Rattle.line_parts.proofs.Sent.{cut_first, passed_on, two_texts}
use Rattle.reply_text.proofs.lists.write_quota.Goals as goal

pub path_text-requires : goal.path_text-requires
path_text-requires g c =
    let rows = c.args.engine.now.rows in
    let quota = c.args.quota.now in
    is_node rows.nodes quota.folder (c.requires.store.quotas.folders quota.folder quota c.requires.own)

pub write_row-requires : goal.write_row-requires
write_row-requires g c = in_time c.args.engine.now.size c.args.engine.now.rows c.args.quota.now c.requires.store c.requires.own

pub returns-in_err-write_row-clause-writes : goal.returns-in_err-write_row-clause-writes
returns-in_err-write_row-clause-writes g c =
    let engine = c.args.engine.now in
    let quota = c.args.quota.now in
    let used = c.used-used.result in
    let path = c.as_str.result.now in
    let same : quota_text quota used path ≡ line_text engine.size engine.rows.nodes quota = line_same engine.size engine.rows quota used path c.requires.own c.used-used.ensures (c.as_str.ensures ∙ c.in_ok-path.ensures.text) in
    passed_on c.from_residual-in_err-write_row.result c.from_residual-in_err-write_row.ensures.1
    (cut_first _ (lines_shown engine.size engine.rows.nodes quota (quota_text quota used path) quota.thresholds same refl) c.in_err-write_row.ensures.writes)

pub returns-clause-writes : goal.returns-clause-writes
returns-clause-writes g c =
    let engine = c.args.engine.now in
    let quota = c.args.quota.now in
    let used = c.used-used.result in
    let path = c.as_str.result.now in
    let same : quota_text quota used path ≡ line_text engine.size engine.rows.nodes quota = line_same engine.size engine.rows quota used path c.requires.own c.used-used.ensures (c.as_str.ensures ∙ c.in_ok-path.ensures.text) in
    two_texts g.met.S.Sink.write_then (lines_shown engine.size engine.rows.nodes quota (quota_text quota used path) c.as_slice.result.now same c.as_slice.ensures)
    c.in_ok-write_row.ensures.writes c.write_thresholds.ensures.writes
