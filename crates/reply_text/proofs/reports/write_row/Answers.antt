use Rattle.std.proofs.Common.{◌≡◌, ◌∙◌, true, ap, arith}
use Rattle.std.specs.Prelude.{Some}
use Rattle.fsrm_model.specs.nodes.Tree.{node_of}
use Rattle.fsrm_model.specs.texts.ReportText.{type_word_of}
use Rattle.line_parts.proofs.Sent.{told}
use Rattle.node_table.specs.Views.{seen}
use Rattle.reply_text.specs.ReportLines.{is_counted}
use Rattle.reply_text.proofs.Nodes.{is_node, seen_found}
use Rattle.reply_text.proofs.ReportLines.{audit_row_shown, file_row_shown, in_time_node, owner_row_shown, quota_row_shown, type_row_shown}
use Rattle.reply_text.proofs.ReportRows.{counted}
use Rattle.reply_text.proofs.reports.write_row.Goals as goal

pub write_file-requires-clause-accessed : goal.write_file-requires-clause-accessed
write_file-requires-clause-accessed g c =
    let e = c.args.engine.now in
    let shown = c.node-view.ensures.view in
    let times = in_time_node e.size e.rows.nodes c.in-File.node shown.row c.requires.store.volume (rw c.tree.ensures.nodes at shown.found) in
    omega (arith, shown.is.accessed, times.accessed)

pub write_file-requires-clause-modified : goal.write_file-requires-clause-modified
write_file-requires-clause-modified g c =
    let e = c.args.engine.now in
    let shown = c.node-view.ensures.view in
    let times = in_time_node e.size e.rows.nodes c.in-File.node shown.row c.requires.store.volume (rw c.tree.ensures.nodes at shown.found) in
    omega (arith, shown.is.modified, times.modified)

pub path_text-requires-in-Quota : goal.path_text-requires-in-Quota
path_text-requires-in-Quota g c =
    let rows = c.args.engine.now.rows in
    let there : is_counted rows c.in-Quota.folder ≡ true = rw c.in-Quota.is at c.requires.there in
    let quota = counted rows c.in-Quota.folder there in
    is_node rows.nodes c.in-Quota.folder (c.requires.store.quotas.folders c.in-Quota.folder quota.row quota.found)

pub returns-in_ok-path-in-File-clause-writes : goal.returns-in_ok-path-in-File-clause-writes
returns-in_ok-path-in-File-clause-writes g c =
    let e = c.args.engine.now in
    let view = c.node-view.result in
    let found : node_of e.rows.nodes c.in-File.node ≡ Some (seen view) = rw c.tree.ensures.nodes at (seen_found view c.tree.result.now.nodes c.in-File.node c.node-view.ensures.view) in
    told
    (file_row_shown e.size e.rows c.args.kind c.args.row.now c.in-File.node c.in-File.space (seen view) c.as_str.result.now c.in-File.is found (c.as_str.ensures ∙ c.in_ok-path-in-File.ensures.text))
    c.write_file.ensures.writes

pub returns-in-Kind-clause-writes : goal.returns-in-Kind-clause-writes
returns-in-Kind-clause-writes g c =
    let e = c.args.engine.now in
    told
    (type_row_shown e.size e.rows c.args.kind c.args.row.now c.in-Kind.name c.type_word.result.now c.in-Kind.files c.in-Kind.lengths c.in-Kind.space c.in-Kind.is (c.type_word.ensures ∙ ap type_word_of c.as_str-in-Kind.ensures))
    c.write_sums.ensures.writes

pub returns-in-Owner-clause-writes : goal.returns-in-Owner-clause-writes
returns-in-Owner-clause-writes g c =
    let e = c.args.engine.now in
    told
    (owner_row_shown e.size e.rows c.args.kind c.args.row.now c.in-Owner.owner c.from.result c.in-Owner.files c.in-Owner.lengths c.in-Owner.space c.in-Owner.is c.from.ensures)
    c.write_sums-in-Owner.ensures.writes

pub returns-in_ok-path-in-Quota-clause-writes : goal.returns-in_ok-path-in-Quota-clause-writes
returns-in_ok-path-in-Quota-clause-writes g c =
    let e = c.args.engine.now in
    told
    (quota_row_shown e.size e.rows c.args.kind c.args.row.now c.in-Quota.folder c.in-Quota.percent c.as_str-in-Quota.result.now c.in-Quota.is (c.as_str-in-Quota.ensures ∙ c.in_ok-path-in-Quota.ensures.text))
    c.write_quota.ensures.writes

pub returns-in-Audit-clause-writes : goal.returns-in-Audit-clause-writes
returns-in-Audit-clause-writes g c =
    let e = c.args.engine.now in
    told (audit_row_shown e.size e.rows c.args.kind c.args.row.now c.audit.result.now c.in-Audit.place c.in-Audit.is c.audit.ensures.log) c.write_entry.ensures.writes
