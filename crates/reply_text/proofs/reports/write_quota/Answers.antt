use Rattle.std.proofs.Common.{◌≡◌, ◌∙◌, sym, ap, rules}
use Rattle.std.specs.Prelude.{Some}
use Rattle.fsrm_base.proofs.Look.{found_has}
use Rattle.fsrm_model.specs.nodes.Tree.{usage}
use Rattle.fsrm_model.specs.objects.Quota.{folder_of, quota_of}
use Rattle.line_parts.proofs.Sent.{told}
use Rattle.reply_text.proofs.Quotas.{lent_found, lent_row}
use Rattle.reply_text.proofs.ReportLines.{usage_shown, used_some}
use Rattle.reply_text.proofs.ReportRows.{counted}
use Rattle.reply_text.proofs.reports.write_quota.Goals as goal

pub unwrap-quota-requires : goal.unwrap-quota-requires
unwrap-quota-requires g c =
    let rows = c.args.engine.now.rows in
    let is = counted rows c.args.folder c.requires in
    lent_found c.quota.result c.objects.result.now.quotas rows.quotas c.args.folder c.quota.ensures c.objects.ensures.quotas (found_has folder_of c.args.folder rows.quotas is.row is.found)

pub unwrap-used-requires : goal.unwrap-used-requires
unwrap-used-requires g c =
    let engine = c.args.engine.now in
    let is = counted engine.rows c.args.folder c.requires in
    let used : c.used.result ≡ Some (usage engine.size engine.rows.nodes c.args.folder) = c.used.ensures ∙ used_some engine.size engine.rows c.args.folder is.row is.found is.counts in
    rw used (search rules)

pub returns : goal.returns
returns g c =
    let engine = c.args.engine.now in
    let is = counted engine.rows c.args.folder c.requires in
    let found : quota_of engine.rows c.args.folder ≡ Some c.unwrap-quota.result.now = lent_row c.quota.result c.unwrap-quota.result c.objects.result.now.quotas engine.rows.quotas c.args.folder c.quota.ensures c.objects.ensures.quotas c.unwrap-quota.ensures in
    let shown : c.used.result ≡ Some (usage engine.size engine.rows.nodes c.args.folder) = c.used.ensures ∙ used_some engine.size engine.rows c.args.folder is.row is.found is.counts in
    let uses : c.unwrap-used.result ≡ usage engine.size engine.rows.nodes c.args.folder = cc (shown, c.unwrap-used.ensures) in
    record { writes = told (usage_shown engine.size engine.rows c.args.folder c.args.percent c.unwrap-used.result c.args.path.now c.unwrap-quota.result.now found uses) c.write_usage.ensures.writes }
