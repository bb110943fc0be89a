use Rattle.std.proofs.Common.{◌≡◌, ◌∙◌, sym, ap, arith}
use Rattle.std.specs.Prelude.{Some, None}
use Rattle.fsrm_model.specs.declared.command.Ask.TheVariants.{Quotas}
use Rattle.fsrm_model.specs.declared.command.Outcome.TheVariants.{Listing}
use Rattle.fsrm_model.specs.commands.Cost.{list_cost}
use Rattle.fsrm_model.specs.meaning.Named.{IsNamed}
use Rattle.fsrm_model.specs.texts.Text.{list_lines}
use Rattle.line_parts.proofs.Sent.{told}
use Rattle.reply_text.proofs.Quotas.{lent_found, lent_row, own_row, all_lines, one_line, one_cost}
use Rattle.reply_text.proofs.lists.write_asked.Goals as goal

pub unwrap-quota-requires : goal.unwrap-quota-requires
unwrap-quota-requires g c =
    let is : c.args.folder ≡ Some c.in-Some.folder = c.in-Some.is in
    let named : IsNamed c.args.engine.now.rows (Listing (Quotas (Some c.in-Some.folder))) = rw is at c.requires in
    lent_found c.quota.result c.objects.result.now.quotas c.args.engine.now.rows.quotas c.in-Some.folder c.quota.ensures c.objects.ensures.quotas named

pub write_quota-requires-clause-own : goal.write_quota-requires-clause-own
write_quota-requires-clause-own g c =
    let quotas = c.args.engine.now.rows.quotas in
    own_row quotas c.in-Some.folder c.unwrap-quota.result.now (lent_row c.quota.result c.unwrap-quota.result c.objects.result.now.quotas quotas c.in-Some.folder c.quota.ensures c.objects.ensures.quotas c.unwrap-quota.ensures)

pub returns-in-None-clause-writes : goal.returns-in-None-clause-writes
returns-in-None-clause-writes g c =
    let engine = c.args.engine.now in
    let is : c.args.folder ≡ None = c.in-None.is in
    told (all_lines engine.size engine.rows ∙ ap (λ asked. list_lines engine.size engine.rows (Quotas asked)) (sym is)) c.write_quotas.ensures.writes

pub returns-in-Some-clause-writes : goal.returns-in-Some-clause-writes
returns-in-Some-clause-writes g c =
    let engine = c.args.engine.now in
    let is : c.args.folder ≡ Some c.in-Some.folder = c.in-Some.is in
    let found = lent_row c.quota.result c.unwrap-quota.result c.objects.result.now.quotas engine.rows.quotas c.in-Some.folder c.quota.ensures c.objects.ensures.quotas c.unwrap-quota.ensures in
    told (one_line engine.size engine.rows c.in-Some.folder c.unwrap-quota.result.now c.objects.ensures.store found ∙ ap (λ asked. list_lines engine.size engine.rows (Quotas asked)) (sym is)) c.write_quota.ensures.writes

pub returns-in-Some-clause-looks : goal.returns-in-Some-clause-looks
returns-in-Some-clause-looks g c =
    let engine = c.args.engine.now in
    let is : c.args.folder ≡ Some c.in-Some.folder = c.in-Some.is in
    let found = lent_row c.quota.result c.unwrap-quota.result c.objects.result.now.quotas engine.rows.quotas c.in-Some.folder c.quota.ensures c.objects.ensures.quotas c.unwrap-quota.ensures in
    omega (arith, c.write_quota.ensures.looks, one_cost engine.size engine.rows c.in-Some.folder c.unwrap-quota.result.now c.objects.ensures.store found ∙ ap (λ asked. list_cost engine.rows (Quotas asked)) (sym is))
