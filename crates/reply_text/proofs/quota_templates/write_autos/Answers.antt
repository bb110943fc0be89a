use Rattle.std.proofs.Common.{◌+◌, List, length, ap, arith}
use Rattle.std.proofs.lemmas.List.Sums.{sum_by-take-le}
use Rattle.fsrm_model.specs.declared.row.AutoRow.{AutoRow}
use Rattle.fsrm_model.specs.commands.Cost.{path_cost}
use Rattle.fsrm_model.specs.objects.AutoApply.{auto_folder}
use Rattle.reply_text.specs.Lines.{auto_text}
use Rattle.line_parts.proofs.Each.{writes_all, writes_one, writes_one_front}
use Rattle.line_parts.proofs.Sent.{passed_on, told}
use Rattle.reply_text.proofs.Quotas.{at_place, sum_more}
use Rattle.reply_text.proofs.TemplateLines.{all_autos, autos_ascend}
use Rattle.reply_text.proofs.quota_templates.write_autos.Goals as goal

pub write_auto-requires-clause-own : goal.write_auto-requires-clause-own
write_auto-requires-clause-own g c =
    let autos = c.args.engine.now.rows.autos in
    at_place auto_folder autos c.loop-place.place c.auto_at.result.now (autos_ascend c.args.engine.now.size c.args.engine.now.rows c.templates-templates.ensures.store) (rw c.templates-templates.ensures.autos at c.auto_at.ensures)

pub returns-in_err-write_auto-clause-writes : goal.returns-in_err-write_auto-clause-writes
returns-in_err-write_auto-clause-writes g c =
    let engine = c.args.engine.now in
    passed_on c.from_residual.result c.from_residual.ensures.1
    (told (all_autos engine.size engine.rows)
    (writes_one_front (auto_text engine.rows.nodes engine.rows.templates) engine.rows.autos c.loop-place.place c.auto_at.result.now (rw c.templates-templates.ensures.autos at c.auto_at.ensures) g.met.S.Sink.write_then c.loop-place.invariant.writes c.in_err-write_auto.ensures.writes))

pub returns-in_err-write_auto-clause-looks : goal.returns-in_err-write_auto-clause-looks
returns-in_err-write_auto-clause-looks g c =
    let nodes = c.args.engine.now.rows.nodes in
    let autos = c.args.engine.now.rows.autos in
    omega (arith, c.loop-place.invariant.looks, c.in_err-write_auto.ensures.looks, sum_more (λ auto. path_cost nodes auto.folder) autos c.loop-place.place c.auto_at.result.now (rw c.templates-templates.ensures.autos at c.auto_at.ensures), sum_by-take-le (λ (auto : AutoRow). path_cost nodes auto.folder) autos (c.loop-place.place + 1))

pub returns-clause-writes : goal.returns-clause-writes
returns-clause-writes g c =
    let engine = c.args.engine.now in
    let same = ap (λ (rows : List AutoRow). length rows) c.templates-templates.ensures.autos in
    told (all_autos engine.size engine.rows) (writes_all (auto_text engine.rows.nodes engine.rows.templates) engine.rows.autos c.loop-place.place (omega (arith, c.loop-place-test.false, c.auto_count-place-end.ensures, same)) c.loop-place.invariant.writes)

pub loop-place-preserved : goal.loop-place-preserved
loop-place-preserved g c =
    let engine = c.args.engine.now in
    let nodes = c.args.engine.now.rows.nodes in
    let autos = c.args.engine.now.rows.autos in
    record {
      writes = writes_one (auto_text nodes engine.rows.templates) autos c.loop-place.place c.auto_at.result.now (rw c.templates-templates.ensures.autos at c.auto_at.ensures) g.met.S.Sink.write_then c.loop-place.invariant.writes c.in_ok-write_auto.ensures.writes;
      looks = omega (arith, c.loop-place.invariant.looks, c.in_ok-write_auto.ensures.looks, sum_more (λ auto. path_cost nodes auto.folder) autos c.loop-place.place c.auto_at.result.now (rw c.templates-templates.ensures.autos at c.auto_at.ensures));
    }
