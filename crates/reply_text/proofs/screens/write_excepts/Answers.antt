use Rattle.std.proofs.Common.{◌+◌, List, length, ap, arith}
use Rattle.std.proofs.lemmas.List.Sums.{sum_by-take-le}
use Rattle.fsrm_model.specs.declared.row.ExceptRow.{ExceptRow}
use Rattle.fsrm_model.specs.commands.Cost.{path_cost}
use Rattle.fsrm_model.specs.objects.Screens.{except_folder}
use Rattle.reply_text.specs.Lines.{except_text}
use Rattle.line_parts.proofs.Each.{writes_all, writes_one, writes_one_front}
use Rattle.line_parts.proofs.Sent.{passed_on, told}
use Rattle.reply_text.proofs.Quotas.{at_place, sum_more}
use Rattle.reply_text.proofs.ScreenLines.{all_excepts, excepts_ascend}
use Rattle.reply_text.proofs.screens.write_excepts.Goals as goal

pub write_except-requires-clause-own : goal.write_except-requires-clause-own
write_except-requires-clause-own g c =
    let excepts = c.args.engine.now.rows.excepts in
    at_place except_folder excepts c.loop-place.place c.except_at.result.now (excepts_ascend c.args.engine.now.size c.args.engine.now.rows c.objects-objects.ensures.store) (rw c.objects-objects.ensures.excepts at c.except_at.ensures)

pub returns-in_err-write_except-clause-writes : goal.returns-in_err-write_except-clause-writes
returns-in_err-write_except-clause-writes g c =
    let engine = c.args.engine.now in
    passed_on c.from_residual.result c.from_residual.ensures.1
    (told (all_excepts engine.size engine.rows)
    (writes_one_front (except_text engine.rows.nodes engine.rows.groups) engine.rows.excepts c.loop-place.place c.except_at.result.now (rw c.objects-objects.ensures.excepts at c.except_at.ensures) g.met.S.Sink.write_then c.loop-place.invariant.writes c.in_err-write_except.ensures.writes))

pub returns-in_err-write_except-clause-looks : goal.returns-in_err-write_except-clause-looks
returns-in_err-write_except-clause-looks g c =
    let nodes = c.args.engine.now.rows.nodes in
    let excepts = c.args.engine.now.rows.excepts in
    omega (arith, c.loop-place.invariant.looks, c.in_err-write_except.ensures.looks, sum_more (λ except. path_cost nodes except.folder) excepts c.loop-place.place c.except_at.result.now (rw c.objects-objects.ensures.excepts at c.except_at.ensures), sum_by-take-le (λ (except : ExceptRow). path_cost nodes except.folder) excepts (c.loop-place.place + 1))

pub returns-clause-writes : goal.returns-clause-writes
returns-clause-writes g c =
    let engine = c.args.engine.now in
    let same = ap (λ (rows : List ExceptRow). length rows) c.objects-objects.ensures.excepts in
    told (all_excepts engine.size engine.rows) (writes_all (except_text engine.rows.nodes engine.rows.groups) engine.rows.excepts c.loop-place.place (omega (arith, c.loop-place-test.false, c.except_count-place-end.ensures, same)) c.loop-place.invariant.writes)

pub loop-place-preserved : goal.loop-place-preserved
loop-place-preserved g c =
    let engine = c.args.engine.now in
    let nodes = c.args.engine.now.rows.nodes in
    let excepts = c.args.engine.now.rows.excepts in
    record {
      writes = writes_one (except_text nodes engine.rows.groups) excepts c.loop-place.place c.except_at.result.now (rw c.objects-objects.ensures.excepts at c.except_at.ensures) g.met.S.Sink.write_then c.loop-place.invariant.writes c.in_ok-write_except.ensures.writes;
      looks = omega (arith, c.loop-place.invariant.looks, c.in_ok-write_except.ensures.looks, sum_more (λ except. path_cost nodes except.folder) excepts c.loop-place.place c.except_at.result.now (rw c.objects-objects.ensures.excepts at c.except_at.ensures));
    }
