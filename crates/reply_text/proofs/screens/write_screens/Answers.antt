use Rattle.std.proofs.Common.{◌+◌, List, length, ap, arith}
use Rattle.std.proofs.lemmas.List.Sums.{sum_by-take-le}
use Rattle.fsrm_model.specs.declared.row.ScreenRow.{ScreenRow}
use Rattle.fsrm_model.specs.commands.Cost.{path_cost}
use Rattle.fsrm_model.specs.objects.Screens.{screen_folder}
use Rattle.reply_text.specs.Lines.{screen_text}
use Rattle.line_parts.proofs.Each.{writes_all, writes_one, writes_one_front}
use Rattle.line_parts.proofs.Sent.{passed_on, told}
use Rattle.reply_text.proofs.Quotas.{at_place, sum_more}
use Rattle.reply_text.proofs.ScreenLines.{all_screens, screens_ascend}
use Rattle.reply_text.proofs.screens.write_screens.Goals as goal

pub write_screen-requires-clause-own : goal.write_screen-requires-clause-own
write_screen-requires-clause-own g c =
    let screens = c.args.engine.now.rows.screens in
    at_place screen_folder screens c.loop-place.place c.screen_at.result.now (screens_ascend c.args.engine.now.size c.args.engine.now.rows c.objects-objects.ensures.store) (rw c.objects-objects.ensures.screens at c.screen_at.ensures)

pub returns-in_err-write_screen-clause-writes : goal.returns-in_err-write_screen-clause-writes
returns-in_err-write_screen-clause-writes g c =
    let engine = c.args.engine.now in
    passed_on c.from_residual.result c.from_residual.ensures.1
    (told (all_screens engine.size engine.rows)
    (writes_one_front (screen_text engine.rows.nodes engine.rows.groups) engine.rows.screens c.loop-place.place c.screen_at.result.now (rw c.objects-objects.ensures.screens at c.screen_at.ensures) g.met.S.Sink.write_then c.loop-place.invariant.writes c.in_err-write_screen.ensures.writes))

pub returns-in_err-write_screen-clause-looks : goal.returns-in_err-write_screen-clause-looks
returns-in_err-write_screen-clause-looks g c =
    let nodes = c.args.engine.now.rows.nodes in
    let screens = c.args.engine.now.rows.screens in
    omega (arith, c.loop-place.invariant.looks, c.in_err-write_screen.ensures.looks, sum_more (λ screen. path_cost nodes screen.folder) screens c.loop-place.place c.screen_at.result.now (rw c.objects-objects.ensures.screens at c.screen_at.ensures), sum_by-take-le (λ (screen : ScreenRow). path_cost nodes screen.folder) screens (c.loop-place.place + 1))

pub returns-clause-writes : goal.returns-clause-writes
returns-clause-writes g c =
    let engine = c.args.engine.now in
    let same = ap (λ (rows : List ScreenRow). length rows) c.objects-objects.ensures.screens in
    told (all_screens engine.size engine.rows) (writes_all (screen_text engine.rows.nodes engine.rows.groups) engine.rows.screens c.loop-place.place (omega (arith, c.loop-place-test.false, c.screen_count-place-end.ensures, same)) c.loop-place.invariant.writes)

pub loop-place-preserved : goal.loop-place-preserved
loop-place-preserved g c =
    let engine = c.args.engine.now in
    let nodes = c.args.engine.now.rows.nodes in
    let screens = c.args.engine.now.rows.screens in
    record {
      writes = writes_one (screen_text nodes engine.rows.groups) screens c.loop-place.place c.screen_at.result.now (rw c.objects-objects.ensures.screens at c.screen_at.ensures) g.met.S.Sink.write_then c.loop-place.invariant.writes c.in_ok-write_screen.ensures.writes;
      looks = omega (arith, c.loop-place.invariant.looks, c.in_ok-write_screen.ensures.looks, sum_more (λ screen. path_cost nodes screen.folder) screens c.loop-place.place c.screen_at.result.now (rw c.objects-objects.ensures.screens at c.screen_at.ensures));
    }
