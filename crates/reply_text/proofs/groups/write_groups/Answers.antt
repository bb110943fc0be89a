use Rattle.std.proofs.Common.{List, length, refl, ap, arith}
use Rattle.fsrm_model.specs.declared.row.GroupRow.{GroupRow}
use Rattle.reply_text.specs.Lines.{group_text}
use Rattle.line_parts.proofs.Each.{writes_all, writes_one, writes_one_front}
use Rattle.reply_text.proofs.ScreenLines.{all_groups}
use Rattle.line_parts.proofs.Sent.{passed_on, told}
use Rattle.reply_text.proofs.groups.write_groups.Goals as goal

pub returns-in_err-write_group : goal.returns-in_err-write_group
returns-in_err-write_group g c =
    let e = c.args.engine.now in
    record {
      writes = passed_on c.from_residual.result c.from_residual.ensures.1
          (told (all_groups e.size e.rows e.rows.groups refl) (writes_one_front group_text e.rows.groups c.loop-place.place c.at.result.now (rw c.groups-groups.ensures.groups at c.at.ensures) g.met.S.Sink.write_then c.loop-place.invariant c.in_err-write_group.ensures.writes));
    }

pub returns : goal.returns
returns g c =
    let e = c.args.engine.now in
    let same = ap (λ (rows : List GroupRow). length rows) c.groups-groups.ensures.groups in
    record {
      writes = told (all_groups e.size e.rows e.rows.groups refl) (writes_all group_text e.rows.groups c.loop-place.place (omega (arith, c.loop-place-test.false, c.count-place-end.ensures, same)) c.loop-place.invariant);
    }

pub loop-place-preserved : goal.loop-place-preserved
loop-place-preserved g c =
    let e = c.args.engine.now in
    writes_one group_text e.rows.groups c.loop-place.place c.at.result.now (rw c.groups-groups.ensures.groups at c.at.ensures) g.met.S.Sink.write_then c.loop-place.invariant c.in_ok-write_group.ensures.writes
