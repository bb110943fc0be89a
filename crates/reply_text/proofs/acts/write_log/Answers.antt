use Rattle.reply_text.specs.Lines.{entry_text}
use Rattle.reply_text.proofs.ActLines.{entry_in_time}
use Rattle.line_parts.proofs.Each.{writes_one, writes_one_front}
use Rattle.line_parts.proofs.Sent.{passed_on}
use Rattle.reply_text.proofs.acts.write_log.Goals as goal

pub write_entry-requires : goal.write_entry-requires
write_entry-requires g c = entry_in_time c.args.marks.now.log c.loop-place.place c.log_at.result c.requires c.log_at.ensures

pub returns-in_err-write_entry : goal.returns-in_err-write_entry
returns-in_err-write_entry g c =
    let log = c.args.marks.now.log in
    record {
      writes = passed_on c.from_residual.result c.from_residual.ensures.1
          (writes_one_front entry_text log c.loop-place.place c.log_at.result c.log_at.ensures g.met.S.Sink.write_then c.loop-place.invariant c.in_err-write_entry.ensures.writes);
    }

pub loop-place-preserved : goal.loop-place-preserved
loop-place-preserved g c =
    let log = c.args.marks.now.log in
    writes_one entry_text log c.loop-place.place c.log_at.result c.log_at.ensures g.met.S.Sink.write_then c.loop-place.invariant c.in_ok-write_entry.ensures.writes
