use Rattle.std.proofs.Common.{refl}
use Rattle.line_parts.proofs.Sent.{cut_first, passed_on, two_texts}
use Rattle.notice_text.specs.Expand.{values_of}
use Rattle.notice_text.specs.NoticeText.{expanded_line}
use Rattle.notice_text.proofs.lines.write_lines.Goals as goal

pub returns-in_err-write_head : goal.returns-in_err-write_head
returns-in_err-write_head g c =
    record {
      writes = passed_on c.from_residual.result c.from_residual.ensures.1 (cut_first (expanded_line (values_of c.args.facts.now) c.args.text.now) refl c.in_err-write_head.ensures.writes);
    }

pub returns : goal.returns
returns g c = record { writes = two_texts g.met.S.Sink.write_then refl c.in_ok-write_head.ensures.writes c.write_text.ensures.writes }
