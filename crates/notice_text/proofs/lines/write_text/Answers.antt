use Rattle.std.proofs.Common.{◌++◌, ◌∷◌, [], refl}
use Rattle.line_parts.proofs.Sent.{cut_first, cut_second, passed_on, three_texts}
use Rattle.notice_text.specs.Expand.{expand, values_of}
use Rattle.notice_text.proofs.LineLaws.{text_line}
use Rattle.notice_text.proofs.lines.write_text.Goals as goal

pub returns-in_err-send_part : goal.returns-in_err-send_part
returns-in_err-send_part g c =
    let values = values_of c.args.facts.now in
    let text = c.args.text.now in
    record {
      writes = passed_on c.from_residual.result c.from_residual.ensures.1
          (cut_first (expand values text ++ 10 ∷ []) (text_line values text text refl) c.in_err-send_part.ensures.writes);
    }

pub returns-in_err-write_expanded : goal.returns-in_err-write_expanded
returns-in_err-write_expanded g c =
    let values = values_of c.args.facts.now in
    record {
      writes = passed_on c.from_residual-in_err-write_expanded.result c.from_residual-in_err-write_expanded.ensures.1
          (cut_second (10 ∷ []) g.met.S.Sink.write_then (text_line values c.args.text.now c.as_bytes.result.now c.as_bytes.ensures.value) c.in_ok-send_part.ensures.writes c.in_err-write_expanded.ensures.writes);
    }

pub returns : goal.returns
returns g c =
    let values = values_of c.args.facts.now in
    record {
      writes = three_texts g.met.S.Sink.write_then (text_line values c.args.text.now c.as_bytes.result.now c.as_bytes.ensures.value) c.in_ok-send_part.ensures.writes c.in_ok-write_expanded.ensures.writes c.send_part-2.ensures.writes;
    }
