use Rattle.std.proofs.Common.{refl}
use Rattle.reply_text.proofs.ScreenLines.{group_shown}
use Rattle.line_parts.proofs.Sent.{cut_first, cut_second, passed_on, three_texts}
use Rattle.reply_text.proofs.groups.write_group.Goals as goal

pub returns-in_err-write_word : goal.returns-in_err-write_word
returns-in_err-write_word g c =
    let group = c.args.group.now in
    record {
      writes = passed_on c.from_residual.result c.from_residual.ensures.1
          (cut_first _ (group_shown group c.as_str.result.now group.members group.non_members c.as_str.ensures refl refl) c.in_err-write_word.ensures.writes);
    }

pub returns-in_err-write_each_labelled : goal.returns-in_err-write_each_labelled
returns-in_err-write_each_labelled g c =
    let group = c.args.group.now in
    record {
      writes = passed_on c.from_residual-in_err-write_each_labelled.result c.from_residual-in_err-write_each_labelled.ensures.1
          (cut_second _ g.met.S.Sink.write_then (group_shown group c.as_str.result.now c.as_slice.result.now group.non_members c.as_str.ensures c.as_slice.ensures refl) c.in_ok-write_word.ensures.writes c.in_err-write_each_labelled.ensures.writes);
    }

pub returns : goal.returns
returns g c =
    let group = c.args.group.now in
    record {
      writes = three_texts g.met.S.Sink.write_then
          (group_shown group c.as_str.result.now c.as_slice.result.now c.as_slice-2.result.now c.as_str.ensures c.as_slice.ensures c.as_slice-2.ensures)
          c.in_ok-write_word.ensures.writes c.in_ok-write_each_labelled.ensures.writes c.write_each_labelled-2.ensures.writes;
    }
