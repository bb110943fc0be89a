use Rattle.std.proofs.lemmas.Option.{slice_get-get_or}
use Rattle.fsrm_base.specs.Keyed.{has_row}
use Rattle.fsrm_model.specs.values.Patterns.{group_number}
use Rattle.reply_text.specs.Lines.{named_text}
use Rattle.reply_text.proofs.ActLines.{all_at}
use Rattle.line_parts.proofs.Each.{writes_one, writes_one_front}
use Rattle.reply_text.proofs.ScreenLines.{named_is}
use Rattle.line_parts.proofs.Sent.{passed_on, told}
use Rattle.reply_text.proofs.groups.write_names.Goals as goal

pub group-requires : goal.group-requires
group-requires g c =
    let numbers = c.args.numbers.now in
    let k = c.loop-number.number-index in
    all_at (λ n. has_row group_number n c.args.groups.now) numbers k _ c.requires (slice_get-get_or numbers k 0 c.loop-number-test.true)

pub returns-in_err-write_labelled : goal.returns-in_err-write_labelled
returns-in_err-write_labelled g c =
    let numbers = c.args.numbers.now in
    let k = c.loop-number.number-index in
    let its = named_is c.args.groups.now _ c.group.result.now c.group.ensures.group in
    record {
      writes = passed_on c.from_residual.result c.from_residual.ensures.1
          (writes_one_front (named_text c.args.groups.now) numbers k _ (slice_get-get_or numbers k 0 c.loop-number-test.true) g.met.S.Sink.write_then c.loop-number.invariant (told its c.in_err-write_labelled.ensures.writes));
    }

pub loop-number-preserved : goal.loop-number-preserved
loop-number-preserved g c =
    let numbers = c.args.numbers.now in
    let k = c.loop-number.number-index in
    let its = named_is c.args.groups.now _ c.group.result.now c.group.ensures.group in
    writes_one (named_text c.args.groups.now) numbers k _ (slice_get-get_or numbers k 0 c.loop-number-test.true) g.met.S.Sink.write_then c.loop-number.invariant (told its c.in_ok-write_labelled.ensures.writes)
