use Rattle.std.proofs.Common.{arith}
use Rattle.image_codec.proofs.LengthLaws.{job_long, text_long}
use Rattle.image_codec.proofs.lengths.job_len.Goals as goal

pub returns : goal.returns
returns c =
    let row = c.args.row.now in
    omega (arith, job_long row, text_long row.name, text_long row.schedule, c.len.ensures.exact, c.len-2.ensures.exact, c.filter_len.ensures.exact, c.optional_len_8.ensures.exact)
