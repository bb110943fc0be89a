use Rattle.std.proofs.Common.{arith}
use Rattle.image_codec.proofs.LengthLaws.{template_long, text_long}
use Rattle.image_codec.proofs.lengths.template_len.Goals as goal

pub returns : goal.returns
returns c = omega (arith, template_long c.args.row.now, text_long c.args.row.now.name, c.len.ensures.exact, c.rows_len.ensures.exact)
