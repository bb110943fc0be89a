use Rattle.std.proofs.Common.{arith}
use Rattle.image_codec.proofs.LengthLaws.{group_long, text_long}
use Rattle.image_codec.proofs.lengths.group_len.Goals as goal

pub returns : goal.returns
returns c =
    omega (arith, group_long c.args.row.now, text_long c.args.row.now.name, c.len.ensures.exact, c.rows_len-members.ensures.exact, c.rows_len-non_members.ensures.exact)
