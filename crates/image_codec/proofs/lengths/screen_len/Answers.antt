use Rattle.std.proofs.Common.{arith}
use Rattle.image_codec.proofs.LengthLaws.{screen_long}
use Rattle.image_codec.proofs.lengths.screen_len.Goals as goal

pub returns : goal.returns
returns c = omega (arith, screen_long c.args.row.now, c.rows_len-groups.ensures.exact, c.rows_len-actions.ensures.exact)
