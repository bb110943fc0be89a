use Rattle.std.proofs.Common.{arith}
use Rattle.fsrm_model.specs.store.Lasting.{flagged_quota}
use Rattle.image_codec.proofs.LengthLaws.{quota_long}
use Rattle.image_codec.proofs.lengths.quota_len.Goals as goal

pub returns : goal.returns
returns c = omega (arith, quota_long (flagged_quota c.args.row.now), c.rows_len.ensures.exact, c.optional_len_4.ensures.exact)
