use Rattle.std.proofs.Common.{arith}
use Rattle.image_codec.proofs.LengthLaws.{threshold_long}
use Rattle.image_codec.proofs.lengths.ThresholdFieldMeasured.len.Goals as goal

pub returns-clause-exact : goal.returns-clause-exact
returns-clause-exact c = omega (arith, threshold_long c.args.value.now, c.rows_len.ensures.exact)
