use Rattle.std.proofs.Common.{arith, ap, length}
use Rattle.image_codec.proofs.LengthLaws.{text_long}
use Rattle.image_codec.proofs.lengths.TextFieldMeasured.len.Goals as goal

pub returns-clause-exact : goal.returns-clause-exact
returns-clause-exact c = omega (arith, text_long c.args.value.now, ap length c.as_str.ensures)
