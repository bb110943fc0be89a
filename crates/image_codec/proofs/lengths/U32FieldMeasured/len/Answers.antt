use Rattle.std.proofs.Common.{sym}
use Rattle.image_codec.proofs.LengthLaws.{number_long}
use Rattle.image_codec.proofs.lengths.U32FieldMeasured.len.Goals as goal

pub returns-clause-exact : goal.returns-clause-exact
returns-clause-exact c = sym (number_long 4 c.args._value.now)
