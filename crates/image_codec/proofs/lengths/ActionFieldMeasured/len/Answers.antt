use Rattle.std.proofs.Common.{arith}
use Rattle.image_codec.proofs.LengthLaws.{action_long, text_long}
use Rattle.image_codec.proofs.lengths.ActionFieldMeasured.len.Goals as goal

pub returns-clause-exact : goal.returns-clause-exact
returns-clause-exact c = omega (arith, action_long c.args.value.now, text_long c.args.value.now.text, c.len.ensures.exact, c.optional_len_8.ensures.exact)
