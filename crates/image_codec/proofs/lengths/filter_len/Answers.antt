use Rattle.std.proofs.Common.{arith}
use Rattle.image_codec.proofs.LengthLaws.{filter_long}
use Rattle.image_codec.proofs.lengths.filter_len.Goals as goal

pub returns-clause-exact : goal.returns-clause-exact
returns-clause-exact c =
    omega (arith, filter_long c.args.filter.now, c.optional_len_4.ensures.exact, c.optional_len_8.ensures.exact, c.optional_len_4-2.ensures.exact, c.optional_len_4-3.ensures.exact, c.pattern_len.ensures.exact)
