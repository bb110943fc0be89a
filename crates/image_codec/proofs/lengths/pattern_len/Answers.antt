use Rattle.std.proofs.Common.{sym, arith}
use Rattle.record_fields.specs.Formats.{text_spelled}
use Rattle.image_codec.proofs.LengthLaws.{none_long, some_long}
use Rattle.image_codec.proofs.lengths.pattern_len.Goals as goal

pub returns-in-None-clause-exact : goal.returns-in-None-clause-exact
returns-in-None-clause-exact c = rw c.in-None.is (sym (none_long text_spelled))

pub returns-in-Some-clause-exact : goal.returns-in-Some-clause-exact
returns-in-Some-clause-exact c = rw c.in-Some.is (omega (arith, some_long text_spelled c.in-Some.text, c.len.ensures.exact))
