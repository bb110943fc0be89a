use Rattle.std.proofs.Common.{sym, arith}
use Rattle.record_fields.specs.Formats.{number_spelled}
use Rattle.image_codec.proofs.LengthLaws.{number_long, none_long, some_long}
use Rattle.image_codec.proofs.lengths.optional_len_8.Goals as goal

pub returns-in-None-clause-exact : goal.returns-in-None-clause-exact
returns-in-None-clause-exact c = rw c.in-None.is (sym (none_long (number_spelled 8)))

pub returns-in-Some-clause-exact : goal.returns-in-Some-clause-exact
returns-in-Some-clause-exact c =
    rw c.in-Some.is (omega (arith, some_long (number_spelled 8) c.in-Some.field-0, number_long 8 c.in-Some.field-0))
