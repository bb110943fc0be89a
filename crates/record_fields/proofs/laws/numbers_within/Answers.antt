use Rattle.std.proofs.Common.{arith}
use Rattle.record_fields.proofs.NumberLaws.{width_8}
use Rattle.record_fields.proofs.StandingLaws.{within_places}
use Rattle.record_fields.proofs.laws.numbers_within.Goals as goal

pub returns : goal.returns
returns c = within_places 8 c.args.low c.args.high width_8 (omega (arith, c.ranges.high.fits)) c.requires
