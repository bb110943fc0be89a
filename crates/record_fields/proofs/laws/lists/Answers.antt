use Rattle.std.proofs.Common.{arith}
use Rattle.record_fields.specs.Formats.{number, number_within}
use Rattle.record_fields.proofs.NumberLaws.{number_exact, number_places, width_2, width_4}
use Rattle.record_fields.proofs.StandingLaws.{within_exact, within_places}
use Rattle.record_fields.proofs.ListLaws.{listed_exact, listed_places}
use Rattle.record_fields.proofs.laws.lists.Goals as goal

pub returns-clause-short : goal.returns-clause-short
returns-clause-short g c = listed_exact (number_within 2 c.args.least c.args.most) g.F.Field.format (within_exact 2 c.args.least c.args.most width_2)

pub returns-clause-long : goal.returns-clause-long
returns-clause-long g c = listed_exact (number 4) g.F.Field.format (number_exact 4 width_4)

pub returns-clause-short_places : goal.returns-clause-short_places
returns-clause-short_places g c =
    listed_places (number_within 2 c.args.least c.args.most) g.F.Field.format (within_places 2 c.args.least c.args.most width_2 (omega (arith, c.ranges.most.fits)) c.requires)

pub returns-clause-long_places : goal.returns-clause-long_places
returns-clause-long_places g c = listed_places (number 4) g.F.Field.format (number_places 4 width_4)
