use Rattle.record_fields.proofs.OptionalLaws.{optional_or_exact, optional_or_places}
use Rattle.record_fields.proofs.laws.optional_values.Goals as goal

pub returns-clause-exact : goal.returns-clause-exact
returns-clause-exact g c = optional_or_exact c.args.required g.F.Field.format

pub returns-clause-places : goal.returns-clause-places
returns-clause-places g c = optional_or_places c.args.required g.F.Field.format
