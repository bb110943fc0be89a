use Rattle.record_fields.proofs.StandingLaws.{tested_exact, tested_field_places}
use Rattle.record_fields.proofs.laws.tested_values.Goals as goal

pub returns-clause-exact : goal.returns-clause-exact
returns-clause-exact g c = tested_exact g.T.Tested.test g.T.Tested.format

pub returns-clause-field : goal.returns-clause-field
returns-clause-field g c = λ law is x legal passes. tested_field_places g.T.Tested.test g.T.Tested.format law is x legal passes
