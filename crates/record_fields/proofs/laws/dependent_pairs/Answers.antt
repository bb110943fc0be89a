use Rattle.record_fields.proofs.FollowedLaws.{followed_exact, followed_places}
use Rattle.record_fields.proofs.laws.dependent_pairs.Goals as goal

pub returns-clause-exact : goal.returns-clause-exact
returns-clause-exact g c = followed_exact g.D.Dependent.first g.D.Dependent.second

pub returns-clause-places : goal.returns-clause-places
returns-clause-places g c = followed_places g.D.Dependent.first g.D.Dependent.second
