use Rattle.record_fields.proofs.FollowedLaws.{◌and◌, ◌also◌}
use Rattle.record_fields.proofs.laws.pairs.Goals as goal

pub returns-clause-exact : goal.returns-clause-exact
returns-clause-exact g c = λ f h. f and h

pub returns-clause-places : goal.returns-clause-places
returns-clause-places g c = λ f h. f also h
