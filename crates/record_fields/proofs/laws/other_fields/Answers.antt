use Rattle.record_fields.proofs.TextLaws.{text_field, text_places}
use Rattle.record_fields.proofs.FollowedLaws.{nothing_places}
use Rattle.record_fields.proofs.StandingLaws.{truth_places}
use Rattle.record_fields.proofs.laws.other_fields.Goals as goal

pub returns-clause-truth : goal.returns-clause-truth
returns-clause-truth c = truth_places

pub returns-clause-text : goal.returns-clause-text
returns-clause-text c = text_places

pub returns-clause-nothing : goal.returns-clause-nothing
returns-clause-nothing c = nothing_places

pub returns-clause-text_field : goal.returns-clause-text_field
returns-clause-text_field c = text_field
