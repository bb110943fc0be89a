use Rattle.fsrm_model.proofs.templates.GetsLaws.{gets}
use Rattle.fsrm_model.proofs.templates.MatchLaws.{matching, reached_is, updated_match, updated_stays, source_gone}
use Rattle.fsrm_model.proofs.templates.ReceivesLaws.{modified, made_gives, moved_gives, added_gives}
use Rattle.fsrm_model.proofs.laws.templates.Goals as goal

pub returns-clause-matches : goal.returns-clause-matches
returns-clause-matches c = matching

pub returns-clause-reached : goal.returns-clause-reached
returns-clause-reached c = reached_is

pub returns-clause-updated : goal.returns-clause-updated
returns-clause-updated c = updated_match

pub returns-clause-gone : goal.returns-clause-gone
returns-clause-gone c = source_gone

pub returns-clause-gets : goal.returns-clause-gets
returns-clause-gets c = gets

pub returns-clause-spared : goal.returns-clause-spared
returns-clause-spared c = updated_stays

pub returns-clause-modified : goal.returns-clause-modified
returns-clause-modified c = modified

pub returns-clause-made : goal.returns-clause-made
returns-clause-made c = made_gives

pub returns-clause-moved : goal.returns-clause-moved
returns-clause-moved c = moved_gives

pub returns-clause-added : goal.returns-clause-added
returns-clause-added c = added_gives
