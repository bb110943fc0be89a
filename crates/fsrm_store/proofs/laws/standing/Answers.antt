use Rattle.fsrm_store.proofs.Standings.{kept_settled, ready_beside, standing_now, stands_alike, stands_beside, stands_kept}
use Rattle.fsrm_store.proofs.Told.{standing_told}
use Rattle.fsrm_store.proofs.laws.standing.Goals as goal

pub returns-clause-now : goal.returns-clause-now
returns-clause-now g c kept store disk s = standing_now s

pub returns-clause-alike : goal.returns-clause-alike
returns-clause-alike g c kept store after disk alike s = stands_alike store after alike s

pub returns-clause-told : goal.returns-clause-told
returns-clause-told g c kept store disk parts s told = standing_told parts s told

pub returns-clause-kept : goal.returns-clause-kept
returns-clause-kept g c kept store after disk k engine s = stands_kept store after k engine s

pub returns-clause-others : goal.returns-clause-others
returns-clause-others g c kept store old new keeps s = stands_beside keeps s

pub returns-clause-ready : goal.returns-clause-ready
returns-clause-ready g c journal old new keeps ready = ready_beside journal keeps ready

pub returns-clause-settled : goal.returns-clause-settled
returns-clause-settled g c kept store disk s none = kept_settled s none
