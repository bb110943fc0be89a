use Rattle.fsrm_model.proofs.thresholds.ThresholdLaws.{changed_ascending, changed_there, changed_actions, changed_kept}
use Rattle.fsrm_model.proofs.laws.thresholds.Goals as goal

pub returns-clause-ascending : goal.returns-clause-ascending
returns-clause-ascending c = changed_ascending

pub returns-clause-there : goal.returns-clause-there
returns-clause-there c = changed_there

pub returns-clause-actions : goal.returns-clause-actions
returns-clause-actions c = changed_actions

pub returns-clause-kept : goal.returns-clause-kept
returns-clause-kept c = changed_kept
