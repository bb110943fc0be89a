use Rattle.std.proofs.Common.{refl}
use Rattle.std.specs.Prelude.{map, ◌++◌}
use Rattle.fsrm_model.specs.objects.Runs.{entry_of}
use Rattle.fsrm_model.proofs.thresholds.RunLaws.{action_run, reached_ran, few_entries, short_log, none_ran}
use Rattle.fsrm_model.proofs.thresholds.SettleLaws.{own_runs}
use Rattle.fsrm_model.proofs.laws.runs.Goals as goal

pub returns-clause-actions : goal.returns-clause-actions
returns-clause-actions c = action_run

pub returns-clause-own : goal.returns-clause-own
returns-clause-own c = own_runs

pub returns-clause-again : goal.returns-clause-again
returns-clause-again c = λ run_limit moment later action. refl

pub returns-clause-reached : goal.returns-clause-reached
returns-clause-reached c = reached_ran

pub returns-clause-few : goal.returns-clause-few
returns-clause-few c = λ moment acts R. few_entries (R.acts ++ map (entry_of moment) acts)

pub returns-clause-short : goal.returns-clause-short
returns-clause-short c = short_log

pub returns-clause-none : goal.returns-clause-none
returns-clause-none c = none_ran
