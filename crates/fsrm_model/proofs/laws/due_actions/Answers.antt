use Rattle.fsrm_model.proofs.commands.AcceptedEnds.{step_ended, unlasting_none}
use Rattle.fsrm_model.proofs.thresholds.ActLaws.{order_due, order_refused, due_there, refused_there, none_due}
use Rattle.fsrm_model.proofs.thresholds.RaisesLaws.{raised_parts, raised_test, refused_parts, refused_test, screen_parts, screen_test}
use Rattle.fsrm_model.proofs.thresholds.ReachedLaws.{reached_parts, reached_test, none_crossed}
use Rattle.fsrm_model.proofs.laws.due_actions.Goals as goal

pub returns-clause-reached : goal.returns-clause-reached
returns-clause-reached c = λ K R folder percent. (reached_parts K R folder percent, reached_test K R folder percent)

pub returns-clause-due : goal.returns-clause-due
returns-clause-due c = λ K before after moment folder percent place a. (raised_parts K before after moment folder percent place a, raised_test K before after moment folder percent place a)

pub returns-clause-refused : goal.returns-clause-refused
returns-clause-refused c = λ K R nodes moment folder percent place a. (refused_parts K R nodes moment folder percent place a, refused_test K R nodes moment folder percent place a)

pub returns-clause-order : goal.returns-clause-order
returns-clause-order c = order_due

pub returns-clause-refused_order : goal.returns-clause-refused_order
returns-clause-refused_order c = order_refused

pub returns-clause-there : goal.returns-clause-there
returns-clause-there c = due_there

pub returns-clause-refused_there : goal.returns-clause-refused_there
returns-clause-refused_there c = refused_there

pub returns-clause-none : goal.returns-clause-none
returns-clause-none c = none_due

pub returns-clause-same : goal.returns-clause-same
returns-clause-same c = λ K R moment. none_due K R R moment (none_crossed K R)

pub returns-clause-screen : goal.returns-clause-screen
returns-clause-screen c = λ run_limit moment screen subject place. (screen_parts run_limit moment screen subject place, screen_test run_limit moment screen subject place)

pub returns-clause-accepted : goal.returns-clause-accepted
returns-clause-accepted c = λ K R command told h. (step_ended K R command told h).acts_are

pub returns-clause-after : goal.returns-clause-after
returns-clause-after c = λ K R command folder percent told h. (step_ended K R command told h).reached_are folder percent

pub returns-clause-passing : goal.returns-clause-passing
returns-clause-passing c = unlasting_none
