use Rattle.fsrm_model.proofs.commands.EachCommand.{step_acts}
use Rattle.fsrm_model.proofs.laws.acts.Goals as goal

pub returns-clause-first : goal.returns-clause-first
returns-clause-first c = λ K R command store legal. (step_acts K R command store legal).first

pub returns-clause-places : goal.returns-clause-places
returns-clause-places c = λ K R command store legal. (step_acts K R command store legal).places

pub returns-clause-order : goal.returns-clause-order
returns-clause-order c = λ K R command store legal. (step_acts K R command store legal).in_order

pub returns-clause-there : goal.returns-clause-there
returns-clause-there c = λ K R command store legal. (step_acts K R command store legal).there
