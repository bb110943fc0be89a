use Rattle.fsrm_store.proofs.KeepsLaws.{state_valid, old_state}
use Rattle.fsrm_store.proofs.NoStates.{none_shut, shut_none}
use Rattle.fsrm_store.proofs.StateLaws.{told_holds, holds_told, one_state}
use Rattle.fsrm_store.proofs.laws.states.Goals as goal

pub returns-clause-state : goal.returns-clause-state
returns-clause-state c = λ K R parts. (told_holds K R parts, holds_told K R parts)

pub returns-clause-one : goal.returns-clause-one
returns-clause-one c = one_state

pub returns-clause-none : goal.returns-clause-none
returns-clause-none c = λ parts. (none_shut parts, shut_none parts)

pub returns-clause-valid : goal.returns-clause-valid
returns-clause-valid c = state_valid

pub returns-clause-old : goal.returns-clause-old
returns-clause-old c = old_state
