use Rattle.fsrm_store.proofs.KeepsLaws.{written_holds, crash_leaves, keeps_settled, change_leaves, opened_keeps, entry_writable, command_keeps, flush_keeps, image_keeps, new_keeps}
use Rattle.fsrm_store.proofs.laws.calls.Goals as goal

pub returns-clause-holds : goal.returns-clause-holds
returns-clause-holds c = written_holds

pub returns-clause-crash : goal.returns-clause-crash
returns-clause-crash c = crash_leaves

pub returns-clause-settled : goal.returns-clause-settled
returns-clause-settled c = keeps_settled

pub returns-clause-change : goal.returns-clause-change
returns-clause-change c = change_leaves

pub returns-clause-opened : goal.returns-clause-opened
returns-clause-opened c = opened_keeps

pub returns-clause-writable : goal.returns-clause-writable
returns-clause-writable c = entry_writable

pub returns-clause-command : goal.returns-clause-command
returns-clause-command c = command_keeps

pub returns-clause-flush : goal.returns-clause-flush
returns-clause-flush c = flush_keeps

pub returns-clause-checkpoint : goal.returns-clause-checkpoint
returns-clause-checkpoint c = image_keeps

pub returns-clause-new : goal.returns-clause-new
returns-clause-new c = new_keeps
