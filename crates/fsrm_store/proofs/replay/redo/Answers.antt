use Rattle.std.proofs.Common.{◌∙◌}
use Rattle.fsrm_store.proofs.QuietCalls.{still_ok}
use Rattle.fsrm_store.proofs.replay.redo.Goals as goal

pub returns-clause-size : goal.returns-clause-size
returns-clause-size g c = still_ok c.take_again-done.result c.take_again-done.ensures.size (λ is. c.let_go.ensures.size ∙ is)

pub returns-clause-rows : goal.returns-clause-rows
returns-clause-rows g c = still_ok c.take_again-done.result c.take_again-done.ensures.rows (λ is. c.let_go.ensures.rows ∙ is)
