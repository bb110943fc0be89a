use Rattle.fsrm_model.proofs.commands.EachCommand.{step_valid}
use Rattle.fsrm_model.proofs.valid.ValidTests.{valid_by_test, test_by_valid, quotas_by_test, test_by_quotas, tables_by_test, test_by_tables, queue_by_test, test_by_queue, left_by_test, test_by_left, new_valid}
use Rattle.fsrm_model.proofs.valid.ValidVolume.{volume_of_tree, tree_of_volume}
use Rattle.fsrm_model.proofs.laws.valid.Goals as goal

pub returns-clause-whole : goal.returns-clause-whole
returns-clause-whole c = λ K R. (valid_by_test K R, test_by_valid K R)

pub returns-clause-nodes : goal.returns-clause-nodes
returns-clause-nodes c = λ K nodes. (volume_of_tree K nodes, tree_of_volume K nodes)

pub returns-clause-quotas : goal.returns-clause-quotas
returns-clause-quotas c = λ nodes quotas. (quotas_by_test nodes quotas, test_by_quotas nodes quotas)

pub returns-clause-tables : goal.returns-clause-tables
returns-clause-tables c = λ R. (tables_by_test R, test_by_tables R)

pub returns-clause-queue : goal.returns-clause-queue
returns-clause-queue c = λ quotas queue asc. (queue_by_test quotas queue, test_by_queue quotas queue asc)

pub returns-clause-unvisited : goal.returns-clause-unvisited
returns-clause-unvisited c = λ nodes scanned unvisited asc. (left_by_test nodes scanned unvisited, test_by_left nodes scanned unvisited asc)

pub returns-clause-kept : goal.returns-clause-kept
returns-clause-kept c = step_valid

pub returns-clause-new : goal.returns-clause-new
returns-clause-new c = new_valid
