use Rattle.std.proofs.Common.{arith}
use Rattle.fsrm_model.specs.declared.row.NodeRow.{NodeRow}
use Rattle.fsrm_model.specs.nodes.Tree.{is_under}
use Rattle.fsrm_model.proofs.valid.QuotasKept.{filter_few}
use Rattle.fsrm_parts.proofs.sums.quota_sums.Goals as goal

pub returns-in_err-sum_all-clause-looks : goal.returns-in_err-sum_all-clause-looks
returns-in_err-sum_all-clause-looks g c =
    omega (arith, c.sum_all.ensures.looks, filter_few (λ (node : NodeRow). is_under c.args.tree.now.nodes 0 node.number) c.args.tree.now.nodes)

pub returns-clause-looks : goal.returns-clause-looks
returns-clause-looks g c =
    omega (arith, c.sum_all.ensures.looks, filter_few (λ (node : NodeRow). is_under c.args.tree.now.nodes 0 node.number) c.args.tree.now.nodes)
