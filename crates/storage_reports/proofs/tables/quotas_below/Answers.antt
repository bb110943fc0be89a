use Rattle.std.proofs.Common.{arith}
use Rattle.fsrm_model.specs.nodes.Tree.{is_under}
use Rattle.fsrm_model.proofs.valid.ValidLaws.{folder_has}
use Rattle.storage_reports.proofs.FileGroups.{part_count}
use Rattle.storage_reports.proofs.tables.quotas_below.Goals as goal

pub marked_below-requires-clause-there : goal.marked_below-requires-clause-there
marked_below-requires-clause-there g c = folder_has c.args.tree.now.nodes c.args.ask.now.scope c.requires.folder

pub returns-in_err-marks-clause-looks : goal.returns-in_err-marks-clause-looks
returns-in_err-marks-clause-looks g c =
    let nodes = c.args.tree.now.nodes in
    omega (arith, c.marked_below.ensures.looks, part_count (λ node. is_under nodes c.args.ask.now.scope node.number) nodes)

pub returns-clause-looks : goal.returns-clause-looks
returns-clause-looks g c =
    let nodes = c.args.tree.now.nodes in
    omega (arith, c.marked_below.ensures.looks, part_count (λ node. is_under nodes c.args.ask.now.scope node.number) nodes)
