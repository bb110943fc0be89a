use Rattle.std.proofs.Common.{sym, ◌∙◌}
use Rattle.fsrm_base.specs.Keyed.{has_row}
use Rattle.fsrm_model.specs.nodes.Tree.{number, is_folder}
use Rattle.fsrm_base.proofs.TestLaws.{clash, not_true}
use Rattle.fsrm_model.proofs.valid.ValidLaws.{folder_has}
use Rattle.vectors.proofs.trees.is_folder.Goals as goal

pub returns-else-live : goal.returns-else-live
returns-else-live g c =
    let nodes = c.args.tree.now.nodes in
    let lacks = sym c.live.ensures ∙ c.if-live.false in
    c.if-live.false ∙ sym (not_true (is_folder nodes c.args.node) (λ t. clash (has_row number c.args.node nodes) (folder_has nodes c.args.node t) lacks))
