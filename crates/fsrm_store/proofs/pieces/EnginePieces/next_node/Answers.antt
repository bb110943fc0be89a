use Rattle.std.proofs.Common.{◌≡◌, ◌+◌, ◌∷◌, true, List, sym, subst, arith}
use Rattle.fsrm_base.specs.Keyed.{is_ascending}
use Rattle.fsrm_model.specs.declared.row.NodeRow.{NodeRow}
use Rattle.fsrm_model.specs.nodes.Tree.{number}
use Rattle.image_codec.specs.Pieces.{lent}
use Rattle.fsrm_store.specs.EnginePieces.{rows_from}
use Rattle.fsrm_store.proofs.EnginePieceLaws.{node_looks, node_more}
use Rattle.fsrm_store.proofs.pieces.EnginePieces.next_node.Goals as goal

pub returns-clause-row : goal.returns-clause-row
returns-clause-row g c =
    let p = c.args.self.now in
    node_more p.section p.engine.now.rows c.tree-tree.result.now.nodes p.next c.in-Some.number (lent c.node_at.result) c.requires c.tree-tree.ensures.nodes (subst (λ (ns : List NodeRow). is_ascending number ns ≡ true) (sym c.tree-tree.ensures.nodes) c.tree-tree.ensures.volume.ascending) c.in-Some.ensures.first c.node_at.ensures.row

pub returns-clause-looks : goal.returns-clause-looks
returns-clause-looks g c =
    let p = c.args.self.now in
    let n = c.in-Some.number in
    let R = p.engine.now.rows in
    let more : rows_from p.section p.next R ≡ lent c.node_at.result ∷ rows_from p.section (n + 1) R =
    node_more p.section R c.tree-tree.result.now.nodes p.next n (lent c.node_at.result) c.requires c.tree-tree.ensures.nodes (subst (λ (ns : List NodeRow). is_ascending number ns ≡ true) (sym c.tree-tree.ensures.nodes) c.tree-tree.ensures.volume.ascending) c.in-Some.ensures.first c.node_at.ensures.row in
    omega (arith, c.node_at.ensures.count, node_looks p.section R p.next n (lent c.node_at.result) c.requires more)
