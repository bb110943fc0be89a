use Rattle.std.proofs.Common.{◌≡◌, ◌+◌, length}
use Rattle.std.specs.List.{list_any}
use Rattle.fsrm_base.specs.Numbers.{is_in}
use Rattle.fsrm_model.specs.nodes.Tree.{chain, is_under}
use Rattle.fsrm_model.proofs.nodes.Climbs.{IsUp}
use Rattle.rescan.specs.Frontiers.{scanned, has_above}
use Rattle.rescan.proofs.frontier.Frontier.standing.Given as goal

-- no node that was passed is a top or the scanned folder
abbrev pub invariant-loop-at : goal.invariant-loop-at
invariant-loop-at g l = record {
  up : IsUp l.tree.nodes l.way;
  above : has_above l.tree.nodes l.self.tops l.node ≡ list_any (is_in l.self.tops) l.way;
  below : is_under l.tree.nodes (scanned l.self) l.node ≡ is_in l.way (scanned l.self);
  looks : l.steps + length l.way ≡ l.fn.steps + length (chain l.tree.nodes l.node);
}

abbrev pub decreases-loop-at : goal.decreases-loop-at
decreases-loop-at g l = length l.way
