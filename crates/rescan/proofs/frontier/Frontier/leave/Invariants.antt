use Rattle.std.proofs.Common.{◌≡◌, ◌+◌, ◌*◌, ◌≤◌, length}
use Rattle.fsrm_model.specs.nodes.Tree.{under}
use Rattle.rescan.proofs.moved.Ahead.{ahead}
use Rattle.rescan.proofs.moved.Leaving.{Leaving}
use Rattle.rescan.proofs.frontier.Frontier.leave.Given as goal

abbrev pub invariant-loop-next : goal.invariant-loop-next
invariant-loop-next g l = record {
  walk : Leaving l.tree.size l.tree.nodes l.fn.self l.node l.self-inside.tops.members l.self-inside.waiting.members l.self-inside.sum;
  folder : l.self-inside.folder ≡ l.fn.self.folder;
  bound : l.self-inside.tops.bound ≡ l.fn.self.room.nodes;
  cluster : l.self-inside.cluster ≡ l.fn.self.room.cluster;
  room : l.self-inside.waiting.bound ≡ l.fn.self.room.nodes;
  looks : l.steps + ahead l.tree.nodes l.self-inside.waiting.members ≤ l.fn.steps + 3 * length (under l.tree.nodes l.node);
}

abbrev pub decreases-loop-next : goal.decreases-loop-next
decreases-loop-next g l = ahead l.tree.nodes l.self-inside.waiting.members
