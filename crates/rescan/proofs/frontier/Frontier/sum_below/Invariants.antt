use Rattle.std.proofs.Common.{◌≡◌, ◌+◌, ◌*◌, ◌≤◌, length}
use Rattle.fsrm_model.specs.nodes.Tree.{under}
use Rattle.rescan.proofs.moved.Ahead.{ahead}
use Rattle.rescan.proofs.moved.Summing.{Summing}
use Rattle.rescan.proofs.frontier.Frontier.sum_below.Given as goal

abbrev pub invariant-loop-next : goal.invariant-loop-next
invariant-loop-next g l = record {
  sums : Summing l.tree.size l.tree.nodes l.folder l.self-inside.waiting.members l.sum;
  front : record { room = record { nodes = l.self-inside.tops.bound; cluster = l.self-inside.cluster }; folder = l.self-inside.folder; tops = l.self-inside.tops.members; sum = l.self-inside.sum } ≡ l.fn.self;
  room : l.self-inside.waiting.bound ≡ l.fn.self.room.nodes;
  looks : l.steps + ahead l.tree.nodes l.self-inside.waiting.members ≤ l.fn.steps + 3 * length (under l.tree.nodes l.folder);
}

abbrev pub decreases-loop-next : goal.decreases-loop-next
decreases-loop-next g l = ahead l.tree.nodes l.self-inside.waiting.members
