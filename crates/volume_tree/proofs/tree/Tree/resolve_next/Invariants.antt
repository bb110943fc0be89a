use Rattle.std.proofs.Common.{◌≡◌, ◌+◌, ◌*◌, ◌≤◌, drop, take}
use Rattle.fsrm_model.specs.meaning.PathNames.{left}
use Rattle.fsrm_model.proofs.nodes.Walks.{walk}
use Rattle.volume_tree.proofs.tree.Tree.resolve_next.Given as goal

abbrev pub invariant-loop-place : goal.invariant-loop-place
invariant-loop-place g l = record {
  way : walk l.self.nodes l.at (drop l.place (take l.count (left l.fn.names))) ≡ walk l.self.nodes 0 (take l.count (left l.fn.names));
  rest : left l.names ≡ drop l.place (left l.fn.names);
  looks : l.steps ≤ l.fn.steps + (22 * l.place + 1);
  each : l.fn.steps + (l.place + 1) ≤ l.steps;
}
