use Rattle.std.proofs.Common.{◌+◌, ◌≤◌}
use Rattle.rescan.specs.Visits.{looks_left}
use Rattle.rescan.proofs.unvisited.FindLaws.{Finding, topped}
use Rattle.rescan.proofs.frontier.Frontier.find.Given as goal

abbrev pub invariant-loop-next : goal.invariant-loop-next
invariant-loop-next g l = record {
  finding : Finding l.tree l.self l.waiting l.found;
  looks : l.steps + looks_left l.tree.nodes (topped l.self l.waiting.members) ≤ l.fn.steps + looks_left l.tree.nodes l.self;
}

abbrev pub decreases-loop-next : goal.decreases-loop-next
decreases-loop-next g l = looks_left l.tree.nodes (topped l.self l.waiting.members)
