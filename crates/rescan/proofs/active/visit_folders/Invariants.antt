use Rattle.rescan.proofs.queued.Visiting.{Made}
use Rattle.rescan.proofs.active.visit_folders.Given as goal

abbrev pub invariant-loop-visited : goal.invariant-loop-visited
invariant-loop-visited g l = Made l.tree l.fn.frontier l.frontier l.visited l.fn.steps l.steps
