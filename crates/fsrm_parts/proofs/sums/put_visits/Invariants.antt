use Rattle.std.proofs.Common.{◌≡◌, ◌++◌, take}
use Rattle.fsrm_parts.specs.Tasks.{visits_of}
use Rattle.fsrm_parts.proofs.sums.put_visits.Given as goal

abbrev pub invariant-loop-folder : goal.invariant-loop-folder
invariant-loop-folder l = l.tasks.items ≡ l.fn.tasks.items ++ visits_of (take l.folder-index l.folder-items)
