use Rattle.std.proofs.Common.{◌≡◌, length}
use Rattle.fsrm_objects.specs.Tables.{without_jobs}
use Rattle.fsrm_objects.proofs.objects.Objects.drop_jobs.Given as goal

-- what is to be left stays the same
abbrev pub invariant-loop-number : goal.invariant-loop-number
invariant-loop-number l = without_jobs l.self l.folder ≡ without_jobs l.fn.self l.folder

abbrev pub decreases-loop-number : goal.decreases-loop-number
decreases-loop-number l = length l.self.jobs
