use Rattle.fsrm_outside.proofs.Crashes.{Counted}
use Rattle.fsrm_outside.proofs.crash.count_synced.Given as goal

abbrev pub invariant-loop-place : goal.invariant-loop-place
invariant-loop-place l = Counted l.calls l.count l.place
