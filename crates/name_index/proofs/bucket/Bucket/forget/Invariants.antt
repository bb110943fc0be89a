use Rattle.name_index.proofs.ClearLaws.{IsCleared}
use Rattle.name_index.proofs.bucket.Bucket.forget.Given as goal

abbrev pub invariant-loop-place : goal.invariant-loop-place
invariant-loop-place l = IsCleared l.initial.self l.entry l.self
