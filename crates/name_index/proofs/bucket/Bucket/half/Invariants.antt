use Rattle.name_index.proofs.HalfLaws.{IsHalfOf}
use Rattle.name_index.proofs.bucket.Bucket.half.Given as goal

abbrev pub invariant-loop-place : goal.invariant-loop-place
invariant-loop-place l = IsHalfOf l.lead l.count l.upper l.place l.self l.half
