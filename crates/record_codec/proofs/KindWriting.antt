-- What is written after a kind and its first value.
use Rattle.std.proofs.Common.{ℕ, List, ◌++◌, subst, append_assoc}
use Rattle.record_fields.specs.Writers.{Writes}
use Rattle.record_fields.proofs.WriterLaws.{writes_then}

pub kind_then : {o m n : List ℕ} {a b c : ℕ} (kind first : List ℕ) {rest : List ℕ} → Writes o a m b (kind ++ first) → Writes m b n c rest → Writes o a n c (kind ++ (first ++ rest))
kind_then {o = o} {n = n} {a = a} {c = c} kind first {rest = rest} p q = subst (Writes o a n c) (append_assoc kind first rest) (writes_then p q)
