use Rattle.name_index.proofs.HashLaws.{AreStirred}
use Rattle.name_index.proofs.hash.hash_bytes.Given as goal

abbrev pub invariant-loop-word : goal.invariant-loop-word
invariant-loop-word l = AreStirred l.bytes l.word-index l.hash l.ascii
