use Rattle.std.specs.Str.Iter.{chars_rest}
use Rattle.name_index.proofs.HashLaws.{AreFolded}
use Rattle.name_index.proofs.hash.fold_into.Given as goal

abbrev pub invariant-loop-count : goal.invariant-loop-count
invariant-loop-count l = AreFolded l.name l.count l.bytes (chars_rest l.characters)
