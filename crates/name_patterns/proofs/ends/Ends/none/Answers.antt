use Rattle.std.proofs.Common.{◌%◌, refl}
use Rattle.std.proofs.lemmas.Nat.Bits.{bit_at-zero}
use Rattle.name_patterns.proofs.ends.Ends.none.Goals as goal

pub returns : goal.returns
returns c = λ character. rw (bit_at-zero (character % 128)) refl
