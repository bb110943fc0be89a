use Rattle.std.proofs.Common.{◌-◌, length}
use Rattle.command_words.specs.Numerals.{BeginsWithDigits}
use Rattle.command_words.proofs.values.leading_digits.Given as goal

abbrev pub invariant-loop-count : goal.invariant-loop-count
invariant-loop-count l = BeginsWithDigits l.text l.count l.number

abbrev pub decreases-loop-count : goal.decreases-loop-count
decreases-loop-count l = length l.text - l.count
