use Rattle.std.proofs.Common.{◌≡◌, true, take, min}
use Rattle.std.specs.Char.{is_ascii_digit}
use Rattle.std.specs.List.{list_all}
use Rattle.std.specs.Str.Parse.{digits_value}
use Rattle.command_words.specs.Numerals.{greatest_number}
use Rattle.command_words.proofs.values.number_from_digits.Given as goal

abbrev pub invariant-loop-byte : goal.invariant-loop-byte
invariant-loop-byte l = record {
  digits : list_all is_ascii_digit (take l.byte-index l.text) ≡ true;
  value : l.number ≡ min (digits_value 10 (take l.byte-index l.text)) greatest_number;
}
