use Rattle.std.proofs.Common.{◌≡◌, ◌+◌, ◌≤◌, ◌++◌, length, take}
use Rattle.std.specs.Str.{IsUtf8}
use Rattle.std.specs.Str.Iter.{chars_rest}
use Rattle.fsrm_model.specs.values.Limits.{longest_name}
use Rattle.fsrm_model.specs.values.Name.{folded}
use Rattle.name_patterns.proofs.folded.FoldedName.of.Given as goal

abbrev pub invariant-loop-character : goal.invariant-loop-character
invariant-loop-character l = record {
  text : IsUtf8 (chars_rest l.character-iterator);
  size : length l.characters ≡ longest_name;
  room : l.count + length (chars_rest l.character-iterator) ≤ longest_name;
  made : folded l.name ≡ take l.count l.characters ++ folded (chars_rest l.character-iterator);
}
