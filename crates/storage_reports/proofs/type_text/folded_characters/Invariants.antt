use Rattle.std.proofs.Common.{◌≡◌, ◌++◌, chars}
use Rattle.std.specs.Str.{IsUtf8}
use Rattle.std.specs.Str.Iter.{chars_rest}
use Rattle.std.specs.String.{string_bytes}
use Rattle.fsrm_model.specs.reports.Reports.{folded_text}
use Rattle.storage_reports.proofs.type_text.folded_characters.Given as goal

abbrev pub invariant-loop-character : goal.invariant-loop-character
invariant-loop-character l = record {
  text : IsUtf8 (chars_rest l.character-iterator);
  made : folded_text (chars l.name) ≡ string_bytes l.text ++ folded_text (chars (chars_rest l.character-iterator));
}
