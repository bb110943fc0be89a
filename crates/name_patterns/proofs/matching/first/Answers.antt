use Rattle.std.proofs.Common.{◌∷◌, ◌∙◌, sym, ap}
use Rattle.std.specs.Prelude.{chars}
use Rattle.std.proofs.lemmas.Str.{chars_past_char}
use Rattle.name_patterns.proofs.matching.first.Goals as goal

pub returns : goal.returns
returns c =
    let character = c.in_ok-character.character in
    record {
      is_text = c.as_str.utf8;
      characters =
          chars_past_char _ _ character c.utf8.text (sym c.chars-characters.ensures.rest ∙ c.in_ok-character.ensures.steps.0)
          ∙ ap (λ rest. character ∷ chars rest) (sym c.as_str.ensures);
    }
