use Rattle.std.proofs.Common.{◌≡◌, ℕ, List, [], ◌++◌, length, MatchOption, Option, chars, sym, ◌∙◌, ap, subst}
use Rattle.std.proofs.Math.Utf8.{encode}
use Rattle.std.specs.Borrow.{Bor}
use Rattle.name_patterns.specs.Met.{EndsWith}
use Rattle.name_patterns.proofs.TailLaws.{chars_before_char, no_chars}
use Rattle.name_patterns.proofs.matching.last.Goals as goal

pub returns-in_err-character : goal.returns-in_err-character
returns-in_err-character c =
    let text = c.args.text.now in
    subst (λ (r : Option (ℕ × Bor (List ℕ))). MatchOption r (chars text ≡ []) (λ cut. EndsWith text cut.0 cut.1.now)) (sym c.from_residual.ensures)
    (no_chars text (ap length (sym c.chars-characters.ensures.rest) ∙ c.in_err-character.ensures.steps.0))

pub returns : goal.returns
returns c =
    let character = c.in_ok-character.character in
    record {
      is_text = c.as_str.utf8;
      characters =
          chars_before_char c.args.text.now c.as_str.result.now character c.utf8.text c.as_str.utf8
          (sym c.chars-characters.ensures.rest
          ∙ (c.in_ok-character.ensures.steps ∙ ap (λ (bs : List ℕ). bs ++ encode character) (sym c.as_str.ensures)));
    }
