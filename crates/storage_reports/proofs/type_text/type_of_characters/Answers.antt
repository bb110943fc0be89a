use Rattle.std.proofs.Common.{◌≡◌, ℕ, Bool, false, List, [], chars, ◌∙◌, sym, ap, subst}
use Rattle.std.specs.Str.{IsUtf8}
use Rattle.std.specs.Str.Iter.{chars_rest}
use Rattle.std.specs.String.{string_bytes}
use Rattle.std.proofs.lemmas.List.{nil_from_length}
use Rattle.std.proofs.lemmas.Str.{IsUtf8-past_char, chars-nil, chars_past_char}
use Rattle.storage_reports.proofs.TypeLaws.{typed, typed_first, typed_last, typed_next}
use Rattle.storage_reports.proofs.type_text.type_of_characters.Goals as goal

pub loop-character-init : goal.loop-character-init
loop-character-init c =
    let name = c.args.name.now in
    let whole : chars_rest c.into_iter-character-iterator.result ≡ name = ap chars_rest c.into_iter-character-iterator.ensures.into_iter_gives ∙ c.chars-character-items.ensures.rest in
    record {
      text = subst IsUtf8 (sym whole) c.utf8.name;
      made =
          typed_first (chars name)
          ∙ (ap (λ (t : List ℕ). typed false t (chars name)) (sym c.new-text.ensures.bytes)
          ∙ ap (λ (cs : List ℕ). typed false (string_bytes c.new-text.result) (chars cs)) (sym whole));
    }

pub loop-character-preserved : goal.loop-character-preserved
loop-character-preserved c =
    let kept = c.loop-character.invariant in
    let old = chars_rest c.loop-character.character-iterator in
    let new = chars_rest c.next.new.self in
    let cut = c.in-Some.ensures.steps.0 in
    let text = string_bytes c.loop-character.text in
    let after = string_bytes c.take.new.text in
    let dotted = c.loop-character.dotted in
    record {
      text = IsUtf8-past_char old new c.in-Some.character kept.text cut;
      made =
          kept.made
          ∙ (ap (typed dotted text) (chars_past_char old new c.in-Some.character kept.text cut)
          ∙ (typed_next dotted text after c.in-Some.character (chars new) c.in_ok-dotted.ensures.text
          ∙ ap (λ (b : Bool). typed b after (chars new)) (sym c.in_ok-dotted.ensures.dotted)));
    }

pub returns : goal.returns
returns c =
    let kept = c.loop-character.invariant in
    let text = string_bytes c.loop-character.text in
    let dotted = c.loop-character.dotted in
    let none : chars (chars_rest c.loop-character.character-iterator) ≡ [] = ap chars (nil_from_length (chars_rest c.loop-character.character-iterator) c.in-None.ensures.steps.0.0) ∙ chars-nil in
    sym (kept.made ∙ (ap (typed dotted text) none ∙ typed_last dotted text))
