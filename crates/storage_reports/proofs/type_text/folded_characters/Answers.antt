use Rattle.std.proofs.Common.{◌≡◌, ℕ, ◌++◌, List, [], chars, append_assoc, ◌∙◌, sym, ap, subst}
use Rattle.std.specs.Char.{encode_utf8}
use Rattle.std.specs.Str.{IsUtf8}
use Rattle.std.specs.Str.Iter.{chars_rest}
use Rattle.std.specs.String.{string_bytes}
use Rattle.std.proofs.lemmas.List.{append-nil, nil_from_length}
use Rattle.std.proofs.lemmas.Str.{IsUtf8-past_char, chars-nil, chars_past_char}
use Rattle.ucd_case.specs.CaseFolding.{simple_fold}
use Rattle.fsrm_model.specs.reports.Reports.{folded_text}
use Rattle.storage_reports.proofs.type_text.folded_characters.Goals as goal

pub loop-character-init : goal.loop-character-init
loop-character-init c =
    let name = c.args.name.now in
    let whole : chars_rest c.into_iter-character-iterator.result ≡ name = ap chars_rest c.into_iter-character-iterator.ensures.into_iter_gives ∙ c.chars-character-items.ensures.rest in
    record {
      text = subst IsUtf8 (sym whole) c.utf8.name;
      made =
          ap (λ (cs : List ℕ). folded_text (chars cs)) (sym whole)
          ∙ ap (λ (t : List ℕ). t ++ folded_text (chars (chars_rest c.into_iter-character-iterator.result))) (sym c.new-text.ensures.bytes);
    }

pub loop-character-preserved : goal.loop-character-preserved
loop-character-preserved c =
    let kept = c.loop-character.invariant in
    let old = chars_rest c.loop-character.character-iterator in
    let new = chars_rest c.next.new.self in
    let cut = c.in-Some.ensures.steps.0 in
    let text = string_bytes c.loop-character.text in
    let last = folded_text (chars new) in
    record {
      text = IsUtf8-past_char old new c.in-Some.character kept.text cut;
      made =
          kept.made
          ∙ (ap (λ (cs : List ℕ). text ++ folded_text cs) (chars_past_char old new c.in-Some.character kept.text cut)
          ∙ (sym (append_assoc text (encode_utf8 (simple_fold c.in-Some.character)) last)
          ∙ ap (λ (t : List ℕ). t ++ last) (sym c.in_ok-push_folded.ensures)));
    }

pub returns : goal.returns
returns c =
    let kept = c.loop-character.invariant in
    let text = string_bytes c.loop-character.text in
    let none : chars (chars_rest c.loop-character.character-iterator) ≡ [] = ap chars (nil_from_length (chars_rest c.loop-character.character-iterator) c.in-None.ensures.steps.0.0) ∙ chars-nil in
    sym (kept.made ∙ (ap (λ (cs : List ℕ). text ++ folded_text cs) none ∙ append-nil text))
