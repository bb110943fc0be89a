use Rattle.std.proofs.Common.{◌≡◌, ◌+◌, ◌<◌, ◌≤◌, ℕ, List, [], ◌∷◌, ◌++◌, chars, length, map, take, append_assoc, length-append, sym, ap, ◌∙◌, arith}
use Rattle.std.specs.Str.Iter.{chars_rest}
use Rattle.std.proofs.Math.Utf8.{encode}
use Rattle.std.proofs.lemmas.List.{append-nil, length-set, nil_from_length, take_more_set}
use Rattle.std.proofs.lemmas.Str.{IsUtf8-past_char, chars-nil, chars_past_char, len_utf8_bounds, length-encode}
use Rattle.ucd_case.specs.CaseFolding.{simple_fold}
use Rattle.fsrm_model.specs.values.Name.{folded}
use Rattle.name_patterns.proofs.folded.FoldedName.of.Goals as goal

-- a character has a byte at least
shorter : (text rest : List ℕ) (character : ℕ) → text ≡ encode character ++ rest → length rest + 1 ≤ length text
shorter text rest character cut =
    omega (arith, ap length cut, length-append (encode character) rest, length-encode character, (len_utf8_bounds character).0)

-- nothing is left after the last one
none_left : (text : List ℕ) → length text ≡ 0 → folded text ≡ []
none_left text none = ap (map simple_fold) (ap chars (nil_from_length text none) ∙ chars-nil)

pub loop-character-preserved : goal.loop-character-preserved
loop-character-preserved c =
    let kept = c.loop-character.invariant in
    let old = chars_rest c.loop-character.character-iterator in
    let new = chars_rest c.next.new.self in
    let cut = c.in-Some.ensures.steps.0 in
    let less = shorter old new c.in-Some.character cut in
    let front = take c.loop-character.count c.loop-character.characters in
    let within : c.loop-character.count < length c.loop-character.characters = omega (arith, kept.room, kept.size, less) in
    record {
      text = IsUtf8-past_char old new c.in-Some.character kept.text cut;
      size = length-set c.loop-character.characters c.loop-character.count c.fold.result ∙ kept.size;
      room = omega (arith, kept.room, less);
      made =
          kept.made
          ∙ (ap (λ (cs : List ℕ). front ++ map simple_fold cs) (chars_past_char old new c.in-Some.character kept.text cut)
          ∙ sym (ap (λ (cs : List ℕ). cs ++ folded new) (take_more_set c.loop-character.characters c.loop-character.count c.fold.result within)
          ∙ (append_assoc front (c.fold.result ∷ []) (folded new) ∙ ap (λ (n : ℕ). front ++ n ∷ folded new) c.fold.ensures)));
    }

pub returns : goal.returns
returns c =
    let kept = c.loop-character.invariant in
    let front = take c.loop-character.count c.loop-character.characters in
    sym (kept.made ∙ (ap (λ (cs : List ℕ). front ++ cs) (none_left (chars_rest c.loop-character.character-iterator) c.in-None.ensures.steps.0.0) ∙ append-nil front))
