use Rattle.std.proofs.Common.{◌≡◌, ℕ, List, [], ◌∙◌, ap, drop, length, map, slice_index, sym}
use Rattle.std.specs.Str.{chars}
use Rattle.std.specs.Str.Iter.{chars_rest}
use Rattle.std.proofs.lemmas.List.{nil_from_length}
use Rattle.std.proofs.lemmas.Str.{IsUtf8-past_char, chars-nil, chars_past_char}
use Rattle.ucd_case.specs.CaseFolding.{simple_fold}
use Rattle.fsrm_model.specs.values.Name.{folded}
use Rattle.name_rules.proofs.prefix.next_folded.Goals as goal

-- nothing is left after the last character
none_left : (text : List ℕ) → length text ≡ 0 → folded text ≡ []
none_left text none = ap (map simple_fold) (ap chars (nil_from_length text none) ∙ chars-nil)

pub returns-in-Some-clause-text : goal.returns-in-Some-clause-text
returns-in-Some-clause-text c = IsUtf8-past_char _ _ _ c.requires.text c.in-Some.ensures.steps.0

pub returns-in-Some-clause-number : goal.returns-in-Some-clause-number
returns-in-Some-clause-number c =
    c.from.ensures
    ∙ (c.simple_fold.ensures
    ∙ ap (λ (cs : List ℕ). slice_index (map simple_fold cs) 0) (sym (chars_past_char _ (chars_rest c.next.new.self) _ c.requires.text c.in-Some.ensures.steps.0)))

pub returns-in-Some-clause-rest : goal.returns-in-Some-clause-rest
returns-in-Some-clause-rest c =
    ap (λ (cs : List ℕ). drop 1 (map simple_fold cs)) (sym (chars_past_char _ (chars_rest c.next.new.self) _ c.requires.text c.in-Some.ensures.steps.0))

pub returns-in-None-clause-number : goal.returns-in-None-clause-number
returns-in-None-clause-number c =
    ap (λ (cs : List ℕ). slice_index cs 0) (sym (none_left (chars_rest c.args.characters.now) c.in-None.ensures.steps.0.0))

pub returns-in-None-clause-rest : goal.returns-in-None-clause-rest
returns-in-None-clause-rest c =
    let none = none_left (chars_rest c.args.characters.now) c.in-None.ensures.steps.0.0 in
    ap folded (ap chars_rest c.in-None.ensures.steps.0.1) ∙ (none ∙ ap (drop 1) (sym none))
