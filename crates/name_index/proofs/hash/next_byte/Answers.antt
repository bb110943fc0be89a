use Rattle.std.proofs.Common.{◌≡◌, ℕ, List, ◌∷◌, ◌∙◌, ◌%◌, ap, map, sym}
use Rattle.std.specs.Str.{chars}
use Rattle.std.specs.Str.Iter.{chars_rest}
use Rattle.std.proofs.lemmas.Str.{IsUtf8-past_char, chars_past_char}
use Rattle.ucd_case.specs.CaseFolding.{simple_fold}
use Rattle.name_index.specs.Hash.{low_bits}
use Rattle.name_index.proofs.hash.next_byte.Goals as goal

pub returns-clause-text : goal.returns-clause-text
returns-clause-text c = IsUtf8-past_char _ _ _ c.requires c.in_ok-character.ensures.steps.0

pub returns-clause-some : goal.returns-clause-some
returns-clause-some c =
    let rest = chars_rest c.next.new.self in
    let past : chars (chars_rest c.args.characters.now) ≡ c.in_ok-character.character ∷ chars rest = chars_past_char _ rest _ c.requires c.in_ok-character.ensures.steps.0 in
    ap (λ (cs : List ℕ). map (λ c. c % 128) (map simple_fold cs)) past ∙ ap (λ v. (v % 128) ∷ low_bits rest) (sym (c.from.ensures ∙ c.simple_fold.ensures))
