use Rattle.std.proofs.Common.{◌≡◌, ◌∙◌, ap, List, map}
use Rattle.std.specs.Borrow.{Bor}
use Rattle.std.specs.Option.{UnwrapsOrElse}
use Rattle.std.specs.Prelude.{Option, Some, None, unwrap_or, option_map, codes, []}
use Rattle.clap.specs.Words.{found_of, Text}
use Rattle.clap.proofs.WalkLemmas.{raw_values-rows}
use Rattle.program_words.proofs.values.rest.Goals as goal

abbrev texts : Bor (List (Bor Text)) → List Text
texts values = map (λ s. s.now) values.now

unwrapped : (found : Option (Bor (List (Bor Text)))) (result : Bor (List (Bor Text))) (all : Option (List Text)) → UnwrapsOrElse found (λ x. x.now ≡ []) result
    → option_map texts found ≡ all → texts result ≡ unwrap_or all []
unwrapped (Some x) result all is given = ap texts is ∙ ap (λ o. unwrap_or o []) given
unwrapped None result all is given = ap (map (λ s. s.now)) is ∙ ap (λ o. unwrap_or o []) given

pub returns : goal.returns
returns c =
    unwrapped c.get_strs.result c.unwrap_or_default.result _ c.unwrap_or_default.ensures
    (c.get_strs.ensures ∙ raw_values-rows (found_of c.args.matches.now) (codes "REST"))
