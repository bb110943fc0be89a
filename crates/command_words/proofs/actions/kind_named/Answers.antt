use Rattle.std.proofs.Common.{◌≡◌, ◌∙◌, [], ◌∷◌, rules, tests, find, option_map}
use Rattle.std.proofs.lemmas.Iterator.{YieldsList-from_slice}
use Rattle.std.proofs.lemmas.Iterator.Search.{find_from_yields_List}
use Rattle.std.specs.Str.{str_eq_ignore_ascii_case}
use Rattle.fsrm_model.specs.declared.row.ActionKind.TheVariants.{Event, Mail, Program, Report}
use Rattle.fsrm_model.specs.texts.ActionWords.{kind_word}
use Rattle.command_words.proofs.actions.kind_named.Goals as goal

pub returns : goal.returns
returns c =
    let found : option_map (λ y. y.now) c.find.result ≡ find (λ kind. str_eq_ignore_ascii_case (kind_word kind) c.args.word.now) (Event ∷ Mail ∷ Program ∷ Report ∷ []) =
    find_from_yields_List (λ kind. str_eq_ignore_ascii_case (kind_word kind) c.args.word.now) _ _ c.find.result c.find.ensures.ran (YieldsList-from_slice (Event ∷ Mail ∷ Program ∷ Report ∷ []) c.iter.ensures.rest) (λ x b q k. search (rules, tests)) in
    c.copied.ensures ∙ found
