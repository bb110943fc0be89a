use Rattle.std.proofs.Common.{◌≡◌, ◌∙◌, rules, tests, find, option_map}
use Rattle.std.proofs.lemmas.Iterator.{YieldsList-from_slice}
use Rattle.std.proofs.lemmas.Iterator.Search.{find_from_yields_List}
use Rattle.std.specs.Str.{str_eq_ignore_ascii_case}
use Rattle.fsrm_model.specs.texts.ReportWords.{report_word, all_reports}
use Rattle.command_words.proofs.report_words.report_named.Goals as goal

pub returns : goal.returns
returns c =
    let found : option_map (λ y. y.now) c.find.result ≡ find (λ kind. str_eq_ignore_ascii_case (report_word kind) c.args.word.now) all_reports =
    find_from_yields_List (λ kind. str_eq_ignore_ascii_case (report_word kind) c.args.word.now) _ _ c.find.result c.find.ensures.ran (YieldsList-from_slice all_reports c.iter.ensures.rest) (λ x b q k. search (rules, tests)) in
    c.copied.ensures ∙ found
