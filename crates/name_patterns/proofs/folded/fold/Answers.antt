use Rattle.std.proofs.Common.{◌<◌, sym, ◌∙◌}
use Rattle.std.proofs.lemmas.Bool.{ltb-true}
use Rattle.ucd_case.proofs.CaseFoldingLemmas.{simple_fold-ascii}
use Rattle.name_patterns.proofs.folded.fold.Goals as goal

pub returns-then-is_ascii : goal.returns-then-is_ascii
returns-then-is_ascii c =
    let low : c.args.character < 128 = ltb-true c.args.character 128 (sym c.is_ascii.ensures ∙ c.if-is_ascii.true) in
    c.to_ascii_lowercase.ensures.value ∙ sym (simple_fold-ascii c.args.character low)
