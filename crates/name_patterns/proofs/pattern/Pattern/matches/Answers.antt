use Rattle.std.proofs.Common.{sym, ap, ◌∙◌}
use Rattle.fsrm_model.specs.values.Name.{folded}
use Rattle.name_patterns.specs.Folded.{pattern_matches_folded}
use Rattle.name_patterns.proofs.FoldLaws.{pattern_folded}
use Rattle.name_patterns.proofs.pattern.Pattern.matches.Goals as goal

pub returns : goal.returns
returns c =
    c.matches.ensures
    ∙ (ap (pattern_matches_folded (folded c.args.name.now)) c.as_str.ensures.text
    ∙ sym (pattern_folded c.args.name.now c.args.self.now))
