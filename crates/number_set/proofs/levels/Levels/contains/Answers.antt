use Rattle.std.proofs.Common.{sym, ap, ◌∙◌}
use Rattle.fsrm_base.specs.Numbers.{is_in}
use Rattle.number_set.specs.Numbers.{Numbers}
use Rattle.number_set.specs.Words.{has_bit}
use Rattle.number_set.proofs.LevelLaws.{in_numbers_of}
use Rattle.number_set.proofs.levels.Levels.contains.Goals as goal

pub returns : goal.returns
returns c =
    c.has_bit.ensures
    ∙ (ap (λ ws. has_bit ws c.args.number) c.deref.ensures.value
    ∙ (sym (in_numbers_of c.self.inside.words.items c.args.number)
    ∙ ap (λ (v : Numbers). is_in v.members c.args.number) c.self.view_is))
