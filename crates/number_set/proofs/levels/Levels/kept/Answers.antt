use Rattle.std.proofs.Common.{◌≡◌, ◌≤◌, true, length, subst, arith}
use Rattle.fsrm_base.specs.Numbers.{is_set}
use Rattle.number_set.specs.Levels.{most_members}
use Rattle.number_set.specs.Numbers.{Numbers}
use Rattle.number_set.proofs.LevelLaws.{few_numbers, set_numbers_of}
use Rattle.number_set.proofs.levels.Levels.kept.Goals as goal

pub returns-clause-set : goal.returns-clause-set
returns-clause-set c = subst (λ (v : Numbers). is_set v.members ≡ true) c.self.view_is (set_numbers_of c.self.inside.words.items)

pub returns-clause-few : goal.returns-clause-few
returns-clause-few c =
    subst (λ (v : Numbers). length v.members ≤ most_members) c.self.view_is (omega (arith, few_numbers c.self.inside.words.items, c.self.invariant.room, c.self.invariant.small))
