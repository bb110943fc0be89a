use Rattle.number_set.proofs.levels.Levels.+reserve.Given as goal

abbrev pub decreases-reserve : goal.decreases-reserve
decreases-reserve l = l.bound
