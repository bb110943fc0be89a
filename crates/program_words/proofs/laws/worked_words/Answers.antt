-- Each example computes.
use Rattle.std.proofs.Common.{refl}
use Rattle.clap.proofs.OnLiterals.{clap_on_literals}
use Rattle.program_words.specs.Modes.{path_in, pattern_in}
use Rattle.program_words.proofs.laws.worked_words.Goals as goal

pub returns-clause-new_stores : goal.returns-clause-new_stores
unfolding clap_on_literals
returns-clause-new_stores c = (refl, refl, refl)

pub returns-clause-sizes : goal.returns-clause-sizes
unfolding clap_on_literals
returns-clause-sizes c = (refl, refl, refl, refl, refl)

pub returns-clause-groups : goal.returns-clause-groups
unfolding clap_on_literals
returns-clause-groups c = (refl, refl, refl, refl, refl, refl)

pub returns-clause-numbers : goal.returns-clause-numbers
unfolding clap_on_literals
returns-clause-numbers c = (refl, refl, refl, refl, refl, refl, refl)

pub returns-clause-options : goal.returns-clause-options
unfolding clap_on_literals
returns-clause-options c = (refl, refl, refl, refl, refl, refl, refl, refl)

pub returns-clause-outboxes : goal.returns-clause-outboxes
unfolding clap_on_literals
returns-clause-outboxes c = (refl, refl, refl, refl, refl, refl, refl, refl, refl, refl)

pub returns-clause-works : goal.returns-clause-works
unfolding clap_on_literals
returns-clause-works c = (refl, refl, refl, refl, refl, refl, refl, refl, refl)

pub returns-clause-expires : goal.returns-clause-expires
unfolding clap_on_literals path_in pattern_in
returns-clause-expires c = (refl, refl, refl, refl, refl, refl, refl, refl, refl, refl)

pub returns-clause-ticks : goal.returns-clause-ticks
unfolding clap_on_literals
returns-clause-ticks c = (refl, refl, refl, refl, refl, refl)

pub returns-clause-other_words : goal.returns-clause-other_words
unfolding clap_on_literals
returns-clause-other_words c = (refl, refl, refl, refl, refl, refl)

pub returns-clause-no_modes : goal.returns-clause-no_modes
unfolding clap_on_literals
returns-clause-no_modes c = (refl, refl, refl, refl, refl, refl, refl, refl)
