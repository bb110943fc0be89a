use Rattle.std.proofs.Common.{ap, ◌/◌, ◌%◌, ℕ}
use Rattle.made_script.specs.Draws.{draw}
use Rattle.made_script.proofs.draws.draw.Goals as goal

pub returns-clause-drawn : goal.returns-clause-drawn
unfolding draw
returns-clause-drawn c = ap (λ (x : ℕ). x / 8589934592 % c.args.below) c.next_state.ensures
