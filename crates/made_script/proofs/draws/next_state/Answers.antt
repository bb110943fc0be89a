use Rattle.std.proofs.Common.{◌*◌}
use Rattle.std.proofs.Math.Nat.{mod-add-mod}
use Rattle.made_script.specs.Draws.{next_state}
use Rattle.made_script.proofs.draws.next_state.Goals as goal

pub returns : goal.returns
unfolding next_state
returns c = mod-add-mod (c.args.state * 6364136223846793005) 18446744073709551616 1442695040888963407
