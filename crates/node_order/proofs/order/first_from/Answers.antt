use Rattle.std.proofs.Common.{refl}
use Rattle.std.specs.Str.{chars}
use Rattle.node_order.proofs.order.first_from.Goals as goal

pub place_of-requires-clause-prefix : goal.place_of-requires-clause-prefix
unfolding chars
place_of-requires-clause-prefix g c = refl
