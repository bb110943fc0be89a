use Rattle.name_index.proofs.Bits.{masked}
use Rattle.name_index.proofs.index.home.Goals as goal

pub returns : goal.returns
returns c = masked _ c.args.count c.requires.count.0 c.requires.count.1
