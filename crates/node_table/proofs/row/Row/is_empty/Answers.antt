-- The bit is tested.
use Rattle.node_table.proofs.BitLaws.{is_set}
use Rattle.node_table.proofs.row.Row.is_empty.Goals as goal

pub returns : goal.returns
returns c = is_set c.args.self.now.size 62
