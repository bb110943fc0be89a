use Rattle.std.proofs.Common.{arith}
use Rattle.name_rules.proofs.NameBytes.{told}
use Rattle.name_rules.proofs.name.is_name_byte.Goals as goal

pub returns : goal.returns
returns c = told c.args.byte (omega arith)
