use Rattle.std.proofs.Common.{rules}
use Rattle.fsrm_outside.proofs.Members.{is_found}
use Rattle.fsrm_outside.proofs.memory.is_among.Goals as goal

pub returns : goal.returns
returns c = is_found c.args.number c.args.numbers.now c.contains.result (search rules)
