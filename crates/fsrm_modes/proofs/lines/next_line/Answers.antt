use Rattle.fsrm_modes.proofs.Cutting.{no_line_ends, line_ends}
use Rattle.fsrm_modes.proofs.lines.next_line.Goals as goal

pub returns-in-Some : goal.returns-in-Some
returns-in-Some c = line_ends c.args.bytes.now c.in-Some.end c.in-Some.ensures

pub returns-in-None : goal.returns-in-None
returns-in-None c = no_line_ends c.args.bytes.now c.in-None.ensures
