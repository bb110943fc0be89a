use Rattle.std.proofs.Common.{sym, ◌∙◌, ap}
use Rattle.rescan.specs.Standings.{share_of}
use Rattle.rescan.proofs.moves.share.Goals as goal

pub returns-in-Visited : goal.returns-in-Visited
returns-in-Visited c = c.allocated.ensures.space ∙ sym (ap (share_of c.args.cluster c.args.length) c.in-Visited.is)
