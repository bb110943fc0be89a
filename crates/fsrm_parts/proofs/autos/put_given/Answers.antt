use Rattle.std.proofs.Common.{arith}
use Rattle.fsrm_parts.proofs.applied.EligibleFolders.{there_at}
use Rattle.fsrm_parts.proofs.autos.put_given.Goals as goal

pub gets_one-requires : goal.gets_one-requires
gets_one-requires g c =
    there_at c.args.tree.now.nodes c.args.siblings.now c.loop-place.place c.number-child.result c.requires c.number-child.ensures (omega arith)
