-- No two neighbours fit into one block.
use Rattle.std.proofs.Common.{ap, arith, length}
use Rattle.block_list.specs.Runs.{Contents, entries_of}
use Rattle.block_list.proofs.Pairs.{tight_count}
use Rattle.block_list.proofs.list.BlockList.run_count.Goals as goal

pub returns-clause-few : goal.returns-clause-few
returns-clause-few g c =
    let runs = c.self.inside.runs.runs in
    let bound = tight_count runs c.self.invariant.tight in
    omega (arith, bound, ap (λ (v : Contents g.row.T.Denot). length v.runs) c.self.view_is, ap (λ (v : Contents g.row.T.Denot). length (entries_of v.runs)) c.self.view_is, c.count.ensures.count)
