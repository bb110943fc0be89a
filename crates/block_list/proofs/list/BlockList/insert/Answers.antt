-- There is a spare block, since no two neighbours fit into one.
use Rattle.std.proofs.Common.{◌<◌, subst, sym, arith, length}
use Rattle.block_list.specs.Runs.{Contents, entries_of}
use Rattle.block_list.proofs.Pairs.{tight_count}
use Rattle.block_list.proofs.list.BlockList.insert.Goals as goal

pub put-requires-clause-room : goal.put-requires-clause-room
put-requires-clause-room g c =
    let bound = tight_count c.self.inside.runs.runs c.self.invariant.tight in
    let few : length (entries_of c.self.inside.runs.runs) < c.self.inside.room = subst (λ (v : Contents g.row.T.Denot). length (entries_of v.runs) < v.room) (sym c.self.view_is) c.requires.room in
    omega (arith, bound, few)
