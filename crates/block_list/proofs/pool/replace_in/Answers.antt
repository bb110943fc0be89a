-- One entry is written over.
use Rattle.std.proofs.Common.{◌+◌, ◌*◌, arith}
use Rattle.block_list.proofs.PoolLaws.{run-replace, same_but-set, same_but-refl}
use Rattle.block_list.proofs.pool.replace_in.Goals as goal

pub returns-clause-run : goal.returns-clause-run
returns-clause-run g c = run-replace c.args.pool.now.items c.args.block c.args.len c.args.place c.args.entry c.requires.block c.requires.len c.requires.place

pub returns-clause-others : goal.returns-clause-others
returns-clause-others g c =
    let pool = c.args.pool.now.items in
    same_but-set pool pool c.args.block (c.args.block * 128 + c.args.place) c.args.entry (same_but-refl pool c.args.block) (omega arith) (omega (arith, c.requires.len, c.requires.place))
