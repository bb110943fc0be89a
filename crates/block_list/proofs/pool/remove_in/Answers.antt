-- The entry is turned to the end of the run.
use Rattle.std.proofs.Common.{◌+◌, ◌-◌, ◌*◌, refl, arith}
use Rattle.block_list.proofs.PoolLaws.{turned_by, same_but-refl, same_but-turned, run-remove}
use Rattle.block_list.proofs.pool.remove_in.Goals as goal

pub returns-clause-run : goal.returns-clause-run
returns-clause-run g c =
    let a = c.args in
    run-remove a.pool.now.items _ a.block a.len a.place c.requires.block c.requires.len c.requires.place
    (turned_by _ c.deref_mut.result.now _ _ (a.block * 128 + a.place) 1 (a.len - (a.place + 1)) _ _ _ c.deref_mut.ensures.value (omega arith) (omega arith) refl a.pool.now.ok.0 c.rotate_left.ensures.after)

pub returns-clause-others : goal.returns-clause-others
returns-clause-others g c =
    let a = c.args in
    let pool = a.pool.now.items in
    same_but-turned pool pool _ (a.block * 128 + a.place) 1 (a.len - (a.place + 1)) a.block (same_but-refl pool a.block)
    (turned_by _ c.deref_mut.result.now _ _ (a.block * 128 + a.place) 1 (a.len - (a.place + 1)) _ _ _ c.deref_mut.ensures.value (omega arith) (omega arith) refl a.pool.now.ok.0 c.rotate_left.ensures.after)
    (omega arith) (omega (arith, c.requires.len, c.requires.place))
