-- The entries come after those of the other run.
use Rattle.std.proofs.Common.{◌+◌, ◌-◌, ◌*◌, arith}
use Rattle.block_list.proofs.PoolLaws.{copied_by, same_but-copied, run-copy}
use Rattle.block_list.proofs.pool.copy_in.Goals as goal

pub returns-clause-run : goal.returns-clause-run
returns-clause-run g c =
    let a = c.args in
    run-copy a.pool.now.items c.copy_within.new.self.items a.block a.len a.place a.to a.to_len c.requires.block c.requires.len c.requires.place c.requires.to c.requires.to_len
    (copied_by _ _ _ _ (a.block * 128 + a.len) _ (grind arith) (omega arith) c.copy_within.ensures.by_index)

pub returns-clause-others : goal.returns-clause-others
returns-clause-others g c =
    let a = c.args in
    same_but-copied a.pool.now.items c.copy_within.new.self.items (a.block * 128 + a.place) (a.to * 128 + a.to_len) (a.len - a.place) a.to
    (copied_by _ _ _ _ (a.block * 128 + a.len) _ (grind arith) (omega arith) c.copy_within.ensures.by_index) (omega arith) (omega (arith, c.requires.len, c.requires.place, c.requires.to_len))
