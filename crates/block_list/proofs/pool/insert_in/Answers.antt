-- The entry comes after the others, and is turned to its place.
use Rattle.std.proofs.Common.{◌+◌, ◌-◌, ◌*◌, ap, set, drop, length, arith}
use Rattle.std.proofs.lemmas.List.{length-set, length-take, length-drop}
use Rattle.block_list.proofs.PoolLaws.{turned_by, same_but-refl, same_but-set, same_but-turned, run-insert}
use Rattle.block_list.proofs.pool.insert_in.Goals as goal

pub returns-clause-run : goal.returns-clause-run
returns-clause-run g c =
    let a = c.args in
    let pool = a.pool.now.items in
    let lent = c.deref_mut.result.now in
    let low = a.block * 128 + a.place in
    let same = c.deref_mut.ensures.value in
    let longer = length-set pool (a.block * 128 + a.len) a.entry in
    let long = length-take (a.block * 128 + a.len + 1 - low) (drop low lent) in
    run-insert pool _ a.block a.len a.place a.entry c.requires.block c.requires.len c.requires.place
    (turned_by _ lent _ _ low (a.len - a.place) 1 _ _ _ same (omega (arith, longer)) (omega arith) (omega (arith, long, length-drop low lent, ap length same, longer)) (omega (arith, a.pool.now.ok.0, longer)) c.rotate_right.ensures.after)

pub returns-clause-others : goal.returns-clause-others
returns-clause-others g c =
    let a = c.args in
    let pool = a.pool.now.items in
    let lent = c.deref_mut.result.now in
    let low = a.block * 128 + a.place in
    let end = a.block * 128 + a.len in
    let same = c.deref_mut.ensures.value in
    let longer = length-set pool end a.entry in
    let long = length-take (end + 1 - low) (drop low lent) in
    same_but-turned pool (set pool end a.entry) _ low (a.len - a.place) 1 a.block (same_but-set pool pool a.block end a.entry (same_but-refl pool a.block) (omega arith) (omega (arith, c.requires.len)))
    (turned_by _ lent _ _ low (a.len - a.place) 1 _ _ _ same (omega (arith, longer)) (omega arith) (omega (arith, long, length-drop low lent, ap length same, longer)) (omega (arith, a.pool.now.ok.0, longer)) c.rotate_right.ensures.after)
    (omega arith) (omega (arith, c.requires.len, c.requires.place))
