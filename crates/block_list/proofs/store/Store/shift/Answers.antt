-- Two runs are changed, and one block.
use Rattle.std.proofs.Common.{◌++◌, ◌∙◌, refl, ap, arith, set, take, drop}
use Rattle.std.specs.Vec.{with_item}
use Rattle.block_list.specs.Pool.{run_in}
use Rattle.block_list.specs.Runs.{run_at}
use Rattle.block_list.proofs.HeadLaws.{IsKnown, known, IsChanged, shifted}
use Rattle.block_list.proofs.store.Store.shift.Given.{Over}
use Rattle.block_list.proofs.store.Store.shift.Goals.{After-index-head, After-index-target, After-head_of-2}
use Rattle.block_list.proofs.store.Store.shift.Goals as goal

from : (g : Over) (c : After-index-head g) → IsKnown c.self.inside.heads.items c.self.inside.pool.items c.args.self.now.runs c.args.run c.index-head.result.now
from g c = let i = c.self.inside in known i.most i.heads i.free i.pool c.args.self.now c.args.run c.index-head.result.now c.self.invariant c.self.view_is c.requires.run c.index-head.ensures

target : (g : Over) (c : After-index-target g) → IsKnown c.self.inside.heads.items c.self.inside.pool.items c.args.self.now.runs c.args.to c.index-target.result.now
target g c = let i = c.self.inside in known i.most i.heads i.free i.pool c.args.self.now c.args.to c.index-target.result.now c.self.invariant c.self.view_is c.requires.to c.index-target.ensures

both : (g : Over) (c : After-head_of-2 g)
    → IsChanged c.self.inside.most (with_item (with_item c.self.inside.heads c.args.to c.head_of.result) c.args.run c.head_of-2.result) c.self.inside.free c.copy_in.new.pool
    (record { most = c.args.self.now.most; runs = set c.args.self.now.runs c.args.to (run_at c.args.self.now.runs c.args.to ++ drop c.args.place (run_at c.args.self.now.runs c.args.run)) }) c.args.run (take c.args.place (run_at c.args.self.now.runs c.args.run))
both g c =
    let i = c.self.inside in
    let first = c.head_of.result in
    let second = c.head_of-2.result in
    let pool = c.copy_in.new.pool in
    let target = c.index-target.result.now in
    let is_first = ap (λ n. run_in pool.items target.block n) c.head_of.ensures.len ∙ c.copy_in.ensures.run in
    shifted i.most i.heads (with_item (with_item i.heads c.args.to first) c.args.run second) i.free i.pool pool c.args.self.now c.args.run c.args.to c.args.place c.index-head.result.now target first second c.self.invariant c.self.view_is
    c.requires.run c.requires.to c.requires.other c.requires.place c.index-head.ensures c.index-target.ensures refl refl c.copy_in.ensures.capacity c.copy_in.ensures.others
    c.head_of.ensures.block c.head_of.ensures.head is_first c.head_of-2.ensures.block c.head_of-2.ensures.head c.head_of-2.ensures.len

pub overflow_cast-head : goal.overflow_cast-head
overflow_cast-head g c = let k = from g (goal.at.overflow_cast-head g c).After-index-head in omega (arith, k.small)

pub overflow_cast-target : goal.overflow_cast-target
overflow_cast-target g c = let t = target g (goal.at.overflow_cast-target g c).After-index-target in omega (arith, t.small)

pub copy_in-requires-clause-block : goal.copy_in-requires-clause-block
copy_in-requires-clause-block g c = (from g (goal.at.copy_in-requires-clause-block g c).After-index-head).block

pub copy_in-requires-clause-len : goal.copy_in-requires-clause-len
copy_in-requires-clause-len g c = (from g (goal.at.copy_in-requires-clause-len g c).After-index-head).most

pub copy_in-requires-clause-to : goal.copy_in-requires-clause-to
copy_in-requires-clause-to g c = (target g (goal.at.copy_in-requires-clause-to g c).After-index-target).block

pub copy_in-requires-clause-to_len : goal.copy_in-requires-clause-to_len
copy_in-requires-clause-to_len g c = let at = goal.at.copy_in-requires-clause-to_len g c in let k = from g at.After-index-head in let t = target g at.After-index-target in omega (arith, c.requires.room, k.len, t.len)

pub copy_in-requires-clause-place : goal.copy_in-requires-clause-place
copy_in-requires-clause-place g c = let k = from g (goal.at.copy_in-requires-clause-place g c).After-index-head in omega (arith, k.len, c.requires.place)

pub overflow_cast-len : goal.overflow_cast-len
overflow_cast-len g c = let k = from g (goal.at.overflow_cast-len g c).After-index-head in omega (arith, k.len, k.most, c.requires.place)

pub overflow_sub-head : goal.overflow_sub-head
overflow_sub-head g c = let k = from g (goal.at.overflow_sub-head g c).After-index-head in omega (arith, k.len, c.requires.place)

pub overflow_add-target : goal.overflow_add-target
overflow_add-target g c = let at = goal.at.overflow_add-target g c in let k = from g at.After-index-head in let t = target g at.After-index-target in omega (arith, c.requires.room, k.len, t.len)

pub head_of-requires-clause-block : goal.head_of-requires-clause-block
head_of-requires-clause-block g c = let t = target g (goal.at.head_of-requires-clause-block g c).After-index-target in omega (arith, t.block, c.copy_in.ensures.others.length)

pub head_of-requires-clause-len : goal.head_of-requires-clause-len
head_of-requires-clause-len g c = let at = goal.at.head_of-requires-clause-len g c in let k = from g at.After-index-head in let t = target g at.After-index-target in omega (arith, c.requires.room, k.len, t.len)

pub head_of-requires-2-clause-block : goal.head_of-requires-2-clause-block
head_of-requires-2-clause-block g c = let k = from g (goal.at.head_of-requires-2-clause-block g c).After-index-head in omega (arith, k.block, c.copy_in.ensures.others.length)

pub head_of-requires-2-clause-len : goal.head_of-requires-2-clause-len
head_of-requires-2-clause-len g c = let k = from g (goal.at.head_of-requires-2-clause-len g c).After-index-head in omega (arith, c.requires.place, k.len, k.most)

pub invariant_of-self : goal.invariant_of-self
invariant_of-self g c = (both g (goal.at.invariant_of-self g c).After-head_of-2).store

pub returns : goal.returns
returns g c = (both g (goal.at.returns g c).After-head_of-2).view
