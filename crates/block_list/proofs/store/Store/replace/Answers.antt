-- An entry of one run is written over, in its block.
use Rattle.std.proofs.Common.{◌∙◌, refl, ap, arith, set}
use Rattle.std.specs.Vec.{with_item}
use Rattle.block_list.specs.Pool.{run_in}
use Rattle.block_list.specs.Runs.{run_at}
use Rattle.block_list.proofs.HeadLaws.{IsKnown, known, IsChanged, changed, front-set}
use Rattle.block_list.proofs.store.Store.replace.Given.{Over}
use Rattle.block_list.proofs.store.Store.replace.Goals.{After-index-head, After-head_after}
use Rattle.block_list.proofs.store.Store.replace.Goals as goal

here : (g : Over) (c : After-index-head g) → IsKnown c.self.inside.heads.items c.self.inside.pool.items c.args.self.now.runs c.args.run c.index-head.result.now
here g c = let i = c.self.inside in known i.most i.heads i.free i.pool c.args.self.now c.args.run c.index-head.result.now c.self.invariant c.self.view_is c.requires.run c.index-head.ensures

edited : (g : Over) (c : After-head_after g) → IsChanged c.self.inside.most (with_item c.self.inside.heads c.args.run c.head_after.result) c.self.inside.free c.replace_in.new.pool c.args.self.now c.args.run (set (run_at c.args.self.now.runs c.args.run) c.args.place c.args.entry)
edited g c =
    let i = c.self.inside in
    let head = c.index-head.result.now in
    let pool = c.replace_in.new.pool in
    let k = known i.most i.heads i.free i.pool c.args.self.now c.args.run head c.self.invariant c.self.view_is c.requires.run c.index-head.ensures in
    let is_run = ap (λ n. run_in pool.items head.block n) c.head_after.ensures.len ∙ (c.replace_in.ensures.run ∙ ap (λ r. set r c.args.place c.args.entry) k.run) in
    changed i.most i.heads (with_item i.heads c.args.run c.head_after.result) i.free i.pool pool c.args.self.now c.args.run head c.head_after.result _ c.self.invariant c.self.view_is c.requires.run c.index-head.ensures refl refl c.replace_in.ensures.capacity c.head_after.ensures.block c.replace_in.ensures.others c.head_after.ensures.head is_run

pub overflow_cast-head : goal.overflow_cast-head
overflow_cast-head g c = let k = here g (goal.at.overflow_cast-head g c).After-index-head in omega (arith, k.small)

pub replace_in-requires-clause-block : goal.replace_in-requires-clause-block
replace_in-requires-clause-block g c = (here g (goal.at.replace_in-requires-clause-block g c).After-index-head).block

pub replace_in-requires-clause-len : goal.replace_in-requires-clause-len
replace_in-requires-clause-len g c = (here g (goal.at.replace_in-requires-clause-len g c).After-index-head).most

pub replace_in-requires-clause-place : goal.replace_in-requires-clause-place
replace_in-requires-clause-place g c = let k = here g (goal.at.replace_in-requires-clause-place g c).After-index-head in omega (arith, k.len, c.requires.place)

pub head_after-requires-clause-block : goal.head_after-requires-clause-block
head_after-requires-clause-block g c = let k = here g (goal.at.head_after-requires-clause-block g c).After-index-head in omega (arith, k.block, c.replace_in.ensures.others.length)

pub head_after-requires-clause-len : goal.head_after-requires-clause-len
head_after-requires-clause-len g c = (here g (goal.at.head_after-requires-clause-len g c).After-index-head).most

pub head_after-requires-clause-front : goal.head_after-requires-clause-front
head_after-requires-clause-front g c = λ behind.
    let k = here g (goal.at.head_after-requires-clause-front g c).After-index-head in
    let i = c.self.inside in
    front-set i.heads.items i.pool.items c.replace_in.new.pool.items c.args.self.now.runs c.args.run c.args.place c.index-head.result.now c.args.entry k (omega (arith, k.len, c.requires.place)) behind c.replace_in.ensures.run

pub invariant_of-self : goal.invariant_of-self
invariant_of-self g c = (edited g (goal.at.invariant_of-self g c).After-head_after).store

pub returns : goal.returns
returns g c = (edited g (goal.at.returns g c).After-head_after).view
