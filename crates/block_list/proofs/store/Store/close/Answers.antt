-- A head is taken away, and its block is free.
use Rattle.std.proofs.Common.{◌≡◌, ◌<◌, ◌++◌, ◌∷◌, [], ◌∙◌, ap, subst, sym, arith, length, length-append, remove}
use Rattle.std.proofs.lemmas.List.{length-map}
use Rattle.std.proofs.lemmas.List.Edits.{length-remove}
use Rattle.std.specs.Vec.{vec_len, vec_capacity}
use Rattle.block_list.specs.Runs.{Shelf}
use Rattle.block_list.specs.Heads.{run_of, runs_in, IsLaid}
use Rattle.block_list.proofs.HeadLaws.{laid-remove, runs-remove, view_changed, succeeded}
use Rattle.block_list.proofs.store.Store.close.Goals as goal

pub invariant_of-self : goal.invariant_of-self
invariant_of-self g c =
    let i = c.self.inside in
    let inv = c.self.invariant in
    let head = c.remove-head.result in
    let items = c.remove-head.ensures.items in
    let count = ap (λ (v : Shelf g.row.T.Denot). length v.runs) c.self.view_is in
    let within : c.args.run < length i.heads.items = omega (arith, count, c.requires, length-map i.heads.items (run_of i.pool.items)) in
    let room : vec_len i.free < vec_capacity i.free = let len = i.free.ok.0 in omega (arith, inv.room, inv.free_room, within) in
    let pushed : c.push.new.self.items ≡ i.free.items ++ head.block ∷ [] = succeeded c.push.result _ i.free.items c.push.new.self.items (c.push.ensures.succeeds room) c.push.ensures.items in
    record {
      small = inv.small;
      room = let gone = length-remove i.heads.items c.args.run within in omega (arith, inv.room, gone, ap length items, ap length pushed, length-append i.free.items (head.block ∷ []));
      heads_room = omega (arith, inv.heads_room, c.remove-head.ensures.capacity);
      free_room = omega (arith, inv.free_room, c.push.ensures.capacity);
      pool_room = inv.pool_room;
      laid = subst (λ hs. IsLaid hs c.push.new.self.items i.pool.items) (sym items)
          (subst (λ fr. IsLaid (remove i.heads.items c.args.run) fr i.pool.items) (sym pushed) (laid-remove i.heads.items i.free.items i.pool.items c.args.run head inv.laid within c.remove-head.ensures.value));
    }

pub returns : goal.returns
returns g c =
    let i = c.self.inside in
    view_changed (λ rs. remove rs c.args.run) i.most (runs_in i.heads.items i.pool.items) (runs_in c.remove-head.new.self.items i.pool.items) c.args.self.now c.self.view_is
    (ap (λ hs. runs_in hs i.pool.items) c.remove-head.ensures.items ∙ runs-remove i.heads.items i.pool.items c.args.run)
