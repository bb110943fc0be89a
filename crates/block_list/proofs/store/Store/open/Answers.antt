-- A head without a run has a block that was free.
use Rattle.std.proofs.Common.{◌≡◌, ◌<◌, ◌≤◌, ◌∷◌, [], ◌∙◌, refl, inl, inr, ap, subst, sym, arith, length, length-append, insert}
use Rattle.std.proofs.lemmas.List.{length-map}
use Rattle.std.proofs.lemmas.List.Edits.{length-insert}
use Rattle.std.specs.Vec.{vec_len, vec_capacity}
use Rattle.block_list.specs.declared.head.Head.{Head}
use Rattle.block_list.specs.Runs.{Shelf}
use Rattle.block_list.specs.Heads.{run_of, runs_in, IsLaid, TakesBlock}
use Rattle.block_list.proofs.HeadLaws.{laid-open, runs-open, view_changed, succeeded}
use Rattle.block_list.proofs.store.Store.open.Goals as goal

pub invariant_of-self : goal.invariant_of-self
invariant_of-self g c =
    let i = c.self.inside in
    let inv = c.self.invariant in
    let b = c.take_block-block in
    let head : Head g.row.T.Denot = record { first = c.args.filler; block = b.result; len = 0 } in
    let count = ap (λ (v : Shelf g.row.T.Denot). length v.runs) c.self.view_is in
    let most = ap (λ (v : Shelf g.row.T.Denot). v.most) c.self.view_is in
    let heads_count = length-map i.heads.items (run_of i.pool.items) in
    let within : c.args.run ≤ length i.heads.items = omega (arith, count, heads_count, c.requires.run) in
    let len = i.heads.ok.0 in
    let room : vec_len i.heads < vec_capacity i.heads = omega (arith, inv.heads_room, c.requires.room, count, most, heads_count) in
    let inserted : c.insert.new.self.items ≡ insert i.heads.items c.args.run head = succeeded c.insert.result _ i.heads.items c.insert.new.self.items (c.insert.ensures.succeeds room) c.insert.ensures.items in
    let taken : TakesBlock (length i.heads.items) i.free.items b.new.free.items i.pool.items b.new.pool.items b.result = subst (λ n. TakesBlock n i.free.items b.new.free.items i.pool.items b.new.pool.items b.result) (c.len.ensures ∙ omega (arith, len)) b.ensures.taken in
    let more = length-insert i.heads.items c.args.run head within in
    let items = ap length inserted in
    record {
      small = inv.small;
      room =
          elim taken [
            | inl w ↦ omega (arith, inv.room, more, items, ap length w.0, length-append b.new.free.items (b.result ∷ []))
            | inr w ↦ omega (arith, c.requires.room, more, items, ap length w.1, count, most, heads_count)
          ];
      heads_room = omega (arith, inv.heads_room, c.insert.ensures.capacity);
      free_room = omega (arith, inv.free_room, b.ensures.free_capacity);
      pool_room = omega (arith, inv.pool_room, b.ensures.pool_capacity);
      laid = subst (λ hs. IsLaid hs b.new.free.items b.new.pool.items) (sym inserted)
          (laid-open i.heads.items i.free.items b.new.free.items i.pool.items b.new.pool.items c.args.run b.result head inv.laid taken within refl refl);
    }

pub returns : goal.returns
returns g c =
    let i = c.self.inside in
    let inv = c.self.invariant in
    let b = c.take_block-block in
    let head : Head g.row.T.Denot = record { first = c.args.filler; block = b.result; len = 0 } in
    let count = ap (λ (v : Shelf g.row.T.Denot). length v.runs) c.self.view_is in
    let most = ap (λ (v : Shelf g.row.T.Denot). v.most) c.self.view_is in
    let heads_count = length-map i.heads.items (run_of i.pool.items) in
    let within : c.args.run ≤ length i.heads.items = omega (arith, count, heads_count, c.requires.run) in
    let len = i.heads.ok.0 in
    let room : vec_len i.heads < vec_capacity i.heads = omega (arith, inv.heads_room, c.requires.room, count, most, heads_count) in
    let inserted : c.insert.new.self.items ≡ insert i.heads.items c.args.run head = succeeded c.insert.result _ i.heads.items c.insert.new.self.items (c.insert.ensures.succeeds room) c.insert.ensures.items in
    let taken : TakesBlock (length i.heads.items) i.free.items b.new.free.items i.pool.items b.new.pool.items b.result = subst (λ n. TakesBlock n i.free.items b.new.free.items i.pool.items b.new.pool.items b.result) (c.len.ensures ∙ omega (arith, len)) b.ensures.taken in
    view_changed (λ rs. insert rs c.args.run []) i.most (runs_in i.heads.items i.pool.items) (runs_in c.insert.new.self.items b.new.pool.items) c.args.self.now c.self.view_is
    (ap (λ hs. runs_in hs b.new.pool.items) inserted
    ∙ runs-open i.heads.items i.free.items b.new.free.items i.pool.items b.new.pool.items c.args.run b.result head inv.laid taken within refl)
