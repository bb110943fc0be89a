-- An empty run is made, and an entry put into it.
use Rattle.std.proofs.Common.{◌≤◌, ◌∷◌, [], ◌∙◌, ap, arith, length, set, insert}
use Rattle.block_list.specs.Runs.{Shelf, run_at}
use Rattle.block_list.proofs.HeadLaws.{shelf}
use Rattle.block_list.proofs.ShelfLaws.{started}
use Rattle.block_list.proofs.runs.Runs.start.Goals as goal

pub returns : goal.returns
returns g c =
    let runs = c.self.inside.store.runs in
    let within : c.args.run ≤ length runs = let count = ap (λ (v : Shelf g.row.T.Denot). length v.runs) c.self.view_is in omega (arith, count, c.requires.run) in
    c.put.ensures
    ∙ (ap (λ (v : Shelf g.row.T.Denot). shelf v.most (set v.runs c.args.run (insert (run_at v.runs c.args.run) 0 c.args.entry))) c.open.ensures
    ∙ (ap (shelf c.self.inside.store.most) (started runs c.args.run c.args.entry within)
    ∙ ap (λ (v : Shelf g.row.T.Denot). shelf v.most (insert v.runs c.args.run (c.args.entry ∷ []))) c.self.view_is))
