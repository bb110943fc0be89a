-- The entries of a run stand in the list from where the run begins.
use Rattle.std.proofs.Common.{◌≡◌, ◌+◌, ◌<◌, ◌∙◌, ap, sym, subst, refl, arith, length}
use Rattle.std.specs.Prelude.{slice_get}
use Rattle.block_list.specs.Runs.{Contents, entries_of, start_of}
use Rattle.block_list.proofs.Joined.{entries-get}
use Rattle.block_list.proofs.list.BlockList.run.Goals as goal

pub returns-clause-entries : goal.returns-clause-entries
returns-clause-entries g c k inside =
    let runs = c.self.inside.runs.runs in
    let run = c.args.run in
    let within : run < length runs = let count = ap (λ (v : Contents g.row.T.Denot). length v.runs) c.self.view_is in omega (arith, count, c.requires) in
    subst (λ (v : Contents g.row.T.Denot). slice_get (entries_of v.runs) (start_of v.runs run + k) ≡ slice_get c.run.result.now k) c.self.view_is
    (entries-get runs run k (start_of runs run + k) within (omega (arith, inside, ap length c.run.ensures.run)) refl ∙ ap (λ r. slice_get r k) (sym c.run.ensures.run))
