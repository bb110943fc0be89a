-- The first entry of a run stands where the run begins.
use Rattle.std.proofs.Common.{◌≡◌, ◌<◌, Some, ◌∙◌, ap, subst, arith, length}
use Rattle.std.proofs.lemmas.Option.{slice_get-get_or}
use Rattle.std.specs.Prelude.{slice_get}
use Rattle.block_list.specs.Runs.{Contents, entries_of, run_at, start_of}
use Rattle.block_list.proofs.Joined.{entries-get}
use Rattle.block_list.proofs.list.BlockList.first.Goals as goal

pub returns : goal.returns
returns g c =
    let runs = c.self.inside.runs.runs in
    let run = c.args.run in
    let within : run < length runs = let count = ap (λ (v : Contents g.row.T.Denot). length v.runs) c.self.view_is in omega (arith, count, c.requires) in
    subst (λ (v : Contents g.row.T.Denot). slice_get (entries_of v.runs) (start_of v.runs run) ≡ Some c.first.result) c.self.view_is
    (entries-get runs run 0 (start_of runs run) within c.first.ensures.used (omega arith)
    ∙ (slice_get-get_or (run_at runs run) 0 c.first.result c.first.ensures.used ∙ ap Some (c.first.ensures.value c.first.result)))
