-- No place comes after the last entry.
use Rattle.std.proofs.Common.{◌≡◌, ◌<◌, ap, arith, length}
use Rattle.block_list.specs.Runs.{Contents, entries_of, run_at, start_of}
use Rattle.block_list.proofs.Joined.{gap_within, entries_place}
use Rattle.block_list.proofs.list.BlockList.index_of.Goals as goal

pub overflow_add-index : goal.overflow_add-index
overflow_add-index g c =
    let runs = c.args.self.now.runs in
    let run = c.loop-run.run in
    let gap = gap_within runs c.args.place c.requires in
    let count = ap (λ (v : Contents g.row.T.Denot). length v.runs) c.self.view_is in
    let total = ap (λ (v : Contents g.row.T.Denot). length (entries_of v.runs)) c.self.view_is in
    let width = ap length c.run.ensures.run in
    let same = ap (λ (v : Contents g.row.T.Denot). length (run_at v.runs run)) c.self.view_is in
    let within : run < length runs = omega (arith, c.requires.run, c.loop-run-test.true) in
    let before = entries_place runs run (length (run_at runs run)) within (omega arith) in
    omega (arith, gap, total, width, same, before, c.self.invariant.within, c.self.invariant.small, c.loop-run.invariant)

pub overflow_cast-result : goal.overflow_cast-result
overflow_cast-result g c =
    let runs = c.args.self.now.runs in
    let gap = gap_within runs c.args.place c.requires in
    let total = ap (λ (v : Contents g.row.T.Denot). length (entries_of v.runs)) c.self.view_is in
    let last : c.loop-run.run ≡ c.args.place.run = omega arith in
    let start = ap (λ run. start_of runs run) last in
    omega (arith, gap, total, start, c.self.invariant.within, c.self.invariant.small, c.loop-run.invariant)
