-- An entry comes after a full run.
use Rattle.std.proofs.Common.{◌≡◌, ◌+◌, ◌<◌, ◌∙◌, ap, subst, sym, arith, length}
use Rattle.std.proofs.lemmas.List.Edits.{length-insert}
use Rattle.block_list.specs.Runs.{Shelf, entries_of, run_at}
use Rattle.block_list.specs.Tight.{IsTight}
use Rattle.block_list.proofs.Joined.{entries_more, entries-insert, entries-start}
use Rattle.block_list.proofs.Pairs.{tight-longer, tight-start}
use Rattle.block_list.proofs.tight.append.Given as given
use Rattle.block_list.proofs.tight.append.Goals as goal
use Rattle.block_list.proofs.tight.append.Goals.{else-next-count-via-then-next-count+else-run-lt-BLOCK, else-next-count-via-else-next-count}

pub returns-then-run-lt-BLOCK-clause-entries : goal.returns-then-run-lt-BLOCK-clause-entries
returns-then-run-lt-BLOCK-clause-entries g c =
    let runs = c.args.runs.now.runs in
    let more = entries_more runs c.args.run c.requires.run in
    ap (λ (v : Shelf g.row.T.Denot). entries_of v.runs) c.insert.ensures ∙ entries-insert runs (c.args.run + 1) 0 _ c.args.entry (omega arith) (omega arith) (omega (arith, more, c.requires.full))

pub returns-then-run-lt-BLOCK-clause-tight : goal.returns-then-run-lt-BLOCK-clause-tight
returns-then-run-lt-BLOCK-clause-tight g c =
    let runs = c.args.runs.now.runs in
    let longer = length-insert (run_at runs (c.args.run + 1)) 0 c.args.entry (omega arith) in
    subst (λ (v : Shelf g.row.T.Denot). IsTight v.runs) (sym c.insert.ensures) (tight-longer runs (c.args.run + 1) _ c.requires.tight (omega arith) (omega (arith, longer)))

pub returns-clause-entries : goal.returns-clause-entries
returns-clause-entries g c =
    let runs = c.args.runs.now.runs in
    let more = entries_more runs c.args.run c.requires.run in
    ap (λ (v : Shelf g.row.T.Denot). entries_of v.runs) c.start.ensures ∙ entries-start runs (c.args.run + 1) _ c.args.entry (omega arith) (omega (arith, more, c.requires.full))

-- the next run, if there is one, is full
next : (g : given.Over) (c : goal.After-start g) → c.args.run + 1 < length c.args.runs.now.runs → length (run_at c.args.runs.now.runs (c.args.run + 1)) ≡ 128
next g c within =
    elim c.else-next-count.branch [
      | else-next-count-via-then-next-count+else-run-lt-BLOCK w ↦ let same = ap length w.run.ensures.run in omega (arith, same, w.run.ensures.most)
      | else-next-count-via-else-next-count w ↦ absurd (omega arith)
    ]

pub returns-clause-tight : goal.returns-clause-tight
returns-clause-tight g c =
    let runs = c.args.runs.now.runs in
    subst (λ (v : Shelf g.row.T.Denot). IsTight v.runs) (sym c.start.ensures) (tight-start runs c.args.run c.args.entry c.requires.tight c.requires.run c.requires.full (next g c))
