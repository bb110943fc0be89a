-- An entry is put into a run.
use Rattle.std.proofs.Common.{◌∙◌, ap, subst, sym, arith}
use Rattle.std.proofs.lemmas.List.Edits.{length-insert}
use Rattle.block_list.specs.Runs.{Shelf, entries_of, run_at}
use Rattle.block_list.specs.Tight.{IsTight}
use Rattle.block_list.proofs.Joined.{entries-insert}
use Rattle.block_list.proofs.Pairs.{tight-longer}
use Rattle.block_list.proofs.tight.put.Goals as goal

pub returns-then-run-lt-BLOCK-clause-entries : goal.returns-then-run-lt-BLOCK-clause-entries
returns-then-run-lt-BLOCK-clause-entries g c =
    ap (λ (v : Shelf g.row.T.Denot). entries_of v.runs) c.insert.ensures ∙ entries-insert c.args.runs.now.runs c.args.run c.args.place _ c.args.entry c.requires.run c.requires.place (omega arith)

pub returns-then-run-lt-BLOCK-clause-tight : goal.returns-then-run-lt-BLOCK-clause-tight
returns-then-run-lt-BLOCK-clause-tight g c =
    let runs = c.args.runs.now.runs in
    let longer = length-insert (run_at runs c.args.run) c.args.place c.args.entry c.requires.place in
    subst (λ (v : Shelf g.row.T.Denot). IsTight v.runs) (sym c.insert.ensures) (tight-longer runs c.args.run _ c.requires.tight c.requires.run (omega (arith, longer)))
