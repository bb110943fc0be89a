-- Two neighbours are joined.
use Rattle.std.proofs.Common.{◌∙◌, ap, subst, sym, arith}
use Rattle.block_list.specs.Runs.{Shelf, entries_of}
use Rattle.block_list.specs.Tight.{IsTight, IsTightBut}
use Rattle.block_list.proofs.Joined.{entries-join}
use Rattle.block_list.proofs.Pairs.{tight-joined, tight_but-joined}
use Rattle.block_list.proofs.tight.join_if_small.Goals as goal

pub returns-then-run-le-BLOCK-clause-entries : goal.returns-then-run-le-BLOCK-clause-entries
returns-then-run-le-BLOCK-clause-entries g c = ap (λ (v : Shelf g.row.T.Denot). entries_of v.runs) c.join.ensures ∙ entries-join c.args.runs.now.runs c.args.run (omega arith)

pub returns-then-run-le-BLOCK-clause-one : goal.returns-then-run-le-BLOCK-clause-one
returns-then-run-le-BLOCK-clause-one g c = λ tight. subst (λ (v : Shelf g.row.T.Denot). IsTight v.runs) (sym c.join.ensures) (tight-joined c.args.runs.now.runs c.args.run (omega arith) tight)

pub returns-then-run-le-BLOCK-clause-two : goal.returns-then-run-le-BLOCK-clause-two
returns-then-run-le-BLOCK-clause-two g c = λ q le tight. subst (λ (v : Shelf g.row.T.Denot). IsTightBut v.runs q q) (sym c.join.ensures) (tight_but-joined c.args.runs.now.runs c.args.run q (omega arith) le tight)
