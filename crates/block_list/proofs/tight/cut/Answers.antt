-- An entry is taken out.
use Rattle.std.proofs.Common.{◌≡◌, ◌-◌, ◌∙◌, ap, subst, sym, arith, length}
use Rattle.block_list.specs.Runs.{Shelf, entries_of, run_at}
use Rattle.block_list.specs.Tight.{IsTight, IsTightBut}
use Rattle.block_list.proofs.Joined.{entries-end, entries-remove}
use Rattle.block_list.proofs.Pairs.{tight-end, tight_but-shorter}
use Rattle.block_list.proofs.tight.cut.Goals as goal

pub returns-then-run-eq1-clause-entries : goal.returns-then-run-eq1-clause-entries
returns-then-run-eq1-clause-entries g c =
    let runs = c.args.runs.now.runs in
    let one : length (run_at runs c.args.run) ≡ 1 = sym (ap length c.run.ensures.run) ∙ c.if-run-eq1.true in
    ap (λ (v : Shelf g.row.T.Denot). entries_of v.runs) c.end.ensures ∙ entries-end runs c.args.run _ c.requires.run one (let first = c.requires.place in omega arith)

pub returns-then-run-eq1-clause-tight : goal.returns-then-run-eq1-clause-tight
returns-then-run-eq1-clause-tight g c =
    let runs = c.args.runs.now.runs in
    let one : length (run_at runs c.args.run) ≡ 1 = sym (ap length c.run.ensures.run) ∙ c.if-run-eq1.true in
    subst (λ (v : Shelf g.row.T.Denot). IsTight v.runs) (sym c.end.ensures) (tight-end runs c.args.run c.requires.tight c.requires.run one)

pub returns-else-run-eq1-clause-entries : goal.returns-else-run-eq1-clause-entries
returns-else-run-eq1-clause-entries g c =
    let runs = c.args.runs.now.runs in
    c.join_if_small-else-run-eq1.ensures.entries
    ∙ (c.join_if_small.ensures.entries
    ∙ (ap (λ (v : Shelf g.row.T.Denot). entries_of v.runs) c.remove.ensures
    ∙ entries-remove runs c.args.run c.args.place _ c.requires.run c.requires.place (omega arith)))

pub returns-else-run-eq1-clause-tight : goal.returns-else-run-eq1-clause-tight
returns-else-run-eq1-clause-tight g c =
    let runs = c.args.runs.now.runs in
    let run = c.args.run in
    let but : IsTightBut c.remove.new.self.runs run (run - 1) = subst (λ (v : Shelf g.row.T.Denot). IsTightBut v.runs run (run - 1)) (sym c.remove.ensures) (tight_but-shorter runs run _ c.requires.tight c.requires.run) in
    let one = c.join_if_small.ensures.two (run - 1) (omega arith) but in
    let at = c.saturating_sub.ensures in
    c.join_if_small-else-run-eq1.ensures.one (subst (λ n. IsTightBut c.join_if_small.new.runs.runs n n) (sym at) one)
