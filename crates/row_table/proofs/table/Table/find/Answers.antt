use Rattle.std.proofs.Common.{sym, ◌∙◌, arith}
use Rattle.std.proofs.lemmas.List.{at_drop_all}
use Rattle.std.specs.Prelude.{find}
use Rattle.row_table.proofs.HeldLaws.{find_at}
use Rattle.row_table.proofs.table.Table.find.Goals as goal

pub loop-place-preserved : goal.loop-place-preserved
loop-place-preserved g c =
    sym (rw (sym c.test.ensures ∙ c.if-test.false) at (find_at (g.T.Test.passes c.args.test.now) c.args.self.now.rows c.loop-place.place c.at-row.result.now c.at-row.ensures)) ∙ c.loop-place.invariant

pub returns-then-test-clause-row : goal.returns-then-test-clause-row
returns-then-test-clause-row g c =
    sym (rw (sym c.test.ensures ∙ c.if-test.true) at (find_at (g.T.Test.passes c.args.test.now) c.args.self.now.rows c.loop-place.place c.at-row.result.now c.at-row.ensures)) ∙ c.loop-place.invariant

pub returns-clause-row : goal.returns-clause-row
returns-clause-row g c =
    sym (at_drop_all (find (g.T.Test.passes c.args.test.now)) c.args.self.now.rows c.loop-place.place (omega (arith, c.len-place-end.ensures.count, c.loop-place-test.false))) ∙ c.loop-place.invariant
