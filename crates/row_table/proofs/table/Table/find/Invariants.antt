use Rattle.std.proofs.Common.{◌≡◌, drop}
use Rattle.std.specs.Prelude.{find}
use Rattle.row_table.proofs.table.Table.find.Given as goal

-- what is found from here on is what is found at all
abbrev pub invariant-loop-place : goal.invariant-loop-place
invariant-loop-place g l = find (g.T.Test.passes l.test) (drop l.place l.self.rows) ≡ find (g.T.Test.passes l.test) l.self.rows
