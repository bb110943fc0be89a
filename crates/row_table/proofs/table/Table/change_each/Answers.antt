use Rattle.row_table.proofs.TableLaws.{kept_of, seen_of, table_mapped, table_of}
use Rattle.row_table.proofs.table.Table.change_each.Goals as goal

pub invariant_of-self : goal.invariant_of-self
invariant_of-self g c = rw c.change_each.ensures (kept_of (table_mapped c.self.invariant (g.E.Edit.edited c.args.edit.now) c.requires.keeps))

pub returns : goal.returns
returns g c = rw c.change_each.ensures (seen_of (table_mapped (table_of c.self.invariant c.self.view_is) (g.E.Edit.edited c.args.edit.now) c.requires.keeps))
