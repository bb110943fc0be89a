use Rattle.std.proofs.Common.{sym, ◌∙◌, ap, arith}
use Rattle.std.specs.Option.{option_copied}
use Rattle.std.specs.Prelude.{is_some}
use Rattle.fsrm_base.proofs.SortedRows.{there}
use Rattle.row_table.proofs.HeldLaws.{is_lent}
use Rattle.row_table.proofs.TableLaws.{count, row_at, table_of}
use Rattle.row_table.proofs.table.Table.at.Goals as goal

pub at-requires : goal.at-requires
at-requires g c = omega (arith, c.requires, count (table_of c.self.invariant c.self.view_is))

pub unwrap-requires : goal.unwrap-requires
unwrap-requires g c =
    let row = c.get.ensures.row ∙ row_at (table_of c.self.invariant c.self.view_is) c.args.place c.at.result c.at.ensures in
    is_lent c.get.result ∙ ap is_some (row ∙ (there c.args.self.now.rows c.args.place c.requires).is)

pub returns : goal.returns
returns g c =
    sym (row_at (table_of c.self.invariant c.self.view_is) c.args.place c.at.result c.at.ensures)
    ∙ (sym c.get.ensures.row ∙ ap option_copied c.unwrap.ensures)
