use Rattle.std.proofs.Common.{◌∙◌}
use Rattle.std.specs.Option.{option_copied}
use Rattle.row_table.proofs.TableLaws.{row_noted, small_row, table_of}
use Rattle.row_table.proofs.table.Table.get.Goals as goal

pub returns : goal.returns
returns g c =
    let table = table_of c.self.invariant c.self.view_is in
    let row = c.get.ensures.row ∙ row_noted table c.args.number c.note.result c.note.ensures (λ none. c.get.ensures.few) in
    record { row = row; small = small_row table c.args.number (option_copied c.get.result) row; kept = table.held }
