use Rattle.std.proofs.Common.{◌∙◌}
use Rattle.fsrm_base.proofs.SortedRows.{insert_row}
use Rattle.row_table.specs.Indexed.{number_of}
use Rattle.row_table.proofs.order.add.Goals as goal

pub returns-clause-put : goal.returns-clause-put
returns-clause-put c =
    let gap = rw c.deref.ensures.value at c.gap-place.ensures in
    c.insert.ensures.put ∙ insert_row number_of c.args.entry c.args.order.now.items c.gap-place.result gap
