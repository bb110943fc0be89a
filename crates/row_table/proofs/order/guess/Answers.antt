use Rattle.std.proofs.Common.{Some, ap, ◌∙◌, sym}
use Rattle.std.proofs.lemmas.Option.{slice_get-get_or}
use Rattle.row_table.proofs.OrderLaws.{at_number}
use Rattle.row_table.proofs.order.guess.Goals as goal

pub returns-then-entry-number : goal.returns-then-entry-number
returns-then-entry-number c =
    let entries = c.args.order.now in
    let entry = c.in_ok-entry.entry.now in
    let read = c.in_ok-entry.ensures.lookup in
    at_number entries c.args.number _ entry c.requires (slice_get-get_or entries _ entry read.3.0 ∙ ap Some (sym read.1)) c.if-entry-number.true
