use Rattle.std.proofs.Common.{Some, ◌∙◌, ap, sym}
use Rattle.std.proofs.lemmas.Option.{slice_get-get_or}
use Rattle.row_table.proofs.OrderLaws.{filled, living_ascending}
use Rattle.row_table.proofs.order.refill.Goals as goal

pub add-requires-clause-ascending : goal.add-requires-clause-ascending
add-requires-clause-ascending c = rw c.cut.ensures.rest (living_ascending (Some c.args.place) c.args.order.now.items c.requires.ascending c.requires.there)

pub returns-then-index-entry-clause-put : goal.returns-then-index-entry-clause-put
returns-then-index-entry-clause-put c =
    let items = c.args.order.now.items in
    let gone = c.index.result.now in
    filled items c.args.place gone c.args.entry c.requires.ascending
    (slice_get-get_or items c.args.place gone c.requires.there ∙ ap Some (sym c.index.ensures))
    c.if-index-entry.true
