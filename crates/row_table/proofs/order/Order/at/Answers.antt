use Rattle.std.proofs.Common.{Some, ◌∙◌, ap, sym}
use Rattle.std.proofs.lemmas.Option.{slice_get-get_or}
use Rattle.row_table.specs.Ordered.{place_in}
use Rattle.row_table.proofs.OrderLaws.{stands, stands_within}
use Rattle.row_table.proofs.order.Order.at.Goals as goal

pub returns : goal.returns
returns c =
    let o = c.self.inside in
    let within = stands_within o.gone o.entries.items c.args.place c.self.invariant.there (rw (← c.self.view_is) at c.requires) in
    let read = rw c.place_in.ensures at c.index.ensures in
    rw (← c.self.view_is)
    (stands o.gone o.entries.items c.args.place
    ∙ (slice_get-get_or o.entries.items (place_in o.gone c.args.place) c.index.result.now within ∙ ap Some (sym read)))
