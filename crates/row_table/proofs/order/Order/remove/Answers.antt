use Rattle.std.proofs.Common.{List, Some, ◌∙◌, ap, sym}
use Rattle.std.proofs.lemmas.Option.{slice_get-get_or}
use Rattle.std.specs.Prelude.{option_map}
use Rattle.std.specs.Vec.{vec_capacity}
use Rattle.fsrm_base.proofs.SortedRows.{remove_found}
use Rattle.row_table.specs.declared.index.Entry.{Entry}
use Rattle.row_table.specs.Indexed.{number_of, slot_of}
use Rattle.row_table.specs.Ordered.{living}
use Rattle.row_table.proofs.IndexLaws.{indexed}
use Rattle.row_table.proofs.OrderLaws.{order_less}
use Rattle.row_table.proofs.order.Order.remove.Goals as goal

pub invariant_of-self : goal.invariant_of-self
invariant_of-self c =
    let o = c.self.inside in
    let at = rw (c.deref.ensures.value, c.close.ensures.rest) at c.find-place.ensures in
    rw (c.close.ensures.rest, c.close.ensures.capacity) (order_less o.entries.items o.gone o.room (vec_capacity o.entries) c.args.number c.find-place.result c.self.invariant at)

pub returns : goal.returns
returns c =
    let o = c.self.inside in
    let there = living o.gone o.entries.items in
    let at = rw (c.deref.ensures.value, c.close.ensures.rest) at c.find-place.ensures in
    let read = rw c.close.ensures.rest at c.index.ensures in
    record {
      rest = rw (c.close.ensures.rest, ← c.self.view_is)
          (ap (λ (l : List Entry). indexed l o.room) (remove_found number_of c.args.number there c.find-place.result c.self.invariant.held.ascending at));
      slot = rw (← c.self.view_is)
          (ap (option_map slot_of) (sym at.found ∙ (slice_get-get_or there c.find-place.result c.index.result.now at.within ∙ ap Some (sym read))));
    }
