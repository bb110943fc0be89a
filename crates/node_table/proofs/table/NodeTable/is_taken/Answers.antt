-- A slot has a row if its row isn't an empty one.
use Rattle.std.proofs.Common.{not, sym, ◌∙◌, ap}
use Rattle.node_table.specs.Slots.{is_taken}
use Rattle.node_table.specs.Table.{Table}
use Rattle.node_table.proofs.SlotLaws.{taken_is}
use Rattle.node_table.proofs.table.NodeTable.is_taken.Goals as goal

pub returns : goal.returns
returns c = let i = c.self.inside in ap not c.is_empty.ensures ∙ (sym (taken_is c.args.number i.rows.rows i.names) ∙ ap (λ (t : Table). is_taken t.slots c.args.number) c.self.view_is)
