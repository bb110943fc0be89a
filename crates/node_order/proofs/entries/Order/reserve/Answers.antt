use Rattle.std.proofs.Common.{ap}
use Rattle.block_list.specs.Runs.{Contents, entries_of}
use Rattle.node_order.specs.Entries.{Sequence, numbers_in}
use Rattle.node_order.specs.declared.entries.Entry.{Entry}
use Rattle.node_order.proofs.entries.Order.reserve.Goals as goal

view : Contents Entry → Sequence
view l = record { room = l.room; runs = numbers_in l.runs; entries = entries_of l.runs }

pub returns : goal.returns
unfolding view
returns c = ap view c.in_ok-list.ensures
