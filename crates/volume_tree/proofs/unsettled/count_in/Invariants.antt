use Rattle.std.proofs.Common.{◌≡◌, ◌==◌, take}
use Rattle.std.specs.List.{count_by}
use Rattle.node_order.specs.declared.entries.Entry.{Entry}
use Rattle.volume_tree.proofs.unsettled.count_in.Given as goal

abbrev pub invariant-loop-entry : goal.invariant-loop-entry
invariant-loop-entry l = l.count ≡ count_by (λ (entry : Entry). entry.parent == l.folder) (take l.entry-index l.entries)
