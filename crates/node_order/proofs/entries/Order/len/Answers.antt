use Rattle.std.proofs.Common.{◌∙◌, ap, length, sym}
use Rattle.block_list.specs.Runs.{entries_of}
use Rattle.node_order.specs.Entries.{Sequence}
use Rattle.node_order.proofs.EntryRuns.{size-numbers}
use Rattle.node_order.proofs.entries.Order.len.Goals as goal

pub returns : goal.returns
returns c = c.len.ensures.len ∙ (sym (size-numbers c.self.inside.list.runs) ∙ ap (λ (v : Sequence). length (entries_of v.runs)) c.self.view_is)
