use Rattle.std.proofs.Common.{◌≡◌, ◌∙◌, length, subst, sym}
use Rattle.block_list.specs.Places.{IsGap, index_of}
use Rattle.block_list.specs.Runs.{entries_of}
use Rattle.node_order.specs.Entries.{Sequence}
use Rattle.node_order.proofs.EntryRuns.{gap_out, index-numbers, size-numbers}
use Rattle.node_order.proofs.entries.Order.end.Goals as goal

pub returns-clause-gap : goal.returns-clause-gap
returns-clause-gap c = subst (λ (v : Sequence). IsGap v.runs c.end.result) c.self.view_is (gap_out c.self.inside.list.runs c.end.result c.end.ensures.gap)

pub returns-clause-index : goal.returns-clause-index
returns-clause-index c =
    let runs = c.self.inside.list.runs in
    subst (λ (v : Sequence). index_of v.runs c.end.result ≡ length (entries_of v.runs)) c.self.view_is
    (index-numbers runs c.end.result ∙ (c.end.ensures.index ∙ sym (size-numbers runs)))
