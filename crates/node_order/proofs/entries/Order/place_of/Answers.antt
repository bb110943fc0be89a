use Rattle.std.proofs.Common.{◌≡◌, ◌<◌, ◌∙◌, arith, length, subst, sym}
use Rattle.block_list.specs.Places.{IsEntry, index_of}
use Rattle.block_list.specs.Runs.{entries_of}
use Rattle.node_order.specs.Entries.{Sequence}
use Rattle.node_order.proofs.EntryRuns.{entry_out, index-numbers, size-numbers}
use Rattle.node_order.proofs.entries.Order.place_of.Goals as goal

pub place_of-requires : goal.place_of-requires
place_of-requires c =
    let below = subst (λ (v : Sequence). c.args.index < length (entries_of v.runs)) (sym c.self.view_is) c.requires in
    omega (arith, below, size-numbers c.self.inside.list.runs)

pub returns-clause-entry : goal.returns-clause-entry
returns-clause-entry c = subst (λ (v : Sequence). IsEntry v.runs c.place_of.result) c.self.view_is (entry_out c.self.inside.list.runs c.place_of.result c.place_of.ensures.entry)

pub returns-clause-index : goal.returns-clause-index
returns-clause-index c =
    subst (λ (v : Sequence). index_of v.runs c.place_of.result ≡ c.args.index) c.self.view_is (index-numbers c.self.inside.list.runs c.place_of.result ∙ c.place_of.ensures.index)
