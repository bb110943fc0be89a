use Rattle.std.proofs.Common.{◌∙◌, ap, subst, sym}
use Rattle.block_list.specs.Places.{IsGap, index_of}
use Rattle.node_order.specs.Entries.{Sequence}
use Rattle.node_order.proofs.EntryRuns.{gap_in, index-numbers}
use Rattle.node_order.proofs.entries.Order.index_of.Goals as goal

pub index_of-requires : goal.index_of-requires
index_of-requires c = gap_in c.self.inside.list.runs c.args.place (subst (λ (v : Sequence). IsGap v.runs c.args.place) (sym c.self.view_is) c.requires)

pub returns : goal.returns
returns c =
    c.index_of.ensures ∙ (sym (index-numbers c.self.inside.list.runs c.args.place) ∙ ap (λ (v : Sequence). index_of v.runs c.args.place) c.self.view_is)
