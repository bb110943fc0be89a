use Rattle.std.proofs.Common.{◌≡◌, slice_get, Some, subst, sym}
use Rattle.block_list.specs.Places.{IsEntry, index_of}
use Rattle.block_list.specs.Runs.{entries_of}
use Rattle.node_order.specs.Entries.{Sequence, numbers_in}
use Rattle.node_order.proofs.EntryRuns.{entry_in, get-numbers, index-numbers}
use Rattle.node_order.proofs.entries.Order.get.Goals as goal

pub get-requires : goal.get-requires
get-requires c = entry_in c.self.inside.list.runs c.args.place (subst (λ (v : Sequence). IsEntry v.runs c.args.place) (sym c.self.view_is) c.requires)

pub returns : goal.returns
returns c =
    let runs = c.self.inside.list.runs in
    let place = c.args.place in
    subst (λ (v : Sequence). slice_get (entries_of v.runs) (index_of v.runs place) ≡ Some c.get.result.node) c.self.view_is
    (get-numbers runs (index_of runs place) (index_of (numbers_in runs) place) c.get.result (index-numbers runs place) c.get.ensures)
