use Rattle.std.proofs.Common.{◌≡◌, ℕ, Some, sym, ◌∙◌, ap, subst, refl, arith}
use Rattle.node_table.specs.Views.{seen}
use Rattle.volume_tree.specs.Kept.{rows_of}
use Rattle.block_list.specs.Places.{index_of}
use Rattle.block_list.specs.Runs.{entries_of}
use Rattle.volume_tree.proofs.late.Registers.{few_listed, own_late, own_place, register_awaken, register_out}
use Rattle.volume_tree.proofs.register.Register.leave.Goals as goal

pub search-requires-clause-order : goal.search-requires-clause-order
search-requires-clause-order g c = c.requires.register.entered.listed

pub search-requires-clause-entries : goal.search-requires-clause-entries
search-requires-clause-entries g c = c.requires.register.entered.entries

pub search-requires-clause-few : goal.search-requires-clause-few
search-requires-clause-few g c = few_listed _ _ c.args.self.now c.requires.register

pub returns-in-Ok-clause-left : goal.returns-in-Ok-clause-left
returns-in-Ok-clause-left g c =
    let nodes = rows_of c.args.slots.now.slots in
    let runs = c.args.self.now.order.runs in
    let at = index_of runs c.in-Ok.place in
    register_out nodes c.args.self.now _ c.args.row.now.number at
    (own_place nodes (entries_of runs) (seen c.args.row.now) at c.requires.apart c.requires.register.entered.listed c.requires.there c.requires.inner c.in-Ok.ensures.named)
    c.remove.ensures.numbers c.remove.ensures.entries c.remove.ensures.room refl (record { holds = c.forget.ensures.others; kept = c.forget.ensures.kept }) c.requires.register

pub returns-in-Err-clause-left : goal.returns-in-Err-clause-left
returns-in-Err-clause-left g c =
    let nodes = rows_of c.args.slots.now.slots in
    let old = c.args.self.now in
    let waits = own_late nodes old.order old.late.items (seen c.args.row.now) c.requires.register.entered c.requires.there c.requires.inner c.in-Err.ensures.none in
    register_awaken nodes old _ c.args.row.now.number refl (c.take_out.ensures.left waits) c.take_out.ensures.room (record { holds = c.forget.ensures.others; kept = c.forget.ensures.kept }) c.requires.register
