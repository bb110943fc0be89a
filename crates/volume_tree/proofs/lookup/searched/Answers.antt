use Rattle.std.proofs.Common.{◌≡◌, ℕ, Some, None, sym, ◌∙◌, ap, subst, true, false}
use Rattle.block_list.specs.Places.{index_of}
use Rattle.block_list.specs.Runs.{entries_of}
use Rattle.name_index.specs.Index.{Holds, has_lost}
use Rattle.node_order.specs.Order.{has_name}
use Rattle.node_order.proofs.SlotRows.{slots_ascend}
use Rattle.volume_tree.specs.Kept.{rows_of}
use Rattle.volume_tree.proofs.late.Named.{NoneHeld, listed_named, named_child, none_told, none_whole}
use Rattle.volume_tree.proofs.late.Registers.{few_listed}
use Rattle.volume_tree.proofs.lookup.searched.Goals as goal

pub returns-then-not-has_lost-clause-err : goal.returns-then-not-has_lost-clause-err
returns-then-not-has_lost-clause-err g c =
    let nodes = rows_of c.args.slots.now.slots in
    let r = c.args.register.now in
    none_whole nodes r.late.items r.index c.args.folder c.args.name.now (slots_ascend c.args.slots.now.slots c.requires.slots) c.requires.register.found
    (λ n held. c.requires.none n (subst (λ h. Holds r.index h n) (sym c.requires.hash) held))
    (ap (has_lost r.index) (sym c.requires.hash) ∙ (sym c.has_lost.ensures ∙ c.if-not-has_lost.true))

pub search-requires-clause-order : goal.search-requires-clause-order
search-requires-clause-order g c = c.requires.register.entered.listed

pub search-requires-clause-entries : goal.search-requires-clause-entries
search-requires-clause-entries g c = c.requires.register.entered.entries

pub search-requires-clause-few : goal.search-requires-clause-few
search-requires-clause-few g c = few_listed _ _ c.args.register.now c.requires.register

pub returns-in-Ok-clause-ok : goal.returns-in-Ok-clause-ok
returns-in-Ok-clause-ok g c =
    let nodes = rows_of c.args.slots.now.slots in
    let runs = c.args.register.now.order.runs in
    named_child nodes c.args.folder c.args.name.now c.get.result (slots_ascend c.args.slots.now.slots c.requires.slots) c.requires.apart
    (listed_named nodes (entries_of runs) c.args.folder c.args.name.now (index_of runs c.in-Ok.place) c.get.result c.requires.register.entered.listed c.in-Ok.ensures.named c.get.ensures)

pub returns-in-Err-clause-err : goal.returns-in-Err-clause-err
returns-in-Err-clause-err g c =
    let nodes = rows_of c.args.slots.now.slots in
    let r = c.args.register.now in
    none_told nodes r.order r.late.items r.index c.args.folder c.args.name.now (slots_ascend c.args.slots.now.slots c.requires.slots) c.requires.register.entered c.requires.register.found
    (λ n held. c.requires.none n (subst (λ h. Holds r.index h n) (sym c.requires.hash) held)) c.in-Err.ensures.none
