use Rattle.std.proofs.Common.{◌≡◌, ◌-◌, false, true, ◌∙◌, sym, subst, arith}
use Rattle.std.proofs.lemmas.List.Elements.{All-contains}
use Rattle.block_list.specs.Places.{index_of}
use Rattle.block_list.specs.Runs.{entries_of}
use Rattle.fsrm_model.specs.nodes.Tree.{name_of}
use Rattle.fsrm_base.proofs.TestLaws.{lt_is}
use Rattle.node_table.specs.Slots.{rows_of}
use Rattle.node_order.specs.Entries.{IsOwn}
use Rattle.node_order.specs.Order.{IsFloor, is_before}
use Rattle.node_order.proofs.Pairs.{past_before}
use Rattle.node_order.proofs.Runs.{past_end}
use Rattle.node_order.proofs.Spans.{floor_past, place_some, place_none}
use Rattle.node_order.proofs.late.is_place.Goals as goal

pub returns-in-Some-entry_at-clause-place : goal.returns-in-Some-entry_at-clause-place
returns-in-Some-entry_at-clause-place c =
    λ t.
    let nodes = rows_of c.args.slots.now.slots in
    let runs = c.args.order.now.runs in
    let order = entries_of runs in
    let e = c.args.entry in
    let name = name_of nodes e.node in
    let place = c.args.place in
    let own = All-contains (IsOwn nodes) c.args.order.now.entries c.in-Some.before c.requires.entries.each c.in-Some.ensures.listed in
    let before : is_before own.row e.parent name ≡ true = sym (c.comes.ensures own.row own.found) ∙ c.if-not-comes.false in
    let floor : IsFloor nodes order e.parent name (index_of runs place) =
    subst (IsFloor nodes order e.parent name) (sym c.in-Some.ensures.index)
    (floor_past nodes order e.parent name (index_of runs (record place { offset = place.offset - 1 })) c.in-Some.before.node own.row c.requires.order c.in-Some.ensures.number own.found before) in
    let next = All-contains (IsOwn nodes) c.args.order.now.entries c.in-Some-entry_at.after c.requires.entries.each c.in-Some-entry_at.ensures.listed in
    let after = past_before nodes c.in-Some-entry_at.after e next c.requires.own (omega (arith, c.key_of.ensures, c.key_of-in-Some-entry_at.ensures, lt_is _ _ t)) in
    place_some nodes order e.parent name (index_of runs place) c.in-Some-entry_at.after.node next.row c.requires.order floor (sym c.in-Some-entry_at.ensures.number) next.found after

pub returns-in-None-clause-place : goal.returns-in-None-clause-place
returns-in-None-clause-place c =
    λ t.
    let nodes = rows_of c.args.slots.now.slots in
    let runs = c.args.order.now.runs in
    let order = entries_of runs in
    let e = c.args.entry in
    let name = name_of nodes e.node in
    let place = c.args.place in
    let own = All-contains (IsOwn nodes) c.args.order.now.entries c.in-Some.before c.requires.entries.each c.in-Some.ensures.listed in
    let before : is_before own.row e.parent name ≡ true = sym (c.comes.ensures own.row own.found) ∙ c.if-not-comes.false in
    let floor : IsFloor nodes order e.parent name (index_of runs place) =
    subst (IsFloor nodes order e.parent name) (sym c.in-Some.ensures.index)
    (floor_past nodes order e.parent name (index_of runs (record place { offset = place.offset - 1 })) c.in-Some.before.node own.row c.requires.order c.in-Some.ensures.number own.found before) in
    place_none nodes order e.parent name (index_of runs place) floor (past_end order (index_of runs place) floor.within (sym c.in-None.ensures.number))
