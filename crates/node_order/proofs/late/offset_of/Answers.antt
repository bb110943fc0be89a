use Rattle.std.proofs.Common.{◌≡◌, ◌+◌, ◌-◌, ◌/◌, get_or, length, subst, arith}
use Rattle.std.proofs.lemmas.List.Elements.{All-contains}
use Rattle.block_list.specs.Runs.{entries_of, start_of}
use Rattle.fsrm_model.specs.nodes.Tree.{name_of}
use Rattle.node_table.specs.Slots.{rows_of}
use Rattle.node_order.specs.Entries.{IsOwn}
use Rattle.node_order.specs.Order.{IsCeiling}
use Rattle.node_order.specs.declared.entries.Entry.{Entry}
use Rattle.node_order.proofs.Sought.{entries_sought, place_between}
use Rattle.node_order.proofs.late.offset_of.Goals as goal

-- what stands past the end
abbrev none : Entry
none = record { prefix = 0; parent = 0; node = 0 }

pub loop-size-init : goal.loop-size-init
loop-size-init c =
    let nodes = rows_of c.args.slots.now.slots in
    let runs = c.args.order.now.runs in
    let e = c.args.entry in
    let count = length c.run-entries.result.now in
    let whole : start_of runs (c.args.run + 1) ≡ start_of runs c.args.run + (1 + (count - 1)) = omega (arith, c.run-entries.ensures.next, c.run-entries.ensures.some) in
    record {
      within = omega (arith, c.run-entries.ensures.some);
      floor = c.requires.floor;
      ceiling = subst (IsCeiling nodes (entries_of runs) e.parent (name_of nodes e.node)) whole c.requires.ceiling;
    }

pub comes-before-requires-clause-entry : goal.comes-before-requires-clause-entry
comes-before-requires-clause-entry c =
    let middle = c.loop-size.low + (c.loop-size.size - 1) / 2 in
    All-contains (IsOwn (rows_of c.args.slots.now.slots)) c.args.order.now.entries (get_or c.run-entries.result.now middle none) c.requires.entries.each
    (c.run-entries.ensures.listed middle none (omega (arith, c.loop-size.invariant.within, c.loop-size-test.true)))

pub loop-size-preserved : goal.loop-size-preserved
loop-size-preserved c =
    let nodes = rows_of c.args.slots.now.slots in
    let runs = c.args.order.now.runs in
    let e = c.args.entry in
    let middle = c.loop-size.low + (c.loop-size.size - 1) / 2 in
    let own = All-contains (IsOwn nodes) c.args.order.now.entries (get_or c.run-entries.result.now middle none) c.requires.entries.each
    (c.run-entries.ensures.listed middle none (omega (arith, c.loop-size.invariant.within, c.loop-size-test.true))) in
    let at = c.run-entries.ensures.numbers middle none (omega (arith, c.loop-size.invariant.within, c.loop-size-test.true)) in
    entries_sought nodes (entries_of runs) e.parent (name_of nodes e.node) (start_of runs c.args.run) (length c.run-entries.result.now) c.loop-size.low c.loop-size.size c.passed-low.result (get_or c.run-entries.result.now middle none).node c.comes-before.result own.row
    c.requires.order c.loop-size.invariant c.loop-size-test.true at own.found (c.comes-before.ensures own.row own.found) c.passed-low.ensures

pub returns-clause-place : goal.returns-clause-place
returns-clause-place c =
    let nodes = rows_of c.args.slots.now.slots in
    let runs = c.args.order.now.runs in
    let e = c.args.entry in
    let same : c.loop-size.low + c.loop-size.size ≡ c.loop-size.low = omega (arith, c.loop-size-test.false) in
    place_between nodes (entries_of runs) e.parent (name_of nodes e.node) (start_of runs c.args.run + c.loop-size.low) c.loop-size.invariant.floor
    (subst (λ k. IsCeiling nodes (entries_of runs) e.parent (name_of nodes e.node) (start_of runs c.args.run + k)) same c.loop-size.invariant.ceiling)
