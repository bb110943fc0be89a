use Rattle.std.proofs.Common.{◌≡◌, ◌+◌, ◌-◌, ◌/◌, get_or, length, sym, subst, arith}
use Rattle.std.proofs.lemmas.List.Elements.{All-contains}
use Rattle.block_list.specs.Runs.{entries_of, start_of}
use Rattle.node_order.specs.Entries.{IsOwn}
use Rattle.node_table.specs.Slots.{rows_of}
use Rattle.node_order.specs.Order.{IsBeyond}
use Rattle.node_order.specs.declared.entries.Entry.{Entry}
use Rattle.node_order.proofs.Halving.{few_first}
use Rattle.node_order.proofs.Narrowed.{AreEntriesLeft, entries_left}
use Rattle.node_order.proofs.Spans.{named_place}
use Rattle.node_order.proofs.order.offset_of.Goals as goal

-- what stands past the end
abbrev none : Entry
none = record { prefix = 0; parent = 0; node = 0 }

pub loop-size-init : goal.loop-size-init
loop-size-init g c =
    let runs = c.args.order.now.runs in
    let count = length c.run-entries.result.now in
    let whole : start_of runs (c.args.run + 1) ≡ start_of runs c.args.run + (1 + (count - 1)) = omega (arith, c.run-entries.ensures.next, c.run-entries.ensures.some) in
    record {
      within = omega (arith, c.run-entries.ensures.some);
      floor = c.requires.floor;
      beyond = subst (IsBeyond (rows_of c.args.slots.now.slots) (entries_of runs) c.args.folder c.args.name.now) whole c.requires.beyond;
      few = few_first c.args.steps.now 7 (count - 1) (omega (arith, c.run-entries.ensures.most, c.run-entries.ensures.some));
      least = omega arith;
    }

pub is_before-requires-clause-entry : goal.is_before-requires-clause-entry
is_before-requires-clause-entry g c =
    let middle = c.loop-size.low + (c.loop-size.size - 1) / 2 in
    All-contains (IsOwn (rows_of c.args.slots.now.slots)) c.args.order.now.entries (get_or c.run-entries.result.now middle none) c.requires.entries.each
    (c.run-entries.ensures.listed middle none (omega (arith, c.loop-size.invariant.within, c.loop-size-test.true)))

pub loop-size-preserved : goal.loop-size-preserved
loop-size-preserved g c =
    let runs = c.args.order.now.runs in
    let middle = c.loop-size.low + (c.loop-size.size - 1) / 2 in
    let at = c.run-entries.ensures.numbers middle none (omega (arith, c.loop-size.invariant.within, c.loop-size-test.true)) in
    let stands = c.in-Some.ensures.stands in
    subst (AreEntriesLeft (rows_of c.args.slots.now.slots) (entries_of runs) c.args.folder c.args.name.now (start_of runs c.args.run) (length c.run-entries.result.now) c.args.steps.now (c.loop-size.low + c.passed-low.result) (c.loop-size.size / 2)) (sym c.in-Some.ensures.count)
    (entries_left (rows_of c.args.slots.now.slots) (entries_of runs) c.args.folder c.args.name.now (start_of runs c.args.run) (length c.run-entries.result.now) c.args.steps.now c.loop-size.low c.loop-size.size c.loop-size.steps c.passed-low.result (get_or c.run-entries.result.now middle none).node c.in-Some.before stands.row
    c.requires.order c.loop-size.invariant c.loop-size-test.true at stands.found stands.before_is stands.other c.passed-low.ensures)

pub returns-in_default-clause-named : goal.returns-in_default-clause-named
returns-in_default-clause-named g c =
    let middle = c.loop-size.low + (c.loop-size.size - 1) / 2 in
    let at = c.run-entries.ensures.numbers middle none (omega (arith, c.loop-size.invariant.within, c.loop-size-test.true)) in
    let stands = c.in_default.ensures.stands in
    record { number = (get_or c.run-entries.result.now middle none).node; row = stands.row; at = at; found = stands.found; named = stands.named }

pub returns-in_default-clause-taken : goal.returns-in_default-clause-taken
returns-in_default-clause-taken g c =
    named_place (rows_of c.args.slots.now.slots) (entries_of c.args.order.now.runs) c.args.folder c.args.name.now (start_of c.args.order.now.runs c.args.run + (c.loop-size.low + (c.loop-size.size - 1) / 2)) c.requires.order
    (returns-in_default-clause-named g c)

pub returns-clause-beyond : goal.returns-clause-beyond
returns-clause-beyond g c =
    let runs = c.args.order.now.runs in
    let same : c.loop-size.low + c.loop-size.size ≡ c.loop-size.low = omega arith in
    subst (λ k. IsBeyond (rows_of c.args.slots.now.slots) (entries_of runs) c.args.folder c.args.name.now (start_of runs c.args.run + k)) same c.loop-size.invariant.beyond
