use Rattle.std.proofs.Common.{◌≡◌, ◌+◌, ◌-◌, ◌<◌, get_or, length, subst, arith}
use Rattle.block_list.specs.Runs.{start_of}
use Rattle.node_order.specs.Entries.{IsLower}
use Rattle.node_order.specs.declared.entries.Entry.{Entry}
use Rattle.node_order.proofs.segments.pass_lower.Goals as goal

-- what stands past the end
abbrev none : Entry
none = record { prefix = 0; parent = 0; node = 0 }

pub lower_end-offset-requires-clause-from : goal.lower_end-offset-requires-clause-from
lower_end-offset-requires-clause-from c = omega (arith, c.requires.offset, c.run-entries.ensures.size)

pub returns-clause-gap : goal.returns-clause-gap
returns-clause-gap c = record { run = c.requires.run; offset = omega (arith, c.lower_end-offset.ensures.within, c.run-entries.ensures.size) }

pub returns-clause-lower : goal.returns-clause-lower
returns-clause-lower c =
    λ m.
    let runs = c.args.order.now.runs in
    let end = c.lower_end-offset.result in
    let k = end - 1 in
    let within = c.lower_end-offset.ensures.within in
    let more : c.args.place.offset < end = omega arith in
    let below : k < length c.run-entries.result.now = omega arith in
    let is : start_of runs c.args.place.run + k ≡ start_of runs c.args.place.run + end - 1 = omega arith in
    subst (IsLower c.args.order.now c.args.folder) is
    (record {
      entry = get_or c.run-entries.result.now k none;
      at = c.run-entries.ensures.numbers k none below;
      listed = c.run-entries.ensures.listed k none below;
      lower = c.lower_end-offset.ensures.lower more;
    })
