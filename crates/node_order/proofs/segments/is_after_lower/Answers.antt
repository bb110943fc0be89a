use Rattle.std.proofs.Common.{◌≡◌, ◌+◌, ◌-◌, ◌<◌, get_or, length, subst, arith}
use Rattle.std.proofs.lemmas.Bool.Decides.{nat_tests}
use Rattle.block_list.specs.Places.{index_of}
use Rattle.block_list.specs.Runs.{start_of}
use Rattle.node_order.specs.Entries.{IsLower}
use Rattle.node_order.specs.declared.entries.Entry.{Entry}
use Rattle.node_order.proofs.segments.is_after_lower.Goals as goal

-- what stands past the end
abbrev none : Entry
none = record { prefix = 0; parent = 0; node = 0 }

pub returns-clause-gap : goal.returns-clause-gap
returns-clause-gap c = λ t. record { run = omega (arith, c.run_count.ensures.count); offset = omega (arith, c.run-entries.ensures.size) }

pub returns-clause-lower : goal.returns-clause-lower
returns-clause-lower c =
    λ t m.
    let runs = c.args.order.now.runs in
    let k = c.args.place.offset - 1 in
    let below : k < length c.run-entries.result.now = omega arith in
    let less : c.from.result < c.args.folder = grind (arith, nat_tests) in
    let is : start_of runs c.args.place.run + k ≡ index_of runs c.args.place - 1 = omega arith in
    subst (IsLower c.args.order.now c.args.folder) is
    (record {
      entry = get_or c.run-entries.result.now k none;
      at = c.run-entries.ensures.numbers k none below;
      listed = c.run-entries.ensures.listed k none below;
      lower = omega (arith, less, c.from.ensures);
    })
