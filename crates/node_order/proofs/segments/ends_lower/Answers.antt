use Rattle.std.proofs.Common.{◌≤◌, sym, arith}
use Rattle.std.proofs.lemmas.Bool.Decides.{nat_tests}
use Rattle.block_list.specs.Places.{index_of}
use Rattle.block_list.specs.Runs.{entries_of}
use Rattle.node_order.proofs.Lower.{none_past}
use Rattle.node_order.proofs.segments.ends_lower.Goals as goal

pub returns-in-Some : goal.returns-in-Some
returns-in-Some c =
    λ t m.
    let most : c.args.folder ≤ c.from.result = grind (arith, nat_tests) in
    record { entry = c.in-Some.entry; at = sym c.in-Some.ensures.number; listed = c.in-Some.ensures.listed; other = omega (arith, most, c.from.ensures) }

pub returns-in-None : goal.returns-in-None
returns-in-None c = λ t m. absurd (none_past (entries_of c.args.order.now.runs) (index_of c.args.order.now.runs c.args.place) (sym c.in-None.ensures.number) m)
