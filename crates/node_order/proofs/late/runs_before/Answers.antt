use Rattle.std.proofs.Common.{◌≡◌, ◌+◌, subst, arith}
use Rattle.std.proofs.lemmas.List.Elements.{All-contains}
use Rattle.block_list.specs.Runs.{entries_of, start_of}
use Rattle.fsrm_model.specs.nodes.Tree.{name_of}
use Rattle.node_table.specs.Slots.{rows_of}
use Rattle.node_order.specs.Entries.{IsOwn}
use Rattle.node_order.specs.Order.{IsCeiling}
use Rattle.node_order.proofs.Sought.{ceiling_last, runs_sought}
use Rattle.node_order.proofs.late.runs_before.Goals as goal

pub loop-size-init : goal.loop-size-init
loop-size-init c =
    let nodes = rows_of c.args.slots.now.slots in
    let runs = c.args.order.now.runs in
    let e = c.args.entry in
    let size = c.run_count-size.result in
    let same : size ≡ 0 + size = omega arith in
    record {
      within = omega (arith, c.run_count-size.ensures.count);
      floor = λ run is. absurd (omega (arith, is));
      ceiling = subst (λ k. IsCeiling nodes (entries_of runs) e.parent (name_of nodes e.node) (start_of runs k)) same
          (ceiling_last nodes (entries_of runs) e.parent (name_of nodes e.node) (start_of runs size) c.run_count-size.ensures.all);
    }

pub loop-size-preserved : goal.loop-size-preserved
loop-size-preserved c =
    let nodes = rows_of c.args.slots.now.slots in
    let e = c.args.entry in
    let own = All-contains (IsOwn nodes) c.args.order.now.entries c.first.result c.requires.entries.each c.first.ensures.listed in
    runs_sought nodes c.args.order.now.runs e.parent (name_of nodes e.node) c.loop-size.low c.loop-size.size c.passed-low.result c.first.result.node c.comes-before.result own.row
    c.requires.order c.loop-size.invariant c.loop-size-test.true c.first.ensures.number own.found (c.comes-before.ensures own.row own.found) c.passed-low.ensures

pub returns-clause-ceiling : goal.returns-clause-ceiling
returns-clause-ceiling c =
    let nodes = rows_of c.args.slots.now.slots in
    let runs = c.args.order.now.runs in
    let e = c.args.entry in
    let same : c.loop-size.low + c.loop-size.size ≡ c.loop-size.low = omega (arith, c.loop-size-test.false) in
    subst (λ k. IsCeiling nodes (entries_of runs) e.parent (name_of nodes e.node) (start_of runs k)) same c.loop-size.invariant.ceiling
