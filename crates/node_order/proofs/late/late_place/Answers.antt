use Rattle.std.proofs.Common.{◌≡◌, ◌+◌, ◌-◌, subst, arith}
use Rattle.block_list.specs.Runs.{entries_of, start_of}
use Rattle.fsrm_model.specs.nodes.Tree.{name_of}
use Rattle.node_table.specs.Slots.{rows_of}
use Rattle.node_order.specs.Order.{IsCeiling}
use Rattle.node_order.proofs.Sought.{place_between}
use Rattle.node_order.proofs.Spans.{floor_first}
use Rattle.node_order.proofs.late.late_place.Goals as goal

pub returns-then-count-eq0-clause-place : goal.returns-then-count-eq0-clause-place
returns-then-count-eq0-clause-place c =
    let nodes = rows_of c.args.slots.now.slots in
    let order = entries_of c.args.order.now.runs in
    let e = c.args.entry in
    place_between nodes order e.parent (name_of nodes e.node) 0 (floor_first nodes order e.parent (name_of nodes e.node))
    (subst (λ k. IsCeiling nodes order e.parent (name_of nodes e.node) (start_of c.args.order.now.runs k)) c.if-count-eq0.true c.runs_before-count.ensures.ceiling)

pub offset_of-offset-requires-clause-ceiling : goal.offset_of-offset-requires-clause-ceiling
offset_of-offset-requires-clause-ceiling c =
    let nodes = rows_of c.args.slots.now.slots in
    let order = entries_of c.args.order.now.runs in
    let e = c.args.entry in
    let same : c.runs_before-count.result ≡ c.runs_before-count.result - 1 + 1 = omega (arith, c.if-count-eq0.false) in
    subst (λ k. IsCeiling nodes order e.parent (name_of nodes e.node) (start_of c.args.order.now.runs k)) same c.runs_before-count.ensures.ceiling
