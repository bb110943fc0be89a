use Rattle.std.proofs.Common.{◌∙◌, ap}
use Rattle.fsrm_model.specs.nodes.Tree.{above}
use Rattle.fsrm_model.proofs.nodes.Climbs.{above_lacks, above_next, above_root, own_then_above}
use Rattle.volume_tree.specs.Kept.{rows_of}
use Rattle.volume_tree.specs.Ways.{left}
use Rattle.node_order.proofs.SlotLaws.{there_is}
use Rattle.volume_tree.proofs.slotted.WayLaws.{parent_is, way_next}
use Rattle.volume_tree.proofs.way_up.next_node.Goals as goal

pub returns-then-not-lent-clause-some : goal.returns-then-not-lent-clause-some
returns-then-not-lent-clause-some c =
    let rows = rows_of c.args.slots.now.slots in
    ap (left rows c.args.at) c.if-not-lent.true ∙ own_then_above rows c.args.at

pub returns-then-not-lent-clause-apart : goal.returns-then-not-lent-clause-apart
returns-then-not-lent-clause-apart c = above_lacks (rows_of c.args.slots.now.slots) c.requires.tree c.args.at c.requires.there

pub returns-then-at-eq0-clause-none : goal.returns-then-at-eq0-clause-none
returns-then-at-eq0-clause-none c =
    let rows = rows_of c.args.slots.now.slots in
    ap (left rows c.args.at) c.if-not-lent.false ∙ (ap (above rows) c.if-at-eq0.true ∙ above_root rows)

pub parent-requires : goal.parent-requires
parent-requires c = there_is c.args.at c.args.slots.now.slots c.requires.slots_are ∙ c.requires.there

pub returns-clause-there : goal.returns-clause-there
returns-clause-there c = way_next c.args.slots.now.slots c.args.at c.parent.result c.requires (parent_is c.args.slots.now.slots c.args.at c.parent.result c.requires c.parent.ensures)

pub returns-clause-apart : goal.returns-clause-apart
returns-clause-apart c =
    let next = way_next c.args.slots.now.slots c.args.at c.parent.result c.requires (parent_is c.args.slots.now.slots c.args.at c.parent.result c.requires c.parent.ensures) in
    above_lacks (rows_of c.args.slots.now.slots) next.tree c.parent.result next.there

pub returns-clause-some : goal.returns-clause-some
returns-clause-some c =
    let rows = rows_of c.args.slots.now.slots in
    ap (left rows c.args.at) c.if-not-lent.false
    ∙ above_next rows c.requires.tree c.args.at c.parent.result c.requires.there c.if-at-eq0.false (parent_is c.args.slots.now.slots c.args.at c.parent.result c.requires c.parent.ensures)
