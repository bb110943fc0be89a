use Rattle.std.proofs.Common.{◌≡◌, ◌+◌, length, drop, Some, sym, ◌∙◌, ap, subst, arith}
use Rattle.std.proofs.lemmas.List.{take_all}
use Rattle.fsrm_model.specs.declared.row.NodeRow.{NodeRow}
use Rattle.fsrm_model.specs.nodes.Tree.{name_bytes}
use Rattle.node_table.specs.Slots.{is_taken, with_slot}
use Rattle.node_table.specs.Table.{Table, no_nodes}
use Rattle.node_table.specs.Views.{IsInRange}
use Rattle.volume_tree.specs.Kept.{rows_of, AreSlots}
use Rattle.volume_tree.specs.Sound.{are_from}
use Rattle.volume_tree.proofs.slotted.FromRows.{next_row}
use Rattle.volume_tree.proofs.rows.filled.Goals as goal

pub put-requires-clause-within : goal.put-requires-clause-within
put-requires-clause-within c =
    let inv = c.loop-row.invariant in
    let next = next_row c.args.size.nodes c.args.size.names c.loop-row.slots.slots c.args.rows.now c.loop-row.row-index c.row-item.result (omega arith) c.row-item.is inv.slots_are inv.taken inv.rest c.requires.range c.requires.names in
    omega (arith, next.below, inv.nodes_are, ap (λ (r : NodeRow). r.number) c.of.ensures)

pub put-requires-clause-empty : goal.put-requires-clause-empty
put-requires-clause-empty c =
    let inv = c.loop-row.invariant in
    let next = next_row c.args.size.nodes c.args.size.names c.loop-row.slots.slots c.args.rows.now c.loop-row.row-index c.row-item.result (omega arith) c.row-item.is inv.slots_are inv.taken inv.rest c.requires.range c.requires.names in
    ap (λ (r : NodeRow). is_taken c.loop-row.slots.slots r.number) c.of.ensures ∙ next.empty

pub put-requires-clause-room : goal.put-requires-clause-room
put-requires-clause-room c =
    let inv = c.loop-row.invariant in
    let next = next_row c.args.size.nodes c.args.size.names c.loop-row.slots.slots c.args.rows.now c.loop-row.row-index c.row-item.result (omega arith) c.row-item.is inv.slots_are inv.taken inv.rest c.requires.range c.requires.names in
    omega (arith, next.room, inv.names_are, ap name_bytes inv.taken, ap (λ (r : NodeRow). length r.name) c.of.ensures)

pub put-requires-clause-range : goal.put-requires-clause-range
put-requires-clause-range c =
    let inv = c.loop-row.invariant in
    let next = next_row c.args.size.nodes c.args.size.names c.loop-row.slots.slots c.args.rows.now c.loop-row.row-index c.row-item.result (omega arith) c.row-item.is inv.slots_are inv.taken inv.rest c.requires.range c.requires.names in
    subst IsInRange (sym c.of.ensures) next.range

pub loop-row-init : goal.loop-row-init
loop-row-init c =
    let made : c.in_ok-slots.slots ≡ no_nodes c.args.size.nodes c.args.size.names = c.in_ok-slots.ensures in
    record {
      nodes_are = ap (λ (t : Table). t.nodes) made;
      names_are = ap (λ (t : Table). t.names) made;
      slots_are = subst (λ (t : Table). AreSlots 0 t.slots) (sym made) tt;
      taken = ap (λ (t : Table). rows_of t.slots) made;
      rest = ap (λ (t : Table). are_from (length t.slots) c.args.size.nodes c.args.rows.now) made ∙ c.requires.listed;
      fit = omega (arith, ap (λ (t : Table). length t.slots) made);
    }

pub loop-row-preserved : goal.loop-row-preserved
loop-row-preserved c =
    let inv = c.loop-row.invariant in
    let slots = c.loop-row.slots.slots in
    let row = c.row-item.result in
    let next = next_row c.args.size.nodes c.args.size.names slots c.args.rows.now c.loop-row.row-index row (omega arith) c.row-item.is inv.slots_are inv.taken inv.rest c.requires.range c.requires.names in
    let table : c.put.new.self ≡ record c.loop-row.slots { slots = with_slot slots row.number (Some row) } = c.put.ensures ∙ ap (λ (r : NodeRow). record c.loop-row.slots { slots = with_slot slots r.number (Some r) }) c.of.ensures in
    let made : c.put.new.self.slots ≡ with_slot slots row.number (Some row) = ap (λ (t : Table). t.slots) table in
    record {
      nodes_are = ap (λ (t : Table). t.nodes) table ∙ inv.nodes_are;
      names_are = ap (λ (t : Table). t.names) table ∙ inv.names_are;
      slots_are = subst (AreSlots 0) (sym made) next.slots_are;
      taken = ap rows_of made ∙ next.rows_are;
      rest = ap (λ ss. are_from (length ss) c.args.size.nodes (drop (c.loop-row.row-index + 1) c.args.rows.now)) made ∙ next.rest;
      fit = omega (arith, next.fit, ap length made);
    }

pub returns : goal.returns
returns c =
    let inv = c.loop-row.invariant in
    record {
      nodes_are = inv.nodes_are;
      names_are = inv.names_are;
      slots_are = inv.slots_are;
      rows_are = inv.taken ∙ take_all c.loop-row.row-index c.args.rows.now (omega arith);
      fit = inv.fit;
    }
