use Rattle.std.proofs.Common.{◌≡◌, ◌∷◌, ◌<◌, ℕ, List, [], suc, drop, length, get_or, sym, ◌∙◌, ap, subst, arith, add-one, drop-cons, All, ◌+◌, insert, true}
use Rattle.std.proofs.lemmas.List.{drop_all}
use Rattle.std.proofs.lemmas.List.Elements.{All-head}
use Rattle.node_order.specs.declared.entries.Entry.{Entry}
use Rattle.node_order.specs.Entries.{IsOwn, Sequence}
use Rattle.node_order.specs.Order.{IsPlace}
use Rattle.block_list.specs.Runs.{entries_of}
use Rattle.fsrm_base.specs.Keyed.{is_ascending}
use Rattle.fsrm_model.specs.declared.row.NodeRow.{NodeRow}
use Rattle.fsrm_model.specs.nodes.Tree.{name_of, number}
use Rattle.node_order.proofs.SlotRows.{slots_ascend}
use Rattle.volume_tree.specs.Kept.{rows_of}
use Rattle.volume_tree.specs.Late.{AreApart, AreEntered}
use Rattle.volume_tree.proofs.late.Entered.{entered_many}
use Rattle.volume_tree.proofs.late.Registers.{late_settled}
use Rattle.volume_tree.proofs.register.put_all.Goals as goal

-- what is left, and its first entry
left_at : (late : List Entry) (i : ℕ) (d : Entry) → i < length late → drop i late ≡ get_or late i d ∷ drop (i + 1) late
left_at late i d l = drop-cons late i d l ∙ ap (λ (k : ℕ). get_or late i d ∷ drop k late) (sym (add-one i))

own_at : (nodes : List NodeRow) (late : List Entry) (i : ℕ) (d : Entry) → i < length late → All (IsOwn nodes) (drop i late) → IsOwn nodes (get_or late i d)
own_at nodes late i d l own = All-head (IsOwn nodes) (get_or late i d) (drop (i + 1) late) (subst (λ (es : List Entry). All (IsOwn nodes) es) (left_at late i d l) own)

settled_at : (nodes : List NodeRow) (order more : Sequence) (late : List Entry) (i : ℕ) (d : Entry) (place : ℕ) → i < length late → is_ascending number nodes ≡ true → AreApart nodes → AreEntered nodes [] order (drop i late) → IsPlace nodes (entries_of order.runs) (get_or late i d).parent (name_of nodes (get_or late i d).node) place → entries_of more.runs ≡ insert (entries_of order.runs) place (get_or late i d).node → more.entries ≡ insert order.entries place (get_or late i d) → AreEntered nodes [] more (drop (i + 1) late)
settled_at nodes order more late i d place l a apart h at numbers entries =
    late_settled nodes order more (get_or late i d) (drop (i + 1) late) place a apart (subst (λ (es : List Entry). AreEntered nodes [] order es) (left_at late i d l) h) at numbers entries

pub late_place-place-requires-clause-order : goal.late_place-place-requires-clause-order
late_place-place-requires-clause-order c = c.loop-entry.invariant.entered.listed

pub late_place-place-requires-clause-entries : goal.late_place-place-requires-clause-entries
late_place-place-requires-clause-entries c = c.loop-entry.invariant.entered.entries

pub late_place-place-requires-clause-own : goal.late_place-place-requires-clause-own
late_place-place-requires-clause-own c = own_at (rows_of c.args.slots.now.slots) c.args.late.now c.loop-entry.entry-index _ c.loop-entry-test.true c.loop-entry.invariant.entered.own

pub insert-requires-clause-room : goal.insert-requires-clause-room
insert-requires-clause-room c = omega (arith, entered_many (rows_of c.args.slots.now.slots) [] c.loop-entry.order (drop c.loop-entry.entry-index c.args.late.now) c.loop-entry.invariant.entered, c.requires.room, c.loop-entry.invariant.room)

pub loop-entry-preserved : goal.loop-entry-preserved
loop-entry-preserved c =
    record {
      entered = settled_at (rows_of c.args.slots.now.slots) c.loop-entry.order c.insert.new.self c.args.late.now c.loop-entry.entry-index _ _ c.loop-entry-test.true (slots_ascend c.args.slots.now.slots c.requires.slots) c.requires.apart c.loop-entry.invariant.entered c.late_place-place.ensures.place c.insert.ensures.numbers c.insert.ensures.entries;
      room = c.insert.ensures.room ∙ c.loop-entry.invariant.room;
    }

pub returns-clause-entered : goal.returns-clause-entered
returns-clause-entered c = subst (λ (es : List Entry). AreEntered (rows_of c.args.slots.now.slots) [] c.loop-entry.order es) (drop_all c.loop-entry.entry-index c.args.late.now (omega arith)) c.loop-entry.invariant.entered
