use Rattle.std.proofs.Common.{◌≡◌, ℕ, true, length, List, ◌∷◌, sym, ◌∙◌, ap, subst, refl, arith}
use Rattle.fsrm_model.specs.declared.row.NodeRow.{NodeRow}
use Rattle.name_index.specs.Index.{Holds, has_lost}
use Rattle.node_table.specs.Views.{seen}
use Rattle.node_order.proofs.SlotRows.{slots_ascend}
use Rattle.volume_tree.specs.Kept.{rows_of}
use Rattle.volume_tree.proofs.late.Entered.{entered_many}
use Rattle.volume_tree.proofs.late.Registers.{own_entry, register_late, register_put}
use Rattle.volume_tree.proofs.register.Register.enter.Goals as goal

pub push_reserved-requires : goal.push_reserved-requires
push_reserved-requires c =
    let h = c.requires.absent.1 in
    let old = c.args.self.now in
    let many = entered_many (rows_of c.args.slots.now.slots) (c.args.row.now.number ∷ c.requires.absent.0) old.order old.late.items h.entered in
    omega (arith, many, h.room, h.reserved)

pub returns-then-enter : goal.returns-then-enter
returns-then-enter c = record {
  entered = λ rest h. register_late (rows_of c.args.slots.now.slots) rest c.args.self.now _ c.at-entry.result (seen c.args.row.now) c.requires.there c.at-entry.ensures refl c.push_reserved.ensures.items c.push_reserved.ensures.capacity
      (subst (λ hash. Holds c.enter.new.self hash c.args.row.now.number) c.requires.hash (c.enter.ensures.held c.if-enter.true)) (record { holds = c.enter.ensures.others; kept = c.enter.ensures.kept }) h;
  room = refl;
}

pub late_place-place-requires-clause-order : goal.late_place-place-requires-clause-order
late_place-place-requires-clause-order c = c.requires.absent.1.entered.listed

pub late_place-place-requires-clause-entries : goal.late_place-place-requires-clause-entries
late_place-place-requires-clause-entries c = c.requires.absent.1.entered.entries

pub late_place-place-requires-clause-own : goal.late_place-place-requires-clause-own
late_place-place-requires-clause-own c = own_entry (rows_of c.args.slots.now.slots) c.at-entry.result (seen c.args.row.now) c.at-entry.ensures c.requires.there

pub insert-requires-clause-room : goal.insert-requires-clause-room
insert-requires-clause-room c =
    let h = c.requires.absent.1 in
    let old = c.args.self.now in
    let many = entered_many (rows_of c.args.slots.now.slots) (c.args.row.now.number ∷ c.requires.absent.0) old.order old.late.items h.entered in
    omega (arith, many, h.room)

pub returns : goal.returns
returns c = record {
  entered = λ rest h. register_put (rows_of c.args.slots.now.slots) rest c.args.self.now _ c.at-entry.result (seen c.args.row.now) _ (slots_ascend c.args.slots.now.slots c.requires.slots) c.requires.there c.requires.inner c.at-entry.ensures c.late_place-place.ensures.place c.requires.alone c.insert.ensures.numbers c.insert.ensures.entries c.insert.ensures.room refl
      (subst (λ hash. has_lost c.enter.new.self hash ≡ true) c.requires.hash (c.enter.ensures.lost c.if-enter.false)) (record { holds = c.enter.ensures.others; kept = c.enter.ensures.kept }) h;
  room = c.insert.ensures.room;
}
