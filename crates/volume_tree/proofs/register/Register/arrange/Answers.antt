use Rattle.std.proofs.Common.{◌≡◌, ℕ, List, [], length, sym, ◌∙◌, ap, subst, refl, arith}
use Rattle.node_order.specs.declared.entries.Entry.{Entry}
use Rattle.volume_tree.specs.Kept.{rows_of}
use Rattle.volume_tree.specs.Late.{AreEntered, AreFound, IsRegister}
use Rattle.volume_tree.proofs.late.Entered.{entered_turned}
use Rattle.volume_tree.proofs.late.Found.{found_fewer}
use Rattle.volume_tree.proofs.register.Register.arrange.Goals as goal

pub put_all-requires-clause-entered : goal.put_all-requires-clause-entered
put_all-requires-clause-entered c =
    let old = c.args.self.now in
    subst (AreEntered (rows_of c.args.slots.now.slots) [] old.order) (sym c.deref.ensures.value) (entered_turned (rows_of c.args.slots.now.slots) [] old.order old.late.items c.sort_unstable_by.new.self.items c.requires.register.entered c.sort_unstable_by.ensures.permutation)

pub put_all-requires-clause-room : goal.put_all-requires-clause-room
put_all-requires-clause-room c = c.requires.register.room

pub returns-clause-register : goal.returns-clause-register
returns-clause-register c =
    let nodes = rows_of c.args.slots.now.slots in
    let old = c.args.self.now in
    let h = c.requires.register in
    let none = c.clear.ensures.items in
    record {
      entered = subst (λ (late : List Entry). AreEntered nodes [] c.put_all.new.order late) (sym none) c.put_all.ensures.entered;
      found = subst (λ (late : List Entry). AreFound nodes [] late old.index) (sym none) (found_fewer nodes [] old.late.items [] old.index (λ n t. cc) h.found);
      room = omega (arith, h.room, c.put_all.ensures.room);
      reserved = omega (arith, h.reserved, c.put_all.ensures.room, c.clear.ensures.capacity, c.sort_unstable_by.ensures.capacity);
      few = omega (arith, h.few, c.put_all.ensures.room);
    }
