use Rattle.std.proofs.Common.{◌≤◌, length, arith}
use Rattle.volume_tree.specs.Kept.{rows_of}
use Rattle.volume_tree.proofs.late.ChildNext.{next_none, none_next, some_next}
use Rattle.volume_tree.proofs.unsettled.next_child.Goals as goal

pub loop-number-init : goal.loop-number-init
loop-number-init c = next_none (rows_of c.args.slots.now.slots) c.args.folder c.args.last

pub returns-clause-some : goal.returns-clause-some
returns-clause-some c =
    let most : length c.args.slots.now.slots ≤ c.loop-number.number = omega arith in
    some_next c.args.slots.now.slots c.args.folder c.args.last c.loop-number.number c.loop-number.next c.requires.slots c.requires.apart most c.loop-number.invariant

pub returns-clause-none : goal.returns-clause-none
returns-clause-none c =
    let most : length c.args.slots.now.slots ≤ c.loop-number.number = omega arith in
    none_next c.args.slots.now.slots c.args.folder c.args.last c.loop-number.number c.loop-number.next c.requires.slots most c.loop-number.invariant
