use Rattle.std.proofs.Common.{◌≡◌, ℕ, List, true, false, sym, subst}
use Rattle.std.specs.Option.{option_map_or}
use Rattle.fsrm_model.specs.nodes.Tree.{name_of}
use Rattle.fsrm_model.specs.values.Name.{name_before}
use Rattle.volume_tree.specs.Kept.{rows_of}
use Rattle.volume_tree.proofs.late.ChildNext.{next_kept, next_new, next_not}
use Rattle.volume_tree.proofs.unsettled.nearer.Goals as goal

pub returns-then-not-is_after : goal.returns-then-not-is_after
returns-then-not-is_after c =
    λ i. next_not (rows_of c.args.slots.now.slots) c.args.folder c.args.last c.args.number c.args.next (sym c.if-not-is_after.ensures) i

pub returns-then-not-comes_before : goal.returns-then-not-comes_before
returns-then-not-comes_before c =
    λ i.
    let nodes = rows_of c.args.slots.now.slots in
    next_kept nodes c.args.folder c.args.last c.args.number c.args.next
    (subst (λ (nm : List ℕ). option_map_or (λ m. name_before nm (name_of nodes m)) c.args.next true ≡ false) c.name_of.ensures (sym c.if-not-comes_before.ensures)) i

pub returns : goal.returns
returns c =
    λ i.
    let nodes = rows_of c.args.slots.now.slots in
    next_new nodes c.args.folder c.args.last c.args.number c.args.next (sym c.if-not-is_after.ensures)
    (subst (λ (nm : List ℕ). option_map_or (λ m. name_before nm (name_of nodes m)) c.args.next true ≡ true) c.name_of.ensures (sym c.if-not-comes_before.ensures)) i
