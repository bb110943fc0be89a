use Rattle.std.proofs.Common.{◌≡◌, ◌≤◌, ℕ, List, [], sym, ◌∙◌, ap, subst, refl, arith}
use Rattle.node_order.specs.Entries.{Sequence}
use Rattle.volume_tree.proofs.late.Registers.{register_empty}
use Rattle.volume_tree.proofs.register.Register.reserve.Goals as goal

pub returns : goal.returns
returns c =
    let room = ap (λ (o : Sequence). o.room) c.in_ok-order.ensures in
    record {
      empty = λ nodes less. register_empty nodes _ (c.in_ok-order.ensures ∙ ap (λ (n : ℕ). record { room = n; runs = []; entries = [] }) (sym room)) c.in_ok-late.ensures.items (omega (arith, less, room)) (omega (arith, room, c.in_ok-late.ensures.exact)) (omega (arith, room, c.requires));
      room = room;
    }
