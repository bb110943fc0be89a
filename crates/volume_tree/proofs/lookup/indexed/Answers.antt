use Rattle.std.proofs.Common.{◌≡◌, ℕ, Some, None, sym, ◌∙◌, ap, true, false}
use Rattle.std.proofs.lemmas.Option.{same_Some}
use Rattle.node_order.specs.Order.{has_name}
use Rattle.volume_tree.specs.Kept.{rows_of}
use Rattle.volume_tree.proofs.lookup.indexed.Goals as goal

no_some : (n : ℕ) → None ≡ Some n → ⊥
no_some n e = cc

pub returns-in-None-clause-none : goal.returns-in-None-clause-none
returns-in-None-clause-none g c = λ n held. absurd (no_some n (c.in-None.ensures n held))

pub returns-else-has_name-clause-none : goal.returns-else-has_name-clause-none
returns-else-has_name-clause-none g c =
    λ n held.
    let same = same_Some _ _ (c.in-Some.ensures n held) in
    ap (λ m. has_name (rows_of c.args.slots.now.slots) m c.args.folder c.args.name.now) (sym same) ∙ (sym c.has_name.ensures.value ∙ c.if-has_name.false)
