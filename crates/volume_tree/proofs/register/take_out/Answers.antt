use Rattle.std.proofs.Common.{◌≡◌, ◌∷◌, ℕ, List, IsPermutation, get_or, length, arith, sym, ◌∙◌, ap, subst}
use Rattle.std.proofs.lemmas.List.Sorted.{IsPermutation-swap_remove}
use Rattle.node_order.specs.declared.entries.Entry.{Entry}
use Rattle.volume_tree.proofs.register.take_out.Goals as goal

pub returns-in-Some-clause-left : goal.returns-in-Some-clause-left
returns-in-Some-clause-left c =
    λ t.
    let items = c.args.late.now.items in
    let place = c.in-Some.place in
    let e = c.swap_remove.result in
    let value = c.swap_remove.ensures.value in
    record {
      entry = e;
      node_is = ap (λ (x : Entry). x.node) value ∙ (ap (λ (es : List Entry). (get_or es place e).node) (sym c.deref.ensures.value) ∙ c.in-Some.ensures.node e);
      members = subst (λ (es : List Entry). IsPermutation items (e ∷ es)) (sym c.swap_remove.ensures.items) (IsPermutation-swap_remove items place e (omega (arith, c.in-Some.ensures.within, ap length c.deref.ensures.value)) value);
    }
