use Rattle.std.proofs.Common.{◌≡◌, Option, subst, ℕ, ◌-◌, ◌<◌, ◌∙◌, ◌++◌, List, length, map, take, drop, ap, sym, arith}
use Rattle.std.proofs.lemmas.List.{drop-map, take-map, take_rest}
use Rattle.block_list.specs.Runs.{run_at}
use Rattle.node_order.specs.Entries.{number_in}
use Rattle.volume_tree.specs.Kept.{IsLeft, numbers_from}
use Rattle.volume_tree.proofs.late.ChildRuns.{lent_before, lent_few, offset_within}
use Rattle.volume_tree.specs.Siblings.{AreLeft, still_left}
use Rattle.volume_tree.specs.declared.children.Sought.{Sought}
use Rattle.volume_tree.proofs.children.Children.next.Goals as goal

pub invariant_of-self : goal.invariant_of-self
invariant_of-self g c =
    let i = c.self.inside in
    subst (λ (o : Option Sought). AreLeft o i.order.now.runs i.place i.left) c.in-Some.is c.self.invariant

pub returns-clause-lent : goal.returns-clause-lent
returns-clause-lent g c =
    let i = c.self.inside in
    let runs = i.order.now.runs in
    let stands : IsLeft runs i.place i.left = subst (λ (o : Option Sought). AreLeft o runs i.place i.left) c.in_default.is c.self.invariant in
    let some : 0 < i.left = omega arith in
    let offset = offset_within runs i.place i.left stands some in
    let all = c.run.result.now in
    let next = c.entry_from-self-inside.result in
    let few = lent_few all i.place.offset i.left c.min-few.result (omega (arith, offset, c.run.ensures.size)) c.min-few.ensures in
    let rest = take (length all - i.place.offset) (drop i.place.offset all) in
    let left = i.left - c.min-few.result in
    let same : map number_in rest ≡ drop i.place.offset (run_at runs i.place.run) =
    ap (map number_in) (take_rest all i.place.offset) ∙ (sym (drop-map number_in i.place.offset all) ∙ ap (drop i.place.offset) c.run.ensures.run) in
    sym c.self.view_is
    ∙ (ap (λ (o : Option Sought). still_left o runs i.place i.left) c.in_default.is
    ∙ (lent_before runs i.place next i.left c.min-few.result left (stands.run some) (omega (arith, few.0, c.run.ensures.size)) (omega (arith, c.entry_from-self-inside.ensures.index)) few.1
    ∙ (ap (λ (xs : List ℕ). xs ++ numbers_from runs next left) (ap (take c.min-few.result) (sym same) ∙ take-map number_in c.min-few.result rest)
    ∙ ap (λ (o : Option Sought). map number_in (take c.min-few.result rest) ++ still_left o runs next left) (sym c.in_default.is))))
