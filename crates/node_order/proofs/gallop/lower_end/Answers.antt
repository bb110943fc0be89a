use Rattle.std.proofs.Common.{◌≡◌, ◌-◌, ◌<◌, inl, inr, subst, arith}
use Rattle.std.proofs.lemmas.Bool.{cases_lt}
use Rattle.node_order.specs.Entries.{parent_at}
use Rattle.node_order.proofs.gallop.lower_end.Goals as goal

pub returns-clause-lower : goal.returns-clause-lower
returns-clause-lower c = λ m.
    let low = c.leap-low.result.0 in
    elim (cases_lt low c.halve.result) [
      | inl l ↦ c.halve.ensures.lower l
      | inr l ↦
          let least = c.halve.ensures.least in
          let is : low ≡ c.halve.result = omega arith in
          subst (λ k. parent_at c.args.entries.now (k - 1) < c.args.folder) is (c.leap-low.ensures.lower (omega arith))
    ]
