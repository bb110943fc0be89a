use Rattle.std.proofs.Common.{◌+◌, ℕ, length, sym, ap, ◌∙◌, arith}
use Rattle.number_set.specs.Numbers.{Numbers}
use Rattle.number_set.proofs.CountLaws.{count_with}
use Rattle.number_set.proofs.set.NumberSet.insert.Goals as goal

pub overflow_add-self : goal.overflow_add-self
overflow_add-self c = omega (arith, c.kept.ensures.few, c.self.invariant)

pub invariant_of-self : goal.invariant_of-self
invariant_of-self c =
    ap (λ (k : ℕ). k + 1) c.self.invariant
    ∙ sym (ap (λ (v : Numbers). length v.members) c.insert.ensures ∙ count_with c.args.number c.self.inside.levels.members (sym c.contains.ensures ∙ c.if-contains.false))
