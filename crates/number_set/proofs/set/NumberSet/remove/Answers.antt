use Rattle.std.proofs.Common.{◌≡◌, length, sym, ap, subst, ◌∙◌, arith}
use Rattle.fsrm_base.specs.Numbers.{itself, without_number}
use Rattle.fsrm_base.proofs.EditedRows.{without_absent}
use Rattle.number_set.specs.Numbers.{Numbers}
use Rattle.number_set.proofs.CountLaws.{count_without}
use Rattle.number_set.proofs.set.NumberSet.remove.Goals as goal

pub returns-then-not-contains : goal.returns-then-not-contains
returns-then-not-contains c =
    let own : Numbers = c.self.inside.levels in
    subst (λ (v : Numbers). v ≡ record v { members = without_number c.args.number v.members }) c.self.view_is
    (ap (λ ms. record own { members = ms }) (sym (without_absent itself c.args.number own.members (sym c.contains.ensures ∙ c.if-not-contains.true))))

pub invariant_of-self : goal.invariant_of-self
invariant_of-self c =
    let less = count_without c.args.number c.self.inside.levels.members c.kept.ensures.set (sym c.contains.ensures ∙ c.if-not-contains.false) in
    omega (arith, c.self.invariant, less, ap (λ (v : Numbers). length v.members) c.remove.ensures)
