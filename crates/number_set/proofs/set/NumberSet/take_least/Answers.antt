use Rattle.std.proofs.Common.{◌≡◌, length, Some, sym, ap, ◌∙◌, arith}
use Rattle.std.specs.Prelude.{drop, slice_get}
use Rattle.number_set.specs.Numbers.{Numbers}
use Rattle.number_set.proofs.CountLaws.{count_without}
use Rattle.number_set.proofs.TakenLaws.{first_in, rest_is}
use Rattle.number_set.proofs.set.NumberSet.take_least.Goals as goal

pub remove-requires : goal.remove-requires
remove-requires c =
    let first : slice_get c.self.inside.levels.members 0 ≡ Some c.in_ok-number.number = ap (λ (v : Numbers). slice_get v.members 0) c.self.view_is ∙ sym c.in_ok-number.ensures in
    first_in c.in_ok-number.number c.self.inside.levels.members first

pub invariant_of-self : goal.invariant_of-self
invariant_of-self c =
    let n = c.in_ok-number.number in
    let members = c.self.inside.levels.members in
    let first : slice_get members 0 ≡ Some n = ap (λ (v : Numbers). slice_get v.members 0) c.self.view_is ∙ sym c.in_ok-number.ensures in
    let less = count_without n members c.kept.ensures.set (first_in n members first) in
    omega (arith, c.self.invariant, less, ap (λ (v : Numbers). length v.members) c.remove.ensures)

pub returns-clause-rest : goal.returns-clause-rest
returns-clause-rest c =
    let n = c.in_ok-number.number in
    let own : Numbers = c.self.inside.levels in
    let first : slice_get own.members 0 ≡ Some n = ap (λ (v : Numbers). slice_get v.members 0) c.self.view_is ∙ sym c.in_ok-number.ensures in
    c.remove.ensures
    ∙ (ap (λ ms. record own { members = ms }) (sym (rest_is n own.members c.kept.ensures.set first))
    ∙ ap (λ (v : Numbers). record v { members = drop 1 v.members }) c.self.view_is)
