-- The least bit of the first word that has one, which is the least place above.
use Rattle.std.proofs.Common.{◌≡◌, ◌∙◌, ap, subst, length, Some, None, Option, ℕ, false, arith}
use Rattle.std.specs.Prelude.{slice_get, MatchOption}
use Rattle.number_set.specs.Numbers.{Numbers}
use Rattle.number_set.specs.Levels.{IsAbove}
use Rattle.number_set.specs.Words.{is_occupied, IsLeastIn}
use Rattle.number_set.proofs.LevelLaws.{IsFirstWord, only_word, first_word, least_is, least_above_none}
use Rattle.number_set.proofs.levels.Levels.+least.Goals as goal
use Rattle.number_set.proofs.levels.Levels.+least.Goals.{Joined-self, in-Nothing, in-Level+in_ok-place-in-Level}

pub returns-in_err-place-in-Level : goal.returns-in_err-place-in-Level
returns-in_err-place-in-Level t c =
    let first : Numbers → Option ℕ = λ v. slice_get v.members 0 in
    let none : None ≡ slice_get c.in-Level.above.value.members 0 = c.in_err-place-in-Level.ensures ∙ ap first c.deref.ensures in
    c.from_residual.ensures
    ∙ (least_above_none c.in-Level.above.value c.self.inside.words.items (subst (IsAbove c.self.inside.words.items) c.in-Level.is c.self.invariant.level) none
    ∙ ap first c.self.view_is)

first : (t : ℕ) (c : Joined-self t) → IsFirstWord c.self.inside.words.items c.match-self.place
first t c =
    let words = c.self.inside.words.items in
    let first_of : Numbers → Option ℕ = λ v. slice_get v.members 0 in
    elim c.match-self.branch [
      | in-Nothing w ↦ only_word words c.match-self.place (subst (IsAbove words) w.in-Nothing.is c.self.invariant.level) w.place-is
      | in-Level+in_ok-place-in-Level w ↦
          first_word w.in-Level.above.value words c.match-self.place (subst (IsAbove words) w.in-Level.is c.self.invariant.level)
          (ap Some w.place-is ∙ (w.in_ok-place-in-Level.ensures ∙ ap first_of w.deref.ensures))
    ]

pub least_in-requires-clause-within : goal.least_in-requires-clause-within
least_in-requires-clause-within t c =
    let f = first t (goal.at.least_in-requires-clause-within t c).Joined-self in
    omega (arith, f.inside, ap length c.deref-2.ensures.value)

pub least_in-requires-clause-small : goal.least_in-requires-clause-small
least_in-requires-clause-small t c =
    let f = first t (goal.at.least_in-requires-clause-small t c).Joined-self in
    omega (arith, f.inside, c.self.invariant.small, c.self.invariant.room)

pub returns : goal.returns
returns t c =
    let f = first t (goal.at.returns t c).Joined-self in
    let words = c.self.inside.words.items in
    let first_of : Numbers → Option ℕ = λ v. slice_get v.members 0 in
    least_is words c.match-self.place c.least_in.result f (subst (λ ws. MatchOption c.least_in.result (is_occupied ws c.match-self.place ≡ false) (λ n. IsLeastIn ws c.match-self.place n)) c.deref-2.ensures.value c.least_in.ensures) ∙ ap first_of c.self.view_is
