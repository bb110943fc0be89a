-- One word has a bit more, and its place is above.
use Rattle.std.proofs.Common.{◌≡◌, ℕ, ◌==◌, ◌||◌, not, ◌∙◌, ap, subst, sym, ◌/◌, List, length}
use Rattle.std.proofs.lemmas.List.{with_items_is}
use Rattle.fsrm_base.specs.Numbers.{with_number}
use Rattle.number_set.specs.Numbers.{Numbers}
use Rattle.number_set.specs.declared.levels.Above.{Above}
use Rattle.number_set.specs.declared.levels.Levels.TheInside.{Inside}
use Rattle.number_set.specs.Levels.{IsAbove, IsLevel}
use Rattle.number_set.specs.Words.{is_occupied, numbers_of}
use Rattle.number_set.proofs.LevelLaws.{view_with, marks_with, marks_stay, absorbed_place}
use Rattle.number_set.proofs.levels.Levels.+insert.Goals as goal
use Rattle.number_set.proofs.levels.Levels.+insert.Goals.{in-Nothing, in-Level+then-was_empty, in-Level+else-was_empty}

pub invariant_of-self : goal.invariant_of-self
invariant_of-self t c =
    let old = c.self.inside.words.items in
    let new = c.set_bit-was_empty.new.words in
    let place = c.args.number / 64 in
    let inv = c.self.invariant in
    let kept = with_items_is c.self.inside.words new (c.set_bit-was_empty.ensures.length ∙ c.deref_mut.ensures.len) in
    let same : length new ≡ length old = c.set_bit-was_empty.ensures.length ∙ ap length c.deref_mut.ensures.value in
    let occupied = λ (k : ℕ). c.set_bit-was_empty.ensures.occupied k ∙ ap (λ ws. (place == k) || is_occupied ws k) c.deref_mut.ensures.value in
    let level = λ (above : Above) (is : IsAbove new above). subst (λ ws. IsLevel c.self.inside.bound ws above) (sym kept) (record { small = inv.small; room = same ∙ inv.room; level = is }) in
    elim c.match-self.branch [
      | in-Nothing w ↦
          subst (λ (s : Inside). IsLevel s.bound s.words.items s.above) (sym w.self-inside-is) (level c.self.inside.above (subst (IsAbove new) (sym w.in-Nothing.is) (same ∙ subst (IsAbove old) w.in-Nothing.is inv.level)))
      | in-Level+then-was_empty w ↦
          subst (λ (s : Inside). IsLevel s.bound s.words.items s.above) (sym w.self-inside-is) (level _ (marks_with _ _ old new place (subst (IsAbove old) w.in-Level.is inv.level) same occupied (w.insert.ensures ∙ ap (λ (v : Numbers). record v { members = with_number place v.members }) w.deref_mut-then-was_empty.ensures.value)))
      | in-Level+else-was_empty w ↦
          subst (λ (s : Inside). IsLevel s.bound s.words.items s.above) (sym w.self-inside-is) (level _ (marks_stay _ old new (subst (IsAbove old) w.in-Level.is inv.level) same (λ k. occupied k ∙ absorbed_place old place k (sym w.if-was_empty.false ∙ (c.set_bit-was_empty.ensures.empty ∙ ap (λ ws. not (is_occupied ws place)) c.deref_mut.ensures.value)))))
    ]

pub returns : goal.returns
returns t c =
    let kept = with_items_is c.self.inside.words c.set_bit-was_empty.new.words (c.set_bit-was_empty.ensures.length ∙ c.deref_mut.ensures.len) in
    let now = view_with c.self.inside.bound c.args.number c.self.inside.words.items c.deref_mut.result.now c.set_bit-was_empty.new.words c.args.self.now c.self.view_is c.deref_mut.ensures.value c.set_bit-was_empty.ensures.bits in
    let view : Inside → Numbers = λ s. record { bound = s.bound; members = numbers_of s.words.items } in
    let seen : List ℕ → Numbers = λ ws. record { bound = c.self.inside.bound; members = numbers_of ws } in
    let words = ap seen kept in
    elim c.match-self.branch [
      | in-Nothing w ↦ ap view w.self-inside-is ∙ (words ∙ now)
      | in-Level+then-was_empty w ↦ ap view w.self-inside-is ∙ (words ∙ now)
      | in-Level+else-was_empty w ↦ ap view w.self-inside-is ∙ (words ∙ now)
    ]
