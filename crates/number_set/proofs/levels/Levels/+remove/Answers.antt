-- One word has a bit less, and if it was the last, its place is no longer above.
use Rattle.std.proofs.Common.{rules, ◌≡◌, ℕ, ◌==◌, ◌&&◌, true, not, ◌∙◌, ap, subst, sym, ◌/◌, ◌<◌, List, length, arith}
use Rattle.std.proofs.lemmas.List.{with_items_is}
use Rattle.fsrm_base.specs.Numbers.{is_in, without_number}
use Rattle.number_set.specs.Numbers.{Numbers}
use Rattle.number_set.specs.declared.levels.Above.{Above}
use Rattle.number_set.specs.declared.levels.Levels.TheInside.{Inside}
use Rattle.number_set.specs.Levels.{IsAbove, IsLevel}
use Rattle.number_set.specs.Words.{is_occupied, numbers_of}
use Rattle.number_set.proofs.LevelLaws.{view_without, marks_without, marks_stay, inside_words, place_above}
use Rattle.number_set.proofs.levels.Levels.+remove.Goals as goal
use Rattle.number_set.proofs.levels.Levels.+remove.Goals.{in-Nothing, in-Level+then-is_empty, in-Level+else-is_empty}

pub clear_bit-is_empty-requires : goal.clear_bit-is_empty-requires
clear_bit-is_empty-requires t c =
    let old = c.self.inside.words.items in
    let has : is_in (numbers_of old) c.args.number ≡ true = ap (λ (v : Numbers). is_in v.members c.args.number) c.self.view_is ∙ c.requires in
    let inside : c.args.number / 64 < length old = inside_words old c.args.number has in
    omega (arith, ap length c.deref_mut.ensures.value)

pub remove-requires : goal.remove-requires
remove-requires t c =
    let old = c.self.inside.words.items in
    let place = c.args.number / 64 in
    let has : is_in (numbers_of old) c.args.number ≡ true = ap (λ (v : Numbers). is_in v.members c.args.number) c.self.view_is ∙ c.requires in (
      search rules,
      ap (λ (v : Numbers). is_in v.members place) c.deref_mut-then-is_empty.ensures.value
          ∙ place_above c.in-Level.above.value old c.args.number (subst (IsAbove old) c.in-Level.is c.self.invariant.level) has,
    )

pub invariant_of-self : goal.invariant_of-self
invariant_of-self t c =
    let old = c.self.inside.words.items in
    let new = c.clear_bit-is_empty.new.words in
    let place = c.args.number / 64 in
    let inv = c.self.invariant in
    let kept = with_items_is c.self.inside.words new (c.clear_bit-is_empty.ensures.length ∙ c.deref_mut.ensures.len) in
    let same : length new ≡ length old = c.clear_bit-is_empty.ensures.length ∙ ap length c.deref_mut.ensures.value in
    let occupied = λ (k : ℕ). c.clear_bit-is_empty.ensures.occupied k ∙ ap (λ ws. not (c.clear_bit-is_empty.result && (place == k)) && is_occupied ws k) c.deref_mut.ensures.value in
    let level = λ (above : Above) (is : IsAbove new above). subst (λ ws. IsLevel c.self.inside.bound ws above) (sym kept) (record { small = inv.small; room = same ∙ inv.room; level = is }) in
    elim c.match-self.branch [
      | in-Nothing w ↦
          subst (λ (s : Inside). IsLevel s.bound s.words.items s.above) (sym w.self-inside-is) (level c.self.inside.above (subst (IsAbove new) (sym w.in-Nothing.is) (same ∙ subst (IsAbove old) w.in-Nothing.is inv.level)))
      | in-Level+then-is_empty w ↦
          subst (λ (s : Inside). IsLevel s.bound s.words.items s.above) (sym w.self-inside-is) (level _ (marks_without _ _ old new place (subst (IsAbove old) w.in-Level.is inv.level) same (λ k. occupied k ∙ ap (λ b. not (b && (place == k)) && is_occupied old k) w.if-is_empty.true) (w.remove.ensures ∙ ap (λ (v : Numbers). record v { members = without_number place v.members }) w.deref_mut-then-is_empty.ensures.value)))
      | in-Level+else-is_empty w ↦
          subst (λ (s : Inside). IsLevel s.bound s.words.items s.above) (sym w.self-inside-is) (level _ (marks_stay _ old new (subst (IsAbove old) w.in-Level.is inv.level) same (λ k. occupied k ∙ ap (λ b. not (b && (place == k)) && is_occupied old k) w.if-is_empty.false)))
    ]

pub returns : goal.returns
returns t c =
    let kept = with_items_is c.self.inside.words c.clear_bit-is_empty.new.words (c.clear_bit-is_empty.ensures.length ∙ c.deref_mut.ensures.len) in
    let now = view_without c.self.inside.bound c.args.number c.self.inside.words.items c.deref_mut.result.now c.clear_bit-is_empty.new.words c.args.self.now c.self.view_is c.deref_mut.ensures.value c.clear_bit-is_empty.ensures.bits in
    let view : Inside → Numbers = λ s. record { bound = s.bound; members = numbers_of s.words.items } in
    let seen : List ℕ → Numbers = λ ws. record { bound = c.self.inside.bound; members = numbers_of ws } in
    let words = ap seen kept in
    elim c.match-self.branch [
      | in-Nothing w ↦ ap view w.self-inside-is ∙ (words ∙ now)
      | in-Level+then-is_empty w ↦ ap view w.self-inside-is ∙ (words ∙ now)
      | in-Level+else-is_empty w ↦ ap view w.self-inside-is ∙ (words ∙ now)
    ]
