-- Actions and notifications by what stands between their commas.
use Rattle.std.proofs.Common.{◌≡◌, ℕ, ◌<◌, ◌≤◌, ◌&&◌, Bool, true, false, List, length, Option, Some, None, MatchOption, Ok, Err, refl, sym, ◌∙◌, ap, arith}
use Rattle.std.specs.Borrow.{Bor}
use Rattle.std.specs.List.{after_first, before_first, list_any, position_or_len}
use Rattle.fsrm_base.proofs.TestLaws.{le_test, not_le}
use Rattle.fsrm_model.specs.declared.command.Added.{Added}
use Rattle.fsrm_model.specs.declared.command.Refusal.TheVariants.{BadLine}
use Rattle.fsrm_model.specs.declared.row.Action.{Action}
use Rattle.fsrm_model.specs.texts.ActionWords.{action_from, is_comma, notice_from, percent_from, with_commas}
use Rattle.fsrm_model.specs.lines.Reading.{Read, ◌>>=◌, guarded}
use Rattle.fsrm_model.proofs.lines.ActionLaws.{commas, none_counted, one_counted}
use Rattle.command_words.specs.ActionParts.{IsParted, AreParts, has_action_commas, action_of, added_from}
use Rattle.command_words.proofs.OptionLaws.{none_passes, one_passes}

-- a text is parted where its first comma is
pub parted_is : (text : List ℕ) (r : Option (Bor (List ℕ) × Bor (List ℕ))) → MatchOption r (position_or_len is_comma text ≡ length text) (λ x. (position_or_len is_comma text < length text) × (x.0.now ≡ before_first is_comma text) × (x.1.now ≡ after_first is_comma text)) → MatchOption r (list_any is_comma text ≡ false) (λ x. IsParted text x.0.now x.1.now)
parted_is text None none = none_passes is_comma text none
parted_is text (Some x) some = record { some = one_passes is_comma text some.0; front_is = some.1; rest_is = some.2 }

-- ---- the commas of an action
pub first_missing : (text : List ℕ) → list_any is_comma text ≡ false → has_action_commas text ≡ false
first_missing text none = ap (λ b. b && list_any is_comma (after_first is_comma text)) none

pub second_missing : (text kind rest : List ℕ) → IsParted text kind rest → list_any is_comma rest ≡ false → has_action_commas text ≡ false
second_missing text kind rest first none =
    ap (λ b. b && list_any is_comma (after_first is_comma text)) first.some ∙ (ap (list_any is_comma) (sym first.rest_is) ∙ none)

both_there : (text kind minutes words : List ℕ) → AreParts text kind minutes words → (list_any is_comma text ≡ true) × (list_any is_comma (after_first is_comma text) ≡ true)
both_there text kind minutes words parts = (parts.first.some, ap (list_any is_comma) (sym parts.first.rest_is) ∙ parts.second.some)

-- a text without both has one at most
few_more : (text : List ℕ) → has_action_commas text ≡ false → commas text < 2
few_more text h = at (list_any is_comma text) refl (list_any is_comma (after_first is_comma text)) refl h
  where
    at : (a : Bool) → list_any is_comma text ≡ a → (b : Bool) → list_any is_comma (after_first is_comma text) ≡ b → (a && b) ≡ false → commas text < 2
    at false e b f h = omega (arith, none_counted text e)
    at true e false f h = omega (arith, one_counted text e, none_counted (after_first is_comma text) f)
    at true e true f h = absurd (cc h)

-- ---- what follows if there are so many commas, and if not
few_commas : {X : Type 0} (n column : ℕ) (text : List ℕ) (next : List ℕ → Read X) → commas text < n → (with_commas n column text >>= next) ≡ Err (BadLine column)
few_commas n column text next few = ap (λ b. guarded b (BadLine column) text >>= next) (not_le n (commas text) few)

many_commas : {X : Type 0} (n column : ℕ) (text : List ℕ) (next : List ℕ → Read X) → n ≤ commas text → (with_commas n column text >>= next) ≡ next text
many_commas n column text next many = ap (λ b. guarded b (BadLine column) text >>= next) (le_test n (commas text) many)

-- ---- actions
abbrev action_next : ℕ → List ℕ → Read Action
action_next column given = action_of column (before_first is_comma given) (before_first is_comma (after_first is_comma given)) (after_first is_comma (after_first is_comma given))

pub short_action : (column : ℕ) (text : List ℕ) → has_action_commas text ≡ false → action_from column text ≡ Err (BadLine column)
short_action column text few = few_commas 2 column text (action_next column) (few_more text few)

pub whole_action : (column : ℕ) (text kind minutes words : List ℕ) → AreParts text kind minutes words → action_from column text ≡ action_of column kind minutes words
whole_action column text kind minutes words parts =
    let there = both_there text kind minutes words parts in
    let rest : after_first is_comma text ≡ parts.rest = sym parts.first.rest_is in
    many_commas 2 column text (action_next column) (omega (arith, one_counted text there.0, one_counted (after_first is_comma text) there.1))
    ∙ (ap (λ k. action_of column k (before_first is_comma (after_first is_comma text)) (after_first is_comma (after_first is_comma text))) (sym parts.first.front_is)
    ∙ (ap (λ r. action_of column kind (before_first is_comma r) (after_first is_comma r)) rest
    ∙ (ap (λ m. action_of column kind m (after_first is_comma parts.rest)) (sym parts.second.front_is) ∙ ap (action_of column kind minutes) (sym parts.second.rest_is))))

-- ---- notifications
abbrev notice_next : ℕ → List ℕ → Read Added
notice_next column given = percent_from column (before_first is_comma given) >>= λ percent. action_from column (after_first is_comma given) >>= λ action. Ok (record { percent = percent; action = action })

pub no_notice : (column : ℕ) (text : List ℕ) → list_any is_comma text ≡ false → notice_from column text ≡ Err (BadLine column)
no_notice column text none = few_commas 3 column text (notice_next column) (omega (arith, none_counted text none))

pub short_notice : (column : ℕ) (text percent action : List ℕ) → IsParted text percent action → has_action_commas action ≡ false → notice_from column text ≡ Err (BadLine column)
short_notice column text percent action first few =
    let less = few_more (after_first is_comma text) (ap has_action_commas (sym first.rest_is) ∙ few) in
    few_commas 3 column text (notice_next column) (omega (arith, one_counted text first.some, less))

pub whole_notice : (column : ℕ) (text percent action kind minutes words : List ℕ) → IsParted text percent action → AreParts action kind minutes words → notice_from column text ≡ added_from column percent kind minutes words
whole_notice column text percent action kind minutes words first parts =
    let there = both_there action kind minutes words parts in
    let rest : after_first is_comma text ≡ action = sym first.rest_is in
    let one : list_any is_comma (after_first is_comma text) ≡ true = ap (list_any is_comma) rest ∙ there.0 in
    let two : list_any is_comma (after_first is_comma (after_first is_comma text)) ≡ true = ap (λ r. list_any is_comma (after_first is_comma r)) rest ∙ there.1 in
    many_commas 3 column text (notice_next column)
    (omega (arith, one_counted text first.some, one_counted (after_first is_comma text) one, one_counted (after_first is_comma (after_first is_comma text)) two))
    ∙ (ap (λ p. percent_from column p >>= λ percent. action_from column (after_first is_comma text) >>= λ action. Ok (record { percent = percent; action = action })) (sym first.front_is)
    ∙ ap (λ (r : Read Action). percent_from column percent >>= λ percent. r >>= λ action. Ok (record { percent = percent; action = action })) (ap (action_from column) rest ∙ whole_action column action kind minutes words parts))
