-- The laws of values that stand for numbers.
use Rattle.std.proofs.Common.{◌≡◌, ℕ, ◌-◌, ◌^◌, ◌<◌, ◌≤◌, true, false, Some, None, refl, sym, ap, ◌∙◌, arith, inl, inr}
use Rattle.std.specs.Prelude.{ℤ, pos, negsuc, nat_lt, nat_eq}
use Rattle.std.proofs.lemmas.Bool.{eqb-true, ltb-true, ltb-false, lt-ltb, le-ltb}
use Rattle.fsrm_model.specs.declared.row.QuotaState.{QuotaState}
use Rattle.fsrm_model.specs.declared.row.QuotaState.TheVariants.{Complete, Disabled, Rebuilding, Incomplete}
use Rattle.record_fields.specs.Formats.{number}
use Rattle.record_fields.specs.Laws.{Places}
use Rattle.record_fields.proofs.NumberLaws.{width_1, width_4, number_exact, number_field}
use Rattle.record_fields.proofs.StandingLaws.{picked, standing_field_places}
use Rattle.record_codec.proofs.KindLaws.{chosen}
use Rattle.image_codec.specs.Choices.{minutes, minutes_of, minutes_code, has_32_bits, state, state_of, state_code, is_kept_state}

minutes_there : (z : ℤ) → has_32_bits z ≡ true → minutes_of (minutes_code z) ≡ Some z
minutes_there (pos n) may = rw may refl
minutes_there (negsuc n) may =
    let lt : n < 2 ^ 31 = ltb-true _ _ may in
    let a : nat_lt (2 ^ 32 - 1 - n) (2 ^ 31) ≡ false = le-ltb _ _ (omega arith) in
    let b : nat_lt (2 ^ 32 - 1 - n) (2 ^ 32) ≡ true = lt-ltb _ _ (omega arith) in
    let c : 2 ^ 32 - 1 - (2 ^ 32 - 1 - n) ≡ n = omega arith in
    rw (a, b, c) refl

abbrev AreMinutes : ℕ → ℤ → Type 0
AreMinutes n z = (has_32_bits z ≡ true) × (minutes_code z ≡ n)

minutes_high : (n : ℕ) → nat_lt n (2 ^ 31) ≡ false → nat_lt n (2 ^ 32) ≡ true → AreMinutes n (negsuc (2 ^ 32 - 1 - n))
minutes_high n low_test high_test =
    let low : 2 ^ 31 ≤ n = ltb-false _ _ low_test in
    let high : n < 2 ^ 32 = ltb-true _ _ high_test in
    let small : nat_lt (2 ^ 32 - 1 - n) (2 ^ 31) ≡ true = lt-ltb _ _ (omega arith) in
    let again : 2 ^ 32 - 1 - (2 ^ 32 - 1 - n) ≡ n = omega arith in
    (small, again)

minutes_home : (n : ℕ) (z : ℤ) → minutes_of n ≡ Some z → (has_32_bits z ≡ true) × (minutes_code z ≡ n)
minutes_home n z e = elim (picked (nat_lt n (2 ^ 31)) (pos n) z _ e) [
  | inl a ↦ (ap has_32_bits (sym a.1) ∙ a.0, ap minutes_code (sym a.1))
  | inr p ↦ chosen (AreMinutes n) (nat_lt n (2 ^ 32)) (negsuc (2 ^ 32 - 1 - n)) z None (minutes_high n p.0) (λ none. absurd (cc none)) p.1
]

pub minutes_places : Places minutes
minutes_places = standing_field_places minutes_of minutes_code has_32_bits (number 4) (number_exact 4 width_4) (number_field 4) minutes_there minutes_home (pos 0) refl refl

state_there : (s : QuotaState) → is_kept_state s ≡ true → state_of (state_code s) ≡ Some s
state_there Complete may = refl
state_there Disabled may = refl
state_there Rebuilding may = absurd (cc may)
state_there Incomplete may = refl

abbrev IsState : ℕ → QuotaState → Type 0
IsState n s = (is_kept_state s ≡ true) × (state_code s ≡ n)

state_home : (n : ℕ) (s : QuotaState) → state_of n ≡ Some s → (is_kept_state s ≡ true) × (state_code s ≡ n)
state_home n s =
    chosen (IsState n) (nat_eq n 0) Complete s _ (λ e. (refl, sym (eqb-true n 0 e)))
    (chosen (IsState n) (nat_eq n 1) Disabled s _ (λ e. (refl, sym (eqb-true n 1 e)))
    (chosen (IsState n) (nat_eq n 2) Incomplete s None (λ e. (refl, sym (eqb-true n 2 e))) (λ e. absurd (cc e))))

pub state_places : Places state
state_places = standing_field_places state_of state_code is_kept_state (number 1) (number_exact 1 width_1) (number_field 1) state_there state_home Complete refl refl
