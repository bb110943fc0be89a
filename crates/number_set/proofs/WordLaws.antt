-- The bits of words of which one is changed.
use Rattle.std.proofs.Common.{◌≡◌, ◌≢◌, ℕ, ◌+◌, ◌*◌, ◌/◌, ◌%◌, ◌^◌, ◌<◌, ◌≤◌, ◌==◌, Bool, true, false, not, ◌||◌, ◌&&◌, List, length, get_or, set, refl, sym, ◌∙◌, ap, subst, inl, inr, arith, get_or-set_same, get_or-set_other}
use Rattle.std.proofs.lemmas.Bool.Decides.{nat_tests}
use Rattle.std.proofs.lemmas.Nat.{and_le_l, le_or_r, one_shl, pow_pos}
use Rattle.std.proofs.lemmas.Nat.Bits.{bit_at_set_same, bit_at_set_other, bit_at_clear_same, bit_at_clear_other, bit_at-trailing_zeros}
use Rattle.std.specs.Int.{bit_at, bit_not, trailing_zeros, w64}
use Rattle.std.specs.Prelude.{bit_and, bit_or}
use Rattle.fsrm_base.proofs.TestLaws.{is_or_not, eq_is, eq_same, eq_test}
use Rattle.number_set.specs.Words.{has_bit, is_occupied, IsLeastIn}

-- of tests of numbers

pub test_apart : (m n : ℕ) → m ≢ n → (m == n) ≡ false
test_apart m n e = grind (arith, nat_tests)

pub are_apart : (m n : ℕ) → (m == n) ≡ false → m ≢ n
are_apart m n h e = let t = eq_test m n e in cc

-- a changed word
changed : (words : List ℕ) (m n w : ℕ) (f : Bool → Bool → Bool) → ((b : Bool) → f false b ≡ b) → ((i : ℕ) → i < 64 → (bit_at w i == 1) ≡ f (m % 64 == i) (bit_at (get_or words (m / 64) 0) i == 1)) → m / 64 < length words → has_bit (set words (m / 64) w) n ≡ f (m == n) (has_bit words n)
unfolding has_bit
changed words m n w f keeps bits within =
    elim (is_or_not (n / 64 == m / 64)) [
      | inl e ↦
          let is : n / 64 ≡ m / 64 = eq_is _ _ e in
          let word : get_or (set words (m / 64) w) (n / 64) 0 ≡ w = ap (λ k. get_or (set words (m / 64) w) k 0) is ∙ get_or-set_same words (m / 64) w 0 within in
          ap (λ v. bit_at v (n % 64) == 1) word
          ∙ (bits (n % 64) (omega arith)
          ∙ (ap (λ b. f b (bit_at (get_or words (m / 64) 0) (n % 64) == 1)) (same_place m n is)
          ∙ ap (λ k. f (m == n) (bit_at (get_or words k 0) (n % 64) == 1)) (sym is)))
      | inr e ↦
          let apart : n / 64 ≢ m / 64 = are_apart _ _ e in
          let other : (m == n) ≡ false = test_apart m n (λ h. apart (ap (λ k. k / 64) (sym h))) in
          ap (λ v. bit_at v (n % 64) == 1) (get_or-set_other words (m / 64) (n / 64) w 0 apart)
          ∙ sym (ap (λ b. f b (has_bit words n)) other ∙ keeps (has_bit words n))
    ]
  where
    same_place : (m n : ℕ) → n / 64 ≡ m / 64 → (m % 64 == n % 64) ≡ (m == n)
    same_place m n h =
        elim (is_or_not (m == n)) [
          | inl e ↦ eq_test _ _ (ap (λ k. k % 64) (eq_is m n e)) ∙ sym e
          | inr e ↦ let apart : m ≢ n = are_apart m n e in test_apart _ _ (λ g. apart (omega arith)) ∙ sym e
        ]

-- a bit that is set
pub set_has : (words : List ℕ) (m n : ℕ) → m / 64 < length words → has_bit (set words (m / 64) (bit_or (get_or words (m / 64) 0) (1 * 2 ^ (m % 64) % 2 ^ 64))) n ≡ ((m == n) || has_bit words n)
set_has words m n within = changed words m n _ (λ a b. a || b) (λ b. refl) (λ i low. bits i) within
  where
    old : ℕ
    old = get_or words (m / 64) 0

    bits : (i : ℕ) → (bit_at (bit_or (get_or words (m / 64) 0) (1 * 2 ^ (m % 64) % 2 ^ 64)) i == 1) ≡ ((m % 64 == i) || (bit_at (get_or words (m / 64) 0) i == 1))
    bits i =
        elim (is_or_not (m % 64 == i)) [
          | inl e ↦
              ap (λ k. bit_at (bit_or (get_or words (m / 64) 0) (1 * 2 ^ (m % 64) % 2 ^ 64)) k == 1) (sym (eq_is _ _ e))
              ∙ (ap (λ k. k == 1) (bit_at_set_same w64 (get_or words (m / 64) 0) (m % 64) (omega arith)) ∙ sym (ap (λ b. b || (bit_at (get_or words (m / 64) 0) i == 1)) e))
          | inr e ↦
              let apart : i ≢ m % 64 = λ h. are_apart _ _ e (sym h) in
              ap (λ k. k == 1) (bit_at_set_other w64 (get_or words (m / 64) 0) (m % 64) (omega arith) i apart) ∙ sym (ap (λ b. b || (bit_at (get_or words (m / 64) 0) i == 1)) e)
        ]

-- a bit that is cleared
pub clear_has : (words : List ℕ) (m n : ℕ) → m / 64 < length words → has_bit (set words (m / 64) (bit_and (get_or words (m / 64) 0) (bit_not w64 (1 * 2 ^ (m % 64) % 2 ^ 64)))) n ≡ (not (m == n) && has_bit words n)
clear_has words m n within = changed words m n _ (λ a b. not a && b) (λ b. refl) bits within
  where
    bits : (i : ℕ) → i < 64 → (bit_at (bit_and (get_or words (m / 64) 0) (bit_not w64 (1 * 2 ^ (m % 64) % 2 ^ 64))) i == 1) ≡ (not (m % 64 == i) && (bit_at (get_or words (m / 64) 0) i == 1))
    bits i low =
        elim (is_or_not (m % 64 == i)) [
          | inl e ↦
              ap (λ k. bit_at (bit_and (get_or words (m / 64) 0) (bit_not w64 (1 * 2 ^ (m % 64) % 2 ^ 64))) k == 1) (sym (eq_is _ _ e))
              ∙ (ap (λ k. k == 1) (bit_at_clear_same w64 (get_or words (m / 64) 0) (m % 64) (omega arith)) ∙ sym (ap (λ b. not b && (bit_at (get_or words (m / 64) 0) i == 1)) e))
          | inr e ↦
              let apart : i ≢ m % 64 = λ h. are_apart _ _ e (sym h) in
              ap (λ k. k == 1) (bit_at_clear_other w64 (get_or words (m / 64) 0) (m % 64) (omega arith) i low apart) ∙ sym (ap (λ b. not b && (bit_at (get_or words (m / 64) 0) i == 1)) e)
        ]

-- which words are empty
full : (words : List ℕ) (p k w : ℕ) (f : Bool → Bool → Bool) → ((b : Bool) → f false b ≡ b) → not (w == 0) ≡ f true (is_occupied words p) → p < length words → is_occupied (set words p w) k ≡ f (p == k) (is_occupied words k)
unfolding is_occupied
full words p k w f keeps there within =
    elim (is_or_not (p == k)) [
      | inl e ↦
          let is : p ≡ k = eq_is p k e in
          subst (λ j. is_occupied (set words p w) j ≡ f (p == j) (is_occupied words j)) is
          (ap (λ v. not (v == 0)) (get_or-set_same words p w 0 within) ∙ (there ∙ ap (λ b. f b (is_occupied words p)) (sym (eq_same p))))
      | inr e ↦
          let apart : k ≢ p = λ h. are_apart p k e (sym h) in
          ap (λ v. not (v == 0)) (get_or-set_other words p k w 0 apart) ∙ sym (ap (λ b. f b (is_occupied words k)) e ∙ keeps (is_occupied words k))
    ]

pub set_occupies : (words : List ℕ) (m k : ℕ) → m / 64 < length words → is_occupied (set words (m / 64) (bit_or (get_or words (m / 64) 0) (1 * 2 ^ (m % 64) % 2 ^ 64))) k ≡ ((m / 64 == k) || is_occupied words k)
set_occupies words m k within = full words (m / 64) k _ (λ a b. a || b) (λ b. refl) some within
  where
    some : not (bit_or (get_or words (m / 64) 0) (1 * 2 ^ (m % 64) % 2 ^ 64) == 0) ≡ true
    some =
        let bit : 1 * 2 ^ (m % 64) % 2 ^ 64 ≡ 2 ^ (m % 64) = one_shl (m % 64) 64 (omega arith) in
        let least : 0 < 2 ^ (m % 64) = pow_pos (m % 64) in
        let more : 1 * 2 ^ (m % 64) % 2 ^ 64 ≤ bit_or (get_or words (m / 64) 0) (1 * 2 ^ (m % 64) % 2 ^ 64) = le_or_r _ _ in
        ap not (test_apart _ 0 (λ e. omega arith))

pub clear_occupies : (words : List ℕ) (p k mask : ℕ) → p < length words → is_occupied (set words p (bit_and (get_or words p 0) mask)) k ≡ (not ((bit_and (get_or words p 0) mask == 0) && (p == k)) && is_occupied words k)
unfolding is_occupied
clear_occupies words p k mask within =
    full words p k (bit_and (get_or words p 0) mask) (λ a b. not ((bit_and (get_or words p 0) mask == 0) && a) && b) (λ b. none (bit_and (get_or words p 0) mask == 0) b) some within
  where
    none : (a b : Bool) → (not (a && false) && b) ≡ b
    none true b = refl
    none false b = refl

    some : not (bit_and (get_or words p 0) mask == 0) ≡ (not ((bit_and (get_or words p 0) mask == 0) && true) && not (get_or words p 0 == 0))
    some =
        elim (is_or_not (bit_and (get_or words p 0) mask == 0)) [
          | inl e ↦ ap not e ∙ sym (ap (λ b. not (b && true) && not (get_or words p 0 == 0)) e)
          | inr e ↦
              let apart : bit_and (get_or words p 0) mask ≢ 0 = are_apart _ _ e in
              let less : bit_and (get_or words p 0) mask ≤ get_or words p 0 = and_le_l _ _ in
              let was : (get_or words p 0 == 0) ≡ false = test_apart _ 0 (λ h. apart (omega arith)) in
              ap not e ∙ sym (ap (λ b. not (b && true) && not (get_or words p 0 == 0)) e ∙ ap not was)
        ]

pub is_not : (b : Bool) → b ≡ not (not b)
is_not true = refl
is_not false = refl

-- the least bit of a word
pub least_bit : (words : List ℕ) (place : ℕ) → get_or words place 0 ≢ 0 → get_or words place 0 < 2 ^ 64 → IsLeastIn words place (place * 64 + trailing_zeros w64 (get_or words place 0))
unfolding has_bit
least_bit words place some fits =
    let word = get_or words place 0 in
    let t = trailing_zeros w64 word in
    let l = bit_at-trailing_zeros w64 word (omega arith) fits in
    let low : t < 64 = l.0 in
    let at : (place * 64 + t) / 64 ≡ place = omega arith in
    let rest : (place * 64 + t) % 64 ≡ t = omega arith in
    record {
      place_is = at;
      bit =
          ap (λ k. bit_at (get_or words k 0) ((place * 64 + t) % 64) == 1) at
          ∙ (ap (λ k. bit_at word k == 1) rest ∙ ap (λ b. b == 1) l.1);
      least = λ m same less.
          let below : m % 64 < t = omega arith in
          ap (λ k. bit_at (get_or words k 0) (m % 64) == 1) same ∙ ap (λ b. b == 1) (l.2 (m % 64) below);
    }

pub empty_word : (words : List ℕ) (place : ℕ) → get_or words place 0 ≡ 0 → is_occupied words place ≡ false
unfolding is_occupied
empty_word words place e = ap (λ w. not (w == 0)) e
