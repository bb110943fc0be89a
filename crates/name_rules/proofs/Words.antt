-- Two texts compared by words of eight bytes.
use Rattle.std.proofs.Common.{◌≡◌, ℕ, zero, suc, ◌+◌, ◌-◌, ◌*◌, ◌/◌, ◌%◌, ◌^◌, ◌<◌, true, List, length, take, drop, get_or, bit_and, ⊎_elim, ap, sym, subst, refl, ◌∙◌, arith}
use Rattle.std.specs.Char.{to_ascii_lowercase}
use Rattle.std.specs.Int.{w64, to_le_bytes, from_le_bytes}
use Rattle.std.specs.Simd.{first_chunks}
use Rattle.std.specs.Str.{IsAscii}
use Rattle.std.proofs.lemmas.Bool.{cases_lt, lt-ltb, eq-eqb}
use Rattle.std.proofs.lemmas.List.{drop-drop, get_or-drop, get_or-take}
use Rattle.std.proofs.lemmas.Nat.{and_mask, and_mod, and_shr, le_bytes_8, shr_le}
use Rattle.name_rules.specs.Fronts.{HasSameFront, are_same_ascii}

-- ---- a word without high bits
-- the byte that begins at a bit
low_byte : (n k : ℕ) → bit_and n 0x8080_8080_8080_8080 ≡ 0 → 0x8080_8080_8080_8080 / 2 ^ k % 256 ≡ 128 → n / 2 ^ k % 256 < 128
low_byte n k none high =
    let byte = n / 2 ^ k % 256 in
    let at : bit_and (n / 2 ^ k) (0x8080_8080_8080_8080 / 2 ^ k) ≡ 0 = sym (and_shr n 0x8080_8080_8080_8080 k) ∙ (ap (λ m. m / 2 ^ k) none ∙ omega (arith, shr_le 0 k)) in
    let here : bit_and byte 128 ≡ 0 = ap (bit_and byte) (sym high) ∙ (sym (and_mod (n / 2 ^ k) (0x8080_8080_8080_8080 / 2 ^ k) 8) ∙ ap (λ m. m % 256) at) in
    let top : byte / 128 % 2 ≡ 0 = sym (and_mask (byte / 128) 1) ∙ (sym (and_shr byte 128 7) ∙ ap (λ m. m / 128) here) in
    omega (arith, top)

low_bytes : (n : ℕ) → bit_and n 0x8080_8080_8080_8080 ≡ 0 → IsAscii (to_le_bytes w64 n)
low_bytes n none zero = omega (arith, low_byte n 0 none refl)
low_bytes n none (suc zero) = low_byte n 8 none refl
low_bytes n none (suc (suc zero)) = low_byte n 16 none refl
low_bytes n none (suc (suc (suc zero))) = low_byte n 24 none refl
low_bytes n none (suc (suc (suc (suc zero)))) = low_byte n 32 none refl
low_bytes n none (suc (suc (suc (suc (suc zero))))) = low_byte n 40 none refl
low_bytes n none (suc (suc (suc (suc (suc (suc zero)))))) = low_byte n 48 none refl
low_bytes n none (suc (suc (suc (suc (suc (suc (suc zero))))))) = low_byte n 56 none refl
low_bytes n none (suc (suc (suc (suc (suc (suc (suc (suc i)))))))) = omega arith

pub ascii_word : (bytes : List ℕ) (word : ℕ) → length bytes ≡ 8 → ((i : ℕ) → get_or bytes i 0 < 256) → word ≡ from_le_bytes w64 bytes → bit_and word 0x8080_8080_8080_8080 ≡ 0 → IsAscii bytes
ascii_word bytes word long small is none = subst IsAscii (le_bytes_8 bytes word long small is) (low_bytes word none)

-- ---- a front with one word more
pub word_at : (count : ℕ) (text : List ℕ) (d : List ℕ) (i : ℕ) → i < count → get_or (first_chunks 8 count text) i d ≡ take 8 (drop (8 * i) text)
word_at zero text d i inside = absurd (omega (arith, inside))
word_at (suc count) text d zero inside = refl
word_at (suc count) text d (suc i) inside =
    let next : 8 + 8 * i ≡ 8 * suc i = omega arith in
    word_at count (drop 8 text) d i (omega (arith, inside)) ∙ (ap (take 8) (drop-drop (8 * i) 8 text) ∙ ap (λ k. take 8 (drop k text)) next)

same_as_itself : (x y : ℕ) → x ≡ y → x < 128 → are_same_ascii x y ≡ true
same_as_itself x y same low =
    let itself : are_same_ascii x x ≡ true = rw (lt-ltb x 128 low, eq-eqb (to_ascii_lowercase x) _ refl) refl in
    subst (λ z. are_same_ascii x z ≡ true) same itself

byte_in : (text word : List ℕ) (from k : ℕ) → word ≡ take 8 (drop from text) → k < 8 → get_or text (from + k) 0 ≡ get_or word k 0
byte_in text word from k is inside = sym (ap (λ w. get_or w k 0) is ∙ (get_or-take 8 (drop from text) k 0 inside ∙ get_or-drop from text k 0))

module _ (a b word : List ℕ) (words : ℕ) (front : HasSameFront a b (8 * words)) (ascii : IsAscii word) (one : word ≡ take 8 (drop (8 * words) a)) (other : word ≡ take 8 (drop (8 * words) b)) where
  alike_in_word : (k : ℕ) → k < 8 → are_same_ascii (get_or a (8 * words + k) 0) (get_or b (8 * words + k) 0) ≡ true
  alike_in_word k inside =
      let first = byte_in a word (8 * words) k one inside in
      same_as_itself _ _ (first ∙ sym (byte_in b word (8 * words) k other inside)) (omega (arith, first, ascii k))

  pub front_longer : words < length a / 8 → words < length b / 8 → HasSameFront a b (8 * (words + 1))
  front_longer more more' = record {
    within = omega (arith, more);
    within_other = omega (arith, more');
    alike = λ k below. ⊎_elim
        (λ before. front.alike k before)
        (λ from.
        let place : 8 * words + (k - 8 * words) ≡ k = omega (arith, from) in
        subst (λ i. are_same_ascii (get_or a i 0) (get_or b i 0) ≡ true) place (alike_in_word (k - 8 * words) (omega (arith, below, from))))
        (cases_lt k (8 * words));
  }
