-- Words of eight bytes, in which the case of letters doesn't count.
use Rattle.std.proofs.Common.{◌≡◌, ℕ, zero, suc, ◌+◌, ◌-◌, ◌*◌, ◌/◌, ◌%◌, ◌^◌, ◌<◌, ◌≤◌, List, length, take, drop, get_or, bit_or, inl, inr, refl, sym, ◌∙◌, ap, subst, arith}
use Rattle.std.specs.Int.{w32, w64, byte_worth, from_le_bytes, sum_through}
use Rattle.std.specs.List.{fold}
use Rattle.std.specs.Simd.{first_chunks}
use Rattle.std.proofs.lemmas.Bool.{cases_lt}
use Rattle.std.proofs.lemmas.List.{get_or-drop, get_or-take, get_or_past, length-take}
use Rattle.std.proofs.lemmas.Nat.{or_block}
use Rattle.std.proofs.Math.Nat.{mod-eq_of_lt}
use Rattle.name_index.specs.Hash.{bytes_hash, last_eight, spread, stir, with_word, word_of}

-- the bytes of a part
pub read_take : (n : ℕ) (a : List ℕ) (i : ℕ) → i < n → get_or (take n a) i 0 ≡ get_or a i 0
read_take n a i l = get_or-take n a i 0 l

pub read_past : (n : ℕ) (a : List ℕ) (i : ℕ) → n ≤ i → get_or (take n a) i 0 ≡ 0
read_past n a i l = get_or_past (take n a) i 0 (omega (arith, l, length-take n a))

-- ---- two texts of bytes that are the same but for the case of letters
pub record AreRead (a b : List ℕ) : Type 0 where
  pub small : (i : ℕ) → get_or a i 0 < 256
  pub small' : (i : ℕ) → get_or b i 0 < 256
  pub alike : (i : ℕ) → bit_or (get_or a i 0) 32 ≡ bit_or (get_or b i 0) 32

read_drop : (n : ℕ) (a b : List ℕ) → AreRead a b → AreRead (drop n a) (drop n b)
read_drop n a b is = record {
  small = λ i. subst (λ v. v < 256) (sym (get_or-drop n a i 0)) (is.small (n + i));
  small' = λ i. subst (λ v. v < 256) (sym (get_or-drop n b i 0)) (is.small' (n + i));
  alike = λ i. ap (λ v. bit_or v 32) (get_or-drop n a i 0) ∙ (is.alike (n + i) ∙ sym (ap (λ v. bit_or v 32) (get_or-drop n b i 0)));
}

read_front : (n : ℕ) (a b : List ℕ) → AreRead a b → AreRead (take n a) (take n b)
read_front n a b is = record {
  small = λ i. elim (cases_lt i n) [
    | inl l ↦ subst (λ v. v < 256) (sym (read_take n a i l)) (is.small i)
    | inr l ↦ subst (λ v. v < 256) (sym (read_past n a i l)) (omega arith)
  ];
  small' = λ i. elim (cases_lt i n) [
    | inl l ↦ subst (λ v. v < 256) (sym (read_take n b i l)) (is.small' i)
    | inr l ↦ subst (λ v. v < 256) (sym (read_past n b i l)) (omega arith)
  ];
  alike = λ i. elim (cases_lt i n) [
    | inl l ↦ ap (λ v. bit_or v 32) (read_take n a i l) ∙ (is.alike i ∙ sym (ap (λ v. bit_or v 32) (read_take n b i l)))
    | inr l ↦ ap (λ v. bit_or v 32) (read_past n a i l ∙ sym (read_past n b i l))
  ];
}

-- a byte more at the lower end of both
one_more : (x y r s m : ℕ) → x < 256 → y < 256 → bit_or x 32 ≡ bit_or y 32 → bit_or r m ≡ bit_or s m → bit_or (r * 256 + x) (m * 256 + 32) ≡ bit_or (s * 256 + y) (m * 256 + 32)
one_more x y r s m small small' same rest =
    or_block 8 r m x 32 small (omega arith)
    ∙ (ap (λ v. v * 256 + bit_or x 32) rest ∙ (ap (λ v. bit_or s m * 256 + v) same ∙ sym (or_block 8 s m y 32 small' (omega arith))))

-- so many bytes from a place on as a number, the first one lowest, and as many bytes that have the bit of cases alone
abbrev number : ℕ → ℕ → List ℕ → ℕ
number zero k a = 0
number (suc n) k a = number n (suc k) a * 256 + get_or a k 0

abbrev cases : ℕ → ℕ
cases zero = 0
cases (suc n) = cases n * 256 + 32

number_alike : (n k : ℕ) (a b : List ℕ) → AreRead a b → bit_or (number n k a) (cases n) ≡ bit_or (number n k b) (cases n)
number_alike zero k a b is = refl
number_alike (suc n) k a b is =
    one_more (get_or a k 0) (get_or b k 0) (number n (suc k) a) (number n (suc k) b) (cases n) (is.small k) (is.small' k) (is.alike k) (number_alike n (suc k) a b is)

number_is : (a : List ℕ) → from_le_bytes w64 a ≡ number 8 0 a
number_is a = omega arith

-- the words of both are one
pub word_alike : (a b : List ℕ) → AreRead a b → word_of a ≡ word_of b
word_alike a b is =
    ap (λ n. bit_or n 0x2020_2020_2020_2020) (number_is a) ∙ (number_alike 8 0 a b is ∙ sym (ap (λ n. bit_or n 0x2020_2020_2020_2020) (number_is b)))

front_alike : (k hash : ℕ) (a b : List ℕ) → AreRead a b → fold with_word hash (first_chunks 8 k a) ≡ fold with_word hash (first_chunks 8 k b)
front_alike zero hash a b is = refl
front_alike (suc k) hash a b is =
    let word : with_word hash (take 8 a) ≡ with_word hash (take 8 b) = ap (stir hash) (word_alike (take 8 a) (take 8 b) (read_front 8 a b is)) in
    ap (λ h. fold with_word h (first_chunks 8 k (drop 8 a))) word ∙ front_alike k (with_word hash (take 8 b)) (drop 8 a) (drop 8 b) (read_drop 8 a b is)

-- and if they have one length, so are their hashes
pub hash_alike : (a b : List ℕ) → length a ≡ length b → AreRead a b → bytes_hash a ≡ bytes_hash b
hash_alike a b long is =
    let start : ℕ = 0x9e37_79b9_7f4a_7c15 in
    let front : fold with_word start (first_chunks 8 (length a / 8) a) ≡ fold with_word start (first_chunks 8 (length b / 8) b) =
    front_alike (length a / 8) start a b is ∙ ap (λ n. fold with_word start (first_chunks 8 (n / 8) b)) long in
    let last : word_of (last_eight a) ≡ word_of (last_eight b) =
    word_alike (drop (length a - 8) a) (drop (length a - 8) b) (read_drop (length a - 8) a b is) ∙ ap (λ n. word_of (drop (n - 8) b)) long in
    ap (λ h. stir h (spread (word_of (last_eight a)))) front ∙ ap (λ w. stir (fold with_word start (first_chunks 8 (length b / 8) b)) (spread w)) last

-- ---- numbers of bytes that are read alike
sum_same : (f g : ℕ → ℕ) → ((i : ℕ) → f i ≡ g i) → (k : ℕ) → sum_through f k ≡ sum_through g k
sum_same f g same zero = same 0
sum_same f g same (suc k) = ap (λ s. s + f (suc k)) (sum_same f g same k) ∙ ap (λ v. sum_through g k + v) (same (suc k))

pub same_number : (a b : List ℕ) → ((i : ℕ) → get_or a i 0 ≡ get_or b i 0) → from_le_bytes w64 a ≡ from_le_bytes w64 b
same_number a b same = sum_same (λ i. byte_worth i (get_or a i 0)) (λ i. byte_worth i (get_or b i 0)) (λ i. ap (byte_worth i) (same i)) 7

-- ---- words of fewer than eight bytes
abbrev pub low_four : List ℕ → ℕ
low_four a = get_or a 0 0 + get_or a 1 0 * 256 + get_or a 2 0 * 65536 + get_or a 3 0 * 16777216

three_bytes : (a : List ℕ) → length a < 4 → from_le_bytes w64 a ≡ get_or a 0 0 + get_or a 1 0 * 256 + get_or a 2 0 * 65536
three_bytes a few =
    let b3 = get_or_past a 3 0 (omega (arith, few)) in
    let b4 = get_or_past a 4 0 (omega (arith, few)) in
    let b5 = get_or_past a 5 0 (omega (arith, few)) in
    let b6 = get_or_past a 6 0 (omega (arith, few)) in
    let b7 = get_or_past a 7 0 (omega (arith, few)) in
    omega (arith, b3, b4, b5, b6, b7)

pub few_bytes : (a : List ℕ) (one two three : ℕ) → length a < 4 → ((i : ℕ) → get_or a i 0 < 256) → one ≡ get_or a 0 0 → two ≡ get_or a 1 0 → three ≡ get_or a 2 0
    → one + two * 256 % 18446744073709551616 + three * 65536 % 18446744073709551616 ≡ from_le_bytes w64 a
few_bytes a one two three few small first second third =
    let s1 = small 1 in
    let s2 = small 2 in
    let two_fits : two * 256 % 18446744073709551616 ≡ two * 256 = mod-eq_of_lt (omega (arith, second, s1)) in
    let three_fits : three * 65536 % 18446744073709551616 ≡ three * 65536 = mod-eq_of_lt (omega (arith, third, s2)) in
    sym (three_bytes a few ∙ omega (arith, first, second, third, two_fits, three_fits))

-- the last four bytes of some without those that are among the first four
abbrev pub beyond : List ℕ → ℕ
beyond a = get_or a 4 0 + get_or a 5 0 * 256 + get_or a 6 0 * 65536

cut : (a last : List ℕ) (n : ℕ) → length a ≡ n → 4 ≤ n → n < 8 → ((i : ℕ) → get_or a i 0 < 256) → last ≡ drop (n - 4) a → from_le_bytes w32 last / 2 ^ (8 * (8 - n)) ≡ beyond a
cut a last n long least most small is = by_count n long least most (λ i. ap (λ (l : List ℕ). get_or l i 0) is ∙ get_or-drop (n - 4) a i 0)
  where
    by_count : (n : ℕ) → length a ≡ n → 4 ≤ n → n < 8 → ((i : ℕ) → get_or last i 0 ≡ get_or a (n - 4 + i) 0) → from_le_bytes w32 last / 2 ^ (8 * (8 - n)) ≡ beyond a
    by_count (suc (suc (suc (suc zero)))) long least most at =
        let b4 = get_or_past a 4 0 (omega (arith, long)) in
        let b5 = get_or_past a 5 0 (omega (arith, long)) in
        let b6 = get_or_past a 6 0 (omega (arith, long)) in
        omega (arith, at 0, at 1, at 2, at 3, b4, b5, b6, small 0, small 1, small 2, small 3)
    by_count (suc (suc (suc (suc (suc zero))))) long least most at =
        let b5 = get_or_past a 5 0 (omega (arith, long)) in
        let b6 = get_or_past a 6 0 (omega (arith, long)) in
        omega (arith, at 0, at 1, at 2, at 3, b5, b6, small 1, small 2, small 3, small 4)
    by_count (suc (suc (suc (suc (suc (suc zero)))))) long least most at =
        let b6 = get_or_past a 6 0 (omega (arith, long)) in
        omega (arith, at 0, at 1, at 2, at 3, b6, small 2, small 3, small 4, small 5)
    by_count (suc (suc (suc (suc (suc (suc (suc zero))))))) long least most at = omega (arith, at 0, at 1, at 2, at 3, small 3, small 4, small 5, small 6)
    by_count zero long least most at = absurd (omega (arith, least))
    by_count (suc zero) long least most at = absurd (omega (arith, least))
    by_count (suc (suc zero)) long least most at = absurd (omega (arith, least))
    by_count (suc (suc (suc zero))) long least most at = absurd (omega (arith, least))
    by_count (suc (suc (suc (suc (suc (suc (suc (suc n)))))))) long least most at = absurd (omega (arith, most))

pub some_bytes : (a first last : List ℕ) (low high : ℕ) → 4 ≤ length a → length a < 8 → ((i : ℕ) → get_or a i 0 < 256) → first ≡ take 4 a → last ≡ drop (length a - 4) a
    → low ≡ from_le_bytes w32 first → high ≡ from_le_bytes w32 last
    → low + high / 2 ^ (8 * (8 - length a)) * 4294967296 % 18446744073709551616 ≡ from_le_bytes w64 a
some_bytes a first last low high least most small is is' low_is high_is =
    let end : high / 2 ^ (8 * (8 - length a)) ≡ beyond a = ap (λ h. h / 2 ^ (8 * (8 - length a))) high_is ∙ cut a last (length a) refl least most small is' in
    let f0 = ap (λ (f : List ℕ). get_or f 0 0) is ∙ read_take 4 a 0 (omega arith) in
    let f1 = ap (λ (f : List ℕ). get_or f 1 0) is ∙ read_take 4 a 1 (omega arith) in
    let f2 = ap (λ (f : List ℕ). get_or f 2 0) is ∙ read_take 4 a 2 (omega arith) in
    let f3 = ap (λ (f : List ℕ). get_or f 3 0) is ∙ read_take 4 a 3 (omega arith) in
    let b7 = get_or_past a 7 0 (omega (arith, most)) in
    let s4 = small 4 in
    let s5 = small 5 in
    let s6 = small 6 in
    let front : low ≡ low_four a = low_is ∙ omega (arith, f0, f1, f2, f3) in
    let fits : beyond a * 4294967296 % 18446744073709551616 ≡ beyond a * 4294967296 = mod-eq_of_lt (omega (arith, s4, s5, s6)) in
    let all : low_four a + beyond a * 4294967296 ≡ from_le_bytes w64 a = omega (arith, b7) in
    ap (λ v. v + high / 2 ^ (8 * (8 - length a)) * 4294967296 % 18446744073709551616) front
    ∙ (ap (λ v. low_four a + v * 4294967296 % 18446744073709551616) end ∙ (ap (λ v. low_four a + v) fits ∙ all))
