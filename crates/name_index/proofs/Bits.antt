-- Bits of hashes and entries.
use Rattle.std.proofs.Common.{◌≡◌, ℕ, ◌+◌, ◌-◌, ◌*◌, ◌/◌, ◌%◌, ◌^◌, ◌<◌, ◌≤◌, ◌==◌, true, false, zero, suc, not, refl, sym, ◌∙◌, ap, arith, bit_and, bit_or}
use Rattle.std.proofs.lemmas.Bool.{eqb-true, eqb-false}
use Rattle.std.proofs.lemmas.Bool.Decides.{nat_tests}
use Rattle.std.proofs.lemmas.Nat.{and_block, and_le_r, and_mask, mod-pow-add, mod_below, or_shifted, pow-add, pow_pos, shr-shr, shr_split}
use Rattle.name_index.specs.Buckets.{IsNumber, entry_of, goes}
use Rattle.name_index.specs.Index.{home}

-- of a power of 2, a number has the bit or not
and_power : (n k : ℕ) → bit_and n (2 ^ k) ≡ n / 2 ^ k % 2 * 2 ^ k
and_power n k =
    let parts : n / 2 ^ k * 2 ^ k + n % 2 ^ k ≡ n = shr_split n k in
    let rest : n % 2 ^ k < 2 ^ k = mod_below n (2 ^ k) (pow_pos k) in
    let block : bit_and (n / 2 ^ k * 2 ^ k + n % 2 ^ k) (1 * 2 ^ k + 0) ≡ bit_and (n / 2 ^ k) 1 * 2 ^ k + bit_and (n % 2 ^ k) 0 = and_block k (n / 2 ^ k) 1 (n % 2 ^ k) 0 rest (pow_pos k) in
    let none : bit_and (n % 2 ^ k) 0 ≡ 0 = omega (arith, and_le_r (n % 2 ^ k) 0) in
    let one : bit_and (n / 2 ^ k) 1 ≡ n / 2 ^ k % 2 = and_mask (n / 2 ^ k) 1 in
    let power : 1 * 2 ^ k + 0 ≡ 2 ^ k = omega arith in
    ap (λ m. bit_and m (2 ^ k)) (sym parts)
    ∙ (ap (bit_and (n / 2 ^ k * 2 ^ k + n % 2 ^ k)) (sym power)
    ∙ (block ∙ (ap (λ b. b * 2 ^ k + bit_and (n % 2 ^ k) 0) one ∙ omega (arith, none))))

pub has_power : (n k : ℕ) → not (bit_and n (2 ^ k) == 0) ≡ (n / 2 ^ k % 2 == 1)
has_power n k =
    ap (λ b. not (b == 0)) (and_power n k) ∙ by_bit (n / 2 ^ k % 2) (2 ^ k) (omega arith) (pow_pos k)
  where
    by_bit : (b p : ℕ) → b < 2 → 0 < p → not (b * p == 0) ≡ (b == 1)
    by_bit zero p l pos = let none : 0 * p ≡ 0 = omega arith in ap (λ b. not (b == 0)) none
    by_bit (suc zero) p l pos = grind (arith, nat_tests)
    by_bit (suc (suc b)) p l pos = absurd (omega arith)

pub masked : (n count k : ℕ) → count ≡ 2 ^ k → bit_and n (count - 1) ≡ n % count
masked n count k is = ap (λ c. bit_and n (c - 1)) is ∙ (and_mask n k ∙ ap (λ c. n % c) (sym is))

-- an entry, and what is read of it
pub joined : (hash number : ℕ) → number < 1048576 → bit_or (hash / 1048576 * 1048576) number ≡ hash / 1048576 * 1048576 + number
joined hash number small = or_shifted (hash / 1048576) 20 number small

-- bits above the mark's first one
past_mark : (n lead k more : ℕ) → lead + k ≡ 20 + more → n / 2 ^ lead / 2 ^ k ≡ n / 1048576 / 2 ^ more
past_mark n lead k more sum = shr-shr n lead k ∙ (ap (λ i. n / 2 ^ i) sum ∙ sym (shr-shr n 20 more))

-- an entry goes where its hash does
pub entry_goes : (lead hash number count k : ℕ) → IsNumber number → count ≡ 2 ^ k → 20 ≤ lead + k → goes lead count (entry_of hash number) ≡ goes lead count hash
entry_goes lead hash number count k is_number is end =
    let entry = entry_of hash number in
    let more : ℕ = lead + k - 20 in
    let sum : lead + k ≡ 20 + more = omega (arith, end) in
    let mark : entry / 1048576 ≡ hash / 1048576 = omega (arith, is_number) in
    ap (λ c. goes lead c entry) is
    ∙ (ap (λ i. i % 2 == 1) (past_mark entry lead k more sum ∙ (ap (λ m. m / 2 ^ more) mark ∙ sym (past_mark hash lead k more sum)))
    ∙ ap (λ c. goes lead c hash) (sym is))

-- where a hash leads to when buckets are doubled
home_doubled : (lead hash count k : ℕ) → count ≡ 2 ^ k → home lead hash (2 * count) ≡ hash / 2 ^ lead / count % 2 * count + home lead hash count
home_doubled lead hash count k is =
    let twice : 2 * count ≡ 2 ^ (1 + k) = ap (λ c. 2 * c) is ∙ sym (pow-add 2 1 k) in
    let bits : ℕ = hash / 2 ^ lead in
    ap (λ c. bits % c) twice ∙ (mod-pow-add bits 1 k ∙ ap (λ c. bits / c % 2 * c + bits % c) (sym is))

pub home_above : (lead hash count k : ℕ) → count ≡ 2 ^ k → goes lead count hash ≡ true → home lead hash (2 * count) ≡ count + home lead hash count
home_above lead hash count k is upper =
    let bit : hash / 2 ^ lead / count % 2 ≡ 1 = eqb-true _ _ upper in
    home_doubled lead hash count k is ∙ (ap (λ b. b * count + home lead hash count) bit ∙ omega arith)

pub home_below : (lead hash count k : ℕ) → count ≡ 2 ^ k → goes lead count hash ≡ false → home lead hash (2 * count) ≡ home lead hash count
home_below lead hash count k is lower =
    let apart = eqb-false _ _ lower in
    let bit : hash / 2 ^ lead / count % 2 ≡ 0 = not_one (hash / 2 ^ lead / count % 2) (omega arith) apart in
    home_doubled lead hash count k is ∙ (ap (λ b. b * count + home lead hash count) bit ∙ omega arith)
  where
    not_one : (b : ℕ) → b < 2 → (b ≡ 1 → ⊥) → b ≡ 0
    not_one zero l apart = refl
    not_one (suc zero) l apart = absurd (apart refl)
    not_one (suc (suc b)) l apart = absurd (omega (arith, l))

pub home_inside : (lead hash count k : ℕ) → count ≡ 2 ^ k → home lead hash count < count
home_inside lead hash count k is = mod_below (hash / 2 ^ lead) count (omega (arith, is, pow_pos k))
