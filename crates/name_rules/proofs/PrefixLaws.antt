-- The first characters of names as numbers.
use Rattle.std.proofs.Common.{◌≡◌, ℕ, zero, suc, ◌+◌, ◌-◌, ◌*◌, ◌^◌, ◌<◌, ◌≤◌, nat_lt, Bool, true, false, inl, inr, List, [], ◌∷◌, drop, drop-cons, get_or, Ordering, Less, Equal, Greater, refl, sym, ◌∙◌, ap, arith, pow-suc, add-mul, add_assoc, mul_assoc, mul_comm, one-mul, zero-add, zero-mul, length}
use Rattle.std.specs.Prelude.{if◌then◌else◌, min, map}
use Rattle.std.specs.Ordering.{nat_cmp, ordering_then, ordering_reverse}
use Rattle.std.specs.Char.{to_ascii_lowercase}
use Rattle.std.specs.Cmp.Lexicographic.{slice_cmp}
use Rattle.std.specs.Str.{chars}
use Rattle.std.proofs.Math.Nat.{mul-le-mul_right, pow-le-pow_right}
use Rattle.std.proofs.lemmas.Bool.{cases_lt, cases_order}
use Rattle.std.proofs.lemmas.Bool.Decides.{nat_tests}
use Rattle.std.proofs.lemmas.Cmp.{nat_list_cmp_total}
use Rattle.std.proofs.lemmas.List.{drop_all, get_or_past}
use Rattle.std.proofs.lemmas.Str.{chars-nil}
use Rattle.std.proofs.lemmas.Str.Ascii.{lowercase_ascii}
use Rattle.ucd_case.specs.CaseFolding.{simple_fold}
use Rattle.ucd_case.proofs.CaseFoldingLemmas.{simple_fold-ascii}
use Rattle.fsrm_model.specs.values.Name.{folded, name_cmp}
use Rattle.name_rules.specs.Prefix.{number_of, prefix}
use Rattle.name_rules.proofs.Fronts.{chars_ascii}

-- ---- a number of n digits
one_more : (c p : ℕ) → (c + 1) * p ≡ c * p + p
one_more c p = add-mul c 1 p ∙ ap (λ q. c * p + q) (one-mul p)

digits_more : (c n : ℕ) → c < 255 → c * 256 ^ n + 256 ^ n ≤ 255 * 256 ^ n
digits_more c n l =
    let most = mul-le-mul_right {m = c + 1} {n = 255} (256 ^ n) (omega arith) in
    omega (arith, most, one_more c (256 ^ n))

pub some_digits : (n : ℕ) → 0 < 256 ^ n
some_digits zero = omega arith
some_digits (suc n) = omega (arith, some_digits n, pow-suc 256 n)

small_at : (b : Bool) (c n rest : ℕ) → nat_lt c 255 ≡ b → rest < 256 ^ n → (if b then c * 256 ^ n + rest else 256 ^ suc n - 1) < 256 ^ suc n
small_at true c n rest e l = let below : c < 255 = grind (arith, nat_tests) in omega (arith, digits_more c n below, pow-suc 256 n, l)
small_at false c n rest e l = omega (arith, some_digits (suc n))

pub number_small : (n : ℕ) (cs : List ℕ) → number_of n cs < 256 ^ n
number_small zero cs = omega arith
number_small (suc n) [] = some_digits (suc n)
number_small (suc n) (c ∷ cs) = small_at (nat_lt c 255) c n (number_of n cs) refl (number_small n cs)

-- ---- of two lists whose numbers differ the one of the less number comes first
less_first : (x y : ℕ) (rest : Ordering) → x < y → ordering_then (nat_cmp x y) rest ≡ Less
less_first x y rest l = let is : nat_cmp x y ≡ Less = grind (arith, nat_tests) in ap (λ o. ordering_then o rest) is

more_first : (x y : ℕ) (rest : Ordering) → y < x → ordering_then (nat_cmp x y) rest ≡ Greater
more_first x y rest l = let is : nat_cmp x y ≡ Greater = grind (arith, nat_tests) in ap (λ o. ordering_then o rest) is

same_first : (x y : ℕ) (rest : Ordering) → x ≡ y → ordering_then (nat_cmp x y) rest ≡ rest
same_first x y rest e = let is : nat_cmp x y ≡ Equal = grind (arith, nat_tests) in ap (λ o. ordering_then o rest) is

less_at : (a b : Bool) (x y n p q : ℕ) (rest : Ordering) → nat_lt x 255 ≡ a → nat_lt y 255 ≡ b → p < 256 ^ n → q < 256 ^ n → (p < q → rest ≡ Less) → (if a then x * 256 ^ n + p else 256 ^ suc n - 1) < (if b then y * 256 ^ n + q else 256 ^ suc n - 1) → ordering_then (nat_cmp x y) rest ≡ Less
less_at true true x y n p q rest e f low high more l =
    elim (cases_lt x y) [
      | inl m ↦ less_first x y rest m
      | inr m ↦ elim (cases_lt y x) [
        | inl k ↦
            let most = mul-le-mul_right {m = y + 1} {n = x} (256 ^ n) (omega arith) in
            absurd (omega (arith, most, one_more y (256 ^ n), l, high))
        | inr k ↦
            let same : x ≡ y = omega (arith, m, k) in
            let parts : x * 256 ^ n ≡ y * 256 ^ n = ap (λ z. z * 256 ^ n) same in
            same_first x y rest same ∙ more (omega (arith, parts, l))
      ]
    ]
less_at true false x y n p q rest e f low high more l = let less : x < y = grind (arith, nat_tests) in less_first x y rest less
less_at false true x y n p q rest e f low high more l =
    let below : y < 255 = grind (arith, nat_tests) in
    absurd (omega (arith, digits_more y n below, pow-suc 256 n, l, high))
less_at false false x y n p q rest e f low high more l = absurd (omega (arith, l))

number_less : (n : ℕ) (xs ys : List ℕ) → number_of n xs < number_of n ys → slice_cmp nat_cmp xs ys ≡ Less
number_less zero xs ys l = absurd (omega (arith, l))
number_less (suc n) [] [] l = absurd (omega (arith, l))
number_less (suc n) [] (y ∷ ys) l = refl
number_less (suc n) (x ∷ xs) [] l = absurd (omega (arith, l))
number_less (suc n) (x ∷ xs) (y ∷ ys) l =
    less_at (nat_lt x 255) (nat_lt y 255) x y n (number_of n xs) (number_of n ys) (slice_cmp nat_cmp xs ys) refl refl (number_small n xs) (number_small n ys) (number_less n xs ys) l

pub prefix_less : (a b : List ℕ) → prefix a < prefix b → name_cmp a b ≡ Less
prefix_less a b l = number_less 8 (folded a) (folded b) l

pub prefix_more : (a b : List ℕ) → prefix b < prefix a → name_cmp a b ≡ Greater
prefix_more a b l = nat_list_cmp_total.antisymm (folded a) (folded b) ∙ ap ordering_reverse (prefix_less b a l)

-- so names may be compared by these first
pub prefix_first : (a b : List ℕ) → ordering_then (nat_cmp (prefix a) (prefix b)) (name_cmp a b) ≡ name_cmp a b
prefix_first a b =
    elim (cases_order (prefix a) (prefix b)) [
      | inl same ↦ same_first (prefix a) (prefix b) (name_cmp a b) same
      | inr (inl less) ↦ less_first (prefix a) (prefix b) (name_cmp a b) less ∙ sym (prefix_less a b less)
      | inr (inr more) ↦ more_first (prefix a) (prefix b) (name_cmp a b) more ∙ sym (prefix_more a b more)
    ]

-- ---- a number made digit by digit
pub number_none : (n : ℕ) → number_of n [] ≡ 0
number_none zero = refl
number_none (suc n) = refl

-- one digit more, and one less to come
pub carried : (number digit n rest all : ℕ) → all ≡ digit * 256 ^ n + rest → number * 256 ^ suc n + all ≡ (number * 256 + digit) * 256 ^ n + rest
carried number digit n rest all e =
    let p = 256 ^ n in
    let high : number * 256 ^ suc n ≡ number * 256 * p = ap (λ q. number * q) (pow-suc 256 n ∙ mul_comm p 256) ∙ sym (mul_assoc number 256 p) in
    ap (λ q. number * 256 ^ suc n + q) e
    ∙ (ap (λ q. q + (digit * p + rest)) high
    ∙ (sym (add_assoc (number * 256 * p) (digit * p) rest)
    ∙ ap (λ q. q + rest) (sym (add-mul (number * 256) digit p))))

pub carried_small : (number digit place : ℕ) → number < 256 ^ place → digit < 256 → number * 256 + digit < 256 ^ suc place
carried_small number digit place low small = omega (arith, low, small, pow-suc 256 place)

-- so no number of up to eight digits is too large
pub digits_fit : (number place : ℕ) → number < 256 ^ place → place ≤ 7 → number < 256 ^ 7
digits_fit number place low most = let l = pow-le-pow_right {n = 256} (omega arith) {i = place} {j = 7} most in omega (arith, l, low)

-- ---- the digits of bytes
-- after the last one
pub past_end : (text : List ℕ) (place : ℕ) → length text ≤ place → folded (drop place text) ≡ []
past_end text place past = ap (map simple_fold) (ap chars (drop_all place text past) ∙ chars-nil)

-- so nothing is left of a name after as many of its bytes as there are, or eight
pub nothing_left : (text : List ℕ) (place : ℕ) → min (length text) 8 ≤ place → number_of (8 - place) (folded (drop place text)) ≡ 0
nothing_left text place l =
    elim (cases_lt place (length text)) [
      | inl more ↦ let none : 8 - place ≡ 0 = omega (arith, l, more) in ap (λ n. number_of n (folded (drop place text))) none
      | inr past ↦ ap (number_of (8 - place)) (past_end text place past) ∙ number_none (8 - place)
    ]

-- a character of ASCII
ascii_digit : (c n : ℕ) (cs : List ℕ) → c < 128 → number_of (suc n) (simple_fold c ∷ cs) ≡ to_ascii_lowercase c * 256 ^ n + number_of n cs
ascii_digit c n cs low =
    let lower = lowercase_ascii c low in
    let test : nat_lt (to_ascii_lowercase c) 255 ≡ true = ltb_is (to_ascii_lowercase c) 255 (omega (arith, lower)) in
    ap (λ d. number_of (suc n) (d ∷ cs)) (simple_fold-ascii c low)
    ∙ ap (λ b. if b then to_ascii_lowercase c * 256 ^ n + number_of n cs else 256 ^ suc n - 1) test
  where
    ltb_is : (m n : ℕ) → m < n → nat_lt m n ≡ true
    ltb_is m n l = grind (arith, nat_tests)

pub byte_digit : (text : List ℕ) (place n : ℕ) → get_or text place 0 < 128 → number_of (suc n) (folded (drop place text)) ≡ to_ascii_lowercase (get_or text place 0) * 256 ^ n + number_of n (folded (drop (suc place) text))
byte_digit text place n low =
    elim (cases_lt place (length text)) [
      | inl inside ↦
          let c = get_or text place 0 in
          let rest = drop (suc place) text in
          ap (λ t. number_of (suc n) (folded t)) (drop-cons text place 0 inside)
          ∙ (ap (λ cs. number_of (suc n) (map simple_fold cs)) (chars_ascii c rest low)
          ∙ ascii_digit c n (folded rest) low)
      | inr past ↦
          ap (number_of (suc n)) (past_end text place past)
          ∙ sym (ap (λ c. to_ascii_lowercase c * 256 ^ n + number_of n (folded (drop (suc place) text))) (get_or_past text place 0 past)
          ∙ (ap (λ cs. 0 * 256 ^ n + number_of n cs) (past_end text (suc place) (omega (arith, past)))
          ∙ (ap (λ q. q + number_of n []) (zero-mul (256 ^ n)) ∙ (zero-add (number_of n []) ∙ number_none n))))
    ]

-- ---- the digits of characters
-- what is still to come: the characters, or after one of 255 or more, any such one
abbrev pub to_come : ℕ → List ℕ → List ℕ
to_come last cs = if nat_lt last 255 then cs else 255 ∷ []

full : (n : ℕ) → number_of n (255 ∷ []) ≡ 256 ^ n - 1
full zero = refl
full (suc n) = refl

all_full : (n : ℕ) → 256 ^ suc n - 1 ≡ 255 * 256 ^ n + number_of n (255 ∷ [])
all_full n = omega (arith, full n, pow-suc 256 n, some_digits n)

-- the digit of a character, and what is to come after it
char_at : (b : Bool) (n c : ℕ) (cs : List ℕ) → nat_lt c 255 ≡ b → (if b then c * 256 ^ n + number_of n cs else 256 ^ suc n - 1) ≡ min c 255 * 256 ^ n + number_of n (to_come (min c 255) cs)
char_at true n c cs e =
    let below : c < 255 = grind (arith, nat_tests) in
    let same : min c 255 ≡ c = omega (arith, below) in
    sym (ap (λ d. d * 256 ^ n + number_of n (to_come d cs)) same ∙ ap (λ b. c * 256 ^ n + number_of n (if b then cs else 255 ∷ [])) e)
char_at false n c cs e =
    let least : 255 ≤ c = grind (arith, nat_tests) in
    let same : min c 255 ≡ 255 = omega (arith, least) in
    all_full n ∙ sym (ap (λ d. d * 256 ^ n + number_of n (to_come d cs)) same)

first_digit : (n : ℕ) (cs : List ℕ) → number_of (suc n) cs ≡ min (get_or cs 0 0) 255 * 256 ^ n + number_of n (to_come (min (get_or cs 0 0) 255) (drop 1 cs))
first_digit n [] = sym (ap (λ q. q + number_of n []) (zero-mul (256 ^ n)) ∙ (zero-add (number_of n []) ∙ number_none n))
first_digit n (c ∷ cs) = char_at (nat_lt c 255) n c cs refl

-- the same after any last digit
digit_at : (b : Bool) (last n : ℕ) (cs : List ℕ) → nat_lt last 255 ≡ b → last ≤ 255 → number_of (suc n) (if b then cs else 255 ∷ []) ≡ (if b then min (get_or cs 0 0) 255 else last) * 256 ^ n + number_of n (to_come (if b then min (get_or cs 0 0) 255 else last) (drop 1 cs))
digit_at true last n cs e l = first_digit n cs
digit_at false last n cs e l =
    let same : last ≡ 255 = grind (arith, nat_tests) in
    all_full n ∙ sym (ap (λ d. d * 256 ^ n + number_of n (to_come d (drop 1 cs))) same)

pub next_digit : (last n : ℕ) (cs : List ℕ) → last ≤ 255 → number_of (suc n) (to_come last cs) ≡ (if nat_lt last 255 then min (get_or cs 0 0) 255 else last) * 256 ^ n + number_of n (to_come (if nat_lt last 255 then min (get_or cs 0 0) 255 else last) (drop 1 cs))
next_digit last n cs l = digit_at (nat_lt last 255) last n cs refl l

small_digit : (b : Bool) (last c : ℕ) → last ≤ 255 → (if b then min c 255 else last) ≤ 255
small_digit true last c l = omega arith
small_digit false last c l = l

pub next_small : (last c : ℕ) → last ≤ 255 → (if nat_lt last 255 then min c 255 else last) ≤ 255
next_small last c l = small_digit (nat_lt last 255) last c l
