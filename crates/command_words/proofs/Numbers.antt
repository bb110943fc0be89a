-- Numbers of up to 20 digits, the greatest of which fit no u64.
use Rattle.std.proofs.Common.{◌≡◌, ℕ, zero, suc, ◌+◌, ◌-◌, ◌*◌, ◌^◌, ◌<◌, ◌≤◌, List, [], ◌∷◌, true, false, length, take, get_or, min, arith, refl, ap, sym, ◌∙◌, subst}
use mathlib.Core.Logic.{⊎_elim}
use Rattle.std.specs.Prelude.{Bool, ◌&&◌, ◌||◌, ◌==◌, not, Option, Some, None, Ok, Err, nat_lt, nat_le}
use Rattle.std.specs.Char.{is_ascii_digit, digit_value}
use Rattle.std.specs.List.{list_all, prefix_len}
use Rattle.std.specs.Str.Parse.{digits_value}
use Rattle.std.proofs.lemmas.Bool.{cases_lt}
use Rattle.std.proofs.lemmas.Int.Digits.{digits_value_more}
use Rattle.std.proofs.lemmas.Bool.Decides.{nat_tests}
use Rattle.std.proofs.lemmas.List.{length-take}
use Rattle.std.proofs.lemmas.List.Folds.{list_all_more}
use Rattle.std.proofs.lemmas.Str.{digit_value_digit}
use Rattle.std.proofs.lemmas.Str.Parse.{digits_value_short}
use Rattle.fsrm_base.proofs.TestLaws.{and_false, both, both_true, eq_is, is_false, le_is, le_test, lt_is, lt_test, not_le, or_false}
use Rattle.fsrm_model.specs.declared.command.Refusal.TheVariants.{BadLine, OutOfRange}
use Rattle.fsrm_model.specs.lines.Reading.{guarded, is_number, number_from}
use Rattle.fsrm_model.specs.lines.Words.{is_blank, is_quote, without_quotes}
use Rattle.command_words.specs.Lengths.{is_plain, IsPlainWord, word_length}
use Rattle.command_words.specs.Numerals.{greatest_number, BeginsWithDigits, ReadsDigits, ReadsNumber}
use Rattle.command_words.proofs.LimitWords.{own}
use Rattle.command_words.proofs.LineWords.{is_plain_word}
use Rattle.command_words.proofs.WordLengths.{neither}

-- ---- one digit after the other
pub digit_from : (b : ℕ) → is_ascii_digit b ≡ true → (48 ≤ b) × (b ≤ 57)
digit_from b h = let parts = both _ _ h in (le_is 48 b parts.0, le_is b 57 parts.1)

-- a number that is cut at M stays cut
cut_more : (v n d M : ℕ) → n ≡ min v M → min (min (n * 10) M + d) M ≡ min (v * 10 + d) M
cut_more v n d M is = omega arith

pub digit_more : (M : ℕ) (text : List ℕ) (i n : ℕ) → i < length text → is_ascii_digit (get_or text i 0) ≡ true → n ≡ min (digits_value 10 (take i text)) M
    → min (min (n * 10) M + (get_or text i 0 - 48)) M ≡ min (digits_value 10 (take (i + 1) text)) M
digit_more M text i n within digit is =
    let range = digit_from (get_or text i 0) digit in
    let value : get_or text i 0 - 48 ≡ digit_value (get_or text i 0) = omega (arith, digit_value_digit (get_or text i 0) range, range.0) in
    ap (λ d. min (min (n * 10) M + d) M) value
    ∙ cut_more (digits_value 10 (take i text)) n (digit_value (get_or text i 0)) M is
    ∙ ap (λ v. min v M) (sym (digits_value_more 10 text i within))

pub digits_more : (text : List ℕ) (i : ℕ) → i < length text → is_ascii_digit (get_or text i 0) ≡ true → list_all is_ascii_digit (take i text) ≡ true → list_all is_ascii_digit (take (i + 1) text) ≡ true
digits_more text i within digit all = list_all_more is_ascii_digit text i 0 within ∙ ap (λ b. b && is_ascii_digit (get_or text i 0)) all ∙ digit

before : (i n : ℕ) → suc i < suc n → i < n
before i n h = omega arith

pub no_digits : (text : List ℕ) (i : ℕ) → i < length text → is_ascii_digit (get_or text i 0) ≡ false → list_all is_ascii_digit text ≡ false
no_digits [] i within other = absurd (omega arith)
no_digits (b ∷ text) zero within other = ap (λ t. t && list_all is_ascii_digit text) other
no_digits (b ∷ text) (suc i) within other = ap (λ t. is_ascii_digit b && t) (no_digits text i (before i (length text) within) other) ∙ and_false (is_ascii_digit b)

-- ---- a text of 1 to 20 digits
pub no_number : (text : List ℕ) → (nat_lt 0 (length text) && nat_le (length text) 20) ≡ false → is_number text ≡ false
no_number text h = ap (λ b. b && list_all is_ascii_digit text) h

pub number_read : (result : Option ℕ) (text : List ℕ) → (nat_lt 0 (length text) && nat_le (length text) 20) ≡ true → ReadsDigits result text → ReadsNumber result text
number_read None text long h =
    let whole = nat_lt 0 (length text) && nat_le (length text) 20 in
    ap (λ b. whole && b) h ∙ and_false whole
number_read (Some n) text long h = (ap (λ b. b && list_all is_ascii_digit text) long ∙ h.0, h.1)

-- ---- a number within its range, which ends below the number that it is cut at
uncut : (v n high M : ℕ) → n ≡ min v M → high < M → n ≤ high → v ≡ n
uncut v n high M is fits below = omega arith

same_range : (low high v n M : ℕ) → n ≡ min v M → high < M → (nat_le low n && nat_le n high) ≡ (nat_le low v && nat_le v high)
same_range low high v n M is fits =
    ⊎_elim
    (λ less. let same : n ≡ v = omega arith in ap (λ number. nat_le low number && nat_le number high) same)
    (λ more.
    ap (λ b. nat_le low n && b) (not_le n high (omega arith)) ∙ and_false (nat_le low n)
    ∙ sym (ap (λ b. nat_le low v && b) (not_le v high (omega arith)) ∙ and_false (nat_le low v)))
    (cases_lt v M)

module _ (low high column : ℕ) (text : List ℕ) (n : ℕ) (read : ReadsNumber (Some n) text) (fits : high < greatest_number) where
  range : (nat_le low n && nat_le n high) ≡ (nat_le low (digits_value 10 text) && nat_le (digits_value 10 text) high)
  range = same_range low high (digits_value 10 text) n greatest_number read.1 fits

  read_within : (nat_le low n && nat_le n high) ≡ true → number_from low high column text ≡ Ok n
  read_within within =
      let whole : digits_value 10 text ≡ n = uncut (digits_value 10 text) n high greatest_number read.1 fits (le_is n high (both _ _ within).1) in
      let test : (nat_le low (digits_value 10 text) && nat_le (digits_value 10 text) high) ≡ true = sym range ∙ within in
      let number : is_number text ≡ true = read.0 in
      rw (number, test) (ap Ok whole)

  read_outside : (nat_le low n && nat_le n high) ≡ false → number_from low high column text ≡ Err OutOfRange
  read_outside outside =
      let test : (nat_le low (digits_value 10 text) && nat_le (digits_value 10 text) high) ≡ false = sym range ∙ outside in
      let number : is_number text ≡ true = read.0 in
      rw (number, test) refl

  pub read_as : number_from low high column text ≡ guarded (nat_le low n && nat_le n high) OutOfRange n
  read_as = at (nat_le low n && nat_le n high) refl
    where
      at : (within : Bool) → (nat_le low n && nat_le n high) ≡ within → number_from low high column text ≡ guarded within OutOfRange n
      at true e = read_within e
      at false e = read_outside e

-- ---- the digits that a text begins with
pub few_fit : (text : List ℕ) (i : ℕ) → i ≤ length text → i < 19 → list_all is_ascii_digit (take i text) ≡ true → digits_value 10 (take i text) < 10 ^ 18
few_fit text i within few all = digits_value_short own (take i text) 18 all (omega (arith, length-take i text))

pub digit_added : (text : List ℕ) (i n : ℕ) → i < length text → is_ascii_digit (get_or text i 0) ≡ true → n ≡ digits_value 10 (take i text) → n * 10 + (get_or text i 0 - 48) ≡ digits_value 10 (take (i + 1) text)
digit_added text i n within digit is =
    let range = digit_from (get_or text i 0) digit in
    let value : get_or text i 0 - 48 ≡ digit_value (get_or text i 0) = omega (arith, digit_value_digit (get_or text i 0) range, range.0) in
    ap (λ d. n * 10 + d) value
    ∙ ap (λ v. v * 10 + digit_value (get_or text i 0)) is
    ∙ sym (digits_value_more 10 text i within)

digit_is_plain : (b : ℕ) → is_ascii_digit b ≡ true → (is_blank b ≡ false) × (is_quote b ≡ false)
digit_is_plain b h =
    let range = digit_from b h in
    let blank : is_blank b ≡ false = grind (arith, nat_tests) in
    let quote : is_quote b ≡ false = grind (arith, nat_tests) in
    (blank, quote)

blank_is_not_plain : (b : ℕ) → is_blank b ≡ true → is_plain b ≡ false
blank_is_not_plain b h = rw h refl

-- digits are as many plain bytes, if no plain byte follows
digits_plain : (text : List ℕ) (count : ℕ) → count ≤ length text → list_all is_ascii_digit (take count text) ≡ true → (count < length text → is_plain (get_or text count 0) ≡ false) → count ≡ prefix_len is_plain text
digits_plain [] zero within all stop = refl
digits_plain [] (suc count) within all stop = absurd (omega arith)
digits_plain (b ∷ bs) zero within all stop = rw (stop (omega arith)) refl
digits_plain (b ∷ bs) (suc count) within all stop =
    let parts = both (is_ascii_digit b) (list_all is_ascii_digit (take count bs)) all in
    let tests = digit_is_plain b parts.0 in
    let more : count ≡ prefix_len is_plain bs = digits_plain bs count (omega arith) parts.1 (λ less. stop (omega arith)) in
    rw (tests.0, tests.1) (omega arith)

ended : (count long : ℕ) (blank : Bool) → count < long → (count == long || blank) ≡ true → blank ≡ true
ended count long true less h = refl
ended count long false less h = absurd (omega (arith, eq_is count long (or_false (count == long) h)))

-- digits that are a word
pub digits_word : (rest bytes : List ℕ) (count number : ℕ) → bytes ≡ rest → BeginsWithDigits bytes count number → (nat_lt 0 count && (count == length bytes || is_blank (get_or bytes count 0))) ≡ true → IsPlainWord rest count
digits_word rest bytes count number same digits word =
    let end = (both (nat_lt 0 count) (count == length bytes || is_blank (get_or bytes count 0)) word).1 in
    let plain = digits_plain bytes count digits.within digits.digits (λ less. blank_is_not_plain (get_or bytes count 0) (ended count (length bytes) (is_blank (get_or bytes count 0)) less end)) in
    is_plain_word rest bytes count same plain word

-- what it reads as
pub digits_read : (low high column : ℕ) (rest bytes : List ℕ) (count number : ℕ) → bytes ≡ rest → BeginsWithDigits bytes count number → IsPlainWord rest count → number_from low high column (take count rest) ≡ guarded (nat_le low number && nat_le number high) OutOfRange number
digits_read low high column rest bytes count number same digits word =
    let all : list_all is_ascii_digit (take count rest) ≡ true = subst (λ (text : List ℕ). list_all is_ascii_digit (take count text) ≡ true) same digits.digits in
    let within : count ≤ length rest = subst (λ (text : List ℕ). count ≤ length text) same digits.within in
    let long : length (take count rest) ≡ count = omega (arith, length-take count rest) in
    let some : nat_lt 0 (length (take count rest)) ≡ true = lt_test 0 (length (take count rest)) (omega (arith, word.some)) in
    let few : nat_le (length (take count rest)) 20 ≡ true = le_test (length (take count rest)) 20 (omega (arith, digits.short)) in
    let whole : is_number (take count rest) ≡ true = both_true _ _ (both_true _ _ some few) all in
    let value : digits_value 10 (take count rest) ≡ number = sym (subst (λ (text : List ℕ). number ≡ digits_value 10 (take count text)) same digits.value) in
    rw whole (ap (λ n. guarded (nat_le low n && nat_le n high) OutOfRange n) value)

-- ---- a word that begins with digits, and goes on with a byte that is neither a digit nor a quote
spoilt_text : (text : List ℕ) (count : ℕ) → count < length text → list_all is_ascii_digit (take count text) ≡ true → is_plain (get_or text count 0) ≡ true → is_ascii_digit (get_or text count 0) ≡ false
    → (0 < word_length false text) × (list_all is_ascii_digit (without_quotes (take (word_length false text) text)) ≡ false)
spoilt_text [] count within all plain other = absurd (omega arith)
spoilt_text (b ∷ bs) zero within all plain other =
    let tests = neither (is_blank b) (is_quote b) plain in
    rw (tests.0, tests.1) (omega arith, ap (λ t. t && list_all is_ascii_digit (without_quotes (take (word_length false bs) bs))) other)
spoilt_text (b ∷ bs) (suc count) within all plain other =
    let parts = both (is_ascii_digit b) (list_all is_ascii_digit (take count bs)) all in
    let tests = digit_is_plain b parts.0 in
    let more = (spoilt_text bs count (before count (length bs) within) parts.1 plain other).1 in
    rw (tests.0, tests.1) (omega arith, ap (λ t. is_ascii_digit b && t) more ∙ and_false (is_ascii_digit b))

-- it begins a word, which is no number
pub spoilt_read : (low high column : ℕ) (rest bytes : List ℕ) (count number : ℕ) → bytes ≡ rest → BeginsWithDigits bytes count number
    → ((nat_lt count (length bytes) && is_plain (get_or bytes count 0)) && not (is_ascii_digit (get_or bytes count 0))) ≡ true
    → (0 < word_length false rest) × (number_from low high column (without_quotes (take (word_length false rest) rest)) ≡ Err (BadLine column))
spoilt_read low high column rest bytes count number same digits spoilt =
    let parts = both (nat_lt count (length bytes) && is_plain (get_or bytes count 0)) (not (is_ascii_digit (get_or bytes count 0))) spoilt in
    let front = both (nat_lt count (length bytes)) (is_plain (get_or bytes count 0)) parts.0 in
    let own = spoilt_text bytes count (lt_is count (length bytes) front.0) digits.digits front.1 (is_false (is_ascii_digit (get_or bytes count 0)) parts.1) in
    let moved = subst (λ (text : List ℕ). (0 < word_length false text) × (list_all is_ascii_digit (without_quotes (take (word_length false text) text)) ≡ false)) same own in
    (moved.0, no_word (without_quotes (take (word_length false rest) rest)) moved.1)
  where
    no_word : (text : List ℕ) → list_all is_ascii_digit text ≡ false → number_from low high column text ≡ Err (BadLine column)
    no_word text h =
        let none : is_number text ≡ false = ap (λ b. (nat_lt 0 (length text) && nat_le (length text) 20) && b) h ∙ and_false (nat_lt 0 (length text) && nat_le (length text) 20) in
        rw none refl
