-- The words of a text, after its blanks and after its first word.
use Rattle.std.proofs.Common.{◌≡◌, ℕ, suc, ◌+◌, ◌<◌, ◌≤◌, Bool, true, false, cond, List, [], ◌∷◌, length, take, drop, refl, sym, ap, ◌∙◌, arith, add-zero, inl, inr, get_or, subst}
use Rattle.std.specs.Prelude.{not, nat_lt, ◌==◌, ◌&&◌, ◌||◌, Some, None}
use Rattle.std.specs.List.{prefix_len, onto_first}
use Rattle.std.proofs.lemmas.Bool.{and_parts}
use Rattle.std.proofs.lemmas.List.{length-take, length-drop}
use Rattle.std.proofs.lemmas.List.Sums.{prefix_len-le-length}
use Rattle.std.proofs.lemmas.Bool.Decides.{nat_tests}
use Rattle.std.proofs.lemmas.Bool.{cases_lt}
use Rattle.std.proofs.lemmas.Str.{IsCharBoundary-end, IsCharBoundary-before_ascii}
use Rattle.std.proofs.Math.ListN.{drop_of_length-le}
use Rattle.std.proofs.Math.Seq.{drop-cons}
use Rattle.std.specs.Str.{IsUtf8, IsCharBoundary}
use Rattle.fsrm_model.specs.meaning.Spelling.{EndsWord}
use Rattle.fsrm_model.specs.lines.Words.{Word, is_blank, is_quote, parts_from, words_at, without_quotes}
use Rattle.fsrm_base.proofs.TestLaws.{both, eq_below, lt_is}
use Rattle.command_words.specs.Lengths.{is_plain, IsPlainWord, word_length}
use Rattle.command_words.specs.Taking.{first_column}
use Rattle.command_words.proofs.Fronts.{front_end}
use Rattle.command_words.proofs.Quotes.{without_quotes-plain}
use Rattle.command_words.proofs.WordLengths.{word_length-plain, word_length-le-length, prefix_len-after}

-- the parts after the first one, of which what ends it is the first byte
abbrev parts_after : List ℕ → List (List ℕ)
parts_after [] = []
parts_after (b ∷ bs) = parts_from false bs

-- the first part is a word, or empty
parts_from-word : (quoted : Bool) (text : List ℕ) → parts_from quoted text ≡ take (word_length quoted text) text ∷ parts_after (drop (word_length quoted text) text)
parts_from-word quoted [] = refl
parts_from-word quoted (b ∷ bs) = at (is_blank b && not quoted) (parts_from-word (cond (is_quote b) (not quoted) quoted) bs)
  where
    at : (end : Bool)
        → parts_from (cond (is_quote b) (not quoted) quoted) bs ≡ take (word_length (cond (is_quote b) (not quoted) quoted) bs) bs ∷ parts_after (drop (word_length (cond (is_quote b) (not quoted) quoted) bs) bs)
        → cond end ([] ∷ parts_from false bs) (onto_first b (parts_from (cond (is_quote b) (not quoted) quoted) bs))
        ≡ take (cond end 0 (suc (word_length (cond (is_quote b) (not quoted) quoted) bs))) (b ∷ bs) ∷ parts_after (drop (cond end 0 (suc (word_length (cond (is_quote b) (not quoted) quoted) bs))) (b ∷ bs))
    at true ih = refl
    at false ih = ap (onto_first b) ih

-- what follows a word is a blank or the end
ends : (quoted : Bool) (text : List ℕ) → EndsWord (drop (word_length quoted text) text)
ends quoted [] = tt
ends quoted (b ∷ bs) = at (is_blank b && not quoted) refl (ends (cond (is_quote b) (not quoted) quoted) bs)
  where
    at : (end : Bool) → (is_blank b && not quoted) ≡ end → EndsWord (drop (word_length (cond (is_quote b) (not quoted) quoted) bs) bs)
        → EndsWord (drop (cond end 0 (suc (word_length (cond (is_quote b) (not quoted) quoted) bs))) (b ∷ bs))
    at true e ih = (and_parts (is_blank b) (not quoted) e).0
    at false e ih = ih

words_after : (column : ℕ) (text : List ℕ) → EndsWord text → words_at (column + 1) (parts_after text) ≡ words_at column (parts_from false text)
words_after column [] h = refl
words_after column (b ∷ bs) h = rw h refl

words_at-part : (column : ℕ) (part : List ℕ) (parts : List (List ℕ)) → 0 < length part
    → words_at column (part ∷ parts) ≡ record { column = column; text = without_quotes part } ∷ words_at (column + length part + 1) parts
words_at-part column [] parts h = absurd (omega arith)
words_at-part column (b ∷ bs) parts h = refl

-- a word in front
pub words_at-word : (column : ℕ) (text : List ℕ) → 0 < word_length false text
    → words_at column (parts_from false text)
    ≡ record { column = column; text = without_quotes (take (word_length false text) text) } ∷ words_at (column + word_length false text) (parts_from false (drop (word_length false text) text))
words_at-word column text some =
    let n : ℕ = word_length false text in
    let within : word_length false text ≤ length text = word_length-le-length false text in
    let long : length (take (word_length false text) text) ≡ word_length false text = omega (arith, length-take (word_length false text) text) in
    let word : Word = record { column = column; text = without_quotes (take (word_length false text) text) } in
    let after : words_at (column + length (take (word_length false text) text) + 1) (parts_after (drop (word_length false text) text)) ≡ words_at (column + word_length false text) (parts_from false (drop (word_length false text) text)) =
    rw long (words_after (column + word_length false text) (drop (word_length false text) text) (ends false text)) in
    ap (words_at column) (parts_from-word false text)
    ∙ words_at-part column (take (word_length false text) text) (parts_after (drop (word_length false text) text)) (omega arith)
    ∙ ap (λ (more : List Word). word ∷ more) after

-- blanks in front
pub words_at-blanks : (column : ℕ) (text : List ℕ) → words_at column (parts_from false text) ≡ words_at (column + prefix_len is_blank text) (parts_from false (drop (prefix_len is_blank text) text))
words_at-blanks column [] = ap (λ (k : ℕ). words_at k (parts_from false [])) (sym (add-zero column))
words_at-blanks column (b ∷ bs) = at (is_blank b) refl (words_at-blanks (column + 1) bs)
  where
    at : (blank : Bool) → is_blank b ≡ blank
        → words_at (column + 1) (parts_from false bs) ≡ words_at (column + 1 + prefix_len is_blank bs) (parts_from false (drop (prefix_len is_blank bs) bs))
        → words_at column (parts_from false (b ∷ bs)) ≡ words_at (column + cond blank (1 + prefix_len is_blank bs) 0) (parts_from false (drop (cond blank (1 + prefix_len is_blank bs) 0) (b ∷ bs)))
    at false e ih = ap (λ (k : ℕ). words_at k (parts_from false (b ∷ bs))) (sym (add-zero column))
    at true e ih =
        let one : 1 + prefix_len is_blank bs ≡ suc (prefix_len is_blank bs) = omega arith in
        let sum : column + 1 + prefix_len is_blank bs ≡ column + suc (prefix_len is_blank bs) = omega arith in
        rw (one, e) (ih ∙ ap (λ (k : ℕ). words_at k (parts_from false (drop (prefix_len is_blank bs) bs))) sum)

-- a text that begins with no blank and no word is empty
pub no_word : (text : List ℕ) → prefix_len is_blank text ≡ 0 → word_length false text ≡ 0 → text ≡ []
no_word [] h k = refl
no_word (b ∷ bs) h k = at (is_blank b) refl
  where
    at : (blank : Bool) → is_blank b ≡ blank → (b ∷ bs) ≡ []
    at true e = let one : 1 + prefix_len is_blank bs ≡ 0 = rw e at h in absurd (omega (arith, one))
    at false e = let one : suc (word_length (cond (is_quote b) true false) bs) ≡ 0 = rw e at k in absurd (omega (arith, one))

-- the end stays where it is
pub same_end : (column count : ℕ) (rest after : List ℕ) → count ≤ length rest → after ≡ drop count rest → column + count + length after ≡ column + length rest
same_end column count rest after within after_is =
    let long = length-drop count rest in
    rw after_is (omega arith)

-- blanks are passed over
pub skipped : (column column' : ℕ) (rest bytes : List ℕ) (n : ℕ) (after : List ℕ) → bytes ≡ rest → n ≡ prefix_len is_blank bytes → after ≡ drop n rest → column' ≡ column + n
    → words_at column' (parts_from false after) ≡ words_at column (parts_from false rest)
skipped column column' rest bytes n after same n_is after_is column_is =
    let n_of : n ≡ prefix_len is_blank rest = n_is ∙ ap (prefix_len is_blank) same in
    let after_of : after ≡ drop (prefix_len is_blank rest) rest = after_is ∙ ap (λ (k : ℕ). drop k rest) n_of in
    rw (column_is, n_of, after_of) (sym (words_at-blanks column rest))

-- no blank is left in front
pub no_blanks : (rest bytes : List ℕ) (n : ℕ) (after : List ℕ) → bytes ≡ rest → n ≡ prefix_len is_blank bytes → after ≡ drop n rest → prefix_len is_blank after ≡ 0
no_blanks rest bytes n after same n_is after_is =
    let n_of : n ≡ prefix_len is_blank rest = n_is ∙ ap (prefix_len is_blank) same in
    rw (after_is, n_of) (prefix_len-after is_blank rest)

blank_is_ascii : (b : ℕ) → is_blank b ≡ true → b < 128
blank_is_ascii b h = grind (arith, nat_tests)

pub blanks_end : (text : List ℕ) (n : ℕ) → IsUtf8 text → n ≡ prefix_len is_blank text → IsCharBoundary text n
blanks_end = front_end is_blank blank_is_ascii

-- the first word is taken, its quotes in it
pub taken : (column column' : ℕ) (rest bytes : List ℕ) (n : ℕ) (front after : List ℕ) → bytes ≡ rest → n ≡ word_length false bytes → 0 < n → front ≡ take n rest → after ≡ drop n rest → column' ≡ column + n
    → words_at column (parts_from false rest) ≡ record { column = column; text = without_quotes front } ∷ words_at column' (parts_from false after)
taken column column' rest bytes n front after same n_is some front_is after_is column_is =
    let n_of : n ≡ word_length false rest = n_is ∙ ap (word_length false) same in
    let front_of : front ≡ take (word_length false rest) rest = front_is ∙ ap (λ (k : ℕ). take k rest) n_of in
    let after_of : after ≡ drop (word_length false rest) rest = after_is ∙ ap (λ (k : ℕ). drop k rest) n_of in
    rw (column_is, n_of, front_of, after_of) (words_at-word column rest (omega arith))

pub word_end : (text : List ℕ) (n : ℕ) → n ≡ word_length false text → IsCharBoundary text n
word_end text n e = elim (cases_lt n (length text)) [
  | inl inside ↦
      let here = drop-cons text n 0 inside in
      let blank : is_blank (get_or text n 0) ≡ true = subst EndsWord here (subst (λ (k : ℕ). EndsWord (drop k text)) (sym e) (ends false text)) in
      IsCharBoundary-before_ascii text n inside (blank_is_ascii (get_or text n 0) blank)
  | inr past ↦
      let at : length text ≡ n = omega (arith, word_length-le-length false text) in
      subst (IsCharBoundary text) at (IsCharBoundary-end text)
]

-- no word is left
pub none_left : (column : ℕ) (rest bytes : List ℕ) (n : ℕ) → bytes ≡ rest → n ≡ word_length false bytes → n ≡ 0 → prefix_len is_blank rest ≡ 0 → words_at column (parts_from false rest) ≡ []
none_left column rest bytes n same n_is zero_is none = rw (no_word rest none (ap (word_length false) (sym same) ∙ sym n_is ∙ zero_is)) refl

-- the same, with a text that is the word's without its quotes
pub taken_as : (column column' : ℕ) (rest bytes : List ℕ) (n : ℕ) (front after text : List ℕ) → bytes ≡ rest → n ≡ word_length false bytes → 0 < n → front ≡ take n rest → after ≡ drop n rest → column' ≡ column + n → text ≡ without_quotes front
    → words_at column (parts_from false rest) ≡ record { column = column; text = text } ∷ words_at column' (parts_from false after)
taken_as column column' rest bytes n front after text same n_is some front_is after_is column_is text_is =
    rw text_is (taken column column' rest bytes n front after same n_is some front_is after_is column_is)

-- ---- a word without quotes
second : (a b : Bool) → a ≡ false → (a || b) ≡ true → b ≡ true
second true b h e = absurd (cc h)
second false b h e = e

blank_ends : (b : ℕ) (bs : List ℕ) → is_blank b ≡ true → word_length false (b ∷ bs) ≡ 0
blank_ends b bs h = rw h refl

ended_there : (text : List ℕ) (n : ℕ) → (n == length text || is_blank (get_or text n 0)) ≡ true → word_length false (drop n text) ≡ 0
ended_there text n ended = elim (cases_lt n (length text)) [
  | inl inside ↦
      let blank = second (n == length text) (is_blank (get_or text n 0)) (eq_below n (length text) inside) ended in
      ap (word_length false) (drop-cons text n 0 inside) ∙ blank_ends (get_or text n 0) (drop (suc n) text) blank
  | inr past ↦ ap (word_length false) (drop_of_length-le text past)
]

pub plain_length : (text : List ℕ) (n : ℕ) → IsPlainWord text n → n ≡ word_length false text
plain_length text n word =
    let sum : word_length false text ≡ n + word_length false (drop n text) = rw word.plain (word_length-plain text) in
    omega (arith, sum, ended_there text n word.ended)

plain_text : (text : List ℕ) (n : ℕ) → IsPlainWord text n → take n text ≡ without_quotes (take n text)
plain_text text n word = rw word.plain (sym (without_quotes-plain text))

pub plain_taken : (column column' : ℕ) (rest : List ℕ) (n : ℕ) (after : List ℕ) → IsPlainWord rest n → after ≡ drop n rest → column' ≡ column + n
    → words_at column (parts_from false rest) ≡ record { column = column; text = take n rest } ∷ words_at column' (parts_from false after)
plain_taken column column' rest n after word after_is column_is =
    taken_as column column' rest rest n (take n rest) after (take n rest) refl (plain_length rest n word) word.some refl after_is column_is (plain_text rest n word)

pub is_plain_word : (rest bytes : List ℕ) (n : ℕ) → bytes ≡ rest → n ≡ prefix_len is_plain bytes → (nat_lt 0 n && (n == length bytes || is_blank (get_or bytes n 0))) ≡ true → IsPlainWord rest n
is_plain_word rest bytes n same plain word =
    let parts = both (nat_lt 0 n) (n == length bytes || is_blank (get_or bytes n 0)) word in
    subst (λ (text : List ℕ). IsPlainWord text n) same (record { some = lt_is 0 n parts.0; plain = plain; ended = parts.1 })

-- ---- the column of the next word
some_word : (text : List ℕ) → prefix_len is_blank text ≡ 0 → 0 < length text → 0 < word_length false text
some_word [] none some = absurd (omega arith)
some_word (b ∷ bs) none some = at (is_blank b) refl
  where
    at : (blank : Bool) → is_blank b ≡ blank → 0 < word_length false (b ∷ bs)
    at true e = let one : 1 + prefix_len is_blank bs ≡ 0 = rw e at none in absurd (omega (arith, one))
    at false e = rw e (omega arith)

pub no_column : (column : ℕ) (rest bytes : List ℕ) (n : ℕ) → bytes ≡ rest → n ≡ prefix_len is_blank bytes → n ≡ length rest → None ≡ first_column (words_at column (parts_from false rest))
no_column column rest bytes n same n_is all =
    let n_of : n ≡ prefix_len is_blank rest = n_is ∙ ap (prefix_len is_blank) same in
    let none : drop (prefix_len is_blank rest) rest ≡ [] = drop_of_length-le rest (omega arith) in
    let words : words_at column (parts_from false rest) ≡ [] = words_at-blanks column rest ∙ rw none refl in
    rw words refl

pub column_after : (column : ℕ) (rest bytes : List ℕ) (n : ℕ) → bytes ≡ rest → n ≡ prefix_len is_blank bytes → (n ≡ length rest → ⊥) → Some (column + n) ≡ first_column (words_at column (parts_from false rest))
column_after column rest bytes n same n_is more =
    let n_of : n ≡ prefix_len is_blank rest = n_is ∙ ap (prefix_len is_blank) same in
    let text : List ℕ = drop (prefix_len is_blank rest) rest in
    let some : 0 < length (drop (prefix_len is_blank rest) rest) = omega (arith, prefix_len-le-length is_blank rest, length-drop (prefix_len is_blank rest) rest) in
    let word = words_at-word (column + prefix_len is_blank rest) text (some_word text (prefix_len-after is_blank rest) some) in
    rw n_of (sym (ap first_column (words_at-blanks column rest ∙ word)))
