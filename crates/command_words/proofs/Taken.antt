-- What is taken from the front of a line's words.
use Rattle.std.proofs.Common.{◌≡◌, ℕ, ◌+◌, true, false, List, ◌∷◌, length, get_or, take, drop, sym, ap, ◌∙◌, subst}
use Rattle.std.specs.Prelude.{◌&&◌, not, nat_lt, nat_le, Option, Some, None, Result, Ok, Err}
use Rattle.std.specs.Char.{is_ascii_digit}
use Rattle.fsrm_model.specs.declared.command.Refusal.TheVariants.{BadLine, OutOfRange}
use Rattle.fsrm_model.specs.lines.Line.{number_word, path_word}
use Rattle.fsrm_model.specs.lines.Reading.{Read, ◌>>=◌, guarded, number_from, path_from}
use Rattle.fsrm_model.specs.lines.Words.{Word as LineWord, words_at, parts_from}
use Rattle.command_words.specs.declared.fault.LineFault.{LineFault}
use Rattle.command_words.specs.declared.fault.LineFault.TheVariants.{Refused, NoMemory}
use Rattle.command_words.specs.declared.words.Word.{Word}
use Rattle.command_words.specs.declared.words.Words.{Words}
use Rattle.command_words.specs.Lengths.{is_plain, IsPlainWord, word_length}
use Rattle.command_words.specs.LineFaults.{Reads}
use Rattle.command_words.specs.Numerals.{BeginsWithDigits}
use Rattle.command_words.specs.Taking.{left, end, plain_word, TakesLeft, Takes}
use Rattle.command_words.proofs.LineWords.{words_at-word}
use Rattle.command_words.proofs.Numbers.{digits_read, spoilt_read}

-- ---- the blanks before a word change nothing
pub same_read : {Y : Type 0} (read : ℕ → List LineWord → Read Y) (old mid : Words) → left mid ≡ left old → end mid ≡ end old → read (end mid) (left mid) ≡ read (end old) (left old)
same_read read old mid same last = ap (λ given. read (end mid) given) same ∙ ap (λ n. read n (left old)) last

pub taken_from : {X : Type 0} (result : Result X LineFault) (old mid new : Words) (read : ℕ → List LineWord → Read (X × List LineWord)) → left mid ≡ left old → end mid ≡ end old → Takes result mid new read → Takes result old new read
taken_from {X} (Ok x) old mid new read same last h = (sym (same_read {Y = X × List LineWord} read old mid same last) ∙ h.0, h.1 ∙ last)
taken_from {X} (Err (Refused refusal)) old mid new read same last h = sym (same_read {Y = X × List LineWord} read old mid same last) ∙ h
taken_from (Err NoMemory) old mid new read same last h = tt

pub left_from : (result : Result (Option Word) LineFault) (old mid new : Words) → left mid ≡ left old → end mid ≡ end old → TakesLeft result mid new → TakesLeft result old new
left_from (Ok None) old mid new same last h = (sym same ∙ h.0, h.1 ∙ last)
left_from (Ok (Some word)) old mid new same last h = (sym same ∙ h.0, h.1 ∙ last)
left_from (Err fault) old mid new same last h = (h.0, h.1 ∙ last)

-- ---- a word without quotes
pub plain_left : (old mid new : Words) (count : ℕ) (text : List ℕ) → left mid ≡ left old → end mid ≡ end old → left mid ≡ plain_word mid count ∷ left new → end new ≡ end mid → text ≡ take count mid.rest.now
    → (left old ≡ record { column = mid.column; text = text } ∷ left new) × (end new ≡ end old)
plain_left old mid new count text same last given last_is text_is = (sym same ∙ rw text_is given, last_is ∙ last)

-- ---- a word that is read as a path
pub path_read : (result : Result (List (List ℕ)) LineFault) (old new : Words) (word : LineWord) → left old ≡ word ∷ left new → end new ≡ end old → Reads result (path_from word.text) → Takes result old new path_word
path_read (Ok path) old new word given last read =
    (ap (λ words. path_word (end old) words) given ∙ ap (λ (r : Read (List (List ℕ))). r >>= λ path. Ok (path, left new)) read, last)
path_read (Err (Refused refusal)) old new word given last read =
    ap (λ words. path_word (end old) words) given ∙ ap (λ (r : Read (List (List ℕ))). r >>= λ path. Ok (path, left new)) read
path_read (Err NoMemory) old new word given last read = tt

-- ---- a word that is read as a number
word_read : (low high : ℕ) (result : Result ℕ LineFault) (old new : Words) (word : LineWord) → left old ≡ word ∷ left new → end new ≡ end old → Reads result (number_from low high word.column word.text) → Takes result old new (number_word low high)
word_read low high (Ok n) old new word given last read =
    (ap (λ words. number_word low high (end old) words) given ∙ ap (λ (r : Read ℕ). r >>= λ n. Ok (n, left new)) read, last)
word_read low high (Err (Refused refusal)) old new word given last read =
    ap (λ words. number_word low high (end old) words) given ∙ ap (λ (r : Read ℕ). r >>= λ n. Ok (n, left new)) read
word_read low high (Err NoMemory) old new word given last read = tt

pub number_taken : (low high : ℕ) (result : Result ℕ LineFault) (old mid new : Words) (bytes : List ℕ) (count number : ℕ) → left mid ≡ left old → end mid ≡ end old
    → bytes ≡ mid.rest.now → BeginsWithDigits bytes count number → IsPlainWord mid.rest.now count → left mid ≡ plain_word mid count ∷ left new → end new ≡ end mid
    → Reads result (guarded (nat_le low number && nat_le number high) OutOfRange number) → Takes result old new (number_word low high)
number_taken low high result old mid new bytes count number same last bytes_is digits word given last_is read =
    let is = digits_read low high mid.column mid.rest.now bytes count number bytes_is digits word in
    taken_from result old mid new (number_word low high) same last (word_read low high result mid new (plain_word mid count) given last_is (subst (Reads result) (sym is) read))

pub spoilt_number : (low high : ℕ) (old mid : Words) (bytes : List ℕ) (count number : ℕ) → left mid ≡ left old → end mid ≡ end old
    → bytes ≡ mid.rest.now → BeginsWithDigits bytes count number → ((nat_lt count (length bytes) && is_plain (get_or bytes count 0)) && not (is_ascii_digit (get_or bytes count 0))) ≡ true
    → number_word low high (end old) (left old) ≡ Err (BadLine mid.column)
unfolding left
spoilt_number low high old mid bytes count number same last bytes_is digits spoilt =
    let is = spoilt_read low high mid.column mid.rest.now bytes count number bytes_is digits spoilt in
    let given = words_at-word mid.column mid.rest.now is.0 in
    sym (same_read (number_word low high) old mid same last)
    ∙ ap (λ words. number_word low high (end mid) words) given
    ∙ ap (λ (r : Read ℕ). r >>= λ n. Ok (n, words_at (mid.column + word_length false mid.rest.now) (parts_from false (drop (word_length false mid.rest.now) mid.rest.now)))) is.1
