-- A text without its quotes, and what stands up to its first one.
use Rattle.std.proofs.Common.{◌≡◌, ℕ, suc, zero, ◌+◌, ◌<◌, Bool, true, false, cond, List, [], ◌∷◌, ◌++◌, length, get_or, take, drop, Some, None, refl, sym, ap, ◌∙◌, arith, add-one, append_assoc, subst}
use Rattle.std.specs.Prelude.{Option}
use Rattle.std.specs.Str.{IsUtf8, IsCharBoundary}
use Rattle.std.proofs.lemmas.Str.{IsCharBoundary-before_ascii, IsCharBoundary-after_ascii}
use Rattle.std.proofs.lemmas.Bool.{eqb-true}
use Rattle.std.specs.Prelude.{not}
use Rattle.std.specs.List.{prefix_len}
use Rattle.fsrm_base.proofs.TestLaws.{is_false, neither}
use Rattle.fsrm_model.specs.lines.Words.{is_blank, is_quote, without_quotes}
use Rattle.memchr.specs.Find.{IsFirstByte, is_byte}
use Rattle.command_words.specs.Lengths.{is_plain, quoted_length}
use Rattle.command_words.proofs.Marks.{first_mark}

pub quoted_length-some : (text : List ℕ) (place : ℕ) → IsFirstByte (is_byte 34) text (Some place) → place + 1 ≡ quoted_length text
quoted_length-some text place h =
    let at : prefix_len (λ b. not (is_quote b)) text ≡ place = first_mark (is_byte 34) text (Some place) h in
    let high : place < length text = h.0.high in
    omega arith

pub quoted_length-none : (text : List ℕ) → IsFirstByte (is_byte 34) text None → length text ≡ quoted_length text
quoted_length-none text h =
    let at : prefix_len (λ b. not (is_quote b)) text ≡ length text = first_mark (is_byte 34) text None h in
    omega arith

without_no_quotes : (text : List ℕ) → ((k : ℕ) → k < length text → is_quote (get_or text k 0) ≡ true → ⊥) → without_quotes text ≡ text
without_no_quotes [] h = refl
without_no_quotes (b ∷ bs) h = at (is_quote b) (h 0 (omega arith)) (without_no_quotes bs (λ k less. h (suc k) (omega arith)))
  where
    at : (quote : Bool) → (quote ≡ true → ⊥) → without_quotes bs ≡ bs → cond (not quote) (b ∷ without_quotes bs) (without_quotes bs) ≡ b ∷ bs
    at true none ih = absurd (none refl)
    at false none ih = ap (λ (rest : List ℕ). b ∷ rest) ih

-- bytes that are plain have none
pub without_quotes-plain : (text : List ℕ) → without_quotes (take (prefix_len is_plain text) text) ≡ take (prefix_len is_plain text) text
without_quotes-plain [] = refl
without_quotes-plain (b ∷ bs) = at (is_plain b) refl (without_quotes-plain bs)
  where
    at : (plain : Bool) → is_plain b ≡ plain → without_quotes (take (prefix_len is_plain bs) bs) ≡ take (prefix_len is_plain bs) bs
        → without_quotes (take (cond plain (1 + prefix_len is_plain bs) 0) (b ∷ bs)) ≡ take (cond plain (1 + prefix_len is_plain bs) 0) (b ∷ bs)
    at false e ih = refl
    at true e ih =
        let one : 1 + prefix_len is_plain bs ≡ suc (prefix_len is_plain bs) = omega arith in
        let quote : is_quote b ≡ false = (neither (is_blank b) (is_quote b) (is_false _ e)).1 in
        rw (one, quote) (ap (λ (rest : List ℕ). b ∷ rest) ih)

-- a text that has no quote
pub without_quotes-none : (text : List ℕ) → IsFirstByte (is_byte 34) text None → without_quotes text ≡ text
without_quotes-none text h = without_no_quotes text (λ k less. h k (omega arith) less)

without_first_quote : (text : List ℕ) (place : ℕ) → place < length text → ((k : ℕ) → k < place → is_quote (get_or text k 0) ≡ true → ⊥) → is_quote (get_or text place 0) ≡ true
    → without_quotes text ≡ take place text ++ without_quotes (drop (suc place) text)
without_first_quote [] place within before here = absurd (omega arith)
without_first_quote (b ∷ bs) zero within before here = rw here refl
without_first_quote (b ∷ bs) (suc place) within before here = at (is_quote b) (before 0 (omega arith)) (without_first_quote bs place (omega arith) (λ k less. before (suc k) (omega arith)) here)
  where
    at : (quote : Bool) → (quote ≡ true → ⊥) → without_quotes bs ≡ take place bs ++ without_quotes (drop (suc place) bs)
        → cond (not quote) (b ∷ without_quotes bs) (without_quotes bs) ≡ b ∷ (take place bs ++ without_quotes (drop (suc place) bs))
    at true none ih = absurd (none refl)
    at false none ih = ap (λ (rest : List ℕ). b ∷ rest) ih

-- what stands before the first quote, and after it
pub without_quotes-some : (text : List ℕ) (place : ℕ) → IsFirstByte (is_byte 34) text (Some place) → without_quotes text ≡ take place text ++ without_quotes (drop (place + 1) text)
without_quotes-some text place h =
    rw add-one (without_first_quote text place h.0.high (λ k less. h.0.before k (omega arith) less) h.1)

-- what a search in a text's bytes says of the text
pub found_in : (bytes text : List ℕ) (found at : Option ℕ) → bytes ≡ text → found ≡ at → IsFirstByte (is_byte 34) bytes found → IsFirstByte (is_byte 34) text at
found_in bytes text found at same is h =
    subst (λ (bs : List ℕ). IsFirstByte (is_byte 34) bs at) same (subst (IsFirstByte (is_byte 34) bytes) is h)

-- a text may be cut on both sides of a quote
pub quote_cut : (text : List ℕ) (place : ℕ) → IsUtf8 text → IsFirstByte (is_byte 34) text (Some place) → IsCharBoundary text place × IsCharBoundary text (place + 1)
quote_cut text place utf8 h =
    let high : place < length text = h.0.high in
    let quote : get_or text place 0 ≡ 34 = eqb-true (get_or text place 0) 34 h.1 in
    let small : get_or text place 0 < 128 = omega arith in
    (IsCharBoundary-before_ascii text place high small, IsCharBoundary-after_ascii text place utf8 high small)

-- one turn of the copy of a text without its quotes
pub more_text : (copied copied' piece rest rest' raw : List ℕ) (place : ℕ) → IsFirstByte (is_byte 34) rest (Some place)
    → copied' ≡ copied ++ piece → piece ≡ take place rest → rest' ≡ drop (place + 1) rest → copied ++ without_quotes rest ≡ raw → copied' ++ without_quotes rest' ≡ raw
more_text copied copied' piece rest rest' raw place h copied_is piece_is rest_is before =
    rw (copied_is, piece_is, rest_is) (append_assoc copied (take place rest) (without_quotes (drop (place + 1) rest)) ∙ ap (λ (more : List ℕ). copied ++ more) (sym (without_quotes-some rest place h)) ∙ before)

pub last_text : (copied copied' rest raw : List ℕ) → IsFirstByte (is_byte 34) rest None → copied' ≡ copied ++ rest → copied ++ without_quotes rest ≡ raw → copied' ≡ raw
last_text copied copied' rest raw h copied_is before = copied_is ∙ ap (λ (more : List ℕ). copied ++ more) (sym (without_quotes-none rest h)) ∙ before
