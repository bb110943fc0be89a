-- Whether each quote of a line is ended, and where the last one stands.
use Rattle.std.proofs.Common.{◌≡◌, ℕ, ◌+◌, ◌-◌, ◌<◌, true, false, cond, List, [], length, get_or, Some, None, refl, sym, ap, ◌∙◌, arith}
use Rattle.std.specs.Prelude.{not, Option, count_by, ◌%◌, nat_eq}
use Rattle.std.specs.List.{list_any, suffix_len}
use Rattle.std.proofs.lemmas.Bool.Decides.{nat_tests}
use Rattle.std.proofs.lemmas.List.Folds.{list_any_at}
use Rattle.std.proofs.lemmas.List.Sums.{suffix_len_is}
use Rattle.fsrm_model.specs.lines.Words.{is_quote, is_closed, last_quote}
use Rattle.memchr.specs.Find.{IsLastByte, is_byte, places}
use Rattle.memchr.proofs.lemmas.CallerLemmas.{length-places}
use Rattle.memchr.proofs.lemmas.PlaceLemmas.{places_between-none}
use Rattle.fsrm_base.proofs.TestLaws.{clash, fails}

-- the quote that isn't ended, if any
abbrev pub unclosed : List ℕ → Option ℕ
unclosed line = cond (is_closed line) None (Some (last_quote line))

-- a line without quotes
pub no_quotes : (line : List ℕ) → IsLastByte (is_byte 34) line None → None ≡ unclosed line
no_quotes line h =
    let none : places (is_byte 34) line ≡ [] = places_between-none (is_byte 34) line 0 (length line) (omega arith) h in
    let count : count_by is_quote line ≡ 0 = sym (length-places (is_byte 34) line) ∙ ap length none in
    rw count refl

pub no_quote_found : (line : List ℕ) → list_any is_quote line ≡ false → None ≡ unclosed line
no_quote_found line none = no_quotes line (λ k low less is. clash (list_any is_quote line) (list_any_at is_quote line k 0 less is) none)

-- an even number of quotes
pub even_quotes : (line : List ℕ) (found : List ℕ) → found ≡ places (is_byte 34) line → length found % 2 ≡ 0 → None ≡ unclosed line
even_quotes line found found_is even =
    let count : length found ≡ count_by is_quote line = ap length found_is ∙ length-places (is_byte 34) line in
    let closed : is_closed line ≡ true = rw (← count, even) refl in
    rw closed refl

last_quote_is : (line : List ℕ) (place : ℕ) → IsLastByte (is_byte 34) line (Some place) → last_quote line ≡ place + 1
last_quote_is line place h =
    let high : place < length line = h.0.high in
    let long : suffix_len (λ b. not (is_quote b)) line ≡ length line - (place + 1) =
    suffix_len_is (λ b. not (is_quote b)) line (place + 1) 0 (omega arith) (λ k low less. fails (is_quote (get_or line k 0)) (h.0.after k low less))
    (λ some. let at : place + 1 - 1 ≡ place = omega arith in rw at (ap not h.1)) in
    omega arith

-- an odd one
pub odd_quotes : (line : List ℕ) (place : ℕ) (found : List ℕ) → IsLastByte (is_byte 34) line (Some place) → found ≡ places (is_byte 34) line → (length found % 2 ≡ 0 → ⊥) → Some (place + 1) ≡ unclosed line
odd_quotes line place found h found_is odd =
    let count : length found ≡ count_by is_quote line = ap length found_is ∙ length-places (is_byte 34) line in
    let closed : is_closed line ≡ false = rw (← count) (differs (length found % 2) odd) in
    rw (closed, last_quote_is line place h) refl
  where
    differs : (n : ℕ) → (n ≡ 0 → ⊥) → nat_eq n 0 ≡ false
    differs n other = grind (arith, nat_tests)
