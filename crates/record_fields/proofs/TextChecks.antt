-- Whether a text is UTF-8, as a test.
use Rattle.std.proofs.Common.{◌≡◌, ℕ, ◌≤◌, Bool, true, false, ltb, List, length, take, drop, Ok, Err, refl, sym, ap, ◌∙◌}
use Rattle.std.proofs.lemmas.Bool.{le-ltb}
use Rattle.byteorder.specs.Endian.{little_number}
use Rattle.record_fields.specs.declared.flaw.Flaw.TheVariants.{Illegal}
use Rattle.record_fields.specs.Formats.{text_at}
use Rattle.std.specs.Str.{IsUtf8, is_utf8}
use Rattle.std.proofs.lemmas.Str.{is_utf8-from_IsUtf8, IsUtf8-from_is_utf8}

pub is_text : (bytes : List ℕ) → IsUtf8 bytes → is_utf8 bytes ≡ true
is_text bytes h = is_utf8-from_IsUtf8 bytes h

pub is_no_text : (bytes : List ℕ) → (IsUtf8 bytes → ⊥) → is_utf8 bytes ≡ false
is_no_text bytes not_one = go (is_utf8 bytes) refl
  where
    go : (b : Bool) → is_utf8 bytes ≡ b → is_utf8 bytes ≡ false
    go true e = absurd (not_one (IsUtf8-from_is_utf8 bytes e))
    go false e = e

-- a text that was read
pub text_shown : (bytes own t rest : List ℕ) (n : ℕ) → own ≡ bytes → 2 ≤ length own → n ≡ little_number 2 own → n ≤ length (drop 2 own) → t ≡ take n (drop 2 own) → rest ≡ drop n (drop 2 own) → IsUtf8 t → text_at bytes ≡ Ok (t, rest)
unfolding text_at
text_shown bytes own t rest n same long number more front back h =
    let a : ltb (length own) 2 ≡ false = le-ltb _ _ long in
    let b : ltb (length (drop 2 own)) n ≡ false = le-ltb _ _ more in
    let u : is_utf8 (take n (drop 2 own)) ≡ true = ap is_utf8 (sym front) ∙ is_text t h in
    rw (← same, a, ← number, b, u, ← front, ← back) refl

pub text_refused : (bytes own t : List ℕ) (n : ℕ) → own ≡ bytes → 2 ≤ length own → n ≡ little_number 2 own → n ≤ length (drop 2 own) → t ≡ take n (drop 2 own) → (IsUtf8 t → ⊥) → text_at bytes ≡ Err (Illegal (length own))
unfolding text_at
text_refused bytes own t n same long number more front not_one =
    let a : ltb (length own) 2 ≡ false = le-ltb _ _ long in
    let b : ltb (length (drop 2 own)) n ≡ false = le-ltb _ _ more in
    let u : is_utf8 (take n (drop 2 own)) ≡ false = ap is_utf8 (sym front) ∙ is_no_text t not_one in
    rw (← same, a, ← number, b, u) refl
