-- Pieces of a text.
use Rattle.std.proofs.Common.{◌≡◌, ℕ, suc, ◌+◌, ◌-◌, ◌<◌, ◌≤◌, List, [], ◌∷◌, ◌++◌, Bool, true, false, cond, length, take, drop, Option, Some, None, refl, sym, ap, subst, ◌∙◌, append_assoc, arith}
use Rattle.std.specs.Prelude.{not, Result, Err, unwrap_or, nat_lt}
use Rattle.std.specs.Result.{IsErrAnd}
use Rattle.std.specs.List.{list_all, position_or_len, prefix_len}
use Rattle.std.proofs.lemmas.List.{append-nil, drop-drop, drop_all, length-drop, take-append-drop, take_all}
use Rattle.std.proofs.lemmas.List.Sums.{prefix_len-le-length}
use Rattle.std.proofs.lemmas.Result.{err_from_is_err_and}
use Rattle.fsrm_base.proofs.TestLaws.{both_true, ge_is}
use Rattle.fsrm_outside.specs.declared.traits.Sink.{Ghosts as Sink}
use Rattle.line_parts.specs.declared.fault.TextFault.{TextFault}
use Rattle.line_parts.specs.Writes.{Writes}
use Rattle.line_parts.proofs.Each.{Written}
use Rattle.line_parts.proofs.Sent.{JoinsWrites, cut_first, none_written, told, writes_then}
use Rattle.notice_text.specs.declared.macros.Macro.{Macro}
use Rattle.notice_text.specs.Expand.{Values, expand, is_bracket, macro_at, macros_of, spelling, value}
use Rattle.notice_text.specs.Pieces.{IsPiece, WritesPiece}
use Rattle.notice_text.proofs.ExpandLaws.{bytes_next, empty, found_within, some_bytes, value_next}

-- a place, or else the length
either : (b : Bool) (n len : ℕ) → (b ≡ false → n ≡ len) → unwrap_or (cond b (Some n) None) len ≡ n
either true n len h = refl
either false n len h = sym (h refl)

pub first_or_len : (found : Option ℕ) (n len : ℕ) → n ≤ len → found ≡ cond (nat_lt n len) (Some n) None → unwrap_or found len ≡ n
first_or_len found n len within is =
    ap (λ (o : Option ℕ). unwrap_or o len) is ∙ either (nat_lt n len) n len (λ past. omega (arith, ge_is n len past))

-- a text that was cut off
abbrev pub Cut : {S : Type 0} → Sink S → TextFault → S → S → List ℕ → Type 0
Cut sink fault before after text = Writes {T = Unit {0}} sink (Err fault) before after text

-- the bytes up to the next bracket
front_all : (p : ℕ → Bool) (xs : List ℕ) → list_all p (take (prefix_len p xs) xs) ≡ true
front_all p [] = refl
front_all p (x ∷ xs) = at (p x) (front_all p xs) refl
  where
    at : (b : Bool) → list_all p (take (prefix_len p xs) xs) ≡ true → p x ≡ b → list_all p (take (cond b (1 + prefix_len p xs) 0) (x ∷ xs)) ≡ true
    at true later e =
        let count : 1 + prefix_len p xs ≡ suc (prefix_len p xs) = omega arith in
        rw count (both_true _ _ e later)
    at false later e = refl

abbrev pub plain_len : List ℕ → ℕ
plain_len text = 1 + position_or_len is_bracket (drop 1 text)

pub plain_within : (text : List ℕ) → 0 < length text → plain_len text ≤ length text
plain_within [] some = absurd (omega arith)
plain_within (b ∷ bs) some = omega (arith, prefix_len-le-length (λ c. not (is_bracket c)) bs)

-- what is written for them
plain_whole : (values : Values) (text : List ℕ) → 0 < length text → macro_at (macros_of values) text ≡ None → take (plain_len text) text ++ expand values (drop (plain_len text) text) ≡ expand values text
plain_whole values [] some none = absurd (omega arith)
plain_whole values (b ∷ bs) some none =
    let n = position_or_len is_bracket bs in
    let parted : take n bs ++ drop n bs ≡ bs = take-append-drop n bs in
    let count : 1 + n ≡ suc n = omega arith in
    rw count
    (sym (bytes_next values b (take n bs) (drop n bs) (ap (λ (xs : List ℕ). macro_at (macros_of values) (b ∷ xs)) parted ∙ none) (front_all (λ c. not (is_bracket c)) bs))
    ∙ ap (λ (xs : List ℕ). expand values (b ∷ xs)) parted)

-- ---- pieces that are written
module _ {S : Type 0} {sink : Sink S} (values : Values) (text : List ℕ) where
  pub macro_piece : {a b : S} (name : Macro) → macro_at (macros_of values) text ≡ Some name → Written sink a b (value values name) → IsPiece sink a b values text (length (spelling name))
  macro_piece name found p = record {
    piece = value values name;
    writes = p;
    whole = sym (value_next values text name found);
    some = some_bytes name;
    within = found_within (macros_of values) text name found;
  }

  pub plain_piece : {a b : S} (bytes : ℕ) → bytes ≡ plain_len text → 0 < length text → macro_at (macros_of values) text ≡ None → Written sink a b (take bytes text) → IsPiece sink a b values text bytes
  plain_piece bytes is some none p = record {
    piece = take bytes text;
    writes = p;
    whole = rw is (plain_whole values text some none);
    some = omega arith;
    within = omega (arith, plain_within text some, is);
  }

  -- the front of a piece
  pub macro_front : {e : TextFault} {a b : S} (name : Macro) → macro_at (macros_of values) text ≡ Some name → Cut sink e a b (value values name) → Cut sink e a b (expand values text)
  macro_front name found p = cut_first (expand values (drop (length (spelling name)) text)) (sym (value_next values text name found)) p

  pub plain_front : {e : TextFault} {a b : S} (bytes : ℕ) → bytes ≡ plain_len text → 0 < length text → macro_at (macros_of values) text ≡ None → Cut sink e a b (take bytes text) → Cut sink e a b (expand values text)
  plain_front bytes is some none p = cut_first (expand values (drop bytes text)) (rw is (plain_whole values text some none)) p

  -- what the exit of a `?` answers
  pub piece_passed_on : {e : TextFault} {a b : S} (r : Result ℕ TextFault) → IsErrAnd r (λ d. d ≡ e) → Cut sink e a b (expand values text) → WritesPiece sink r a b values text
  piece_passed_on r is p = let q = err_from_is_err_and r is in rw (q.1, q.2) p

-- what was written, and what the rest of the text expands to, is what the text expands to
pub record Expanded {S : Type 0} (sink : Sink S) (before after : S) (values : Values) (text : List ℕ) (at : ℕ) : Type 0 where
  pub front : List ℕ
  pub writes : Written sink before after front
  pub whole : front ++ expand values (drop at text) ≡ expand values text
  pub within : at ≤ length text

module _ {S : Type 0} {sink : Sink S} (values : Values) (text : List ℕ) where
  pub nothing_yet : (a : S) → ((a : S) → sink.by_write a a) → Expanded sink a a values text 0
  nothing_yet a stay = record { front = []; writes = none_written a stay; whole = refl; within = omega arith }

  pub one_more_piece : {a b c : S} (at bytes : ℕ) (rest : List ℕ) → rest ≡ drop at text → JoinsWrites sink → Expanded sink a b values text at → IsPiece sink b c values rest bytes → Expanded sink a c values text (at + bytes)
  one_more_piece {b = b} {c = c} at bytes rest is join h p =
      let piece = subst (λ (xs : List ℕ). IsPiece sink b c values xs bytes) is p in
      record {
        front = h.front ++ piece.piece;
        writes = writes_then join h.writes piece.writes;
        whole =
            append_assoc h.front piece.piece (expand values (drop (at + bytes) text))
            ∙ ap (λ (xs : List ℕ). h.front ++ (piece.piece ++ expand values xs)) (sym (drop-drop bytes at text))
            ∙ ap (λ (xs : List ℕ). h.front ++ xs) piece.whole
            ∙ h.whole;
        within = omega (arith, piece.within, length-drop at text, h.within);
      }

  pub all_written : {a b : S} (at : ℕ) → length text ≤ at → Expanded sink a b values text at → Written sink a b (expand values text)
  all_written at end h =
      let none : expand values (drop at text) ≡ [] = ap (expand values) (drop_all at text end) ∙ empty values in
      told (sym (append-nil h.front) ∙ ap (λ (xs : List ℕ). h.front ++ xs) (sym none) ∙ h.whole) h.writes

  pub front_written : {e : TextFault} {a b c : S} (at : ℕ) (rest : List ℕ) → rest ≡ drop at text → JoinsWrites sink → Expanded sink a b values text at → Cut sink e b c (expand values rest) → Cut sink e a c (expand values text)
  front_written at rest is join h p = told h.whole (writes_then join h.writes (told (ap (expand values) is) p))

-- the rest of a text, as a slice of it
pub rest_is : (at : ℕ) (text : List ℕ) → take (length text - at) (drop at text) ≡ drop at text
rest_is at text = take_all (length text - at) (drop at text) (omega (arith, length-drop at text))
