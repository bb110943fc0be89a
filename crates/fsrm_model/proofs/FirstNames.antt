-- A text's first name is cut off.
use Rattle.std.proofs.Common.{◌≡◌, ℕ, ◌+◌, ◌<◌, Bool, true, false, cond, not, nat_lt, Some, None, List, [], ◌∷◌, length, get_or, ap, sym, subst, refl, ◌∙◌, arith}
use Rattle.std.specs.Prelude.{position}
use Rattle.std.specs.Str.{IsCharBoundary, IsUtf8}
use Rattle.std.specs.List.{All, slice_split, position_or_len, before_first, after_first}
use Rattle.std.proofs.lemmas.List.Splits.{slice_split_none, slice_split_first, length-slice_split}
use Rattle.std.proofs.lemmas.List.Sums.{fails_before_first, passes_at_first, prefix_len-le-length}
use Rattle.std.proofs.lemmas.Option.{same_Some}
use Rattle.std.proofs.lemmas.Str.{IsCharBoundary-before_ascii, IsCharBoundary-after_ascii}
use Rattle.fsrm_base.proofs.TestLaws.{eq_is, ge_is, lt_is}
use Rattle.fsrm_model.specs.lines.Reading.{is_backslash, without_last_empty}
use Rattle.fsrm_model.specs.meaning.PathNames.{parts_of}

-- the place of the first backslash, if there is one
pub place_is : (text : List ℕ) (end : ℕ) → Some end ≡ position is_backslash text → (end ≡ position_or_len is_backslash text) × (end < length text)
place_is text end h = at (nat_lt (position_or_len is_backslash text) (length text)) refl h
  where
    at : (b : Bool) → nat_lt (position_or_len is_backslash text) (length text) ≡ b → Some end ≡ cond b (Some (position_or_len is_backslash text)) None → (end ≡ position_or_len is_backslash text) × (end < length text)
    at true e h = let is = same_Some end (position_or_len is_backslash text) h in (is, omega (arith, is, lt_is _ _ e))
    at false e h = cc

pub no_place : (text : List ℕ) → None ≡ position is_backslash text → position_or_len is_backslash text ≡ length text
no_place text h = at (nat_lt (position_or_len is_backslash text) (length text)) refl h
  where
    at : (b : Bool) → nat_lt (position_or_len is_backslash text) (length text) ≡ b → None ≡ cond b (Some (position_or_len is_backslash text)) None → position_or_len is_backslash text ≡ length text
    at true e h = cc
    at false e h = omega (arith, ge_is _ _ e, prefix_len-le-length (λ b. not (is_backslash b)) text)

pub more_parts : (x : List ℕ) (parts : List (List ℕ)) → 0 < length parts → without_last_empty (x ∷ parts) ≡ x ∷ without_last_empty parts
more_parts x [] some = absurd (omega arith)
more_parts [] (part ∷ parts) some = refl
more_parts (b ∷ x) (part ∷ parts) some = refl

-- it ends before the first backslash
pub first_of_more : (text front rest : List ℕ) → position_or_len is_backslash text < length text → front ≡ before_first is_backslash text → rest ≡ after_first is_backslash text → parts_of text ≡ front ∷ parts_of rest
first_of_more text front rest inside front_is rest_is =
    let some : 0 < length (slice_split is_backslash (after_first is_backslash text)) = omega (arith, length-slice_split is_backslash (after_first is_backslash text)) in
    ap without_last_empty (slice_split_first is_backslash text 0 inside)
    ∙ more_parts (before_first is_backslash text) (slice_split is_backslash (after_first is_backslash text)) some
    ∙ ap (λ name. name ∷ parts_of (after_first is_backslash text)) (sym front_is)
    ∙ ap (λ more. front ∷ parts_of more) (sym rest_is)

-- and may be cut off there
pub may_cut : (text : List ℕ) (end : ℕ) → IsUtf8 text → end ≡ position_or_len is_backslash text → end < length text → IsCharBoundary text end × IsCharBoundary text (end + 1)
may_cut text end utf8 is less =
    let at : is_backslash (get_or text end 0) ≡ true = subst (λ (k : ℕ). is_backslash (get_or text k 0) ≡ true) (sym is) (passes_at_first is_backslash text 0 (omega (arith, is, less))) in
    let byte : get_or text end 0 ≡ 92 = eq_is _ _ at in
    (IsCharBoundary-before_ascii text end less (omega (arith, byte)), IsCharBoundary-after_ascii text end utf8 less (omega (arith, byte)))

-- or it ends with the text, if there is none
none_among : (text : List ℕ) → position_or_len is_backslash text ≡ length text → All (λ b. is_backslash b ≡ false) text
none_among text none = λ k e below. fails_before_first is_backslash text k e (omega (arith, none, below))

pub first_of_last : (text : List ℕ) → position_or_len is_backslash text ≡ length text → 0 < length text → parts_of text ≡ text ∷ []
first_of_last [] none some = absurd (omega (arith, some))
first_of_last (b ∷ text) none some = ap without_last_empty (slice_split_none is_backslash (b ∷ text) (none_among (b ∷ text) none))
