-- The last character of a pattern, if it is no star, stands for the last one of the name and for no other one.
use Rattle.std.proofs.Common.{◌≡◌, ℕ, ◌==◌, Bool, true, false, cond, ◌&&◌, ◌||◌, List, [], ◌∷◌, ◌++◌, chars, length, Some, refl, sym, ◌∙◌, ap}
use Rattle.std.proofs.Math.Utf8.{encode}
use Rattle.std.proofs.lemmas.List.{append-nil, nil_from_length}
use Rattle.std.proofs.lemmas.Option.{same_Some}
use Rattle.std.proofs.lemmas.Str.{chars-nil, chars_from_encodes, encodes-append, encodes-chars}
use Rattle.std.specs.Str.{IsUtf8}
use Rattle.fsrm_model.specs.values.Patterns.{some_end}
use Rattle.fsrm_base.proofs.TestLaws.{and_false, is_apart}
use Rattle.name_patterns.specs.Folded.{matches_folded, one_folded_then, stands_for_folded}

-- ---- characters of texts
pub chars_before_char : (text before : List ℕ) (c : ℕ) → IsUtf8 text → IsUtf8 before → text ≡ before ++ encode c → chars text ≡ chars before ++ c ∷ []
chars_before_char text before c is_text is_before cut =
    sym (chars_from_encodes (chars before ++ c ∷ []) text is_text
    (encodes-append (chars before) (c ∷ [])
    ∙ (ap (λ (bs : List ℕ). bs ++ (encode c ++ [])) (encodes-chars before is_before)
    ∙ (ap (λ (bs : List ℕ). before ++ bs) (append-nil (encode c)) ∙ sym cut))))

pub no_chars : (text : List ℕ) → length text ≡ 0 → chars text ≡ []
no_chars text none = ap chars (nil_from_length text none) ∙ chars-nil

-- what is taken out of a pair that is there
pub second : {A B : Type 0} (a : A) (b : B) (pair : A × B) → Some (a, b) ≡ Some pair → b ≡ pair.1
second {A} {B} a b pair same = ap (λ (p : A × B). p.1) (same_Some (a, b) pair same)

-- ---- matches
-- a test that asks first something of the last character, and then another test of what is before it
pub record AsksLast (c : ℕ) (b : Bool) (f g : List ℕ → Bool) : Type 0 where
  pub none : f [] ≡ false
  pub last : (cs : List ℕ) → f (cs ++ c ∷ []) ≡ (b && g cs)

or_nothing : (b : Bool) → (b || false) ≡ b
or_nothing true = refl
or_nothing false = refl

or_apart : (b x y : Bool) → ((b && x) || (b && y)) ≡ (b && (x || y))
or_apart true x y = refl
or_apart false x y = refl

and_turned : (a b x : Bool) → (a && (b && x)) ≡ (b && (a && x))
and_turned true b x = refl
and_turned false b x = sym (and_false b)

module _ (c : ℕ) (b : Bool) where
  some_end_last : (f g : List ℕ → Bool) → AsksLast c b f g → (cs : List ℕ) → some_end f (cs ++ c ∷ []) ≡ (b && some_end g cs)
  some_end_last f g asks [] = rw (asks.none, or_nothing (f (c ∷ []))) (asks.last [])
  some_end_last f g asks (d ∷ cs) = rw (asks.last (d ∷ cs), some_end_last f g asks cs) (or_apart b (g (d ∷ cs)) (some_end g cs))

  one_last : (q : ℕ) (f g : List ℕ → Bool) → AsksLast c b f g → (cs : List ℕ) → one_folded_then q f (cs ++ c ∷ []) ≡ (b && one_folded_then q g cs)
  one_last q f g asks [] = rw (asks.none, and_false (stands_for_folded q c), and_false b) refl
  one_last q f g asks (d ∷ cs) = rw (asks.last cs) (and_turned (stands_for_folded q d) b (g cs))

  -- whichever of two tests it is
  of_either : (s : Bool) (f g f' g' : List ℕ → Bool) → AsksLast c b f g → AsksLast c b f' g' → AsksLast c b (λ cs. cond s (f cs) (f' cs)) (λ cs. cond s (g cs) (g' cs))
  of_either true f g f' g' asks also = asks
  of_either false f g f' g' asks also = also

nothing_more : (c : ℕ) (cs : List ℕ) → matches_folded [] (cs ++ c ∷ []) ≡ false
nothing_more c [] = refl
nothing_more c (d ∷ cs) = refl

module _ (p c : ℕ) (no_star : (p == 42) ≡ false) where
  alone_last : (cs : List ℕ) → matches_folded (p ∷ []) (cs ++ c ∷ []) ≡ (stands_for_folded p c && matches_folded [] cs)
  alone_last [] = rw no_star refl
  alone_last (d ∷ cs) = rw (no_star, nothing_more c cs, and_false (stands_for_folded p d), and_false (stands_for_folded p c)) refl

  pub asks_last : (ps : List ℕ) → AsksLast c (stands_for_folded p c) (matches_folded (ps ++ p ∷ [])) (matches_folded ps)
  asks_last [] = record { none = rw no_star refl; last = alone_last }
  asks_last (q ∷ ps) =
      let f = matches_folded (ps ++ p ∷ []) in
      let g = matches_folded ps in
      let b = stands_for_folded p c in
      let asks = asks_last ps in
      of_either c b (q == 42) (some_end f) (some_end g) (one_folded_then q f) (one_folded_then q g)
      (record { none = asks.none; last = some_end_last c b f g asks })
      (record { none = refl; last = one_last c b q f g asks })

-- what is left of both after their last characters
module _ (w : ℕ) (no_star : w ≡ 42 → ⊥) (ps before name : List ℕ) (ends : ps ≡ before ++ w ∷ []) where
  pub last_passed : (c : ℕ) (rest : List ℕ) (b : Bool) → name ≡ rest ++ c ∷ [] → stands_for_folded w c ≡ b → matches_folded ps name ≡ (b && matches_folded before rest)
  last_passed c rest b named stands = rw (ends, named, ← stands) ((asks_last w c (is_apart w 42 no_star) before).last rest)

  pub last_unmet : name ≡ [] → matches_folded ps name ≡ false
  last_unmet none = rw (ends, none) ((asks_last w 0 (is_apart w 42 no_star) before).none)
