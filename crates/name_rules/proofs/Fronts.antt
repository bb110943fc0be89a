-- The order of two names that begin alike with characters of ASCII.
use Rattle.std.proofs.Common.{◌≡◌, ℕ, zero, suc, ◌+◌, ◌<◌, ◌≤◌, ◌==◌, ◌&&◌, true, List, [], ◌∷◌, ◌++◌, length, take, drop, drop-cons, length-drop, get_or, Less, Equal, Greater, ⊎_elim, ap, sym, subst, refl, ◌∙◌, arith}
use Rattle.std.specs.Ordering.{nat_cmp, ordering_then}
use Rattle.std.specs.Char.{is_ascii, to_ascii_lowercase, encode_utf8}
use Rattle.std.specs.Str.{IsUtf8, IsAscii, IsCharBoundary, chars, encode_utf8_all}
use Rattle.std.proofs.lemmas.Bool.{cases_lt, ltb-true, eq-eqb, eqb-true}
use Rattle.std.proofs.lemmas.Bool.Decides.{nat_tests}
use Rattle.std.proofs.lemmas.List.{get_or-take, get_or_past, length-take}
use Rattle.std.proofs.lemmas.Str.{chars-append, chars-IsAscii, IsUtf8-from_ascii, IsUtf8-drop, IsCharBoundary-from_take}
use Rattle.ucd_case.specs.CaseFolding.{simple_fold}
use Rattle.ucd_case.proofs.CaseFoldingLemmas.{simple_fold-ascii}
use Rattle.fsrm_base.proofs.TestLaws.{both}
use Rattle.fsrm_model.specs.values.Name.{name_cmp}
use Rattle.name_rules.specs.Fronts.{HasSameFront, are_same_ascii}
use Rattle.name_rules.proofs.Folds.{ended, longer, shorter, then_rest}

-- ---- characters of ASCII at the front of both
one_ascii : (x : ℕ) → x < 128 → IsAscii (x ∷ [])
one_ascii x low zero = low
one_ascii x low (suc i) = omega arith

pub chars_ascii : (x : ℕ) (rest : List ℕ) → x < 128 → chars (x ∷ rest) ≡ x ∷ chars rest
chars_ascii x rest low =
    chars-append (x ∷ []) rest (IsUtf8-from_ascii (x ∷ []) (one_ascii x low))
    ∙ ap (λ cs. cs ++ chars rest) (chars-IsAscii (x ∷ []) (one_ascii x low))

nat_cmp_same : (x y : ℕ) → x ≡ y → nat_cmp x y ≡ Equal
nat_cmp_same x y same = grind (arith, nat_tests)

same_from_nat_cmp : (x y : ℕ) → nat_cmp x y ≡ Equal → x ≡ y
same_from_nat_cmp x y equal = grind (arith, nat_tests)

low_from_test : (x : ℕ) → is_ascii x ≡ true → x < 128
low_from_test x is = ltb-true x 128 is

same_from_test : (x y : ℕ) → (to_ascii_lowercase x == to_ascii_lowercase y) ≡ true → to_ascii_lowercase x ≡ to_ascii_lowercase y
same_from_test x y is = eqb-true _ _ is

module _ (x y : ℕ) (a b : List ℕ) (low : x < 128) (low' : y < 128) where
  ascii_heads : name_cmp (x ∷ a) (y ∷ b) ≡ ordering_then (nat_cmp (to_ascii_lowercase x) (to_ascii_lowercase y)) (name_cmp a b)
  ascii_heads =
      let by_folds : name_cmp (x ∷ a) (y ∷ b) ≡ ordering_then (nat_cmp (simple_fold x) (simple_fold y)) (name_cmp a b) = rw (chars_ascii x a low, chars_ascii y b low') refl in
      by_folds
      ∙ ap (λ s. ordering_then (nat_cmp s (simple_fold y)) (name_cmp a b)) (simple_fold-ascii x low)
      ∙ ap (λ s. ordering_then (nat_cmp (to_ascii_lowercase x) s) (name_cmp a b)) (simple_fold-ascii y low')

  same_ascii_heads : to_ascii_lowercase x ≡ to_ascii_lowercase y → name_cmp (x ∷ a) (y ∷ b) ≡ name_cmp a b
  same_ascii_heads same = ascii_heads ∙ ap (λ o. ordering_then o (name_cmp a b)) (nat_cmp_same _ _ same)

  other_ascii_heads : (to_ascii_lowercase x ≡ to_ascii_lowercase y → ⊥) → name_cmp (x ∷ a) (y ∷ b) ≡ nat_cmp (to_ascii_lowercase x) (to_ascii_lowercase y)
  other_ascii_heads apart = ascii_heads ∙ then_rest _ (λ equal. apart (same_from_nat_cmp _ _ equal)) (name_cmp a b)

-- ---- what the test of two bytes tells
module _ (x y : ℕ) where
  first_low : are_same_ascii x y ≡ true → x < 128
  first_low same = low_from_test x (both _ _ (both _ _ same).0).0

  second_low : are_same_ascii x y ≡ true → y < 128
  second_low same = low_from_test y (both _ _ (both _ _ same).0).1

  same_lower : are_same_ascii x y ≡ true → to_ascii_lowercase x ≡ to_ascii_lowercase y
  same_lower same = same_from_test x y (both _ _ same).1

  pub alike_by_order : (is_ascii x && is_ascii y) ≡ true → nat_cmp (to_ascii_lowercase x) (to_ascii_lowercase y) ≡ Equal → are_same_ascii x y ≡ true
  alike_by_order ascii equal = rw (ascii, eq-eqb _ _ (same_from_nat_cmp _ _ equal)) refl

-- ---- a front with one byte more
pub one_more : (a b : List ℕ) (count : ℕ) → HasSameFront a b count → count < length a → count < length b → are_same_ascii (get_or a count 0) (get_or b count 0) ≡ true → HasSameFront a b (count + 1)
one_more a b count front more more' same = record {
  within = omega (arith, more);
  within_other = omega (arith, more');
  alike = λ k below. ⊎_elim
      (λ before. front.alike k before)
      (λ from.
      let last : count ≡ k = omega (arith, below, from) in
      subst (λ i. are_same_ascii (get_or a i 0) (get_or b i 0) ≡ true) last same)
      (cases_lt k count);
}

-- ---- past a front that is alike
pub name_cmp_past_front : (a b : List ℕ) (count : ℕ) → HasSameFront a b count → name_cmp a b ≡ name_cmp (drop count a) (drop count b)
name_cmp_past_front a b zero front = refl
name_cmp_past_front [] b (suc count) front = absurd (omega (arith, front.within))
name_cmp_past_front (x ∷ a) [] (suc count) front = absurd (omega (arith, front.within_other))
name_cmp_past_front (x ∷ a) (y ∷ b) (suc count) front =
    let same : are_same_ascii x y ≡ true = front.alike 0 (omega arith) in
    let rest : HasSameFront a b count = record {
      within = omega (arith, front.within);
      within_other = omega (arith, front.within_other);
      alike = λ k below. front.alike (suc k) (omega (arith, below));
    } in
    same_ascii_heads x y a b (first_low x y same) (second_low x y same) (same_lower x y same) ∙ name_cmp_past_front a b count rest

-- ---- both may be cut after it
take_ascii : (text : List ℕ) (count : ℕ) → ((k : ℕ) → k < count → get_or text k 0 < 128) → IsAscii (take count text)
take_ascii text count low k =
    ⊎_elim
    (λ inside. subst (λ x. x < 128) (sym (get_or-take count text k 0 inside)) (low k inside))
    (λ past. subst (λ x. x < 128) (sym (get_or_past (take count text) k 0 (omega (arith, length-take count text)))) (omega arith))
    (cases_lt k count)

module _ (a b : List ℕ) (count : ℕ) (front : HasSameFront a b count) where
  pub may_cut : IsUtf8 a → IsCharBoundary a count
  may_cut text = IsCharBoundary-from_take a count text front.within (IsUtf8-from_ascii (take count a) (take_ascii a count (λ k below. first_low _ _ (front.alike k below))))

  pub may_cut_other : IsUtf8 b → IsCharBoundary b count
  may_cut_other text = IsCharBoundary-from_take b count text front.within_other (IsUtf8-from_ascii (take count b) (take_ascii b count (λ k below. second_low _ _ (front.alike k below))))

-- ---- if one of them ends there, or both
first_character : (text : List ℕ) → IsUtf8 text → 0 < length text → (x : ℕ) × ((rest : List ℕ) × (text ≡ encode_utf8 x ++ rest))
first_character text ([], (scalars, is)) some = absurd (omega (arith, ap length is))
first_character text (x ∷ cs, (scalars, is)) some = (x, (encode_utf8_all cs, sym is))

module _ (a b : List ℕ) (count : ℕ) (front : HasSameFront a b count) where
  past : name_cmp a b ≡ name_cmp (drop count a) (drop count b)
  past = name_cmp_past_front a b count front

  pub both_end : length a ≤ count → length b ≤ count → name_cmp a b ≡ Equal
  both_end none none' = past ∙ ended (drop count a) (drop count b) (omega (arith, length-drop count a)) (omega (arith, length-drop count b))

  pub one_ends : IsUtf8 b → length a ≤ count → count < length b → name_cmp a b ≡ Less
  one_ends other none some =
      let rest : IsUtf8 (drop count b) = IsUtf8-drop b count other (may_cut_other a b count front other) in
      let first = first_character (drop count b) rest (omega (arith, length-drop count b)) in
      past ∙ shorter (drop count b) first.1.0 first.0 rest first.1.1 (drop count a) (omega (arith, length-drop count a))

  pub other_ends : IsUtf8 a → count < length a → length b ≤ count → name_cmp a b ≡ Greater
  other_ends text some none =
      let rest : IsUtf8 (drop count a) = IsUtf8-drop a count text (may_cut a b count front text) in
      let first = first_character (drop count a) rest (omega (arith, length-drop count a)) in
      past ∙ longer (drop count a) first.1.0 first.0 rest first.1.1 (drop count b) (omega (arith, length-drop count b))

  -- one of them ends there, or both
  pub they_end : IsUtf8 a → IsUtf8 b → (count < length a → length b ≤ count) → name_cmp a b ≡ nat_cmp (length a) (length b)
  they_end text other end =
      ⊎_elim
      (λ some. let none = end some in
      let longer : nat_cmp (length a) (length b) ≡ Greater = grind (arith, nat_tests) in
      other_ends text some none ∙ sym longer)
      (λ none. ⊎_elim
      (λ some. let shorter : nat_cmp (length a) (length b) ≡ Less = grind (arith, nat_tests) in
      one_ends other none some ∙ sym shorter)
      (λ none'. let same : length a ≡ length b = omega (arith, front.within, front.within_other, none, none') in
      both_end none none' ∙ sym (nat_cmp_same _ _ same))
      (cases_lt count (length b)))
      (cases_lt count (length a))

  -- both go on with characters of ASCII, which aren't alike
  pub they_part : count < length a → count < length b → let x = get_or a count 0 in let y = get_or b count 0 in (is_ascii x && is_ascii y) ≡ true → (nat_cmp (to_ascii_lowercase x) (to_ascii_lowercase y) ≡ Equal → ⊥) → name_cmp a b ≡ nat_cmp (to_ascii_lowercase x) (to_ascii_lowercase y)
  they_part some some' ascii apart =
      let x = get_or a count 0 in
      let y = get_or b count 0 in
      let low = both (is_ascii x) (is_ascii y) ascii in
      past
      ∙ ap (λ text. name_cmp text (drop count b)) (drop-cons a count 0 some)
      ∙ ap (name_cmp (x ∷ drop (suc count) a)) (drop-cons b count 0 some')
      ∙ other_ascii_heads x y (drop (suc count) a) (drop (suc count) b) (low_from_test x low.0) (low_from_test y low.1) (λ same. apart (nat_cmp_same _ _ same))
