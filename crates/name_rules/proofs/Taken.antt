-- The first part of a text, if its bytes may stand in a name.
use Rattle.std.proofs.Common.{◌≡◌, ℕ, suc, ◌+◌, ◌<◌, ◌≤◌, ◌==◌, ◌||◌, ◌&&◌, Bool, true, false, cond, List, [], ◌∷◌, ◌++◌, length, take, drop, get_or, ap, sym, subst, refl, ◌∙◌, arith}
use mathlib.Core.Logic.{⊎_elim}
use Rattle.std.specs.Prelude.{slice_index}
use Rattle.std.proofs.lemmas.Bool.Decides.{nat_tests}
use Rattle.std.specs.List.{All, list_all, prefix_len, slice_split, onto_first}
use Rattle.std.proofs.lemmas.List.{take-append-drop, take_all, drop_all, drop_more, drop-drop}
use Rattle.std.proofs.lemmas.List.Elements.{All-nil, All-cons}
use Rattle.std.proofs.lemmas.List.Splits.{slice_split-cons_no}
use Rattle.std.proofs.lemmas.List.Sums.{prefix_len-le-length, prefix_len_stops}
use Rattle.fsrm_base.proofs.TestLaws.{both, is_or, is_or_not, eq_is, clash, neither}
use Rattle.fsrm_model.specs.values.Name.{is_name, is_name_byte}
use Rattle.fsrm_model.specs.lines.Reading.{is_backslash, without_last_empty}
use Rattle.fsrm_model.specs.meaning.PathNames.{parts_of}
use Rattle.name_rules.specs.Parts.{IsFirstName}
use Rattle.name_rules.proofs.Names.{all_broken, not_named}
use Rattle.name_rules.proofs.Splits.{parts_of_last, parts_of_more}

-- ---- the bytes of a name
not_backslash : (b : ℕ) → is_name_byte b ≡ true → is_backslash b ≡ false
not_backslash b h = ⊎_elim
    (λ at. let named : is_name_byte 92 ≡ true = subst (λ (n : ℕ). is_name_byte n ≡ true) (eq_is b 92 at) h in absurd (clash (is_name_byte 92) named refl))
    (λ other. other)
    (is_or_not (is_backslash b))

no_backslashes : (x : List ℕ) → list_all is_name_byte x ≡ true → All (λ b. is_backslash b ≡ false) x
no_backslashes [] h = All-nil (λ b. is_backslash b ≡ false)
no_backslashes (b ∷ x) h =
    let parts : (is_name_byte b ≡ true) × (list_all is_name_byte x ≡ true) = both _ _ h in
    All-cons (λ b. is_backslash b ≡ false) b x (not_backslash b parts.0) (no_backslashes x parts.1)

pub front_passes : {X : Type 0} (p : X → Bool) (xs : List X) → list_all p (take (prefix_len p xs) xs) ≡ true
front_passes p [] = refl
front_passes p (x ∷ xs) = at (p x) refl (front_passes p xs)
  where
    at : (passes : Bool) → p x ≡ passes → list_all p (take (prefix_len p xs) xs) ≡ true → list_all p (take (cond passes (1 + prefix_len p xs) 0) (x ∷ xs)) ≡ true
    at false e ih = refl
    at true e ih = let one : 1 + prefix_len p xs ≡ suc (prefix_len p xs) = omega arith in rw (one, e) ih

-- ---- a part that ends before a backslash, or with the text
cut_at : (part : List ℕ) (count : ℕ) → count < length part → get_or part count 0 ≡ 92 → part ≡ take count part ++ 92 ∷ drop (count + 1) part
cut_at part count within at =
    sym (take-append-drop count part)
    ∙ ap (λ rest. take count part ++ rest) (drop_more part count 0 within ∙ ap (λ b. b ∷ drop (count + 1) part) at)

below : (n m : ℕ) → n ≤ m → (n == m) ≡ false → n < m
below n m most apart = grind (arith, nat_tests)

module _ (part : List ℕ) (count : ℕ) (some : 0 < length part) (within : count ≤ length part) (bytes : list_all is_name_byte (take count part) ≡ true) where
  taken_last : count ≡ length part → parts_of part ≡ take count part ∷ parts_of (drop (count + 1) part)
  taken_last is =
      let whole : take count part ≡ part = take_all count part (omega arith) in
      let none : drop (count + 1) part ≡ [] = drop_all (count + 1) part (omega arith) in
      let clean : list_all is_name_byte part ≡ true = subst (λ text. list_all is_name_byte text ≡ true) whole bytes in
      parts_of_last part (no_backslashes part clean) some
      ∙ ap (λ text. text ∷ []) (sym whole)
      ∙ ap (λ text. take count part ∷ parts_of text) (sym none)

  taken_more : count < length part → get_or part count 0 ≡ 92 → parts_of part ≡ take count part ∷ parts_of (drop (count + 1) part)
  taken_more less at = ap parts_of (cut_at part count less at) ∙ parts_of_more (take count part) (drop (count + 1) part) (no_backslashes (take count part) bytes)

  pub taken : (count == length part || slice_index part count == 92) ≡ true → parts_of part ≡ take count part ∷ parts_of (drop (count + 1) part)
  taken ended = ⊎_elim
      (λ last. taken_last (eq_is _ _ last))
      (λ at. ⊎_elim
      (λ last. taken_last (eq_is _ _ last))
      (λ apart. taken_more (below count (length part) within apart) (eq_is _ _ at))
      (is_or_not (count == length part)))
      (is_or _ _ ended)

-- ---- a byte that may not stand in a name
onto : (b : ℕ) (parts : List (List ℕ)) → (y : List ℕ) × (more : List (List ℕ)) × (onto_first b parts ≡ (b ∷ y) ∷ more)
onto b [] = ([], [], refl)
onto b (part ∷ parts) = (part, parts, refl)

first_of_bytes : (x : List ℕ) (b : ℕ) (rest : List ℕ) → list_all is_name_byte x ≡ true → is_backslash b ≡ false → (y : List ℕ) × (more : List (List ℕ)) × (slice_split is_backslash (x ++ b ∷ rest) ≡ (x ++ b ∷ y) ∷ more)
first_of_bytes [] b rest h other =
    let first = onto b (slice_split is_backslash rest) in
    (first.0, first.1, slice_split-cons_no is_backslash b rest other ∙ first.2)
first_of_bytes (c ∷ x) b rest h other =
    let parts : (is_name_byte c ≡ true) × (list_all is_name_byte x ≡ true) = both _ _ h in
    let first = first_of_bytes x b rest parts.1 other in
    (first.0, first.1, slice_split-cons_no is_backslash c (x ++ b ∷ rest) (not_backslash c parts.0) ∙ ap (onto_first c) first.2)

full_first : (x : List ℕ) (b : ℕ) (y : List ℕ) (more : List (List ℕ)) → without_last_empty ((x ++ b ∷ y) ∷ more) ≡ (x ++ b ∷ y) ∷ without_last_empty more
full_first [] b y more = refl
full_first (c ∷ x) b y more = refl

broken_at : (x : List ℕ) (b : ℕ) (rest : List ℕ) → list_all is_name_byte x ≡ true → is_name_byte b ≡ false → is_backslash b ≡ false → list_all is_name (parts_of (x ++ b ∷ rest)) ≡ false
broken_at x b rest h bad other =
    let first = first_of_bytes x b rest h other in
    let named : is_name (x ++ b ∷ first.0) ≡ false = not_named (x ++ b ∷ first.0) (all_broken is_name_byte x b first.0 bad) in
    ap (λ parts. list_all is_name (without_last_empty parts)) first.2
    ∙ ap (list_all is_name) (full_first x b first.0 first.1)
    ∙ ap (λ test. test && list_all is_name (without_last_empty first.1)) named

pub broken_byte : (part : List ℕ) (count : ℕ) → count < length part → list_all is_name_byte (take count part) ≡ true → is_name_byte (get_or part count 0) ≡ false → is_backslash (get_or part count 0) ≡ false → list_all is_name (parts_of part) ≡ false
broken_byte part count less bytes bad other =
    ap (λ text. list_all is_name (parts_of text)) (sym (take-append-drop count part) ∙ ap (λ rest. take count part ++ rest) (drop_more part count 0 less))
    ∙ broken_at (take count part) (get_or part count 0) (drop (count + 1) part) bytes bad other

module _ (part : List ℕ) (count : ℕ) (is : count ≡ prefix_len is_name_byte part) where
  pub front_within : count ≤ length part
  front_within = omega (arith, is, prefix_len-le-length is_name_byte part)

  pub front_bytes : list_all is_name_byte (take count part) ≡ true
  front_bytes = subst (λ (n : ℕ). list_all is_name_byte (take n part) ≡ true) (sym is) (front_passes is_name_byte part)

  pub not_ended : (count == length part || slice_index part count == 92) ≡ false → list_all is_name (parts_of part) ≡ false
  not_ended h =
      let tests = neither _ _ h in
      let less : count < length part = below count (length part) front_within tests.0 in
      let short : prefix_len is_name_byte part < length part = omega (arith, is) in
      let bad : is_name_byte (get_or part count 0) ≡ false = subst (λ (n : ℕ). is_name_byte (get_or part n 0) ≡ false) (sym is) (prefix_len_stops is_name_byte part 0 short) in
      broken_byte part count less front_bytes bad tests.1

  pub not_a_name : 0 < length part → (count == length part || slice_index part count == 92) ≡ true → is_name (take count part) ≡ false → list_all is_name (parts_of part) ≡ false
  not_a_name some ended bad =
      let more = list_all is_name (parts_of (drop (count + 1) part)) in
      ap (list_all is_name) (taken part count some front_within front_bytes ended) ∙ ap (λ test. test && more) bad

  pub first_name : 0 < length part → (count == length part || slice_index part count == 92) ≡ true → is_name (take count part) ≡ true → IsFirstName part count
  first_name some ended named = record {
    within = front_within;
    ended = ended;
    name = named;
    parts = taken part count some front_within front_bytes ended;
  }

-- ---- the same at a place of the rest of a path
pub parts_after : (rest : List ℕ) (start count : ℕ) → IsFirstName (drop start rest) count → parts_of (drop start rest) ≡ take count (drop start rest) ∷ parts_of (drop (start + (count + 1)) rest)
parts_after rest start count first =
    first.parts ∙ ap (λ text. take count (drop start rest) ∷ parts_of text) (drop-drop (count + 1) start rest)
