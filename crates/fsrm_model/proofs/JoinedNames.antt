-- The names of a path, joined again.
use Rattle.std.proofs.Common.{◌≡◌, ℕ, suc, ◌-◌, ◌<◌, List, [], ◌∷◌, ◌++◌, Bool, true, false, cond, length, take, get_or, refl, sym, ◌∙◌, ap, inl, inr, arith, length-append}
use Rattle.std.specs.Prelude.{◌==◌, ◌&&◌, nat_lt, slice_index}
use Rattle.std.specs.List.{onto_first, slice_split, join_with_byte}
use Rattle.std.proofs.lemmas.Bool.{and_parts, and_from, ltb-true, lt-ltb, eqb-true, eq-eqb, true≢false}
use Rattle.std.proofs.lemmas.List.Splits.{join_with_byte-slice_split, length-slice_split}
use Rattle.fsrm_model.specs.lines.Reading.{is_backslash, without_last_empty}
use Rattle.fsrm_model.specs.meaning.PathNames.{parts_of}
use Rattle.fsrm_model.proofs.lines.PathLaws.{names_of}

-- one more backslash at its end is one more part, which is empty
one_more : (b : ℕ) (ends : Bool) (parts : List (List ℕ)) → 0 < length parts → cond ends ([] ∷ (parts ++ [] ∷ [])) (onto_first b (parts ++ [] ∷ [])) ≡ cond ends ([] ∷ parts) (onto_first b parts) ++ [] ∷ []
one_more b true parts some = refl
one_more b false [] some = absurd (omega (arith, some))
one_more b false (part ∷ parts) some = refl

split_last : (front : List ℕ) → slice_split is_backslash (front ++ 92 ∷ []) ≡ slice_split is_backslash front ++ [] ∷ []
split_last [] = refl
split_last (b ∷ front) =
    ap (λ (parts : List (List ℕ)). cond (is_backslash b) ([] ∷ parts) (onto_first b parts)) (split_last front)
    ∙ one_more b (is_backslash b) (slice_split is_backslash front) (omega (arith, length-slice_split is_backslash front))

without_last : (parts : List (List ℕ)) → without_last_empty (parts ++ [] ∷ []) ≡ parts
without_last [] = refl
without_last ([] ∷ []) = refl
without_last ([] ∷ part ∷ parts) = ap (λ (rest : List (List ℕ)). [] ∷ rest) (without_last (part ∷ parts))
without_last ((b ∷ bs) ∷ parts) = ap (λ (rest : List (List ℕ)). (b ∷ bs) ∷ rest) (without_last parts)

-- a text that ends in a backslash is its names, joined, and this backslash
joined_before : (text front : List ℕ) → text ≡ front ++ 92 ∷ [] → front ≡ join_with_byte 92 (parts_of text)
joined_before text front is =
    sym (join_with_byte-slice_split 92 front)
    ∙ ap (join_with_byte 92) (sym (ap parts_of is ∙ ap without_last_empty (split_last front) ∙ without_last (slice_split is_backslash front)))

-- the byte with which it ends
last_of : (front : List ℕ) (place : ℕ) → place ≡ length (front ++ 92 ∷ []) - 1 → get_or (front ++ 92 ∷ []) place 0 ≡ 92
last_of [] place e = let none : place ≡ 0 = omega (arith, e) in rw none refl
last_of (b ∷ front) place e =
    let more : place ≡ suc (length (front ++ 92 ∷ []) - 1) = omega (arith, e, length-append front (92 ∷ [])) in
    rw more (last_of front (length (front ++ 92 ∷ []) - 1) refl)

cut_last : (text : List ℕ) → 0 < length text → get_or text (length text - 1) 0 ≡ 92 → text ≡ take (length text - 1) text ++ 92 ∷ []
cut_last [] some e = absurd (omega (arith, some))
cut_last (b ∷ []) some e = ap (λ (c : ℕ). c ∷ []) e
cut_last (b ∷ c ∷ text) some e =
    let place : length (b ∷ c ∷ text) - 1 ≡ suc (length (c ∷ text) - 1) = omega arith in
    let last : get_or (b ∷ c ∷ text) (suc (length (c ∷ text) - 1)) 0 ≡ 92 = ap (λ (n : ℕ). get_or (b ∷ c ∷ text) n 0) (sym place) ∙ e in
    rw place (ap (λ (rest : List ℕ). b ∷ rest) (cut_last (c ∷ text) (omega arith) last))

-- another text is its names, joined
joined_whole : (text : List ℕ) → (0 < length text → get_or text (length text - 1) 0 ≡ 92 → ⊥) → text ≡ join_with_byte 92 (parts_of text)
joined_whole text no_last = elim (names_of text) [
  | inl same ↦ same
  | inr more ↦
      let front = join_with_byte 92 (parts_of text) in
      absurd (no_last (omega (arith, ap length more.1, length-append front (92 ∷ []))) (ap (λ (t : List ℕ). get_or t (length t - 1) 0) more.1 ∙ last_of front (length (front ++ 92 ∷ []) - 1) refl))
]

-- ---- by a test of the last byte
abbrev ends_so : List ℕ → Bool
ends_so bytes = nat_lt 0 (length bytes) && (slice_index bytes (length bytes - 1) == 92)

pub joined_then : (text bytes front : List ℕ) (test : Bool) → bytes ≡ text → test ≡ ends_so bytes → test ≡ true → front ≡ take (length text - 1) text → front ≡ join_with_byte 92 (parts_of text)
joined_then text bytes front test same is holds cut =
    let ends = and_parts (nat_lt 0 (length text)) (slice_index text (length text - 1) == 92) (ap ends_so (sym same) ∙ sym is ∙ holds) in
    joined_before text front (cut_last text (ltb-true _ _ ends.0) (eqb-true _ _ ends.1) ∙ ap (λ (bs : List ℕ). bs ++ 92 ∷ []) (sym cut))

pub joined_else : (text bytes : List ℕ) (test : Bool) → bytes ≡ text → test ≡ ends_so bytes → test ≡ false → text ≡ join_with_byte 92 (parts_of text)
joined_else text bytes test same is fails = joined_whole text (λ some last.
    let ends : ends_so text ≡ true = and_from (nat_lt 0 (length text)) (slice_index text (length text - 1) == 92) (lt-ltb _ _ some) (eq-eqb _ _ last) in
    true≢false (sym ends ∙ ap ends_so (sym same) ∙ sym is ∙ fails))
