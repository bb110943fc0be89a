-- What `split_terminator` gives at a backslash.
use Rattle.std.proofs.Common.{◌≡◌, ℕ, ◌<◌, Bool, true, false, cond, List, [], ◌∷◌, ◌++◌, Option, Some, None, Bor, MatchOption, length, sym, ap, subst, refl, ◌∙◌, arith}
use mathlib.Core.Logic.{⊎_elim}
use borrow.Author.Tests.{ne_eqb, clash}
use Rattle.std.proofs.iter.runs.Bytes.{all, Other}
use Rattle.std.proofs.iter.runs.Splits.{piece}
use Rattle.std.specs.List.{All, slice_split}
use Rattle.std.specs.declared.str.SplitTerminator.{SplitTerminator}
use Rattle.std.specs.Str.Iter.{split_text, split_has_more, split_terminator_parts, split_terminator_pattern, split_terminator_steps}
use Rattle.std.specs.Str.Pattern.{FindsChar}
use Rattle.std.proofs.lemmas.Iterator.{YieldsList}
use Rattle.std.proofs.lemmas.Iterator.Splits.{YieldsList-from_shown_while}
use Rattle.std.proofs.lemmas.List.{nil_from_length}
use Rattle.std.proofs.lemmas.List.Elements.{All-nil, All-cons}
use Rattle.std.proofs.lemmas.List.Splits.{slice_split_none, slice_split_at, length-slice_split}
use Rattle.fsrm_model.specs.lines.Reading.{is_backslash, without_last_empty}
use Rattle.fsrm_model.specs.meaning.PathNames.{parts_of}
use Rattle.fsrm_model.proofs.FirstNames.{more_parts}

-- ---- a part is taken off
one_part : (x : List ℕ) → 0 < length x → without_last_empty (x ∷ []) ≡ x ∷ []
one_part [] some = absurd (omega arith)
one_part (b ∷ x) some = refl

no_backslash : (x : List ℕ) → all (Other 92) x → All (λ b. is_backslash b ≡ false) x
no_backslash [] none = All-nil (λ b. is_backslash b ≡ false)
no_backslash (b ∷ x) none = All-cons (λ b. is_backslash b ≡ false) b x (ne_eqb b 92 none.0) (no_backslash x none.1)

pub parts_of_last : (x : List ℕ) → All (λ b. is_backslash b ≡ false) x → 0 < length x → parts_of x ≡ x ∷ []
parts_of_last x none some = ap without_last_empty (slice_split_none is_backslash x none) ∙ one_part x some

pub parts_of_more : (x rest : List ℕ) → All (λ b. is_backslash b ≡ false) x → parts_of (x ++ 92 ∷ rest) ≡ x ∷ parts_of rest
parts_of_more x rest none =
    let parts = slice_split is_backslash rest in
    let some : 0 < length parts = omega (arith, length-slice_split is_backslash rest) in
    ap without_last_empty (slice_split_at is_backslash x 92 rest none refl) ∙ more_parts x parts some

-- ---- the iterator
abbrev Steps : SplitTerminator ℕ → Option (Bor (List ℕ)) → SplitTerminator ℕ → Type 0
Steps = split_terminator_steps FindsChar (λ c d. d ≡ c)

-- the parts that are yet to come
abbrev pub parts_left : SplitTerminator ℕ → List (List ℕ)
parts_left s = cond (split_has_more (split_terminator_parts s)) (parts_of (split_text (split_terminator_parts s))) []

-- no match ends at 0, so the text is empty if nothing comes
no_text : (text : List ℕ) (o : Option (ℕ × ℕ)) → FindsChar 92 text o → MatchOption o (length text ≡ 0) (λ q. q.1 ≡ 0) → parts_of text ≡ []
no_text text None found is = ap parts_of (nil_from_length text is)
no_text text (Some q) found is = absurd (omega (arith, found.1.ends))

no_parts : (more : Bool) (text : List ℕ) → (more ≡ true → parts_of text ≡ []) → length (cond more (parts_of text) []) ≡ 0
no_parts true text is = ap length (is refl)
no_parts false text is = refl

not_empty : (x : List ℕ) → (length x ≡ 0 → ⊥) → 0 < length x
not_empty x some = omega arith

module _ (s t : SplitTerminator ℕ) (pattern : split_terminator_pattern s ≡ 92) where
  pub none_left : Steps s None t → length (parts_left s) ≡ 0
  none_left h =
      let text = split_text (split_terminator_parts s) in
      no_parts _ text (λ more. let found = h.0 more in no_text text found.0 (subst (λ c. FindsChar c text found.0) pattern found.1) found.2)

  pub next_part : (x : Bor (List ℕ)) → Steps s (Some x) t → parts_left s ≡ x.now ∷ parts_left t
  next_part x h =
      let text = split_text (split_terminator_parts s) in
      let rest = split_text (split_terminator_parts t) in
      let cut = h.2.1 in
      let m = piece 92 (omega arith) text x.now rest _ cut.0 (subst (λ c. FindsChar c text cut.0) pattern cut.1) cut.2 in
      rw h.0 (⊎_elim
      (λ last. rw (last.1, ← last.0) (parts_of_last x.now (no_backslash x.now m.0) (not_empty x.now (λ e. clash (sym last.1 ∙ h.3 e)))))
      (λ on. rw (on.0, on.1) (parts_of_more x.now rest (no_backslash x.now m.0)))
      m.1)

-- the last three facts are the clauses of `split_terminator`
pub YieldsList-from_split_terminator : {s : SplitTerminator ℕ} (text : List ℕ) → split_text (split_terminator_parts s) ≡ text → split_has_more (split_terminator_parts s) ≡ true → split_terminator_pattern s ≡ 92 → YieldsList Steps (λ x. x.now) s (parts_of text)
YieldsList-from_split_terminator {s} text is more pattern =
    subst (YieldsList Steps (λ x. x.now) s) (λ i. cond (more i) (parts_of (is i)) [])
    (YieldsList-from_shown_while Steps (λ x. x.now) parts_left (λ t. split_terminator_pattern t ≡ 92)
    (λ t u p h. none_left t u p h)
    (λ t x u p h. (h.1 ∙ p, next_part t u p x h))
    s pattern)
