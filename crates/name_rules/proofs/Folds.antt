-- The order of two names, a character at a time.
use Rattle.std.proofs.Common.{◌≡◌, ℕ, true, List, [], ◌++◌, length, Ordering, Less, Equal, Greater, ap, refl, ◌∙◌, arith}
use Rattle.std.specs.Ordering.{nat_cmp, ordering_then, is_eq}
use Rattle.std.specs.Char.{encode_utf8}
use Rattle.std.specs.Str.{bytes_eq, IsUtf8, chars}
use Rattle.std.proofs.lemmas.Bool.Decides.{nat_tests}
use Rattle.std.proofs.lemmas.Cmp.{same_from_slice_cmp}
use Rattle.std.proofs.lemmas.List.{nil_from_length}
use Rattle.std.proofs.lemmas.Slice.Eq.{bytes_eq-Decides}
use Rattle.std.proofs.lemmas.Str.{chars-nil, chars_past_char}
use Rattle.ucd_case.specs.CaseFolding.{simple_fold}
use Rattle.fsrm_model.specs.values.Name.{folded, same_name, name_cmp}

chars_none : (text : List ℕ) → length text ≡ 0 → chars text ≡ []
chars_none text none = ap chars (nil_from_length text none) ∙ chars-nil

-- if both texts have ended, or one of them
pub ended : (a b : List ℕ) → length a ≡ 0 → length b ≡ 0 → name_cmp a b ≡ Equal
ended a b none none' = rw (chars_none a none, chars_none b none') refl

module _ (a rest : List ℕ) (x : ℕ) (text : IsUtf8 a) (cut : a ≡ encode_utf8 x ++ rest) (b : List ℕ) where
  pub longer : length b ≡ 0 → name_cmp a b ≡ Greater
  longer none = rw (chars_past_char a rest x text cut, chars_none b none) refl

  pub shorter : length b ≡ 0 → name_cmp b a ≡ Less
  shorter none = rw (chars_past_char a rest x text cut, chars_none b none) refl

-- if both have a character
pub then_rest : (o : Ordering) → (o ≡ Equal → ⊥) → (rest : Ordering) → ordering_then o rest ≡ o
then_rest Less apart rest = refl
then_rest Equal apart rest = absurd (apart refl)
then_rest Greater apart rest = refl

module _ (a a' b b' : List ℕ) (x y : ℕ) (text : IsUtf8 a) (other : IsUtf8 b) (cut : a ≡ encode_utf8 x ++ a') (cut' : b ≡ encode_utf8 y ++ b') where
  heads : name_cmp a b ≡ ordering_then (nat_cmp (simple_fold x) (simple_fold y)) (name_cmp a' b')
  heads = rw (chars_past_char a a' x text cut, chars_past_char b b' y other cut') refl

  pub same_heads : nat_cmp (simple_fold x) (simple_fold y) ≡ Equal → name_cmp a b ≡ name_cmp a' b'
  same_heads same = heads ∙ ap (λ o. ordering_then o (name_cmp a' b')) same

  pub other_heads : (o : Ordering) → nat_cmp (simple_fold x) (simple_fold y) ≡ o → (o ≡ Equal → ⊥) → name_cmp a b ≡ o
  other_heads o is apart = heads ∙ ap (λ o. ordering_then o (name_cmp a' b')) is ∙ then_rest o apart (name_cmp a' b')

-- ---- names that are one are the equal ones
pub is_eq_name_cmp : (a b : List ℕ) → is_eq (name_cmp a b) ≡ same_name a b
is_eq_name_cmp a b =
    same_from_slice_cmp nat_cmp is_eq bytes_eq refl (λ _ _. refl) (λ _ _. refl) (λ x y xs ys o h. grind (arith, nat_tests)) (folded a) (folded b) (name_cmp a b) refl

pub same_name_itself : (a b : List ℕ) → bytes_eq a b ≡ true → same_name a b ≡ true
same_name_itself a b same =
    let one : a ≡ b = (bytes_eq-Decides a b).0 same in
    (bytes_eq-Decides (folded a) (folded b)).1 (ap folded one)
