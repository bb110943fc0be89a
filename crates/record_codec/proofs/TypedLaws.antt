-- Lists of values with texts.
use Rattle.std.proofs.Common.{◌≡◌, ℕ, ◌+◌, ◌<◌, Bool, true, List, length, take, sym, ap, subst, ◌∙◌}
use Rattle.std.specs.Prelude.{◌%◌, get_or}
use Rattle.std.specs.List.{list_all, flat_map}
use Rattle.std.proofs.lemmas.List.Folds.{list_all_more}
use Rattle.fsrm_base.proofs.TestLaws.{both_true}
use Rattle.record_fields.specs.Formats.{number_spelled, listed_spelled}
use Rattle.record_fields.specs.Writers.{Writes}
use Rattle.record_fields.proofs.WriterLaws.{writes_list}
use Rattle.record_codec.proofs.PathText.{low_bytes}

pub typed_more : {X : Type 0} (typed : X → Bool) (xs : List X) (i : ℕ) (x : X) → i < length xs → x ≡ get_or xs i x
    → list_all typed (take i xs) ≡ true → typed x ≡ true → list_all typed (take (i + 1) xs) ≡ true
typed_more typed xs i x inside is before here =
    list_all_more typed xs i x inside ∙ both_true _ _ before (ap typed (sym is) ∙ here)

pub list_written : {X : Type 0} {o m n : List ℕ} {a b c : ℕ} (spell : X → List ℕ) (xs ys : List X) (low count : ℕ) → count ≡ length xs → xs ≡ ys → low ≡ count % 65536
    → Writes o a m b (number_spelled 2 low) → Writes m b n c (flat_map spell ys) → Writes o a n c (listed_spelled (number_spelled 2) spell xs)
list_written {o = o} {m = m} {a = a} {b = b} spell xs ys low count size same is p q =
    writes_list 2 spell xs ys count size (sym same) (subst (Writes o a m b) (ap (number_spelled 2) is ∙ low_bytes count) p) q
