-- Lists of parts.
use Rattle.std.proofs.Common.{◌≡◌, ℕ, ◌+◌, ◌<◌, ◌^◌, Bool, true, List, length, take, refl, sym, ap, ◌∙◌, arith, Option, Some, None}
use Rattle.std.specs.Prelude.{get_or, nat_le}
use Rattle.std.specs.List.{list_all}
use Rattle.std.proofs.lemmas.Bool.{lt-ltb, leb-true}
use Rattle.std.proofs.lemmas.List.Folds.{list_all_more}
use Rattle.fsrm_base.proofs.TestLaws.{both, both_true}
use Rattle.record_fields.specs.Formats.{Format}
use Rattle.image_codec.specs.Parts.{any, few_meet, some_meets}
use Rattle.image_codec.specs.Rows.{rows}

pub legal_more : {X : Type 0} (meets legal : X → Bool) (xs : List X) (i : ℕ) (x : X) → i < length xs → x ≡ get_or xs i x
    → (list_all meets (take i xs) ≡ true → list_all legal (take i xs) ≡ true) → (meets x ≡ true → legal x ≡ true)
    → list_all meets (take (i + 1) xs) ≡ true → list_all legal (take (i + 1) xs) ≡ true
legal_more meets legal xs i x inside is before here all =
    let parts = both (list_all meets (take i xs)) (meets (get_or xs i x)) (sym (list_all_more meets xs i x inside) ∙ all) in
    list_all_more legal xs i x inside ∙ both_true _ _ (before parts.0) (ap legal (sym is) ∙ here (ap meets is ∙ parts.1))

pub rows_legal : {X : Type 0} (meets : X → Bool) (f : Format X) (xs : List X) (most : ℕ) → (list_all meets xs ≡ true → list_all f.legal xs ≡ true)
    → most < 2 ^ 32 → few_meet most meets xs ≡ true → (rows f).legal xs ≡ true
rows_legal meets f xs most each small meet =
    let parts = both (nat_le (length xs) most) (list_all meets xs) meet in
    both_true _ _ (lt-ltb (length xs) (256 ^ 4) (omega (arith, small, leb-true (length xs) most parts.0))) (each parts.1)

pub some_any : {X : Type 0} (x : Option X) → some_meets any x ≡ true
some_any None = refl
some_any (Some x) = refl
