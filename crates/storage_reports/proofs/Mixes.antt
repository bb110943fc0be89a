-- Numbers that lists of numbers come to.
use Rattle.std.proofs.Common.{◌≡◌, ℕ, suc, ◌<◌, List, [], ◌∷◌, ◌++◌, map, refl, sym, ◌∙◌, ap}
use Rattle.std.specs.Char.{to_ascii_lowercase, encode_utf8}
use Rattle.std.specs.Str.{IsAscii, chars}
use Rattle.std.proofs.lemmas.Str.{chars-IsAscii, encode_ascii}
use Rattle.std.proofs.lemmas.Str.Ascii.{lowercase_ascii}
use Rattle.ucd_case.proofs.CaseFoldingLemmas.{simple_fold-ascii}
use Rattle.fsrm_model.specs.reports.Reports.{folded_text}
use Rattle.storage_reports.specs.Doubles.{mixed, mixed_with}

-- one number more
pub mixed_step : (hash word next : ℕ) (words rest : List ℕ) → words ≡ word ∷ rest → next ≡ mixed_with hash word → mixed next rest ≡ mixed hash words
mixed_step hash word next words rest e h = ap (λ k. mixed k rest) h ∙ sym (ap (mixed hash) e)

-- the folded text of characters of ASCII
pub folded_ascii : (text : List ℕ) → IsAscii text → folded_text (chars text) ≡ map to_ascii_lowercase text
folded_ascii text a = ap folded_text (chars-IsAscii text a) ∙ each text a
  where
    each : (cs : List ℕ) → IsAscii cs → folded_text cs ≡ map to_ascii_lowercase cs
    each [] a = refl
    each (c ∷ cs) a =
        let low : c < 128 = a 0 in
        ap (λ (bytes : List ℕ). bytes ++ folded_text cs) (ap encode_utf8 (simple_fold-ascii c low) ∙ encode_ascii (to_ascii_lowercase c) (lowercase_ascii c low))
        ∙ ap (λ (bytes : List ℕ). to_ascii_lowercase c ∷ bytes) (each cs (λ i. a (suc i)))
