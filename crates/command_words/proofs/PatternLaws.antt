-- The parts of a text between bars, and how many there are.
use Rattle.std.proofs.Common.{◌≡◌, ℕ, ◌+◌, ◌==◌, Bool, true, false, List, [], ◌∷◌, length, refl, ap, ◌∙◌, arith}
use Rattle.std.specs.Prelude.{nat_lt, nat_le, Ok, Err, count_by}
use Rattle.std.specs.List.{list_all, slice_split}
use Rattle.std.proofs.lemmas.Bool.Decides.{nat_tests}
use Rattle.std.proofs.lemmas.List.Splits.{length-slice_split}
use Rattle.fsrm_base.proofs.TestLaws.{clash, eq_same, suc_apart}
use Rattle.fsrm_model.specs.declared.command.Refusal.TheVariants.{InvalidName, OutOfRange}
use Rattle.fsrm_model.specs.lines.GroupWords.{is_bar, patterns_from, non_members_from}
use Rattle.fsrm_model.specs.values.Limits.{most_patterns}
use Rattle.fsrm_model.specs.values.Patterns.{is_pattern}
use Rattle.fsrm_model.specs.lines.Reading.{◌>>=◌, guarded}
use Rattle.memchr.specs.Find.{is_byte, places}
use Rattle.memchr.proofs.lemmas.CallerLemmas.{length-places}

-- so many bars part one part more
one_more : (n : ℕ) → nat_lt n 64 ≡ nat_le (n + 1) 64
one_more n = grind (arith, nat_tests)

pub few_parts : (text bytes found : List ℕ) (count : ℕ) → bytes ≡ text → found ≡ places (is_byte 124) bytes → count ≡ length found → nat_lt count 64 ≡ nat_le (length (slice_split is_bar text)) most_patterns
few_parts text bytes found count same found_is count_is =
    let bars : count ≡ count_by is_bar text = count_is ∙ (ap length found_is ∙ (length-places (is_byte 124) bytes ∙ ap (count_by is_bar) same)) in
    rw (bars, length-slice_split is_bar text) (one_more (count_by is_bar text))

-- ---- patterns are judged before their number
counted : (text : List ℕ) → list_all is_pattern (slice_split is_bar text) ≡ true → patterns_from text ≡ guarded (nat_le (length (slice_split is_bar text)) most_patterns) OutOfRange (slice_split is_bar text)
counted text e =
    ap (λ (b : Bool). guarded b InvalidName (slice_split is_bar text) >>= λ patterns. guarded (nat_le (length patterns) most_patterns) OutOfRange patterns) e

pub many_patterns : (text : List ℕ) → list_all is_pattern (slice_split is_bar text) ≡ true → nat_le (length (slice_split is_bar text)) most_patterns ≡ false → patterns_from text ≡ Err OutOfRange
many_patterns text e f = counted text e ∙ ap (λ (b : Bool). guarded b OutOfRange (slice_split is_bar text)) f

pub few_patterns : (text : List ℕ) → list_all is_pattern (slice_split is_bar text) ≡ true → nat_le (length (slice_split is_bar text)) most_patterns ≡ true → patterns_from text ≡ Ok (slice_split is_bar text)
few_patterns text e f = counted text e ∙ ap (λ (b : Bool). guarded b OutOfRange (slice_split is_bar text)) f

-- ---- an empty text is no non-members
pub no_members : (text : List ℕ) → (length text == 0) ≡ true → non_members_from text ≡ Ok []
no_members [] e = refl
no_members (b ∷ bs) e = absurd (clash _ e (suc_apart (length bs)))

pub some_members : (text : List ℕ) → (length text == 0) ≡ false → non_members_from text ≡ patterns_from text
some_members [] e = absurd (clash _ (eq_same 0) e)
some_members (b ∷ bs) e = refl
