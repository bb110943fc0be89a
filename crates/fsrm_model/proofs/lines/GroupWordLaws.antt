-- The names of groups and their patterns are read exactly as they are written, and refused only as a line is.
use Rattle.std.proofs.Common.{◌≡◌, ℕ, ◌≤◌, List, [], ◌∷◌, true, false, length, refl, sym, ◌∙◌, ap, subst, inl, inr, arith}
use Rattle.std.specs.Prelude.{Ok, ◌&&◌, ◌||◌, not, nat_lt, nat_le, codes, bytes_eq}
use Rattle.std.specs.List.{list_all, list_any, onto_first, slice_split}
use Rattle.std.proofs.lemmas.Bool.{and_parts, or_from, eqb-true, le-leb, leb-true, true≢false, cases_Bool}
use Rattle.std.proofs.lemmas.List.Splits.{join_with_byte-slice_split}
use Rattle.fsrm_model.specs.declared.command.Refusal.TheVariants.{InvalidName, OutOfRange}
use Rattle.fsrm_model.specs.lines.GroupWords.{object_from, is_bar, patterns_from, non_members_from}
use Rattle.fsrm_model.specs.values.Limits.{longest_name, most_patterns}
use Rattle.fsrm_model.specs.values.Patterns.{is_object_name, is_pattern_byte, is_pattern}
use Rattle.fsrm_model.specs.lines.Reading.{Read, ◌>>=◌, guarded}
use Rattle.fsrm_model.specs.meaning.Spelling.{WritesObject, WritesPatterns}
use Rattle.fsrm_model.proofs.lines.LineValues.{AsLine, then_line, guarded_line}
use Rattle.fsrm_model.proofs.lines.PathLaws.{has_mark, split_join}
use Rattle.fsrm_model.proofs.lines.ReadLaws.{then_ok, guarded_then, guarded_ok, guarded_from}

-- ---- the name of an object
pub object_writes : (text name : List ℕ) → object_from text ≡ Ok name → WritesObject text name
object_writes text name h =
    let named = guarded_ok (is_object_name text) InvalidName text name h in
    record { text_is = named.1; legal = subst (λ (t : List ℕ). is_object_name t ≡ true) named.1 named.0 }

pub object_reads : (text name : List ℕ) → WritesObject text name → object_from text ≡ Ok name
object_reads text name w = ap object_from w.text_is ∙ guarded_from (is_object_name name) InvalidName name w.legal

pub object_line : (text : List ℕ) → AsLine (object_from text)
object_line text = guarded_line (is_object_name text) InvalidName text refl

-- ---- patterns
-- no byte of a pattern is a bar
byte_plain : (b : ℕ) → is_pattern_byte b ≡ true → is_bar b ≡ false
byte_plain b h = elim (cases_Bool (is_bar b)) [
  | inl is ↦ absurd (true≢false (sym (subst (λ (c : ℕ). is_pattern_byte c ≡ true) (eqb-true b 124 is) h)))
  | inr other ↦ other
]

bytes_plain : (text : List ℕ) → list_all is_pattern_byte text ≡ true → has_mark 124 text ≡ false
bytes_plain [] h = refl
bytes_plain (b ∷ text) h =
    let parts = and_parts (is_pattern_byte b) (list_all is_pattern_byte text) h in
    or_from (is_bar b) (has_mark 124 text) (byte_plain b parts.0) (bytes_plain text parts.1)

pattern_plain : (text : List ℕ) → is_pattern text ≡ true → has_mark 124 text ≡ false
pattern_plain text h =
    let long = nat_lt 0 (length text) && nat_le (length text) longest_name in
    let whole = and_parts (long && list_all is_pattern_byte text) (not (bytes_eq text (codes ".") || bytes_eq text (codes ".."))) h in
    bytes_plain text (and_parts long (list_all is_pattern_byte text) whole.0).1

patterns_plain : (patterns : List (List ℕ)) → list_all is_pattern patterns ≡ true → list_any (has_mark 124) patterns ≡ false
patterns_plain [] h = refl
patterns_plain (p ∷ ps) h =
    let parts = and_parts (is_pattern p) (list_all is_pattern ps) h in
    or_from (has_mark 124 p) (list_any (has_mark 124) ps) (pattern_plain p parts.0) (patterns_plain ps parts.1)

-- a text has one part at least
onto_some : (b : ℕ) (parts : List (List ℕ)) → 1 ≤ length parts → 1 ≤ length (onto_first b parts)
onto_some b [] h = absurd (omega (arith, h))
onto_some b (part ∷ parts) h = omega arith

split_some : (text : List ℕ) → 1 ≤ length (slice_split is_bar text)
split_some [] = omega arith
split_some (b ∷ text) = elim (cases_Bool (is_bar b)) [
  | inl is ↦ rw is (omega arith)
  | inr other ↦ rw other (onto_some b (slice_split is_bar text) (split_some text))
]

abbrev few_patterns : List (List ℕ) → Read (List (List ℕ))
few_patterns patterns = guarded (nat_le (length patterns) most_patterns) OutOfRange patterns

pub patterns_writes : (text : List ℕ) (patterns : List (List ℕ)) → patterns_from text ≡ Ok patterns → WritesPatterns 1 text patterns
patterns_writes text patterns h =
    let parts = slice_split is_bar text in
    let each = guarded_then (list_all is_pattern parts) InvalidName parts few_patterns patterns h in
    let few = guarded_ok (nat_le (length parts) most_patterns) OutOfRange parts patterns each.1 in
    subst (WritesPatterns 1 text) few.1 (record {
      text_is = sym (join_with_byte-slice_split 124 text);
      each = each.0;
      some = split_some text;
      few = leb-true (length parts) most_patterns few.0;
    })

pub patterns_reads : (text : List ℕ) (patterns : List (List ℕ)) → WritesPatterns 1 text patterns → patterns_from text ≡ Ok patterns
patterns_reads text [] w = absurd (omega (arith, w.some))
patterns_reads text (p ∷ ps) w =
    let parts : slice_split is_bar text ≡ p ∷ ps = ap (slice_split is_bar) w.text_is ∙ split_join 124 p ps (patterns_plain (p ∷ ps) w.each) in
    ap (λ (parts : List (List ℕ)). guarded (list_all is_pattern parts) InvalidName parts >>= few_patterns) parts
    ∙ then_ok (guarded (list_all is_pattern (p ∷ ps)) InvalidName (p ∷ ps)) (p ∷ ps) few_patterns (guarded_from (list_all is_pattern (p ∷ ps)) InvalidName (p ∷ ps) w.each)
    ∙ guarded_from (nat_le (length (p ∷ ps)) most_patterns) OutOfRange (p ∷ ps) (le-leb (length (p ∷ ps)) most_patterns w.few)

pub patterns_line : (text : List ℕ) → AsLine (patterns_from text)
patterns_line text =
    let parts = slice_split is_bar text in
    then_line (guarded (list_all is_pattern parts) InvalidName parts) few_patterns (guarded_line (list_all is_pattern parts) InvalidName parts refl)
    (λ patterns. guarded_line (nat_le (length patterns) most_patterns) OutOfRange patterns refl)

-- or none
one_more : (text p : List ℕ) (ps : List (List ℕ)) → WritesPatterns 0 text (p ∷ ps) → WritesPatterns 1 text (p ∷ ps)
one_more text p ps w = record { text_is = w.text_is; each = w.each; some = omega arith; few = w.few }

pub non_members_writes : (text : List ℕ) (patterns : List (List ℕ)) → non_members_from text ≡ Ok patterns → WritesPatterns 0 text patterns
non_members_writes [] patterns h =
    let same : [] ≡ patterns = cc h in
    subst (WritesPatterns 0 []) same (record { text_is = refl; each = refl; some = omega arith; few = omega arith })
non_members_writes (b ∷ bs) patterns h =
    let w = patterns_writes (b ∷ bs) patterns h in
    record { text_is = w.text_is; each = w.each; some = omega arith; few = w.few }

pub non_members_reads : (text : List ℕ) (patterns : List (List ℕ)) → WritesPatterns 0 text patterns → non_members_from text ≡ Ok patterns
non_members_reads [] [] w = refl
non_members_reads [] (p ∷ ps) w = let read : patterns_from [] ≡ Ok (p ∷ ps) = patterns_reads [] (p ∷ ps) (one_more [] p ps w) in absurd (cc read)
non_members_reads (b ∷ bs) [] w = let never : b ∷ bs ≡ [] = w.text_is in absurd (cc never)
non_members_reads (b ∷ bs) (p ∷ ps) w = patterns_reads (b ∷ bs) (p ∷ ps) (one_more (b ∷ bs) p ps w)

pub non_members_line : (text : List ℕ) → AsLine (non_members_from text)
non_members_line [] = tt
non_members_line (b ∷ bs) = patterns_line (b ∷ bs)
