-- Limits, types and states are read exactly as they are written, and a word is parted at its first colon.
use Rattle.std.proofs.Common.{◌≡◌, ℕ, ◌+◌, ◌<◌, List, [], ◌∷◌, ◌++◌, Bool, true, false, length, take, drop, refl, sym, ◌∙◌, ap, subst, inl, inr, arith}
use Rattle.std.specs.Prelude.{Ok, Err, ◌*◌, ◌==◌, ◌||◌, not, nat_lt, Option, Some, None, find, option_map, if◌then◌else◌}
use Rattle.std.specs.Char.{is_ascii_digit, to_ascii_lowercase}
use Rattle.std.specs.List.{list_all, list_any, prefix_len, position_or_len, before_first, after_first, take_while}
use Rattle.std.specs.Str.{str_eq_ignore_ascii_case, str_to_ascii_lowercase, bytes_eq}
use Rattle.std.specs.Str.Parse.{digits_value}
use Rattle.std.proofs.lemmas.Bool.{and_parts, and_from, or_parts, true≢false, cases_Bool, ltb-true, lt-ltb, eqb-true}
use Rattle.std.proofs.lemmas.Bool.Decides.{nat_tests}
use Rattle.std.proofs.lemmas.List.{take-append-drop}
use Rattle.std.proofs.Math.Seq.{take-append_seam, drop-append_seam, drop-append-add}
use Rattle.std.proofs.lemmas.List.Folds.{length-prefix_len}
use Rattle.std.proofs.lemmas.List.Sums.{split_at_first, passes_at_first, take_while-cons}
use Rattle.std.proofs.lemmas.Slice.Eq.{bytes_eq-Decides}
use Rattle.fsrm_model.specs.declared.command.Refusal.{Refusal}
use Rattle.fsrm_model.specs.declared.command.Refusal.TheVariants.{BadLine, InvalidLimit}
use Rattle.fsrm_model.specs.lines.Options.{is_colon}
use Rattle.fsrm_model.specs.objects.Quota.{is_limit}
use Rattle.fsrm_model.specs.lines.Reading.{Read, ◌>>=◌, guarded, known, units, unit_bytes, digits_of, limit_from, choice_from}
use Rattle.fsrm_model.specs.meaning.Spelling.{IsNamed, WritesLimit, WritesChoice}
use Rattle.fsrm_model.proofs.lines.ReadLaws.{both_ok, guarded_ok, guarded_then, guarded_from}

-- two spellings of one name
pub named_lower : (name word : List ℕ) → IsNamed name word → str_to_ascii_lowercase name ≡ str_to_ascii_lowercase word
named_lower name word named = (bytes_eq-Decides (str_to_ascii_lowercase name) (str_to_ascii_lowercase word)).0 named

-- a name is read as the table's own spelling of it
pub name_same : (row name word : List ℕ) → IsNamed name word → str_eq_ignore_ascii_case row word ≡ str_eq_ignore_ascii_case row name
name_same row name word named = ap (bytes_eq (str_to_ascii_lowercase row)) (sym (named_lower name word named))

-- a test of bytes to which both cases of a letter are one
abbrev pub IsCaseless : (ℕ → Bool) → Type 0
IsCaseless test = (b : ℕ) → test (to_ascii_lowercase b) ≡ test b

any_lower : (test : ℕ → Bool) (word : List ℕ) → IsCaseless test → list_any test (str_to_ascii_lowercase word) ≡ list_any test word
any_lower test [] caseless = refl
any_lower test (b ∷ word) caseless =
    ap (λ (c : Bool). c || list_any test (str_to_ascii_lowercase word)) (caseless b) ∙ ap (λ (c : Bool). test b || c) (any_lower test word caseless)

pub named_any : (test : ℕ → Bool) (name word : List ℕ) → IsCaseless test → IsNamed name word → list_any test word ≡ list_any test name
named_any test name word caseless named =
    sym (any_lower test word caseless) ∙ ap (list_any test) (sym (named_lower name word named)) ∙ any_lower test name caseless

digit_caseless : IsCaseless is_ascii_digit
digit_caseless b = grind (arith, nat_tests)

-- the first element that passes a test
found_within : {X : Type 0} (p : X → Bool) (xs : List X) → list_any p xs ≡ true → position_or_len p xs < length xs
found_within p [] h = absurd (true≢false (sym h))
found_within p (x ∷ xs) h = elim (cases_Bool (p x)) [
  | inl is ↦ rw is (omega arith)
  | inr other ↦ let more = rw other at h in let below : position_or_len p xs < length xs = found_within p xs more in rw other (omega (arith, below))
]

-- a text is parted at its first byte of a mark
abbrev pub is_mark : ℕ → ℕ → Bool
is_mark mark b = b == mark

pub mark_parts : (mark : ℕ) (text : List ℕ) → list_any (is_mark mark) text ≡ true → text ≡ before_first (is_mark mark) text ++ mark ∷ after_first (is_mark mark) text
mark_parts mark text h =
    let within = found_within (is_mark mark) text h in
    subst (λ (b : ℕ). text ≡ before_first (is_mark mark) text ++ b ∷ after_first (is_mark mark) text) (eqb-true _ mark (passes_at_first (is_mark mark) text 0 within)) (split_at_first (is_mark mark) text 0 within)

position_seam : (mark : ℕ) (front rest : List ℕ) → list_any (is_mark mark) front ≡ false → position_or_len (is_mark mark) (front ++ mark ∷ rest) ≡ length front
position_seam mark [] rest h = rw (own mark) refl
  where
    own : (n : ℕ) → (n == n) ≡ true
    own n = grind (arith, nat_tests)
position_seam mark (b ∷ front) rest h =
    let tests = or_parts (is_mark mark b) (list_any (is_mark mark) front) h in
    let more : position_or_len (is_mark mark) (front ++ mark ∷ rest) ≡ length front = position_seam mark front rest tests.1 in
    rw tests.0 (omega (arith, more))

pub mark_before : (mark : ℕ) (front rest : List ℕ) → list_any (is_mark mark) front ≡ false → before_first (is_mark mark) (front ++ mark ∷ rest) ≡ front
mark_before mark front rest h = ap (λ (n : ℕ). take n (front ++ mark ∷ rest)) (position_seam mark front rest h) ∙ take-append_seam front (mark ∷ rest)

pub mark_after : (mark : ℕ) (front rest : List ℕ) → list_any (is_mark mark) front ≡ false → after_first (is_mark mark) (front ++ mark ∷ rest) ≡ rest
mark_after mark front rest h = ap (λ (n : ℕ). drop (n + 1) (front ++ mark ∷ rest)) (position_seam mark front rest h) ∙ drop-append-add front (mark ∷ rest) 1

-- at its first colon
pub colon_parts : (text : List ℕ) → list_any is_colon text ≡ true → text ≡ before_first is_colon text ++ 58 ∷ after_first is_colon text
colon_parts text h = mark_parts 58 text h

pub colon_before : (front rest : List ℕ) → list_any is_colon front ≡ false → before_first is_colon (front ++ 58 ∷ rest) ≡ front
colon_before front rest h = mark_before 58 front rest h

pub colon_after : (front rest : List ℕ) → list_any is_colon front ≡ false → after_first is_colon (front ++ 58 ∷ rest) ≡ rest
colon_after front rest h = mark_after 58 front rest h

pub colon_there : (front rest : List ℕ) → list_any is_colon (front ++ 58 ∷ rest) ≡ true
colon_there [] rest = refl
colon_there (b ∷ front) rest = rw (colon_there front rest) (or_true (is_colon b))
  where
    or_true : (b : Bool) → (b || true) ≡ true
    or_true true = refl
    or_true false = refl

-- the digits that a text begins with
front_passes : {X : Type 0} (p : X → Bool) (xs : List X) → list_all p (take (prefix_len p xs) xs) ≡ true
front_passes p [] = refl
front_passes p (x ∷ xs) = elim (cases_Bool (p x)) [
  | inl is ↦ ap (list_all p) (take_while-cons p x xs) ∙ rw is (and_from (p x) (list_all p (take_while p xs)) is (front_passes p xs))
  | inr other ↦ ap (list_all p) (take_while-cons p x xs) ∙ rw other refl
]

pub all_other : {X : Type 0} (p : X → Bool) (xs : List X) → list_all (λ x. not (p x)) xs ≡ true → list_any p xs ≡ false
all_other p [] h = refl
all_other p (x ∷ xs) h = let tests = and_parts (not (p x)) (list_all (λ x. not (p x)) xs) h in rw (is_false (p x) tests.0) (all_other p xs tests.1)
  where
    is_false : (b : Bool) → not b ≡ true → b ≡ false
    is_false true h = absurd (cc h)
    is_false false h = refl

pub before_plain : (text : List ℕ) → list_any is_colon (before_first is_colon text) ≡ false
before_plain text = all_other is_colon (before_first is_colon text) (front_passes (λ b. not (is_colon b)) text)

pub mark_plain : (mark : ℕ) (text : List ℕ) → list_any (is_mark mark) (before_first (is_mark mark) text) ≡ false
mark_plain mark text = all_other (is_mark mark) (before_first (is_mark mark) text) (front_passes (λ b. not (is_mark mark b)) text)

digits_seam : (digits unit : List ℕ) → list_all is_ascii_digit digits ≡ true → list_any is_ascii_digit unit ≡ false → prefix_len is_ascii_digit (digits ++ unit) ≡ length digits
digits_seam [] [] each none = refl
digits_seam [] (b ∷ unit) each none = rw (or_parts (is_ascii_digit b) (list_any is_ascii_digit unit) none).0 refl
digits_seam (b ∷ digits) unit each none =
    let tests = and_parts (is_ascii_digit b) (list_all is_ascii_digit digits) each in
    let more : prefix_len is_ascii_digit (digits ++ unit) ≡ length digits = digits_seam digits unit tests.1 none in
    rw tests.0 (omega (arith, more))

-- a value that is there
pub known_ok : {A : Type 0} (refusal : Refusal) (o : Option A) (x : A) → known refusal o ≡ Ok x → o ≡ Some x
known_ok refusal None x h = absurd (cc h)
known_ok refusal (Some y) x h = cc

-- no unit has a digit
unit_plain : (rows : List (List ℕ × ℕ)) (unit : List ℕ) (bytes : ℕ) → list_any (λ (row : List ℕ × ℕ). list_any is_ascii_digit row.0) rows ≡ false → option_map (λ (row : List ℕ × ℕ). row.1) (find (λ (row : List ℕ × ℕ). str_eq_ignore_ascii_case row.0 unit) rows) ≡ Some bytes → list_any is_ascii_digit unit ≡ false
unit_plain [] unit bytes plain h = absurd (cc h)
unit_plain (row ∷ rows) unit bytes plain h =
    let tests = or_parts (list_any is_ascii_digit row.0) (list_any (λ (row : List ℕ × ℕ). list_any is_ascii_digit row.0) rows) plain in
    elim (cases_Bool (str_eq_ignore_ascii_case row.0 unit)) [
      | inl named ↦ named_any is_ascii_digit row.0 unit digit_caseless named ∙ tests.0
      | inr other ↦ let more = rw other at h in unit_plain rows unit bytes tests.1 more
    ]

-- a limit that is read is written there
abbrev in_limits : ℕ → Read ℕ
in_limits limit = guarded (is_limit limit) InvalidLimit limit

abbrev of_unit : ℕ → List ℕ → List ℕ → Read ℕ
of_unit column text digits = known (BadLine column) (unit_bytes (drop (length digits) text)) >>= λ bytes. in_limits (digits_value 10 digits * bytes)

pub limit_writes : (column : ℕ) (text : List ℕ) (limit : ℕ) → limit_from column text ≡ Ok limit → WritesLimit text limit
limit_writes column text limit h =
    let digits = digits_of text in
    let form = guarded_then (nat_lt 0 (length digits)) (BadLine column) digits (of_unit column text) limit h in
    let unit = both_ok (known (BadLine column) (unit_bytes (drop (length digits) text))) (λ bytes. in_limits (digits_value 10 digits * bytes)) limit form.1 in
    let legal = guarded_ok (is_limit (digits_value 10 digits * unit.0)) InvalidLimit (digits_value 10 digits * unit.0) limit unit.2 in
    record {
      digits = digits;
      unit = drop (length digits) text;
      bytes = unit.0;
      text_is = sym (ap (λ (n : ℕ). digits ++ drop n text) (length-prefix_len is_ascii_digit text) ∙ take-append-drop (prefix_len is_ascii_digit text) text);
      some = ltb-true 0 (length digits) form.0;
      each = front_passes is_ascii_digit text;
      unit_is = known_ok (BadLine column) (unit_bytes (drop (length digits) text)) unit.0 unit.1;
      value = legal.1;
      legal = subst (λ (n : ℕ). is_limit n ≡ true) legal.1 legal.0;
    }

-- and a limit that is written is read
pub limit_reads : (column : ℕ) (text : List ℕ) (limit : ℕ) → WritesLimit text limit → limit_from column text ≡ Ok limit
limit_reads column text limit w =
    let plain = unit_plain units w.unit w.bytes refl w.unit_is in
    let front : digits_of text ≡ w.digits = ap digits_of w.text_is ∙ ap (λ (n : ℕ). take n (w.digits ++ w.unit)) (digits_seam w.digits w.unit w.each plain) ∙ take-append_seam w.digits w.unit in
    let rest : drop (length w.digits) text ≡ w.unit = ap (drop (length w.digits)) w.text_is ∙ drop-append_seam w.digits w.unit in
    ap (λ (ds : List ℕ). guarded (nat_lt 0 (length ds)) (BadLine column) ds >>= of_unit column text) front
    ∙ ap (λ (test : Bool). guarded test (BadLine column) w.digits >>= of_unit column text) (lt-ltb 0 (length w.digits) w.some)
    ∙ ap (λ (o : Option ℕ). known (BadLine column) o >>= λ bytes. in_limits (digits_value 10 w.digits * bytes)) (ap unit_bytes rest ∙ w.unit_is)
    ∙ ap in_limits w.value
    ∙ guarded_from (is_limit limit) InvalidLimit limit w.legal

-- one of two words
pub choice_writes : (first second : List ℕ) (column : ℕ) (text : List ℕ) (pick : Bool) → choice_from first second column text ≡ Ok pick → WritesChoice first second text pick
choice_writes first second column text pick h = by (str_eq_ignore_ascii_case first text) (str_eq_ignore_ascii_case second text) refl refl h
  where
    by : (one other : Bool) → str_eq_ignore_ascii_case first text ≡ one → str_eq_ignore_ascii_case second text ≡ other → (if one then Ok true else if other then Ok false else Err (BadLine column)) ≡ Ok pick → WritesChoice first second text pick
    by true other is_first is_second e = let same : true ≡ pick = cc e in subst (WritesChoice first second text) same is_first
    by false true is_first is_second e = let same : false ≡ pick = cc e in subst (WritesChoice first second text) same (is_first, is_second)
    by false false is_first is_second e = absurd (cc e)

pub choice_reads : (first second : List ℕ) (column : ℕ) (text : List ℕ) (pick : Bool) → WritesChoice first second text pick → choice_from first second column text ≡ Ok pick
choice_reads first second column text true w = ap (λ (one : Bool). if one then Ok true else if str_eq_ignore_ascii_case second text then Ok false else Err (BadLine column)) w
choice_reads first second column text false w =
    ap (λ (one : Bool). if one then Ok true else if str_eq_ignore_ascii_case second text then Ok false else Err (BadLine column)) w.0
    ∙ ap (λ (other : Bool). if other then Ok false else Err (BadLine column)) w.1
