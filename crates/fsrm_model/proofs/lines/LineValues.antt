-- What is read of a word is refused only as a line is.
use Rattle.std.proofs.Common.{◌≡◌, ℕ, List, [], ◌∷◌, Bool, true, false, length, drop, refl}
use Rattle.std.specs.Prelude.{Ok, Err, ◌*◌, ◌&&◌, nat_lt, nat_le, Option, Some, None, if◌then◌else◌}
use Rattle.std.specs.List.{list_all}
use Rattle.std.specs.Str.{str_eq_ignore_ascii_case}
use Rattle.std.specs.Str.Parse.{digits_value}
use Rattle.fsrm_model.specs.declared.command.Deed.{Deed}
use Rattle.fsrm_model.specs.declared.command.Refusal.{Refusal}
use Rattle.fsrm_model.specs.declared.command.Refusal.TheVariants.{BadLine, InvalidPath, InvalidName, OutOfRange, InvalidLimit}
use Rattle.fsrm_model.specs.lines.Line.{next_word, no_more, number_word, path_word, is_line_refusal}
use Rattle.fsrm_model.specs.values.Name.{is_name}
use Rattle.fsrm_model.specs.objects.Quota.{is_limit}
use Rattle.fsrm_model.specs.lines.Reading.{Read, ◌>>=◌, guarded, known, is_number, number_from, path_parts, has_path_form, path_from, unit_bytes, digits_of, limit_from, choice_from}
use Rattle.fsrm_model.specs.lines.Words.{Word}

-- it is read, or refused as a line is
abbrev pub AsLine : {A : Type 0} → Read A → Type 0
AsLine (Ok x) = Unit {0}
AsLine (Err refusal) = is_line_refusal refusal ≡ true

pub then_line : {A B : Type 0} (r : Read A) (f : A → Read B) → AsLine r → ((a : A) → AsLine (f a)) → AsLine (r >>= f)
then_line (Ok a) f h next = next a
then_line (Err refusal) f h next = h

pub guarded_line : {A : Type 0} (test : Bool) (refusal : Refusal) (x : A) → is_line_refusal refusal ≡ true → AsLine (guarded test refusal x)
guarded_line true refusal x h = tt
guarded_line false refusal x h = h

pub known_line : {A : Type 0} (refusal : Refusal) (o : Option A) → is_line_refusal refusal ≡ true → AsLine (known refusal o)
known_line refusal None h = h
known_line refusal (Some x) h = tt

pub if_line : {A : Type 0} (test : Bool) (r s : Read A) → AsLine r → AsLine s → AsLine (if test then r else s)
if_line true r s h k = h
if_line false r s h k = k

-- values
pub number_line : (low high column : ℕ) (text : List ℕ) → AsLine (number_from low high column text)
number_line low high column text =
    then_line (guarded (is_number text) (BadLine column) text) (λ digits. let n = digits_value 10 digits in guarded (nat_le low n && nat_le n high) OutOfRange n)
    (guarded_line (is_number text) (BadLine column) text refl)
    (λ digits. guarded_line (nat_le low (digits_value 10 digits) && nat_le (digits_value 10 digits) high) OutOfRange (digits_value 10 digits) refl)

pub path_line : (text : List ℕ) → AsLine (path_from text)
path_line text =
    then_line (guarded (has_path_form text) InvalidPath (path_parts text)) (λ parts. guarded (list_all is_name parts) InvalidName parts)
    (guarded_line (has_path_form text) InvalidPath (path_parts text) refl)
    (λ parts. guarded_line (list_all is_name parts) InvalidName parts refl)

pub limit_line : (column : ℕ) (text : List ℕ) → AsLine (limit_from column text)
limit_line column text =
    let in_limits : ℕ → Read ℕ = λ limit. guarded (is_limit limit) InvalidLimit limit in
    let unit : List ℕ → Read ℕ = λ digits. known (BadLine column) (unit_bytes (drop (length digits) text)) in
    then_line (guarded (nat_lt 0 (length (digits_of text))) (BadLine column) (digits_of text)) (λ digits. unit digits >>= λ bytes. in_limits (digits_value 10 digits * bytes))
    (guarded_line (nat_lt 0 (length (digits_of text))) (BadLine column) (digits_of text) refl)
    (λ digits. then_line (unit digits) (λ bytes. in_limits (digits_value 10 digits * bytes))
    (known_line (BadLine column) (unit_bytes (drop (length digits) text)) refl)
    (λ bytes. guarded_line (is_limit (digits_value 10 digits * bytes)) InvalidLimit (digits_value 10 digits * bytes) refl))

pub choice_line : (first second : List ℕ) (column : ℕ) (text : List ℕ) → AsLine (choice_from first second column text)
choice_line first second column text =
    if_line (str_eq_ignore_ascii_case first text) (Ok true) (if str_eq_ignore_ascii_case second text then Ok false else Err (BadLine column)) tt
    (if_line (str_eq_ignore_ascii_case second text) (Ok false) (Err (BadLine column)) tt refl)

-- the words after names
pub next_line : (end : ℕ) (given : List Word) → AsLine (next_word end given)
next_line end [] = refl
next_line end (word ∷ words) = tt

pub end_line : {X : Type 0} (given : List Word) (x : X) → AsLine (no_more given x)
end_line [] x = tt
end_line (word ∷ words) x = refl

pub number_word_line : (low high end : ℕ) (given : List Word) → AsLine (number_word low high end given)
number_word_line low high end given =
    then_line (next_word end given) (λ word. number_from low high word.0.column word.0.text >>= λ n. Ok (n, word.1)) (next_line end given)
    (λ word. then_line (number_from low high word.0.column word.0.text) (λ n. Ok (n, word.1)) (number_line low high word.0.column word.0.text) (λ n. tt))

pub path_word_line : (end : ℕ) (given : List Word) → AsLine (path_word end given)
path_word_line end given =
    then_line (next_word end given) (λ word. path_from word.0.text >>= λ path. Ok (path, word.1)) (next_line end given)
    (λ word. then_line (path_from word.0.text) (λ path. Ok (path, word.1)) (path_line word.0.text) (λ path. tt))

abbrev Path : Type 0
Path = List (List ℕ)

-- one path; a path and a number; one number
pub one_path_line : (deed : Path → Deed) (end : ℕ) (given : List Word) → AsLine (path_word end given >>= λ path. no_more path.1 (deed path.0))
one_path_line deed end given =
    then_line (path_word end given) (λ path. no_more path.1 (deed path.0)) (path_word_line end given) (λ path. end_line path.1 (deed path.0))

pub path_number_line : (low high : ℕ) (deed : Path → ℕ → Deed) (end : ℕ) (given : List Word) → AsLine (path_word end given >>= λ path. number_word low high end path.1 >>= λ n. no_more n.1 (deed path.0 n.0))
path_number_line low high deed end given =
    then_line (path_word end given) (λ path. number_word low high end path.1 >>= λ n. no_more n.1 (deed path.0 n.0)) (path_word_line end given)
    (λ path. then_line (number_word low high end path.1) (λ n. no_more n.1 (deed path.0 n.0)) (number_word_line low high end path.1) (λ n. end_line n.1 (deed path.0 n.0)))

pub one_number_line : (low high : ℕ) (deed : ℕ → Deed) (end : ℕ) (given : List Word) → AsLine (number_word low high end given >>= λ n. no_more n.1 (deed n.0))
one_number_line low high deed end given =
    then_line (number_word low high end given) (λ n. no_more n.1 (deed n.0)) (number_word_line low high end given) (λ n. end_line n.1 (deed n.0))
