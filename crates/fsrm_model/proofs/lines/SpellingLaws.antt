-- A line is read as the command that it spells, and skipped if it spells none.
use Rattle.std.proofs.Common.{◌≡◌, ℕ, List, [], ◌∷◌, ◌++◌, Bool, true, false, length, refl, sym, ◌∙◌, ap, subst, inl, inr}
use Rattle.std.specs.Prelude.{Option, Some, None, Ok, Err, ◌+◌, ◌⊎◌, ◌==◌, ◌&&◌, not, nat_lt, nat_le, if◌then◌else◌}
use Rattle.std.specs.Char.{is_ascii_digit}
use Rattle.std.specs.List.{list_all}
use Rattle.std.specs.Str.{is_utf8}
use Rattle.std.specs.Str.Lossy.{utf8_valid_len}
use Rattle.std.proofs.lemmas.Bool.{and_parts, and_from, or_cases, eqb-true, true≢false, cases_Bool, le-ltb, ltb-false}
use Rattle.fsrm_model.specs.declared.command.Command.{Command}
use Rattle.fsrm_model.specs.declared.command.Refusal.{Refusal}
use Rattle.fsrm_model.specs.declared.command.Refusal.TheVariants.{BadLine, LineTooLong}
use Rattle.fsrm_model.specs.values.Limits.{longest_line}
use Rattle.fsrm_model.specs.lines.Line.{command_of, is_skipped, read_words, read_line}
use Rattle.fsrm_model.specs.lines.Reading.{Read, is_number}
use Rattle.fsrm_model.specs.meaning.Spelling.{Piece, Plain, Quoted, ArePieces, spelled_pieces, text_of_pieces, SpellsWords, IsLine, Spells, Skips}
use Rattle.fsrm_model.specs.lines.Words.{is_blank, words}
use Rattle.fsrm_model.proofs.lines.ReadLaws.{then_ok, both_ok}
use Rattle.fsrm_model.proofs.lines.WordLaws.{texts, words_read, words_spelled}
use Rattle.fsrm_model.proofs.lines.CommandLaws.{SpellsCommand, command_spells, command_reads}

-- what a test chose
not_refused : (test : Bool) (refusal : Refusal) (r : Option (Read Command)) (c : Command) → (if test then Some (Err refusal) else r) ≡ Some (Ok c) → (test ≡ false) × (r ≡ Some (Ok c))
not_refused true refusal r c h = absurd (cc h)
not_refused false refusal r c h = (refl, h)

refused_none : (test : Bool) (refusal : Refusal) (r : Option (Read Command)) → (if test then Some (Err refusal) else r) ≡ None → (test ≡ false) × (r ≡ None)
refused_none true refusal r h = absurd (cc h)
refused_none false refusal r h = (refl, h)

not_skipped : (test : Bool) (r : Read Command) (c : Command) → (if test then None else Some r) ≡ Some (Ok c) → (test ≡ false) × (r ≡ Ok c)
not_skipped true r c h = absurd (cc h)
not_skipped false r c h = (refl, cc h)

was_skipped : (test : Bool) (r : Read Command) → (if test then None else Some r) ≡ None → test ≡ true
was_skipped true r h = refl
was_skipped false r h = absurd (cc h)

not_false : (test : Bool) → not test ≡ false → test ≡ true
not_false true h = refl
not_false false h = sym h

-- a line's length and bytes
line_from : (line : List ℕ) → nat_lt longest_line (length line) ≡ false → not (is_utf8 line) ≡ false → IsLine line
line_from line long bytes = record { short = ltb-false longest_line (length line) long; utf8 = not_false (is_utf8 line) bytes }

abbrev looked_at : List ℕ → Option (Read Command)
looked_at line = if is_skipped line then None else Some (read_words line)

line_read : (line : List ℕ) → IsLine line → read_line line ≡ looked_at line
unfolding read_line
line_read line l = rw (le-ltb longest_line (length line) l.short, l.utf8) refl

-- what stands after blanks tells whether a line is skipped
blank_no_comment : (b : ℕ) → is_blank b ≡ true → (b == 35) ≡ false
blank_no_comment b h = elim (cases_Bool (b == 35)) [
  | inl is ↦ absurd (true≢false (sym (subst (λ (c : ℕ). is_blank c ≡ true) (eqb-true b 35 is) h)))
  | inr other ↦ other
]

skipped_after : (blanks rest : List ℕ) → list_all is_blank blanks ≡ true → is_skipped (blanks ++ rest) ≡ is_skipped rest
skipped_after [] rest h = refl
skipped_after (b ∷ blanks) rest h =
    let tests = and_parts (is_blank b) (list_all is_blank blanks) h in
    rw (blank_no_comment b tests.0, tests.0) (skipped_after blanks rest tests.1)

-- a line that is skipped: blanks, and a comment or nothing
record SkippedLine (line : List ℕ) : Type 0 where
  blanks : List ℕ
  rest : List ℕ
  line_is : line ≡ blanks ++ rest
  are_blanks : list_all is_blank blanks ≡ true
  none : (rest ≡ []) ⊎ ((comment : List ℕ) × (rest ≡ 35 ∷ comment))

skipped_line : (line : List ℕ) → is_skipped line ≡ true → SkippedLine line
skipped_line [] h = record { blanks = []; rest = []; line_is = refl; are_blanks = refl; none = inl refl }
skipped_line (b ∷ bs) h = elim (or_cases (b == 35) (is_blank b && is_skipped bs) h) [
  | inl is ↦ record { blanks = []; rest = b ∷ bs; line_is = refl; are_blanks = refl; none = inr (bs, ap (λ (c : ℕ). c ∷ bs) (eqb-true b 35 is)) }
  | inr more ↦
      let tests = and_parts (is_blank b) (is_skipped bs) more in
      let s = skipped_line bs tests.1 in
      record {
        blanks = b ∷ s.blanks;
        rest = s.rest;
        line_is = ap (λ (cs : List ℕ). b ∷ cs) s.line_is;
        are_blanks = and_from (is_blank b) (list_all is_blank s.blanks) tests.0 s.are_blanks;
        none = s.none;
      }
]

-- nothing, or a comment, is skipped
none_skipped : (rest : List ℕ) → (rest ≡ []) ⊎ ((comment : List ℕ) × (rest ≡ 35 ∷ comment)) → is_skipped rest ≡ true
none_skipped rest (inl e) = ap is_skipped e
none_skipped rest (inr e) = ap is_skipped e.1

pub read_skips : (line : List ℕ) → read_line line ≡ None → Skips line
unfolding read_line
read_skips line h =
    let bytes = if not (is_utf8 line) then Some (Err (BadLine (utf8_valid_len line + 1))) else looked_at line in
    let long = refused_none (nat_lt longest_line (length line)) LineTooLong bytes h in
    let utf8 = refused_none (not (is_utf8 line)) (BadLine (utf8_valid_len line + 1)) (looked_at line) long.1 in
    let s = skipped_line line (was_skipped (is_skipped line) (read_words line) utf8.1) in
    record { is_line = line_from line long.0 utf8.0; blanks = s.blanks; rest = s.rest; line_is = s.line_is; are_blanks = s.are_blanks; none = s.none }

pub skips_read : (line : List ℕ) → Skips line → read_line line ≡ None
skips_read line s =
    let skipped : is_skipped line ≡ true = ap is_skipped s.line_is ∙ skipped_after s.blanks s.rest s.are_blanks ∙ none_skipped s.rest s.none in
    line_read line s.is_line ∙ ap (λ (test : Bool). if test then None else Some (read_words line)) skipped

-- a number is no comment
digit_no_comment : (b : ℕ) → is_ascii_digit b ≡ true → (b == 35) ≡ false
digit_no_comment b h = elim (cases_Bool (b == 35)) [
  | inl is ↦ absurd (true≢false (sym (subst (λ (c : ℕ). is_ascii_digit c ≡ true) (eqb-true b 35 is) h)))
  | inr other ↦ other
]

number_digits : (text : List ℕ) → is_number text ≡ true → list_all is_ascii_digit text ≡ true
number_digits text h = (and_parts (nat_lt 0 (length text) && nat_le (length text) 20) (list_all is_ascii_digit text) h).1

pieces_no_comment : (pieces : List Piece) (rest : List ℕ) → ArePieces pieces → is_number (text_of_pieces pieces) ≡ true → is_skipped (spelled_pieces pieces ++ rest) ≡ false
pieces_no_comment [] rest each h = absurd (true≢false (sym h))
pieces_no_comment (Plain byte ∷ pieces) rest each h =
    let digits = number_digits (byte ∷ text_of_pieces pieces) h in
    let first = and_parts (is_ascii_digit byte) (list_all is_ascii_digit (text_of_pieces pieces)) digits in
    rw (digit_no_comment byte first.0, each.0.0) refl
pieces_no_comment (Quoted bytes ∷ pieces) rest each h = refl

spelled_no_comment : (line moment : List ℕ) (words : List (List ℕ)) → SpellsWords line (moment ∷ words) → is_number moment ≡ true → is_skipped line ≡ false
spelled_no_comment line moment words s number =
    let w = s.5 in
    let text : is_number (text_of_pieces w.pieces) ≡ true = ap is_number (sym w.text_is) ∙ number in
    ap is_skipped s.3
    ∙ skipped_after s.0 (s.1 ++ s.2) s.4
    ∙ ap (λ (bs : List ℕ). is_skipped (bs ++ s.2)) w.spelling_is
    ∙ pieces_no_comment w.pieces s.2 w.each text

-- a line that is read as a command spells it
pub read_spells : (line : List ℕ) (c : Command) → read_line line ≡ Some (Ok c) → Spells line c
unfolding read_line
read_spells line c h =
    let bytes = if not (is_utf8 line) then Some (Err (BadLine (utf8_valid_len line + 1))) else looked_at line in
    let long = not_refused (nat_lt longest_line (length line)) LineTooLong bytes c h in
    let utf8 = not_refused (not (is_utf8 line)) (BadLine (utf8_valid_len line + 1)) (looked_at line) c long.1 in
    let made = not_skipped (is_skipped line) (read_words line) c utf8.1 in
    let given = both_ok (words line) (λ given. command_of (length line + 1) given) c made.1 in
    let s = command_spells (length line + 1) given.0 c given.2 in
    record {
      is_line = line_from line long.0 utf8.0;
      moment = s.moment;
      words = s.words;
      words_are = subst (SpellsWords line) s.words_are (words_read line given.0 given.1);
      moment_is = s.moment_is;
      deed_is = s.deed_is;
    }

-- and a line that spells a command is read as it
pub spelled_reads : (line : List ℕ) (c : Command) → Spells line c → read_line line ≡ Some (Ok c)
spelled_reads line c s =
    let given = words_spelled line (s.moment ∷ s.words) s.words_are in
    let command : SpellsCommand (texts given.0) c = record { moment = s.moment; words = s.words; words_are = given.2; moment_is = s.moment_is; deed_is = s.deed_is } in
    let skipped : is_skipped line ≡ false = spelled_no_comment line s.moment s.words s.words_are s.moment_is.form in
    let read : read_words line ≡ Ok c = then_ok (words line) given.0 (λ given. command_of (length line + 1) given) given.1 ∙ command_reads (length line + 1) given.0 c command in
    line_read line s.is_line
    ∙ ap (λ (test : Bool). if test then None else Some (read_words line)) skipped
    ∙ ap (λ (r : Read Command). Some r) read
