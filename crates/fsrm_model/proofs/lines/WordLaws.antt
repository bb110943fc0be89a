-- A line has the words that it spells.
use Rattle.std.proofs.Common.{◌≡◌, ℕ, ◌+◌, ◌<◌, List, [], ◌∷◌, ◌++◌, Bool, true, false, length, refl, sym, ◌∙◌, ap, subst, inl, inr, arith, append_assoc, cond}
use Rattle.std.specs.Prelude.{Ok, Err, ◌==◌, ◌%◌, not, map, count_by, if◌then◌else◌}
use Rattle.std.specs.List.{list_all, list_any, onto_first}
use Rattle.std.proofs.lemmas.Bool.{and_parts, and_from, or_parts, eqb-true, true≢false, cases_Bool, and_right, or_from}
use Rattle.std.proofs.lemmas.List.{append-nil}
use Rattle.std.proofs.lemmas.List.Sums.{sum_by-cons}
use Rattle.fsrm_model.specs.meaning.Spelling.{Piece, Plain, Quoted, ArePieces, spelled_pieces, text_of_pieces, SpellsWord, EndsWord, SpellsWords}
use Rattle.fsrm_model.specs.lines.Words.{Word, is_blank, is_quote, parts_from, without_quotes, words_at, is_closed, last_quote, words}
use Rattle.fsrm_model.specs.declared.command.Refusal.TheVariants.{BadLine}
use Rattle.fsrm_model.proofs.lines.PathLaws.{in_front, in_front-empty}

-- the words' texts, which their columns don't change
abbrev pub texts : List Word → List (List ℕ)
texts words = map (λ (word : Word). word.text) words

abbrev pub texts_of : List (List ℕ) → List (List ℕ)
texts_of [] = []
texts_of ([] ∷ parts) = texts_of parts
texts_of ((b ∷ bs) ∷ parts) = without_quotes (b ∷ bs) ∷ texts_of parts

pub texts-words_at : (column : ℕ) (parts : List (List ℕ)) → texts (words_at column parts) ≡ texts_of parts
texts-words_at column [] = refl
texts-words_at column ([] ∷ parts) = texts-words_at (column + 1) parts
texts-words_at column ((b ∷ bs) ∷ parts) = ap (λ (ts : List (List ℕ)). without_quotes (b ∷ bs) ∷ ts) (texts-words_at (column + length (b ∷ bs) + 1) parts)

-- whether a line that begins within quotes, or doesn't, ends within them
abbrev is_open : Bool → List ℕ → Bool
is_open quoted [] = quoted
is_open quoted (b ∷ bs) = is_open (if is_quote b then not quoted else quoted) bs

abbrev begun : Bool → ℕ
begun quoted = cond quoted 1 0

-- which goes by how many quotes there are
abbrev GoesByCount : ℕ → List ℕ → Bool → Type 0
GoesByCount count line quoted = ((begun quoted + count) % 2 == 0) ≡ not (is_open quoted line)

zero_first : (n : ℕ) → 0 + n ≡ n
zero_first n = omega arith

one_more : (quote quoted : Bool) (count : ℕ) (line : List ℕ) → ((now : Bool) → GoesByCount count line now) → ((begun quoted + (cond quote 1 0 + count)) % 2 == 0) ≡ not (is_open (if quote then not quoted else quoted) line)
one_more true true count line each = ap (λ (n : ℕ). n == 0) (let e : (1 + (1 + count)) % 2 ≡ (0 + count) % 2 = omega arith in e) ∙ each false
one_more true false count line each = ap (λ (n : ℕ). n % 2 == 0) (zero_first (1 + count)) ∙ each true
one_more false true count line each = ap (λ (n : ℕ). (1 + n) % 2 == 0) (zero_first count) ∙ each true
one_more false false count line each = ap (λ (n : ℕ). (0 + n) % 2 == 0) (zero_first count) ∙ each false

open_by_count : (line : List ℕ) (quoted : Bool) → GoesByCount (count_by is_quote line) line quoted
open_by_count [] true = refl
open_by_count [] false = refl
open_by_count (b ∷ bs) quoted =
    ap (λ (n : ℕ). (begun quoted + n) % 2 == 0) (sum_by-cons (λ x. cond (is_quote x) 1 0) b bs)
    ∙ one_more (is_quote b) quoted (count_by is_quote bs) bs (open_by_count bs)

closed_by_end : (line : List ℕ) → is_closed line ≡ not (is_open false line)
closed_by_end line = ap (λ (n : ℕ). n % 2 == 0) (sym (zero_first (count_by is_quote line))) ∙ open_by_count line false

-- how the parts and the end go by the first byte
blank_parts : (b : ℕ) (bs : List ℕ) → is_blank b ≡ true → parts_from false (b ∷ bs) ≡ [] ∷ parts_from false bs
blank_parts b bs h = rw h refl

plain_parts : (b : ℕ) (bs : List ℕ) → is_blank b ≡ false → is_quote b ≡ false → parts_from false (b ∷ bs) ≡ onto_first b (parts_from false bs)
plain_parts b bs blank quote = rw (blank, quote) refl

quoted_parts : (b : ℕ) (bs : List ℕ) → is_quote b ≡ false → parts_from true (b ∷ bs) ≡ onto_first b (parts_from true bs)
quoted_parts b bs quote = rw (and_right (is_blank b) false refl, quote) refl

open_next : (quoted quote : Bool) (b : ℕ) (bs : List ℕ) → is_quote b ≡ quote → is_open quoted (b ∷ bs) ≡ is_open (if quote then not quoted else quoted) bs
open_next quoted quote b bs e = ap (λ (t : Bool). is_open (if t then not quoted else quoted) bs) e

blank_no_quote : (b : ℕ) → is_blank b ≡ true → is_quote b ≡ false
blank_no_quote b h = elim (cases_Bool (is_quote b)) [
  | inl is ↦ absurd (true≢false (sym (subst (λ (c : ℕ). is_blank c ≡ true) (eqb-true b 34 is) h)))
  | inr other ↦ other
]

-- blanks in front
blanks_texts : (blanks rest : List ℕ) → list_all is_blank blanks ≡ true → texts_of (parts_from false (blanks ++ rest)) ≡ texts_of (parts_from false rest)
blanks_texts [] rest h = refl
blanks_texts (b ∷ blanks) rest h =
    let tests = and_parts (is_blank b) (list_all is_blank blanks) h in
    ap texts_of (blank_parts b (blanks ++ rest) tests.0) ∙ blanks_texts blanks rest tests.1

blanks_open : (blanks rest : List ℕ) → list_all is_blank blanks ≡ true → is_open false (blanks ++ rest) ≡ is_open false rest
blanks_open [] rest h = refl
blanks_open (b ∷ blanks) rest h =
    let tests = and_parts (is_blank b) (list_all is_blank blanks) h in
    open_next false false b (blanks ++ rest) (blank_no_quote b tests.0) ∙ blanks_open blanks rest tests.1

-- bytes within quotes in front
quoted_front : (bytes rest : List ℕ) → list_any is_quote bytes ≡ false → parts_from true (bytes ++ rest) ≡ in_front bytes (parts_from true rest)
quoted_front [] rest h = refl
quoted_front (b ∷ bytes) rest h =
    let tests = or_parts (is_quote b) (list_any is_quote bytes) h in
    quoted_parts b (bytes ++ rest) tests.0 ∙ ap (onto_first b) (quoted_front bytes rest tests.1)

quoted_open : (bytes rest : List ℕ) → list_any is_quote bytes ≡ false → is_open true (bytes ++ rest) ≡ is_open true rest
quoted_open [] rest h = refl
quoted_open (b ∷ bytes) rest h =
    let tests = or_parts (is_quote b) (list_any is_quote bytes) h in
    open_next true false b (bytes ++ rest) tests.0 ∙ quoted_open bytes rest tests.1

quoted_text : (bytes rest : List ℕ) → list_any is_quote bytes ≡ false → without_quotes (bytes ++ rest) ≡ bytes ++ without_quotes rest
quoted_text [] rest h = refl
quoted_text (b ∷ bytes) rest h =
    let tests = or_parts (is_quote b) (list_any is_quote bytes) h in
    rw tests.0 (ap (λ (bs : List ℕ). b ∷ bs) (quoted_text bytes rest tests.1))

in_front-append : (front more : List ℕ) (parts : List (List ℕ)) → in_front (front ++ more) parts ≡ in_front front (in_front more parts)
in_front-append [] more parts = refl
in_front-append (b ∷ front) more parts = ap (onto_first b) (in_front-append front more parts)

-- pieces in front
pieces_parts : (pieces : List Piece) (rest : List ℕ) → ArePieces pieces → parts_from false (spelled_pieces pieces ++ rest) ≡ in_front (spelled_pieces pieces) (parts_from false rest)
pieces_parts [] rest each = refl
pieces_parts (Plain byte ∷ pieces) rest each = plain_parts byte (spelled_pieces pieces ++ rest) each.0.0 each.0.1 ∙ ap (onto_first byte) (pieces_parts pieces rest each.1)
pieces_parts (Quoted bytes ∷ pieces) rest each =
    let more = spelled_pieces pieces in
    ap (λ (bs : List ℕ). onto_first 34 (parts_from true bs)) (append_assoc bytes (34 ∷ more) rest)
    ∙ ap (onto_first 34) (quoted_front bytes (34 ∷ (more ++ rest)) each.0)
    ∙ ap (λ (ps : List (List ℕ)). onto_first 34 (in_front bytes (onto_first 34 ps))) (pieces_parts pieces rest each.1)
    ∙ ap (onto_first 34) (sym (in_front-append bytes (34 ∷ more) (parts_from false rest)))

pieces_open : (pieces : List Piece) (rest : List ℕ) → ArePieces pieces → is_open false (spelled_pieces pieces ++ rest) ≡ is_open false rest
pieces_open [] rest each = refl
pieces_open (Plain byte ∷ pieces) rest each = open_next false false byte (spelled_pieces pieces ++ rest) each.0.1 ∙ pieces_open pieces rest each.1
pieces_open (Quoted bytes ∷ pieces) rest each =
    let more = spelled_pieces pieces in
    ap (is_open true) (append_assoc bytes (34 ∷ more) rest)
    ∙ quoted_open bytes (34 ∷ (more ++ rest)) each.0
    ∙ pieces_open pieces rest each.1

pieces_text : (pieces : List Piece) → ArePieces pieces → without_quotes (spelled_pieces pieces) ≡ text_of_pieces pieces
pieces_text [] each = refl
pieces_text (Plain byte ∷ pieces) each = rw each.0.1 (ap (λ (bs : List ℕ). byte ∷ bs) (pieces_text pieces each.1))
pieces_text (Quoted bytes ∷ pieces) each =
    quoted_text bytes (34 ∷ spelled_pieces pieces) each.0 ∙ ap (λ (bs : List ℕ). bytes ++ bs) (pieces_text pieces each.1)

-- a word in front, which has a byte
first_byte : (pieces : List Piece) → 0 < length pieces → (b : ℕ) × (bs : List ℕ) × (spelled_pieces pieces ≡ b ∷ bs)
first_byte [] some = absurd (omega (arith, some))
first_byte (Plain byte ∷ pieces) some = (byte, spelled_pieces pieces, refl)
first_byte (Quoted bytes ∷ pieces) some = (34, bytes ++ 34 ∷ spelled_pieces pieces, refl)

word_texts : (b : ℕ) (bs rest : List ℕ) → EndsWord rest → texts_of (in_front (b ∷ bs) (parts_from false rest)) ≡ without_quotes (b ∷ bs) ∷ texts_of (parts_from false rest)
word_texts b bs [] ends = ap texts_of (in_front-empty (b ∷ bs) [])
word_texts b bs (c ∷ cs) ends =
    ap (λ (ps : List (List ℕ)). texts_of (in_front (b ∷ bs) ps)) (blank_parts c cs ends)
    ∙ ap texts_of (in_front-empty (b ∷ bs) (parts_from false cs))
    ∙ ap (λ (ps : List (List ℕ)). without_quotes (b ∷ bs) ∷ texts_of ps) (sym (blank_parts c cs ends))

spelled_texts : (spelling text rest : List ℕ) → SpellsWord spelling text → EndsWord rest → texts_of (parts_from false (spelling ++ rest)) ≡ text ∷ texts_of (parts_from false rest)
spelled_texts spelling text rest w ends =
    let first = first_byte w.pieces w.some in
    let more = texts_of (parts_from false rest) in
    ap (λ (bs : List ℕ). texts_of (parts_from false (bs ++ rest))) w.spelling_is
    ∙ ap texts_of (pieces_parts w.pieces rest w.each)
    ∙ ap (λ (bs : List ℕ). texts_of (in_front bs (parts_from false rest))) first.2
    ∙ word_texts first.0 first.1 rest ends
    ∙ ap (λ (bs : List ℕ). without_quotes bs ∷ more) (sym first.2)
    ∙ ap (λ (bs : List ℕ). bs ∷ more) (pieces_text w.pieces w.each ∙ sym w.text_is)

-- the words that a line spells are those it is parted into
spelled_words : (ts : List (List ℕ)) (line : List ℕ) → SpellsWords line ts → (is_open false line ≡ false) × (texts_of (parts_from false line) ≡ ts)
spelled_words [] line s =
    let whole : line ≡ line ++ [] = sym (append-nil line) in
    (ap (is_open false) whole ∙ blanks_open line [] s, ap (λ (bs : List ℕ). texts_of (parts_from false bs)) whole ∙ blanks_texts line [] s)
spelled_words (text ∷ ts) line s =
    let blanks = s.0 in
    let spelling = s.1 in
    let rest = s.2 in
    let w = s.5 in
    let after = spelled_words ts rest s.7 in
    let open_there : is_open false (spelling ++ rest) ≡ false = ap (λ (bs : List ℕ). is_open false (bs ++ rest)) w.spelling_is ∙ pieces_open w.pieces rest w.each ∙ after.0 in (
      ap (is_open false) s.3 ∙ blanks_open blanks (spelling ++ rest) s.4 ∙ open_there,
      ap (λ (bs : List ℕ). texts_of (parts_from false bs)) s.3 ∙ blanks_texts blanks (spelling ++ rest) s.4 ∙ spelled_texts spelling text rest w s.6 ∙ ap (λ (more : List (List ℕ)). text ∷ more) after.1,
    )

-- a line's first word, which may be empty, and what stands after it
record WordThen (line : List ℕ) : Type 0 where
  pieces : List Piece
  each : ArePieces pieces
  rest : List ℕ
  parts : List (List ℕ)
  line_is : line ≡ spelled_pieces pieces ++ rest
  ends : EndsWord rest
  parts_are : parts_from false line ≡ spelled_pieces pieces ∷ parts
  words : SpellsWords rest (texts_of parts)

-- the same of a line that begins within quotes
record QuotedThen (line : List ℕ) : Type 0 where
  bytes : List ℕ
  none : list_any is_quote bytes ≡ false
  pieces : List Piece
  each : ArePieces pieces
  rest : List ℕ
  parts : List (List ℕ)
  line_is : line ≡ bytes ++ 34 ∷ (spelled_pieces pieces ++ rest)
  ends : EndsWord rest
  parts_are : parts_from true line ≡ (bytes ++ 34 ∷ spelled_pieces pieces) ∷ parts
  words : SpellsWords rest (texts_of parts)

abbrev ReadThen : List ℕ → Bool → Type 0
ReadThen line true = QuotedThen line
ReadThen line false = WordThen line

-- a line spells the words that it is parted into
words_of : (line : List ℕ) → WordThen line → SpellsWords line (texts_of (parts_from false line))
words_of line r = by r.pieces r.each r.line_is r.parts_are
  where
    by : (pieces : List Piece) → ArePieces pieces → line ≡ spelled_pieces pieces ++ r.rest → parts_from false line ≡ spelled_pieces pieces ∷ r.parts → SpellsWords line (texts_of (parts_from false line))
    by [] each line_is parts_are = subst (λ (bs : List ℕ). SpellsWords bs (texts_of (parts_from false line))) (sym line_is) (subst (SpellsWords r.rest) (sym (ap texts_of parts_are)) r.words)
    by (piece ∷ pieces) each line_is parts_are =
        let word : SpellsWord (spelled_pieces (piece ∷ pieces)) (text_of_pieces (piece ∷ pieces)) = record { pieces = piece ∷ pieces; each = each; some = omega arith; spelling_is = refl; text_is = refl } in
        let first = first_byte (piece ∷ pieces) word.some in
        let more = texts_of r.parts in
        let texts_are : texts_of (parts_from false line) ≡ text_of_pieces (piece ∷ pieces) ∷ more =
        ap texts_of parts_are
        ∙ ap (λ (bs : List ℕ). texts_of (bs ∷ r.parts)) first.2
        ∙ ap (λ (bs : List ℕ). without_quotes bs ∷ more) (sym first.2)
        ∙ ap (λ (bs : List ℕ). bs ∷ more) (pieces_text (piece ∷ pieces) each) in
        subst (SpellsWords line) (sym texts_are) ([], spelled_pieces (piece ∷ pieces), r.rest, line_is, refl, word, r.ends, r.words)

-- one more blank in front
blank_words : (b : ℕ) (line : List ℕ) (ts : List (List ℕ)) → is_blank b ≡ true → SpellsWords line ts → SpellsWords (b ∷ line) ts
blank_words b line [] blank s = and_from (is_blank b) (list_all is_blank line) blank s
blank_words b line (text ∷ ts) blank s =
    (b ∷ s.0, s.1, s.2, ap (λ (bs : List ℕ). b ∷ bs) s.3, and_from (is_blank b) (list_all is_blank s.0) blank s.4, s.5, s.6, s.7)

-- one more byte in front, by what it is
then_blank : (b : ℕ) (bs : List ℕ) → is_blank b ≡ true → WordThen bs → WordThen (b ∷ bs)
then_blank b bs blank r = record {
  pieces = [];
  each = tt;
  rest = b ∷ bs;
  parts = parts_from false bs;
  line_is = refl;
  ends = blank;
  parts_are = blank_parts b bs blank;
  words = blank_words b bs (texts_of (parts_from false bs)) blank (words_of bs r);
}

then_plain : (b : ℕ) (bs : List ℕ) → is_blank b ≡ false → is_quote b ≡ false → WordThen bs → WordThen (b ∷ bs)
then_plain b bs blank quote r = record {
  pieces = Plain b ∷ r.pieces;
  each = ((blank, quote), r.each);
  rest = r.rest;
  parts = r.parts;
  line_is = ap (λ (more : List ℕ). b ∷ more) r.line_is;
  ends = r.ends;
  parts_are = plain_parts b bs blank quote ∙ ap (onto_first b) r.parts_are;
  words = r.words;
}

then_quoted : (bs : List ℕ) → QuotedThen bs → WordThen (34 ∷ bs)
then_quoted bs r = record {
  pieces = Quoted r.bytes ∷ r.pieces;
  each = (r.none, r.each);
  rest = r.rest;
  parts = r.parts;
  line_is = ap (λ (more : List ℕ). 34 ∷ more) (r.line_is ∙ sym (append_assoc r.bytes (34 ∷ spelled_pieces r.pieces) r.rest));
  ends = r.ends;
  parts_are = ap (onto_first 34) r.parts_are;
  words = r.words;
}

quotes_end : (bs : List ℕ) → WordThen bs → QuotedThen (34 ∷ bs)
quotes_end bs r = record {
  bytes = [];
  none = refl;
  pieces = r.pieces;
  each = r.each;
  rest = r.rest;
  parts = r.parts;
  line_is = ap (λ (more : List ℕ). 34 ∷ more) r.line_is;
  ends = r.ends;
  parts_are = ap (onto_first 34) r.parts_are;
  words = r.words;
}

still_quoted : (b : ℕ) (bs : List ℕ) → is_quote b ≡ false → QuotedThen bs → QuotedThen (b ∷ bs)
still_quoted b bs quote r = record {
  bytes = b ∷ r.bytes;
  none = or_from (is_quote b) (list_any is_quote r.bytes) quote r.none;
  pieces = r.pieces;
  each = r.each;
  rest = r.rest;
  parts = r.parts;
  line_is = ap (λ (more : List ℕ). b ∷ more) r.line_is;
  ends = r.ends;
  parts_are = quoted_parts b bs quote ∙ ap (onto_first b) r.parts_are;
  words = r.words;
}

then_byte : (quoted quote blank : Bool) (b : ℕ) (bs : List ℕ) → is_quote b ≡ quote → is_blank b ≡ blank → is_open quoted (b ∷ bs) ≡ false → ((now : Bool) → is_open now bs ≡ false → ReadThen bs now) → ReadThen (b ∷ bs) quoted
then_byte true true blank b bs q s h next =
    subst (λ (c : ℕ). QuotedThen (c ∷ bs)) (sym (eqb-true b 34 q)) (quotes_end bs (next false (sym (open_next true true b bs q) ∙ h)))
then_byte true false blank b bs q s h next = still_quoted b bs q (next true (sym (open_next true false b bs q) ∙ h))
then_byte false true blank b bs q s h next =
    subst (λ (c : ℕ). WordThen (c ∷ bs)) (sym (eqb-true b 34 q)) (then_quoted bs (next true (sym (open_next false true b bs q) ∙ h)))
then_byte false false true b bs q s h next = then_blank b bs s (next false (sym (open_next false false b bs q) ∙ h))
then_byte false false false b bs q s h next = then_plain b bs s q (next false (sym (open_next false false b bs q) ∙ h))

read_then : (line : List ℕ) (quoted : Bool) → is_open quoted line ≡ false → ReadThen line quoted
read_then [] true h = absurd (true≢false h)
read_then [] false h = record { pieces = []; each = tt; rest = []; parts = []; line_is = refl; ends = tt; parts_are = refl; words = refl }
read_then (b ∷ bs) quoted h = then_byte quoted (is_quote b) (is_blank b) b bs refl refl h (read_then bs)

-- the words of a line, and what it spells
pub words_read : (line : List ℕ) (given : List Word) → words line ≡ Ok given → SpellsWords line (texts given)
words_read line given h =
    let made = closed_or (is_closed line) (words_at 1 (parts_from false line)) (last_quote line) given h in
    let ended : is_open false line ≡ false = not_true_is (is_open false line) (sym (closed_by_end line) ∙ made.0) in
    let texts_are : texts given ≡ texts_of (parts_from false line) = ap texts (sym made.1) ∙ texts-words_at 1 (parts_from false line) in
    subst (SpellsWords line) (sym texts_are) (words_of line (read_then line false ended))
  where
    closed_or : (closed : Bool) (found : List Word) (column : ℕ) (given : List Word) → (if closed then Ok found else Err (BadLine column)) ≡ Ok given → (closed ≡ true) × (found ≡ given)
    closed_or true found column given e = (refl, cc e)
    closed_or false found column given e = absurd (cc e)

    not_true_is : (b : Bool) → not b ≡ true → b ≡ false
    not_true_is true e = sym e
    not_true_is false e = refl

pub words_spelled : (line : List ℕ) (ts : List (List ℕ)) → SpellsWords line ts → (given : List Word) × (words line ≡ Ok given) × (texts given ≡ ts)
words_spelled line ts s =
    let found = spelled_words ts line s in
    let closed : is_closed line ≡ true = closed_by_end line ∙ ap not found.0 in
    (words_at 1 (parts_from false line), rw closed refl, texts-words_at 1 (parts_from false line) ∙ found.1)
