-- The words of a line. A line is parted at the blanks that no quotes enclose. A word is a part that isn't
-- empty, without its quotes; so a word may be empty if it is quoted.
use Rattle.std.specs.Prelude.{ℕ, ◌+◌, ◌-◌, ◌%◌, ◌==◌, ◌&&◌, ◌||◌, not, Bool, false, List, [], ◌∷◌, length, filter, count_by, Ok, Err, if◌then◌else◌}
use Rattle.std.specs.List.{suffix_len, onto_first}
use Rattle.fsrm_model.specs.declared.command.Refusal.TheVariants.{BadLine}
use Rattle.fsrm_model.specs.lines.Reading.{Read}

-- a space or a tab
abbrev pub is_blank : ℕ → Bool
is_blank b = (b == 32) || (b == 9)

abbrev pub is_quote : ℕ → Bool
is_quote b = b == 34

-- a word, and the column of its first byte, a quote among them
pub record Word : Type 0 where
  pub column : ℕ
  pub text : List ℕ

-- the parts of a line whose beginning stands within quotes or not
abbrev pub parts_from : Bool → List ℕ → List (List ℕ)
parts_from quoted [] = [] ∷ []
parts_from quoted (b ∷ bs) =
    if is_blank b && not quoted then [] ∷ parts_from false bs
    else onto_first b (parts_from (if is_quote b then not quoted else quoted) bs)

-- a part's text
abbrev pub without_quotes : List ℕ → List ℕ
without_quotes part = filter (λ b. not (is_quote b)) part

-- the words of parts, of which the first stands at a column
abbrev pub words_at : ℕ → List (List ℕ) → List Word
words_at column [] = []
words_at column ([] ∷ parts) = words_at (column + 1) parts
words_at column ((b ∷ bs) ∷ parts) =
    record { column = column; text = without_quotes (b ∷ bs) } ∷ words_at (column + length (b ∷ bs) + 1) parts

-- whether each quote that begins is ended
abbrev pub is_closed : List ℕ → Bool
is_closed line = count_by is_quote line % 2 == 0

-- the column of the last quote
abbrev pub last_quote : List ℕ → ℕ
last_quote line = length line - suffix_len (λ b. not (is_quote b)) line

-- the words of a line. A quote that isn't ended is the last one, and it is judged before any word
abbrev pub words : List ℕ → Read (List Word)
words line = if is_closed line then Ok (words_at 1 (parts_from false line)) else Err (BadLine (last_quote line))
