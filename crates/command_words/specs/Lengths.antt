-- How far the word reaches that a text begins with.
use Rattle.std.specs.Prelude.{◌≡◌, ℕ, ◌+◌, ◌<◌, ◌==◌, suc, ◌&&◌, ◌||◌, not, Bool, true, List, [], ◌∷◌, length, slice_index, min, if◌then◌else◌}
use Rattle.std.specs.List.{prefix_len}
use Rattle.fsrm_model.specs.lines.Words.{is_blank, is_quote}

-- a byte that neither parts words nor quotes
abbrev pub is_plain : ℕ → Bool
is_plain b = not (is_blank b || is_quote b)

-- a text begins with a word of so many bytes, none of which is a quote
pub record IsPlainWord (text : List ℕ) (count : ℕ) : Type 0 where
  pub some : 0 < count
  pub plain : count ≡ prefix_len is_plain text
  pub ended : (count == length text || is_blank (slice_index text count)) ≡ true

-- how many bytes stand before the first blank that no quotes enclose, in a text whose beginning stands
-- within quotes or not
abbrev pub word_length : Bool → List ℕ → ℕ
word_length quoted [] = 0
word_length quoted (b ∷ bs) =
    if is_blank b && not quoted then 0
    else suc (word_length (if is_quote b then not quoted else quoted) bs)

-- how many bytes a text has up to its first quote and with it, or in all if it has none
abbrev pub quoted_length : List ℕ → ℕ
quoted_length text = min (prefix_len (λ b. not (is_quote b)) text + 1) (length text)
