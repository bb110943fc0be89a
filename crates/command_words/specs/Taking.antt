-- What taking words from the front of a line's words comes to.
use Rattle.std.specs.Prelude.{◌≡◌, ℕ, ◌+◌, false, List, [], ◌∷◌, length, take, Result, Ok, Err, Option, Some, None}
use Rattle.std.specs.Cow.{cow_str_bytes}
use Rattle.fsrm_model.specs.lines.Line.{next_word}
use Rattle.fsrm_model.specs.lines.Reading.{Read}
use Rattle.fsrm_model.specs.lines.Words.{Word as LineWord, words_at, parts_from}
use Rattle.command_words.specs.declared.fault.LineFault.{LineFault}
use Rattle.command_words.specs.declared.fault.LineFault.TheVariants.{NoMemory}
use Rattle.command_words.specs.declared.words.LentWord.{LentWord}
use Rattle.command_words.specs.declared.words.Word.{Word}
use Rattle.command_words.specs.declared.words.Words.{Words}
use Rattle.command_words.specs.LineFaults.{Reads}

-- the words that are left
unfoldable pub left : Words → List LineWord
left words = words_at words.column (parts_from false words.rest.now)

-- the column after the line's end
unfoldable pub end : Words → ℕ
end words = words.column + length words.rest.now

-- a word as lines have it
abbrev pub line_word : Word → LineWord
line_word word = record { column = word.column; text = cow_str_bytes word.text }

-- a word whose text is lent, as lines have it
abbrev pub lent_word : LentWord → LineWord
lent_word word = record { column = word.column; text = word.text.now }

-- the word of so many plain bytes that what is left begins with
abbrev pub plain_word : Words → ℕ → LineWord
plain_word words count = record { column = words.column; text = take count words.rest.now }

-- the column of the first word, if any
abbrev pub first_column : List LineWord → Option ℕ
first_column [] = None
first_column (word ∷ words) = Some word.column

-- the next word is taken if it has no quotes, and else none
abbrev pub TakesPlain : Option LentWord → Words → Words → Type 0
TakesPlain None old new = (left new ≡ left old) × (end new ≡ end old)
TakesPlain (Some word) old new = (left old ≡ lent_word word ∷ left new) × (end new ≡ end old)

-- the next word is taken, if any, unless memory runs out
abbrev pub TakesLeft : Result (Option Word) LineFault → Words → Words → Type 0
TakesLeft (Ok None) old new = (left old ≡ []) × (end new ≡ end old)
TakesLeft (Ok (Some word)) old new = (left old ≡ line_word word ∷ left new) × (end new ≡ end old)
TakesLeft (Err fault) old new = (fault ≡ NoMemory) × (end new ≡ end old)

-- the next word is taken
abbrev pub TakesWord : Result Word LineFault → Words → Words → Type 0
TakesWord (Ok word) old new = (next_word (end old) (left old) ≡ Ok (line_word word, left new)) × (end new ≡ end old)
TakesWord (Err fault) old new = Reads {X = LineWord × List LineWord} (Err fault) (next_word (end old) (left old))

-- a value is taken, as it is to be read from the words
abbrev pub Takes : {X : Type 0} → Result X LineFault → Words → Words → (ℕ → List LineWord → Read (X × List LineWord)) → Type 0
Takes (Ok x) old new read = (read (end old) (left old) ≡ Ok (x, left new)) × (end new ≡ end old)
Takes {X} (Err fault) old new read = Reads {X = X × List LineWord} (Err fault) (read (end old) (left old))
