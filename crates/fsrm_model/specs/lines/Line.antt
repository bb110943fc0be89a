-- The lines of a script: which are skipped, which spell a command, and the refusal of each other.
use Rattle.std.specs.Prelude.{ℕ, ◌+◌, ◌==◌, ◌&&◌, ◌||◌, not, Bool, true, false, nat_lt, List, [], ◌∷◌, ◌++◌, map, length, codes, Ok, Err, Option, Some, None, if◌then◌else◌}
use Rattle.std.specs.Str.{is_utf8}
use Rattle.std.specs.Str.Lossy.{utf8_valid_len}
use Rattle.fsrm_model.specs.declared.command.Command.{Command}
use Rattle.fsrm_model.specs.declared.command.Deed.{Deed}
use Rattle.fsrm_model.specs.declared.command.Deed.TheVariants.{File, Usage, Step}
use Rattle.fsrm_model.specs.declared.command.FileOp.TheVariants.{Mkdir, Create, Resize, Touch, Move, Remove}
use Rattle.fsrm_model.specs.declared.command.Refusal.{Refusal}
use Rattle.fsrm_model.specs.declared.command.Refusal.TheVariants.{BadLine, LineTooLong, InvalidPath, InvalidName, OutOfRange, InvalidLimit}
use Rattle.fsrm_model.specs.values.Limits.{latest_moment, longest_line, longest_file, last_owner, most_visits}
use Rattle.fsrm_model.specs.lines.Reading.{Read, ◌>>=◌, known, number_from, path_from}
use Rattle.fsrm_model.specs.lines.Words.{Word, words, is_blank}
use Rattle.fsrm_model.specs.lines.Options.{options}
use Rattle.fsrm_model.specs.lines.Tools.{Names, named, ToolCommand, tools}

-- the next word and those after it. One that is missing is refused at the column after the line's end
abbrev pub next_word : ℕ → List Word → Read (Word × List Word)
next_word end [] = Err (BadLine end)
next_word end (word ∷ words) = Ok (word, words)

-- x, if no word is left
abbrev pub no_more : {X : Type 0} → List Word → X → Read X
no_more [] x = Ok x
no_more (word ∷ words) x = Err (BadLine word.column)

-- the next word's value, and the words after it
abbrev pub number_word : ℕ → ℕ → ℕ → List Word → Read (ℕ × List Word)
number_word low high end given = do
  word ← next_word end given
  n ← number_from low high word.0.column word.0.text
  Ok (n, word.1)

abbrev pub path_word : ℕ → List Word → Read (List (List ℕ) × List Word)
path_word end given = do
  word ← next_word end given
  path ← path_from word.0.text
  Ok (path, word.1)

abbrev pub owner_word : ℕ → List Word → Read (ℕ × List Word)
owner_word end given = number_word 1 last_owner end given

abbrev pub length_word : ℕ → List Word → Read (ℕ × List Word)
length_word end given = number_word 0 longest_file end given

-- the words after each command's name
abbrev pub mkdir_words : ℕ → List Word → Read Deed
mkdir_words end given = do
  path ← path_word end given
  owner ← owner_word end path.1
  no_more owner.1 (File (Mkdir path.0 owner.0))

abbrev pub create_words : ℕ → List Word → Read Deed
create_words end given = do
  path ← path_word end given
  size ← length_word end path.1
  owner ← owner_word end size.1
  no_more owner.1 (File (Create path.0 size.0 owner.0))

abbrev pub resize_words : ℕ → List Word → Read Deed
resize_words end given = do
  path ← path_word end given
  size ← length_word end path.1
  no_more size.1 (File (Resize path.0 size.0))

abbrev pub touch_words : ℕ → List Word → Read Deed
touch_words end given = do
  path ← path_word end given
  no_more path.1 (File (Touch path.0))

abbrev pub move_words : ℕ → List Word → Read Deed
move_words end given = do
  from ← path_word end given
  to ← path_word end from.1
  no_more to.1 (File (Move from.0 to.0))

abbrev pub remove_words : ℕ → List Word → Read Deed
remove_words end given = do
  path ← path_word end given
  no_more path.1 (File (Remove path.0))

abbrev pub usage_words : ℕ → List Word → Read Deed
usage_words end given = do
  path ← path_word end given
  no_more path.1 (Usage path.0)

abbrev pub step_words : ℕ → List Word → Read Deed
step_words end given = do
  visits ← number_word 1 most_visits end given
  no_more visits.1 (Step visits.0)

-- what reads the words after a name
abbrev pub Reader : Type 0
Reader = ℕ → List Word → Read Deed

-- what the next word's name stands for goes on with the words after it
abbrev pub named_word : {X : Type 0} → Names X → ℕ → List Word → (X → List Word → Read Deed) → Read Deed
named_word names end given next = do
  name ← next_word end given
  own ← known (BadLine name.0.column) (named names name.0.text)
  next own name.1

-- the options after the names of a tool's command. One that is missing is refused at the column after the line's end
abbrev pub option_words : ToolCommand → Reader
option_words command end words = do
  given ← options command.keys words []
  known (BadLine end) (command.deed given)

-- what a tool manages, what is to be done with it, and options
abbrev pub tool_words : Names (Names ToolCommand) → Reader
tool_words objects end given =
    named_word objects end given (λ commands words. named_word commands end words (λ command words. option_words command end words))

-- the commands whose words have their places
abbrev pub placed : Names Reader
placed =
    (codes "mkdir", mkdir_words) ∷ (codes "create", create_words) ∷ (codes "resize", resize_words) ∷ (codes "touch", touch_words)
    ∷ (codes "move", move_words) ∷ (codes "remove", remove_words) ∷ (codes "usage", usage_words) ∷ (codes "step", step_words) ∷ []

abbrev pub tool_reader : List ℕ × Names (Names ToolCommand) → List ℕ × Reader
tool_reader tool = (tool.0, tool_words tool.1)

abbrev pub readers : Names Reader
readers = placed ++ map tool_reader tools

-- a command's name, and its words
abbrev pub deed_words : Reader
deed_words end given = named_word readers end given (λ reader words. reader end words)

-- the moment, the command's name, and its words
abbrev pub command_of : ℕ → List Word → Read Command
command_of end given = do
  moment ← number_word 0 latest_moment end given
  deed ← deed_words end moment.1
  Ok (record { moment = moment.0; deed = deed })

-- a line of blanks alone, or whose first byte that isn't blank is #
abbrev pub is_skipped : List ℕ → Bool
is_skipped [] = true
is_skipped (b ∷ bs) = (b == 35) || (is_blank b && is_skipped bs)

-- a line that isn't skipped
abbrev pub read_words : List ℕ → Read Command
read_words line = do
  given ← words line
  command_of (length line + 1) given

-- the refusals that come from reading a line
abbrev pub is_line_refusal : Refusal → Bool
is_line_refusal (BadLine column) = true
is_line_refusal LineTooLong = true
is_line_refusal InvalidPath = true
is_line_refusal InvalidName = true
is_line_refusal OutOfRange = true
is_line_refusal InvalidLimit = true
is_line_refusal other = false

-- None if the line is skipped without a reply. Its length is judged first, then its bytes, then its words
unfoldable pub read_line : List ℕ → Option (Read Command)
read_line line =
    if nat_lt longest_line (length line) then Some (Err LineTooLong)
    else if not (is_utf8 line) then Some (Err (BadLine (utf8_valid_len line + 1)))
    else if is_skipped line then None
    else Some (read_words line)
