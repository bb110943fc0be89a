-- Entries of commands, as a journal keeps them: the moment, the kind, and the values of the command's words or options in
-- their order. How many bytes each value has.
use Rattle.std.specs.Prelude.{ℕ, ◌+◌, List, length, sum_by, Option}
use Rattle.std.specs.List.{join_with_byte}
use Rattle.std.specs.Option.{option_map_or}
use Rattle.fsrm_model.specs.declared.command.Added.{Added}
use Rattle.fsrm_model.specs.declared.row.Action.{Action}
use Rattle.fsrm_model.specs.declared.row.Filter.{Filter}

abbrev pub Path : Type 0
Path = List (List ℕ)

-- a number has 8 bytes, a choice 1, a text 2 for its length and then its own
abbrev pub number_bytes : ℕ
number_bytes = 8

abbrev pub choice_bytes : ℕ
choice_bytes = 1

abbrev pub text_bytes : List ℕ → ℕ
text_bytes text = 2 + length text

-- a path is spelled as a text: its volume, and its names, parted by backslashes
abbrev pub path_length : Path → ℕ
path_length path = 3 + length (join_with_byte 92 path)

abbrev pub path_bytes : Path → ℕ
path_bytes path = 2 + path_length path

-- a value that may be left out: a byte says whether it is there, and then comes the value
abbrev pub optional : {X : Type 0} → (X → ℕ) → Option X → ℕ
optional bytes value = 1 + option_map_or bytes value 0

-- values, after their count
abbrev pub counted : {X : Type 0} → (X → ℕ) → List X → ℕ
counted bytes values = 2 + sum_by bytes values

-- a threshold, and its action's kind, minutes and text
abbrev pub notice_bytes : Added → ℕ
notice_bytes notice = number_bytes + (choice_bytes + (number_bytes + text_bytes notice.action.text))

-- an action of a screen: its kind, minutes and text
abbrev pub screen_notice_bytes : Action → ℕ
screen_notice_bytes action = choice_bytes + (number_bytes + text_bytes action.text)

-- what a report is asked for: an owner, a pattern, the fewest bytes of a file, days, the least percentage of a limit, and the most rows
abbrev pub filter_bytes : Filter → ℕ
filter_bytes filter =
    optional (λ n. number_bytes) filter.owner
    + (optional text_bytes filter.pattern
    + (optional (λ n. number_bytes) filter.min_size
    + (optional (λ n. number_bytes) filter.days
    + (optional (λ n. number_bytes) filter.min_use
    + number_bytes))))
