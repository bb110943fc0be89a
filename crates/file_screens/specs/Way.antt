-- What folders on the way up say of a name.
use Rattle.std.specs.Prelude.{◌≡◌, ℕ, ◌||◌, not, Bool, false, List, [], filter, filter_map, find, Option, Some, None, is_some, option_and_then, if◌then◌else◌}
use Rattle.std.specs.Option.{option_map_or, option_or}
use Rattle.fsrm_base.specs.Keyed.{row_of}
use Rattle.fsrm_model.specs.declared.row.ExceptRow.{ExceptRow}
use Rattle.fsrm_model.specs.declared.row.GroupRow.{GroupRow}
use Rattle.fsrm_model.specs.declared.row.ScreenRow.{ScreenRow}
use Rattle.fsrm_model.specs.objects.Screens.{applies, except_folder, in_groups, screen_folder, screen_of}
use Rattle.fsrm_objects.specs.Tables.{Tables}
use Rattle.file_screens.specs.Blocked.{screened_rows}
use Rattle.file_screens.specs.declared.answer.Blocked.{Blocked}

-- a screen, if it has the name in one of its groups
abbrev pub if_named : List GroupRow → List ℕ → ScreenRow → Option ScreenRow
if_named groups name screen = if in_groups groups screen.groups name then Some screen else None

-- the screen of a folder, if it has the name in one of its groups
abbrev pub screen_with : List GroupRow → List ScreenRow → List ℕ → ℕ → Option ScreenRow
screen_with groups screens name folder = option_and_then (if_named groups name) (row_of screen_folder folder screens)

-- whether the exception of a folder has the name in one of its groups
abbrev pub lets_pass : List GroupRow → List ExceptRow → List ℕ → ℕ → Bool
lets_pass groups excepts name folder =
    option_map_or (λ except. in_groups groups except.groups name) (row_of except_folder folder excepts) false

-- whether an active screen was found
abbrev pub is_active : Option Blocked → Bool
is_active found = option_map_or (λ screen. screen.active) found false

-- whether a folder has a screen or an exception
abbrev pub is_asked : Tables → ℕ → Bool
is_asked tables folder =
    is_some (row_of screen_folder folder tables.screens) || is_some (row_of except_folder folder tables.excepts)

-- the screens that apply to a name on a way up, the nearest first
abbrev pub applying_on : List GroupRow → Tables → List ℕ → List ℕ → List ScreenRow
applying_on groups tables way name =
    let R = screened_rows [] groups tables in
    filter (applies R way name) (filter_map (screen_of R) way)

-- the one that judges it: the nearest active one that applies, and if there is none the nearest passive one
abbrev pub judging_on : List GroupRow → Tables → List ℕ → List ℕ → Option ScreenRow
judging_on groups tables way name =
    let screens = applying_on groups tables way name in
    option_or (find (λ screen. screen.active) screens) (find (λ screen. not screen.active) screens)

-- whatever the groups are, none applies on a way; the same ones apply on another way
abbrev pub NoneApply : Tables → List ℕ → Type 0
NoneApply tables way = (groups : List GroupRow) (name : List ℕ) → applying_on groups tables way name ≡ []

abbrev pub ApplyAlike : Tables → List ℕ → List ℕ → Type 0
ApplyAlike tables way other =
    (groups : List GroupRow) (name : List ℕ) → applying_on groups tables other name ≡ applying_on groups tables way name
