-- File screens and their exceptions: which screen judges the name that a file is given in a folder (MS-FSRM, IFsrmFileScreen and
-- IFsrmFileScreenException).
use Rattle.std.specs.Prelude.{ℕ, ◌==◌, ◌&&◌, not, Bool, false, List, filter, find, filter_map, Option}
use Rattle.std.specs.List.{list_any, take_while}
use Rattle.std.specs.Option.{option_map_or, option_or}
use Rattle.fsrm_base.specs.Keyed.{row_of, without_row}
use Rattle.fsrm_model.specs.declared.row.ExceptRow.{ExceptRow}
use Rattle.fsrm_model.specs.declared.row.GroupRow.{GroupRow}
use Rattle.fsrm_model.specs.declared.row.Rows.{Rows}
use Rattle.fsrm_model.specs.declared.row.ScreenRow.{ScreenRow}
use Rattle.fsrm_model.specs.values.Patterns.{in_group_of}
use Rattle.fsrm_model.specs.nodes.Tree.{chain}

abbrev pub screen_folder : ScreenRow → ℕ
screen_folder screen = screen.folder

abbrev pub except_folder : ExceptRow → ℕ
except_folder except = except.folder

-- the screen and the exception of a folder
abbrev pub screen_of : Rows → ℕ → Option ScreenRow
screen_of R folder = row_of screen_folder folder R.screens

abbrev pub except_of : Rows → ℕ → Option ExceptRow
except_of R folder = row_of except_folder folder R.excepts

-- whether a name is in one of the groups of these numbers
abbrev pub in_groups : List GroupRow → List ℕ → List ℕ → Bool
in_groups groups numbers name = list_any (λ number. in_group_of groups number name) numbers

-- whether the exception of a folder lets a name pass
abbrev pub is_excepted : Rows → List ℕ → ℕ → Bool
is_excepted R name folder = option_map_or (λ except. in_groups R.groups except.groups name) (except_of R folder) false

-- the folders of a way up to the root that are nearer to its beginning than this one
abbrev pub nearer : ℕ → List ℕ → List ℕ
nearer folder chain = take_while (λ f. not (f == folder)) chain

-- A screen applies to a name that is in one of its groups, unless an exception lets the name pass that is nearer than the screen.
-- An exception on the screen's folder, or farther up, does not
abbrev pub applies : Rows → List ℕ → List ℕ → ScreenRow → Bool
applies R chain name screen =
    in_groups R.groups screen.groups name && not (list_any (is_excepted R name) (nearer screen.folder chain))

-- the screens that apply to a name which is given in a folder, the nearest first: those of the folder and of all above it
abbrev pub applying : Rows → ℕ → List ℕ → List ScreenRow
applying R folder name =
    let chain = chain R.nodes folder in
    filter (applies R chain name) (filter_map (screen_of R) chain)

-- the screen that judges it: the nearest active one that applies, and if there is none the nearest passive one
abbrev pub judging : Rows → ℕ → List ℕ → Option ScreenRow
judging R folder name =
    let screens = applying R folder name in
    option_or (find (λ screen. screen.active) screens) (find (λ screen. not screen.active) screens)

-- rows without a folder's screen and exception
abbrev pub without_screens : Rows → ℕ → Rows
without_screens R folder =
    record R { screens = without_row screen_folder folder R.screens; excepts = without_row except_folder folder R.excepts }
