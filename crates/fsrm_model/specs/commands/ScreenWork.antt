-- The commands on screens and exceptions: their refusals in order, and what they do.
use Rattle.std.specs.Prelude.{ℕ, ◌==◌, ◌&&◌, ◌||◌, not, nat_lt, Bool, true, false, is_some, is_none, List, [], ◌∷◌, ◌++◌, length, fold, filter_map, Option, None, unwrap_or, if◌then◌else◌}
use Rattle.std.specs.List.{list_all}
use Rattle.std.specs.Option.{option_map_or}
use Rattle.fsrm_base.specs.Keyed.{with_row, with_change, without_row}
use Rattle.fsrm_base.specs.Numbers.{is_in, each_once, without_numbers}
use Rattle.fsrm_model.specs.declared.command.Ask.TheVariants.{Screens, Excepts}
use Rattle.fsrm_model.specs.declared.command.NewException.{NewException}
use Rattle.fsrm_model.specs.declared.command.NewScreen.{NewScreen}
use Rattle.fsrm_model.specs.declared.command.Outcome.TheVariants.{Done, Listing}
use Rattle.fsrm_model.specs.declared.command.Refusal.TheVariants.{PathNotFound, NotFound, AlreadyExists, InvalidCombination, OutOfRange}
use Rattle.fsrm_model.specs.declared.command.ScreenChange.{ScreenChange}
use Rattle.fsrm_model.specs.declared.row.Action.{Action}
use Rattle.fsrm_model.specs.declared.row.ExceptRow.{ExceptRow}
use Rattle.fsrm_model.specs.declared.row.GroupRow.{GroupRow}
use Rattle.fsrm_model.specs.declared.row.Rows.{Rows}
use Rattle.fsrm_model.specs.declared.row.ScreenRow.{ScreenRow}
use Rattle.fsrm_model.specs.commands.Check.{Check, ◌when◌, screens_full, excepts_full, texts_full}
use Rattle.fsrm_model.specs.nodes.FileOps.{target}
use Rattle.fsrm_model.specs.nodes.Leads.{leads_to_folder}
use Rattle.fsrm_model.specs.values.Limits.{most_actions, most_screen_groups}
use Rattle.fsrm_model.specs.values.Patterns.{number_named}
use Rattle.fsrm_model.specs.objects.Screens.{screen_folder, except_folder, screen_of, except_of}
use Rattle.fsrm_model.specs.commands.Work.{Work, asks}

-- ---- the groups of a screen or an exception
-- whether each of these names is a group's, and the numbers of the groups that they name
abbrev pub are_named : List GroupRow → List (List ℕ) → Bool
are_named groups names = list_all (λ name. is_some (number_named name groups)) names

abbrev pub numbers_named : List GroupRow → List (List ℕ) → List ℕ
numbers_named groups names = filter_map (λ name. number_named name groups) names

-- a number that is there already keeps its place; another one comes last
abbrev pub with_last : List ℕ → ℕ → List ℕ
with_last numbers n = if is_in numbers n then numbers else numbers ++ n ∷ []

-- what is removed goes first; then what is added comes, in the order in which it was given
abbrev pub changed_groups : List ℕ → List ℕ → List ℕ → List ℕ
changed_groups removed added groups = fold with_last (without_numbers removed groups) added

-- what is removed must be there, and named once
abbrev pub may_be_taken : List ℕ → List ℕ → Bool
may_be_taken removed groups = list_all (is_in groups) removed && each_once removed

abbrev pub are_many_groups : List ℕ → Bool
are_many_groups groups = nat_lt most_screen_groups (length groups)

-- ---- screens
-- the refusals of a command on a screen that is there
abbrev pub screen_checks : Rows → List (List ℕ) → List Check
screen_checks R path =
    (PathNotFound when not (leads_to_folder R.nodes path)) ∷ (NotFound when is_none (screen_of R (target R.nodes path))) ∷ []

abbrev pub new_screen : ℕ → Bool → List ℕ → List Action → ScreenRow
new_screen folder active groups actions = record { folder = folder; active = active; groups = groups; actions = actions }

abbrev pub screen_add_work : Rows → NewScreen → Work
screen_add_work R new =
    let folder = target R.nodes new.path in
    let groups = changed_groups [] (numbers_named R.groups new.groups) [] in
    let screen = new_screen folder new.active groups new.actions in
    let after = record R { screens = with_row screen_folder screen R.screens } in
    asks
    ((PathNotFound when not (leads_to_folder R.nodes new.path)) ∷ (AlreadyExists when is_some (screen_of R folder))
    ∷ (InvalidCombination when is_some (except_of R folder)) ∷ (NotFound when not (are_named R.groups new.groups))
    ∷ (OutOfRange when (are_many_groups groups || nat_lt most_actions (length new.actions)))
    ∷ screens_full after ∷ texts_full after ∷ [])
    after (Done None) true

-- a screen with these groups, and active or passive if that is given. Its actions stay, with their last runs
abbrev pub rescreened : Option Bool → List ℕ → ScreenRow → ScreenRow
rescreened active groups screen = record screen { active = unwrap_or active screen.active; groups = groups }

-- the groups of a folder's screen
abbrev pub groups_of : Rows → ℕ → List ℕ
groups_of R folder = option_map_or (λ screen. screen.groups) (screen_of R folder) []

abbrev pub screen_modify_work : Rows → ScreenChange → Work
screen_modify_work R change =
    let folder = target R.nodes change.path in
    let before = groups_of R folder in
    let gone = numbers_named R.groups change.removed in
    let groups = changed_groups gone (numbers_named R.groups change.groups) before in
    let are_known = are_named R.groups change.removed && are_named R.groups change.groups in
    asks
    (screen_checks R change.path ++ (NotFound when not are_known) ∷ (NotFound when not (may_be_taken gone before))
    ∷ (InvalidCombination when (length groups == 0)) ∷ (OutOfRange when are_many_groups groups) ∷ [])
    (record R { screens = with_change screen_folder folder (rescreened change.active groups) R.screens })
    (Done None) true

abbrev pub screen_delete_work : Rows → List (List ℕ) → Work
screen_delete_work R path =
    asks (screen_checks R path) (record R { screens = without_row screen_folder (target R.nodes path) R.screens }) (Done None) true

-- a list changes nothing
abbrev pub screen_list_work : Rows → Work
screen_list_work R = asks [] R (Listing Screens) false

-- ---- exceptions
abbrev pub new_except : ℕ → List ℕ → ExceptRow
new_except folder groups = record { folder = folder; groups = groups }

abbrev pub except_add_work : Rows → NewException → Work
except_add_work R new =
    let folder = target R.nodes new.path in
    let groups = changed_groups [] (numbers_named R.groups new.groups) [] in
    let after = record R { excepts = with_row except_folder (new_except folder groups) R.excepts } in
    asks
    ((PathNotFound when not (leads_to_folder R.nodes new.path)) ∷ (AlreadyExists when is_some (except_of R folder))
    ∷ (InvalidCombination when is_some (screen_of R folder)) ∷ (NotFound when not (are_named R.groups new.groups))
    ∷ (OutOfRange when are_many_groups groups) ∷ excepts_full after ∷ [])
    after (Done None) true

abbrev pub except_delete_work : Rows → List (List ℕ) → Work
except_delete_work R path =
    let folder = target R.nodes path in
    asks ((PathNotFound when not (leads_to_folder R.nodes path)) ∷ (NotFound when is_none (except_of R folder)) ∷ [])
    (record R { excepts = without_row except_folder folder R.excepts }) (Done None) true

abbrev pub except_list_work : Rows → Work
except_list_work R = asks [] R (Listing Excepts) false
