-- The lines of file groups, screens and exceptions.
use Rattle.std.proofs.Common.{◌≡◌, ℕ, true, List, [], ◌∷◌, ◌++◌, refl, sym, ap, ◌∙◌, append_assoc}
use Rattle.std.specs.Prelude.{◌==◌, codes, flat_map, Option, Some}
use Rattle.std.specs.List.{list_all}
use Rattle.std.specs.Option.{option_map_or}
use Rattle.fsrm_base.specs.Keyed.{row_of, has_row, is_ascending}
use Rattle.fsrm_base.proofs.Members.{all_found}
use Rattle.fsrm_base.proofs.TestLaws.{both}
use Rattle.fsrm_model.specs.declared.command.Ask.TheVariants.{Groups, Screens, Excepts}
use Rattle.fsrm_model.specs.declared.row.Action.{Action}
use Rattle.fsrm_model.specs.declared.row.Capacity.{Capacity}
use Rattle.fsrm_model.specs.declared.row.ExceptRow.{ExceptRow}
use Rattle.fsrm_model.specs.declared.row.GroupRow.{GroupRow}
use Rattle.fsrm_model.specs.declared.row.NodeRow.{NodeRow}
use Rattle.fsrm_model.specs.declared.row.Rows.{Rows}
use Rattle.fsrm_model.specs.declared.row.ScreenRow.{ScreenRow}
use Rattle.fsrm_model.specs.values.Limits.{most_excepts, most_screens}
use Rattle.fsrm_model.specs.values.Patterns.{group_number}
use Rattle.fsrm_model.specs.texts.Printed.{body_line, labelled_line, path_text}
use Rattle.fsrm_model.specs.objects.Screens.{screen_folder, except_folder}
use Rattle.fsrm_model.specs.texts.ScreenText.{do_line, group_lines, mode_word, named_line, named_lines, screen_lines}
use Rattle.fsrm_model.specs.texts.Text.{list_lines}
use Rattle.fsrm_model.specs.nodes.Tree.{number, is_folder}
use Rattle.fsrm_model.specs.store.Valid.{IsValid, are_group_numbers, is_sound_except, is_sound_screen}
use Rattle.fsrm_model.proofs.valid.ScreensKept.{number_parts, screen_at, table_parts}
use Rattle.reply_text.specs.Lines.{do_text, except_text, group_text, labelled_text, named_text, screen_text}
use Rattle.reply_text.proofs.LabelledLines.{labelled_is, labelled_same}
use Rattle.reply_text.proofs.Nodes.{is_node}

-- ---- groups
group_same : (group : GroupRow) → group_lines group ≡ group_text group
unfolding group_text
group_same group = refl

group_parts : (group : GroupRow) → body_line (group.name ∷ []) ++ (flat_map (labelled_text (codes "member")) group.members ++ flat_map (labelled_text (codes "nonmember")) group.non_members) ≡ group_text group
group_parts group =
    ap (λ (xs : List ℕ). body_line (group.name ∷ []) ++ (xs ++ flat_map (labelled_text (codes "nonmember")) group.non_members)) (labelled_same (codes "member") group.members)
    ∙ ap (λ (xs : List ℕ). body_line (group.name ∷ []) ++ (flat_map (labelled_line (codes "member")) group.members ++ xs)) (labelled_same (codes "nonmember") group.non_members)
    ∙ sym (append_assoc (body_line (group.name ∷ [])) (flat_map (labelled_line (codes "member")) group.members) (flat_map (labelled_line (codes "nonmember")) group.non_members))
    ∙ group_same group

pub group_shown : (group : GroupRow) (name : List ℕ) (members others : List (List ℕ)) → name ≡ group.name → members ≡ group.members → others ≡ group.non_members
    → body_line (name ∷ []) ++ (flat_map (labelled_text (codes "member")) members ++ flat_map (labelled_text (codes "nonmember")) others) ≡ group_text group
group_shown group name members others names these those = rw (names, these, those) (group_parts group)

pub all_groups : (K : Capacity) (R : Rows) (groups : List GroupRow) → groups ≡ R.groups → flat_map group_text groups ≡ list_lines K R Groups
unfolding group_text
all_groups K R groups same = ap (flat_map group_text) same

-- a group, by its number
named_at : (found : Option GroupRow) (group : GroupRow) → found ≡ Some group → labelled_line (codes "group") group.name ≡ labelled_line (codes "group") (option_map_or (λ group. group.name) found [])
named_at found group is = rw is refl

named_same : (groups : List GroupRow) (n : ℕ) → named_line groups n ≡ named_text groups n
unfolding named_text
named_same groups n = refl

pub named_is : (groups : List GroupRow) (n : ℕ) (group : GroupRow) → row_of group_number n groups ≡ Some group → labelled_text (codes "group") group.name ≡ named_text groups n
named_is groups n group is = labelled_is (codes "group") group.name ∙ named_at (row_of group_number n groups) group is ∙ named_same groups n

-- ---- what is known of screens and exceptions
pub screens_ascend : (K : Capacity) (R : Rows) → IsValid K R → is_ascending screen_folder R.screens ≡ true
screens_ascend K R store = (table_parts screen_folder most_screens (is_sound_screen R.nodes R.groups R.excepts) R.screens store.tables.screens).ascending

pub excepts_ascend : (K : Capacity) (R : Rows) → IsValid K R → is_ascending except_folder R.excepts ≡ true
excepts_ascend K R store = (table_parts except_folder most_excepts (is_sound_except R.nodes R.groups) R.excepts store.tables.excepts).ascending

pub screen_node : (K : Capacity) (R : Rows) (screen : ScreenRow) → IsValid K R → row_of screen_folder screen.folder R.screens ≡ Some screen → has_row number screen.folder R.nodes ≡ true
screen_node K R screen store own =
    is_node R.nodes screen.folder (screen_at R.nodes R.groups R.excepts R.screens screen.folder screen store.tables.screens own).folder

pub screen_groups : (K : Capacity) (R : Rows) (screen : ScreenRow) → IsValid K R → row_of screen_folder screen.folder R.screens ≡ Some screen → list_all (λ n. has_row group_number n R.groups) screen.groups ≡ true
screen_groups K R screen store own =
    (number_parts R.groups screen.groups (screen_at R.nodes R.groups R.excepts R.screens screen.folder screen store.tables.screens own).numbers).there

sound_except : (K : Capacity) (R : Rows) (except : ExceptRow) → IsValid K R → row_of except_folder except.folder R.excepts ≡ Some except → (is_folder R.nodes except.folder ≡ true) × (are_group_numbers R.groups except.groups ≡ true)
sound_except K R except store own =
    let each = (table_parts except_folder most_excepts (is_sound_except R.nodes R.groups) R.excepts store.tables.excepts).each in
    both (is_folder R.nodes except.folder) (are_group_numbers R.groups except.groups)
    (all_found (is_sound_except R.nodes R.groups) (λ e. except_folder e == except.folder) R.excepts except each own)

pub except_node : (K : Capacity) (R : Rows) (except : ExceptRow) → IsValid K R → row_of except_folder except.folder R.excepts ≡ Some except → has_row number except.folder R.nodes ≡ true
except_node K R except store own = is_node R.nodes except.folder (sound_except K R except store own).0

pub except_groups : (K : Capacity) (R : Rows) (except : ExceptRow) → IsValid K R → row_of except_folder except.folder R.excepts ≡ Some except → list_all (λ n. has_row group_number n R.groups) except.groups ≡ true
except_groups K R except store own = (number_parts R.groups except.groups (sound_except K R except store own).1).there

-- ---- their lines
names_same : (groups : List GroupRow) (numbers : List ℕ) → flat_map (named_text groups) numbers ≡ named_lines groups numbers
unfolding named_text
names_same groups numbers = refl

dos_same : (actions : List Action) → flat_map do_text actions ≡ flat_map do_line actions
unfolding do_text
dos_same actions = refl

screen_same : (nodes : List NodeRow) (groups : List GroupRow) (screen : ScreenRow) → screen_lines nodes groups screen ≡ screen_text nodes groups screen
unfolding screen_text
screen_same nodes groups screen = refl

screen_parts : (nodes : List NodeRow) (groups : List GroupRow) (screen : ScreenRow) → body_line (mode_word screen.active ∷ path_text nodes screen.folder ∷ []) ++ (flat_map (named_text groups) screen.groups ++ flat_map do_text screen.actions) ≡ screen_text nodes groups screen
screen_parts nodes groups screen =
    let first : List ℕ = body_line (mode_word screen.active ∷ path_text nodes screen.folder ∷ []) in
    ap (λ (xs : List ℕ). first ++ (xs ++ flat_map do_text screen.actions)) (names_same groups screen.groups)
    ∙ ap (λ (xs : List ℕ). first ++ (named_lines groups screen.groups ++ xs)) (dos_same screen.actions)
    ∙ sym (append_assoc first (named_lines groups screen.groups) (flat_map do_line screen.actions))
    ∙ screen_same nodes groups screen

pub screen_shown : (nodes : List NodeRow) (groups its : List GroupRow) (screen : ScreenRow) (path : List ℕ) (numbers : List ℕ) (actions : List Action) → path ≡ path_text nodes screen.folder → its ≡ groups → numbers ≡ screen.groups → actions ≡ screen.actions
    → body_line (mode_word screen.active ∷ path ∷ []) ++ (flat_map (named_text its) numbers ++ flat_map do_text actions) ≡ screen_text nodes groups screen
screen_shown nodes groups its screen path numbers actions paths same these those = rw (paths, same, these, those) (screen_parts nodes groups screen)

except_parts : (nodes : List NodeRow) (groups : List GroupRow) (except : ExceptRow) → body_line (path_text nodes except.folder ∷ []) ++ flat_map (named_text groups) except.groups ≡ except_text nodes groups except
unfolding named_text except_text
except_parts nodes groups except = refl

pub except_shown : (nodes : List NodeRow) (groups its : List GroupRow) (except : ExceptRow) (path : List ℕ) (numbers : List ℕ) → path ≡ path_text nodes except.folder → its ≡ groups → numbers ≡ except.groups
    → body_line (path ∷ []) ++ flat_map (named_text its) numbers ≡ except_text nodes groups except
except_shown nodes groups its except path numbers paths same these = rw (paths, same, these) (except_parts nodes groups except)

pub all_screens : (K : Capacity) (R : Rows) → flat_map (screen_text R.nodes R.groups) R.screens ≡ list_lines K R Screens
unfolding screen_text
all_screens K R = refl

pub all_excepts : (K : Capacity) (R : Rows) → flat_map (except_text R.nodes R.groups) R.excepts ≡ list_lines K R Excepts
unfolding except_text
all_excepts K R = refl
