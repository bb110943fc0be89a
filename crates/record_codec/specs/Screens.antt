-- Entries of commands on screens.
use Rattle.std.specs.Prelude.{ℕ, ◌==◌, ◌&&◌, Bool, true, List, [], ◌++◌, Option, Some, None, if◌then◌else◌}
use Rattle.std.specs.Option.{option_map_or}
use Rattle.std.specs.Str.{is_utf8}
use Rattle.fsrm_model.specs.commands.Entry.{Path}
use Rattle.fsrm_model.specs.declared.command.NewScreen.{NewScreen}
use Rattle.fsrm_model.specs.declared.command.ScreenChange.{ScreenChange}
use Rattle.fsrm_model.specs.declared.command.ScreenDeed.{ScreenDeed}
use Rattle.fsrm_model.specs.declared.command.ScreenDeed.TheVariants.{Add as ScreenAdd, Modify as ScreenModify, Delete as ScreenDelete}
use Rattle.fsrm_model.specs.declared.row.Action.{Action}
use Rattle.record_fields.specs.Formats.{Format, number_spelled, shaped, truth, ◌⊗◌, optional}
use Rattle.record_codec.specs.declared.screens.ScreenKind.{ScreenKind}
use Rattle.record_codec.specs.declared.screens.ScreenKind.TheVariants.{Add as AddKind, Modify as ModifyKind, Delete as DeleteKind}
use Rattle.record_codec.specs.Fields.{object_name, path, action, many, at_least_one}
use Rattle.record_codec.specs.Kinds.{one_of}
use Rattle.record_codec.specs.Typed.{all_typed, action_typed, is_path_text}

abbrev pub screen_kind : ℕ → Option ScreenKind
screen_kind n =
    if n == 50 then Some AddKind
    else if n == 51 then Some ModifyKind
    else if n == 52 then Some DeleteKind else None

abbrev pub screen_code : ScreenKind → ℕ
screen_code AddKind = 50
screen_code ModifyKind = 51
screen_code DeleteKind = 52

-- the kind of a deed, if its entry has one
abbrev pub screen_kind_in : ScreenDeed → Option ScreenKind
screen_kind_in (ScreenAdd new) = Some AddKind
screen_kind_in (ScreenModify change) = Some ModifyKind
screen_kind_in (ScreenDelete at) = Some DeleteKind
screen_kind_in other = None

-- ---- a new screen: of one group at least
abbrev pub ScreenValues : Type 0
ScreenValues = Path × (Bool × (List (List ℕ) × List Action))

abbrev pub screen_of : ScreenValues → NewScreen
screen_of v = record { path = v.0; active = v.1.0; groups = v.1.1.0; actions = v.1.1.1 }

abbrev pub screen_values : NewScreen → ScreenValues
screen_values new = (new.path, (new.active, (new.groups, new.actions)))

abbrev pub new_screen : Format NewScreen
new_screen = shaped screen_of screen_values (path ⊗ truth ⊗ at_least_one object_name ⊗ many action)

-- ---- a change
abbrev pub ChangeValues : Type 0
ChangeValues = Path × (Option Bool × (List (List ℕ) × List (List ℕ)))

abbrev pub change_of : ChangeValues → ScreenChange
change_of v = record { path = v.0; active = v.1.0; removed = v.1.1.0; groups = v.1.1.1 }

abbrev pub change_values : ScreenChange → ChangeValues
change_values change = (change.path, (change.active, (change.removed, change.groups)))

abbrev pub screen_change : Format ScreenChange
screen_change = shaped change_of change_values (path ⊗ optional truth ⊗ many object_name ⊗ many object_name)

-- ---- the values of each kind
abbrev pub add_part : ScreenDeed → Option NewScreen
add_part (ScreenAdd new) = Some new
add_part other = None

abbrev pub modify_part : ScreenDeed → Option ScreenChange
modify_part (ScreenModify change) = Some change
modify_part other = None

abbrev pub delete_part : ScreenDeed → Option Path
delete_part (ScreenDelete at) = Some at
delete_part other = None

abbrev pub screen_deed : ScreenKind → Format ScreenDeed
screen_deed AddKind = one_of ScreenAdd add_part new_screen
screen_deed ModifyKind = one_of ScreenModify modify_part screen_change
screen_deed DeleteKind = one_of (λ p. ScreenDelete p) delete_part path

-- a command after its kind, if its entry has one
abbrev pub screen_spelled_as : ScreenDeed → ScreenKind → List ℕ
screen_spelled_as deed k = number_spelled 1 (screen_code k) ++ (screen_deed k).spell deed

abbrev pub screen_spelled : ScreenDeed → List ℕ
screen_spelled deed = option_map_or (screen_spelled_as deed) (screen_kind_in deed) []

-- ---- its texts
abbrev pub new_screen_typed : NewScreen → Bool
new_screen_typed new = is_path_text new.path && (all_typed is_utf8 new.groups && all_typed action_typed new.actions)

abbrev pub screen_change_typed : ScreenChange → Bool
screen_change_typed change =
    is_path_text change.path && (all_typed is_utf8 change.removed && all_typed is_utf8 change.groups)

abbrev pub screen_typed : ScreenDeed → Bool
screen_typed (ScreenAdd new) = new_screen_typed new
screen_typed (ScreenModify change) = screen_change_typed change
screen_typed (ScreenDelete at) = is_path_text at
screen_typed other = true
