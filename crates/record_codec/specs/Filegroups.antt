-- Entries of commands on file groups.
use Rattle.std.specs.Prelude.{ℕ, ◌==◌, ◌&&◌, Bool, true, List, [], ◌++◌, Option, Some, None, if◌then◌else◌}
use Rattle.std.specs.Option.{option_map_or}
use Rattle.std.specs.Str.{is_utf8}
use Rattle.fsrm_model.specs.declared.command.FilegroupChange.{FilegroupChange}
use Rattle.fsrm_model.specs.declared.command.FilegroupDeed.{FilegroupDeed}
use Rattle.fsrm_model.specs.declared.command.FilegroupDeed.TheVariants.{Add as FilegroupAdd, Modify as FilegroupModify, Delete as FilegroupDelete}
use Rattle.fsrm_model.specs.declared.command.NewFilegroup.{NewFilegroup}
use Rattle.record_fields.specs.Formats.{Format, number_spelled, shaped, ◌⊗◌, optional}
use Rattle.record_codec.specs.declared.filegroups.FilegroupKind.{FilegroupKind}
use Rattle.record_codec.specs.declared.filegroups.FilegroupKind.TheVariants.{Add as AddKind, Modify as ModifyKind, Delete as DeleteKind}
use Rattle.record_codec.specs.Fields.{object_name, members, non_members}
use Rattle.record_codec.specs.Kinds.{one_of}
use Rattle.record_codec.specs.Typed.{all_typed, some_typed}

abbrev pub filegroup_kind : ℕ → Option FilegroupKind
filegroup_kind n =
    if n == 40 then Some AddKind
    else if n == 41 then Some ModifyKind
    else if n == 42 then Some DeleteKind else None

abbrev pub filegroup_code : FilegroupKind → ℕ
filegroup_code AddKind = 40
filegroup_code ModifyKind = 41
filegroup_code DeleteKind = 42

-- the kind of a deed, if its entry has one
abbrev pub filegroup_kind_in : FilegroupDeed → Option FilegroupKind
filegroup_kind_in (FilegroupAdd new) = Some AddKind
filegroup_kind_in (FilegroupModify change) = Some ModifyKind
filegroup_kind_in (FilegroupDelete name) = Some DeleteKind
filegroup_kind_in other = None

-- ---- a new group
abbrev pub FilegroupValues : Type 0
FilegroupValues = List ℕ × (List (List ℕ) × List (List ℕ))

abbrev pub filegroup_of : FilegroupValues → NewFilegroup
filegroup_of v = record { name = v.0; members = v.1.0; non_members = v.1.1 }

abbrev pub filegroup_values : NewFilegroup → FilegroupValues
filegroup_values new = (new.name, (new.members, new.non_members))

abbrev pub new_filegroup : Format NewFilegroup
new_filegroup = shaped filegroup_of filegroup_values (object_name ⊗ members ⊗ non_members)

-- ---- a change: of each list that is given
abbrev pub ChangeValues : Type 0
ChangeValues = List ℕ × (Option (List (List ℕ)) × Option (List (List ℕ)))

abbrev pub change_of : ChangeValues → FilegroupChange
change_of v = record { name = v.0; members = v.1.0; non_members = v.1.1 }

abbrev pub change_values : FilegroupChange → ChangeValues
change_values change = (change.name, (change.members, change.non_members))

abbrev pub filegroup_change : Format FilegroupChange
filegroup_change = shaped change_of change_values (object_name ⊗ optional members ⊗ optional non_members)

-- ---- the values of each kind
abbrev pub add_part : FilegroupDeed → Option NewFilegroup
add_part (FilegroupAdd new) = Some new
add_part other = None

abbrev pub modify_part : FilegroupDeed → Option FilegroupChange
modify_part (FilegroupModify change) = Some change
modify_part other = None

abbrev pub delete_part : FilegroupDeed → Option (List ℕ)
delete_part (FilegroupDelete name) = Some name
delete_part other = None

abbrev pub filegroup_deed : FilegroupKind → Format FilegroupDeed
filegroup_deed AddKind = one_of FilegroupAdd add_part new_filegroup
filegroup_deed ModifyKind = one_of FilegroupModify modify_part filegroup_change
filegroup_deed DeleteKind = one_of (λ n. FilegroupDelete n) delete_part object_name

-- a command after its kind, if its entry has one
abbrev pub filegroup_spelled_as : FilegroupDeed → FilegroupKind → List ℕ
filegroup_spelled_as deed k = number_spelled 1 (filegroup_code k) ++ (filegroup_deed k).spell deed

abbrev pub filegroup_spelled : FilegroupDeed → List ℕ
filegroup_spelled deed = option_map_or (filegroup_spelled_as deed) (filegroup_kind_in deed) []

-- ---- its texts
abbrev pub new_filegroup_typed : NewFilegroup → Bool
new_filegroup_typed new = is_utf8 new.name && (all_typed is_utf8 new.members && all_typed is_utf8 new.non_members)

abbrev pub filegroup_change_typed : FilegroupChange → Bool
filegroup_change_typed change =
    is_utf8 change.name
    && (some_typed (all_typed is_utf8) change.members && some_typed (all_typed is_utf8) change.non_members)

abbrev pub filegroup_typed : FilegroupDeed → Bool
filegroup_typed (FilegroupAdd new) = new_filegroup_typed new
filegroup_typed (FilegroupModify change) = filegroup_change_typed change
filegroup_typed (FilegroupDelete name) = is_utf8 name
filegroup_typed other = true
