-- Entries of commands on exceptions from screens.
use Rattle.std.specs.Prelude.{ℕ, ◌==◌, ◌&&◌, Bool, true, List, [], ◌++◌, Option, Some, None, if◌then◌else◌}
use Rattle.std.specs.Option.{option_map_or}
use Rattle.std.specs.Str.{is_utf8}
use Rattle.fsrm_model.specs.commands.Entry.{Path}
use Rattle.fsrm_model.specs.declared.command.ExceptionDeed.{ExceptionDeed}
use Rattle.fsrm_model.specs.declared.command.ExceptionDeed.TheVariants.{Add as ExceptionAdd, Delete as ExceptionDelete}
use Rattle.fsrm_model.specs.declared.command.NewException.{NewException}
use Rattle.record_fields.specs.Formats.{Format, number_spelled, shaped, ◌⊗◌}
use Rattle.record_codec.specs.declared.exceptions.ExceptionKind.{ExceptionKind}
use Rattle.record_codec.specs.declared.exceptions.ExceptionKind.TheVariants.{Add as AddKind, Delete as DeleteKind}
use Rattle.record_codec.specs.Fields.{object_name, path, at_least_one}
use Rattle.record_codec.specs.Kinds.{one_of}
use Rattle.record_codec.specs.Typed.{all_typed, is_path_text}

abbrev pub exception_kind : ℕ → Option ExceptionKind
exception_kind n = if n == 60 then Some AddKind else if n == 61 then Some DeleteKind else None

abbrev pub exception_code : ExceptionKind → ℕ
exception_code AddKind = 60
exception_code DeleteKind = 61

-- the kind of a deed, if its entry has one
abbrev pub exception_kind_in : ExceptionDeed → Option ExceptionKind
exception_kind_in (ExceptionAdd new) = Some AddKind
exception_kind_in (ExceptionDelete at) = Some DeleteKind
exception_kind_in other = None

-- ---- a new exception: for one group at least
abbrev pub exception_of : Path × List (List ℕ) → NewException
exception_of v = record { path = v.0; groups = v.1 }

abbrev pub exception_values : NewException → Path × List (List ℕ)
exception_values new = (new.path, new.groups)

abbrev pub new_exception : Format NewException
new_exception = shaped exception_of exception_values (path ⊗ at_least_one object_name)

-- ---- the values of each kind
abbrev pub add_part : ExceptionDeed → Option NewException
add_part (ExceptionAdd new) = Some new
add_part other = None

abbrev pub delete_part : ExceptionDeed → Option Path
delete_part (ExceptionDelete at) = Some at
delete_part other = None

abbrev pub exception_deed : ExceptionKind → Format ExceptionDeed
exception_deed AddKind = one_of ExceptionAdd add_part new_exception
exception_deed DeleteKind = one_of (λ p. ExceptionDelete p) delete_part path

-- a command after its kind, if its entry has one
abbrev pub exception_spelled_as : ExceptionDeed → ExceptionKind → List ℕ
exception_spelled_as deed k = number_spelled 1 (exception_code k) ++ (exception_deed k).spell deed

abbrev pub exception_spelled : ExceptionDeed → List ℕ
exception_spelled deed = option_map_or (exception_spelled_as deed) (exception_kind_in deed) []

-- ---- its texts
abbrev pub new_exception_typed : NewException → Bool
new_exception_typed new = is_path_text new.path && all_typed is_utf8 new.groups

abbrev pub exception_typed : ExceptionDeed → Bool
exception_typed (ExceptionAdd new) = new_exception_typed new
exception_typed (ExceptionDelete at) = is_path_text at
exception_typed other = true
