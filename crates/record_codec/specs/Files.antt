-- Entries of file operations.
use Rattle.std.specs.Prelude.{ℕ, ◌==◌, List, ◌++◌, Option, Some, None, if◌then◌else◌}
use Rattle.fsrm_model.specs.declared.command.FileOp.{FileOp}
use Rattle.fsrm_model.specs.declared.command.FileOp.TheVariants.{Mkdir, Create, Resize, Touch, Move, Remove}
use Rattle.fsrm_model.specs.commands.Entry.{Path}
use Rattle.record_fields.specs.Formats.{Format, number_spelled, ◌⊗◌}
use Rattle.record_codec.specs.declared.files.FileKind.{FileKind}
use Rattle.record_codec.specs.declared.files.FileKind.TheVariants.{Mkdir as MkdirKind, Create as CreateKind, Resize as ResizeKind, Touch as TouchKind, Move as MoveKind, Remove as RemoveKind}
use Rattle.record_codec.specs.Fields.{owner, file_length, path}
use Rattle.record_codec.specs.Kinds.{one_of}

abbrev pub file_kind : ℕ → Option FileKind
file_kind n =
    if n == 1 then Some MkdirKind
    else if n == 2 then Some CreateKind
    else if n == 3 then Some ResizeKind
    else if n == 4 then Some TouchKind
    else if n == 5 then Some MoveKind
    else if n == 6 then Some RemoveKind else None

abbrev pub file_code : FileKind → ℕ
file_code MkdirKind = 1
file_code CreateKind = 2
file_code ResizeKind = 3
file_code TouchKind = 4
file_code MoveKind = 5
file_code RemoveKind = 6

abbrev pub file_kind_in : FileOp → FileKind
file_kind_in (Mkdir at who) = MkdirKind
file_kind_in (Create at size who) = CreateKind
file_kind_in (Resize at size) = ResizeKind
file_kind_in (Touch at) = TouchKind
file_kind_in (Move from to) = MoveKind
file_kind_in (Remove at) = RemoveKind

-- ---- the values of each kind
abbrev pub mkdir_parts : FileOp → Option (Path × ℕ)
mkdir_parts (Mkdir at who) = Some (at, who)
mkdir_parts other = None

abbrev pub create_parts : FileOp → Option (Path × (ℕ × ℕ))
create_parts (Create at size who) = Some (at, (size, who))
create_parts other = None

abbrev pub resize_parts : FileOp → Option (Path × ℕ)
resize_parts (Resize at size) = Some (at, size)
resize_parts other = None

abbrev pub touch_parts : FileOp → Option Path
touch_parts (Touch at) = Some at
touch_parts other = None

abbrev pub move_parts : FileOp → Option (Path × Path)
move_parts (Move from to) = Some (from, to)
move_parts other = None

abbrev pub remove_parts : FileOp → Option Path
remove_parts (Remove at) = Some at
remove_parts other = None

abbrev pub file_op : FileKind → Format FileOp
file_op MkdirKind = one_of (λ v. Mkdir v.0 v.1) mkdir_parts (path ⊗ owner)
file_op CreateKind = one_of (λ v. Create v.0 v.1.0 v.1.1) create_parts (path ⊗ file_length ⊗ owner)
file_op ResizeKind = one_of (λ v. Resize v.0 v.1) resize_parts (path ⊗ file_length)
file_op TouchKind = one_of (λ v. Touch v) touch_parts path
file_op MoveKind = one_of (λ v. Move v.0 v.1) move_parts (path ⊗ path)
file_op RemoveKind = one_of (λ v. Remove v) remove_parts path

-- a file operation after its kind
abbrev pub file_spelled : FileOp → List ℕ
file_spelled op = number_spelled 1 (file_code (file_kind_in op)) ++ (file_op (file_kind_in op)).spell op
