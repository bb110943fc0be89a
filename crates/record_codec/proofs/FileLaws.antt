-- The laws of the entries of file operations.
use Rattle.std.proofs.Common.{◌≡◌, ℕ, true, Some, refl, arith}
use Rattle.std.proofs.lemmas.Grind.{common_steps}
use Rattle.fsrm_model.specs.declared.command.Deed.TheVariants.{File}
use Rattle.fsrm_model.specs.declared.command.FileOp.{FileOp}
use Rattle.fsrm_model.specs.declared.command.FileOp.TheVariants.{Mkdir, Create, Resize, Touch, Move, Remove}
use Rattle.fsrm_model.specs.commands.Commands.{kind}
use Rattle.record_fields.specs.Formats.{◌⊗◌}
use Rattle.record_fields.specs.Laws.{Places}
use Rattle.record_fields.proofs.FollowedLaws.{◌also◌}
use Rattle.record_codec.specs.declared.files.FileKind.{FileKind}
use Rattle.record_codec.specs.declared.files.FileKind.TheVariants.{Mkdir as MkdirKind, Create as CreateKind, Resize as ResizeKind, Touch as TouchKind, Move as MoveKind, Remove as RemoveKind}
use Rattle.record_codec.specs.Fields.{owner, file_length, path}
use Rattle.record_codec.specs.Files.{file_kind, file_code, file_kind_in, file_op, mkdir_parts, create_parts, resize_parts, touch_parts, move_parts, remove_parts}
use Rattle.record_codec.proofs.FieldLaws.{owner_places, file_length_places, path_places}
use Rattle.record_codec.proofs.KindLaws.{one_of_places}

-- ---- the bytes of the kinds
pub file_home : (n : ℕ) (k : FileKind) → file_kind n ≡ Some k → file_code k ≡ n
file_home = grind (arith, common_steps)

-- ---- their values
pub file_op_places : (k : FileKind) → Places (file_op k)
file_op_places MkdirKind = one_of_places (λ v. Mkdir v.0 v.1) mkdir_parts (path ⊗ owner) (path_places also owner_places) (λ v. refl) (grind (arith, common_steps))
file_op_places CreateKind = one_of_places (λ v. Create v.0 v.1.0 v.1.1) create_parts (path ⊗ file_length ⊗ owner) (path_places also file_length_places also owner_places) (λ v. refl) (grind (arith, common_steps))
file_op_places ResizeKind = one_of_places (λ v. Resize v.0 v.1) resize_parts (path ⊗ file_length) (path_places also file_length_places) (λ v. refl) (grind (arith, common_steps))
file_op_places TouchKind = one_of_places (λ v. Touch v) touch_parts path path_places (λ v. refl) (grind (arith, common_steps))
file_op_places MoveKind = one_of_places (λ v. Move v.0 v.1) move_parts (path ⊗ path) (path_places also path_places) (λ v. refl) (grind (arith, common_steps))
file_op_places RemoveKind = one_of_places (λ v. Remove v) remove_parts path path_places (λ v. refl) (grind (arith, common_steps))

-- each value is of its kind alone
pub file_own : (k : FileKind) (op : FileOp) → (file_op k).legal op ≡ true → file_kind_in op ≡ k
file_own = grind (arith, common_steps)

-- ---- the machine's own kinds
pub file_numbered : (op : FileOp) → kind (File op) ≡ Some (file_code (file_kind_in op))
file_numbered = grind (arith, common_steps)
