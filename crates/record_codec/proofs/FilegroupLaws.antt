-- The laws of the entries of commands on file groups.
use Rattle.std.proofs.Common.{◌≡◌, ℕ, true, Some, refl, arith}
use Rattle.std.specs.Prelude.{option_map}
use Rattle.std.proofs.lemmas.Grind.{common_steps}
use Rattle.fsrm_model.specs.commands.Commands.{kind}
use Rattle.fsrm_model.specs.declared.command.Deed.TheVariants.{Filegroup}
use Rattle.fsrm_model.specs.declared.command.FilegroupDeed.{FilegroupDeed}
use Rattle.fsrm_model.specs.declared.command.FilegroupDeed.TheVariants.{Add as FilegroupAdd, Modify as FilegroupModify, Delete as FilegroupDelete}
use Rattle.record_fields.specs.Formats.{optional, ◌⊗◌}
use Rattle.record_fields.specs.Laws.{Places}
use Rattle.record_fields.proofs.FollowedLaws.{◌also◌}
use Rattle.record_fields.proofs.OptionalLaws.{optional_places}
use Rattle.record_fields.proofs.StandingLaws.{shaped_places}
use Rattle.record_codec.specs.declared.filegroups.FilegroupKind.{FilegroupKind}
use Rattle.record_codec.specs.declared.filegroups.FilegroupKind.TheVariants.{Add as AddKind, Modify as ModifyKind, Delete as DeleteKind}
use Rattle.record_codec.specs.Fields.{object_name, members, non_members}
use Rattle.record_codec.specs.Filegroups.{filegroup_kind, filegroup_code, filegroup_kind_in, filegroup_deed, filegroup_of, filegroup_values, new_filegroup, change_of, change_values, filegroup_change, add_part, modify_part, delete_part}
use Rattle.record_codec.proofs.FieldLaws.{object_name_places, members_places, non_members_places}
use Rattle.record_codec.proofs.KindLaws.{one_of_places}

-- ---- the bytes of the kinds
pub filegroup_home : (n : ℕ) (k : FilegroupKind) → filegroup_kind n ≡ Some k → filegroup_code k ≡ n
filegroup_home = grind (arith, common_steps)

-- ---- their values
new_filegroup_places : Places new_filegroup
new_filegroup_places =
    shaped_places filegroup_of filegroup_values (object_name ⊗ members ⊗ non_members) (object_name_places also members_places also non_members_places) (λ n. refl) (λ v. refl)

filegroup_change_places : Places filegroup_change
filegroup_change_places =
    shaped_places change_of change_values (object_name ⊗ optional members ⊗ optional non_members)
    (object_name_places also optional_places members members_places also optional_places non_members non_members_places) (λ n. refl) (λ v. refl)

pub filegroup_deed_places : (k : FilegroupKind) → Places (filegroup_deed k)
filegroup_deed_places AddKind = one_of_places FilegroupAdd add_part new_filegroup new_filegroup_places (λ v. refl) (grind (arith, common_steps))
filegroup_deed_places ModifyKind = one_of_places FilegroupModify modify_part filegroup_change filegroup_change_places (λ v. refl) (grind (arith, common_steps))
filegroup_deed_places DeleteKind = one_of_places (λ n. FilegroupDelete n) delete_part object_name object_name_places (λ v. refl) (grind (arith, common_steps))

-- each value is of its kind alone
pub filegroup_own : (k : FilegroupKind) (deed : FilegroupDeed) → (filegroup_deed k).legal deed ≡ true → filegroup_kind_in deed ≡ Some k
filegroup_own = grind (arith, common_steps)

-- ---- the machine's own kinds
pub filegroup_numbered : (deed : FilegroupDeed) → kind (Filegroup deed) ≡ option_map filegroup_code (filegroup_kind_in deed)
filegroup_numbered = grind (arith, common_steps)
