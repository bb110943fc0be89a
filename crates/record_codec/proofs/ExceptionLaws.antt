-- The laws of the entries of commands on exceptions from screens.
use Rattle.std.proofs.Common.{◌≡◌, ℕ, true, Some, refl, arith}
use Rattle.std.specs.Prelude.{option_map}
use Rattle.std.proofs.lemmas.Grind.{common_steps}
use Rattle.fsrm_model.specs.commands.Commands.{kind}
use Rattle.fsrm_model.specs.declared.command.Deed.TheVariants.{Exception}
use Rattle.fsrm_model.specs.declared.command.ExceptionDeed.{ExceptionDeed}
use Rattle.fsrm_model.specs.declared.command.ExceptionDeed.TheVariants.{Add as ExceptionAdd, Delete as ExceptionDelete}
use Rattle.record_fields.specs.Formats.{◌⊗◌}
use Rattle.record_fields.specs.Laws.{Places}
use Rattle.record_fields.proofs.FollowedLaws.{◌also◌}
use Rattle.record_fields.proofs.StandingLaws.{shaped_places}
use Rattle.record_codec.specs.declared.exceptions.ExceptionKind.{ExceptionKind}
use Rattle.record_codec.specs.declared.exceptions.ExceptionKind.TheVariants.{Add as AddKind, Delete as DeleteKind}
use Rattle.record_codec.specs.Exceptions.{exception_kind, exception_code, exception_kind_in, exception_deed, exception_of, exception_values, new_exception, add_part, delete_part}
use Rattle.record_codec.specs.Fields.{object_name, path, at_least_one}
use Rattle.record_codec.proofs.FieldLaws.{object_name_places, path_places, at_least_one_places}
use Rattle.record_codec.proofs.KindLaws.{one_of_places}

-- ---- the bytes of the kinds
pub exception_home : (n : ℕ) (k : ExceptionKind) → exception_kind n ≡ Some k → exception_code k ≡ n
exception_home = grind (arith, common_steps)

-- ---- their values
new_exception_places : Places new_exception
new_exception_places =
    shaped_places exception_of exception_values (path ⊗ at_least_one object_name) (path_places also at_least_one_places object_name object_name_places) (λ n. refl) (λ v. refl)

pub exception_deed_places : (k : ExceptionKind) → Places (exception_deed k)
exception_deed_places AddKind = one_of_places ExceptionAdd add_part new_exception new_exception_places (λ v. refl) (grind (arith, common_steps))
exception_deed_places DeleteKind = one_of_places (λ p. ExceptionDelete p) delete_part path path_places (λ v. refl) (grind (arith, common_steps))

-- each value is of its kind alone
pub exception_own : (k : ExceptionKind) (deed : ExceptionDeed) → (exception_deed k).legal deed ≡ true → exception_kind_in deed ≡ Some k
exception_own = grind (arith, common_steps)

-- ---- the machine's own kinds
pub exception_numbered : (deed : ExceptionDeed) → kind (Exception deed) ≡ option_map exception_code (exception_kind_in deed)
exception_numbered = grind (arith, common_steps)
