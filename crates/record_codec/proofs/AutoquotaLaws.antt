-- The laws of the entries of commands on auto-apply quotas.
use Rattle.std.proofs.Common.{◌≡◌, ℕ, true, Some, refl, arith}
use Rattle.std.specs.Prelude.{option_map}
use Rattle.std.proofs.lemmas.Grind.{common_steps}
use Rattle.fsrm_model.specs.commands.Commands.{kind}
use Rattle.fsrm_model.specs.declared.command.AutoquotaDeed.{AutoquotaDeed}
use Rattle.fsrm_model.specs.declared.command.AutoquotaDeed.TheVariants.{Add as AutoquotaAdd, Delete as AutoquotaDelete}
use Rattle.fsrm_model.specs.declared.command.Deed.TheVariants.{Autoquota}
use Rattle.record_fields.specs.Formats.{◌⊗◌}
use Rattle.record_fields.specs.Laws.{Places}
use Rattle.record_fields.proofs.FollowedLaws.{◌also◌}
use Rattle.record_fields.proofs.StandingLaws.{shaped_places}
use Rattle.record_codec.specs.declared.autoquotas.AutoquotaKind.{AutoquotaKind}
use Rattle.record_codec.specs.declared.autoquotas.AutoquotaKind.TheVariants.{Add as AddKind, Delete as DeleteKind}
use Rattle.record_codec.specs.Autoquotas.{autoquota_kind, autoquota_code, autoquota_kind_in, autoquota_deed, autoquota_of, autoquota_values, new_autoquota, add_part, delete_part}
use Rattle.record_codec.specs.Fields.{object_name, path, excluded_names}
use Rattle.record_codec.proofs.FieldLaws.{object_name_places, path_places, excluded_names_places}
use Rattle.record_codec.proofs.KindLaws.{one_of_places}

-- ---- the bytes of the kinds
pub autoquota_home : (n : ℕ) (k : AutoquotaKind) → autoquota_kind n ≡ Some k → autoquota_code k ≡ n
autoquota_home = grind (arith, common_steps)

-- ---- their values
new_autoquota_places : Places new_autoquota
new_autoquota_places =
    shaped_places autoquota_of autoquota_values (path ⊗ object_name ⊗ excluded_names) (path_places also object_name_places also excluded_names_places) (λ n. refl) (λ v. refl)

pub autoquota_deed_places : (k : AutoquotaKind) → Places (autoquota_deed k)
autoquota_deed_places AddKind = one_of_places AutoquotaAdd add_part new_autoquota new_autoquota_places (λ v. refl) (grind (arith, common_steps))
autoquota_deed_places DeleteKind = one_of_places (λ p. AutoquotaDelete p) delete_part path path_places (λ v. refl) (grind (arith, common_steps))

-- each value is of its kind alone
pub autoquota_own : (k : AutoquotaKind) (deed : AutoquotaDeed) → (autoquota_deed k).legal deed ≡ true → autoquota_kind_in deed ≡ Some k
autoquota_own = grind (arith, common_steps)

-- ---- the machine's own kinds
pub autoquota_numbered : (deed : AutoquotaDeed) → kind (Autoquota deed) ≡ option_map autoquota_code (autoquota_kind_in deed)
autoquota_numbered = grind (arith, common_steps)
