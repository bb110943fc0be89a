-- The laws of the entries of commands on quotas.
use Rattle.std.proofs.Common.{◌≡◌, ℕ, true, Option, Some, refl, arith}
use Rattle.std.specs.Prelude.{is_none, option_map}
use Rattle.std.proofs.lemmas.Grind.{common_steps}
use Rattle.fsrm_model.specs.commands.Commands.{kind}
use Rattle.fsrm_model.specs.declared.command.Deed.TheVariants.{Quota}
use Rattle.fsrm_model.specs.declared.command.QuotaDeed.{QuotaDeed}
use Rattle.fsrm_model.specs.declared.command.QuotaDeed.TheVariants.{Add as QuotaAdd, Modify as QuotaModify, Delete as QuotaDelete, Scan as QuotaScan, Resetpeak as QuotaResetpeak}
use Rattle.record_fields.specs.Formats.{followed, truth, optional, ◌⊗◌}
use Rattle.record_fields.specs.Laws.{Places}
use Rattle.record_fields.proofs.FollowedLaws.{followed_places, ◌also◌}
use Rattle.record_fields.proofs.OptionalLaws.{optional_places, optional_or_places}
use Rattle.record_fields.proofs.StandingLaws.{shaped_places, truth_places}
use Rattle.record_codec.specs.declared.quotas.QuotaKind.{QuotaKind}
use Rattle.record_codec.specs.declared.quotas.QuotaKind.TheVariants.{Add as AddKind, Modify as ModifyKind, Delete as DeleteKind, Scan as ScanKind, Resetpeak as ResetpeakKind}
use Rattle.record_codec.specs.Fields.{limit, percent, object_name, path, many}
use Rattle.record_codec.specs.Notices.{new_thresholds}
use Rattle.record_codec.specs.Quotas.{quota_kind, quota_code, quota_kind_in, quota_deed, quota_of, quota_values, quota_rest, new_quota, change_of, change_values, quota_change, add_part, modify_part, delete_part, scan_part, resetpeak_part}
use Rattle.record_codec.proofs.FieldLaws.{limit_places, percent_places, object_name_places, path_places, many_places}
use Rattle.record_codec.proofs.KindLaws.{one_of_places}
use Rattle.record_codec.proofs.NoticeLaws.{new_thresholds_places}

-- ---- the bytes of the kinds
pub quota_home : (n : ℕ) (k : QuotaKind) → quota_kind n ≡ Some k → quota_code k ≡ n
quota_home = grind (arith, common_steps)

-- ---- their values
quota_rest_places : (given : Option ℕ) → Places (quota_rest given)
quota_rest_places given =
    optional_places truth truth_places also truth_places also optional_or_places (is_none given) object_name object_name_places also new_thresholds_places

new_quota_places : Places new_quota
new_quota_places =
    shaped_places quota_of quota_values (path ⊗ followed (optional limit) quota_rest)
    (path_places also followed_places (optional limit) quota_rest (optional_places limit limit_places) quota_rest_places) (λ n. refl) (λ v. refl)

quota_change_places : Places quota_change
quota_change_places =
    shaped_places change_of change_values (path ⊗ optional limit ⊗ optional truth ⊗ optional truth ⊗ many percent ⊗ new_thresholds)
    (path_places also optional_places limit limit_places also optional_places truth truth_places also optional_places truth truth_places also many_places percent percent_places also new_thresholds_places)
    (λ n. refl) (λ v. refl)

pub quota_deed_places : (k : QuotaKind) → Places (quota_deed k)
quota_deed_places AddKind = one_of_places QuotaAdd add_part new_quota new_quota_places (λ v. refl) (grind (arith, common_steps))
quota_deed_places ModifyKind = one_of_places QuotaModify modify_part quota_change quota_change_places (λ v. refl) (grind (arith, common_steps))
quota_deed_places DeleteKind = one_of_places (λ p. QuotaDelete p) delete_part path path_places (λ v. refl) (grind (arith, common_steps))
quota_deed_places ScanKind = one_of_places (λ p. QuotaScan p) scan_part path path_places (λ v. refl) (grind (arith, common_steps))
quota_deed_places ResetpeakKind = one_of_places (λ p. QuotaResetpeak p) resetpeak_part path path_places (λ v. refl) (grind (arith, common_steps))

-- each value is of its kind alone
pub quota_own : (k : QuotaKind) (deed : QuotaDeed) → (quota_deed k).legal deed ≡ true → quota_kind_in deed ≡ Some k
quota_own = grind (arith, common_steps)

-- ---- the machine's own kinds
pub quota_numbered : (deed : QuotaDeed) → kind (Quota deed) ≡ option_map quota_code (quota_kind_in deed)
quota_numbered = grind (arith, common_steps)
