-- Entries of commands on quotas.
use Rattle.std.specs.Prelude.{ℕ, ◌==◌, ◌&&◌, Bool, true, List, [], ◌++◌, Option, Some, None, is_none, if◌then◌else◌}
use Rattle.std.specs.Option.{option_map_or}
use Rattle.std.specs.Str.{is_utf8}
use Rattle.fsrm_model.specs.commands.Entry.{Path}
use Rattle.fsrm_model.specs.declared.command.NewQuota.{NewQuota}
use Rattle.fsrm_model.specs.declared.command.NewThresholds.{NewThresholds}
use Rattle.fsrm_model.specs.declared.command.QuotaChange.{QuotaChange}
use Rattle.fsrm_model.specs.declared.command.QuotaDeed.{QuotaDeed}
use Rattle.fsrm_model.specs.declared.command.QuotaDeed.TheVariants.{Add as QuotaAdd, Modify as QuotaModify, Delete as QuotaDelete, Scan as QuotaScan, Resetpeak as QuotaResetpeak}
use Rattle.record_fields.specs.Formats.{Format, number_spelled, shaped, truth, followed, ◌⊗◌, optional, optional_or}
use Rattle.record_codec.specs.declared.quotas.QuotaKind.{QuotaKind}
use Rattle.record_codec.specs.declared.quotas.QuotaKind.TheVariants.{Add as AddKind, Modify as ModifyKind, Delete as DeleteKind, Scan as ScanKind, Resetpeak as ResetpeakKind}
use Rattle.record_codec.specs.Fields.{limit, percent, object_name, path, many}
use Rattle.record_codec.specs.Kinds.{one_of}
use Rattle.record_codec.specs.Notices.{new_thresholds}
use Rattle.record_codec.specs.Typed.{all_typed, some_typed, notice_typed, is_path_text}

abbrev pub quota_kind : ℕ → Option QuotaKind
quota_kind n =
    if n == 10 then Some AddKind
    else if n == 11 then Some ModifyKind
    else if n == 12 then Some DeleteKind
    else if n == 13 then Some ScanKind
    else if n == 14 then Some ResetpeakKind else None

abbrev pub quota_code : QuotaKind → ℕ
quota_code AddKind = 10
quota_code ModifyKind = 11
quota_code DeleteKind = 12
quota_code ScanKind = 13
quota_code ResetpeakKind = 14

-- the kind of a deed, if its entry has one
abbrev pub quota_kind_in : QuotaDeed → Option QuotaKind
quota_kind_in (QuotaAdd new) = Some AddKind
quota_kind_in (QuotaModify change) = Some ModifyKind
quota_kind_in (QuotaDelete at) = Some DeleteKind
quota_kind_in (QuotaScan at) = Some ScanKind
quota_kind_in (QuotaResetpeak at) = Some ResetpeakKind
quota_kind_in other = None

-- ---- a new quota: a limit or a template must be there
abbrev pub QuotaValues : Type 0
QuotaValues = Path × (Option ℕ × (Option Bool × (Bool × (Option (List ℕ) × NewThresholds))))

abbrev pub quota_of : QuotaValues → NewQuota
quota_of v =
    record {
      path = v.0;
      limit = v.1.0;
      enforce = v.1.1.0;
      enabled = v.1.1.1.0;
      template = v.1.1.1.1.0;
      thresholds = v.1.1.1.1.1;
    }

abbrev pub quota_values : NewQuota → QuotaValues
quota_values new = (new.path, (new.limit, (new.enforce, (new.enabled, (new.template, new.thresholds)))))

abbrev pub quota_rest : Option ℕ → Format (Option Bool × (Bool × (Option (List ℕ) × NewThresholds)))
quota_rest given = optional truth ⊗ truth ⊗ optional_or (is_none given) object_name ⊗ new_thresholds

abbrev pub new_quota : Format NewQuota
new_quota = shaped quota_of quota_values (path ⊗ followed (optional limit) quota_rest)

-- ---- a change
abbrev pub ChangeValues : Type 0
ChangeValues = Path × (Option ℕ × (Option Bool × (Option Bool × (List ℕ × NewThresholds))))

abbrev pub change_of : ChangeValues → QuotaChange
change_of v =
    record {
      path = v.0;
      limit = v.1.0;
      enforce = v.1.1.0;
      enabled = v.1.1.1.0;
      removed = v.1.1.1.1.0;
      thresholds = v.1.1.1.1.1;
    }

abbrev pub change_values : QuotaChange → ChangeValues
change_values change = (change.path, (change.limit, (change.enforce, (change.enabled, (change.removed, change.thresholds)))))

abbrev pub quota_change : Format QuotaChange
quota_change =
    shaped change_of change_values (path ⊗ optional limit ⊗ optional truth ⊗ optional truth ⊗ many percent ⊗ new_thresholds)

-- ---- the values of each kind
abbrev pub add_part : QuotaDeed → Option NewQuota
add_part (QuotaAdd new) = Some new
add_part other = None

abbrev pub modify_part : QuotaDeed → Option QuotaChange
modify_part (QuotaModify change) = Some change
modify_part other = None

abbrev pub delete_part : QuotaDeed → Option Path
delete_part (QuotaDelete at) = Some at
delete_part other = None

abbrev pub scan_part : QuotaDeed → Option Path
scan_part (QuotaScan at) = Some at
scan_part other = None

abbrev pub resetpeak_part : QuotaDeed → Option Path
resetpeak_part (QuotaResetpeak at) = Some at
resetpeak_part other = None

abbrev pub quota_deed : QuotaKind → Format QuotaDeed
quota_deed AddKind = one_of QuotaAdd add_part new_quota
quota_deed ModifyKind = one_of QuotaModify modify_part quota_change
quota_deed DeleteKind = one_of (λ p. QuotaDelete p) delete_part path
quota_deed ScanKind = one_of (λ p. QuotaScan p) scan_part path
quota_deed ResetpeakKind = one_of (λ p. QuotaResetpeak p) resetpeak_part path

-- a command after its kind, if its entry has one
abbrev pub quota_spelled_as : QuotaDeed → QuotaKind → List ℕ
quota_spelled_as deed k = number_spelled 1 (quota_code k) ++ (quota_deed k).spell deed

abbrev pub quota_spelled : QuotaDeed → List ℕ
quota_spelled deed = option_map_or (quota_spelled_as deed) (quota_kind_in deed) []

-- ---- its texts
abbrev pub new_quota_typed : NewQuota → Bool
new_quota_typed new =
    is_path_text new.path && (some_typed is_utf8 new.template && all_typed notice_typed new.thresholds.notices)

abbrev pub quota_change_typed : QuotaChange → Bool
quota_change_typed change = is_path_text change.path && all_typed notice_typed change.thresholds.notices

abbrev pub quota_typed : QuotaDeed → Bool
quota_typed (QuotaAdd new) = new_quota_typed new
quota_typed (QuotaModify change) = quota_change_typed change
quota_typed (QuotaDelete at) = is_path_text at
quota_typed (QuotaScan at) = is_path_text at
quota_typed (QuotaResetpeak at) = is_path_text at
quota_typed other = true
