-- Commands on quotas whose values are legal have a spelling, of the length that the definitions count.
use Rattle.std.proofs.Common.{◌≡◌, ℕ, ◌+◌, ◌≤◌, Bool, true, false, List, [], ◌∷◌, length, Option, Some, None, refl, ◌∙◌, arith}
use Rattle.std.specs.Prelude.{◌&&◌, is_none, is_some, sum_by}
use Rattle.std.specs.List.{list_all}
use Rattle.std.specs.Option.{option_map_or}
use Rattle.std.specs.Str.{is_utf8}
use Rattle.fsrm_base.proofs.TestLaws.{both, both_true}
use Rattle.fsrm_model.specs.commands.Commands.{form_of_quota, is_new_quota, is_quota_change, are_new_thresholds, new_threshold_bytes}
use Rattle.fsrm_model.specs.commands.Entry.{path_bytes, text_bytes, counted}
use Rattle.fsrm_model.specs.declared.command.NewQuota.{NewQuota}
use Rattle.fsrm_model.specs.declared.command.QuotaChange.{QuotaChange}
use Rattle.fsrm_model.specs.declared.command.QuotaDeed.{QuotaDeed}
use Rattle.fsrm_model.specs.declared.command.QuotaDeed.TheVariants.{Add as QuotaAdd, Modify as QuotaModify, Delete as QuotaDelete, Scan as QuotaScan, Resetpeak as QuotaResetpeak}
use Rattle.fsrm_model.specs.objects.Quota.{is_limit}
use Rattle.fsrm_model.specs.objects.Thresholds.{is_percent}
use Rattle.fsrm_model.specs.store.Valued.{is_path, is_short_path}
use Rattle.fsrm_model.specs.values.Patterns.{is_object_name}
use Rattle.record_fields.specs.Formats.{number_spelled, text_spelled, optional_legal, truth}
use Rattle.record_codec.specs.Fields.{limit, object_name}
use Rattle.record_codec.specs.Quotas.{quota_kind_in, quota_deed, quota_spelled, new_quota, quota_change, quota_typed}
use Rattle.record_codec.specs.Typed.{is_path_text, all_typed, some_typed, notice_typed}
use Rattle.record_codec.proofs.Legal.{limit_legal, truth_legal, object_name_legal, first_path, one_byte, eight_bytes, two, text_long, path_long, list_long, option_long, truth_long}
use Rattle.record_codec.proofs.NoticeWriting.{percents_legal, new_thresholds_legal, new_thresholds_long, limit_given, truth_given}

-- ---- optional values
-- a limit, or a template in its place
limit_needed : (o : Option ℕ) (template : Option (List ℕ)) → option_map_or is_limit o (is_some template) ≡ true → optional_legal false limit o ≡ true
limit_needed None template is = refl
limit_needed (Some n) template is = limit_legal n is

template_needed : (o : Option ℕ) (template : Option (List ℕ)) → option_map_or is_limit o (is_some template) ≡ true → option_map_or is_object_name template true ≡ true → some_typed is_utf8 template ≡ true
    → optional_legal (is_none o) object_name template ≡ true
template_needed o (Some name) some is utf8 = object_name_legal name is utf8
template_needed (Some n) None some is utf8 = refl
template_needed None None some is utf8 = absurd (cc some)

-- ---- commands
new_quota_legal : (new : NewQuota) → list_all is_path (new.path ∷ []) ≡ true → list_all is_short_path (new.path ∷ []) ≡ true → is_new_quota new ≡ true → is_path_text new.path ≡ true
    → some_typed is_utf8 new.template ≡ true → all_typed notice_typed new.thresholds.notices ≡ true → new_threshold_bytes new.thresholds ≤ 131072 → new_quota.legal new ≡ true
new_quota_legal new names short is at template notices room =
    let l = both (option_map_or is_limit new.limit (is_some new.template) && option_map_or is_object_name new.template true) (are_new_thresholds new.thresholds) is in
    let t = both (option_map_or is_limit new.limit (is_some new.template)) (option_map_or is_object_name new.template true) l.0 in
    both_true _ _ (first_path new.path names short at) (both_true _ _ (limit_needed new.limit new.template t.0)
    (both_true _ _ (truth_given new.enforce) (both_true _ _ (truth_legal new.enabled)
    (both_true _ _ (template_needed new.limit new.template t.0 t.1 template) (new_thresholds_legal new.thresholds l.1 notices room)))))

quota_change_legal : (change : QuotaChange) → list_all is_path (change.path ∷ []) ≡ true → list_all is_short_path (change.path ∷ []) ≡ true → is_quota_change change ≡ true → is_path_text change.path ≡ true
    → all_typed notice_typed change.thresholds.notices ≡ true → counted (λ n. 8) change.removed ≤ 131072 → new_threshold_bytes change.thresholds ≤ 131072 → quota_change.legal change ≡ true
quota_change_legal change names short is at notices gone room =
    let l = both (option_map_or is_limit change.limit true) (list_all is_percent change.removed && are_new_thresholds change.thresholds) is in
    let t = both (list_all is_percent change.removed) (are_new_thresholds change.thresholds) l.1 in
    both_true _ _ (first_path change.path names short at) (both_true _ _ (limit_given change.limit l.0)
    (both_true _ _ (truth_given change.enforce) (both_true _ _ (truth_given change.enabled)
    (both_true _ _ (percents_legal change.removed t.0 gone) (new_thresholds_legal change.thresholds t.1 notices room)))))

-- whether a command's values are legal, if it has a kind
abbrev pub quota_is_legal : QuotaDeed → Bool
quota_is_legal deed = option_map_or (λ k. (quota_deed k).legal deed) (quota_kind_in deed) true

-- the bytes of a command after its kind
abbrev pub quota_bytes : QuotaDeed → ℕ
quota_bytes deed = sum_by path_bytes (form_of_quota deed).paths + option_map_or (λ entry. entry.bytes) (form_of_quota deed).entry 0

pub quota_legal : (deed : QuotaDeed) → list_all is_path (form_of_quota deed).paths ≡ true → list_all is_short_path (form_of_quota deed).paths ≡ true → (form_of_quota deed).legal ≡ true → quota_typed deed ≡ true
    → quota_bytes deed ≤ 131072 → quota_is_legal deed ≡ true
quota_legal (QuotaAdd new) names short is typed room =
    let t = both (is_path_text new.path) (some_typed is_utf8 new.template && all_typed notice_typed new.thresholds.notices) typed in
    let u = both (some_typed is_utf8 new.template) (all_typed notice_typed new.thresholds.notices) t.1 in
    new_quota_legal new names short is t.0 u.0 u.1 (omega (arith, room))
quota_legal (QuotaModify change) names short is typed room =
    let t = both (is_path_text change.path) (all_typed notice_typed change.thresholds.notices) typed in
    quota_change_legal change names short is t.0 t.1 (omega (arith, room)) (omega (arith, room))
quota_legal (QuotaDelete at) names short is typed room = first_path at names short typed
quota_legal (QuotaScan at) names short is typed room = first_path at names short typed
quota_legal (QuotaResetpeak at) names short is typed room = first_path at names short typed
quota_legal other names short is typed room = refl

pub quota_long : (deed : QuotaDeed) → is_some (quota_kind_in deed) ≡ true → length (quota_spelled deed) ≡ 1 + quota_bytes deed
quota_long (QuotaAdd new) some =
    two _ _ _ _ (one_byte 10) (two _ _ _ _ (path_long new.path) (two _ _ _ _ (option_long (number_spelled 8) (λ n. 8) eight_bytes new.limit)
    (two _ _ _ _ (option_long truth.spell (λ b. 1) truth_long new.enforce) (two _ _ _ _ (truth_long new.enabled)
    (two _ _ _ _ (option_long text_spelled text_bytes text_long new.template) (new_thresholds_long new.thresholds)))))) ∙ omega arith
quota_long (QuotaModify change) some =
    two _ _ _ _ (one_byte 11) (two _ _ _ _ (path_long change.path) (two _ _ _ _ (option_long (number_spelled 8) (λ n. 8) eight_bytes change.limit)
    (two _ _ _ _ (option_long truth.spell (λ b. 1) truth_long change.enforce) (two _ _ _ _ (option_long truth.spell (λ b. 1) truth_long change.enabled)
    (two _ _ _ _ (list_long (number_spelled 8) (λ n. 8) eight_bytes change.removed) (new_thresholds_long change.thresholds)))))) ∙ omega arith
quota_long (QuotaDelete at) some = two _ _ _ _ (one_byte 12) (path_long at) ∙ omega arith
quota_long (QuotaScan at) some = two _ _ _ _ (one_byte 13) (path_long at) ∙ omega arith
quota_long (QuotaResetpeak at) some = two _ _ _ _ (one_byte 14) (path_long at) ∙ omega arith
quota_long other some = absurd (cc some)
