-- Thresholds, actions and optional values whose values are legal have a spelling, of the length that the definitions count.
use Rattle.std.proofs.Common.{◌≡◌, ℕ, ◌≤◌, Bool, true, false, List, length, Option, Some, None, refl, arith}
use Rattle.std.specs.List.{list_all}
use Rattle.std.specs.Option.{option_map_or}
use Rattle.fsrm_base.proofs.TestLaws.{both, both_true}
use Rattle.fsrm_model.specs.commands.Commands.{are_new_thresholds, new_threshold_bytes}
use Rattle.fsrm_model.specs.commands.Entry.{notice_bytes, screen_notice_bytes, counted}
use Rattle.fsrm_model.specs.declared.command.Added.{Added}
use Rattle.fsrm_model.specs.declared.command.NewThresholds.{NewThresholds}
use Rattle.fsrm_model.specs.declared.row.Action.{Action}
use Rattle.fsrm_model.specs.objects.Quota.{is_limit}
use Rattle.fsrm_model.specs.objects.Thresholds.{is_percent, is_new_action, is_notice}
use Rattle.record_fields.specs.Formats.{number_spelled, optional_legal, truth}
use Rattle.record_codec.specs.Fields.{limit, percent, action, notice, many}
use Rattle.record_codec.specs.Notices.{new_thresholds}
use Rattle.record_codec.specs.Typed.{all_typed, action_typed, notice_typed}
use Rattle.record_codec.proofs.Legal.{limit_legal, percent_legal, truth_legal, action_legal, notice_legal, each_legal, always, few, many_legal, eight_bytes, two, list_long, notice_long}

-- ---- thresholds
pub percents_legal : (xs : List ℕ) → list_all is_percent xs ≡ true → counted (λ n. 8) xs ≤ 131072 → (many percent).legal xs ≡ true
percents_legal xs are room =
    many_legal percent xs (few is_percent (λ n. 8) (λ n is. omega arith) xs are room) (each_legal is_percent (λ n. true) percent.legal (λ n is yes. percent_legal n is) xs are (always xs))

notices_legal : (xs : List Added) → list_all is_notice xs ≡ true → all_typed notice_typed xs ≡ true → counted notice_bytes xs ≤ 131072 → (many notice).legal xs ≡ true
notices_legal xs are utf8 room =
    many_legal notice xs (few is_notice notice_bytes (λ n is. omega arith) xs are room) (each_legal is_notice notice_typed notice.legal notice_legal xs are utf8)

pub actions_legal : (xs : List Action) → list_all is_new_action xs ≡ true → all_typed action_typed xs ≡ true → counted screen_notice_bytes xs ≤ 131072 → (many action).legal xs ≡ true
actions_legal xs are utf8 room =
    many_legal action xs (few is_new_action screen_notice_bytes (λ a is. omega arith) xs are room) (each_legal is_new_action action_typed action.legal action_legal xs are utf8)

pub new_thresholds_legal : (new : NewThresholds) → are_new_thresholds new ≡ true → all_typed notice_typed new.notices ≡ true → new_threshold_bytes new ≤ 131072 → new_thresholds.legal new ≡ true
new_thresholds_legal new are utf8 room =
    let l = both (list_all is_percent new.percents) (list_all is_notice new.notices) are in
    both_true _ _ (percents_legal new.percents l.0 (omega (arith, room))) (notices_legal new.notices l.1 utf8 (omega (arith, room)))

pub new_thresholds_long : (new : NewThresholds) → length (new_thresholds.spell new) ≡ new_threshold_bytes new
new_thresholds_long new = two _ _ _ _ (list_long (number_spelled 8) (λ n. 8) eight_bytes new.percents) (list_long notice.spell notice_bytes notice_long new.notices)

-- ---- optional values
pub limit_given : (o : Option ℕ) → option_map_or is_limit o true ≡ true → optional_legal false limit o ≡ true
limit_given None is = refl
limit_given (Some n) is = limit_legal n is

pub truth_given : (o : Option Bool) → optional_legal false truth o ≡ true
truth_given None = refl
truth_given (Some b) = truth_legal b
