-- The thresholds of a quota or a template: percentages of its limit, each with the actions that are to run when a quota's usage
-- reaches it (MS-FSRM, IFsrmQuotaBase, Thresholds). They ascend by percentage.
use Rattle.std.specs.Prelude.{ℕ, ◌==◌, ◌&&◌, ◌||◌, not, nat_lt, nat_le, Bool, true, ℤ, pos, negsuc, List, [], ◌∷◌, ◌++◌, length, map, filter, fold, is_none, if◌then◌else◌}
use Rattle.std.specs.List.{list_all, list_any}
use Rattle.std.specs.Option.{option_map_or}
use Rattle.fsrm_model.specs.declared.command.Added.{Added}
use Rattle.fsrm_model.specs.declared.row.Action.{Action}
use Rattle.fsrm_model.specs.declared.row.Threshold.{Threshold}
use Rattle.fsrm_base.specs.Keyed.{row_of, is_ascending, has_row, with_row, with_change}
use Rattle.fsrm_base.specs.Numbers.{is_in, each_once}
use Rattle.fsrm_model.specs.values.Limits.{latest_moment, greatest_percent, most_thresholds, most_actions, longest_action_text, most_minutes}

abbrev pub percent_of : Threshold → ℕ
percent_of threshold = threshold.percent

-- the actions of a percentage. One that isn't there has none
abbrev pub actions_at : List Threshold → ℕ → List Action
actions_at thresholds percent = option_map_or (λ threshold. threshold.actions) (row_of percent_of percent thresholds) []

-- ---- what they are
-- a percentage: 1 to 250
abbrev pub is_percent : ℕ → Bool
is_percent percent = nat_le 1 percent && nat_le percent greatest_percent

-- how many minutes pass at least between two runs: 0 to 525,600, or -1 for the service's setting
abbrev pub are_minutes : ℤ → Bool
are_minutes (pos minutes) = nat_le minutes most_minutes
are_minutes (negsuc n) = n == 0

-- a text of an action, which is UTF-8: up to 1,024 bytes, no control character of ASCII (0 to 31 and 127)
abbrev pub is_printing : ℕ → Bool
is_printing b = nat_le 32 b && not (b == 127)

abbrev pub is_action_text : List ℕ → Bool
is_action_text text = nat_le (length text) longest_action_text && list_all is_printing text

abbrev pub is_action : Action → Bool
is_action action = are_minutes action.minutes && is_action_text action.text

-- an action as a command gives it: it never ran
abbrev pub is_new_action : Action → Bool
is_new_action action = is_action action && is_none action.last_run

abbrev pub is_notice : Added → Bool
is_notice notice = is_percent notice.percent && is_new_action notice.action

-- a threshold as a store keeps it
abbrev pub is_kept_action : Action → Bool
is_kept_action action = is_action action && option_map_or (λ run. nat_le run latest_moment) action.last_run true

abbrev pub is_threshold : Threshold → Bool
is_threshold threshold = is_percent threshold.percent && list_all is_kept_action threshold.actions

-- whether there are more of them than a quota may have, or one of them has more actions than it may
abbrev pub is_crowded : Threshold → Bool
is_crowded threshold = nat_lt most_actions (length threshold.actions)

abbrev pub are_too_many : List Threshold → Bool
are_too_many thresholds = nat_lt most_thresholds (length thresholds) || list_any is_crowded thresholds

-- the thresholds of a quota
abbrev pub are_thresholds : List Threshold → Bool
are_thresholds thresholds =
    (is_ascending percent_of thresholds && not (are_too_many thresholds)) && list_all is_threshold thresholds

-- ---- how a command changes them
-- what is removed must be there, and named once
abbrev pub may_be_removed : List ℕ → List Threshold → Bool
may_be_removed percents thresholds = list_all (λ percent. has_row percent_of percent thresholds) percents && each_once percents

abbrev pub without_thresholds : List ℕ → List Threshold → List Threshold
without_thresholds percents thresholds = filter (λ threshold. not (is_in percents threshold.percent)) thresholds

-- a percentage that is there stays as it is; a new one has no actions yet
abbrev pub with_threshold : List Threshold → ℕ → List Threshold
with_threshold thresholds percent =
    if has_row percent_of percent thresholds then thresholds
    else with_row percent_of (record { percent = percent; actions = [] }) thresholds

-- one more action, after those that its percentage has
abbrev pub with_action : Action → Threshold → Threshold
with_action action threshold = record threshold { actions = threshold.actions ++ action ∷ [] }

abbrev pub with_notice : List Threshold → Added → List Threshold
with_notice thresholds notice =
    with_change percent_of notice.percent (with_action notice.action) (with_threshold thresholds notice.percent)

-- the actions that notifications give a percentage, in their order
abbrev pub actions_given : List Added → ℕ → List Action
actions_given notices percent = map (λ notice. notice.action) (filter (λ notice. notice.percent == percent) notices)

-- what is removed goes first; then the percentages come, and then the notifications, each in the order in which it was given
abbrev pub changed_thresholds : List ℕ → List ℕ → List Added → List Threshold → List Threshold
changed_thresholds removed percents notices thresholds =
    fold with_notice (fold with_threshold (without_thresholds removed thresholds) percents) notices
