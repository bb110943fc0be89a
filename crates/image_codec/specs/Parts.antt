-- The limits that rows meet, as far as their spelling rests on them: how long texts are, and how many items lists have.
use Rattle.std.specs.Prelude.{ℕ, ◌&&◌, nat_le, Bool, true, List, length, Option}
use Rattle.std.specs.List.{list_all}
use Rattle.std.specs.Option.{option_map_or}
use Rattle.fsrm_model.specs.declared.row.Action.{Action}
use Rattle.fsrm_model.specs.declared.row.AutoRow.{AutoRow}
use Rattle.fsrm_model.specs.declared.row.ExceptRow.{ExceptRow}
use Rattle.fsrm_model.specs.declared.row.Filter.{Filter}
use Rattle.fsrm_model.specs.declared.row.GroupRow.{GroupRow}
use Rattle.fsrm_model.specs.declared.row.JobRow.{JobRow}
use Rattle.fsrm_model.specs.declared.row.QuotaRow.{QuotaRow}
use Rattle.fsrm_model.specs.declared.row.ScreenRow.{ScreenRow}
use Rattle.fsrm_model.specs.declared.row.TemplateRow.{TemplateRow}
use Rattle.fsrm_model.specs.declared.row.Threshold.{Threshold}
use Rattle.fsrm_model.specs.values.Limits.{longest_action_text, most_actions, most_thresholds, most_excluded, most_patterns, most_screen_groups}

-- a value of which nothing is asked but its type
abbrev pub any : {X : Type 0} → X → Bool
any x = true

-- a text that is no longer than the longest one of all rows, which is that of an action
abbrev pub is_short : List ℕ → Bool
is_short text = nat_le (length text) longest_action_text

abbrev pub few_meet : {X : Type 0} → ℕ → (X → Bool) → List X → Bool
few_meet most meets xs = nat_le (length xs) most && list_all meets xs

abbrev pub some_meets : {X : Type 0} → (X → Bool) → Option X → Bool
some_meets meets x = option_map_or meets x true

abbrev pub action_meets : Action → Bool
action_meets action = is_short action.text

abbrev pub threshold_meets : Threshold → Bool
threshold_meets threshold = few_meet most_actions action_meets threshold.actions

abbrev pub thresholds_meet : List Threshold → Bool
thresholds_meet thresholds = few_meet most_thresholds threshold_meets thresholds

abbrev pub quota_meets : QuotaRow → Bool
quota_meets quota = thresholds_meet quota.thresholds

abbrev pub template_meets : TemplateRow → Bool
template_meets template = is_short template.name && thresholds_meet template.thresholds

abbrev pub auto_meets : AutoRow → Bool
auto_meets auto = few_meet most_excluded is_short auto.excluded

abbrev pub group_meets : GroupRow → Bool
group_meets group =
    is_short group.name && (few_meet most_patterns is_short group.members && few_meet most_patterns is_short group.non_members)

abbrev pub screen_meets : ScreenRow → Bool
screen_meets screen = few_meet most_screen_groups any screen.groups && few_meet most_actions action_meets screen.actions

abbrev pub except_meets : ExceptRow → Bool
except_meets except = few_meet most_screen_groups any except.groups

abbrev pub filter_meets : Filter → Bool
filter_meets filter = some_meets is_short filter.pattern

abbrev pub job_meets : JobRow → Bool
job_meets job = is_short job.name && (filter_meets job.filter && is_short job.schedule)
