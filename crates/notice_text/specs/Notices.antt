-- The latest notice of each action that ran.
use Rattle.std.specs.Prelude.{ℕ, ◌+◌, nat_le, Bool, List, [], ◌∷◌, ◌++◌, length, flat_map, Option, Some, None, if◌then◌else◌}
use Rattle.std.specs.List.{list_all}
use Rattle.fsrm_model.specs.declared.command.Subject.{Subject}
use Rattle.fsrm_model.specs.declared.command.Subject.TheVariants.{Quota, Screen}
use Rattle.fsrm_model.specs.declared.row.Action.{Action}
use Rattle.fsrm_model.specs.declared.row.QuotaRow.{QuotaRow}
use Rattle.fsrm_model.specs.declared.row.ScreenRow.{ScreenRow}
use Rattle.fsrm_model.specs.declared.row.Threshold.{Threshold}
use Rattle.fsrm_model.specs.values.Limits.{most_actions}
use Rattle.notice_text.specs.declared.notice.Notice.{Notice}
use Rattle.notice_text.specs.Sorted.{sorted_by}

-- the notice of an action at a place of a subject, if it ran at a moment or later
abbrev pub of_run : ℕ → Subject → ℕ → Action → Option ℕ → List Notice
of_run since subject place action None = []
of_run since subject place action (Some moment) =
    if nat_le since moment then record { moment = moment; act = record { subject = subject; place = place; kind = action.kind } } ∷ [] else []

-- those of a subject's actions, whose first stands at this place
abbrev pub of_actions : ℕ → Subject → ℕ → List Action → List Notice
of_actions since subject place [] = []
of_actions since subject place (action ∷ actions) = of_run since subject place action action.last_run ++ of_actions since subject (place + 1) actions

abbrev pub of_threshold : ℕ → ℕ → Threshold → List Notice
of_threshold since folder threshold = of_actions since (Quota folder threshold.percent) 0 threshold.actions

abbrev pub of_quota : ℕ → QuotaRow → List Notice
of_quota since quota = flat_map (of_threshold since quota.folder) quota.thresholds

abbrev pub of_screen : ℕ → ScreenRow → List Notice
of_screen since screen = of_actions since (Screen screen.folder) 0 screen.actions

-- quotas before screens, each by its folder, its percentages and its places
abbrev pub by_subject : ℕ → List QuotaRow → List ScreenRow → List Notice
by_subject since quotas screens = flat_map (of_quota since) quotas ++ flat_map (of_screen since) screens

abbrev pub moment_of : Notice → ℕ
moment_of notice = notice.moment

-- in the order of their moments
unfoldable pub notices : ℕ → List QuotaRow → List ScreenRow → List Notice
notices since quotas screens = sorted_by moment_of (by_subject since quotas screens)

-- lists that places of 16 bits are enough for
abbrev pub is_short : List Action → Bool
is_short actions = nat_le (length actions) most_actions

abbrev pub has_short_lists : QuotaRow → Bool
has_short_lists quota = list_all (λ (threshold : Threshold). is_short threshold.actions) quota.thresholds

abbrev pub is_short_screen : ScreenRow → Bool
is_short_screen screen = is_short screen.actions
