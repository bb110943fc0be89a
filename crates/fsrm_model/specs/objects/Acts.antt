-- Acts, each of which names an action that runs: one of a quota's threshold, or one of a screen (MS-FSRM, IFsrmAction).
use Rattle.std.specs.Prelude.{◌≡◌, ℕ, ◌==◌, ◌&&◌, ◌||◌, not, nat_lt, Bool, true, false, List, [], ◌∷◌, filter, slice_get, Option, Some}
use Rattle.std.specs.List.{list_all, list_any}
use Rattle.std.specs.Option.{option_map_or}
use Rattle.fsrm_model.specs.declared.command.Act.{Act}
use Rattle.fsrm_model.specs.declared.command.Subject.{Subject}
use Rattle.fsrm_model.specs.declared.command.Subject.TheVariants.{Quota, Screen}
use Rattle.fsrm_model.specs.declared.row.Action.{Action}
use Rattle.fsrm_model.specs.declared.row.Rows.{Rows}
use Rattle.fsrm_base.specs.Keyed.{row_of}
use Rattle.fsrm_model.specs.objects.Quota.{quota_of}
use Rattle.fsrm_model.specs.objects.Thresholds.{actions_at}

-- the folder of the quota or the screen, and the percentage of the quota's threshold. A screen has none: 0
abbrev pub folder_in : Subject → ℕ
folder_in (Quota folder percent) = folder
folder_in (Screen folder) = folder

abbrev pub percent_in : Subject → ℕ
percent_in (Quota folder percent) = percent
percent_in (Screen folder) = 0

abbrev pub is_of_quota : Subject → Bool
is_of_quota (Quota folder percent) = true
is_of_quota (Screen folder) = false

-- of acts, those of screens and those of quotas
abbrev pub of_screens : List Act → List Act
of_screens acts = filter (λ act. not (is_of_quota act.subject)) acts

abbrev pub of_quotas : List Act → List Act
of_quotas acts = filter (λ act. is_of_quota act.subject) acts

abbrev pub same_subject : Subject → Subject → Bool
same_subject (Quota folder percent) (Quota other its) = (folder == other) && (percent == its)
same_subject (Screen folder) (Screen other) = folder == other
same_subject one other = false

-- whether one of the acts is of the action at a place of a subject
abbrev pub has_act : List Act → Subject → ℕ → Bool
has_act acts subject place = list_any (λ act. same_subject act.subject subject && (act.place == place)) acts

-- the actions of a subject, and the one that an act names
abbrev pub actions_of : Rows → Subject → List Action
actions_of R (Quota folder percent) = option_map_or (λ quota. actions_at quota.thresholds percent) (quota_of R folder) []
actions_of R (Screen folder) = option_map_or (λ screen. screen.actions) (row_of (λ screen. screen.folder) folder R.screens) []

abbrev pub action_at : Rows → Act → Option Action
action_at R act = slice_get (actions_of R act.subject) act.place

-- an act's action is there, and of its kind
pub record IsAct (R : Rows) (act : Act) : Type 0 where
  pub action : Action
  pub there : action_at R act ≡ Some action
  pub kind_is : act.kind ≡ action.kind

-- the order of the acts of quotas: by folder, percentage and place. Those of one screen have one folder and no percentage, so that
-- they stand in the order of their places
abbrev pub act_before : Act → Act → Bool
act_before a b =
    nat_lt (folder_in a.subject) (folder_in b.subject)
    || ((folder_in a.subject == folder_in b.subject)
    && (nat_lt (percent_in a.subject) (percent_in b.subject)
    || ((percent_in a.subject == percent_in b.subject) && nat_lt a.place b.place)))

-- whether acts stand in this order, each once
abbrev pub are_in_order : List Act → Bool
are_in_order [] = true
are_in_order (act ∷ acts) = list_all (act_before act) acts && are_in_order acts
