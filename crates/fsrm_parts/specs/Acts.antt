-- The actions that acts name, among the quotas and screens of the tables.
use Rattle.std.specs.Prelude.{◌≡◌, ℕ, List, [], slice_get, Some}
use Rattle.std.specs.Option.{option_map_or}
use Rattle.fsrm_base.specs.Keyed.{row_of}
use Rattle.fsrm_model.specs.declared.command.Act.{Act}
use Rattle.fsrm_model.specs.declared.command.Subject.{Subject}
use Rattle.fsrm_model.specs.declared.command.Subject.TheVariants.{Quota, Screen}
use Rattle.fsrm_model.specs.declared.row.Action.{Action}
use Rattle.fsrm_model.specs.objects.Quota.{folder_of}
use Rattle.fsrm_model.specs.objects.Screens.{screen_folder}
use Rattle.fsrm_model.specs.objects.Thresholds.{actions_at}
use Rattle.fsrm_objects.specs.Tables.{Tables}

-- the actions of a subject
abbrev pub actions_in : Tables → Subject → List Action
actions_in tables (Quota folder percent) = option_map_or (λ quota. actions_at quota.thresholds percent) (row_of folder_of folder tables.quotas) []
actions_in tables (Screen folder) = option_map_or (λ screen. screen.actions) (row_of screen_folder folder tables.screens) []

-- an act's action is there
pub record IsActOf (tables : Tables) (act : Act) : Type 0 where
  pub action : Action
  pub there : slice_get (actions_in tables act.subject) act.place ≡ Some action

-- the text of the action that an act names
abbrev pub text_in : Tables → Act → List ℕ
text_in tables act = option_map_or (λ action. action.text) (slice_get (actions_in tables act.subject) act.place) []
