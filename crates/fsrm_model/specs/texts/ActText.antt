-- The texts of thresholds and of actions: in the list of quotas, in the log of actions, and at the end of a reply.
use Rattle.std.specs.Prelude.{ℕ, ◌==◌, List, [], ◌∷◌, ◌++◌, flat_map, decimal, codes, if◌then◌else◌}
use Rattle.std.specs.Option.{option_map_or}
use Rattle.fsrm_model.specs.declared.command.Act.{Act}
use Rattle.fsrm_model.specs.declared.command.Subject.{Subject}
use Rattle.fsrm_model.specs.declared.command.Subject.TheVariants.{Quota, Screen}
use Rattle.fsrm_model.specs.declared.row.ActRow.{ActRow}
use Rattle.fsrm_model.specs.declared.row.Action.{Action}
use Rattle.fsrm_model.specs.declared.row.Rows.{Rows}
use Rattle.fsrm_model.specs.declared.row.Threshold.{Threshold}
use Rattle.fsrm_model.specs.texts.ActionWords.{kind_word, action_words}
use Rattle.fsrm_model.specs.objects.Acts.{folder_in, action_at}
use Rattle.fsrm_model.specs.values.Date.{date_text}
use Rattle.fsrm_model.specs.texts.Printed.{body_line, deep_line, path_text}

-- a threshold: a line for each of its actions, or one without any
abbrev pub at_lines : List ℕ → List Action → List ℕ
at_lines percent [] = deep_line (codes "at" ∷ percent ∷ [])
at_lines percent (action ∷ actions) = flat_map (λ a. deep_line (codes "at" ∷ percent ∷ action_words a)) (action ∷ actions)

abbrev pub threshold_lines : List Threshold → List ℕ
threshold_lines thresholds = flat_map (λ threshold. at_lines (decimal threshold.percent) threshold.actions) thresholds

-- An entry of the log. That of a screen has no percentage. The folder is a number, since it may be gone
abbrev pub entry_words : ActRow → List (List ℕ)
entry_words entry =
    if entry.percent == 0 then codes "screen" ∷ decimal entry.folder ∷ []
    else codes "quota" ∷ decimal entry.folder ∷ decimal entry.percent ∷ []

abbrev pub entry_line : ActRow → List ℕ
entry_line entry = body_line (date_text entry.moment ∷ entry_words entry ++ kind_word entry.kind ∷ [])

abbrev pub log_lines : List ActRow → List ℕ
log_lines log = flat_map entry_line log

-- an act: what it belongs to, its kind, and, parted by a bar, the folder's path and the action's text
abbrev pub subject_words : Subject → List (List ℕ)
subject_words (Quota folder percent) = codes "quota" ∷ decimal percent ∷ []
subject_words (Screen folder) = codes "screen" ∷ []

abbrev pub text_of : Rows → Act → List ℕ
text_of R act = option_map_or (λ action. action.text) (action_at R act) []

abbrev pub act_line : Rows → Act → List ℕ
act_line R act =
    body_line (codes "act" ∷ subject_words act.subject ++ kind_word act.kind
    ∷ (path_text R.nodes (folder_in act.subject) ++ codes "|" ++ text_of R act) ∷ [])

abbrev pub act_lines : Rows → List Act → List ℕ
act_lines R acts = flat_map (act_line R) acts
