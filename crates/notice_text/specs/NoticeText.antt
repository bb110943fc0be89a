-- The lines of a notice.
use Rattle.std.specs.Prelude.{ℕ, List, [], ◌∷◌, ◌++◌, decimal}
use Rattle.fsrm_model.specs.declared.command.Act.{Act}
use Rattle.fsrm_model.specs.texts.ActionWords.{kind_word}
use Rattle.fsrm_model.specs.texts.ActText.{subject_words}
use Rattle.fsrm_model.specs.texts.Printed.{body_line, deep_line}
use Rattle.notice_text.specs.Expand.{Values, expand}

-- what it is of: the date, the kind, a quota with its percentage or a screen, the action's place, and the path
unfoldable pub head_line : Act → Values → List ℕ
head_line act values = body_line (values.date ∷ kind_word act.kind ∷ subject_words act.subject ++ decimal act.place ∷ values.path ∷ [])

unfoldable pub expanded_line : Values → List ℕ → List ℕ
expanded_line values text = deep_line (expand values text ∷ [])

abbrev pub notice_text : Act → Values → List ℕ → List ℕ
notice_text act values text = head_line act values ++ expanded_line values text
