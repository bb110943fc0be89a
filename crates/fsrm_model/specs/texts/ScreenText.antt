-- The texts of file groups, screens and exceptions: their lists.
use Rattle.std.specs.Prelude.{ℕ, Bool, true, false, List, [], ◌∷◌, ◌++◌, flat_map, codes}
use Rattle.std.specs.Option.{option_map_or}
use Rattle.fsrm_base.specs.Keyed.{row_of}
use Rattle.fsrm_model.specs.declared.row.Action.{Action}
use Rattle.fsrm_model.specs.declared.row.ExceptRow.{ExceptRow}
use Rattle.fsrm_model.specs.declared.row.GroupRow.{GroupRow}
use Rattle.fsrm_model.specs.declared.row.NodeRow.{NodeRow}
use Rattle.fsrm_model.specs.declared.row.ScreenRow.{ScreenRow}
use Rattle.fsrm_model.specs.texts.ActionWords.{action_words}
use Rattle.fsrm_model.specs.values.Patterns.{group_number}
use Rattle.fsrm_model.specs.texts.Printed.{body_line, deep_line, labelled_line, path_text}

-- a group: its name, and, each on a line of its own, its patterns as they were given
abbrev pub group_lines : GroupRow → List ℕ
group_lines group =
    body_line (group.name ∷ []) ++ flat_map (labelled_line (codes "member")) group.members
    ++ flat_map (labelled_line (codes "nonmember")) group.non_members

-- the groups of these numbers, by their names
abbrev pub name_at : List GroupRow → ℕ → List ℕ
name_at groups number = option_map_or (λ group. group.name) (row_of group_number number groups) []

abbrev pub named_line : List GroupRow → ℕ → List ℕ
named_line groups number = labelled_line (codes "group") (name_at groups number)

abbrev pub named_lines : List GroupRow → List ℕ → List ℕ
named_lines groups numbers = flat_map (named_line groups) numbers

-- a screen: its folder, its groups, and its actions
abbrev pub mode_word : Bool → List ℕ
mode_word true = codes "active"
mode_word false = codes "passive"

abbrev pub do_line : Action → List ℕ
do_line action = deep_line (codes "do" ∷ action_words action)

abbrev pub screen_lines : List NodeRow → List GroupRow → ScreenRow → List ℕ
screen_lines nodes groups screen =
    body_line (mode_word screen.active ∷ path_text nodes screen.folder ∷ []) ++ named_lines groups screen.groups
    ++ flat_map do_line screen.actions

-- an exception: its folder, and its groups
abbrev pub except_lines : List NodeRow → List GroupRow → ExceptRow → List ℕ
except_lines nodes groups except = body_line (path_text nodes except.folder ∷ []) ++ named_lines groups except.groups
