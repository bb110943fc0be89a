-- Why a table of groups refuses a change.
use Rattle.std.specs.Prelude.{◌≡◌, ℕ, ◌+◌, nat_lt, nat_le, Bool, List, [], ◌∷◌, length, Option, Some, None}
use Rattle.std.specs.List.{list_any}
use Rattle.std.specs.Option.{option_map_or}
use Rattle.fsrm_model.specs.declared.row.GroupRow.{GroupRow}
use Rattle.fsrm_base.specs.Causes.{◌when◌, first}
use Rattle.fsrm_base.specs.Keyed.{row_of}
use Rattle.fsrm_model.specs.values.Limits.{most_groups}
use Rattle.fsrm_model.specs.values.Patterns.{group_number, has_name, regrouped}
use Rattle.fsrm_model.specs.values.Texts.{group_bytes}
use Rattle.file_groups.specs.declared.answer.GroupFault.{GroupFault}
use Rattle.file_groups.specs.declared.answer.GroupFault.TheVariants.{DuplicateName, TableFull, TextsFull, NoMemory}

-- a fault is the one that is due; it is for want of memory only if none is due
abbrev pub IsFault : GroupFault → Option GroupFault → Type 0
IsFault DuplicateName due = due ≡ Some DuplicateName
IsFault TableFull due = due ≡ Some TableFull
IsFault TextsFull due = due ≡ Some TextsFull
IsFault NoMemory due = due ≡ None

-- why a group of this name can't be added, whose texts are too long or not
abbrev pub new_fault : List GroupRow → List ℕ → Bool → Option GroupFault
new_fault groups name is_long =
    first ((DuplicateName when list_any (has_name name) groups)
    ∷ (TableFull when nat_le most_groups (length groups))
    ∷ (TextsFull when is_long) ∷ [])

-- why a group can't be added, if so many bytes of texts may still come
abbrev pub group_fault : List GroupRow → GroupRow → ℕ → Option GroupFault
group_fault groups group room = new_fault groups group.name (nat_lt room (group_bytes group))

-- why the group of a number can't have these patterns: with what they replace there is no room for its texts
abbrev pub patterns_fault : List GroupRow → ℕ → Option (List (List ℕ)) → Option (List (List ℕ)) → ℕ → Option GroupFault
patterns_fault groups number members non_members room =
    option_map_or (λ group. TextsFull when nat_lt (room + group_bytes group) (group_bytes (regrouped members non_members group))) (row_of group_number number groups) None
