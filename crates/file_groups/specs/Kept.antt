-- How a table of groups is held.
use Rattle.std.specs.Prelude.{◌≡◌, ℕ, ◌+◌, ◌*◌, ◌<◌, ◌≤◌, true, List, length, sum_by}
use Rattle.fsrm_model.specs.declared.row.GroupRow.{GroupRow}
use Rattle.fsrm_model.specs.store.Valid.{are_groups}
use Rattle.fsrm_model.specs.values.Limits.{longest_name, most_patterns}
use Rattle.fsrm_model.specs.values.Texts.{group_bytes}
use Rattle.name_patterns.specs.declared.ends.Ends.{Ends}
use Rattle.name_patterns.specs.Ends.{Cover}
use Rattle.file_groups.specs.Folded.{in_some_group}

-- a group has 1 to 64 members, and at most 64 non-members
abbrev pub AreMembers : List (List ℕ) → Type 0
AreMembers texts = (0 < length texts) × (length texts ≤ most_patterns)

abbrev pub AreNonMembers : List (List ℕ) → Type 0
AreNonMembers texts = length texts ≤ most_patterns

-- groups whose numbers, names and patterns are as they may be, in the order of their numbers; no two have one name
abbrev pub AreGroups : List GroupRow → Type 0
AreGroups groups = are_groups groups ≡ true

-- the bytes of the names and patterns of all groups
abbrev pub group_texts : List GroupRow → ℕ
group_texts groups = sum_by group_bytes groups

-- the bytes of the texts of a group whose lists and texts are as long as they may be
abbrev pub most_group_bytes : ℕ
most_group_bytes = longest_name + 2 * (most_patterns * longest_name)

-- groups of which it is known what names in them end with
pub record IsTable (groups : List GroupRow) (ends : Ends) : Type 0 where
  pub are : AreGroups groups
  pub ends_cover : Cover ends (in_some_group groups)
