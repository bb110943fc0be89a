-- Which names are in groups, by their folded characters.
use Rattle.std.specs.Prelude.{ℕ, ◌&&◌, not, Bool, List}
use Rattle.std.specs.List.{list_any}
use Rattle.fsrm_model.specs.declared.row.GroupRow.{GroupRow}
use Rattle.name_patterns.specs.Folded.{some_matches}

-- whether a folded name is in a group
abbrev pub in_group_folded : GroupRow → List ℕ → Bool
in_group_folded group name = some_matches group.members name && not (some_matches group.non_members name)

-- whether it is in some group
abbrev pub in_some_group : List GroupRow → List ℕ → Bool
in_some_group groups name = list_any (λ group. in_group_folded group name) groups
