-- How long the texts of a group are: each has at most 255 bytes, so a group has at most 255 * 129, and those of all groups
-- together fit a u32.
use Rattle.std.proofs.Common.{◌≡◌, ℕ, ◌*◌, ◌≤◌, nat_lt, nat_le, true, List, length, arith}
use Rattle.std.proofs.lemmas.List.Elements.{All-weaker}
use Rattle.std.proofs.lemmas.List.Sums.{AllPass-from_list_all, sum_by-le}
use Rattle.std.specs.List.{list_all}
use Rattle.fsrm_model.specs.declared.row.GroupRow.{GroupRow}
use Rattle.fsrm_model.specs.values.Limits.{most_groups, most_patterns}
use Rattle.fsrm_model.specs.values.Patterns.{are_members, are_non_members, is_group, is_object_byte, is_object_name, is_pattern, is_pattern_byte}
use Rattle.fsrm_model.specs.values.Texts.{group_bytes, texts_bytes}
use Rattle.fsrm_base.proofs.TestLaws.{both, le_is}

pattern_short : (text : List ℕ) → is_pattern text ≡ true → length text ≤ 255
pattern_short text is = le_is _ _ (both (nat_lt 0 (length text)) _ (both _ (list_all is_pattern_byte text) (both _ _ is).0).0).1

texts_within : (texts : List (List ℕ)) → list_all is_pattern texts ≡ true → texts_bytes texts ≤ length texts * 255
texts_within texts are =
    sum_by-le (λ (text : List ℕ). length text) 255 texts
    (All-weaker (λ (text : List ℕ). is_pattern text ≡ true) (λ (text : List ℕ). length text ≤ 255) pattern_short texts (AllPass-from_list_all is_pattern texts are))

pub group_small : (group : GroupRow) → is_group group ≡ true → group_bytes group ≤ 32895
group_small group is =
    let named = both (nat_lt group.number most_groups) (is_object_name group.name) (both _ _ is).0 in
    let name_few = both (nat_lt 0 (length group.name)) _ (both _ (list_all is_object_byte group.name) named.1).0 in
    let lists = both (are_members group.members) (are_non_members group.non_members) (both _ _ is).1 in
    let members = both _ (list_all is_pattern group.members) lists.0 in
    let few = both (nat_lt 0 (length group.members)) (nat_le (length group.members) most_patterns) members.0 in
    let non_members = both (nat_le (length group.non_members) most_patterns) (list_all is_pattern group.non_members) lists.1 in
    omega (arith, le_is _ _ name_few.1, le_is _ _ few.1, le_is _ _ non_members.0, texts_within group.members members.1, texts_within group.non_members non_members.1)
