-- Which names are in groups, and groups in which one has other patterns.
use Rattle.std.proofs.Common.{◌≡◌, ℕ, true, false, ◌||◌, inl, inr, List, Option, Some, None, refl, sym, ◌∙◌, ap}
use Rattle.std.proofs.lemmas.Option.{same_Some}
use Rattle.std.specs.Option.{option_map_or}
use Rattle.fsrm_base.specs.Keyed.{row_of, with_change}
use Rattle.fsrm_base.proofs.EditedTests.{list_any-with_row}
use Rattle.fsrm_base.proofs.Look.{found_key, found_lacks}
use Rattle.fsrm_base.proofs.RowLaws.{change_same}
use Rattle.fsrm_base.proofs.TestLaws.{clash, is_or_not, neither}
use Rattle.fsrm_model.specs.declared.row.GroupRow.{GroupRow}
use Rattle.fsrm_model.specs.values.Limits.{most_groups}
use Rattle.fsrm_model.specs.values.Name.{folded}
use Rattle.fsrm_model.specs.values.Patterns.{group_name, group_number, in_group, in_group_of, is_group, regrouped, with_group, with_patterns}
use Rattle.fsrm_model.proofs.valid.NamesApart.{named-change, named_parts}
use Rattle.name_patterns.proofs.FoldLaws.{some_folded}
use Rattle.file_groups.specs.Folded.{in_group_folded, in_some_group}
use Rattle.file_groups.specs.Kept.{AreGroups}

-- ---- names in groups
-- whether a name is in a group is told by its folded characters
group_folded : (group : GroupRow) (text : List ℕ) → in_group group text ≡ in_group_folded group (folded text)
group_folded group text = rw (some_folded group.members text, some_folded group.non_members text) refl

pub found_in : (groups : List GroupRow) (n : ℕ) (group : GroupRow) (text : List ℕ) → row_of group_number n groups ≡ Some group → in_group_folded group (folded text) ≡ in_group_of groups n text
found_in groups n group text found = sym (ap (λ (o : Option GroupRow). option_map_or (λ g. in_group g text) o false) found ∙ group_folded group text)

-- a name that is in none of the groups is in that of no number
pub in_none : (groups : List GroupRow) (text : List ℕ) → in_some_group groups (folded text) ≡ false → (n : ℕ) → in_group_of groups n text ≡ false
in_none groups text none n = at (row_of group_number n groups) refl
  where
    at : (o : Option GroupRow) → row_of group_number n groups ≡ o → option_map_or (λ g. in_group g text) o false ≡ false
    at None lost = refl
    at (Some group) found = group_folded group text ∙ found_lacks group_number (λ g. in_group_folded g (folded text)) n groups group none found

-- a name in one of the groups, among which a new one is, was in one of the others or is in that one
pub some_new : (row : GroupRow) (groups : List GroupRow) (name : List ℕ) → in_some_group (with_group row groups) name ≡ true → (in_some_group groups name || in_group_folded row name) ≡ true
some_new row groups name is =
    elim (is_or_not (in_some_group groups name || in_group_folded row name)) [
      | inl one ↦ one
      | inr none ↦
          let no = neither (in_some_group groups name) (in_group_folded row name) none in
          absurd (clash _ is (list_any-with_row group_number (λ g. in_group_folded g name) row groups no.1 no.0))
    ]

-- ---- a group with other patterns, in the place of the one of its number
pub record IsRegrouped (groups : List GroupRow) (n : ℕ) (row : GroupRow) (members non_members : Option (List (List ℕ))) : Type 0 where
  pub is : with_change group_number row.number (λ old. row) groups ≡ with_patterns n members non_members groups
  pub are : AreGroups (with_change group_number row.number (λ old. row) groups)

pub regrouped_is : (groups : List GroupRow) (n : ℕ) (old row : GroupRow) (members non_members : Option (List (List ℕ))) → AreGroups groups → row_of group_number n groups ≡ Some old → row ≡ regrouped members non_members old → is_group row ≡ true → IsRegrouped groups n row members non_members
regrouped_is groups n old row members non_members are found made valid =
    let number : row.number ≡ n = ap group_number made ∙ found_key group_number n groups old found in
    let same : with_change group_number row.number (λ old. row) groups ≡ with_patterns n members non_members groups =
    ap (λ m. with_change group_number m (λ old. row) groups) number
    ∙ change_same group_number n (λ (g : GroupRow). row) (regrouped members non_members) groups (named_parts group_number group_name most_groups is_group groups are).ascending
    (λ g is. made ∙ ap (regrouped members non_members) (same_Some old g (sym found ∙ is))) in
    record {
      is = same;
      are =
          rw same (named-change group_number group_name most_groups is_group n (regrouped members non_members) groups are (λ g. refl) (λ g. refl)
          (λ g is own. ap is_group (ap (regrouped members non_members) (same_Some g old (sym is ∙ found)) ∙ sym made) ∙ valid));
    }
