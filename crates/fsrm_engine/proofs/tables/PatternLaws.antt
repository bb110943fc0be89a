-- The patterns of a group that a command gives.
use Rattle.std.proofs.Common.{◌≡◌, ℕ, true, List, length, refl}
use Rattle.std.specs.Prelude.{◌&&◌, nat_le, nat_lt, Option, Some, None, IfSome}
use Rattle.std.specs.List.{list_all}
use Rattle.std.specs.Option.{option_map_or}
use Rattle.file_groups.specs.Kept.{AreMembers, AreNonMembers}
use Rattle.fsrm_base.proofs.TestLaws.{both, le_is, lt_is}
use Rattle.fsrm_model.specs.values.Limits.{most_patterns}
use Rattle.fsrm_model.specs.values.Patterns.{is_pattern, are_members, are_non_members}

-- each of them is a pattern
pub members_legal : (texts : List (List ℕ)) → are_members texts ≡ true → list_all is_pattern texts ≡ true
members_legal texts h = (both (nat_lt 0 (length texts) && nat_le (length texts) most_patterns) (list_all is_pattern texts) h).1

pub others_legal : (texts : List (List ℕ)) → are_non_members texts ≡ true → list_all is_pattern texts ≡ true
others_legal texts h = (both (nat_le (length texts) most_patterns) (list_all is_pattern texts) h).1

-- and there are as many as there may be
pub members_few : (texts : List (List ℕ)) → are_members texts ≡ true → AreMembers texts
members_few texts h =
    let some = nat_lt 0 (length texts) in
    let few = nat_le (length texts) most_patterns in
    let halves = both (some && few) (list_all is_pattern texts) h in
    let counts = both some few halves.0 in
    (lt_is 0 (length texts) counts.0, le_is (length texts) most_patterns counts.1)

pub others_few : (texts : List (List ℕ)) → are_non_members texts ≡ true → AreNonMembers texts
others_few texts h = le_is (length texts) most_patterns (both (nat_le (length texts) most_patterns) (list_all is_pattern texts) h).0

-- ---- patterns that may be given
pub given_legal : (given : Option (List (List ℕ))) → option_map_or are_members given true ≡ true → option_map_or (list_all is_pattern) given true ≡ true
given_legal None h = refl
given_legal (Some texts) h = members_legal texts h

pub given_others_legal : (given : Option (List (List ℕ))) → option_map_or are_non_members given true ≡ true → option_map_or (list_all is_pattern) given true ≡ true
given_others_legal None h = refl
given_others_legal (Some texts) h = others_legal texts h

pub given_few : (given : Option (List (List ℕ))) → option_map_or are_members given true ≡ true → IfSome given AreMembers
given_few None h = tt
given_few (Some texts) h = members_few texts h

pub given_others_few : (given : Option (List (List ℕ))) → option_map_or are_non_members given true ≡ true → IfSome given AreNonMembers
given_others_few None h = tt
given_others_few (Some texts) h = others_few texts h
