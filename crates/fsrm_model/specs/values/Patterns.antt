-- Patterns of file names, and file groups, which they make up (MS-FSRM, IFsrmFileGroup).
use Rattle.std.specs.Prelude.{ℕ, ◌==◌, ◌&&◌, ◌||◌, nat_lt, nat_le, Bool, true, false, not, List, [], ◌∷◌, length, find, option_map, unwrap_or, Option, bytes_eq, chars, codes, if◌then◌else◌}
use Rattle.std.specs.List.{list_any, list_all}
use Rattle.std.specs.Option.{option_map_or}
use Rattle.ucd_case.specs.CaseFolding.{simple_fold}
use Rattle.fsrm_model.specs.declared.row.GroupRow.{GroupRow}
use Rattle.fsrm_base.specs.Keyed.{row_of, with_row, with_change, without_row, least_free}
use Rattle.fsrm_model.specs.values.Limits.{longest_name, most_groups, most_patterns}
use Rattle.fsrm_model.specs.values.Name.{is_name_byte, is_named, names_differ}

-- ---- patterns, over the characters of a name
-- whether some end of a name passes a test: the whole name, what is left after its first character, and so on to the empty end
abbrev pub some_end : (List ℕ → Bool) → List ℕ → Bool
some_end test [] = test []
some_end test (c ∷ cs) = test (c ∷ cs) || some_end test cs

-- whether a character of a pattern stands for one of a name: `?` for each, another one for those that fold as it does
abbrev pub stands_for : ℕ → ℕ → Bool
stands_for p c = (p == 63) || (simple_fold p == simple_fold c)

-- whether a name begins with a character that this one stands for, and its rest passes a test
abbrev pub one_then : ℕ → (List ℕ → Bool) → List ℕ → Bool
one_then p test [] = false
one_then p test (c ∷ cs) = stands_for p c && test cs

-- whether a name matches: `*` stands for any characters, also for none, and each other one for one
abbrev pub matches : List ℕ → List ℕ → Bool
matches [] [] = true
matches [] (c ∷ cs) = false
matches (p ∷ ps) cs = if p == 42 then some_end (matches ps) cs else one_then p (matches ps) cs

-- the pattern that is meant: `*.*` means `*`, so it matches names without a dot too
abbrev pub meant : List ℕ → List ℕ
meant pattern = if bytes_eq pattern (codes "*.*") then codes "*" else pattern

-- whether a name's text matches a pattern's
abbrev pub pattern_matches : List ℕ → List ℕ → Bool
pattern_matches name pattern = matches (chars (meant pattern)) (chars name)

-- a byte that may stand in a pattern: one of a name, `*` or `?`
abbrev pub is_pattern_byte : ℕ → Bool
is_pattern_byte b = is_name_byte b || ((b == 42) || (b == 63))

-- whether a text, which is UTF-8, is a pattern: 1 to 255 bytes, but neither . nor ..
abbrev pub is_pattern : List ℕ → Bool
is_pattern text =
    ((nat_lt 0 (length text) && nat_le (length text) longest_name) && list_all is_pattern_byte text)
    && not (bytes_eq text (codes ".") || bytes_eq text (codes ".."))

-- ---- groups
-- whether a name is in a group: some member matches it, and no non-member does
abbrev pub in_group : GroupRow → List ℕ → Bool
in_group group name =
    list_any (pattern_matches name) group.members && not (list_any (pattern_matches name) group.non_members)

-- a byte that may stand in the name of an object: no control character of ASCII (0 to 31 and 127), and no |
abbrev pub is_object_byte : ℕ → Bool
is_object_byte b = (nat_le 32 b && not (b == 127)) && not (b == 124)

-- whether a text, which is UTF-8, is the name of an object (a template, a group or a report job): 1 to 255 bytes
abbrev pub is_object_name : List ℕ → Bool
is_object_name text =
    (nat_lt 0 (length text) && nat_le (length text) longest_name) && list_all is_object_byte text

abbrev pub group_number : GroupRow → ℕ
group_number group = group.number

abbrev pub group_name : GroupRow → List ℕ
group_name group = group.name

-- the members of a group are 1 to 64 patterns, and its non-members at most 64
abbrev pub are_members : List (List ℕ) → Bool
are_members texts = (nat_lt 0 (length texts) && nat_le (length texts) most_patterns) && list_all is_pattern texts

abbrev pub are_non_members : List (List ℕ) → Bool
are_non_members texts = nat_le (length texts) most_patterns && list_all is_pattern texts

-- what a group has, whatever stands beside it. Its number is 0 to 1,023
abbrev pub is_group : GroupRow → Bool
is_group group =
    (nat_lt group.number most_groups && is_object_name group.name)
    && (are_members group.members && are_non_members group.non_members)

-- whether a group has a name, in any spelling, and the number of the one that has it
abbrev pub has_name : List ℕ → GroupRow → Bool
has_name name group = is_named group_name name group

abbrev pub number_named : List ℕ → List GroupRow → Option ℕ
number_named name groups = option_map group_number (find (has_name name) groups)

-- whether each name is that of one group only
abbrev pub are_apart : List GroupRow → Bool
are_apart groups = names_differ group_name groups

-- whether a name is in the group of a number
abbrev pub in_group_of : List GroupRow → ℕ → List ℕ → Bool
in_group_of groups number name = option_map_or (λ group. in_group group name) (row_of group_number number groups) false

-- ---- tables of groups, ascending by number
-- a new group takes the least number that is free
abbrev pub new_group : List GroupRow → List ℕ → List (List ℕ) → List (List ℕ) → GroupRow
new_group groups name members non_members =
    record { number = least_free group_number groups; name = name; members = members; non_members = non_members }

abbrev pub with_group : GroupRow → List GroupRow → List GroupRow
with_group group groups = with_row group_number group groups

-- a group with other members, other non-members, or both
abbrev pub regrouped : Option (List (List ℕ)) → Option (List (List ℕ)) → GroupRow → GroupRow
regrouped members non_members group =
    record group { members = unwrap_or members group.members; non_members = unwrap_or non_members group.non_members }

abbrev pub with_patterns : ℕ → Option (List (List ℕ)) → Option (List (List ℕ)) → List GroupRow → List GroupRow
with_patterns number members non_members groups = with_change group_number number (regrouped members non_members) groups

abbrev pub without_group : ℕ → List GroupRow → List GroupRow
without_group number groups = without_row group_number number groups
