-- Commands on file groups whose values are legal have a spelling, of the length that the definitions count.
use Rattle.std.proofs.Common.{◌≡◌, ℕ, ◌+◌, Bool, true, false, List, length, Option, Some, None, refl, ◌∙◌, arith}
use Rattle.std.specs.Prelude.{◌&&◌, is_some, sum_by}
use Rattle.std.specs.Option.{option_map_or}
use Rattle.std.specs.Str.{is_utf8}
use Rattle.fsrm_base.proofs.TestLaws.{both, both_true}
use Rattle.fsrm_model.specs.commands.Commands.{form_of_filegroup, is_new_filegroup, is_filegroup_change}
use Rattle.fsrm_model.specs.commands.Entry.{path_bytes, text_bytes, counted, optional}
use Rattle.fsrm_model.specs.declared.command.FilegroupChange.{FilegroupChange}
use Rattle.fsrm_model.specs.declared.command.FilegroupDeed.{FilegroupDeed}
use Rattle.fsrm_model.specs.declared.command.FilegroupDeed.TheVariants.{Add as FilegroupAdd, Modify as FilegroupModify, Delete as FilegroupDelete}
use Rattle.fsrm_model.specs.declared.command.NewFilegroup.{NewFilegroup}
use Rattle.fsrm_model.specs.values.Patterns.{is_object_name, are_members, are_non_members}
use Rattle.record_fields.specs.Formats.{number_spelled, text_spelled, optional_legal, optional_spelled, listed_spelled}
use Rattle.record_codec.specs.Fields.{members, non_members}
use Rattle.record_codec.specs.Filegroups.{filegroup_kind_in, filegroup_deed, filegroup_spelled, filegroup_typed, new_filegroup, new_filegroup_typed, filegroup_change, filegroup_change_typed}
use Rattle.record_codec.specs.Typed.{all_typed, some_typed}
use Rattle.record_codec.proofs.Legal.{object_name_legal, members_legal, non_members_legal, one_byte, two, text_long, texts_long, option_long}

new_filegroup_legal : (new : NewFilegroup) → is_new_filegroup new ≡ true → new_filegroup_typed new ≡ true → new_filegroup.legal new ≡ true
new_filegroup_legal new is typed =
    let l = both (is_object_name new.name) (are_members new.members && are_non_members new.non_members) is in
    let p = both (are_members new.members) (are_non_members new.non_members) l.1 in
    let t = both (is_utf8 new.name) (all_typed is_utf8 new.members && all_typed is_utf8 new.non_members) typed in
    let u = both (all_typed is_utf8 new.members) (all_typed is_utf8 new.non_members) t.1 in
    both_true _ _ (object_name_legal new.name l.0 t.0) (both_true _ _ (members_legal new.members p.0 u.0) (non_members_legal new.non_members p.1 u.1))

members_given : (o : Option (List (List ℕ))) → option_map_or are_members o true ≡ true → some_typed (all_typed is_utf8) o ≡ true → optional_legal false members o ≡ true
members_given None are utf8 = refl
members_given (Some texts) are utf8 = members_legal texts are utf8

non_members_given : (o : Option (List (List ℕ))) → option_map_or are_non_members o true ≡ true → some_typed (all_typed is_utf8) o ≡ true → optional_legal false non_members o ≡ true
non_members_given None are utf8 = refl
non_members_given (Some texts) are utf8 = non_members_legal texts are utf8

filegroup_change_legal : (change : FilegroupChange) → is_filegroup_change change ≡ true → filegroup_change_typed change ≡ true → filegroup_change.legal change ≡ true
filegroup_change_legal change is typed =
    let l = both (is_object_name change.name) (option_map_or are_members change.members true && option_map_or are_non_members change.non_members true) is in
    let p = both (option_map_or are_members change.members true) (option_map_or are_non_members change.non_members true) l.1 in
    let t = both (is_utf8 change.name) (some_typed (all_typed is_utf8) change.members && some_typed (all_typed is_utf8) change.non_members) typed in
    let u = both (some_typed (all_typed is_utf8) change.members) (some_typed (all_typed is_utf8) change.non_members) t.1 in
    both_true _ _ (object_name_legal change.name l.0 t.0) (both_true _ _ (members_given change.members p.0 u.0) (non_members_given change.non_members p.1 u.1))

-- whether a command's values are legal, if it has a kind
abbrev pub filegroup_is_legal : FilegroupDeed → Bool
filegroup_is_legal deed = option_map_or (λ k. (filegroup_deed k).legal deed) (filegroup_kind_in deed) true

-- the bytes of a command after its kind
abbrev pub filegroup_bytes : FilegroupDeed → ℕ
filegroup_bytes deed = sum_by path_bytes (form_of_filegroup deed).paths + option_map_or (λ entry. entry.bytes) (form_of_filegroup deed).entry 0

pub filegroup_legal : (deed : FilegroupDeed) → (form_of_filegroup deed).legal ≡ true → filegroup_typed deed ≡ true → filegroup_is_legal deed ≡ true
filegroup_legal (FilegroupAdd new) is typed = new_filegroup_legal new is typed
filegroup_legal (FilegroupModify change) is typed = filegroup_change_legal change is typed
filegroup_legal (FilegroupDelete name) is typed = object_name_legal name is typed
filegroup_legal other is typed = refl

patterns_given : (o : Option (List (List ℕ))) → length (optional_spelled (listed_spelled (number_spelled 2) text_spelled) o) ≡ optional (counted text_bytes) o
patterns_given o = option_long (listed_spelled (number_spelled 2) text_spelled) (counted text_bytes) texts_long o

pub filegroup_long : (deed : FilegroupDeed) → is_some (filegroup_kind_in deed) ≡ true → length (filegroup_spelled deed) ≡ 1 + filegroup_bytes deed
filegroup_long (FilegroupAdd new) there =
    two _ _ _ _ (one_byte 40) (two _ _ _ _ (text_long new.name) (two _ _ _ _ (texts_long new.members) (texts_long new.non_members))) ∙ omega arith
filegroup_long (FilegroupModify change) there =
    two _ _ _ _ (one_byte 41) (two _ _ _ _ (text_long change.name) (two _ _ _ _ (patterns_given change.members) (patterns_given change.non_members))) ∙ omega arith
filegroup_long (FilegroupDelete name) there = two _ _ _ _ (one_byte 42) (text_long name) ∙ omega arith
filegroup_long other there = absurd (cc there)
