-- The commands on file groups: each one's work is orderly, and leaves the rows of a store if no check refuses.
use Rattle.std.proofs.Common.{◌≡◌, ℕ, ◌<◌, ◌≤◌, ◌==◌, nat_lt, Bool, true, false, not, ◌&&◌, List, [], ◌∷◌, length, Option, Some, None, refl, sym, ◌∙◌, arith}
use Rattle.std.specs.Prelude.{find, sum_by, unwrap_or}
use Rattle.std.specs.List.{list_any}
use Rattle.std.specs.Option.{option_map_or}
use Rattle.fsrm_base.specs.Keyed.{least_free}
use Rattle.fsrm_base.specs.Numbers.{is_in}
use Rattle.fsrm_base.proofs.Look.{is_some-find, is_some-mapped, has_row-change}
use Rattle.fsrm_base.proofs.Order.{least_free_is, length-with_row}
use Rattle.fsrm_base.proofs.TestLaws.{both, both_true, neither, ge_is, lt_test}
use Rattle.fsrm_model.specs.declared.command.FilegroupChange.{FilegroupChange}
use Rattle.fsrm_model.specs.declared.command.NewFilegroup.{NewFilegroup}
use Rattle.fsrm_model.specs.declared.command.Refusal.TheVariants.{DuplicateName, NotFound, InUse, TableFull, TextsFull}
use Rattle.fsrm_model.specs.declared.row.Capacity.{Capacity}
use Rattle.fsrm_model.specs.declared.row.GroupRow.{GroupRow}
use Rattle.fsrm_model.specs.declared.row.Rows.{Rows}
use Rattle.fsrm_model.specs.commands.Commands.{is_new_filegroup, is_filegroup_change}
use Rattle.fsrm_model.specs.commands.Check.{◌when◌, groups_full, texts_full}
use Rattle.fsrm_model.specs.commands.GroupWork.{is_group_named, group_at, is_used, group_add_work, group_modify_work, group_delete_work, group_list_work}
use Rattle.fsrm_model.specs.values.Limits.{most_excepts, most_groups, most_screens, most_text_bytes}
use Rattle.fsrm_model.specs.values.Patterns.{group_number, group_name, is_object_name, are_members, are_non_members, is_group, has_name, new_group, regrouped, with_group, with_patterns, without_group}
use Rattle.fsrm_model.specs.objects.Screens.{screen_folder, except_folder}
use Rattle.fsrm_model.specs.values.Texts.{group_bytes, object_texts}
use Rattle.fsrm_model.specs.nodes.Tree.{is_folder}
use Rattle.fsrm_model.specs.store.Valid.{are_group_numbers, are_groups, is_sound_screen, is_sound_except}
use Rattle.fsrm_model.proofs.commands.Orderly.{IsStill, KeepsValid, change_still, show_still, bare, first_none, when_none}
use Rattle.fsrm_model.proofs.commands.ValueParts.{new_filegroup_parts, filegroup_change_parts}
use Rattle.fsrm_model.proofs.thresholds.KeptLaws.{sum_by-less}
use Rattle.fsrm_model.proofs.valid.NamesApart.{named_parts, named-new, named-change, named-without, there-with_row}
use Rattle.fsrm_model.proofs.valid.RowsKept.{all_stay, nothing_followed, screens_followed}
use Rattle.fsrm_model.proofs.valid.ScreensKept.{HasAll, screen_parts, screen_joined, screens_stay, excepts_stay, table_apart, numbers_without}
use Rattle.fsrm_model.proofs.journal.Alike.{WorksAlike, alike, lasting_alike, texts_same}
use Rattle.fsrm_model.specs.store.Lasting.{lasting}

-- a group of these values
is_group_of : (number : ℕ) (name : List ℕ) (members non_members : List (List ℕ)) → number < most_groups → is_object_name name ≡ true → are_members members ≡ true → are_non_members non_members ≡ true → is_group (record { number = number; name = name; members = members; non_members = non_members }) ≡ true
is_group_of number name members non_members below named some more =
    both_true (nat_lt number most_groups && is_object_name name) (are_members members && are_non_members non_members)
    (both_true (nat_lt number most_groups) (is_object_name name) (lt_test number most_groups below) named)
    (both_true (are_members members) (are_non_members non_members) some more)

-- no group has the name
unnamed : (R : Rows) (name : List ℕ) → is_group_named R name ≡ false → list_any (has_name name) R.groups ≡ false
unnamed R name h = sym (is_some-find (has_name name) R.groups) ∙ (sym (is_some-mapped group_number (find (has_name name) R.groups)) ∙ h)

-- ---- the commands
pub group_add_still : (K : Capacity) (R : Rows) (new : NewFilegroup) → IsStill K R (group_add_work R new)
group_add_still K R new = change_still K R _ _ (bare _ _ refl, (bare _ _ refl, (bare _ _ refl, tt))) refl

pub group_modify_still : (K : Capacity) (R : Rows) (given : FilegroupChange) → IsStill K R (group_modify_work R given)
group_modify_still K R given = change_still K R _ _ (bare _ _ refl, (bare _ _ refl, tt)) refl

pub group_delete_still : (K : Capacity) (R : Rows) (name : List ℕ) → IsStill K R (group_delete_work R name)
group_delete_still K R name = change_still K R _ _ (bare _ _ refl, (bare _ _ refl, tt)) refl

pub group_list_still : (K : Capacity) (R : Rows) → IsStill K R (group_list_work R)
group_list_still K R = show_still K R [] _ tt tt (λ store h. tt)

pub group_add_kept : (K : Capacity) (R : Rows) (new : NewFilegroup) → is_new_filegroup new ≡ true → KeepsValid K R (group_add_work R new)
group_add_kept K R new legal s h =
    let its = new_filegroup_parts new legal in
    let row = new_group R.groups new.name new.members new.non_members in
    let groups = with_group row R.groups in
    let after = record R { groups = groups } in
    let full = groups_full after in
    let long = texts_full after in
    let a = first_none (DuplicateName when is_group_named R new.name) (full ∷ long ∷ []) h in
    let b = first_none full (long ∷ []) a.1 in
    let c = first_none long [] b.1 in
    let t = named_parts group_number group_name most_groups is_group R.groups s.tables.groups in
    let free = least_free_is group_number R.groups t.ascending in
    let most = free.most in
    let few : length groups ≤ most_groups = ge_is _ _ (when_none TableFull (nat_lt most_groups (length groups)) b.0) in
    let none : list_any (has_name new.name) R.groups ≡ false = unnamed R new.name (when_none DuplicateName (is_group_named R new.name) a.0) in
    let is : is_group row ≡ true = is_group_of (least_free group_number R.groups) new.name new.members new.non_members (omega (arith, most, few, length-with_row group_number row R.groups)) its.name its.members its.non_members in
    let are : are_groups groups ≡ true = named-new group_number group_name most_groups is_group row R.groups s.tables.groups free.free none few is in
    screens_followed K R groups R.screens R.excepts s are
    (screens_stay R.nodes R.nodes R.groups groups R.excepts R.screens (all_stay R.nodes) (there-with_row group_number row R.groups free.free) s.tables.screens)
    (excepts_stay R.nodes R.nodes R.groups groups R.excepts (all_stay R.nodes) (there-with_row group_number row R.groups free.free) s.tables.excepts)
    (ge_is _ _ (when_none TextsFull (nat_lt most_text_bytes (object_texts after)) c.0))

-- a list that is given, or the one that is there
members_or : (given : Option (List (List ℕ))) (old : List (List ℕ)) (p : List (List ℕ) → Bool) → option_map_or p given true ≡ true → p old ≡ true → p (unwrap_or given old) ≡ true
members_or None old p legal was = was
members_or (Some given) old p legal was = legal

regrouped_is : (members non_members : Option (List (List ℕ))) (group : GroupRow) → option_map_or are_members members true ≡ true → option_map_or are_non_members non_members true ≡ true → is_group group ≡ true → is_group (regrouped members non_members group) ≡ true
regrouped_is members non_members group some more is =
    let halves = both (nat_lt group.number most_groups && is_object_name group.name) (are_members group.members && are_non_members group.non_members) is in
    let lists = both (are_members group.members) (are_non_members group.non_members) halves.1 in
    both_true (nat_lt group.number most_groups && is_object_name group.name) (are_members (unwrap_or members group.members) && are_non_members (unwrap_or non_members group.non_members)) halves.0
    (both_true (are_members (unwrap_or members group.members)) (are_non_members (unwrap_or non_members group.non_members))
    (members_or members group.members are_members some lists.0) (members_or non_members group.non_members are_non_members more lists.1))

pub group_modify_kept : (K : Capacity) (R : Rows) (given : FilegroupChange) → is_filegroup_change given ≡ true → KeepsValid K R (group_modify_work R given)
group_modify_kept K R given legal s h =
    let its = filegroup_change_parts given legal in
    let n = group_at R given.name in
    let change : GroupRow → GroupRow = regrouped given.members given.non_members in
    let groups = with_patterns n given.members given.non_members R.groups in
    let after = record R { groups = groups } in
    let long = texts_full after in
    let missing = (NotFound when not (is_group_named R given.name)) in
    let a = first_none missing (long ∷ []) h in
    let b = first_none long [] a.1 in
    let are : are_groups groups ≡ true = named-change group_number group_name most_groups is_group n change R.groups s.tables.groups (λ g. refl) (λ g. refl) (λ g found is. regrouped_is given.members given.non_members g its.members its.non_members is) in
    let all : HasAll R.groups groups = λ k there. has_row-change group_number n change (λ g. refl) k R.groups ∙ there in
    screens_followed K R groups R.screens R.excepts s are
    (screens_stay R.nodes R.nodes R.groups groups R.excepts R.screens (all_stay R.nodes) all s.tables.screens)
    (excepts_stay R.nodes R.nodes R.groups groups R.excepts (all_stay R.nodes) all s.tables.excepts)
    (ge_is _ _ (when_none TextsFull (nat_lt most_text_bytes (object_texts after)) b.0))

-- texts of fewer groups
fewer_groups : (R : Rows) (groups : List GroupRow) → sum_by group_bytes groups ≤ sum_by group_bytes R.groups → object_texts R ≤ most_text_bytes → object_texts (record R { groups = groups }) ≤ most_text_bytes
fewer_groups R groups less few = omega (arith, less, few)

pub group_delete_kept : (K : Capacity) (R : Rows) (name : List ℕ) → KeepsValid K R (group_delete_work R name)
group_delete_kept K R name s h =
    let n = group_at R name in
    let groups = without_group n R.groups in
    let used = is_used R n in
    let a = first_none (NotFound when not (is_group_named R name)) ((InUse when used) ∷ []) h in
    let b = first_none (InUse when used) [] a.1 in
    let no = neither (list_any (λ screen. is_in screen.groups n) R.screens) (list_any (λ except. is_in except.groups n) R.excepts) (when_none InUse used b.0) in
    let are : are_groups groups ≡ true = named-without group_number group_name most_groups is_group n R.groups s.tables.groups in
    screens_followed K R groups R.screens R.excepts s are
    (table_apart screen_folder most_screens (λ screen. is_in screen.groups n) (is_sound_screen R.nodes R.groups R.excepts) (is_sound_screen R.nodes groups R.excepts) R.screens s.tables.screens no.0 (λ screen unnamed is.
    let p = screen_parts R.nodes R.groups R.excepts screen is in
    screen_joined R.nodes groups R.excepts screen (record { folder = p.folder; unexcepted = p.unexcepted; numbers = numbers_without R.groups n screen.groups unnamed p.numbers; actions = p.actions })))
    (table_apart except_folder most_excepts (λ except. is_in except.groups n) (is_sound_except R.nodes R.groups) (is_sound_except R.nodes groups) R.excepts s.tables.excepts no.1 (λ except unnamed is.
    let p = both (is_folder R.nodes except.folder) (are_group_numbers R.groups except.groups) is in
    both_true (is_folder R.nodes except.folder) (are_group_numbers groups except.groups) p.0 (numbers_without R.groups n except.groups unnamed p.1)))
    (fewer_groups R groups (sum_by-less group_bytes (λ g. not (group_number g == n)) R.groups) s.texts)

pub group_list_kept : (K : Capacity) (R : Rows) → KeepsValid K R (group_list_work R)
group_list_kept K R s h = nothing_followed K R s

-- ---- over rows and over what is kept of them
pub group_add_alike : (R : Rows) (new : NewFilegroup) → WorksAlike (group_add_work R new) (group_add_work (lasting R) new)
group_add_alike R new =
    let E : Rows = record R { groups = with_group (new_group R.groups new.name new.members new.non_members) R.groups } in
    alike (lasting_alike E) (refl, (refl, (texts_same (lasting_alike E), tt)))

pub group_modify_alike : (R : Rows) (given : FilegroupChange) → WorksAlike (group_modify_work R given) (group_modify_work (lasting R) given)
group_modify_alike R given =
    let E : Rows = record R { groups = with_patterns (group_at R given.name) given.members given.non_members R.groups } in
    alike (lasting_alike E) (refl, (texts_same (lasting_alike E), tt))

pub group_delete_alike : (R : Rows) (name : List ℕ) → WorksAlike (group_delete_work R name) (group_delete_work (lasting R) name)
group_delete_alike R name = alike (lasting_alike (record R { groups = without_group (group_at R name) R.groups })) (refl, (refl, tt))

pub group_list_alike : (R : Rows) → WorksAlike (group_list_work R) (group_list_work (lasting R))
group_list_alike R = alike (lasting_alike R) tt
