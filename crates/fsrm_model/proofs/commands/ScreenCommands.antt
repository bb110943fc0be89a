-- The commands on screens and exceptions: each one's work is orderly, and leaves the rows of a store if no check refuses.
use Rattle.std.proofs.Common.{◌≡◌, ℕ, ◌<◌, ◌≤◌, ◌==◌, nat_lt, nat_le, Bool, true, false, cond, not, ◌||◌, ◌&&◌, List, [], ◌∷◌, ◌++◌, length, Option, Some, None, refl, sym, ◌∙◌, ap, arith}
use Rattle.std.proofs.lemmas.List.Folds.{list_all-append}
use Rattle.std.specs.Prelude.{is_some, is_none, find, filter, fold, option_map, sum_by, if◌then◌else◌}
use Rattle.std.specs.List.{list_all, list_any, cons_option}
use Rattle.std.specs.Option.{option_map_or}
use Rattle.fsrm_base.specs.Keyed.{has_row, is_ascending, with_row, with_change, without_row}
use Rattle.fsrm_base.specs.Numbers.{is_in, each_once, without_numbers}
use Rattle.fsrm_base.proofs.EditedTests.{list_all-filter, list_any-filter}
use Rattle.fsrm_base.proofs.Look.{is_some-find, found_has, found_own, has_row-new_other}
use Rattle.fsrm_base.proofs.NumberLaws.{in_filter}
use Rattle.fsrm_base.proofs.TestLaws.{both, both_true, and_false, is_false, neither, ge_is, lt_test, le_test}
use Rattle.fsrm_model.specs.declared.command.NewException.{NewException}
use Rattle.fsrm_model.specs.declared.command.NewScreen.{NewScreen}
use Rattle.fsrm_model.specs.declared.command.Refusal.TheVariants.{PathNotFound, NotFound, AlreadyExists, InvalidCombination, OutOfRange, TableFull, TextsFull}
use Rattle.fsrm_model.specs.declared.command.ScreenChange.{ScreenChange}
use Rattle.fsrm_model.specs.declared.row.Action.{Action}
use Rattle.fsrm_model.specs.declared.row.Capacity.{Capacity}
use Rattle.fsrm_model.specs.declared.row.ExceptRow.{ExceptRow}
use Rattle.fsrm_model.specs.declared.row.GroupRow.{GroupRow}
use Rattle.fsrm_model.specs.declared.row.Rows.{Rows}
use Rattle.fsrm_model.specs.declared.row.ScreenRow.{ScreenRow}
use Rattle.fsrm_model.specs.commands.Check.{◌when◌, screens_full, excepts_full, texts_full}
use Rattle.fsrm_model.specs.commands.Commands.{are_some_names, is_new_screen, is_new_exception}
use Rattle.fsrm_model.specs.nodes.FileOps.{target}
use Rattle.fsrm_model.specs.nodes.Leads.{leads_to_folder}
use Rattle.fsrm_model.specs.values.Limits.{latest_moment, most_actions, most_excepts, most_groups, most_screen_groups, most_screens, most_text_bytes}
use Rattle.fsrm_model.specs.values.Patterns.{group_number, is_object_name, is_group, has_name, number_named, are_apart}
use Rattle.fsrm_model.specs.objects.Screens.{screen_folder, except_folder, screen_of, except_of}
use Rattle.fsrm_model.specs.commands.ScreenWork.{are_named, numbers_named, with_last, changed_groups, may_be_taken, are_many_groups, new_screen, screen_add_work, rescreened, groups_of, screen_modify_work, screen_delete_work, screen_list_work, new_except, except_add_work, except_delete_work, except_list_work}
use Rattle.fsrm_model.specs.values.Texts.{action_bytes, object_texts}
use Rattle.fsrm_model.specs.objects.Thresholds.{is_action, is_new_action, is_kept_action}
use Rattle.fsrm_model.specs.nodes.Tree.{is_folder}
use Rattle.fsrm_model.specs.store.Valid.{are_groups, are_group_numbers, is_sound_screen, is_sound_except, are_screens}
use Rattle.fsrm_model.proofs.commands.FileParts.{folder_at}
use Rattle.fsrm_model.proofs.commands.Orderly.{IsStill, KeepsValid, change_still, show_still, bare, first_none, when_none, not_false}
use Rattle.fsrm_model.proofs.commands.ValueParts.{new_screen_parts}
use Rattle.fsrm_model.proofs.thresholds.KeptLaws.{sum_by-less, sum_by-same}
use Rattle.fsrm_model.proofs.thresholds.ThresholdLaws.{kept_by_all}
use Rattle.fsrm_model.proofs.valid.QueueKept.{once_more}
use Rattle.fsrm_model.proofs.valid.RowsKept.{nothing_followed, screens_followed}
use Rattle.fsrm_model.proofs.valid.ScreensKept.{all_weaker, number_parts, numbers_joined, screen_at, screen_parts, screen_joined, table-new, table-change, table-without, table_apart, table_stays}
use Rattle.fsrm_model.proofs.journal.Alike.{WorksAlike, alike, lasting_alike, texts_same}
use Rattle.fsrm_model.specs.store.Lasting.{lasting}

-- ---- the groups that are named
-- a group that has a name is there
number_there : (groups : List GroupRow) (name : List ℕ) (o : Option GroupRow) (n : ℕ) → is_ascending group_number groups ≡ true → find (has_name name) groups ≡ o → option_map group_number o ≡ Some n → has_row group_number n groups ≡ true
number_there groups name None n asc e h = absurd (cc h)
number_there groups name (Some group) n asc e h =
    let same : group.number ≡ n = cc h in
    ap (λ k. has_row group_number k groups) (sym same)
    ∙ found_has group_number group.number groups group (found_own group_number (has_name name) groups group asc e)

numbers_there : (groups : List GroupRow) (names : List (List ℕ)) → is_ascending group_number groups ≡ true → list_all (λ n. has_row group_number n groups) (numbers_named groups names) ≡ true
numbers_there groups [] asc = refl
numbers_there groups (name ∷ names) asc = at (number_named name groups) refl (numbers_there groups names asc)
  where
    there : ℕ → Bool
    there n = has_row group_number n groups

    at : (o : Option ℕ) → number_named name groups ≡ o → list_all there (numbers_named groups names) ≡ true → list_all there (cons_option o (numbers_named groups names)) ≡ true
    at None e rest = rest
    at (Some n) e rest = both_true (there n) (list_all there (numbers_named groups names)) (number_there groups name (find (has_name name) groups) n asc refl e) rest

-- some name gives a number
numbers_some : (groups : List GroupRow) (names : List (List ℕ)) → nat_lt 0 (length names) ≡ true → are_named groups names ≡ true → 0 < length (numbers_named groups names)
numbers_some groups [] some named = absurd (cc some)
numbers_some groups (name ∷ names) some named =
    at (number_named name groups) (both (is_some (number_named name groups)) (list_all (λ n. is_some (number_named n groups)) names) named).0
  where
    at : (o : Option ℕ) → is_some o ≡ true → 0 < length (cons_option o (numbers_named groups names))
    at None h = absurd (cc h)
    at (Some n) h = omega arith

-- ---- lists of groups that grow
once_last : (numbers : List ℕ) (n : ℕ) → each_once numbers ≡ true → each_once (with_last numbers n) ≡ true
once_last numbers n once = at (is_in numbers n) refl
  where
    at : (b : Bool) → is_in numbers n ≡ b → each_once (cond b numbers (numbers ++ n ∷ [])) ≡ true
    at true e = once
    at false e = once_more numbers n e once

once_filter : (p : ℕ → Bool) (numbers : List ℕ) → each_once numbers ≡ true → each_once (filter p numbers) ≡ true
once_filter p [] once = refl
once_filter p (n ∷ ns) once =
    let parts = both (not (is_in ns n)) (each_once ns) once in
    at (p n) parts.0 (once_filter p ns parts.1)
  where
    at : (b : Bool) → not (is_in ns n) ≡ true → each_once (filter p ns) ≡ true → each_once (cond b (n ∷ filter p ns) (filter p ns)) ≡ true
    at true fresh rest =
        both_true (not (is_in (filter p ns) n)) (each_once (filter p ns))
        (ap not (in_filter p ns n ∙ (ap (λ b. p n && b) (is_false (is_in ns n) fresh) ∙ and_false (p n)))) rest
    at false fresh rest = rest

all_last : (p : ℕ → Bool) (numbers : List ℕ) (n : ℕ) → p n ≡ true → list_all p numbers ≡ true → list_all p (with_last numbers n) ≡ true
all_last p numbers n own h = at (is_in numbers n)
  where
    at : (b : Bool) → list_all p (cond b numbers (numbers ++ n ∷ [])) ≡ true
    at true = h
    at false = list_all-append p numbers (n ∷ []) ∙ both_true (list_all p numbers) (p n && true) h (both_true (p n) true own refl)

all_fold : (p : ℕ → Bool) (start added : List ℕ) → list_all p added ≡ true → list_all p start ≡ true → list_all p (fold with_last start added) ≡ true
all_fold p start [] h g = g
all_fold p start (n ∷ ns) h g =
    let parts = both (p n) (list_all p ns) h in
    all_fold p (with_last start n) ns parts.1 (all_last p start n parts.0 g)

some_last : (numbers : List ℕ) (n : ℕ) → 0 < length numbers → 0 < length (with_last numbers n)
some_last numbers n h = at (is_in numbers n)
  where
    more : (xs : List ℕ) → 0 < length (xs ++ n ∷ [])
    more [] = omega arith
    more (x ∷ xs) = omega arith

    at : (b : Bool) → 0 < length (cond b numbers (numbers ++ n ∷ []))
    at true = h
    at false = more numbers

some_fold : (added : List ℕ) → 0 < length added → 0 < length (fold with_last [] added)
some_fold [] h = absurd (omega (arith, h))
some_fold (n ∷ ns) h = kept_by_all (λ numbers. 0 < length numbers) with_last some_last (n ∷ []) ns (omega arith)

-- what a changed list of groups is
changed_once : (removed added groups : List ℕ) → each_once groups ≡ true → each_once (changed_groups removed added groups) ≡ true
changed_once removed added groups once =
    kept_by_all (λ numbers. each_once numbers ≡ true) with_last once_last (without_numbers removed groups) added (once_filter (λ k. not (is_in removed k)) groups once)

changed_all : (p : ℕ → Bool) (removed added groups : List ℕ) → list_all p added ≡ true → list_all p groups ≡ true → list_all p (changed_groups removed added groups) ≡ true
changed_all p removed added groups h g = all_fold p (without_numbers removed groups) added h (list_all-filter p (λ k. not (is_in removed k)) groups g)

-- the order of the groups of a store
groups_ascend : (groups : List GroupRow) → are_groups groups ≡ true → is_ascending group_number groups ≡ true
groups_ascend groups h =
    (both (is_ascending group_number groups) (nat_le (length groups) most_groups) (both (is_ascending group_number groups && nat_le (length groups) most_groups) (list_all is_group groups && are_apart groups) h).0).0

-- numbers that are neither none nor too many
numbers_are : (groups : List GroupRow) (numbers : List ℕ) → 0 < length numbers → are_many_groups numbers ≡ false → each_once numbers ≡ true → list_all (λ n. has_row group_number n groups) numbers ≡ true → are_group_numbers groups numbers ≡ true
numbers_are groups numbers some few once there =
    numbers_joined groups numbers (record {
      size = both_true (nat_lt 0 (length numbers)) (nat_le (length numbers) most_screen_groups) (lt_test 0 (length numbers) some) (le_test (length numbers) most_screen_groups (ge_is most_screen_groups (length numbers) few));
      once = once;
      there = there;
    })

-- the groups of a new screen or exception
named_are : (R : Rows) (names : List (List ℕ)) → are_groups R.groups ≡ true → are_some_names names ≡ true → are_named R.groups names ≡ true → are_many_groups (changed_groups [] (numbers_named R.groups names) []) ≡ false → are_group_numbers R.groups (changed_groups [] (numbers_named R.groups names) []) ≡ true
named_are R names h legal named few =
    let added = numbers_named R.groups names in
    let some = (both (nat_lt 0 (length names)) (list_all is_object_name names) legal).0 in
    numbers_are R.groups (changed_groups [] added []) (some_fold added (numbers_some R.groups names some named)) few (changed_once [] added [] refl)
    (changed_all (λ n. has_row group_number n R.groups) [] added [] (numbers_there R.groups names (groups_ascend R.groups h)) refl)

-- actions that never ran
new_kept : (action : Action) → is_new_action action ≡ true → is_kept_action action ≡ true
new_kept action h = at action.last_run h
  where
    at : (o : Option ℕ) → (is_action action && is_none o) ≡ true → (is_action action && option_map_or (λ run. nat_le run latest_moment) o true) ≡ true
    at None h = h
    at (Some run) h = absurd (cc (both (is_action action) false h).1)

-- ---- screens
pub screen_add_still : (K : Capacity) (R : Rows) (new : NewScreen) → IsStill K R (screen_add_work R new)
screen_add_still K R new =
    change_still K R _ _ (bare _ _ refl, (bare _ _ refl, (bare _ _ refl, (bare _ _ refl, (bare _ _ refl, (bare _ _ refl, (bare _ _ refl, tt))))))) refl

pub screen_modify_still : (K : Capacity) (R : Rows) (given : ScreenChange) → IsStill K R (screen_modify_work R given)
screen_modify_still K R given =
    change_still K R _ _ (bare _ _ refl, (bare _ _ refl, (bare _ _ refl, (bare _ _ refl, (bare _ _ refl, (bare _ _ refl, tt)))))) refl

pub screen_delete_still : (K : Capacity) (R : Rows) (path : List (List ℕ)) → IsStill K R (screen_delete_work R path)
screen_delete_still K R path = change_still K R _ _ (bare _ _ refl, (bare _ _ refl, tt)) refl

pub screen_list_still : (K : Capacity) (R : Rows) → IsStill K R (screen_list_work R)
screen_list_still K R = show_still K R [] _ tt tt (λ store h. tt)

pub screen_add_kept : (K : Capacity) (R : Rows) (new : NewScreen) → is_new_screen new ≡ true → KeepsValid K R (screen_add_work R new)
screen_add_kept K R new legal s h =
    let its = new_screen_parts new legal in
    let folder = target R.nodes new.path in
    let groups = changed_groups [] (numbers_named R.groups new.groups) [] in
    let row = new_screen folder new.active groups new.actions in
    let screens = with_row screen_folder row R.screens in
    let after = record R { screens = screens } in
    let long = texts_full after in
    let full = screens_full after in
    let many = (OutOfRange when (are_many_groups groups || nat_lt most_actions (length new.actions))) in
    let missing = (NotFound when not (are_named R.groups new.groups)) in
    let both_there = (InvalidCombination when is_some (except_of R folder)) in
    let taken = (AlreadyExists when is_some (screen_of R folder)) in
    let a = first_none (PathNotFound when not (leads_to_folder R.nodes new.path)) (taken ∷ both_there ∷ missing ∷ many ∷ full ∷ long ∷ []) h in
    let b = first_none taken (both_there ∷ missing ∷ many ∷ full ∷ long ∷ []) a.1 in
    let c = first_none both_there (missing ∷ many ∷ full ∷ long ∷ []) b.1 in
    let d = first_none missing (many ∷ full ∷ long ∷ []) c.1 in
    let e = first_none many (full ∷ long ∷ []) d.1 in
    let f = first_none full (long ∷ []) e.1 in
    let g = first_none long [] f.1 in
    let absent : has_row screen_folder folder R.screens ≡ false = sym (is_some-find (λ s. screen_folder s == folder) R.screens) ∙ when_none AlreadyExists (is_some (screen_of R folder)) b.0 in
    let unexcepted : has_row except_folder folder R.excepts ≡ false = sym (is_some-find (λ e. except_folder e == folder) R.excepts) ∙ when_none InvalidCombination (is_some (except_of R folder)) c.0 in
    let named = not_false (are_named R.groups new.groups) (when_none NotFound (not (are_named R.groups new.groups)) d.0) in
    let few = neither (are_many_groups groups) (nat_lt most_actions (length new.actions)) (when_none OutOfRange (are_many_groups groups || nat_lt most_actions (length new.actions)) e.0) in
    let room : length screens ≤ most_screens = ge_is _ _ (when_none TableFull (nat_lt most_screens (length screens)) f.0) in
    let sound : is_sound_screen R.nodes R.groups R.excepts row ≡ true = screen_joined R.nodes R.groups R.excepts row (record {
      folder = folder_at R.nodes new.path a.0;
      unexcepted = unexcepted;
      numbers = named_are R new.groups s.tables.groups its.groups named few.0;
      actions = both_true (nat_le (length new.actions) most_actions) (list_all is_kept_action new.actions) (le_test (length new.actions) most_actions (ge_is most_actions (length new.actions) few.1)) (all_weaker is_new_action is_kept_action new.actions new_kept its.actions);
    }) in
    screens_followed K R R.groups screens R.excepts s s.tables.groups
    (table-new screen_folder most_screens (is_sound_screen R.nodes R.groups R.excepts) row R.screens s.tables.screens absent room sound)
    s.tables.excepts
    (ge_is _ _ (when_none TextsFull (nat_lt most_text_bytes (object_texts after)) g.0))

-- the groups that a folder's screen has
record AreOld (R : Rows) (groups : List ℕ) : Type 0 where
  once : each_once groups ≡ true
  there : list_all (λ n. has_row group_number n R.groups) groups ≡ true

old_groups : (R : Rows) (folder : ℕ) → are_screens R.nodes R.groups R.excepts R.screens ≡ true → AreOld R (groups_of R folder)
old_groups R folder h = at (screen_of R folder) refl
  where
    at : (o : Option ScreenRow) → screen_of R folder ≡ o → AreOld R (option_map_or (λ (screen : ScreenRow). screen.groups) o [])
    at None e = record { once = refl; there = refl }
    at (Some screen) e =
        let p = number_parts R.groups screen.groups (screen_at R.nodes R.groups R.excepts R.screens folder screen h e).numbers in
        record { once = p.once; there = p.there }

-- texts of screens of which one changed and kept its actions
changed_texts : (R : Rows) (folder : ℕ) (active : Option Bool) (groups : List ℕ) → object_texts R ≤ most_text_bytes → object_texts (record R { screens = with_change screen_folder folder (rescreened active groups) R.screens }) ≤ most_text_bytes
changed_texts R folder active groups few =
    let own : ScreenRow → ℕ = λ screen. action_bytes screen.actions in
    let same : sum_by own (with_change screen_folder folder (rescreened active groups) R.screens) ≡ sum_by own R.screens = sum_by-same own (λ s. if screen_folder s == folder then rescreened active groups s else s) (λ s. at s (screen_folder s == folder)) R.screens in
    omega (arith, same, few)
  where
    at : (s : ScreenRow) (b : Bool) → action_bytes (cond b (rescreened active groups s) s).actions ≡ action_bytes s.actions
    at s true = refl
    at s false = refl

some_length : (numbers : List ℕ) → (length numbers == 0) ≡ false → 0 < length numbers
some_length [] h = absurd (cc h)
some_length (n ∷ ns) h = omega arith

pub screen_modify_kept : (K : Capacity) (R : Rows) (given : ScreenChange) → KeepsValid K R (screen_modify_work R given)
screen_modify_kept K R given s h =
    let folder = target R.nodes given.path in
    let before = groups_of R folder in
    let gone = numbers_named R.groups given.removed in
    let groups = changed_groups gone (numbers_named R.groups given.groups) before in
    let lost = (PathNotFound when not (leads_to_folder R.nodes given.path)) in
    let none = (NotFound when is_none (screen_of R folder)) in
    let unknown = (NotFound when not (are_named R.groups given.removed && are_named R.groups given.groups)) in
    let other = (NotFound when not (may_be_taken gone before)) in
    let empty = (InvalidCombination when (length groups == 0)) in
    let many = (OutOfRange when are_many_groups groups) in
    let a = first_none lost (none ∷ unknown ∷ other ∷ empty ∷ many ∷ []) h in
    let b = first_none none (unknown ∷ other ∷ empty ∷ many ∷ []) a.1 in
    let c = first_none unknown (other ∷ empty ∷ many ∷ []) b.1 in
    let d = first_none other (empty ∷ many ∷ []) c.1 in
    let e = first_none empty (many ∷ []) d.1 in
    let f = first_none many [] e.1 in
    let old = old_groups R folder s.tables.screens in
    let numbers : are_group_numbers R.groups groups ≡ true = numbers_are R.groups groups (some_length groups (when_none InvalidCombination (length groups == 0) e.0)) (when_none OutOfRange (are_many_groups groups) f.0)
    (changed_once gone (numbers_named R.groups given.groups) before old.once)
    (changed_all (λ n. has_row group_number n R.groups) gone (numbers_named R.groups given.groups) before (numbers_there R.groups given.groups (groups_ascend R.groups s.tables.groups)) old.there) in
    screens_followed K R R.groups (with_change screen_folder folder (rescreened given.active groups) R.screens) R.excepts s s.tables.groups
    (table-change screen_folder most_screens (is_sound_screen R.nodes R.groups R.excepts) folder (rescreened given.active groups) R.screens s.tables.screens (λ x. refl) (λ x is.
    let p = screen_parts R.nodes R.groups R.excepts x is in
    screen_joined R.nodes R.groups R.excepts (rescreened given.active groups x) (record { folder = p.folder; unexcepted = p.unexcepted; numbers = numbers; actions = p.actions })))
    s.tables.excepts
    (changed_texts R folder given.active groups s.texts)

-- texts of fewer screens
fewer_screens : (R : Rows) (p : ScreenRow → Bool) → object_texts R ≤ most_text_bytes → object_texts (record R { screens = filter p R.screens }) ≤ most_text_bytes
fewer_screens R p few =
    let own : ScreenRow → ℕ = λ screen. action_bytes screen.actions in
    let less : sum_by own (filter p R.screens) ≤ sum_by own R.screens = sum_by-less own p R.screens in
    omega (arith, less, few)

pub screen_delete_kept : (K : Capacity) (R : Rows) (path : List (List ℕ)) → KeepsValid K R (screen_delete_work R path)
screen_delete_kept K R path s h =
    let folder = target R.nodes path in
    screens_followed K R R.groups (without_row screen_folder folder R.screens) R.excepts s s.tables.groups
    (table-without screen_folder most_screens (is_sound_screen R.nodes R.groups R.excepts) (is_sound_screen R.nodes R.groups R.excepts) folder R.screens s.tables.screens (λ x apart is. is))
    s.tables.excepts
    (fewer_screens R (λ x. not (screen_folder x == folder)) s.texts)

pub screen_list_kept : (K : Capacity) (R : Rows) → KeepsValid K R (screen_list_work R)
screen_list_kept K R s h = nothing_followed K R s

-- ---- exceptions
pub except_add_still : (K : Capacity) (R : Rows) (new : NewException) → IsStill K R (except_add_work R new)
except_add_still K R new =
    change_still K R _ _ (bare _ _ refl, (bare _ _ refl, (bare _ _ refl, (bare _ _ refl, (bare _ _ refl, (bare _ _ refl, tt)))))) refl

pub except_delete_still : (K : Capacity) (R : Rows) (path : List (List ℕ)) → IsStill K R (except_delete_work R path)
except_delete_still K R path = change_still K R _ _ (bare _ _ refl, (bare _ _ refl, tt)) refl

pub except_list_still : (K : Capacity) (R : Rows) → IsStill K R (except_list_work R)
except_list_still K R = show_still K R [] _ tt tt (λ store h. tt)

pub except_add_kept : (K : Capacity) (R : Rows) (new : NewException) → is_new_exception new ≡ true → KeepsValid K R (except_add_work R new)
except_add_kept K R new legal s h =
    let folder = target R.nodes new.path in
    let groups = changed_groups [] (numbers_named R.groups new.groups) [] in
    let row = new_except folder groups in
    let excepts = with_row except_folder row R.excepts in
    let after = record R { excepts = excepts } in
    let full = excepts_full after in
    let many = (OutOfRange when are_many_groups groups) in
    let missing = (NotFound when not (are_named R.groups new.groups)) in
    let both_there = (InvalidCombination when is_some (screen_of R folder)) in
    let taken = (AlreadyExists when is_some (except_of R folder)) in
    let a = first_none (PathNotFound when not (leads_to_folder R.nodes new.path)) (taken ∷ both_there ∷ missing ∷ many ∷ full ∷ []) h in
    let b = first_none taken (both_there ∷ missing ∷ many ∷ full ∷ []) a.1 in
    let c = first_none both_there (missing ∷ many ∷ full ∷ []) b.1 in
    let d = first_none missing (many ∷ full ∷ []) c.1 in
    let e = first_none many (full ∷ []) d.1 in
    let f = first_none full [] e.1 in
    let absent : has_row except_folder folder R.excepts ≡ false = sym (is_some-find (λ e. except_folder e == folder) R.excepts) ∙ when_none AlreadyExists (is_some (except_of R folder)) b.0 in
    let unscreened : list_any (λ screen. screen_folder screen == folder) R.screens ≡ false = sym (is_some-find (λ screen. screen_folder screen == folder) R.screens) ∙ when_none InvalidCombination (is_some (screen_of R folder)) c.0 in
    let named = not_false (are_named R.groups new.groups) (when_none NotFound (not (are_named R.groups new.groups)) d.0) in
    let few = when_none OutOfRange (are_many_groups groups) e.0 in
    let room : length excepts ≤ most_excepts = ge_is _ _ (when_none TableFull (nat_lt most_excepts (length excepts)) f.0) in
    let sound : is_sound_except R.nodes R.groups row ≡ true = both_true (is_folder R.nodes folder) (are_group_numbers R.groups groups) (folder_at R.nodes new.path a.0) (named_are R new.groups s.tables.groups legal named few) in
    screens_followed K R R.groups R.screens excepts s s.tables.groups
    (table_apart screen_folder most_screens (λ screen. screen_folder screen == folder) (is_sound_screen R.nodes R.groups R.excepts) (is_sound_screen R.nodes R.groups excepts) R.screens s.tables.screens unscreened (λ x apart is.
    let p = screen_parts R.nodes R.groups R.excepts x is in
    screen_joined R.nodes R.groups excepts x (record { folder = p.folder; unexcepted = has_row-new_other except_folder row x.folder R.excepts apart ∙ p.unexcepted; numbers = p.numbers; actions = p.actions })))
    (table-new except_folder most_excepts (is_sound_except R.nodes R.groups) row R.excepts s.tables.excepts absent room sound)
    s.texts

pub except_delete_kept : (K : Capacity) (R : Rows) (path : List (List ℕ)) → KeepsValid K R (except_delete_work R path)
except_delete_kept K R path s h =
    let folder = target R.nodes path in
    let keeps : ExceptRow → Bool = λ except. not (except_folder except == folder) in
    let excepts = without_row except_folder folder R.excepts in
    screens_followed K R R.groups R.screens excepts s s.tables.groups
    (table_stays screen_folder most_screens (is_sound_screen R.nodes R.groups R.excepts) (is_sound_screen R.nodes R.groups excepts) R.screens s.tables.screens (λ x is.
    let p = screen_parts R.nodes R.groups R.excepts x is in
    screen_joined R.nodes R.groups excepts x (record { folder = p.folder; unexcepted = list_any-filter (λ except. except_folder except == x.folder) keeps R.excepts p.unexcepted; numbers = p.numbers; actions = p.actions })))
    (table-without except_folder most_excepts (is_sound_except R.nodes R.groups) (is_sound_except R.nodes R.groups) folder R.excepts s.tables.excepts (λ x apart is. is))
    s.texts

pub except_list_kept : (K : Capacity) (R : Rows) → KeepsValid K R (except_list_work R)
except_list_kept K R s h = nothing_followed K R s

-- ---- over rows and over what is kept of them
pub screen_add_alike : (R : Rows) (new : NewScreen) → WorksAlike (screen_add_work R new) (screen_add_work (lasting R) new)
screen_add_alike R new =
    let E : Rows = record R { screens = with_row screen_folder (new_screen (target R.nodes new.path) new.active (changed_groups [] (numbers_named R.groups new.groups) []) new.actions) R.screens } in
    alike (lasting_alike E) (refl, (refl, (refl, (refl, (refl, (refl, (texts_same (lasting_alike E), tt)))))))

pub screen_modify_alike : (R : Rows) (given : ScreenChange) → WorksAlike (screen_modify_work R given) (screen_modify_work (lasting R) given)
screen_modify_alike R given =
    let folder = target R.nodes given.path in
    let groups = changed_groups (numbers_named R.groups given.removed) (numbers_named R.groups given.groups) (groups_of R folder) in
    alike (lasting_alike (record R { screens = with_change screen_folder folder (rescreened given.active groups) R.screens })) (refl, (refl, (refl, (refl, (refl, (refl, tt))))))

pub screen_delete_alike : (R : Rows) (path : List (List ℕ)) → WorksAlike (screen_delete_work R path) (screen_delete_work (lasting R) path)
screen_delete_alike R path = alike (lasting_alike (record R { screens = without_row screen_folder (target R.nodes path) R.screens })) (refl, (refl, tt))

pub screen_list_alike : (R : Rows) → WorksAlike (screen_list_work R) (screen_list_work (lasting R))
screen_list_alike R = alike (lasting_alike R) tt

pub except_add_alike : (R : Rows) (new : NewException) → WorksAlike (except_add_work R new) (except_add_work (lasting R) new)
except_add_alike R new =
    alike (lasting_alike (record R { excepts = with_row except_folder (new_except (target R.nodes new.path) (changed_groups [] (numbers_named R.groups new.groups) [])) R.excepts }))
    (refl, (refl, (refl, (refl, (refl, (refl, tt))))))

pub except_delete_alike : (R : Rows) (path : List (List ℕ)) → WorksAlike (except_delete_work R path) (except_delete_work (lasting R) path)
except_delete_alike R path = alike (lasting_alike (record R { excepts = without_row except_folder (target R.nodes path) R.excepts })) (refl, (refl, tt))

pub except_list_alike : (R : Rows) → WorksAlike (except_list_work R) (except_list_work (lasting R))
except_list_alike R = alike (lasting_alike R) tt
