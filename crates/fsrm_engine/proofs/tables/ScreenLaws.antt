-- The commands on screens and exceptions: which refusal is due, and what is left.
use Rattle.std.proofs.Common.{◌≡◌, ℕ, ◌+◌, ◌≤◌, ◌==◌, Bool, true, false, cond, not, ◌||◌, ◌&&◌, List, [], ◌∷◌, ◌++◌, length, Option, Some, None, nat_lt, nat_le, refl, ap, sym, ◌∙◌, subst, arith}
use Rattle.std.proofs.lemmas.Bool.Decides.{nat_tests}
use Rattle.std.proofs.lemmas.Option.{same_Some}
use Rattle.std.specs.Borrow.{Bor}
use Rattle.std.specs.Prelude.{fold, is_none, is_some, MatchOption, Result, IfOk}
use Rattle.std.specs.List.{cons_option, list_all}
use Rattle.std.specs.Option.{option_and_then, option_copied, option_map_or}
use Rattle.file_groups.specs.Kept.{group_texts}
use Rattle.templates.specs.Held.{texts_in as template_texts}
use Rattle.fsrm_base.specs.declared.memory.NoMemory.{NoMemory as Wanting}
use Rattle.fsrm_base.specs.Causes.{◌when◌, first}
use Rattle.fsrm_base.specs.Keyed.{has_row, row_of, with_change, with_row, without_row}
use Rattle.fsrm_base.specs.Numbers.{is_in}
use Rattle.fsrm_base.proofs.EditedRows.{sum_by-with_row}
use Rattle.fsrm_base.proofs.Look.{found_has, is_some-find}
use Rattle.fsrm_base.proofs.Order.{length-with_row}
use Rattle.fsrm_base.proofs.RowLaws.{change_same}
use Rattle.fsrm_base.proofs.TestLaws.{both, le_is, nor, not_lt}
use Rattle.fsrm_model.specs.declared.command.Answer.{Answer}
use Rattle.fsrm_model.specs.declared.command.Deed.{Deed}
use Rattle.fsrm_model.specs.declared.command.Deed.TheVariants.{Screen, Exception}
use Rattle.fsrm_model.specs.declared.command.ExceptionDeed.TheVariants.{Add as ExceptionAdd, Delete as ExceptionDelete}
use Rattle.fsrm_model.specs.declared.command.NewException.{NewException}
use Rattle.fsrm_model.specs.declared.command.NewScreen.{NewScreen}
use Rattle.fsrm_model.specs.declared.command.Outcome.TheVariants.{Done}
use Rattle.fsrm_model.specs.declared.command.Refusal.{Refusal}
use Rattle.fsrm_model.specs.declared.command.Refusal.TheVariants as refusal
use Rattle.fsrm_model.specs.declared.command.ScreenChange.{ScreenChange}
use Rattle.fsrm_model.specs.declared.command.ScreenDeed.TheVariants.{Add as ScreenAdd, Modify as ScreenModify, Delete as ScreenDelete}
use Rattle.fsrm_model.specs.declared.row.Action.{Action}
use Rattle.fsrm_model.specs.declared.row.ExceptRow.{ExceptRow}
use Rattle.fsrm_model.specs.declared.row.GroupRow.{GroupRow}
use Rattle.fsrm_model.specs.declared.row.Rows.{Rows}
use Rattle.fsrm_model.specs.declared.row.ScreenRow.{ScreenRow}
use Rattle.fsrm_model.specs.commands.Check.{Check, excepts_full, screens_full, texts_full}
use Rattle.fsrm_model.specs.commands.Commands.{are_some_names}
use Rattle.fsrm_model.specs.nodes.FileOps.{target}
use Rattle.fsrm_model.specs.nodes.Leads.{leads_to_folder}
use Rattle.fsrm_model.specs.values.Limits.{longest_action_text, most_actions, most_excepts, most_screens, most_text_bytes}
use Rattle.fsrm_model.specs.values.Patterns.{number_named}
use Rattle.fsrm_model.specs.objects.Screens.{except_folder, except_of, screen_folder, screen_of}
use Rattle.fsrm_model.specs.commands.ScreenWork.{are_many_groups, are_named, changed_groups, groups_of, may_be_taken, new_except, new_screen, numbers_named, rescreened, screen_checks, with_last}
use Rattle.fsrm_model.specs.texts.Text.{is_bare}
use Rattle.fsrm_model.specs.values.Texts.{object_texts}
use Rattle.fsrm_model.specs.objects.Thresholds.{are_minutes, is_action, is_action_text, is_kept_action, is_new_action, is_printing}
use Rattle.fsrm_model.specs.store.Valid.{is_sound_screen}
use Rattle.fsrm_model.proofs.thresholds.ThresholdLaws.{kept_by_all}
use Rattle.fsrm_model.proofs.valid.ScreensKept.{IsScreen, all_weaker, screen_at, table_parts}
use Rattle.fsrm_objects.specs.declared.answer.ObjectFault.{ObjectFault}
use Rattle.fsrm_objects.specs.declared.answer.ObjectFault.TheVariants as object
use Rattle.fsrm_objects.specs.Tables.{IsFault, Tables, except_fault, has_short_actions, is_short, job_texts, other_screen_fault, screen_bytes, screen_fault, screen_texts, screen_texts_at, quota_texts, with_except, with_other_screen, with_screen, without_except, without_screen}
use Rattle.fsrm_engine.specs.declared.parts.Parts.{Parts}
use Rattle.fsrm_parts.specs.Faults.{table_answer, table_refusal}
use Rattle.fsrm_engine.specs.Faults.{text_room, texts_of}
use Rattle.fsrm_engine.specs.Machine.{Does, IsIdle, IsWhole, ended, rows_of}
use Rattle.fsrm_parts.specs.Places.{IsFolder}
use Rattle.fsrm_parts.proofs.walks.PlaceLaws.{target_is}
use Rattle.fsrm_engine.proofs.steps.StepLaws.{due}
use Rattle.fsrm_engine.proofs.tables.GroupLaws.{retabled_as}
use Rattle.fsrm_engine.proofs.tables.RoomLaws.{fault_refusal, few_texts, full_test, refused_for_as, room_test}
use Rattle.fsrm_parts.proofs.walks.FoundLaws.{on_folder, there}

-- ---- what was found
-- the row of a folder, lent
same_some : {X : Type 0} (o : Option (Bor X)) → is_some (option_copied o) ≡ is_some o
same_some None = refl
same_some (Some x) = refl

pub lent_some : {X : Type 0} (o : Option (Bor X)) (found : Option X) (b t : Bool) → option_copied o ≡ found → b ≡ is_some o → b ≡ t → is_some found ≡ t
lent_some o found b t h is test = sym (ap is_some h) ∙ (same_some o ∙ (sym is ∙ test))

pub lent_there : {X : Type 0} (o : Option (Bor X)) (found : Option X) (b : Bool) → option_copied o ≡ found → is_some o ≡ not b → b ≡ false → is_none found ≡ false
lent_there o found b h is test = ap not (sym (ap is_some h) ∙ (same_some o ∙ (is ∙ ap not test)))

some_there : {X : Type 0} (o : Option X) → is_none o ≡ false → is_some o ≡ true
some_there None h = absurd (cc h)
some_there (Some x) h = refl

pub has_except : (excepts : List ExceptRow) (n : ℕ) → is_none (row_of except_folder n excepts) ≡ false → has_row except_folder n excepts ≡ true
has_except excepts n h = sym (is_some-find (λ e. except_folder e == n) excepts) ∙ some_there (row_of except_folder n excepts) h

-- a list of groups, where a test holds
pub found_groups : (test : Bool) (groups all : List ℕ) (found : Option (List ℕ)) → found ≡ Some all → MatchOption found (test ≡ false) (λ all. (test ≡ true) × (all ≡ groups)) → (test ≡ true) × (all ≡ groups)
found_groups test groups all found is h = subst (λ (o : Option (List ℕ)). MatchOption o (test ≡ false) (λ all. (test ≡ true) × (all ≡ groups))) is h

-- ---- texts of actions
short : (action : Action) → is_action action ≡ true → is_short action ≡ true
short action h =
    let text = both (are_minutes action.minutes) (is_action_text action.text) h in
    (both (nat_le (length action.text) longest_action_text) (list_all is_printing action.text) text.1).0

pub new_short : (actions : List Action) → list_all is_new_action actions ≡ true → list_all is_short actions ≡ true
new_short actions h = all_weaker is_new_action is_short actions (λ a new. short a (both (is_action a) (is_none a.last_run) new).0) h

kept_short : (actions : List Action) → list_all is_kept_action actions ≡ true → list_all is_short actions ≡ true
kept_short actions h = all_weaker is_kept_action is_short actions (λ a kept. short a (both (is_action a) _ kept).0) h

-- ---- the groups that are named
-- some name gives a group
some_last : (numbers : List ℕ) (n : ℕ) → (length numbers == 0) ≡ false → (length (with_last numbers n) == 0) ≡ false
some_last numbers n h = at (is_in numbers n)
  where
    more : (xs : List ℕ) → (length (xs ++ n ∷ []) == 0) ≡ false
    more [] = refl
    more (x ∷ xs) = grind (arith, nat_tests)

    at : (b : Bool) → (length (cond b numbers (numbers ++ n ∷ [])) == 0) ≡ false
    at true = h
    at false = more numbers

some_groups : (groups : List GroupRow) (names : List (List ℕ)) → are_some_names names ≡ true → are_named groups names ≡ true → (length (fold with_last [] (numbers_named groups names)) == 0) ≡ false
some_groups groups [] some named = absurd (cc some)
some_groups groups (name ∷ names) some named =
    at (number_named name groups) (both (is_some (number_named name groups)) (list_all (λ n. is_some (number_named n groups)) names) named).0
  where
    at : (o : Option ℕ) → is_some o ≡ true → (length (fold with_last [] (cons_option o (numbers_named groups names))) == 0) ≡ false
    at None h = absurd (cc h)
    at (Some n) h = kept_by_all (λ numbers. (length numbers == 0) ≡ false) with_last some_last (n ∷ []) (numbers_named groups names) refl

pub screen_due : (R : Rows) (path : List (List ℕ)) (screen : ScreenRow) → IsFolder R.nodes path screen.folder → row_of screen_folder screen.folder R.screens ≡ Some screen → first (screen_checks R path) ≡ None
screen_due R path screen at found = on_folder R path screen.folder (there R) at ∙ ap (λ o. first ((refusal.NotFound when is_none o) ∷ [])) found

-- the refusals that commands on it share are by no quota, and come before others
two_bare : (a b : Bool) (r : Refusal) → first ((refusal.PathNotFound when a) ∷ (refusal.NotFound when b) ∷ []) ≡ Some r → is_bare r ≡ true
two_bare true b r h = sym (ap is_bare (same_Some refusal.PathNotFound r h))
two_bare false true r h = sym (ap is_bare (same_Some refusal.NotFound r h))
two_bare false false r h = cc h

two_first : (a b : Bool) (more : List Check) (r : Refusal) → first ((refusal.PathNotFound when a) ∷ (refusal.NotFound when b) ∷ []) ≡ Some r → first ((refusal.PathNotFound when a) ∷ (refusal.NotFound when b) ∷ more) ≡ Some r
two_first true b more r h = h
two_first false true more r h = h
two_first false false more r h = cc

pub screen_bare : (R : Rows) (path : List (List ℕ)) (r : Refusal) → first (screen_checks R path) ≡ Some r → is_bare r ≡ true
screen_bare R path r h = two_bare (not (leads_to_folder R.nodes path)) (is_none (screen_of R (target R.nodes path))) r h

pub screen_first : (R : Rows) (path : List (List ℕ)) (more : List Check) (r : Refusal) → first (screen_checks R path) ≡ Some r → first (screen_checks R path ++ more) ≡ Some r
screen_first R path more r h = two_first (not (leads_to_folder R.nodes path)) (is_none (screen_of R (target R.nodes path))) more r h

-- ---- what the tables refuse
-- the answer to a command that they refused, if it wasn't for want of memory
pub refused_by : (p : Parts) (m : ℕ) (deed : Deed) (tables : Tables) (fault : ObjectFault) (o : Option ObjectFault) (result : Result Answer Wanting) → IsIdle p → p.last_moment ≤ m → due p m deed ≡ option_and_then table_refusal o → IsFault fault o → tables ≡ p.objects → IfOk result (λ answer. table_answer fault ≡ Some answer) → IfOk result (λ answer. Does p (record p { objects = tables }) m deed answer)
refused_by p m deed tables fault o result idle after h is same given =
    subst (λ (t : Tables). IfOk result (λ answer. Does p (record p { objects = t }) m deed answer)) (sym same)
    (refused_for_as p m deed fault result idle after (h ∙ fault_refusal fault o is) given)

-- a fault that is due, also of want of memory
is_fault : (fault : ObjectFault) (o : Option ObjectFault) → o ≡ Some fault → option_and_then table_refusal o ≡ table_refusal fault
is_fault fault o h = ap (option_and_then table_refusal) h

-- the causes that are left once these two don't hold
five : (c d e : Bool) → first ((refusal.OutOfRange when c) ∷ (refusal.TableFull when d) ∷ (refusal.TextsFull when e) ∷ []) ≡ option_and_then table_refusal (first ((object.OutOfRange when c) ∷ (object.TableFull when d) ∷ (object.TextsFull when e) ∷ []))
five true d e = refl
five false true e = refl
five false false true = refl
five false false false = refl

four : (c d : Bool) → first ((refusal.OutOfRange when c) ∷ (refusal.TableFull when d) ∷ []) ≡ option_and_then table_refusal (first ((object.OutOfRange when c) ∷ (object.TableFull when d) ∷ []))
four true d = refl
four false true = refl
four false false = refl

passed : (a b : Bool) (more : List (Option ObjectFault)) → a ≡ false → b ≡ false → first ((object.AlreadyExists when a) ∷ (object.InvalidCombination when b) ∷ more) ≡ first more
passed a b more h g =
    ap (λ a. first ((object.AlreadyExists when a) ∷ (object.InvalidCombination when b) ∷ more)) h
    ∙ ap (λ b. first ((object.InvalidCombination when b) ∷ more)) g

-- ---- a new screen
module _ (p : Parts) (m : ℕ) (values : NewScreen) (n : ℕ) (at : IsFolder p.tree.nodes values.path n) where
  abbrev deed : Deed
  deed = Screen (ScreenAdd values)

  abbrev groups : List ℕ
  groups = fold with_last [] (numbers_named p.groups values.groups)

  abbrev row_at : ℕ → ScreenRow
  row_at k = new_screen k values.active groups values.actions

  abbrev after : ℕ → Rows
  after k = record (rows_of p) { screens = with_row screen_folder (row_at k) p.objects.screens }

  abbrev late : ℕ → List Check
  late k = (refusal.OutOfRange when (are_many_groups groups || nat_lt most_actions (length values.actions))) ∷ screens_full (after k) ∷ texts_full (after k) ∷ []

  abbrev later : ℕ → List Check
  later k = (refusal.NotFound when not (are_named p.groups values.groups)) ∷ late k

  abbrev checks : ℕ → List Check
  checks k = (refusal.AlreadyExists when is_some (screen_of (rows_of p) k)) ∷ (refusal.InvalidCombination when is_some (except_of (rows_of p) k)) ∷ later k

  own : due p m deed ≡ first (checks n)
  own = on_folder (rows_of p) values.path n checks at

  pub screen_taken : is_some (screen_of (rows_of p) n) ≡ true → due p m deed ≡ Some refusal.AlreadyExists
  screen_taken h = own ∙ ap (λ b. first ((refusal.AlreadyExists when b) ∷ (refusal.InvalidCombination when is_some (except_of (rows_of p) n)) ∷ later n)) h

  module _ (free : is_some (screen_of (rows_of p) n) ≡ false) where
    unscreened : due p m deed ≡ first ((refusal.InvalidCombination when is_some (except_of (rows_of p) n)) ∷ later n)
    unscreened = own ∙ ap (λ b. first ((refusal.AlreadyExists when b) ∷ (refusal.InvalidCombination when is_some (except_of (rows_of p) n)) ∷ later n)) free

    pub screen_excepted : is_some (except_of (rows_of p) n) ≡ true → due p m deed ≡ Some refusal.InvalidCombination
    screen_excepted h = unscreened ∙ ap (λ b. first ((refusal.InvalidCombination when b) ∷ later n)) h

    module _ (bare : is_some (except_of (rows_of p) n) ≡ false) where
      unexcepted : due p m deed ≡ first (later n)
      unexcepted = unscreened ∙ ap (λ b. first ((refusal.InvalidCombination when b) ∷ later n)) bare

      module _ (w : IsWhole p) (some : are_some_names values.groups ≡ true) (named : are_named p.groups values.groups ≡ true) (row : ScreenRow) (is : row ≡ row_at n) (room : ℕ) (room_is : room ≡ text_room p) where
        abbrev test : Bool → Bool → Option Refusal
        test d e = first ((refusal.OutOfRange when (are_many_groups groups || nat_lt most_actions (length values.actions))) ∷ (refusal.TableFull when d) ∷ (refusal.TextsFull when e) ∷ [])

        full : nat_lt most_screens (length (after n).screens) ≡ nat_le most_screens (length p.objects.screens)
        full = full_test most_screens (length p.objects.screens) (length (after n).screens) (length-with_row screen_folder (row_at n) p.objects.screens)

        all_texts : (screens : List ScreenRow) → object_texts (record (rows_of p) { screens = screens }) ≡ screen_texts screens + ((quota_texts p.objects.quotas + job_texts p.objects.jobs + group_texts p.groups) + template_texts p.templates)
        all_texts screens = omega arith

        bytes : nat_lt most_text_bytes (object_texts (after n)) ≡ nat_lt (text_room p) (screen_bytes (row_at n))
        bytes =
            let whole = all_texts (after n).screens in
            let sum : screen_texts (after n).screens ≡ screen_bytes (row_at n) + screen_texts p.objects.screens = sum_by-with_row screen_folder screen_bytes (row_at n) p.objects.screens in
            room_test most_text_bytes (texts_of p) (screen_bytes (row_at n)) (object_texts (after n)) (few_texts p w) (omega (arith, whole, sum))

        unfilled : (has_row except_folder n p.objects.excepts || (length groups == 0)) ≡ false
        unfilled =
            nor (has_row except_folder n p.objects.excepts) (length groups == 0) (sym (is_some-find (λ e. except_folder e == n) p.objects.excepts) ∙ bare)
            (some_groups p.groups values.groups some named)

        left : due p m deed ≡ option_and_then table_refusal (screen_fault p.objects (row_at n) (text_room p))
        left =
            unexcepted
            ∙ (ap (λ b. first ((refusal.NotFound when not b) ∷ late n)) named
            ∙ (ap (λ d. test d (nat_lt most_text_bytes (object_texts (after n)))) full
            ∙ (ap (test (nat_le most_screens (length p.objects.screens))) bytes
            ∙ (five (are_many_groups groups || nat_lt most_actions (length values.actions)) (nat_le most_screens (length p.objects.screens)) (nat_lt (text_room p) (screen_bytes (row_at n)))
            ∙ ap (option_and_then table_refusal)
            (sym (passed (has_row screen_folder n p.objects.screens) (has_row except_folder n p.objects.excepts || (length groups == 0)) _ (sym (is_some-find (λ s. screen_folder s == n) p.objects.screens) ∙ free) unfilled))))))

        add_is : due p m deed ≡ option_and_then table_refusal (screen_fault p.objects row room)
        add_is =
            left
            ∙ (ap (λ r. option_and_then table_refusal (screen_fault p.objects r (text_room p))) (sym is)
            ∙ ap (λ k. option_and_then table_refusal (screen_fault p.objects row k)) (sym room_is))

        module _ (idle : IsIdle p) (in_time : p.last_moment ≤ m) (tables : Tables) where
          pub screen_added : (new : Parts) (answer : Answer) → screen_fault p.objects row room ≡ None → (made : tables ≡ with_screen p.objects row) → new ≡ ended (record p { objects = tables }) m → answer ≡ record { outcome = Done None; lasting = true } → Does p new m deed answer
          screen_added new answer may made ends e =
              retabled_as p p.groups tables w (ap (λ (t : Tables). t.quotas) made) new m deed answer idle in_time (add_is ∙ ap (option_and_then table_refusal) may)
              (ap after (target_is p.tree.nodes values.path n at.resolved)
              ∙ (ap (λ (r : ScreenRow). record (rows_of p) { screens = with_row screen_folder r p.objects.screens }) (sym is)
              ∙ ap (λ (t : Tables). record (rows_of p) { screens = t.screens; excepts = t.excepts; jobs = t.jobs }) (sym made))) refl refl ends e

          pub screen_unadded : (fault : ObjectFault) (result : Result Answer Wanting) → IsFault fault (screen_fault p.objects row room) → tables ≡ p.objects → IfOk result (λ answer. table_answer fault ≡ Some answer) → IfOk result (λ answer. Does p (record p { objects = tables }) m deed answer)
          screen_unadded fault result due_is same told = refused_by p m deed tables fault _ result idle in_time add_is due_is same told

-- ---- a changed one
module _ (p : Parts) (m : ℕ) (values : ScreenChange) (old : ScreenRow) (at : IsFolder p.tree.nodes values.path old.folder) (found : row_of screen_folder old.folder p.objects.screens ≡ Some old) where
  abbrev change : Deed
  change = Screen (ScreenModify values)

  abbrev gone : List ℕ
  gone = numbers_named p.groups values.removed

  abbrev changed : List ℕ → List ℕ
  changed before = changed_groups gone (numbers_named p.groups values.groups) before

  abbrev sized : List ℕ → List Check
  sized groups = (refusal.InvalidCombination when (length groups == 0)) ∷ (refusal.OutOfRange when are_many_groups groups) ∷ []

  abbrev all_named : Bool
  all_named = are_named p.groups values.removed && are_named p.groups values.groups

  abbrev asked_of : List ℕ → List Check
  asked_of before = (refusal.NotFound when not all_named) ∷ (refusal.NotFound when not (may_be_taken gone before)) ∷ sized (changed before)

  own_change : due p m change ≡ first (asked_of old.groups)
  own_change =
      on_folder (rows_of p) values.path old.folder (λ k. (refusal.NotFound when is_none (screen_of (rows_of p) k)) ∷ asked_of (groups_of (rows_of p) k)) at
      ∙ ap (λ o. first ((refusal.NotFound when is_none o) ∷ asked_of (option_map_or (λ (screen : ScreenRow). screen.groups) o []))) found

  module _ (w : IsWhole p) (may : (all_named && may_be_taken gone old.groups) ≡ true) (row : ScreenRow) (is : row ≡ rescreened values.active (changed old.groups) old) (room : ℕ) where
    sound : IsScreen p.tree.nodes p.groups p.objects.excepts old
    sound = screen_at p.tree.nodes p.groups p.objects.excepts p.objects.screens old.folder old w.valid.tables.screens found

    few : nat_lt most_actions (length old.actions) ≡ false
    few = not_lt most_actions (length old.actions) (le_is (length old.actions) most_actions (both (nat_le (length old.actions) most_actions) (list_all is_kept_action old.actions) sound.actions).0)

    pub there_still : has_row screen_folder row.folder p.objects.screens ≡ true
    there_still = ap (λ (r : ScreenRow). has_row screen_folder r.folder p.objects.screens) is ∙ found_has screen_folder old.folder p.objects.screens old found

    pub short_still : has_short_actions row ≡ true
    short_still = ap has_short_actions is ∙ kept_short old.actions (both (nat_le (length old.actions) most_actions) (list_all is_kept_action old.actions) sound.actions).1

    two : (a b c d : Bool) → c ≡ false → d ≡ false → first ((refusal.InvalidCombination when a) ∷ (refusal.OutOfRange when b) ∷ []) ≡ option_and_then table_refusal (first ((object.InvalidCombination when a) ∷ (object.OutOfRange when (b || c)) ∷ (object.TextsFull when d) ∷ []))
    two true b c d h g = refl
    two false true c d h g = refl
    two false false true d h g = absurd (cc h)
    two false false false true h g = absurd (cc g)
    two false false false false h g = refl

    fits : nat_lt (room + screen_texts_at p.objects old.folder) (screen_bytes old) ≡ false
    fits =
        ap (λ o. nat_lt (room + option_map_or screen_bytes o 0) (screen_bytes old)) found
        ∙ not_lt (room + screen_bytes old) (screen_bytes old) (omega arith)

    passing : first (asked_of old.groups) ≡ first (sized (changed old.groups))
    passing =
        let parts = both all_named (may_be_taken gone old.groups) may in
        ap (λ b. first ((refusal.NotFound when not b) ∷ (refusal.NotFound when not (may_be_taken gone old.groups)) ∷ sized (changed old.groups))) parts.0
        ∙ ap (λ b. first ((refusal.NotFound when not b) ∷ sized (changed old.groups))) parts.1

    change_is : due p m change ≡ option_and_then table_refusal (other_screen_fault p.objects row room)
    change_is =
        own_change
        ∙ (passing
        ∙ (two (length (changed old.groups) == 0) (are_many_groups (changed old.groups)) (nat_lt most_actions (length old.actions)) (nat_lt (room + screen_texts_at p.objects old.folder) (screen_bytes old)) few fits
        ∙ ap (λ r. option_and_then table_refusal (other_screen_fault p.objects r room)) (sym is)))

    put_is : with_change screen_folder row.folder (λ r. row) p.objects.screens ≡ with_change screen_folder old.folder (rescreened values.active (changed old.groups)) p.objects.screens
    put_is =
        ap (λ (r : ScreenRow). with_change screen_folder r.folder (λ o. r) p.objects.screens) is
        ∙ change_same screen_folder old.folder (λ r. rescreened values.active (changed old.groups) old) (rescreened values.active (changed old.groups)) p.objects.screens
        (table_parts screen_folder most_screens (is_sound_screen p.tree.nodes p.groups p.objects.excepts) p.objects.screens w.valid.tables.screens).ascending
        (λ r h. ap (rescreened values.active (changed old.groups)) (same_Some old r (sym found ∙ h)))

    module _ (idle : IsIdle p) (in_time : p.last_moment ≤ m) (tables : Tables) where
      pub screen_changed : (new : Parts) (answer : Answer) → other_screen_fault p.objects row room ≡ None → tables ≡ with_other_screen p.objects row → new ≡ ended (record p { objects = tables }) m → answer ≡ record { outcome = Done None; lasting = true } → Does p new m change answer
      screen_changed new answer none made ends e =
          let R = rows_of p in
          retabled_as p p.groups tables w (ap (λ (t : Tables). t.quotas) made) new m change answer idle in_time (change_is ∙ ap (option_and_then table_refusal) none)
          (ap (λ k. record R { screens = with_change screen_folder k (rescreened values.active (changed (groups_of R k))) R.screens }) (target_is p.tree.nodes values.path old.folder at.resolved)
          ∙ (ap (λ o. record R { screens = with_change screen_folder old.folder (rescreened values.active (changed (option_map_or (λ (screen : ScreenRow). screen.groups) o []))) R.screens }) found
          ∙ (ap (λ (screens : List ScreenRow). record R { screens = screens }) (sym put_is)
          ∙ ap (λ (t : Tables). record R { screens = t.screens; excepts = t.excepts; jobs = t.jobs }) (sym made)))) refl refl ends e

      pub screen_unchanged : (fault : ObjectFault) (result : Result Answer Wanting) → other_screen_fault p.objects row room ≡ Some fault → tables ≡ p.objects → IfOk result (λ answer. table_answer fault ≡ Some answer) → IfOk result (λ answer. Does p (record p { objects = tables }) m change answer)
      screen_unchanged fault result due_is same given =
          subst (λ (t : Tables). IfOk result (λ answer. Does p (record p { objects = t }) m change answer)) (sym same)
          (refused_for_as p m change fault result idle in_time (change_is ∙ is_fault fault _ due_is) given)

-- ---- a screen goes
pub screen_deleted : (p new : Parts) (m : ℕ) (path : List (List ℕ)) (screen : ScreenRow) (tables : Tables) (answer : Answer) → IsWhole p → IsIdle p → p.last_moment ≤ m → IsFolder p.tree.nodes path screen.folder → row_of screen_folder screen.folder p.objects.screens ≡ Some screen → tables ≡ without_screen p.objects screen.folder → new ≡ ended (record p { objects = tables }) m → answer ≡ record { outcome = Done None; lasting = true } → Does p new m (Screen (ScreenDelete path)) answer
screen_deleted p new m path screen tables answer w idle after at found made ends e =
    let R = rows_of p in
    retabled_as p p.groups tables w (ap (λ (t : Tables). t.quotas) made) new m (Screen (ScreenDelete path)) answer idle after (screen_due R path screen at found)
    (ap (λ k. record R { screens = without_row screen_folder k R.screens }) (target_is p.tree.nodes path screen.folder at.resolved)
    ∙ ap (λ (t : Tables). record R { screens = t.screens; excepts = t.excepts; jobs = t.jobs }) (sym made)) refl refl ends e

-- ---- a new exception
module _ (p : Parts) (m : ℕ) (values : NewException) (n : ℕ) (at : IsFolder p.tree.nodes values.path n) where
  abbrev adding : Deed
  adding = Exception (ExceptionAdd values)

  abbrev passing_groups : List ℕ
  passing_groups = fold with_last [] (numbers_named p.groups values.groups)

  abbrev except_at : ℕ → ExceptRow
  except_at k = new_except k passing_groups

  abbrev excepted : ℕ → Rows
  excepted k = record (rows_of p) { excepts = with_row except_folder (except_at k) p.objects.excepts }

  abbrev last : ℕ → List Check
  last k = (refusal.OutOfRange when are_many_groups passing_groups) ∷ excepts_full (excepted k) ∷ []

  abbrev named_last : ℕ → List Check
  named_last k = (refusal.NotFound when not (are_named p.groups values.groups)) ∷ last k

  own_except : due p m adding ≡ first ((refusal.AlreadyExists when is_some (except_of (rows_of p) n)) ∷ (refusal.InvalidCombination when is_some (screen_of (rows_of p) n)) ∷ named_last n)
  own_except = on_folder (rows_of p) values.path n (λ k. (refusal.AlreadyExists when is_some (except_of (rows_of p) k)) ∷ (refusal.InvalidCombination when is_some (screen_of (rows_of p) k)) ∷ named_last k) at

  module _ (free : is_some (except_of (rows_of p) n) ≡ false) where
    untaken : due p m adding ≡ first ((refusal.InvalidCombination when is_some (screen_of (rows_of p) n)) ∷ named_last n)
    untaken = own_except ∙ ap (λ b. first ((refusal.AlreadyExists when b) ∷ (refusal.InvalidCombination when is_some (screen_of (rows_of p) n)) ∷ named_last n)) free

    module _ (bare : is_some (screen_of (rows_of p) n) ≡ false) where
      unmet : due p m adding ≡ first (named_last n)
      unmet = untaken ∙ ap (λ b. first ((refusal.InvalidCombination when b) ∷ named_last n)) bare

      module _ (some : are_some_names values.groups ≡ true) (named : are_named p.groups values.groups ≡ true) (row : ExceptRow) (is : row ≡ except_at n) where
        grown : nat_lt most_excepts (length (excepted n).excepts) ≡ nat_le most_excepts (length p.objects.excepts)
        grown = full_test most_excepts (length p.objects.excepts) (length (excepted n).excepts) (length-with_row except_folder (except_at n) p.objects.excepts)

        filled : (has_row screen_folder n p.objects.screens || (length passing_groups == 0)) ≡ false
        filled =
            nor (has_row screen_folder n p.objects.screens) (length passing_groups == 0) (sym (is_some-find (λ s. screen_folder s == n) p.objects.screens) ∙ bare)
            (some_groups p.groups values.groups some named)

        adding_is : due p m adding ≡ option_and_then table_refusal (except_fault p.objects row)
        adding_is =
            unmet
            ∙ (ap (λ b. first ((refusal.NotFound when not b) ∷ last n)) named
            ∙ (ap (λ d. first ((refusal.OutOfRange when are_many_groups passing_groups) ∷ (refusal.TableFull when d) ∷ [])) grown
            ∙ (four (are_many_groups passing_groups) (nat_le most_excepts (length p.objects.excepts))
            ∙ (ap (option_and_then table_refusal)
            (sym (passed (has_row except_folder n p.objects.excepts) (has_row screen_folder n p.objects.screens || (length passing_groups == 0)) _ (sym (is_some-find (λ e. except_folder e == n) p.objects.excepts) ∙ free) filled))
            ∙ ap (λ r. option_and_then table_refusal (except_fault p.objects r)) (sym is)))))

        module _ (w : IsWhole p) (idle : IsIdle p) (in_time : p.last_moment ≤ m) (tables : Tables) where
          pub except_added : (new : Parts) (answer : Answer) → except_fault p.objects row ≡ None → tables ≡ with_except p.objects row → new ≡ ended (record p { objects = tables }) m → answer ≡ record { outcome = Done None; lasting = true } → Does p new m adding answer
          except_added new answer may made ends e =
              retabled_as p p.groups tables w (ap (λ (t : Tables). t.quotas) made) new m adding answer idle in_time (adding_is ∙ ap (option_and_then table_refusal) may)
              (ap excepted (target_is p.tree.nodes values.path n at.resolved)
              ∙ (ap (λ (r : ExceptRow). record (rows_of p) { excepts = with_row except_folder r p.objects.excepts }) (sym is)
              ∙ ap (λ (t : Tables). record (rows_of p) { screens = t.screens; excepts = t.excepts; jobs = t.jobs }) (sym made))) refl refl ends e

          pub except_unadded : (fault : ObjectFault) (result : Result Answer Wanting) → IsFault fault (except_fault p.objects row) → tables ≡ p.objects → IfOk result (λ answer. table_answer fault ≡ Some answer) → IfOk result (λ answer. Does p (record p { objects = tables }) m adding answer)
          except_unadded fault result due_is same told = refused_by p m adding tables fault _ result idle in_time adding_is due_is same told

-- ---- an exception goes
module _ (p : Parts) (m : ℕ) (path : List (List ℕ)) (n : ℕ) (at : IsFolder p.tree.nodes path n) where
  except_due : (b : Bool) → is_none (except_of (rows_of p) n) ≡ b → due p m (Exception (ExceptionDelete path)) ≡ first ((refusal.NotFound when b) ∷ [])
  except_due b h =
      on_folder (rows_of p) path n (λ k. (refusal.NotFound when is_none (except_of (rows_of p) k)) ∷ []) at
      ∙ ap (λ b. first ((refusal.NotFound when b) ∷ [])) h

  pub except_deleted : (new : Parts) (tables : Tables) (answer : Answer) → IsWhole p → IsIdle p → p.last_moment ≤ m → is_none (except_of (rows_of p) n) ≡ false → tables ≡ without_except p.objects n → new ≡ ended (record p { objects = tables }) m → answer ≡ record { outcome = Done None; lasting = true } → Does p new m (Exception (ExceptionDelete path)) answer
  except_deleted new tables answer w idle after there_is made ends e =
      let R = rows_of p in
      retabled_as p p.groups tables w (ap (λ (t : Tables). t.quotas) made) new m (Exception (ExceptionDelete path)) answer idle after (except_due false there_is)
      (ap (λ k. record R { excepts = without_row except_folder k R.excepts }) (target_is p.tree.nodes path n at.resolved)
      ∙ ap (λ (t : Tables). record R { screens = t.screens; excepts = t.excepts; jobs = t.jobs }) (sym made)) refl refl ends e
