-- File groups, screens and exceptions stay those of a store when one comes, changes or goes, and when their actions run.
use Rattle.std.proofs.Common.{◌≡◌, ℕ, ◌≤◌, ◌==◌, Bool, true, false, cond, not, ◌&&◌, List, [], ◌∷◌, length, refl, ◌∙◌, ap, arith, Some, nat_lt, nat_le}
use Rattle.std.proofs.lemmas.List.{length-map}
use Rattle.std.proofs.lemmas.List.FromFn.{length-enumerate_from}
use Rattle.std.specs.Prelude.{map, if◌then◌else◌}
use Rattle.std.specs.List.{list_any, list_all, enumerate_from}
use Rattle.fsrm_base.specs.Keyed.{row_of, has_row, is_ascending, with_row, with_change, without_row}
use Rattle.fsrm_base.specs.Numbers.{is_in, each_once}
use Rattle.fsrm_base.proofs.EditedTests.{list_all-with_change, list_all-with_row}
use Rattle.fsrm_base.proofs.Look.{has_row-without_other}
use Rattle.fsrm_base.proofs.Members.{all_found}
use Rattle.fsrm_base.proofs.Order.{ascending-with_row, ascending-change, ascending-filter, ascending-map, length-change}
use Rattle.fsrm_base.proofs.TestLaws.{both, both_true, is_false, neither, le_is, le_test}
use Rattle.fsrm_model.specs.objects.Acts.{has_act}
use Rattle.fsrm_model.specs.declared.command.Act.{Act}
use Rattle.fsrm_model.specs.declared.command.Subject.TheVariants.{Screen}
use Rattle.fsrm_model.specs.declared.row.Action.{Action}
use Rattle.fsrm_model.specs.declared.row.ExceptRow.{ExceptRow}
use Rattle.fsrm_model.specs.declared.row.GroupRow.{GroupRow}
use Rattle.fsrm_model.specs.declared.row.NodeRow.{NodeRow}
use Rattle.fsrm_model.specs.declared.row.ScreenRow.{ScreenRow}
use Rattle.fsrm_model.specs.values.Limits.{latest_moment, most_actions, most_excepts, most_screen_groups, most_screens}
use Rattle.fsrm_model.specs.values.Patterns.{group_number}
use Rattle.fsrm_model.specs.objects.Runs.{run_actions, run_screen}
use Rattle.fsrm_model.specs.objects.Screens.{screen_folder, except_folder}
use Rattle.fsrm_model.specs.objects.Thresholds.{is_kept_action}
use Rattle.fsrm_model.specs.nodes.Tree.{is_folder}
use Rattle.fsrm_model.specs.store.Valid.{are_group_numbers, are_screen_actions, is_sound_screen, are_screens, is_sound_except, are_excepts}
use Rattle.fsrm_model.proofs.thresholds.KeptLaws.{all_from}
use Rattle.fsrm_model.proofs.valid.QuotasKept.{filter_few}

-- ---- tests of all rows
-- rows that pass one test pass another
pub all_weaker : {X : Type 0} (p q : X → Bool) (xs : List X) → ((x : X) → p x ≡ true → q x ≡ true) → list_all p xs ≡ true → list_all q xs ≡ true
all_weaker p q [] k h = refl
all_weaker p q (x ∷ xs) k h =
    let parts = both (p x) (list_all p xs) h in
    both_true (q x) (list_all q xs) (k x parts.0) (all_weaker p q xs k parts.1)

-- and so do those that are left
pub all_left : {X : Type 0} (key : X → ℕ) (n : ℕ) (p q : X → Bool) (xs : List X) → ((x : X) → (key x == n) ≡ false → p x ≡ true → q x ≡ true) → list_all p xs ≡ true → list_all q (without_row key n xs) ≡ true
all_left key n p q [] k h = refl
all_left {X} key n p q (x ∷ xs) k h =
    let parts = both (p x) (list_all p xs) h in
    at (key x == n) refl parts.0 (all_left key n p q xs k parts.1)
  where
    at : (b : Bool) → (key x == n) ≡ b → p x ≡ true → list_all q (without_row key n xs) ≡ true → list_all q (cond (not b) (x ∷ without_row key n xs) (without_row key n xs)) ≡ true
    at true e own rest = rest
    at false e own rest = both_true (q x) (list_all q (without_row key n xs)) (k x e own) rest

pub all_map : {X : Type 0} (p : X → Bool) (g : X → X) (xs : List X) → ((x : X) → p x ≡ true → p (g x) ≡ true) → list_all p xs ≡ true → list_all p (map g xs) ≡ true
all_map p g [] k h = refl
all_map p g (x ∷ xs) k h =
    let parts = both (p x) (list_all p xs) h in
    both_true (p (g x)) (list_all p (map g xs)) (k x parts.0) (all_map p g xs k parts.1)

-- rows of which none passes a test
pub all_apart : {X : Type 0} (p q r : X → Bool) (xs : List X) → ((x : X) → p x ≡ false → q x ≡ true → r x ≡ true) → list_any p xs ≡ false → list_all q xs ≡ true → list_all r xs ≡ true
all_apart p q r [] k h g = refl
all_apart p q r (x ∷ xs) k h g =
    let no = neither (p x) (list_any p xs) h in
    let parts = both (q x) (list_all q xs) g in
    both_true (r x) (list_all r xs) (k x no.0 parts.0) (all_apart p q r xs k no.1 parts.1)

-- ---- a table of rows: in the order of their keys, few enough, and each sound
abbrev is_table : {X : Type 0} → (X → ℕ) → ℕ → (X → Bool) → List X → Bool
is_table key most sound rows = (is_ascending key rows && nat_le (length rows) most) && list_all sound rows

pub record IsTable {X : Type 0} (key : X → ℕ) (most : ℕ) (sound : X → Bool) (rows : List X) : Type 0 where
  pub ascending : is_ascending key rows ≡ true
  pub few : length rows ≤ most
  pub each : list_all sound rows ≡ true

pub table_parts : {X : Type 0} (key : X → ℕ) (most : ℕ) (sound : X → Bool) (rows : List X) → is_table key most sound rows ≡ true → IsTable key most sound rows
table_parts key most sound rows h =
    let halves = both (is_ascending key rows && nat_le (length rows) most) (list_all sound rows) h in
    let order = both (is_ascending key rows) (nat_le (length rows) most) halves.0 in
    record { ascending = order.0; few = le_is (length rows) most order.1; each = halves.1 }

pub table_joined : {X : Type 0} (key : X → ℕ) (most : ℕ) (sound : X → Bool) (rows : List X) → IsTable key most sound rows → is_table key most sound rows ≡ true
table_joined key most sound rows t =
    both_true (is_ascending key rows && nat_le (length rows) most) (list_all sound rows)
    (both_true (is_ascending key rows) (nat_le (length rows) most) t.ascending (le_test (length rows) most t.few)) t.each

pub table-new : {X : Type 0} (key : X → ℕ) (most : ℕ) (sound : X → Bool) (row : X) (rows : List X) → is_table key most sound rows ≡ true → has_row key (key row) rows ≡ false → length (with_row key row rows) ≤ most → sound row ≡ true → is_table key most sound (with_row key row rows) ≡ true
table-new key most sound row rows h absent few own =
    let t = table_parts key most sound rows h in
    table_joined key most sound (with_row key row rows)
    (record { ascending = ascending-with_row key row rows absent t.ascending; few = few; each = list_all-with_row key sound row rows own t.each })

pub table-change : {X : Type 0} (key : X → ℕ) (most : ℕ) (sound : X → Bool) (n : ℕ) (c : X → X) (rows : List X) → is_table key most sound rows ≡ true → ((x : X) → key (c x) ≡ key x) → ((x : X) → sound x ≡ true → sound (c x) ≡ true) → is_table key most sound (with_change key n c rows) ≡ true
table-change key most sound n c rows h keeps is =
    let t = table_parts key most sound rows h in
    let few = t.few in
    table_joined key most sound (with_change key n c rows)
    (record { ascending = ascending-change key n c keeps rows t.ascending; few = omega (arith, few, length-change key n c rows); each = list_all-with_change key sound n c rows t.each is })

pub table-map : {X : Type 0} (key : X → ℕ) (most : ℕ) (sound : X → Bool) (g : X → X) (rows : List X) → is_table key most sound rows ≡ true → ((x : X) → key (g x) ≡ key x) → ((x : X) → sound x ≡ true → sound (g x) ≡ true) → is_table key most sound (map g rows) ≡ true
table-map key most sound g rows h keeps is =
    let t = table_parts key most sound rows h in
    let few = t.few in
    table_joined key most sound (map g rows)
    (record { ascending = ascending-map key g keeps rows t.ascending; few = omega (arith, few, length-map rows g); each = all_map sound g rows is t.each })

pub table-without : {X : Type 0} (key : X → ℕ) (most : ℕ) (sound now : X → Bool) (n : ℕ) (rows : List X) → is_table key most sound rows ≡ true → ((x : X) → (key x == n) ≡ false → sound x ≡ true → now x ≡ true) → is_table key most now (without_row key n rows) ≡ true
table-without key most sound now n rows h is =
    let t = table_parts key most sound rows h in
    let few = t.few in
    table_joined key most now (without_row key n rows)
    (record { ascending = ascending-filter key (λ x. not (key x == n)) rows t.ascending; few = omega (arith, few, filter_few (λ x. not (key x == n)) rows); each = all_left key n sound now rows is t.each })

pub table_stays : {X : Type 0} (key : X → ℕ) (most : ℕ) (sound now : X → Bool) (rows : List X) → is_table key most sound rows ≡ true → ((x : X) → sound x ≡ true → now x ≡ true) → is_table key most now rows ≡ true
table_stays key most sound now rows h is =
    let t = table_parts key most sound rows h in
    table_joined key most now rows (record { ascending = t.ascending; few = t.few; each = all_weaker sound now rows is t.each })

pub table_apart : {X : Type 0} (key : X → ℕ) (most : ℕ) (p sound now : X → Bool) (rows : List X) → is_table key most sound rows ≡ true → list_any p rows ≡ false → ((x : X) → p x ≡ false → sound x ≡ true → now x ≡ true) → is_table key most now rows ≡ true
table_apart key most p sound now rows h none is =
    let t = table_parts key most sound rows h in
    table_joined key most now rows (record { ascending = t.ascending; few = t.few; each = all_apart p sound now rows is none t.each })

-- ---- the groups of a screen or an exception
pub record AreNumbers (groups : List GroupRow) (numbers : List ℕ) : Type 0 where
  pub size : (nat_lt 0 (length numbers) && nat_le (length numbers) most_screen_groups) ≡ true
  pub once : each_once numbers ≡ true
  pub there : list_all (λ n. has_row group_number n groups) numbers ≡ true

pub number_parts : (groups : List GroupRow) (numbers : List ℕ) → are_group_numbers groups numbers ≡ true → AreNumbers groups numbers
number_parts groups numbers h =
    let halves = both (nat_lt 0 (length numbers) && nat_le (length numbers) most_screen_groups) (each_once numbers && list_all (λ n. has_row group_number n groups) numbers) h in
    let parts = both (each_once numbers) (list_all (λ n. has_row group_number n groups) numbers) halves.1 in
    record { size = halves.0; once = parts.0; there = parts.1 }

pub numbers_joined : (groups : List GroupRow) (numbers : List ℕ) → AreNumbers groups numbers → are_group_numbers groups numbers ≡ true
numbers_joined groups numbers a =
    both_true (nat_lt 0 (length numbers) && nat_le (length numbers) most_screen_groups) (each_once numbers && list_all (λ n. has_row group_number n groups) numbers) a.size
    (both_true (each_once numbers) (list_all (λ n. has_row group_number n groups) numbers) a.once a.there)

-- in a table that has all groups that another one has
abbrev pub HasAll : List GroupRow → List GroupRow → Type 0
HasAll groups now = (n : ℕ) → has_row group_number n groups ≡ true → has_row group_number n now ≡ true

pub numbers_stay : (groups now : List GroupRow) (numbers : List ℕ) → HasAll groups now → are_group_numbers groups numbers ≡ true → are_group_numbers now numbers ≡ true
numbers_stay groups now numbers all h =
    let a = number_parts groups numbers h in
    numbers_joined now numbers (record { size = a.size; once = a.once; there = all_weaker (λ n. has_row group_number n groups) (λ n. has_row group_number n now) numbers all a.there })

-- in a table without a group that they don't name
pub numbers_without : (groups : List GroupRow) (n : ℕ) (numbers : List ℕ) → is_in numbers n ≡ false → are_group_numbers groups numbers ≡ true → are_group_numbers (without_row group_number n groups) numbers ≡ true
numbers_without groups n numbers unnamed h =
    let a = number_parts groups numbers h in
    numbers_joined (without_row group_number n groups) numbers (record {
      size = a.size;
      once = a.once;
      there = all_apart (λ k. k == n) (λ k. has_row group_number k groups) (λ k. has_row group_number k (without_row group_number n groups)) numbers
          (λ k apart there. has_row-without_other group_number n k groups apart ∙ there) unnamed a.there;
    })

-- ---- screens and exceptions
pub record IsScreen (nodes : List NodeRow) (groups : List GroupRow) (excepts : List ExceptRow) (screen : ScreenRow) : Type 0 where
  pub folder : is_folder nodes screen.folder ≡ true
  pub unexcepted : has_row except_folder screen.folder excepts ≡ false
  pub numbers : are_group_numbers groups screen.groups ≡ true
  pub actions : are_screen_actions screen.actions ≡ true

pub screen_parts : (nodes : List NodeRow) (groups : List GroupRow) (excepts : List ExceptRow) (screen : ScreenRow) → is_sound_screen nodes groups excepts screen ≡ true → IsScreen nodes groups excepts screen
screen_parts nodes groups excepts screen h =
    let halves = both (is_folder nodes screen.folder && not (has_row except_folder screen.folder excepts)) (are_group_numbers groups screen.groups && are_screen_actions screen.actions) h in
    let place = both (is_folder nodes screen.folder) (not (has_row except_folder screen.folder excepts)) halves.0 in
    let lists = both (are_group_numbers groups screen.groups) (are_screen_actions screen.actions) halves.1 in
    record { folder = place.0; unexcepted = is_false (has_row except_folder screen.folder excepts) place.1; numbers = lists.0; actions = lists.1 }

pub screen_joined : (nodes : List NodeRow) (groups : List GroupRow) (excepts : List ExceptRow) (screen : ScreenRow) → IsScreen nodes groups excepts screen → is_sound_screen nodes groups excepts screen ≡ true
screen_joined nodes groups excepts screen is =
    both_true (is_folder nodes screen.folder && not (has_row except_folder screen.folder excepts)) (are_group_numbers groups screen.groups && are_screen_actions screen.actions)
    (both_true (is_folder nodes screen.folder) (not (has_row except_folder screen.folder excepts)) is.folder (ap not is.unexcepted))
    (both_true (are_group_numbers groups screen.groups) (are_screen_actions screen.actions) is.numbers is.actions)

abbrev pub FoldersStay : List NodeRow → List NodeRow → Type 0
FoldersStay nodes new = (f : ℕ) → is_folder nodes f ≡ true → is_folder new f ≡ true

-- over other nodes, and other groups
pub screens_stay : (nodes new : List NodeRow) (groups now : List GroupRow) (excepts : List ExceptRow) (screens : List ScreenRow) → FoldersStay nodes new → HasAll groups now → are_screens nodes groups excepts screens ≡ true → are_screens new now excepts screens ≡ true
screens_stay nodes new groups now excepts screens folders all h =
    table_stays screen_folder most_screens (is_sound_screen nodes groups excepts) (is_sound_screen new now excepts) screens h (λ s is.
    let p = screen_parts nodes groups excepts s is in
    screen_joined new now excepts s (record { folder = folders s.folder p.folder; unexcepted = p.unexcepted; numbers = numbers_stay groups now s.groups all p.numbers; actions = p.actions }))

pub excepts_stay : (nodes new : List NodeRow) (groups now : List GroupRow) (excepts : List ExceptRow) → FoldersStay nodes new → HasAll groups now → are_excepts nodes groups excepts ≡ true → are_excepts new now excepts ≡ true
excepts_stay nodes new groups now excepts folders all h =
    table_stays except_folder most_excepts (is_sound_except nodes groups) (is_sound_except new now) excepts h (λ e is.
    let p = both (is_folder nodes e.folder) (are_group_numbers groups e.groups) is in
    both_true (is_folder new e.folder) (are_group_numbers now e.groups) (folders e.folder p.0) (numbers_stay groups now e.groups all p.1))

-- without a folder's, if all other folders stay
pub screens-gone : (nodes new : List NodeRow) (groups : List GroupRow) (excepts : List ExceptRow) (screens : List ScreenRow) (n : ℕ) → ((f : ℕ) → (f == n) ≡ false → is_folder nodes f ≡ true → is_folder new f ≡ true) → are_screens nodes groups excepts screens ≡ true → are_screens new groups (without_row except_folder n excepts) (without_row screen_folder n screens) ≡ true
screens-gone nodes new groups excepts screens n folders h =
    table-without screen_folder most_screens (is_sound_screen nodes groups excepts) (is_sound_screen new groups (without_row except_folder n excepts)) n screens h (λ s apart is.
    let p = screen_parts nodes groups excepts s is in
    screen_joined new groups (without_row except_folder n excepts) s (record {
      folder = folders s.folder apart p.folder;
      unexcepted = has_row-without_other except_folder n s.folder excepts apart ∙ p.unexcepted;
      numbers = p.numbers;
      actions = p.actions;
    }))

pub excepts-gone : (nodes new : List NodeRow) (groups : List GroupRow) (excepts : List ExceptRow) (n : ℕ) → ((f : ℕ) → (f == n) ≡ false → is_folder nodes f ≡ true → is_folder new f ≡ true) → are_excepts nodes groups excepts ≡ true → are_excepts new groups (without_row except_folder n excepts) ≡ true
excepts-gone nodes new groups excepts n folders h =
    table-without except_folder most_excepts (is_sound_except nodes groups) (is_sound_except new groups) n excepts h (λ e apart is.
    let p = both (is_folder nodes e.folder) (are_group_numbers groups e.groups) is in
    both_true (is_folder new e.folder) (are_group_numbers groups e.groups) (folders e.folder apart p.0) p.1)

-- ---- actions that ran
length_run : (moment : ℕ) (acts : List Act) (folder : ℕ) (actions : List Action) → length (run_actions moment acts (Screen folder) actions) ≡ length actions
length_run moment acts folder actions =
    length-map (enumerate_from 0 actions) (λ (at : ℕ × Action). if has_act acts (Screen folder) at.0 then record at.1 { last_run = Some moment } else at.1) ∙ length-enumerate_from 0 actions

actions_run : (moment : ℕ) (acts : List Act) (folder : ℕ) (actions : List Action) → moment ≤ latest_moment → are_screen_actions actions ≡ true → are_screen_actions (run_actions moment acts (Screen folder) actions) ≡ true
actions_run moment acts folder actions late h =
    let parts = both (nat_le (length actions) most_actions) (list_all is_kept_action actions) h in
    both_true (nat_le (length (run_actions moment acts (Screen folder) actions)) most_actions) (list_all is_kept_action (run_actions moment acts (Screen folder) actions))
    (ap (λ n. nat_le n most_actions) (length_run moment acts folder actions) ∙ parts.0) (all_from moment acts (Screen folder) 0 actions late parts.1)

pub screens-ran : (nodes : List NodeRow) (groups : List GroupRow) (excepts : List ExceptRow) (screens : List ScreenRow) (moment : ℕ) (acts : List Act) → moment ≤ latest_moment → are_screens nodes groups excepts screens ≡ true → are_screens nodes groups excepts (map (run_screen moment acts) screens) ≡ true
screens-ran nodes groups excepts screens moment acts late h =
    table-map screen_folder most_screens (is_sound_screen nodes groups excepts) (run_screen moment acts) screens h (λ s. refl) (λ s is.
    let p = screen_parts nodes groups excepts s is in
    screen_joined nodes groups excepts (run_screen moment acts s) (record { folder = p.folder; unexcepted = p.unexcepted; numbers = p.numbers; actions = actions_run moment acts s.folder s.actions late p.actions }))

-- ---- what is known of a screen that is there
pub screen_at : (nodes : List NodeRow) (groups : List GroupRow) (excepts : List ExceptRow) (screens : List ScreenRow) (n : ℕ) (screen : ScreenRow) → are_screens nodes groups excepts screens ≡ true → row_of screen_folder n screens ≡ Some screen → IsScreen nodes groups excepts screen
screen_at nodes groups excepts screens n screen h found =
    let t = table_parts screen_folder most_screens (is_sound_screen nodes groups excepts) screens h in
    screen_parts nodes groups excepts screen (all_found (is_sound_screen nodes groups excepts) (λ s. screen_folder s == n) screens screen t.each found)
