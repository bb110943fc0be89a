-- Which screen is found to judge a name, from one folder to the next.
use Rattle.std.proofs.Common.{◌≡◌, ℕ, Bool, true, false, cond, not, ◌&&◌, ◌||◌, List, [], ◌∷◌, length, Option, Some, None, refl, sym, ◌∙◌, ap, subst}
use Rattle.std.specs.Prelude.{filter, filter_map, find, option_map, if◌then◌else◌}
use Rattle.std.specs.List.{cons_option, list_any}
use Rattle.std.specs.Option.{option_or}
use Rattle.fsrm_base.proofs.TestLaws.{clash}
use Rattle.fsrm_base.specs.Numbers.{is_in}
use Rattle.fsrm_objects.specs.Tables.{Tables}
use Rattle.fsrm_model.specs.declared.row.GroupRow.{GroupRow}
use Rattle.fsrm_model.specs.declared.row.Rows.{Rows}
use Rattle.fsrm_model.specs.declared.row.ScreenRow.{ScreenRow}
use Rattle.fsrm_model.specs.values.Patterns.{in_group_of}
use Rattle.fsrm_model.specs.objects.Screens.{applies, applying, in_groups, is_excepted, judging, nearer, screen_of}
use Rattle.fsrm_model.specs.nodes.Tree.{chain}
use Rattle.file_screens.specs.declared.answer.Blocked.{Blocked}
use Rattle.file_screens.specs.Blocked.{screened_rows, told}
use Rattle.file_screens.specs.Way.{applying_on, is_active, lets_pass, screen_with}
use Rattle.file_screens.proofs.FolderLaws.{empty, none_found}
use Rattle.file_screens.proofs.WayLaws.{first_folder}

-- of the screens that are left, if this passive one was found before: the first active one, else that passive one,
-- else the first one
abbrev pub judged_by : Option Blocked → List ScreenRow → Option Blocked
judged_by passive [] = passive
judged_by passive (screen ∷ screens) = if screen.active then Some (told screen) else judged_by (option_or passive (Some (told screen))) screens

-- ---- without one found before it is the one that judges
or_none : (o : Option Blocked) → option_or o None ≡ o
or_none None = refl
or_none (Some x) = refl

or_first : (a : Option Blocked) (x : Blocked) (o : Option Blocked) → option_or (option_or a (Some x)) o ≡ option_or a (Some x)
or_first None x o = refl
or_first (Some y) x o = refl

told_or : (a b : Option ScreenRow) → option_map told (option_or a b) ≡ option_or (option_map told a) (option_map told b)
told_or None b = refl
told_or (Some x) b = refl

abbrev active : List ScreenRow → Option ScreenRow
active screens = find (λ (screen : ScreenRow). screen.active) screens

abbrev idle : List ScreenRow → Option ScreenRow
idle screens = find (λ (screen : ScreenRow). not screen.active) screens

judged_at : (passive : Option Blocked) (screen : ScreenRow) (screens : List ScreenRow) (b : Bool) → judged_by (option_or passive (Some (told screen))) screens ≡ option_or (option_map told (active screens)) (option_or (option_or passive (Some (told screen))) (option_map told (idle screens))) → cond b (Some (told screen)) (judged_by (option_or passive (Some (told screen))) screens) ≡ option_or (option_map told (cond b (Some screen) (active screens))) (option_or passive (option_map told (cond (not b) (Some screen) (idle screens))))
judged_at passive screen screens true more = refl
judged_at passive screen screens false more =
    more ∙ ap (option_or (option_map told (active screens))) (or_first passive (told screen) (option_map told (idle screens)))

judged_from : (passive : Option Blocked) (screens : List ScreenRow) → judged_by passive screens ≡ option_or (option_map told (active screens)) (option_or passive (option_map told (idle screens)))
judged_from passive [] = sym (or_none passive)
judged_from passive (screen ∷ screens) = judged_at passive screen screens screen.active (judged_from (option_or passive (Some (told screen))) screens)

pub judged_all : (screens : List ScreenRow) → judged_by None screens ≡ option_map told (option_or (active screens) (idle screens))
judged_all screens = judged_from None screens ∙ sym (told_or (active screens) (idle screens))

pub none_judges : (R : Rows) (folder : ℕ) (name : List ℕ) → applying R folder name ≡ [] → None ≡ option_map told (judging R folder name)
none_judges R folder name none = sym (ap (judged_by None) none) ∙ judged_all (applying R folder name)

pub none_apply : (R : Rows) → length R.screens ≡ 0 → (folder : ℕ) (name : List ℕ) → applying R folder name ≡ []
none_apply R none folder name = ap (filter (applies R (chain R.nodes folder) name)) (none_found R (empty R.screens none) (chain R.nodes folder))

-- nor does one if the name is in no group
in_no_groups : (groups : List GroupRow) (name : List ℕ) → ((number : ℕ) → in_group_of groups number name ≡ false) → (numbers : List ℕ) → in_groups groups numbers name ≡ false
in_no_groups groups name none [] = refl
in_no_groups groups name none (number ∷ numbers) =
    ap (λ b. b || in_groups groups numbers name) (none number) ∙ in_no_groups groups name none numbers

none_passed : (R : Rows) (folders : List ℕ) (name : List ℕ) → ((numbers : List ℕ) → in_groups R.groups numbers name ≡ false) → (screens : List ScreenRow) → filter (applies R folders name) screens ≡ []
none_passed R folders name none [] = refl
none_passed R folders name none (screen ∷ screens) =
    ap (λ b. cond (b && not (list_any (is_excepted R name) (nearer screen.folder folders))) (screen ∷ filter (applies R folders name) screens) (filter (applies R folders name) screens)) (none screen.groups)
    ∙ none_passed R folders name none screens

pub unnamed_apply : (R : Rows) (folder : ℕ) (name : List ℕ) → ((number : ℕ) → in_group_of R.groups number name ≡ false) → applying R folder name ≡ []
unnamed_apply R folder name none =
    none_passed R (chain R.nodes folder) name (in_no_groups R.groups name none) (filter_map (screen_of R) (chain R.nodes folder))

-- where the same screens apply the same one judges
pub alike_judge : (R : Rows) (folder : ℕ) (name : List ℕ) (screens : List ScreenRow) (found : Option Blocked) → screens ≡ applying R folder name → found ≡ option_map told (option_or (active screens) (idle screens)) → found ≡ option_map told (judging R folder name)
alike_judge R folder name screens found alike is = is ∙ ap (λ (screens : List ScreenRow). option_map told (option_or (active screens) (idle screens))) alike

-- ---- what one folder's screen decides
active_judges : (passive found : Option Blocked) (o : Option ScreenRow) (screens : List ScreenRow) → found ≡ option_map told o → is_active found ≡ true → judged_by passive (cons_option o screens) ≡ found
active_judges passive found None screens is h = absurd (clash false (subst (λ (f : Option Blocked). is_active f ≡ true) is h) refl)
active_judges passive found (Some screen) screens is h =
    ap (λ b. cond b (Some (told screen)) (judged_by (option_or passive (Some (told screen))) screens)) (subst (λ (f : Option Blocked). is_active f ≡ true) is h)
    ∙ sym is

passive_kept : (passive found : Option Blocked) (o : Option ScreenRow) (screens : List ScreenRow) → found ≡ option_map told o → is_active found ≡ false → judged_by passive (cons_option o screens) ≡ judged_by (option_or passive found) screens
passive_kept passive found None screens is h = ap (λ (p : Option Blocked). judged_by p screens) (sym (ap (option_or passive) is ∙ or_none passive))
passive_kept passive found (Some screen) screens is h =
    ap (λ b. cond b (Some (told screen)) (judged_by (option_or passive (Some (told screen))) screens)) (subst (λ (f : Option Blocked). is_active f ≡ false) is h)
    ∙ ap (λ (f : Option Blocked). judged_by (option_or passive f) screens) (sym is)

-- ---- the climb: what was found so far, and what is left, judge as all do
module _ (groups : List GroupRow) (tables : Tables) (name : List ℕ) (at : ℕ) (above : List ℕ) (lacks : is_in above at ≡ false) (whole passive found : Option Blocked) (is : found ≡ option_map told (screen_with groups tables.screens name at)) (so_far : judged_by passive (applying_on groups tables (at ∷ above) name) ≡ whole) (is_found : Bool) (found_is : is_found ≡ is_active found) where
  abbrev own : Option ScreenRow
  own = screen_with groups tables.screens name at

  -- after the folder's own screen
  abbrev rest : Bool → List ScreenRow
  rest excepted = cond excepted [] (applying_on groups tables above name)

  all : judged_by passive (cons_option own (rest (lets_pass groups tables.excepts name at))) ≡ whole
  all = sym (ap (judged_by passive) (first_folder (screened_rows [] groups tables) name at above lacks)) ∙ so_far

  pub stops_active : is_found ≡ true → found ≡ whole
  stops_active h = sym (active_judges passive found own (rest (lets_pass groups tables.excepts name at)) is (sym found_is ∙ h)) ∙ all

  left : (next : Option Blocked) (excepted b : Bool) → is_found ≡ false → next ≡ option_or passive found → excepted ≡ lets_pass groups tables.excepts name at → excepted ≡ b → judged_by next (rest b) ≡ whole
  left next excepted b h n x e =
      ap (λ (p : Option Blocked). judged_by p (rest b)) n
      ∙ (sym (passive_kept passive found own (rest b) is (sym found_is ∙ h))
      ∙ (ap (λ b. judged_by passive (cons_option own (rest b))) (sym e ∙ x) ∙ all))

  -- an exception ends it, and so does the end of the way; else what is above is left
  pub stops_excepted : (next : Option Blocked) (excepted : Bool) → is_found ≡ false → next ≡ option_or passive found → excepted ≡ lets_pass groups tables.excepts name at → excepted ≡ true → next ≡ whole
  stops_excepted next excepted h n x e = left next excepted true h n x e

  pub goes_up : (next : Option Blocked) (excepted : Bool) → is_found ≡ false → next ≡ option_or passive found → excepted ≡ lets_pass groups tables.excepts name at → excepted ≡ false → judged_by next (applying_on groups tables above name) ≡ whole
  goes_up next excepted h n x e = left next excepted false h n x e
