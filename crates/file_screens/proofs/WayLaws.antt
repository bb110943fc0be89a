-- The screens that apply to a name, folder by folder on the way up: that of the folder, and unless its exception has
-- the name, those that apply above it.
use Rattle.std.proofs.Common.{◌≡◌, ℕ, suc, ◌+◌, ◌==◌, Bool, true, false, cond, not, ◌&&◌, ◌||◌, List, [], ◌∷◌, take, Option, Some, None, refl, sym, ◌∙◌, ap, subst, arith}
use Rattle.std.specs.Prelude.{filter, filter_map, option_and_then}
use Rattle.std.specs.List.{list_any, prefix_len, cons_option}
use Rattle.fsrm_base.specs.Keyed.{row_of}
use Rattle.fsrm_base.specs.Numbers.{is_in}
use Rattle.fsrm_base.proofs.Look.{found_key}
use Rattle.fsrm_base.proofs.TestLaws.{and_false, eq_test, eq_turned, neither}
use Rattle.fsrm_model.specs.declared.row.GroupRow.{GroupRow}
use Rattle.fsrm_model.specs.declared.row.Rows.{Rows}
use Rattle.fsrm_model.specs.declared.row.ScreenRow.{ScreenRow}
use Rattle.fsrm_objects.specs.Tables.{Tables}
use Rattle.fsrm_model.specs.objects.Screens.{applies, except_folder, in_groups, is_excepted, nearer, screen_folder, screen_of}
use Rattle.file_screens.specs.Blocked.{screened_rows}
use Rattle.file_screens.specs.Way.{applying_on, if_named, lets_pass, screen_with}
use Rattle.file_screens.proofs.FolderLaws.{no_screen, no_except}

-- ---- the folders that are nearer than a screen's
nearer_own : (folder f : ℕ) (above : List ℕ) → (f == folder) ≡ true → nearer folder (f ∷ above) ≡ []
nearer_own folder f above e = ap (λ b. take (cond (not b) (1 + prefix_len (λ g. not (g == folder)) above) 0) (f ∷ above)) e

nearer_other : (folder f : ℕ) (above : List ℕ) → (f == folder) ≡ false → nearer folder (f ∷ above) ≡ f ∷ nearer folder above
nearer_other folder f above e =
    ap (λ b. take (cond (not b) (1 + prefix_len (λ g. not (g == folder)) above) 0) (f ∷ above)) e
    ∙ ap (λ n. take n (f ∷ above)) (next (prefix_len (λ g. not (g == folder)) above))
  where
    next : (k : ℕ) → 1 + k ≡ suc k
    next k = omega arith

either_way : (b : Bool) (screens : List ScreenRow) → cond b screens screens ≡ screens
either_way true screens = refl
either_way false screens = refl

-- ---- a folder f, and those above it
module _ (R : Rows) (name : List ℕ) (f : ℕ) (above : List ℕ) where
  abbrev here : ScreenRow → Bool
  here screen = applies R (f ∷ above) name screen

  abbrev named : ScreenRow → Bool
  named screen = in_groups R.groups screen.groups name

  -- the folder's own screen applies, whatever its exception says
  own_applies : (screen : ScreenRow) → screen.folder ≡ f → here screen ≡ named screen
  own_applies screen e =
      ap (λ (fs : List ℕ). named screen && not (list_any (is_excepted R name) fs)) (nearer_own screen.folder f above (eq_test f screen.folder (sym e)))
      ∙ and_true (named screen)
    where
      and_true : (b : Bool) → (b && true) ≡ b
      and_true true = refl
      and_true false = refl

  -- one farther up applies if the folder's exception doesn't have the name, and no other that is nearer
  upper_applies : (screen : ScreenRow) → (f == screen.folder) ≡ false → here screen ≡ (named screen && not (is_excepted R name f || list_any (is_excepted R name) (nearer screen.folder above)))
  upper_applies screen e = ap (λ (fs : List ℕ). named screen && not (list_any (is_excepted R name) fs)) (nearer_other screen.folder f above e)

  upper_at : (screen : ScreenRow) (screens : List ScreenRow) (b : Bool) → is_excepted R name f ≡ b → (f == screen.folder) ≡ false → filter here screens ≡ cond b [] (filter (applies R above name) screens) → filter here (screen ∷ screens) ≡ cond b [] (filter (applies R above name) (screen ∷ screens))
  upper_at screen screens true x e more =
      ap (λ b. cond b (screen ∷ filter here screens) (filter here screens))
      (upper_applies screen e
      ∙ (ap (λ b. named screen && not (b || list_any (is_excepted R name) (nearer screen.folder above))) x ∙ and_false (named screen)))
      ∙ more
  upper_at screen screens false x e more =
      ap (λ b. cond b (screen ∷ filter here screens) (filter here screens))
      (upper_applies screen e ∙ ap (λ b. named screen && not (b || list_any (is_excepted R name) (nearer screen.folder above))) x)
      ∙ ap (λ (kept : List ScreenRow). cond (applies R above name screen) (screen ∷ kept) kept) more

  upper_found : (g : ℕ) (screens : List ScreenRow) (o : Option ScreenRow) → screen_of R g ≡ o → (g == f) ≡ false → filter here screens ≡ cond (is_excepted R name f) [] (filter (applies R above name) screens) → filter here (cons_option o screens) ≡ cond (is_excepted R name f) [] (filter (applies R above name) (cons_option o screens))
  upper_found g screens None found e more = more
  upper_found g screens (Some screen) found e more =
      upper_at screen screens (is_excepted R name f) refl
      (subst (λ j. (f == j) ≡ false) (sym (found_key screen_folder g R.screens screen found)) (eq_turned g f e)) more

  uppers : (folders : List ℕ) → is_in folders f ≡ false → filter here (filter_map (screen_of R) folders) ≡ cond (is_excepted R name f) [] (filter (applies R above name) (filter_map (screen_of R) folders))
  uppers [] h = sym (either_way (is_excepted R name f) [])
  uppers (g ∷ folders) h =
      let apart = neither (g == f) (is_in folders f) h in
      upper_found g (filter_map (screen_of R) folders) (screen_of R g) refl apart.0 (uppers folders apart.1)

  own_found : (screens : List ScreenRow) (o : Option ScreenRow) → screen_of R f ≡ o → filter here (cons_option o screens) ≡ cons_option (option_and_then (if_named R.groups name) o) (filter here screens)
  own_found screens None found = refl
  own_found screens (Some screen) found =
      ap (λ b. cond b (screen ∷ filter here screens) (filter here screens)) (own_applies screen (found_key screen_folder f R.screens screen found))
      ∙ chosen (filter here screens) (named screen)
    where
      chosen : (kept : List ScreenRow) (b : Bool) → cond b (screen ∷ kept) kept ≡ cons_option (cond b (Some screen) None) kept
      chosen kept true = refl
      chosen kept false = refl

  -- the screens that apply on the way from the folder
  pub first_folder : is_in above f ≡ false → filter here (filter_map (screen_of R) (f ∷ above)) ≡ cons_option (screen_with R.groups R.screens name f) (cond (is_excepted R name f) [] (filter (applies R above name) (filter_map (screen_of R) above)))
  first_folder h =
      own_found (filter_map (screen_of R) above) (screen_of R f) refl
      ∙ ap (λ (screens : List ScreenRow). cons_option (screen_with R.groups R.screens name f) screens) (uppers above h)

-- a folder with neither a screen nor an exception plays no part
pub bare : (groups : List GroupRow) (tables : Tables) (name : List ℕ) (f : ℕ) (above : List ℕ) → is_in above f ≡ false → row_of screen_folder f tables.screens ≡ None → row_of except_folder f tables.excepts ≡ None → applying_on groups tables above name ≡ applying_on groups tables (f ∷ above) name
bare groups tables name f above lacks screenless plain =
    sym
    (first_folder (screened_rows [] groups tables) name f above lacks
    ∙ (ap (λ (o : Option ScreenRow). cons_option o (cond (lets_pass groups tables.excepts name f) [] (applying_on groups tables above name))) (no_screen groups tables.screens name f screenless)
    ∙ ap (λ b. cond b [] (applying_on groups tables above name)) (no_except groups tables.excepts name f plain)))
