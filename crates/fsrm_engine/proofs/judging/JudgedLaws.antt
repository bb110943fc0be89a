-- The screen that is told of is the one that judges the name.
use Rattle.std.proofs.Common.{◌≡◌, ℕ, ◌≤◌, Bool, true, List, length, Option, Some, None, nat_le, refl, ap, sym, ◌∙◌}
use Rattle.std.proofs.lemmas.Option.{same_Some}
use Rattle.std.specs.Prelude.{option_map}
use Rattle.std.specs.List.{list_all}
use Rattle.fsrm_base.specs.Keyed.{has_row}
use Rattle.fsrm_base.proofs.TestLaws.{both, both_true, le_is}
use Rattle.fsrm_model.specs.declared.row.ExceptRow.{ExceptRow}
use Rattle.fsrm_model.specs.declared.row.ScreenRow.{ScreenRow}
use Rattle.fsrm_model.specs.values.Limits.{most_actions, most_excepts, most_screens}
use Rattle.fsrm_model.specs.values.Patterns.{group_number}
use Rattle.fsrm_model.specs.objects.Screens.{screen_folder, except_folder, judging}
use Rattle.fsrm_model.specs.objects.Thresholds.{is_kept_action}
use Rattle.fsrm_model.specs.nodes.Tree.{is_folder}
use Rattle.fsrm_model.specs.store.Valid.{IsValid, are_group_numbers, is_sound_except, is_sound_screen}
use Rattle.fsrm_model.proofs.screens.JudgingLaws.{judging_own}
use Rattle.fsrm_model.proofs.valid.ScreensKept.{all_weaker, number_parts, screen_at, screen_parts, table_parts}
use Rattle.file_screens.specs.declared.answer.Blocked.{Blocked}
use Rattle.file_screens.specs.Blocked.{are_known, told}
use Rattle.fsrm_engine.specs.declared.parts.Parts.{Parts}
use Rattle.fsrm_engine.specs.Machine.{IsWhole, rows_of}
use Rattle.fsrm_engine.specs.Reporting.{screen_told}
use Rattle.fsrm_engine.specs.Screening.{judged_screen}

-- a screen that is told of
pub record IsTold (p : Parts) (judged : Blocked) : Type 0 where
  pub screen : ScreenRow
  pub found : judged_screen p judged ≡ Some screen
  pub told_is : told screen ≡ judged

pub told_of : (p : Parts) (judged : Blocked) → option_map told (judged_screen p judged) ≡ Some judged → IsTold p judged
told_of p judged h = at (judged_screen p judged) refl h
  where
    at : (o : Option ScreenRow) → judged_screen p judged ≡ o → option_map told o ≡ Some judged → IsTold p judged
    at None e h = cc h
    at (Some screen) e h = record { screen = screen; found = e; told_is = same_Some (told screen) judged h }

-- the one that is found is it
pub told_same : (p : Parts) (judged : Blocked) (screen : ScreenRow) → option_map told (judged_screen p judged) ≡ Some judged → judged_screen p judged ≡ Some screen → told screen ≡ judged
told_same p judged screen h found = same_Some (told screen) judged (sym (ap (option_map told) found) ∙ h)

-- the screen that was found to judge a name is told by its folder
pub told_is : (p : Parts) (folder : ℕ) (name : List ℕ) (judged : Option Blocked) → judged ≡ option_map told (judging (rows_of p) folder name) → screen_told p judged ≡ judging (rows_of p) folder name
told_is p folder name judged h = ap (screen_told p) h ∙ at (judging (rows_of p) folder name) refl
  where
    at : (o : Option ScreenRow) → judging (rows_of p) folder name ≡ o → screen_told p (option_map told o) ≡ o
    at None e = refl
    at (Some screen) e = judging_own (rows_of p) folder name screen e

pub told_there : (p : Parts) (folder : ℕ) (name : List ℕ) (judged : Option Blocked) → judged ≡ option_map told (judging (rows_of p) folder name) → option_map told (screen_told p judged) ≡ judged
told_there p folder name judged h = ap (option_map told) (told_is p folder name judged h) ∙ sym h

pub told_one : (p : Parts) (judged : Option Blocked) (j : Blocked) → option_map told (screen_told p judged) ≡ judged → judged ≡ Some j → option_map told (judged_screen p j) ≡ Some j
told_one p judged j there is = ap (λ o. option_map told (screen_told p o)) (sym is) ∙ (there ∙ is)

-- it has few actions
pub few_at : (p : Parts) (n : ℕ) (screen : ScreenRow) → IsWhole p → judged_screen p (record { screen = n; active = true }) ≡ Some screen → length screen.actions ≤ most_actions
few_at p n screen w found =
    let is = screen_at p.tree.nodes p.groups p.objects.excepts p.objects.screens n screen w.valid.tables.screens found in
    le_is (length screen.actions) most_actions (both (nat_le (length screen.actions) most_actions) (list_all is_kept_action screen.actions) is.actions).0

pub few_told : (p : Parts) (judged : Option Blocked) (screen : ScreenRow) → IsWhole p → screen_told p judged ≡ Some screen → length screen.actions ≤ most_actions
few_told p None screen w h = cc h
few_told p (Some judged) screen w h = few_at p judged.screen screen w h

-- the groups of screens and exceptions are there
pub groups_known : (p : Parts) → IsValid p.tree.size (rows_of p) → are_known p.groups p.objects ≡ true
groups_known p s =
    let screens = table_parts screen_folder most_screens (is_sound_screen p.tree.nodes p.groups p.objects.excepts) p.objects.screens s.tables.screens in
    let excepts = table_parts except_folder most_excepts (is_sound_except p.tree.nodes p.groups) p.objects.excepts s.tables.excepts in
    let known : List ℕ → Bool = λ numbers. list_all (λ n. has_row group_number n p.groups) numbers in
    both_true (list_all (λ (screen : ScreenRow). known screen.groups) p.objects.screens) (list_all (λ (except : ExceptRow). known except.groups) p.objects.excepts)
    (all_weaker (is_sound_screen p.tree.nodes p.groups p.objects.excepts) (λ (screen : ScreenRow). known screen.groups) p.objects.screens
    (λ screen is. (number_parts p.groups screen.groups (screen_parts p.tree.nodes p.groups p.objects.excepts screen is).numbers).there) screens.each)
    (all_weaker (is_sound_except p.tree.nodes p.groups) (λ (except : ExceptRow). known except.groups) p.objects.excepts
    (λ except is. (number_parts p.groups except.groups (both (is_folder p.tree.nodes except.folder) (are_group_numbers p.groups except.groups) is).1).there) excepts.each)
