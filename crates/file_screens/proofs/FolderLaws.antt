-- What one folder says of a name: its screen, its exception, and the groups that they name.
use Rattle.std.proofs.Common.{◌≡◌, ℕ, ◌==◌, Bool, true, false, cond, List, [], ◌∷◌, length, Option, Some, None, is_some, refl, sym, ◌∙◌, ap, arith}
use Rattle.std.specs.Prelude.{filter_map, option_and_then, if◌then◌else◌}
use Rattle.std.specs.List.{list_all, cons_option}
use Rattle.std.specs.Option.{option_map_or}
use Rattle.fsrm_base.specs.Keyed.{has_row, row_of}
use Rattle.fsrm_base.proofs.Members.{all_found}
use Rattle.fsrm_base.proofs.TestLaws.{both, neither}
use Rattle.fsrm_base.proofs.Look.{none_row}
use Rattle.fsrm_model.specs.declared.row.ExceptRow.{ExceptRow}
use Rattle.fsrm_model.specs.declared.row.GroupRow.{GroupRow}
use Rattle.fsrm_model.specs.declared.row.Rows.{Rows}
use Rattle.fsrm_model.specs.declared.row.ScreenRow.{ScreenRow}
use Rattle.fsrm_model.specs.values.Patterns.{group_number}
use Rattle.fsrm_model.specs.objects.Screens.{except_folder, in_groups, screen_folder, screen_of}
use Rattle.fsrm_objects.specs.Tables.{Tables}
use Rattle.file_screens.specs.Blocked.{are_known}
use Rattle.file_screens.specs.Way.{if_named, is_asked, lets_pass, screen_with}

-- ---- groups
abbrev are_there : List GroupRow → List ℕ → Bool
are_there groups numbers = list_all (λ n. has_row group_number n groups) numbers

pub known_screen : (groups : List GroupRow) (tables : Tables) (folder : ℕ) (screen : ScreenRow) → are_known groups tables ≡ true → row_of screen_folder folder tables.screens ≡ Some screen → are_there groups screen.groups ≡ true
known_screen groups tables folder screen known found =
    all_found (λ (s : ScreenRow). are_there groups s.groups) (λ (s : ScreenRow). s.folder == folder) tables.screens screen
    (both (list_all (λ (s : ScreenRow). are_there groups s.groups) tables.screens) (list_all (λ (e : ExceptRow). are_there groups e.groups) tables.excepts) known).0 found

pub known_except : (groups : List GroupRow) (tables : Tables) (folder : ℕ) (except : ExceptRow) → are_known groups tables ≡ true → row_of except_folder folder tables.excepts ≡ Some except → are_there groups except.groups ≡ true
known_except groups tables folder except known found =
    all_found (λ (e : ExceptRow). are_there groups e.groups) (λ (e : ExceptRow). e.folder == folder) tables.excepts except
    (both (list_all (λ (s : ScreenRow). are_there groups s.groups) tables.screens) (list_all (λ (e : ExceptRow). are_there groups e.groups) tables.excepts) known).1 found

-- ---- the screen of a folder
pub no_screen : (groups : List GroupRow) (screens : List ScreenRow) (name : List ℕ) (folder : ℕ) → row_of screen_folder folder screens ≡ None → screen_with groups screens name folder ≡ None
no_screen groups screens name folder none = ap (option_and_then (if_named groups name)) none

pub screen_is : (groups : List GroupRow) (screens : List ScreenRow) (name : List ℕ) (folder : ℕ) (screen : ScreenRow) (b : Bool) → row_of screen_folder folder screens ≡ Some screen → in_groups groups screen.groups name ≡ b → screen_with groups screens name folder ≡ (if b then Some screen else None)
screen_is groups screens name folder screen b found named =
    ap (option_and_then (if_named groups name)) found ∙ ap (λ b. cond b (Some screen) None) named

-- ---- the exception of a folder
pub no_except : (groups : List GroupRow) (excepts : List ExceptRow) (name : List ℕ) (folder : ℕ) → row_of except_folder folder excepts ≡ None → lets_pass groups excepts name folder ≡ false
no_except groups excepts name folder none = ap (λ (o : Option ExceptRow). option_map_or (λ (e : ExceptRow). in_groups groups e.groups name) o false) none

pub except_is : (groups : List GroupRow) (excepts : List ExceptRow) (name : List ℕ) (folder : ℕ) (except : ExceptRow) → row_of except_folder folder excepts ≡ Some except → lets_pass groups excepts name folder ≡ in_groups groups except.groups name
except_is groups excepts name folder except found = ap (λ (o : Option ExceptRow). option_map_or (λ (e : ExceptRow). in_groups groups e.groups name) o false) found

-- ---- neither
pub unasked : (tables : Tables) (folder : ℕ) (asked : Bool) → asked ≡ is_asked tables folder → asked ≡ false → (row_of screen_folder folder tables.screens ≡ None) × (row_of except_folder folder tables.excepts ≡ None)
unasked tables folder asked is h =
    let apart = neither (is_some (row_of screen_folder folder tables.screens)) (is_some (row_of except_folder folder tables.excepts)) (sym is ∙ h) in
    (none_row (row_of screen_folder folder tables.screens) apart.0, none_row (row_of except_folder folder tables.excepts) apart.1)

-- ---- without screens no folder has one
pub empty : {X : Type 0} (xs : List X) → length xs ≡ 0 → xs ≡ []
empty [] h = refl
empty (x ∷ xs) h = absurd (omega (arith, h))

pub none_found : (R : Rows) → R.screens ≡ [] → (folders : List ℕ) → filter_map (screen_of R) folders ≡ []
none_found R none [] = refl
none_found R none (f ∷ folders) =
    ap (λ (o : Option ScreenRow). cons_option o (filter_map (screen_of R) folders)) (ap (λ (screens : List ScreenRow). row_of screen_folder f screens) none)
    ∙ none_found R none folders
