-- Which screen judges a name that a file is given in a folder, apart from any computation.
use Rattle.std.specs.Prelude.{◌≡◌, ℕ, ◌==◌, true, false, List, Some}
use Rattle.fsrm_model.specs.declared.row.Rows.{Rows}
use Rattle.fsrm_model.specs.declared.row.ScreenRow.{ScreenRow}
use Rattle.fsrm_model.specs.objects.Screens.{screen_of, in_groups, is_excepted}
use Rattle.fsrm_model.specs.nodes.Tree.{is_under}

-- The screen's folder is this one or one above it, and the name is in one of its groups. No exception lets the name
-- pass whose folder stands between them: at or above this one, and strictly below the screen's
pub record Applies (R : Rows) (folder : ℕ) (name : List ℕ) (screen : ScreenRow) : Type 0 where
  pub on : is_under R.nodes screen.folder folder ≡ true
  pub own : screen_of R screen.folder ≡ Some screen
  pub grouped : in_groups R.groups screen.groups name ≡ true
  pub barred : (between : ℕ) → is_under R.nodes between folder ≡ true → is_under R.nodes screen.folder between ≡ true → (between == screen.folder) ≡ false → is_excepted R name between ≡ false

-- It applies, and it is active if any active one applies. It is the nearest: each of its kind that applies stands at
-- its folder or above
pub record Judges (R : Rows) (folder : ℕ) (name : List ℕ) (screen : ScreenRow) : Type 0 where
  pub applies : Applies R folder name screen
  pub active : (other : ScreenRow) → Applies R folder name other → other.active ≡ true → screen.active ≡ true
  pub nearest : (other : ScreenRow) → Applies R folder name other → other.active ≡ screen.active → is_under R.nodes other.folder screen.folder ≡ true
