-- What the topmost unvisited folders of a scan are, each by itself.
use Rattle.std.specs.Prelude.{◌≡◌, ℕ, true, List, is_some}
use Rattle.fsrm_model.specs.declared.row.NodeRow.{NodeRow}
use Rattle.fsrm_base.specs.Numbers.{is_in, is_set}
use Rattle.fsrm_model.specs.nodes.Tree.{is_folder, is_under}
use Rattle.rescan.specs.Frontiers.{Front, scanned}

-- folders at or below the scanned one, none of them below another
pub record AreTops (nodes : List NodeRow) (front : Front) : Type 0 where
  pub active : is_some front.folder ≡ true
  pub folder : is_folder nodes (scanned front) ≡ true
  pub ascending : is_set front.tops ≡ true
  pub folders : (n : ℕ) → is_in front.tops n ≡ true → is_folder nodes n ≡ true
  pub below : (n : ℕ) → is_in front.tops n ≡ true → is_under nodes (scanned front) n ≡ true
  pub apart : (n m : ℕ) → is_in front.tops n ≡ true → is_in front.tops m ≡ true → is_under nodes m n ≡ true → m ≡ n
