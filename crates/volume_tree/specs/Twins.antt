-- Rows that are entered one after another, if none has the name of another one.
use Rattle.std.specs.Prelude.{◌≡◌, ℕ, ◌==◌, true, false, List, Some}
use Rattle.fsrm_base.specs.Numbers.{is_in}
use Rattle.fsrm_model.specs.declared.row.NodeRow.{NodeRow}
use Rattle.fsrm_model.specs.nodes.Tree.{node_of}
use Rattle.fsrm_model.specs.values.Name.{same_name}
use Rattle.node_order.specs.Order.{has_name}
use Rattle.node_table.specs.declared.view.NodeView.{NodeView}

-- no node has a name in a folder, but perhaps one that is absent
abbrev pub IsFree : List NodeRow → List ℕ → ℕ → List ℕ → Type 0
IsFree nodes absent folder name = (n : ℕ) → is_in absent n ≡ false → has_name nodes n folder name ≡ false

-- no two nodes of one folder that are entered have one name
pub record AreApartBut (nodes : List NodeRow) (absent : List ℕ) : Type 0 where
  pub alone : (n m : ℕ) (r s : NodeRow) → node_of nodes n ≡ Some r → node_of nodes m ≡ Some s → (n == 0) ≡ false → (m == 0) ≡ false → is_in absent n ≡ false → is_in absent m ≡ false → s.parent ≡ r.parent → same_name s.name r.name ≡ true → m ≡ n

-- another node than a lent one has its name in its folder
pub record IsTwin (nodes : List NodeRow) (row : NodeView) : Type 0 where
  pub number : ℕ
  pub other : (number == row.number) ≡ false
  pub named : has_name nodes number row.parent row.name.now ≡ true
