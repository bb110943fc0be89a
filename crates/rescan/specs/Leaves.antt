-- What a scan loses when a folder leaves it.
use Rattle.std.specs.Prelude.{◌≡◌, ℕ, ◌+◌, ◌&&◌, not, Bool, true, List, filter, sum_by}
use Rattle.fsrm_model.specs.declared.row.Capacity.{Capacity}
use Rattle.fsrm_model.specs.declared.row.NodeRow.{NodeRow}
use Rattle.fsrm_base.specs.Numbers.{is_in, is_set}
use Rattle.fsrm_model.specs.values.Space.{space}
use Rattle.fsrm_model.specs.nodes.Tree.{is_under}
use Rattle.rescan.specs.Frontiers.{Front, has_above, scanned}

-- whether a folder was visited: it is at or below the scanned one, and at or below no unvisited one
abbrev pub is_visited : List NodeRow → Front → ℕ → Bool
is_visited nodes front n = is_under nodes (scanned front) n && not (has_above nodes front.tops n)

-- what is counted at and below a node: the space of the files there whose folder was visited
abbrev pub counted_below : Capacity → List NodeRow → Front → ℕ → ℕ
counted_below K nodes front n =
    sum_by (space K) (filter (λ node. is_under nodes n node.number && is_visited nodes front node.parent) nodes)

-- a frontier that has lost what is at and below a node
pub record Leaves (K : Capacity) (nodes : List NodeRow) (old new : Front) (node : ℕ) : Type 0 where
  pub room : new.room ≡ old.room
  pub folder : new.folder ≡ old.folder
  pub ascending : is_set new.tops ≡ true
  pub tops : (n : ℕ) → is_in new.tops n ≡ (is_in old.tops n && not (is_under nodes node n))
  pub sum : new.sum + counted_below K nodes old node ≡ old.sum
