-- Counters that stand at the sums of their folders.
use Rattle.std.specs.Prelude.{◌≡◌, ℕ, List, Some}
use Rattle.fsrm_model.specs.declared.row.Capacity.{Capacity}
use Rattle.fsrm_model.specs.declared.row.NodeRow.{NodeRow}
use Rattle.fsrm_model.specs.nodes.Tree.{usage}
use Rattle.quota_usage.specs.declared.change.Counter.{Counter}
use Rattle.quota_usage.specs.Counters.{used_in}

-- each counter stands at what the files at and below its folder take
pub record AreSums (K : Capacity) (nodes : List NodeRow) (counters : List Counter) : Type 0 where
  pub each : (folder bytes : ℕ) → used_in counters folder ≡ Some bytes → bytes ≡ usage K nodes folder
