use Rattle.std.proofs.Common.{◌≡◌, ◌+◌, length}
use Rattle.fsrm_model.specs.nodes.Tree.{chain}
use Rattle.fsrm_base.proofs.ChangedRows.{changed_rows}
use Rattle.quota_usage.specs.Climb.{amended_counter}
use Rattle.quota_usage.proofs.ClimbLaws.{FitAll}
use Rattle.quota_usage.specs.Counters.{counted}
use Rattle.quota_usage.proofs.climb.climb.Given as goal

-- to change the counters on what is left of the way is to change those on all of it
abbrev pub invariant-loop-at : goal.invariant-loop-at
invariant-loop-at g l = record {
  fits : FitAll l.counters l.way l.minus l.plus;
  made : changed_rows counted (amended_counter l.minus l.plus) l.way l.counters ≡ changed_rows counted (amended_counter l.minus l.plus) (chain l.tree.nodes l.start) l.fn.counters;
  looks : l.steps + length l.way ≡ l.fn.steps + length (chain l.tree.nodes l.start);
}

abbrev pub decreases-loop-at : goal.decreases-loop-at
decreases-loop-at g l = length l.way
