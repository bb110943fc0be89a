use Rattle.std.proofs.Common.{◌≡◌, ◌+◌, ◌≤◌, ◌++◌, filter, length, map, take, true}
use Rattle.fsrm_base.specs.Order.{in_order}
use Rattle.storage_reports.specs.Ranks.{stands_before, twice_ranked}
use Rattle.fsrm_model.specs.reports.Reports.{file_row, first_alike, has_double, length_of}
use Rattle.storage_reports.proofs.doubles.doubled.Given as goal

abbrev pub invariant-loop-node : goal.invariant-loop-node
invariant-loop-node g l = record {
  rows : take l.max (in_order (stands_before true) (l.rows.items ++ map (twice_ranked length_of (first_alike l.fn.files.files) (file_row l.tree.size)) (filter (has_double l.fn.files.files) l.files.files))) ≡ take l.max (in_order (stands_before true) (map (twice_ranked length_of (first_alike l.fn.files.files) (file_row l.tree.size)) (filter (has_double l.fn.files.files) l.fn.files.files)));
  looks : l.steps + l.files.looks ≤ l.fn.steps + l.fn.files.looks;
}

abbrev pub decreases-loop-node : goal.decreases-loop-node
decreases-loop-node g l = length l.files.files
