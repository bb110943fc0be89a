use Rattle.std.proofs.Common.{◌≡◌, ◌+◌, ◌≤◌, ◌++◌, List, length, map}
use Rattle.fsrm_model.specs.declared.row.NodeRow.{NodeRow}
use Rattle.storage_reports.specs.Files.{sums}
use Rattle.fsrm_model.specs.reports.Groups.{groups, with_value}
use Rattle.storage_reports.proofs.groups.grouped.Given as goal

abbrev pub invariant-loop-node : goal.invariant-loop-node
invariant-loop-node g l = (xs : List NodeRow) × record {
  front : xs ++ l.files.files ≡ l.fn.files.files;
  entries : map (with_value g.G.Grouping.value) l.groups.entries ≡ groups g.G.Grouping.is_same g.G.Grouping.value_in (sums l.tree.size) xs;
  looks : l.steps + l.files.looks ≤ l.fn.steps + l.fn.files.looks;
  all : l.files.all ≡ l.fn.files.all;
  whole : l.files.whole ≡ l.fn.files.whole;
}

abbrev pub decreases-loop-node : goal.decreases-loop-node
decreases-loop-node g l = length l.files.files
