use Rattle.std.proofs.Common.{◌≡◌, ◌++◌, map}
use Rattle.fsrm_model.specs.reports.Groups.{with_value}
use Rattle.storage_reports.specs.Ranks.{ranked}
use Rattle.fsrm_model.specs.reports.Reports.{alloc_in}
use Rattle.storage_reports.proofs.groups.rows_of.Given as goal

abbrev pub invariant-loop-key : goal.invariant-loop-key
invariant-loop-key g l = l.rows.items ++ map (ranked alloc_in g.G.Grouping.row_of) (map (with_value g.G.Grouping.value) l.key-iterator) ≡ map (ranked alloc_in g.G.Grouping.row_of) (map (with_value g.G.Grouping.value) l.fn.groups.entries)
