use Rattle.std.proofs.Common.{◌≡◌, ◌≤◌, drop}
use Rattle.fsrm_base.specs.Keyed.{least_free, least_free_from}
use Rattle.row_table.specs.Indexed.{number_of}
use Rattle.row_table.proofs.index.Index.free_number.Given as goal

-- the numbers below this place are there, each at its own
abbrev pub invariant-loop-place : goal.invariant-loop-place
invariant-loop-place l = (l.place ≤ l.count) × (least_free_from number_of l.place (drop l.place l.self.entries) ≡ least_free number_of l.self.entries)
