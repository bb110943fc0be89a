use Rattle.std.proofs.Common.{◌≡◌, map}
use Rattle.fsrm_model.specs.reports.Reports.{audit_row}
use Rattle.storage_reports.proofs.audits.rows_of.Given as goal

abbrev pub invariant-loop-place : goal.invariant-loop-place
invariant-loop-place l = l.rows ≡ map audit_row l.yielded
