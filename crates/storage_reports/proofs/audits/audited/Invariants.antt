use Rattle.std.proofs.Common.{◌≡◌, ◌++◌, drop}
use Rattle.fsrm_model.specs.reports.Reports.{audited_from}
use Rattle.storage_reports.proofs.audits.audited.Given as goal

abbrev pub invariant-loop-place : goal.invariant-loop-place
invariant-loop-place l = l.places.items ++ audited_from l.asked l.moment l.place (drop l.place l.audit) ≡ audited_from l.asked l.moment 0 l.audit
