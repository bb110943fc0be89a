use Rattle.std.proofs.Common.{◌≡◌, take, true}
use Rattle.fsrm_model.specs.objects.Jobs.{job_name}
use Rattle.fsrm_model.specs.values.Name.{names_differ}
use Rattle.stored_rows.proofs.object_rows.put_jobs.Given as goal

abbrev pub invariant-loop-row : goal.invariant-loop-row
invariant-loop-row l = record {
  came : l.tables ≡ record l.fn.tables { jobs = take l.row-index l.rows };
  apart : names_differ job_name l.tables.jobs ≡ true;
}
