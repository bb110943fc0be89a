-- What an accepted run of a report job does.
use Rattle.std.specs.Prelude.{◌≡◌, ℕ, ◌==◌, false, List, Some}
use Rattle.fsrm_model.specs.declared.command.Command.{Command}
use Rattle.fsrm_model.specs.declared.command.Outcome.TheVariants.{Report}
use Rattle.fsrm_model.specs.declared.row.Capacity.{Capacity}
use Rattle.fsrm_model.specs.declared.row.JobRow.{JobRow}
use Rattle.fsrm_model.specs.declared.row.Rows.{Rows}
use Rattle.fsrm_model.specs.commands.Step.{step}
use Rattle.fsrm_model.specs.objects.Jobs.{job_of, job_named}

-- the job of the name makes its report, its last run is the command's moment, and each other job is as it was
pub record RunsJob (K : Capacity) (R : Rows) (c : Command) (name : List ℕ) : Type 0 where
  pub job : JobRow
  pub named : job_named R.jobs name ≡ Some job
  pub report : (step K R c).outcome ≡ Report (record { kind = job.kind; scope = job.scope; filter = job.filter })
  pub ran : job_of (step K R c).rows.jobs job.number ≡ Some (record job { last_run = Some c.moment })
  pub others : (number : ℕ) → (number == job.number) ≡ false → job_of (step K R c).rows.jobs number ≡ job_of R.jobs number
