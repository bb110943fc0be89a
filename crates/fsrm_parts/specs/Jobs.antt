-- A new report job before it has its number.
use Rattle.std.specs.Prelude.{ℕ, unwrap_or, [], None}
use Rattle.fsrm_model.specs.declared.command.NewJob.{NewJob}
use Rattle.fsrm_model.specs.declared.row.JobRow.{JobRow}

-- a job on this folder, made at this moment, that never ran
abbrev pub blank_job : ℕ → ℕ → NewJob → JobRow
blank_job scope moment new =
    record {
      number = 0;
      name = new.name;
      kind = new.kind;
      scope = scope;
      filter = new.filter;
      schedule = unwrap_or new.schedule [];
      made = moment;
      last_run = None;
    }
