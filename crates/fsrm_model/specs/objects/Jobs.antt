-- Report jobs: reports that are kept under a name, to be made again (MS-FSRM, IFsrmReportJob).
use Rattle.std.specs.Prelude.{ℕ, ◌==◌, ◌&&◌, not, nat_lt, nat_le, Bool, true, [], List, length, filter, find, unwrap_or, Option, Some, None}
use Rattle.std.specs.List.{list_all}
use Rattle.std.specs.Option.{option_map_or}
use Rattle.fsrm_base.specs.Keyed.{row_of, with_row, with_change, without_row, least_free}
use Rattle.fsrm_model.specs.declared.command.NewJob.{NewJob}
use Rattle.fsrm_model.specs.declared.row.JobRow.{JobRow}
use Rattle.fsrm_model.specs.declared.row.Rows.{Rows}
use Rattle.fsrm_model.specs.objects.Thresholds.{is_printing}
use Rattle.fsrm_model.specs.reports.Filters.{is_filter}
use Rattle.fsrm_model.specs.values.Limits.{latest_moment, most_jobs, longest_schedule}
use Rattle.fsrm_model.specs.values.Name.{is_named}
use Rattle.fsrm_model.specs.values.Patterns.{is_object_name}

abbrev pub job_number : JobRow → ℕ
job_number job = job.number

abbrev pub job_name : JobRow → List ℕ
job_name job = job.name

-- the job of a number, and that of a name, in any spelling
abbrev pub job_of : List JobRow → ℕ → Option JobRow
job_of jobs number = row_of job_number number jobs

abbrev pub job_named : List JobRow → List ℕ → Option JobRow
job_named jobs name = find (is_named job_name name) jobs

-- a schedule, which is UTF-8: up to 200 bytes, no control character of ASCII (0 to 31 and 127). Whether it tells of moments is another question
abbrev pub is_schedule : List ℕ → Bool
is_schedule text = nat_le (length text) longest_schedule && list_all is_printing text

-- what a job has, whatever stands beside it. Its number is 0 to 255
abbrev pub is_job : JobRow → Bool
is_job job =
    (nat_lt job.number most_jobs && is_object_name job.name)
    && (is_filter job.filter && (is_schedule job.schedule
    && (nat_le job.made latest_moment && option_map_or (λ run. nat_le run latest_moment) job.last_run true)))

-- ---- tables of jobs, ascending by number
-- a new job takes the least number that is free, and never ran
abbrev pub new_job : List JobRow → ℕ → ℕ → NewJob → JobRow
new_job jobs scope moment new =
    record {
      number = least_free job_number jobs;
      name = new.name;
      kind = new.kind;
      scope = scope;
      filter = new.filter;
      schedule = unwrap_or new.schedule [];
      made = moment;
      last_run = None;
    }

abbrev pub with_job : JobRow → List JobRow → List JobRow
with_job job jobs = with_row job_number job jobs

-- a job that ran
abbrev pub run_job : ℕ → JobRow → JobRow
run_job moment job = record job { last_run = Some moment }

abbrev pub with_run : ℕ → ℕ → List JobRow → List JobRow
with_run number moment jobs = with_change job_number number (run_job moment) jobs

abbrev pub without_job : ℕ → List JobRow → List JobRow
without_job number jobs = without_row job_number number jobs

-- rows without the jobs that report on a folder
abbrev pub is_elsewhere : ℕ → JobRow → Bool
is_elsewhere folder job = not (job.scope == folder)

abbrev pub without_jobs : Rows → ℕ → Rows
without_jobs R folder = record R { jobs = filter (is_elsewhere folder) R.jobs }
