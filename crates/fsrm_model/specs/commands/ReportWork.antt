-- The commands on reports and report jobs: their refusals in order, and what they do.
use Rattle.std.specs.Prelude.{ℕ, true, false, not, is_some, is_none, List, [], ◌∷◌, Option, Some, None}
use Rattle.std.specs.Option.{option_map_or}
use Rattle.fsrm_model.specs.declared.command.Ask.TheVariants.{Jobs}
use Rattle.fsrm_model.specs.declared.command.NewJob.{NewJob}
use Rattle.fsrm_model.specs.declared.command.NewReport.{NewReport}
use Rattle.fsrm_model.specs.declared.command.Outcome.TheVariants.{Done, Listing, Report}
use Rattle.fsrm_model.specs.declared.command.Refusal.TheVariants.{PathNotFound, DuplicateName, NotFound}
use Rattle.fsrm_model.specs.declared.report.ReportAsk.{ReportAsk}
use Rattle.fsrm_model.specs.declared.row.Filter.{Filter}
use Rattle.fsrm_model.specs.declared.row.JobRow.{JobRow}
use Rattle.fsrm_model.specs.declared.row.ReportKind.TheVariants.{LargeFiles}
use Rattle.fsrm_model.specs.declared.row.Rows.{Rows}
use Rattle.fsrm_model.specs.commands.Check.{◌when◌, jobs_full, texts_full}
use Rattle.fsrm_model.specs.nodes.FileOps.{target}
use Rattle.fsrm_model.specs.nodes.Leads.{leads_to_folder}
use Rattle.fsrm_model.specs.objects.Jobs.{job_number, job_named, new_job, with_job, with_run, without_job}
use Rattle.fsrm_model.specs.commands.Work.{Work, asks}

-- a report is made of the rows as they are, and never lasts
abbrev pub asked_report : Rows → NewReport → ReportAsk
asked_report R new = record { kind = new.kind; scope = target R.nodes new.scope; filter = new.filter }

abbrev pub report_work : Rows → NewReport → Work
report_work R new =
    asks ((PathNotFound when not (leads_to_folder R.nodes new.scope)) ∷ []) R (Report (asked_report R new)) false

abbrev pub job_add_work : Rows → ℕ → NewJob → Work
job_add_work R moment new =
    let after = record R { jobs = with_job (new_job R.jobs (target R.nodes new.scope) moment new) R.jobs } in
    asks
    ((PathNotFound when not (leads_to_folder R.nodes new.scope)) ∷ (DuplicateName when is_some (job_named R.jobs new.name))
    ∷ jobs_full after ∷ texts_full after ∷ [])
    after (Done None) true

-- the number of a job; 0 if there is none
abbrev pub job_number_in : Option JobRow → ℕ
job_number_in job = option_map_or job_number job 0

abbrev pub job_delete_work : Rows → List ℕ → Work
job_delete_work R name =
    let job = job_named R.jobs name in
    asks ((NotFound when is_none job) ∷ []) (record R { jobs = without_job (job_number_in job) R.jobs }) (Done None) true

-- what a job asks for. If there is none: something that nobody sees, since the command is refused
abbrev pub ask_of : JobRow → ReportAsk
ask_of job = record { kind = job.kind; scope = job.scope; filter = job.filter }

abbrev pub no_filter : Filter
no_filter = record { owner = None; pattern = None; min_size = None; days = None; min_use = None; max = 1000 }

abbrev pub ask_in : Option JobRow → ReportAsk
ask_in job = option_map_or ask_of job (record { kind = LargeFiles; scope = 0; filter = no_filter })

-- the job's last run is now
abbrev pub job_run_work : Rows → ℕ → List ℕ → Work
job_run_work R moment name =
    let job = job_named R.jobs name in
    asks ((NotFound when is_none job) ∷ []) (record R { jobs = with_run (job_number_in job) moment R.jobs }) (Report (ask_in job)) true

-- a list changes nothing
abbrev pub job_list_work : Rows → Work
job_list_work R = asks [] R (Listing Jobs) false
