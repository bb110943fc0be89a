-- What the commands on reports and report jobs leave.
use Rattle.std.proofs.Common.{◌≡◌, ℕ, ◌==◌, nat_lt, Bool, true, false, cond, not, List, [], ◌∷◌, Option, Some, None, refl, sym, ◌∙◌, ap, subst, inl, inr}
use Rattle.std.specs.Prelude.{is_none, option_map, if◌then◌else◌}
use Rattle.fsrm_base.specs.Keyed.{row_of}
use Rattle.fsrm_base.proofs.Look.{found_key, found_own, row_of-change}
use Rattle.fsrm_base.proofs.TestLaws.{eq_same}
use Rattle.fsrm_model.specs.declared.command.Command.{Command}
use Rattle.fsrm_model.specs.declared.command.Deed.{Deed}
use Rattle.fsrm_model.specs.declared.command.Deed.TheVariants.{File, Reports}
use Rattle.fsrm_model.specs.declared.command.NewReport.{NewReport}
use Rattle.fsrm_model.specs.declared.command.Outcome.TheVariants.{Report, Refused}
use Rattle.fsrm_model.specs.declared.command.Refusal.{Refusal}
use Rattle.fsrm_model.specs.declared.command.Refusal.TheVariants.{ClockBack, PathNotFound, NotFound, ScreenBlocked, QuotaExceeded}
use Rattle.fsrm_model.specs.declared.command.ReportsDeed.{ReportsDeed}
use Rattle.fsrm_model.specs.declared.command.ReportsDeed.TheVariants.{Generate as ReportsGenerate, Run as ReportsRun}
use Rattle.fsrm_model.specs.declared.row.Capacity.{Capacity}
use Rattle.fsrm_model.specs.declared.row.JobRow.{JobRow}
use Rattle.fsrm_model.specs.declared.row.Rows.{Rows}
use Rattle.fsrm_model.specs.commands.Check.{◌when◌, first}
use Rattle.fsrm_model.specs.commands.ReportWork.{job_number_in, ask_in, report_work, job_run_work}
use Rattle.fsrm_model.specs.commands.Step.{is_accepted, step, decided}
use Rattle.fsrm_model.specs.meaning.RunsJob.{RunsJob}
use Rattle.fsrm_model.specs.nodes.Leads.{leads_to_folder}
use Rattle.fsrm_model.specs.objects.Jobs.{job_number, job_name, job_of, job_named, run_job, with_run}
use Rattle.fsrm_model.specs.objects.QuotaStates.{same_head, scan_begun, followed}
use Rattle.fsrm_model.specs.store.Valid.{IsValid}
use Rattle.fsrm_model.specs.values.Name.{is_named}
use Rattle.fsrm_model.proofs.commands.AcceptedEnds.{none_refuses}
use Rattle.fsrm_model.proofs.commands.EachCommand.{screen_refuses, quota_refuses, refused_or_exception}
use Rattle.fsrm_model.proofs.commands.Orderly.{first_none, when_none}
use Rattle.fsrm_model.proofs.commands.OrderlyLaws.{verdict}
use Rattle.fsrm_model.proofs.valid.JobsKept.{jobs_parts}

-- ---- a run
job_there : (o : Option JobRow) → is_none o ≡ false → (job : JobRow) × (o ≡ Some job)
job_there None h = absurd (cc h)
job_there (Some job) h = (job, refl)

-- the job of another number is as it was
other_job : (n moment number : ℕ) (jobs : List JobRow) → (number == n) ≡ false → job_of (with_run n moment jobs) number ≡ job_of jobs number
other_job n moment number jobs apart =
    row_of-change job_number n (run_job moment) (λ job. refl) number jobs ∙ at (row_of job_number number jobs) refl
  where
    its : JobRow → JobRow
    its job = if job_number job == n then run_job moment job else job

    at : (o : Option JobRow) → row_of job_number number jobs ≡ o → option_map its o ≡ o
    at None e = refl
    at (Some job) e =
        let other : (job_number job == n) ≡ false = ap (λ k. k == n) (found_key job_number number jobs job e) ∙ apart in
        ap (λ (b : Bool). Some (cond b (run_job moment job) job)) other

own_job : (moment : ℕ) (jobs : List JobRow) (job : JobRow) → job_of jobs job.number ≡ Some job → job_of (with_run job.number moment jobs) job.number ≡ Some (run_job moment job)
own_job moment jobs job e =
    row_of-change job_number job.number (run_job moment) (λ job. refl) job.number jobs
    ∙ (ap (option_map (λ r. if job_number r == job.number then run_job moment r else r)) e
    ∙ ap (λ (b : Bool). Some (cond b (run_job moment job) job)) (eq_same job.number))

run_runs : (K : Capacity) (R : Rows) (moment : ℕ) (name : List ℕ) → let c : Command = record { moment = moment; deed = Reports (ReportsRun name) } in IsValid K R → is_accepted (step K R c).outcome ≡ true → RunsJob K R c name
run_runs K R moment name store told =
    let w = job_run_work R moment name in
    let named = job_named R.jobs name in
    let late = nat_lt moment R.last_moment in
    let none : verdict late w ≡ None = none_refuses K R moment w (verdict late w) told in
    let own = (first_none (ClockBack when late) w.checks none).1 in
    let there = job_there named (when_none NotFound (is_none named) (first_none (NotFound when is_none named) [] own).0) in
    let job : JobRow = there.0 in
    let jobs : (decided K R moment w (verdict late w)).rows.jobs ≡ with_run job.number moment R.jobs =
    ap (λ (o : Option Refusal). (decided K R moment w o).rows.jobs) none
    ∙ ap (λ (o : Option JobRow). with_run (job_number_in o) moment R.jobs) there.1 in
    let here = found_own job_number (is_named job_name name) R.jobs job (jobs_parts R.nodes R.jobs store.tables.jobs).ascending there.1 in
    record {
      job = job;
      named = there.1;
      report =
          ap (λ (o : Option Refusal). (decided K R moment w o).outcome) none ∙ ap (λ (o : Option JobRow). Report (ask_in o)) there.1;
      ran = ap (λ (rows : List JobRow). job_of rows job.number) jobs ∙ own_job moment R.jobs job here;
      others = λ number apart. ap (λ (rows : List JobRow). job_of rows number) jobs ∙ other_job job.number moment number R.jobs apart;
    }

pub runs_job : (K : Capacity) (R : Rows) (c : Command) (name : List ℕ) → IsValid K R → c.deed ≡ Reports (ReportsRun name) → is_accepted (step K R c).outcome ≡ true → RunsJob K R c name
runs_job K R c name store is =
    subst (λ (deed : Deed). is_accepted (step K R (record { moment = c.moment; deed = deed })).outcome ≡ true → RunsJob K R (record { moment = c.moment; deed = deed }) name) (sym is) (run_runs K R c.moment name store)

-- ---- a report that is made once
same_followed : (R : Rows) → followed R R ≡ R
same_followed R = ap (λ (b : Bool). record R { unvisited = cond b R.unvisited (scan_begun R.nodes R.queue) }) (itself R.queue)
  where
    itself : (queue : List ℕ) → same_head queue queue ≡ true
    itself [] = refl
    itself (n ∷ queue) = eq_same n

made_once : (K : Capacity) (R : Rows) (moment : ℕ) (new : NewReport) (late missing : Bool) → (decided K R moment (report_work R new) (first ((ClockBack when late) ∷ (PathNotFound when missing) ∷ []))).rows ≡ R
made_once K R moment new true missing = refl
made_once K R moment new false true = refl
made_once K R moment new false false = same_followed R

pub shown : (K : Capacity) (R : Rows) (c : Command) (new : NewReport) → c.deed ≡ Reports (ReportsGenerate new) → (step K R c).rows ≡ R
shown K R c new is =
    ap (λ (deed : Deed). (step K R (record { moment = c.moment; deed = deed })).rows) is
    ∙ made_once K R c.moment new (nat_lt c.moment R.last_moment) (not (leads_to_folder R.nodes new.scope))

-- ---- a refusal
pub refused_still : (K : Capacity) (R : Rows) (c : Command) (reports : ReportsDeed) (refusal : Refusal) → IsValid K R → c.deed ≡ Reports reports → (step K R c).outcome ≡ Refused refusal → (step K R c).rows ≡ R
refused_still K R c reports (ScreenBlocked screen) store is h =
    let found = screen_refuses K R c screen h in
    let never : Reports reports ≡ File found.0 = sym is ∙ found.2 in
    absurd (cc never)
refused_still K R c reports (QuotaExceeded folder would limit) store is h =
    let found = quota_refuses K R c folder would limit store h in
    let never : Reports reports ≡ File found.0 = sym is ∙ found.1 in
    absurd (cc never)
refused_still K R c reports refusal store is h = elim (refused_or_exception K R c refusal h) [
  | inl same ↦ same
  | inr leaves ↦ absurd (cc leaves)
]
