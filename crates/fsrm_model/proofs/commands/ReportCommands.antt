-- The commands on reports and report jobs: each one's work is orderly, and leaves the rows of a store if no check refuses.
use Rattle.std.proofs.Common.{◌≡◌, ℕ, ◌≤◌, ◌==◌, nat_lt, Bool, true, false, not, List, [], ◌∷◌, length, Option, Some, None, refl, sym, ◌∙◌, arith}
use Rattle.std.specs.Prelude.{is_none, is_some, sum_by, unwrap_or, if◌then◌else◌}
use Rattle.std.specs.List.{list_any}
use Rattle.std.specs.Option.{option_map_or}
use Rattle.fsrm_base.specs.Keyed.{least_free}
use Rattle.fsrm_base.proofs.Look.{is_some-find}
use Rattle.fsrm_base.proofs.Order.{least_free_is, length-with_row}
use Rattle.fsrm_base.proofs.TestLaws.{ge_is, le_test, lt_test}
use Rattle.fsrm_model.specs.declared.command.NewJob.{NewJob}
use Rattle.fsrm_model.specs.declared.command.NewReport.{NewReport}
use Rattle.fsrm_model.specs.declared.command.Refusal.TheVariants.{PathNotFound, DuplicateName, NotFound, TableFull, TextsFull}
use Rattle.fsrm_model.specs.declared.row.Capacity.{Capacity}
use Rattle.fsrm_model.specs.declared.row.JobRow.{JobRow}
use Rattle.fsrm_model.specs.declared.row.NodeRow.{NodeRow}
use Rattle.fsrm_model.specs.declared.row.Rows.{Rows}
use Rattle.fsrm_model.specs.commands.Check.{◌when◌, first, jobs_full, texts_full}
use Rattle.fsrm_model.specs.commands.Commands.{is_new_job}
use Rattle.fsrm_model.specs.commands.ReportWork.{report_work, job_add_work, job_number_in, job_delete_work, ask_in, job_run_work, job_list_work}
use Rattle.fsrm_model.specs.nodes.FileOps.{target}
use Rattle.fsrm_model.specs.nodes.Leads.{leads_to_folder}
use Rattle.fsrm_model.specs.nodes.Tree.{is_folder}
use Rattle.fsrm_model.specs.objects.Jobs.{job_number, job_name, is_schedule, job_named, new_job, run_job, with_job, with_run, without_job}
use Rattle.fsrm_model.specs.reports.Filters.{is_filter}
use Rattle.fsrm_model.specs.store.Lasting.{lasting}
use Rattle.fsrm_model.specs.store.Valid.{are_jobs, IsValid}
use Rattle.fsrm_model.specs.values.Limits.{latest_moment, most_jobs, most_text_bytes}
use Rattle.fsrm_model.specs.values.Name.{is_named}
use Rattle.fsrm_model.specs.values.Texts.{job_bytes, object_texts}
use Rattle.fsrm_model.proofs.commands.FileParts.{folder_at}
use Rattle.fsrm_model.proofs.commands.Orderly.{IsStill, KeepsValid, change_still, show_still, bare, first_none, when_none}
use Rattle.fsrm_model.proofs.commands.ValueParts.{new_job_parts}
use Rattle.fsrm_model.proofs.journal.Alike.{WorksAlike, alike, lasting_alike, texts_same}
use Rattle.fsrm_model.proofs.thresholds.KeptLaws.{sum_by-less, sum_by-same}
use Rattle.fsrm_model.proofs.valid.JobsKept.{IsJob, job_at, jobs_parts, jobs-new, jobs-run, jobs-without}
use Rattle.fsrm_model.proofs.valid.RowsKept.{nothing_followed, jobs_followed}

-- ---- the commands
-- a report is on a folder
pub report_still : (K : Capacity) (R : Rows) (new : NewReport) → IsStill K R (report_work R new)
report_still K R new =
    show_still K R _ _ tt (bare _ _ refl, tt) (λ store h.
    folder_at R.nodes new.scope (first_none (PathNotFound when not (leads_to_folder R.nodes new.scope)) [] h).0)

pub job_add_still : (K : Capacity) (R : Rows) (moment : ℕ) (new : NewJob) → IsStill K R (job_add_work R moment new)
job_add_still K R moment new =
    change_still K R _ _ (bare _ _ refl, (bare _ _ refl, (bare _ _ refl, (bare _ _ refl, tt)))) refl

pub job_delete_still : (K : Capacity) (R : Rows) (name : List ℕ) → IsStill K R (job_delete_work R name)
job_delete_still K R name = change_still K R _ _ (bare _ _ refl, tt) refl

-- a job that is found is that of a store
record IsFound (nodes : List NodeRow) (o : Option JobRow) : Type 0 where
  folder : is_folder nodes (ask_in o).scope ≡ true
  filter : is_filter (ask_in o).filter ≡ true

found_is : (nodes : List NodeRow) (jobs : List JobRow) (name : List ℕ) (o : Option JobRow) → are_jobs nodes jobs ≡ true → job_named jobs name ≡ o → is_none o ≡ false → IsFound nodes o
found_is nodes jobs name None h e some = absurd (cc some)
found_is nodes jobs name (Some job) h e some =
    let is = job_at nodes jobs (is_named job_name name) job h e in
    record { folder = is.scope; filter = is.filter }

unrefused_job : (K : Capacity) (R : Rows) (moment : ℕ) (name : List ℕ) → IsValid K R → first (job_run_work R moment name).checks ≡ None → IsFound R.nodes (job_named R.jobs name)
unrefused_job K R moment name store h =
    let missing = is_none (job_named R.jobs name) in
    found_is R.nodes R.jobs name (job_named R.jobs name) store.tables.jobs refl (when_none NotFound missing (first_none (NotFound when missing) [] h).0)

-- so the filter of its report has values in their ranges
pub job_run_filtered : (K : Capacity) (R : Rows) (moment : ℕ) (name : List ℕ) → IsValid K R → first (job_run_work R moment name).checks ≡ None → is_filter (ask_in (job_named R.jobs name)).filter ≡ true
job_run_filtered K R moment name store h = (unrefused_job K R moment name store h).filter

pub job_run_still : (K : Capacity) (R : Rows) (moment : ℕ) (name : List ℕ) → IsStill K R (job_run_work R moment name)
job_run_still K R moment name =
    record {
      orderly = record {
        answer = tt;
        checks = (bare _ _ refl, tt);
        named = λ store h. (unrefused_job K R moment name store h).folder;
        quiet = λ store h never. absurd (cc never);
        judged = λ j h. absurd (cc h);
      };
      same = refl;
      unjudged = refl;
    }

pub job_list_still : (K : Capacity) (R : Rows) → IsStill K R (job_list_work R)
job_list_still K R = show_still K R [] _ tt tt (λ store h. tt)

-- no job has the name
unnamed : (jobs : List JobRow) (name : List ℕ) → is_some (job_named jobs name) ≡ false → list_any (is_named job_name name) jobs ≡ false
unnamed jobs name h = sym (is_some-find (is_named job_name name) jobs) ∙ h

-- a new job
schedule_is : (o : Option (List ℕ)) → option_map_or is_schedule o true ≡ true → is_schedule (unwrap_or o []) ≡ true
schedule_is None h = refl
schedule_is (Some schedule) h = h

pub job_add_kept : (K : Capacity) (R : Rows) (moment : ℕ) (new : NewJob) → is_new_job new ≡ true → moment ≤ latest_moment → KeepsValid K R (job_add_work R moment new)
job_add_kept K R moment new legal late s h =
    let its = new_job_parts new legal in
    let scope = target R.nodes new.scope in
    let row : JobRow = new_job R.jobs scope moment new in
    let jobs = with_job row R.jobs in
    let after = record R { jobs = jobs } in
    let taken = is_some (job_named R.jobs new.name) in
    let known = (DuplicateName when taken) in
    let full = jobs_full after in
    let long = texts_full after in
    let a = first_none (PathNotFound when not (leads_to_folder R.nodes new.scope)) (known ∷ full ∷ long ∷ []) h in
    let b = first_none known (full ∷ long ∷ []) a.1 in
    let c = first_none full (long ∷ []) b.1 in
    let d = first_none long [] c.1 in
    let t = jobs_parts R.nodes R.jobs s.tables.jobs in
    let free = least_free_is job_number R.jobs t.ascending in
    let most = free.most in
    let few : length jobs ≤ most_jobs = ge_is _ _ (when_none TableFull (nat_lt most_jobs (length jobs)) c.0) in
    let is : IsJob R.nodes row = record {
      scope = folder_at R.nodes new.scope a.0;
      below = lt_test (least_free job_number R.jobs) most_jobs (omega (arith, most, few, length-with_row job_number row R.jobs));
      named = its.name;
      filter = its.filter;
      schedule = schedule_is new.schedule its.schedule;
      made = le_test moment latest_moment late;
      last_run = refl;
    } in
    jobs_followed K R jobs s
    (jobs-new R.nodes row R.jobs s.tables.jobs free.free (unnamed R.jobs new.name (when_none DuplicateName taken b.0)) few is)
    (ge_is _ _ (when_none TextsFull (nat_lt most_text_bytes (object_texts after)) d.0))

-- texts of no more jobs
fewer_jobs : (R : Rows) (jobs : List JobRow) → sum_by job_bytes jobs ≤ sum_by job_bytes R.jobs → object_texts R ≤ most_text_bytes → object_texts (record R { jobs = jobs }) ≤ most_text_bytes
fewer_jobs R jobs less few = omega (arith, less, few)

pub job_delete_kept : (K : Capacity) (R : Rows) (name : List ℕ) → KeepsValid K R (job_delete_work R name)
job_delete_kept K R name s h =
    let n = job_number_in (job_named R.jobs name) in
    jobs_followed K R (without_job n R.jobs) s (jobs-without R.nodes n R.jobs s.tables.jobs)
    (fewer_jobs R (without_job n R.jobs) (sum_by-less job_bytes (λ job. not (job_number job == n)) R.jobs) s.texts)

-- a run leaves the texts
run_bytes : (n moment : ℕ) (job : JobRow) → job_bytes (if job_number job == n then run_job moment job else job) ≡ job_bytes job
run_bytes n moment job = at (job_number job == n)
  where
    at : (b : Bool) → job_bytes (if b then run_job moment job else job) ≡ job_bytes job
    at true = refl
    at false = refl

pub job_run_kept : (K : Capacity) (R : Rows) (moment : ℕ) (name : List ℕ) → moment ≤ latest_moment → KeepsValid K R (job_run_work R moment name)
job_run_kept K R moment name late s h =
    let n = job_number_in (job_named R.jobs name) in
    let same : sum_by job_bytes (with_run n moment R.jobs) ≡ sum_by job_bytes R.jobs = sum_by-same job_bytes (λ job. if job_number job == n then run_job moment job else job) (run_bytes n moment) R.jobs in
    jobs_followed K R (with_run n moment R.jobs) s (jobs-run R.nodes n moment R.jobs late s.tables.jobs)
    (fewer_jobs R (with_run n moment R.jobs) (omega (arith, same)) s.texts)

pub job_list_kept : (K : Capacity) (R : Rows) → KeepsValid K R (job_list_work R)
job_list_kept K R s h = nothing_followed K R s

-- ---- over rows and over what is kept of them
pub report_alike : (R : Rows) (new : NewReport) → WorksAlike (report_work R new) (report_work (lasting R) new)
report_alike R new = alike (lasting_alike R) (refl, tt)

pub job_add_alike : (R : Rows) (moment : ℕ) (new : NewJob) → WorksAlike (job_add_work R moment new) (job_add_work (lasting R) moment new)
job_add_alike R moment new =
    let E : Rows = record R { jobs = with_job (new_job R.jobs (target R.nodes new.scope) moment new) R.jobs } in
    alike (lasting_alike E) (refl, (refl, (refl, (texts_same (lasting_alike E), tt))))

pub job_delete_alike : (R : Rows) (name : List ℕ) → WorksAlike (job_delete_work R name) (job_delete_work (lasting R) name)
job_delete_alike R name =
    alike (lasting_alike (record R { jobs = without_job (job_number_in (job_named R.jobs name)) R.jobs })) (refl, tt)

pub job_run_alike : (R : Rows) (moment : ℕ) (name : List ℕ) → WorksAlike (job_run_work R moment name) (job_run_work (lasting R) moment name)
job_run_alike R moment name =
    alike (lasting_alike (record R { jobs = with_run (job_number_in (job_named R.jobs name)) moment R.jobs })) (refl, tt)

pub job_list_alike : (R : Rows) → WorksAlike (job_list_work R) (job_list_work (lasting R))
job_list_alike R = alike (lasting_alike R) tt
