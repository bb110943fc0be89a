-- The commands on reports and report jobs: which refusal is due, and what is left.
use Rattle.std.proofs.Common.{◌≡◌, ℕ, ◌+◌, ◌≤◌, ◌&&◌, Bool, true, false, List, [], ◌∷◌, length, Option, Some, None, nat_lt, nat_le, refl, ap, sym, ◌∙◌, arith}
use Rattle.std.proofs.lemmas.Option.{same_Some}
use Rattle.std.specs.List.{list_all}
use Rattle.std.specs.Option.{option_and_then, option_map_or}
use Rattle.std.specs.Prelude.{is_none, is_some, option_map, unwrap_or, Result, IfOk}
use Rattle.file_groups.specs.Kept.{group_texts}
use Rattle.templates.specs.Held.{texts_in as template_texts}
use Rattle.fsrm_base.specs.declared.memory.NoMemory.{NoMemory as Wanting}
use Rattle.fsrm_base.specs.Causes.{◌when◌, first}
use Rattle.fsrm_base.specs.Keyed.{has_row, is_ascending, with_row, with_change, without_row}
use Rattle.fsrm_base.proofs.EditedRows.{sum_by-with_row}
use Rattle.fsrm_base.proofs.Look.{found_has, found_own}
use Rattle.fsrm_base.proofs.Order.{length-with_row}
use Rattle.fsrm_base.proofs.TestLaws.{both, le_is}
use Rattle.fsrm_model.specs.declared.command.Answer.{Answer}
use Rattle.fsrm_model.specs.declared.command.Deed.{Deed}
use Rattle.fsrm_model.specs.declared.command.Deed.TheVariants.{Reports}
use Rattle.fsrm_model.specs.declared.command.NewJob.{NewJob}
use Rattle.fsrm_model.specs.declared.command.NewReport.{NewReport}
use Rattle.fsrm_model.specs.declared.command.Outcome.{Outcome}
use Rattle.fsrm_model.specs.declared.command.Outcome.TheVariants.{Done, Report}
use Rattle.fsrm_model.specs.declared.command.Refusal.{Refusal}
use Rattle.fsrm_model.specs.declared.command.Refusal.TheVariants as refusal
use Rattle.fsrm_model.specs.declared.command.ReportsDeed.TheVariants.{Generate as ReportsGenerate, Add as ReportsAdd, Delete as ReportsDelete, Run as ReportsRun}
use Rattle.fsrm_model.specs.declared.row.JobRow.{JobRow}
use Rattle.fsrm_model.specs.declared.row.Rows.{Rows}
use Rattle.fsrm_model.specs.commands.Check.{jobs_full, texts_full}
use Rattle.fsrm_model.specs.commands.Commands.{is_new_job}
use Rattle.fsrm_model.specs.commands.ReportWork.{ask_in, ask_of, job_number_in}
use Rattle.fsrm_model.specs.objects.Jobs.{is_schedule, job_name, job_named, job_number, job_of, new_job, run_job}
use Rattle.fsrm_model.specs.objects.Thresholds.{is_printing}
use Rattle.fsrm_model.specs.reports.Filters.{is_length, is_owner}
use Rattle.fsrm_model.specs.store.Valid.{IsValid, is_sound_job}
use Rattle.fsrm_model.specs.values.Limits.{longest_name, longest_schedule, most_jobs, most_text_bytes}
use Rattle.fsrm_model.specs.values.Name.{is_named, names_differ}
use Rattle.fsrm_model.specs.values.Patterns.{is_object_byte, is_object_name, is_pattern}
use Rattle.fsrm_model.specs.values.Texts.{job_bytes, object_texts}
use Rattle.fsrm_model.proofs.commands.ValueParts.{new_job_parts}
use Rattle.fsrm_objects.specs.declared.answer.ObjectFault.{ObjectFault}
use Rattle.fsrm_objects.specs.declared.answer.ObjectFault.TheVariants as object
use Rattle.fsrm_objects.specs.Kept.{most_job_bytes}
use Rattle.fsrm_objects.specs.Tables.{IsFault, Tables, job_fault, job_texts, numbered, quota_texts, screen_texts, with_job, with_job_run, without_job}
use Rattle.fsrm_engine.specs.declared.parts.Parts.{Parts}
use Rattle.fsrm_parts.specs.Faults.{table_answer, table_refusal}
use Rattle.fsrm_engine.specs.Faults.{text_room, texts_of}
use Rattle.fsrm_parts.specs.Jobs.{blank_job}
use Rattle.fsrm_engine.specs.Machine.{Does, IsIdle, IsWhole, ended, rows_of}
use Rattle.fsrm_parts.specs.Places.{IsFolder}
use Rattle.fsrm_parts.proofs.walks.PlaceLaws.{target_is}
use Rattle.fsrm_engine.proofs.steps.StepLaws.{due, told_as}
use Rattle.fsrm_engine.proofs.tables.GroupLaws.{retabled_as}
use Rattle.fsrm_engine.proofs.tables.RoomLaws.{few_texts, full_test, room_test}
use Rattle.fsrm_engine.proofs.tables.ScreenLaws.{refused_by}
use Rattle.fsrm_parts.proofs.walks.FoundLaws.{on_folder}

-- ---- a report of a folder
pub report_told : (p : Parts) (m : ℕ) (new : NewReport) (n : ℕ) (outcome : Outcome) (answer : Answer) → IsIdle p → p.last_moment ≤ m → IsFolder p.tree.nodes new.scope n → outcome ≡ Report (record { kind = new.kind; scope = n; filter = new.filter }) → answer ≡ record { outcome = outcome; lasting = false } → Does p p m (Reports (ReportsGenerate new)) answer
report_told p m new n outcome answer idle after at is e =
    told_as p m (Reports (ReportsGenerate new)) answer idle after (on_folder (rows_of p) new.scope n (λ k. []) at) refl refl
    (e
    ∙ ap (λ (o : Outcome). record { outcome = o; lasting = false })
    (is ∙ ap (λ k. Report (record { kind = new.kind; scope = k; filter = new.filter })) (sym (target_is p.tree.nodes new.scope n at.resolved))))

-- ---- a job by its name
jobs_ascend : (p : Parts) → IsValid p.tree.size (rows_of p) → is_ascending job_number p.objects.jobs ≡ true
jobs_ascend p v =
    let jobs = p.objects.jobs in
    (both (is_ascending job_number jobs) (nat_le (length jobs) most_jobs)
    (both (is_ascending job_number jobs && nat_le (length jobs) most_jobs) (list_all (is_sound_job p.tree.nodes) jobs && names_differ job_name jobs) v.tables.jobs).0).0

pub named_there : (p : Parts) (name : List ℕ) (job : JobRow) → IsValid p.tree.size (rows_of p) → job_named p.objects.jobs name ≡ Some job → has_row job_number job.number p.objects.jobs ≡ true
named_there p name job v is = found_has job_number job.number p.objects.jobs job (found_own job_number (is_named job_name name) p.objects.jobs job (jobs_ascend p v) is)

pub found_named : (p : Parts) (name lent : List ℕ) (n : ℕ) → IsValid p.tree.size (rows_of p) → lent ≡ name → Some n ≡ option_map job_number (job_named p.objects.jobs lent) → job_of p.objects.jobs n ≡ job_named p.objects.jobs name
found_named p name lent n v same h = at (job_named jobs lent) refl h ∙ ap (job_named jobs) same
  where
    jobs : List JobRow
    jobs = p.objects.jobs

    at : (o : Option JobRow) → job_named jobs lent ≡ o → Some n ≡ option_map job_number o → job_of jobs n ≡ job_named jobs lent
    at None e h = cc
    at (Some job) e h = ap (job_of jobs) (same_Some n job.number h) ∙ (found_own job_number (is_named job_name lent) jobs job (jobs_ascend p v) e ∙ sym e)

pub delete_missing : (p : Parts) (m : ℕ) (name : List ℕ) → job_named p.objects.jobs name ≡ None → due p m (Reports (ReportsDelete name)) ≡ Some refusal.NotFound
delete_missing p m name h = ap (λ o. first ((refusal.NotFound when is_none o) ∷ [])) h

pub run_missing : (p : Parts) (m : ℕ) (name : List ℕ) → job_named p.objects.jobs name ≡ None → due p m (Reports (ReportsRun name)) ≡ Some refusal.NotFound
run_missing p m name h = ap (λ o. first ((refusal.NotFound when is_none o) ∷ [])) h

module _ (p : Parts) (m : ℕ) (name : List ℕ) (job : JobRow) (is : job_named p.objects.jobs name ≡ Some job) (w : IsWhole p) (idle : IsIdle p) (in_time : p.last_moment ≤ m) where
  -- it goes
  pub job_deleted : (new : Parts) (tables : Tables) (answer : Answer) → tables ≡ without_job p.objects job.number → new ≡ ended (record p { objects = tables }) m → answer ≡ record { outcome = Done None; lasting = true } → Does p new m (Reports (ReportsDelete name)) answer
  job_deleted new tables answer made ends e =
      let R = rows_of p in
      retabled_as p p.groups tables w (ap (λ (t : Tables). t.quotas) made) new m (Reports (ReportsDelete name)) answer idle in_time
      (ap (λ o. first ((refusal.NotFound when is_none o) ∷ [])) is)
      (ap (λ o. record R { jobs = without_row job_number (job_number_in o) p.objects.jobs }) is
      ∙ ap (λ (t : Tables). record R { screens = t.screens; excepts = t.excepts; jobs = t.jobs }) (sym made)) refl refl ends e

  -- it runs
  pub job_ran : (new : Parts) (tables : Tables) (outcome : Outcome) (answer : Answer) → tables ≡ with_job_run p.objects job.number m → new ≡ ended (record p { objects = tables }) m → outcome ≡ Report (ask_of job) → answer ≡ record { outcome = outcome; lasting = true } → Does p new m (Reports (ReportsRun name)) answer
  job_ran new tables outcome answer made ends told e =
      let R = rows_of p in
      retabled_as p p.groups tables w (ap (λ (t : Tables). t.quotas) made) new m (Reports (ReportsRun name)) answer idle in_time
      (ap (λ o. first ((refusal.NotFound when is_none o) ∷ [])) is)
      (ap (λ o. record R { jobs = with_change job_number (job_number_in o) (run_job m) p.objects.jobs }) is
      ∙ ap (λ (t : Tables). record R { screens = t.screens; excepts = t.excepts; jobs = t.jobs }) (sym made)) refl refl ends
      (e ∙ ap (λ (o : Outcome). record { outcome = o; lasting = true }) (told ∙ ap (λ o. Report (ask_in o)) (sym is)))

-- ---- a new job
three : (a b c : Bool) → first ((refusal.DuplicateName when a) ∷ (refusal.TableFull when b) ∷ (refusal.TextsFull when c) ∷ []) ≡ option_and_then table_refusal (first ((object.DuplicateName when a) ∷ (object.TableFull when b) ∷ (object.TextsFull when c) ∷ []))
three true b c = refl
three false true c = refl
three false false true = refl
three false false false = refl

-- its texts are no longer than those of a job may be
short_name : (name : List ℕ) → is_object_name name ≡ true → length name ≤ longest_name
short_name name is =
    le_is (length name) longest_name (both (nat_lt 0 (length name)) (nat_le (length name) longest_name) (both _ (list_all is_object_byte name) is).0).1

short_pattern : (pattern : Option (List ℕ)) → option_map_or is_pattern pattern true ≡ true → option_map_or (λ (text : List ℕ). length text) pattern 0 ≤ longest_name
short_pattern None is = omega arith
short_pattern (Some text) is =
    le_is (length text) longest_name (both (nat_lt 0 (length text)) (nat_le (length text) longest_name) (both _ _ (both _ _ is).0).0).1

short_schedule : (schedule : Option (List ℕ)) → option_map_or is_schedule schedule true ≡ true → length (unwrap_or schedule []) ≤ longest_schedule
short_schedule None is = omega arith
short_schedule (Some text) is = le_is (length text) longest_schedule (both (nat_le (length text) longest_schedule) (list_all is_printing text) is).0

pub new_short : (scope m : ℕ) (values : NewJob) (row : JobRow) → row ≡ blank_job scope m values → is_new_job values ≡ true → job_bytes row ≤ most_job_bytes
new_short scope m values row is legal =
    let its = new_job_parts values legal in
    let filter = values.filter in
    let files = both (option_map_or is_owner filter.owner true) (option_map_or is_pattern filter.pattern true && option_map_or is_length filter.min_size true) (both _ _ its.filter).0 in
    let name = short_name values.name its.name in
    let schedule = short_schedule values.schedule its.schedule in
    let pattern = short_pattern filter.pattern (both (option_map_or is_pattern filter.pattern true) (option_map_or is_length filter.min_size true) files.1).0 in
    let same = ap job_bytes is in
    omega (arith, same, name, schedule, pattern)

module _ (p : Parts) (m : ℕ) (values : NewJob) (n : ℕ) (at : IsFolder p.tree.nodes values.scope n) where
  abbrev adding : Deed
  adding = Reports (ReportsAdd values)

  abbrev job_at : ℕ → JobRow
  job_at k = new_job p.objects.jobs k m values

  abbrev grown : ℕ → Rows
  grown k = record (rows_of p) { jobs = with_row job_number (job_at k) p.objects.jobs }

  abbrev taken : Bool
  taken = is_some (job_named p.objects.jobs values.name)

  abbrev test : Bool → Bool → Option Refusal
  test b c = first ((refusal.DuplicateName when taken) ∷ (refusal.TableFull when b) ∷ (refusal.TextsFull when c) ∷ [])

  module _ (w : IsWhole p) (row : JobRow) (room : ℕ) (is : row ≡ blank_job n m values) (room_is : room ≡ text_room p) where
    full : nat_lt most_jobs (length (grown n).jobs) ≡ nat_le most_jobs (length p.objects.jobs)
    full = full_test most_jobs (length p.objects.jobs) (length (grown n).jobs) (length-with_row job_number (job_at n) p.objects.jobs)

    all_texts : (jobs : List JobRow) → object_texts (record (rows_of p) { jobs = jobs }) ≡ job_texts jobs + ((quota_texts p.objects.quotas + screen_texts p.objects.screens + group_texts p.groups) + template_texts p.templates)
    all_texts jobs = omega arith

    long : nat_lt most_text_bytes (object_texts (grown n)) ≡ nat_lt (text_room p) (job_bytes (job_at n))
    long =
        let whole = all_texts (grown n).jobs in
        let sum : job_texts (grown n).jobs ≡ job_bytes (job_at n) + job_texts p.objects.jobs = sum_by-with_row job_number job_bytes (job_at n) p.objects.jobs in
        room_test most_text_bytes (texts_of p) (job_bytes (job_at n)) (object_texts (grown n)) (few_texts p w) (omega (arith, whole, sum))

    add_is : due p m adding ≡ option_and_then table_refusal (job_fault p.objects row room)
    add_is =
        on_folder (rows_of p) values.scope n (λ k. (refusal.DuplicateName when taken) ∷ jobs_full (grown k) ∷ texts_full (grown k) ∷ []) at
        ∙ (ap (λ b. test b (nat_lt most_text_bytes (object_texts (grown n)))) full
        ∙ (ap (test (nat_le most_jobs (length p.objects.jobs))) long
        ∙ (three taken (nat_le most_jobs (length p.objects.jobs)) (nat_lt (text_room p) (job_bytes (job_at n)))
        ∙ (ap (λ r. option_and_then table_refusal (job_fault p.objects r (text_room p))) (sym is)
        ∙ ap (λ k. option_and_then table_refusal (job_fault p.objects row k)) (sym room_is)))))

    module _ (idle : IsIdle p) (in_time : p.last_moment ≤ m) (tables : Tables) where
      pub job_added : (new : Parts) (answer : Answer) → job_fault p.objects row room ≡ None → tables ≡ with_job p.objects (numbered p.objects.jobs row) → new ≡ ended (record p { objects = tables }) m → answer ≡ record { outcome = Done None; lasting = true } → Does p new m adding answer
      job_added new answer may made ends e =
          retabled_as p p.groups tables w (ap (λ (t : Tables). t.quotas) made) new m adding answer idle in_time (add_is ∙ ap (option_and_then table_refusal) may)
          (ap grown (target_is p.tree.nodes values.scope n at.resolved)
          ∙ (ap (λ (r : JobRow). record (rows_of p) { jobs = with_row job_number (numbered p.objects.jobs r) p.objects.jobs }) (sym is)
          ∙ ap (λ (t : Tables). record (rows_of p) { screens = t.screens; excepts = t.excepts; jobs = t.jobs }) (sym made))) refl refl ends e

      pub job_unadded : (fault : ObjectFault) (result : Result Answer Wanting) → IsFault fault (job_fault p.objects row room) → tables ≡ p.objects → IfOk result (λ answer. table_answer fault ≡ Some answer) → IfOk result (λ answer. Does p (record p { objects = tables }) m adding answer)
      job_unadded fault result due_is same told = refused_by p m adding tables fault _ result idle in_time add_is due_is same told
