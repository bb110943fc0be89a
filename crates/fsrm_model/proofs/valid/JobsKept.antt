-- Report jobs stay those of a store when one comes, runs or goes, and when nodes change.
use Rattle.std.proofs.Common.{◌≡◌, ℕ, ◌≤◌, ◌==◌, Bool, true, false, ◌&&◌, List, length, refl, arith, Some, nat_lt, nat_le}
use Rattle.std.specs.Prelude.{filter, find}
use Rattle.std.specs.List.{list_any}
use Rattle.std.specs.Option.{option_map_or}
use Rattle.fsrm_base.specs.Keyed.{has_row}
use Rattle.fsrm_base.proofs.Members.{all_found}
use Rattle.fsrm_base.proofs.Order.{ascending-filter}
use Rattle.fsrm_base.proofs.TestLaws.{both, both_true, le_test}
use Rattle.fsrm_model.specs.declared.row.JobRow.{JobRow}
use Rattle.fsrm_model.specs.declared.row.NodeRow.{NodeRow}
use Rattle.fsrm_model.specs.objects.Jobs.{job_number, job_name, is_schedule, run_job, is_elsewhere, with_job, with_run, without_job}
use Rattle.fsrm_model.specs.nodes.Tree.{is_folder}
use Rattle.fsrm_model.specs.reports.Filters.{is_filter}
use Rattle.fsrm_model.specs.store.Valid.{is_sound_job, are_jobs}
use Rattle.fsrm_model.specs.values.Limits.{latest_moment, most_jobs}
use Rattle.fsrm_model.specs.values.Name.{is_named}
use Rattle.fsrm_model.specs.values.Patterns.{is_object_name}
use Rattle.fsrm_model.proofs.valid.NamesApart.{IsNamedTable, named_parts, named_joined, named-new, named-change, named-without, apart-filter}
use Rattle.fsrm_model.proofs.valid.QuotasKept.{filter_few}
use Rattle.fsrm_model.proofs.valid.ScreensKept.{FoldersStay, all_left, all_weaker}

-- what a job of a store has
pub record IsJob (nodes : List NodeRow) (job : JobRow) : Type 0 where
  pub scope : is_folder nodes job.scope ≡ true
  pub below : nat_lt job.number most_jobs ≡ true
  pub named : is_object_name job.name ≡ true
  pub filter : is_filter job.filter ≡ true
  pub schedule : is_schedule job.schedule ≡ true
  pub made : nat_le job.made latest_moment ≡ true
  pub last_run : option_map_or (λ run. nat_le run latest_moment) job.last_run true ≡ true

pub job_parts : (nodes : List NodeRow) (job : JobRow) → is_sound_job nodes job ≡ true → IsJob nodes job
job_parts nodes job h =
    let ran = option_map_or (λ run. nat_le run latest_moment) job.last_run true in
    let moments = nat_le job.made latest_moment && ran in
    let key = nat_lt job.number most_jobs && is_object_name job.name in
    let values = is_filter job.filter && (is_schedule job.schedule && moments) in
    let whole = both (is_folder nodes job.scope) (key && values) h in
    let halves = both key values whole.1 in
    let keys = both (nat_lt job.number most_jobs) (is_object_name job.name) halves.0 in
    let rest = both (is_filter job.filter) (is_schedule job.schedule && moments) halves.1 in
    let more = both (is_schedule job.schedule) moments rest.1 in
    let last = both (nat_le job.made latest_moment) ran more.1 in
    record {
      scope = whole.0;
      below = keys.0;
      named = keys.1;
      filter = rest.0;
      schedule = more.0;
      made = last.0;
      last_run = last.1;
    }

pub job_joined : (nodes : List NodeRow) (job : JobRow) → IsJob nodes job → is_sound_job nodes job ≡ true
job_joined nodes job is =
    let ran = option_map_or (λ run. nat_le run latest_moment) job.last_run true in
    let moments = nat_le job.made latest_moment && ran in
    let key = nat_lt job.number most_jobs && is_object_name job.name in
    let values = is_filter job.filter && (is_schedule job.schedule && moments) in
    both_true (is_folder nodes job.scope) (key && values) is.scope
    (both_true key values (both_true (nat_lt job.number most_jobs) (is_object_name job.name) is.below is.named)
    (both_true (is_filter job.filter) (is_schedule job.schedule && moments) is.filter
    (both_true (is_schedule job.schedule) moments is.schedule (both_true (nat_le job.made latest_moment) ran is.made is.last_run))))

pub jobs_parts : (nodes : List NodeRow) (jobs : List JobRow) → are_jobs nodes jobs ≡ true → IsNamedTable job_number job_name most_jobs (is_sound_job nodes) jobs
jobs_parts nodes jobs h = named_parts job_number job_name most_jobs (is_sound_job nodes) jobs h

-- over other nodes
pub jobs_stay : (nodes new : List NodeRow) (jobs : List JobRow) → FoldersStay nodes new → are_jobs nodes jobs ≡ true → are_jobs new jobs ≡ true
jobs_stay nodes new jobs folders h =
    let t = jobs_parts nodes jobs h in
    named_joined job_number job_name most_jobs (is_sound_job new) jobs (record {
      ascending = t.ascending;
      few = t.few;
      each = all_weaker (is_sound_job nodes) (is_sound_job new) jobs (λ job is.
          let p = job_parts nodes job is in
          job_joined new job (record { scope = folders job.scope p.scope; below = p.below; named = p.named; filter = p.filter; schedule = p.schedule; made = p.made; last_run = p.last_run })) t.each;
      apart = t.apart;
    })

pub jobs-new : (nodes : List NodeRow) (job : JobRow) (jobs : List JobRow) → are_jobs nodes jobs ≡ true → has_row job_number job.number jobs ≡ false → list_any (is_named job_name job.name) jobs ≡ false → length (with_job job jobs) ≤ most_jobs → IsJob nodes job → are_jobs nodes (with_job job jobs) ≡ true
jobs-new nodes job jobs h free none few is =
    named-new job_number job_name most_jobs (is_sound_job nodes) job jobs h free none few (job_joined nodes job is)

-- a job that ran
pub jobs-run : (nodes : List NodeRow) (n moment : ℕ) (jobs : List JobRow) → moment ≤ latest_moment → are_jobs nodes jobs ≡ true → are_jobs nodes (with_run n moment jobs) ≡ true
jobs-run nodes n moment jobs late h =
    named-change job_number job_name most_jobs (is_sound_job nodes) n (run_job moment) jobs h (λ job. refl) (λ job. refl) (λ job found is.
    let p = job_parts nodes job is in
    job_joined nodes (run_job moment job) (record { scope = p.scope; below = p.below; named = p.named; filter = p.filter; schedule = p.schedule; made = p.made; last_run = le_test moment latest_moment late }))

pub jobs-without : (nodes : List NodeRow) (n : ℕ) (jobs : List JobRow) → are_jobs nodes jobs ≡ true → are_jobs nodes (without_job n jobs) ≡ true
jobs-without nodes n jobs h = named-without job_number job_name most_jobs (is_sound_job nodes) n jobs h

-- without those of a folder, if all other folders stay
pub jobs-gone : (nodes new : List NodeRow) (jobs : List JobRow) (n : ℕ) → ((f : ℕ) → (f == n) ≡ false → is_folder nodes f ≡ true → is_folder new f ≡ true) → are_jobs nodes jobs ≡ true → are_jobs new (filter (is_elsewhere n) jobs) ≡ true
jobs-gone nodes new jobs n folders h =
    let t = jobs_parts nodes jobs h in
    let few = t.few in
    named_joined job_number job_name most_jobs (is_sound_job new) (filter (is_elsewhere n) jobs) (record {
      ascending = ascending-filter job_number (is_elsewhere n) jobs t.ascending;
      few = omega (arith, few, filter_few (is_elsewhere n) jobs);
      each = all_left (λ job. job.scope) n (is_sound_job nodes) (is_sound_job new) jobs (λ job apart is.
          let p = job_parts nodes job is in
          job_joined new job (record { scope = folders job.scope apart p.scope; below = p.below; named = p.named; filter = p.filter; schedule = p.schedule; made = p.made; last_run = p.last_run })) t.each;
      apart = apart-filter job_name (is_elsewhere n) jobs t.apart;
    })

-- what is known of a job that is found
pub job_at : (nodes : List NodeRow) (jobs : List JobRow) (p : JobRow → Bool) (job : JobRow) → are_jobs nodes jobs ≡ true → find p jobs ≡ Some job → IsJob nodes job
job_at nodes jobs p job h found =
    job_parts nodes job (all_found (is_sound_job nodes) p jobs job (jobs_parts nodes jobs h).each found)
