-- What a tick is to do, job by job.
use Rattle.std.proofs.Common.{◌≡◌, ℕ, ◌+◌, ◌≤◌, Bool, true, false, cond, ◌&&◌, List, [], ◌∷◌, ◌++◌, length, map, take, Option, Some, None, refl, sym, ◌∙◌, ap, arith}
use Rattle.std.proofs.lemmas.List.{append-nil, map-append, take_all, take_more}
use Rattle.std.proofs.lemmas.List.Elements.{filter-append}
use Rattle.std.proofs.lemmas.Option.{get_or_from_slice_get, slice_get_within}
use Rattle.std.specs.Prelude.{filter, nat_le, nat_lt, unwrap_or}
use Rattle.std.specs.List.{list_all, slice_get}
use Rattle.std.specs.Option.{option_map_or}
use Rattle.fsrm_base.proofs.TestLaws.{both, both_true, le_is, le_test}
use Rattle.fsrm_model.specs.declared.row.JobRow.{JobRow}
use Rattle.fsrm_model.specs.objects.Jobs.{is_job, is_schedule}
use Rattle.fsrm_model.specs.reports.Filters.{is_filter}
use Rattle.fsrm_model.specs.store.Valid.{is_moment}
use Rattle.fsrm_model.specs.store.Valued.{is_command, is_deed, is_short}
use Rattle.fsrm_model.specs.values.Limits.{latest_moment, longest_name, most_jobs}
use Rattle.fsrm_model.specs.values.Patterns.{is_object_byte, is_object_name}
use Rattle.report_schedule.specs.DueJobs.{base_of, due_runs, is_due_job, run_of}

-- ---- the moments of a job
base_at : (run : Option ℕ) (made : ℕ) → made ≤ latest_moment → option_map_or (λ run. nat_le run latest_moment) run true ≡ true → unwrap_or run made ≤ latest_moment
base_at None made m h = m
base_at (Some t) made m h = le_is t latest_moment h

times : (job : JobRow) → is_job job ≡ true → (nat_le job.made latest_moment && option_map_or (λ run. nat_le run latest_moment) job.last_run true) ≡ true
times job is =
    let moments = nat_le job.made latest_moment && option_map_or (λ run. nat_le run latest_moment) job.last_run true in
    let rest = both (nat_lt job.number most_jobs && is_object_name job.name) (is_filter job.filter && (is_schedule job.schedule && moments)) is in
    (both (is_schedule job.schedule) moments (both (is_filter job.filter) (is_schedule job.schedule && moments) rest.1).1).1

pub made_then : (job : JobRow) → is_job job ≡ true → job.made ≤ latest_moment
made_then job is = le_is job.made latest_moment (both (nat_le job.made latest_moment) _ (times job is)).0

pub base_then : (job : JobRow) → is_job job ≡ true → base_of job ≤ latest_moment
base_then job is = base_at job.last_run job.made (made_then job is) (both (nat_le job.made latest_moment) _ (times job is)).1

-- ---- one more job
-- what is made of those that pass a test, and of one more
pub one_more : {X Y : Type 0} (p : X → Bool) (f : X → Y) (xs : List X) (k : ℕ) (x : X) → slice_get xs k ≡ Some x → map f (filter p (take k xs)) ++ map f (filter p (x ∷ [])) ≡ map f (filter p (take (k + 1) xs))
one_more p f xs k x found =
    let more : take (k + 1) xs ≡ take k xs ++ x ∷ [] = take_more xs k x (slice_get_within xs k x found) ∙ ap (λ y. take k xs ++ y ∷ []) (get_or_from_slice_get xs k x x found) in
    sym (ap (λ ys. map f (filter p ys)) more ∙ ap (map f) (filter-append p (take k xs) (x ∷ [])) ∙ map-append f (filter p (take k xs)) (filter p (x ∷ [])))

pub all_done : {X Y : Type 0} (p : X → Bool) (f : X → Y) (xs : List X) (k : ℕ) → length xs ≤ k → map f (filter p (take k xs)) ≡ map f (filter p xs)
all_done p f xs k past = ap (λ ys. map f (filter p ys)) (take_all k xs past)

-- a list that grows by what passes
pub passed : {X Y : Type 0} (p : X → Bool) (f : X → Y) (x : X) (before now : List Y) → p x ≡ true → now ≡ before ++ f x ∷ [] → now ≡ before ++ map f (filter p (x ∷ []))
passed p f x before now passes is = is ∙ ap (λ (b : Bool). before ++ map f (cond b (x ∷ []) [])) (sym passes)

pub failed : {X Y : Type 0} (p : X → Bool) (f : X → Y) (x : X) (before : List Y) → p x ≡ false → before ≡ before ++ map f (filter p (x ∷ []))
failed p f x before fails = sym (append-nil before) ∙ ap (λ (b : Bool). before ++ map f (cond b (x ∷ []) [])) (sym fails)

-- ---- its command may be taken
pub run_legal : (moment : ℕ) (job : JobRow) → is_moment moment ≡ true → is_job job ≡ true → is_command (run_of moment job) ≡ true
run_legal moment job m is =
    let named : is_object_name job.name ≡ true = (both (nat_lt job.number most_jobs) (is_object_name job.name) (both (nat_lt job.number most_jobs && is_object_name job.name) (is_filter job.filter && (is_schedule job.schedule && (nat_le job.made latest_moment && option_map_or (λ run. nat_le run latest_moment) job.last_run true))) is).0).1 in
    let short : length job.name ≤ longest_name = le_is (length job.name) longest_name (both (nat_lt 0 (length job.name)) (nat_le (length job.name) longest_name) (both (nat_lt 0 (length job.name) && nat_le (length job.name) longest_name) (list_all is_object_byte job.name) named).0).1 in
    let run = run_of moment job in
    both_true (is_moment moment) (is_deed run.deed && is_short run.deed) m (both_true (is_deed run.deed) (is_short run.deed) named (le_test _ _ (omega (arith, short))))

kept_or_not : (moment : ℕ) (b : Bool) (job : JobRow) (rest : List JobRow) → is_command (run_of moment job) ≡ true → list_all is_command (map (run_of moment) rest) ≡ true → list_all is_command (map (run_of moment) (cond b (job ∷ rest) rest)) ≡ true
kept_or_not moment true job rest one more = both_true (is_command (run_of moment job)) (list_all is_command (map (run_of moment) rest)) one more
kept_or_not moment false job rest one more = more

pub runs_legal : (moment : ℕ) (jobs : List JobRow) → is_moment moment ≡ true → list_all is_job jobs ≡ true → list_all is_command (due_runs moment jobs) ≡ true
runs_legal moment [] m h = refl
runs_legal moment (job ∷ jobs) m h =
    let parts = both (is_job job) (list_all is_job jobs) h in
    kept_or_not moment (is_due_job moment job) job (filter (is_due_job moment) jobs) (run_legal moment job m parts.0) (runs_legal moment jobs m parts.1)
