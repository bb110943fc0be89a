-- The jobs after a tick.
use Rattle.std.proofs.Common.{◌≡◌, ℕ, ◌+◌, ◌≤◌, ◌==◌, nat_lt, Bool, true, false, cond, not, ◌&&◌, ◌||◌, List, [], ◌∷◌, ◌++◌, map, Option, Some, None, refl, sym, ◌∙◌, ap, subst, arith}
use Rattle.std.specs.Prelude.{◌↔◌, filter, is_none, option_map, if◌then◌else◌}
use Rattle.std.proofs.lemmas.Option.{same_Some}
use Rattle.std.specs.List.{list_all, list_any}
use Rattle.fsrm_base.specs.Keyed.{has_row, is_ascending}
use Rattle.fsrm_base.proofs.EditedRows.{absent_later, ascending_tail}
use Rattle.fsrm_base.proofs.EditedTests.{list_any-filter}
use Rattle.fsrm_base.proofs.Look.{find-map}
use Rattle.fsrm_base.proofs.TestLaws.{and_false, both, clash, eq_is, eq_same, eq_turned, is_false, neither, nor, not_lt, not_true}
use Rattle.fsrm_model.specs.commands.Check.{◌when◌, first}
use Rattle.fsrm_model.specs.commands.ReportWork.{job_number_in, job_run_work}
use Rattle.fsrm_model.specs.commands.Step.{decided, step}
use Rattle.fsrm_model.specs.declared.command.Refusal.{Refusal}
use Rattle.fsrm_model.specs.declared.command.Refusal.TheVariants.{ClockBack, NotFound}
use Rattle.fsrm_model.specs.declared.row.Capacity.{Capacity}
use Rattle.fsrm_model.specs.declared.row.JobRow.{JobRow}
use Rattle.fsrm_model.specs.declared.row.Rows.{Rows}
use Rattle.fsrm_model.specs.declared.row.ScreenRow.{ScreenRow}
use Rattle.fsrm_model.specs.objects.DueActions.{due}
use Rattle.fsrm_model.specs.objects.Jobs.{job_name, job_named, job_number, job_of, run_job, with_run}
use Rattle.fsrm_model.specs.objects.Quota.{peaks}
use Rattle.fsrm_model.specs.objects.QuotaStates.{followed, same_head, scan_begun}
use Rattle.fsrm_model.specs.store.Lasting.{lasting}
use Rattle.fsrm_model.specs.store.Valid.{is_moment, IsValid}
use Rattle.fsrm_model.specs.store.Valued.{is_command}
use Rattle.fsrm_model.specs.values.Name.{is_named, names_differ, same_name}
use Rattle.fsrm_model.proofs.commands.AcceptedEnds.{map_twice}
use Rattle.fsrm_model.proofs.commands.EachCommand.{step_valid}
use Rattle.fsrm_model.proofs.journal.FinishLaws.{lasting_valid}
use Rattle.fsrm_model.proofs.nodes.Keeps.{same_turned}
use Rattle.fsrm_model.proofs.nodes.Resolves.{same_itself}
use Rattle.fsrm_model.proofs.thresholds.ActLaws.{of_quota_due}
use Rattle.fsrm_model.proofs.thresholds.UnrunLaws.{screens_unrun}
use Rattle.fsrm_model.proofs.valid.JobsKept.{jobs_parts}
use Rattle.fsrm_session.specs.Turns.{Turn, rows_after}
use Rattle.report_schedule.specs.DueJobs.{due_numbers, due_runs, is_due_job, run_of, unread_names}
use Rattle.report_schedule.specs.Ticks.{after_ticks, Ascend, ticked, IsFirstAt}
use Rattle.report_schedule.proofs.RunLaws.{runs_legal}
use Rattle.report_schedule.proofs.TickLaws.{in_time}
use Rattle.fsrm_modes.specs.Ticks.{after_runs, commands_turns, tick_turns, unread_turns, IsTicked}
use Rattle.fsrm_modes.proofs.TickTurns.{valid_jobs}

-- ---- jobs of a table, found by their names
-- a job of this name is there, and has the same number
abbrev IsThere : List JobRow → JobRow → Type 0
IsThere jobs job = option_map job_number (job_named jobs job.name) ≡ Some job.number

abbrev AreThere : List JobRow → List JobRow → Type 0
AreThere jobs [] = Unit {0}
AreThere jobs (job ∷ more) = IsThere jobs job × AreThere jobs more

record FoundJob (o : Option JobRow) (number : ℕ) : Type 0 where
  job : JobRow
  is : o ≡ Some job
  same : job.number ≡ number

there_found : (o : Option JobRow) (number : ℕ) → option_map job_number o ≡ Some number → FoundJob o number
there_found None number h = absurd (never h)
  where
    never : {n : ℕ} → None ≡ Some n → ⊥
    never e = cc e
there_found (Some job) number h = record { job = job; is = refl; same = cc }

-- after a job of another name
there_after : (x : JobRow) (jobs more : List JobRow) → list_any (is_named job_name x.name) more ≡ false → AreThere jobs more → AreThere (x ∷ jobs) more
there_after x jobs [] none there = tt
there_after x jobs (job ∷ more) none there =
    let parts = neither (is_named job_name x.name job) (list_any (is_named job_name x.name) more) none in
    let apart : same_name x.name job.name ≡ false = not_true _ (λ same. clash _ (same_turned x.name job.name same) parts.0) in
    (ap (λ (b : Bool). option_map job_number (cond b (Some x) (job_named jobs job.name))) apart ∙ there.0, there_after x jobs more parts.1 there.1)

-- where no two jobs have one name, each is found by its own
all_there : (p : JobRow → Bool) (jobs : List JobRow) → names_differ job_name jobs ≡ true → AreThere jobs (filter p jobs)
all_there p [] apart = tt
all_there p (x ∷ jobs) apart =
    let parts = both (not (list_any (is_named job_name x.name) jobs)) (names_differ job_name jobs) apart in
    let none = is_false (list_any (is_named job_name x.name) jobs) parts.0 in
    at (p x) (there_after x jobs (filter p jobs) (list_any-filter (is_named job_name x.name) p jobs none) (all_there p jobs parts.1))
  where
    at : (b : Bool) → AreThere (x ∷ jobs) (filter p jobs) → AreThere (x ∷ jobs) (cond b (x ∷ filter p jobs) (filter p jobs))
    at true later = (ap (λ (b : Bool). option_map job_number (cond b (Some x) (job_named jobs x.name))) (same_itself x.name), later)
    at false later = later

-- also when one ran
there_ran : (n moment : ℕ) (jobs more : List JobRow) → AreThere jobs more → AreThere (with_run n moment jobs) more
there_ran n moment jobs [] there = tt
there_ran n moment jobs (job ∷ more) there = (
  ap (option_map job_number) (find-map (is_named job_name job.name) its (λ r. same_named r (job_number r == n)) jobs) ∙ (same_number (job_named jobs job.name) ∙ there.0),
  there_ran n moment jobs more there.1,
)
  where
    its : JobRow → JobRow
    its r = if job_number r == n then run_job moment r else r

    same_named : (r : JobRow) (b : Bool) → is_named job_name job.name (cond b (run_job moment r) r) ≡ is_named job_name job.name r
    same_named r true = refl
    same_named r false = refl

    keeps : (r : JobRow) (b : Bool) → job_number (cond b (run_job moment r) r) ≡ job_number r
    keeps r true = refl
    keeps r false = refl

    same_number : (o : Option JobRow) → option_map job_number (option_map its o) ≡ option_map job_number o
    same_number None = refl
    same_number (Some r) = ap (λ (k : ℕ). Some k) (keeps r (job_number r == n))

-- ---- a table whose jobs run, by their numbers
abbrev all_ran : ℕ → List JobRow → List JobRow → List JobRow
all_ran moment [] jobs = jobs
all_ran moment (d ∷ more) jobs = all_ran moment more (with_run d.number moment jobs)

-- a number that no job has
none_ran : (n moment : ℕ) (jobs : List JobRow) → has_row job_number n jobs ≡ false → with_run n moment jobs ≡ jobs
none_ran n moment [] absent = refl
none_ran n moment (x ∷ jobs) absent =
    let parts = neither (job_number x == n) (has_row job_number n jobs) absent in
    ap (λ (b : Bool). cond b (run_job moment x) x ∷ with_run n moment jobs) parts.0 ∙ ap (λ (l : List JobRow). x ∷ l) (none_ran n moment jobs parts.1)

-- the first job isn't among them
others_ran : (moment : ℕ) (more : List JobRow) (x : JobRow) (jobs : List JobRow) → has_row job_number x.number more ≡ false → all_ran moment more (x ∷ jobs) ≡ x ∷ all_ran moment more jobs
others_ran moment [] x jobs absent = refl
others_ran moment (d ∷ more) x jobs absent =
    let parts = neither (job_number d == x.number) (has_row job_number x.number more) absent in
    ap (λ (b : Bool). all_ran moment more (cond b (run_job moment x) x ∷ with_run d.number moment jobs)) (eq_turned d.number x.number parts.0)
    ∙ others_ran moment more x (with_run d.number moment jobs) parts.1

-- those that are due run, and no others
due_ran : (moment : ℕ) (jobs : List JobRow) → is_ascending job_number jobs ≡ true → all_ran moment (filter (is_due_job moment) jobs) jobs ≡ map (λ job. ticked job moment) jobs
due_ran moment [] ascending = refl
due_ran moment (x ∷ jobs) ascending = at (is_due_job moment x) (due_ran moment jobs (ascending_tail job_number x jobs ascending))
  where
    more : List JobRow
    more = filter (is_due_job moment) jobs

    absent : has_row job_number x.number jobs ≡ false
    absent = absent_later job_number x.number x jobs (omega arith) ascending

    later : has_row job_number x.number more ≡ false
    later = list_any-filter (λ r. job_number r == x.number) (is_due_job moment) jobs absent

    at : (b : Bool) → all_ran moment more jobs ≡ map (λ job. ticked job moment) jobs → all_ran moment (cond b (x ∷ more) more) (x ∷ jobs) ≡ cond b (run_job moment x) x ∷ map (λ job. ticked job moment) jobs
    at true rest =
        ap (λ (b : Bool). all_ran moment more (cond b (run_job moment x) x ∷ with_run x.number moment jobs)) (eq_same x.number)
        ∙ (ap (λ (l : List JobRow). all_ran moment more (run_job moment x ∷ l)) (none_ran x.number moment jobs absent)
        ∙ (others_ran moment more (run_job moment x) jobs later ∙ ap (λ (l : List JobRow). run_job moment x ∷ l) rest))
    at false rest = others_ran moment more x jobs later ∙ ap (λ (l : List JobRow). x ∷ l) rest

-- ---- runs
-- what runs of jobs at a moment leave of rows
record Leaves (K : Capacity) (R S : Rows) (jobs : List JobRow) (moment : ℕ) : Type 0 where
  valid : IsValid K S
  jobs_are : S.jobs ≡ jobs
  others : record S { quotas = R.quotas; jobs = R.jobs; acts = R.acts; last_moment = R.last_moment } ≡ R
  last : S.last_moment ≤ moment

-- a run that no check refuses
record Ran (R S : Rows) (jobs : List JobRow) (moment : ℕ) : Type 0 where
  jobs_are : S.jobs ≡ jobs
  others : record S { quotas = R.quotas; jobs = R.jobs; acts = R.acts; last_moment = R.last_moment } ≡ R
  last : S.last_moment ≡ moment

same_unvisited : (R : Rows) → (if same_head R.queue R.queue then R.unvisited else scan_begun R.nodes R.queue) ≡ R.unvisited
same_unvisited R = ap (λ (b : Bool). cond b R.unvisited (scan_begun R.nodes R.queue)) (itself R.queue)
  where
    itself : (queue : List ℕ) → same_head queue queue ≡ true
    itself [] = refl
    itself (n ∷ queue) = eq_same n

accepted_run : (K : Capacity) (R : Rows) (moment : ℕ) (name : List ℕ) → Ran R (decided K R moment (job_run_work R moment name) None).rows (with_run (job_number_in (job_named R.jobs name)) moment R.jobs) moment
accepted_run K R moment name =
    let after = followed R (job_run_work R moment name).effect in
    let peaked = peaks K after moment in
    let acts = due K R peaked moment in
    record {
      jobs_are = refl;
      others =
          ap (λ (screens : List ScreenRow). record R { screens = screens; unvisited = after.unvisited }) (screens_unrun moment acts R.screens (of_quota_due K R peaked moment))
          ∙ ap (λ (left : List ℕ). record R { unvisited = left }) (same_unvisited R);
      last = refl;
    }

one_run : (K : Capacity) (R : Rows) (moment : ℕ) (job : JobRow) → IsValid K R → R.last_moment ≤ moment → is_command (run_of moment job) ≡ true → IsThere R.jobs job → Leaves K R (step K R (run_of moment job)).rows (with_run job.number moment R.jobs) moment
one_run K R moment job v late legal there =
    let found = there_found (job_named R.jobs job.name) job.number there in
    let w = job_run_work R moment job.name in
    let none : first ((ClockBack when nat_lt moment R.last_moment) ∷ w.checks) ≡ None =
    ap (λ (b : Bool). first ((ClockBack when b) ∷ w.checks)) (not_lt moment R.last_moment late)
    ∙ ap (λ (o : Option JobRow). first ((NotFound when is_none o) ∷ [])) found.is in
    let ran = subst (λ (o : Option Refusal). Ran R (decided K R moment w o).rows (with_run (job_number_in (job_named R.jobs job.name)) moment R.jobs) moment) (sym none) (accepted_run K R moment job.name) in
    let last = ran.last in
    record {
      valid = step_valid K R (run_of moment job) v legal;
      jobs_are =
          ran.jobs_are
          ∙ (ap (λ (o : Option JobRow). with_run (job_number_in o) moment R.jobs) found.is
          ∙ ap (λ (n : ℕ). with_run n moment R.jobs) found.same);
      others = ran.others;
      last = omega (arith, last);
    }

all_run : (K : Capacity) (R : Rows) (moment line : ℕ) (jobs : List JobRow) → IsValid K R → R.last_moment ≤ moment → list_all is_command (map (run_of moment) jobs) ≡ true → AreThere R.jobs jobs
    → Leaves K R (rows_after R (commands_turns K line (map (run_of moment) jobs))) (all_ran moment jobs R.jobs) moment
all_run K R moment line [] v late legal there = record { valid = v; jobs_are = refl; others = refl; last = late }
all_run K R moment line (job ∷ jobs) v late legal there =
    let laws = both (is_command (run_of moment job)) (list_all is_command (map (run_of moment) jobs)) legal in
    let next = (step K R (run_of moment job)).rows in
    let one = one_run K R moment job v late laws.0 there.0 in
    let stay = subst (λ (table : List JobRow). AreThere table jobs) (sym one.jobs_are) (there_ran job.number moment R.jobs jobs there.1) in
    let rest = all_run K next moment (line + 1) jobs one.valid one.last laws.1 stay in
    record {
      valid = rest.valid;
      jobs_are = rest.jobs_are ∙ ap (all_ran moment jobs) one.jobs_are;
      others = ap (λ (S : Rows). record S { quotas = R.quotas; jobs = R.jobs; acts = R.acts; last_moment = R.last_moment }) rest.others ∙ one.others;
      last = rest.last;
    }

-- ---- ticks
-- what is told of jobs leaves the rows
told_first : (R : Rows) (names : List (List ℕ)) (turns : List Turn) → rows_after R (unread_turns names ++ turns) ≡ rows_after R turns
told_first R [] turns = refl
told_first R (name ∷ names) turns = told_first R names turns

tick_leaves : (K : Capacity) (R : Rows) (moment : ℕ) → IsValid K R → is_moment moment ≡ true → R.last_moment ≤ moment → Leaves K R (rows_after R (tick_turns K R moment)) (map (λ job. ticked job moment) R.jobs) moment
tick_leaves K R moment v m late =
    let table = jobs_parts R.nodes R.jobs v.tables.jobs in
    let jobs = filter (is_due_job moment) R.jobs in
    let turns = commands_turns K 1 (due_runs moment R.jobs) in
    let all = all_run K R moment 1 jobs v late (runs_legal moment R.jobs m (valid_jobs K R v)) (all_there (is_due_job moment) R.jobs table.apart) in
    let ran = subst (λ (table : List JobRow). Leaves K R (rows_after R turns) table moment) (due_ran moment R.jobs table.ascending) all in
    subst (λ (S : Rows). Leaves K R S (map (λ job. ticked job moment) R.jobs) moment) (sym (told_first R (unread_names R.jobs) turns)) ran

pub tick_runs : (K : Capacity) (R : Rows) (moment : ℕ) → IsValid K R → is_moment moment ≡ true → R.last_moment ≤ moment → IsTicked moment R (rows_after R (tick_turns K R moment))
tick_runs K R moment v m late = let left = tick_leaves K R moment v m late in record { jobs = left.jobs_are; others = left.others }

later_ticks : (low moment : ℕ) (moments : List ℕ) → low ≤ moment → Ascend moment moments → Ascend low moments
later_ticks low moment [] less up = tt
later_ticks low moment (t ∷ ts) less up = (omega (arith, less, up.0), up.1)

unticked : (jobs : List JobRow) → jobs ≡ map (λ job. after_ticks job []) jobs
unticked [] = refl
unticked (job ∷ jobs) = ap (λ (l : List JobRow). job ∷ l) (unticked jobs)

pub ticks_run : (K : Capacity) (R : Rows) (moments : List ℕ) → IsValid K R → list_all is_moment moments ≡ true → Ascend R.last_moment moments → (after_runs K R moments).jobs ≡ map (λ job. after_ticks job moments) R.jobs
ticks_run K R [] v m up = unticked R.jobs
ticks_run K R (t ∷ ts) v m up =
    let parts = both (is_moment t) (list_all is_moment ts) m in
    let one = tick_leaves K R t v parts.0 up.0 in
    let S = rows_after R (tick_turns K R t) in
    ticks_run K (lasting S) ts (lasting_valid K S one.valid) parts.1 (later_ticks S.last_moment t ts one.last up.1)
    ∙ (ap (map (λ job. after_ticks job ts)) one.jobs_are ∙ map_twice (λ job. after_ticks job ts) (λ job. ticked job t) R.jobs)

-- ---- which jobs are due then
-- the numbers of those that pass, with one more before them
with_first : (n : ℕ) (x : JobRow) (more : List JobRow) (b : Bool) → list_any (λ k. k == n) (map job_number (cond b (x ∷ more) more)) ≡ ((b && (x.number == n)) || list_any (λ k. k == n) (map job_number more))
with_first n x more true = refl
with_first n x more false = refl

-- of jobs that keep their numbers
module _ (p : JobRow → Bool) (f : JobRow → JobRow) (same : (job : JobRow) → (f job).number ≡ job.number) (n : ℕ) where
  abbrev has_passed : List JobRow → Bool
  has_passed jobs = list_any (λ k. k == n) (map job_number (filter p (map f jobs)))

  one_more : (x : JobRow) (jobs : List JobRow) (b : Bool) → (x.number == n) ≡ b → has_passed (x ∷ jobs) ≡ ((p (f x) && b) || has_passed jobs)
  one_more x jobs b e =
      with_first n (f x) (filter p (map f jobs)) (p (f x)) ∙ ap (λ (c : Bool). (p (f x) && c) || has_passed jobs) (ap (λ (k : ℕ). k == n) (same x) ∙ e)

  none_passed : (jobs : List JobRow) → has_row job_number n jobs ≡ false → has_passed jobs ≡ false
  none_passed [] absent = refl
  none_passed (x ∷ jobs) absent =
      let parts = neither (job_number x == n) (has_row job_number n jobs) absent in
      one_more x jobs false parts.0 ∙ nor (p (f x) && false) (has_passed jobs) (and_false (p (f x))) (none_passed jobs parts.1)

  -- the only job of a number
  alone : (b c : Bool) → c ≡ false → ((b && true) || c) ≡ b
  alone true c none = refl
  alone false c none = none

  passed_at : (x job : JobRow) (jobs : List JobRow) (b : Bool) → (x.number == n) ≡ b → is_ascending job_number (x ∷ jobs) ≡ true → cond b (Some x) (job_of jobs n) ≡ Some job → (job_of jobs n ≡ Some job → has_passed jobs ≡ p (f job)) → has_passed (x ∷ jobs) ≡ p (f job)
  passed_at x job jobs true e ascending found later =
      let key : x.number ≡ n = eq_is x.number n e in
      let absent = absent_later job_number n x jobs (omega (arith, key)) ascending in
      one_more x jobs true e ∙ (alone (p (f x)) (has_passed jobs) (none_passed jobs absent) ∙ ap (λ (j : JobRow). p (f j)) (same_Some x job found))
  passed_at x job jobs false e ascending found later =
      one_more x jobs false e ∙ (ap (λ (c : Bool). c || has_passed jobs) (and_false (p (f x))) ∙ later found)

  own_passed : (jobs : List JobRow) (job : JobRow) → is_ascending job_number jobs ≡ true → job_of jobs n ≡ Some job → has_passed jobs ≡ p (f job)
  own_passed [] job ascending found = cc
  own_passed (x ∷ jobs) job ascending found =
      passed_at x job jobs (x.number == n) refl ascending found (own_passed jobs job (ascending_tail job_number x jobs ascending))

-- ticks leave the numbers
tick_number : (moment : ℕ) (job : JobRow) (b : Bool) → (cond b (run_job moment job) job).number ≡ job.number
tick_number moment job true = refl
tick_number moment job false = refl

ticks_number : (moments : List ℕ) (job : JobRow) → (after_ticks job moments).number ≡ job.number
ticks_number [] job = refl
ticks_number (t ∷ ts) job = ticks_number ts (ticked job t) ∙ tick_number t job (is_due_job t job)

pub runs_first : (K : Capacity) (R : Rows) (before : List ℕ) (tick number : ℕ) (job : JobRow) → IsValid K R → list_all is_moment before ≡ true → Ascend R.last_moment before → job_of R.jobs number ≡ Some job → job.last_run ≡ None
    → (list_any (λ due. due == number) (due_numbers tick (after_runs K R before).jobs) ≡ true) ↔ IsFirstAt job before tick
runs_first K R before tick number job v m up there unrun =
    let table = jobs_parts R.nodes R.jobs v.tables.jobs in
    let is_due : list_any (λ due. due == number) (due_numbers tick (after_runs K R before).jobs) ≡ is_due_job tick (after_ticks job before) =
    ap (λ (jobs : List JobRow). list_any (λ due. due == number) (due_numbers tick jobs)) (ticks_run K R before v m up)
    ∙ own_passed (is_due_job tick) (λ job. after_ticks job before) (ticks_number before) number R.jobs job table.ascending there in
    let first_tick = in_time job before tick unrun (later_ticks 0 R.last_moment before (omega arith) up) in
    subst (λ (b : Bool). (b ≡ true) ↔ IsFirstAt job before tick) (sym is_due) first_tick
