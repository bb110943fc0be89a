-- A run that serves the mode it is asked for keeps all that `run` promises: of the other modes nothing is owed.
use Rattle.std.proofs.Common.{◌≡◌, ◌≢◌, inl, inr, ℕ, Some, List, [], refl, subst}
use Rattle.std.specs.Prelude.{None, Option}
use Rattle.fsrm_model.specs.declared.row.Capacity.{Capacity}
use Rattle.fsrm_model.specs.declared.row.Rows.{Rows}
use Rattle.fsrm_outside.specs.Members.{Members}
use Rattle.fsrm_session.specs.Covers.{Covers}
use Rattle.fsrm_session.specs.Turns.{script_turns, Turn}
use Rattle.program_words.specs.declared.modes.Mode.{Mode}
use Rattle.program_words.specs.declared.modes.Mode.TheVariants.{Init, Replay, Show, Outbox, Work, Expire, Tick}
use Rattle.fsrm_modes.specs.Answers.{most_taken, FitsUnread}
use Rattle.fsrm_modes.specs.Expiry.{ask_of, expire_cost, expire_turns}
use Rattle.fsrm_modes.specs.Statuses.{RunCounts}
use Rattle.fsrm_modes.specs.Tasks.{task_cost, task_turns, Draws, FitsTask, IsGiven, ServesTask}
use Rattle.fsrm_modes.specs.Ticks.{tick_turns}
use Rattle.fsrm_modes.specs.Views.{view_cost, view_text}
use Rattle.fsrm_modes.specs.Working.{work_turns}
use Rattle.fsrm_modes.specs.declared.show.View.{View}
use Rattle.fsrm_modes.specs.declared.show.View.TheVariants as views
use Rattle.fsrm_modes.specs.declared.tasks.Task.{Task}
use Rattle.fsrm_modes.specs.declared.tasks.Task.TheVariants.{Script}
use Rattle.fsrm_modes.specs.declared.status.Status.{Status}
use Rattle.fsrm_modes.specs.declared.status.Status.TheVariants.{Usage, ReadFault, WriteFault, DiskFault, TooLong, NoMemory}
use Rattle.fsrm_modes.proofs.Owed.{Clauses, Counted, Owes, OwesTurns, OwesView, Serves, Unasked}
use Rattle.fsrm_modes.proofs.ReplayEnds.{none_taken, replays}
use Rattle.fsrm_modes.proofs.RunEnds.{asked_for, asked_none, completes, disk_stays, full_not, idle_ends, idle_fits, idle_looks, idle_makes, idle_quiet, idle_safe, idle_shows, idle_takes, idle_tells, idle_through, is_too_long, not_too_long, reads_stay, usage_not, writes_stay}
use Rattle.fsrm_modes.proofs.Spent.{fault_shown, few_script}
use Rattle.fsrm_modes.proofs.WorkEnds.{few_lines, works}

-- ---- all clauses follow
pub clauses : {O : Type 0} (M : Members O) (words : Option Mode) (status : Status) (old new : O) (was now : ℕ) → Counted M status old new → Unasked words status old new was now → ((asked : Mode) → words ≡ Some asked → Serves M asked status old new was now)
    → Clauses M words status old new was now
clauses {O} M words status old new was now counted unasked serves = record {
  replay = λ group K R script before is left b. let mine = own (Replay group) is in replays K R status script before old new (mine.runs K R script before left b) (mine.ends K R script before left b);
  crash = λ group K R script before start is left b at to. (own (Replay group) is).crash K R script before start left b at to;
  show = λ K R before is b. (own Show is).shows K R before b;
  outbox = λ since K R before is b. (own (Outbox since) is).shows K R before b;
  unwritten = λ asked is nothing. (serves asked is).unwritten nothing;
  work = λ seed count K R before is b. works K R status seed count before new ((own (Work seed count) is).runs K R before b);
  work_crash = λ seed count K R before start is b at to. (own (Work seed count) is).crash K R before start b at to;
  expire = λ from to days pattern moment K R before is b. (own (Expire from to days pattern moment) is).runs K R before b;
  expire_crash = λ from to days pattern moment K R before start is b at until. (own (Expire from to days pattern moment) is).crash K R before start b at until;
  tick = λ moment K R before is b. (own (Tick moment) is).runs K R before b;
  tick_crash = λ moment K R before start is b at to. (own (Tick moment) is).crash K R before start b at to;
  made = λ size parts is reads done. (own (Init size) is).made parts reads done;
  making = λ size parts is reads. (own (Init size) is).making parts reads;
  unshown = λ size is. (own (Init size) is).unshown;
  untouched = λ size is full. (own (Init size) is).untouched full;
  usage = unasked.usage;
  asked = unasked.asked;
  idle = unasked.idle;
  fits = λ asked is. (serves asked is).fits;
  store = λ asked parts is reads. (serves asked is).tells parts reads;
  quiet = λ asked parts is reads idle. (serves asked is).quiet parts reads idle;
  too_long = λ script told. (counted.long script told, λ long. is_too_long status script (M.left old) (M.left new) counted.taken told long);
  taken = counted.taken;
  left = λ asked is nothing. (serves asked is).left nothing;
  read_fault = counted.counts.read_fault;
  write_fault = counted.counts.write_fault;
  disk_fault = counted.counts.disk_fault;
  reads_kept = counted.counts.reads_kept;
  writes_kept = counted.counts.writes_kept;
  disk_kept = counted.counts.disk_kept;
  complete = λ asked parts script is reads left ready short no_read no_write no_disk.
      completes asked parts status ((serves asked is).tells parts reads) ready (λ bad. no_read (counted.counts.read_fault bad)) (λ bad. no_write (counted.counts.write_fault bad)) (λ bad. no_disk (counted.counts.disk_fault bad)) (not_too_long script (M.left new) status short (counted.long script left));
  looks = λ group K R script before is left b. few_script b.parts K R script was now ((own (Replay group) is).looks K R script before left b);
  show_looks = λ K R before is b. (own Show is).looks K R before b;
  outbox_looks = λ since K R before is b. (own (Outbox since) is).looks K R before b;
  work_looks = λ seed count K R before is b. few_lines b.parts K R seed count was now ((own (Work seed count) is).looks K R before b);
  expire_looks = λ from to days pattern moment K R before is b. (own (Expire from to days pattern moment) is).looks K R before b;
  tick_looks = λ moment K R before is b. (own (Tick moment) is).looks K R before b;
  init_looks = λ size is. (own (Init size) is).looks;
  no_looks = unasked.looks;
}
  where
    own : (asked : Mode) → words ≡ Some asked → Owes M asked status old new was now
    own asked is = (serves asked is).own

-- ---- one mode is asked for, and served
pub served : {O : Type 0} (M : Members O) (words : Option Mode) (mine : Mode) (status : Status) (old new : O) (was now : ℕ) → words ≡ Some mine → status ≢ Usage → Counted M status old new → Serves M mine status old new was now → Clauses M words status old new was now
served M words mine status old new was now asks understood counted serves =
    clauses M words status old new was now counted
    (record { usage = λ is. absurd (understood is); asked = λ none. absurd (asked_none words mine asks none); idle = λ none. absurd (asked_none words mine asks none); looks = λ none. absurd (asked_none words mine asks none) })
    (λ asked is. subst (λ (m : Mode). Serves M m status old new was now) (asked_for words mine asked asks is) serves)

-- ---- a task is served
not_usage : (task : Task) (status : Status) → FitsTask task status → status ≢ Usage
not_usage (Script group) Usage fits is = absurd fits
not_usage task Usage fits is = absurd fits
not_usage task other fits is = absurd (cc)

unread_long : (status : Status) → FitsUnread status → status ≢ TooLong
unread_long TooLong fits is = absurd fits
unread_long other fits is = absurd (cc)

-- what a run counts that takes nothing from the source
pub unread : {O : Type 0} (M : Members O) (status : Status) (old new : O) → M.left new ≡ M.left old → FitsUnread status → RunCounts status (M.read_faults old) (M.read_faults new) (M.write_faults old) (M.write_faults new) (M.disk_faults old) (M.disk_faults new) → Counted M status old new
unread M status old new left fits counts = record {
  taken = none_taken (M.left old) (M.left new) (most_taken status) left;
  long = λ script told is. absurd (unread_long status fits is);
  counts = counts;
}

task_counted : {O : Type 0} (M : Members O) (task : Task) (status : Status) (old new : O) → Draws task status (M.left old) (M.left new) → FitsTask task status → RunCounts status (M.read_faults old) (M.read_faults new) (M.write_faults old) (M.write_faults new) (M.disk_faults old) (M.disk_faults new) → Counted M status old new
task_counted M (Script group) status old new draws fits counts = record { taken = draws.0; long = draws.1; counts = counts }
task_counted M other status old new draws fits counts = unread M status old new draws fits counts

pub task_served : {O : Type 0} {M : Members O} {task : Task} {status : Status} {old new : O} {was now : ℕ} (words : Option Mode) (mine : Mode) → words ≡ Some mine → ServesTask M task status old new was now → Serves M mine status old new was now → Clauses M words status old new was now
task_served {M = M} {task = task} {status = status} {old = old} {new = new} {was = was} {now = now} words mine asks says serves =
    served M words mine status old new was now asks (not_usage task status says.fits) (task_counted M task status old new says.draws says.fits says.counts) serves

-- one that reads no script
pub own_turns : {O : Type 0} {M : Members O} {task : Task} {status : Status} {old new : O} {was now : ℕ} → ServesTask M task status old new was now → IsGiven task (M.left old) [] → OwesTurns M (λ (K : Capacity) (R : Rows). task_turns task [] K R) (λ (K : Capacity) (R : Rows). task_cost task K R) status old new was now
own_turns says given = record {
  runs = λ K R before b. says.runs K R [] before given b;
  crash = λ K R before start b at to. says.crash K R [] before start given b at to;
  looks = λ K R before b. says.looks K R [] before given b;
}

-- ---- nothing was done
idle_counted : {O : Type 0} (M : Members O) (status : Status) (old : O) → (status ≢ TooLong) × (status ≢ ReadFault) × (status ≢ WriteFault) × (status ≢ DiskFault) → Counted M status old old
idle_counted M status old other = record {
  taken = none_taken (M.left old) (M.left old) (most_taken status) refl;
  long = λ script told is. absurd (other.0 is);
  counts = record {
    read_fault = λ is. absurd (other.1 is);
    write_fault = λ is. absurd (other.2 is);
    disk_fault = λ is. absurd (other.3 is);
    reads_kept = reads_stay status (M.read_faults old) (M.read_faults old) refl;
    writes_kept = writes_stay status (M.write_faults old) (M.write_faults old) refl;
    disk_kept = disk_stays status (M.disk_faults old) (M.disk_faults old) refl;
  };
}

idle_view : {O : Type 0} (M : Members O) (view : View) (old : O) (was : ℕ) → OwesView M view NoMemory old old was was
idle_view M view old was = record {
  shows = λ K R before b. idle_shows M (view_text view K R) before old b.shown;
  looks = λ K R before b. fault_shown b.parts (view_cost view R) was was (inl refl);
}

idle_turns : {O : Type 0} (M : Members O) (turns : Capacity → Rows → List Turn) (beside : Capacity → Rows → ℕ) (old : O) (was : ℕ) → OwesTurns M turns beside NoMemory old old was was
idle_turns M turns beside old was = record {
  runs = λ K R before b. idle_takes M K R (turns K R) before old b.shown;
  crash = λ K R before start b at to. idle_safe M (Covers K R (turns K R)) start old at;
  looks = λ K R before b. idle_looks b.parts R (turns K R) (beside K R) was;
}

idle_owes : {O : Type 0} (M : Members O) (asked : Mode) (old : O) (was : ℕ) → Owes M asked NoMemory old old was was
idle_owes M (Init size) old was = record { made = λ parts is done. absurd (full_not.5 done); making = λ parts is. idle_makes size old; unshown = refl; untouched = λ full. refl; looks = refl }
idle_owes M (Replay group) old was = record {
  runs = λ K R script before left b. idle_takes M K R (script_turns K script) before old b.shown;
  ends = λ K R script before left b. idle_ends M K R script before old;
  crash = λ K R script before start left b at to. idle_safe M (Covers K R (script_turns K script)) start old at;
  looks = λ K R script before left b. idle_looks b.parts R (script_turns K script) 0 was;
}
idle_owes M Show old was = idle_view M views.Quotas old was
idle_owes M (Outbox since) old was = idle_view M (views.Outbox since) old was
idle_owes M (Work seed count) old was = idle_turns M (λ (K : Capacity) (R : Rows). work_turns K R seed count) (λ (K : Capacity) (R : Rows). 0) old was
idle_owes M (Expire from to days pattern moment) old was =
    let ask = ask_of from to days pattern moment in idle_turns M (λ (K : Capacity) (R : Rows). expire_turns K R ask) (λ (K : Capacity) (R : Rows). expire_cost K R ask) old was
idle_owes M (Tick moment) old was = idle_turns M (λ (K : Capacity) (R : Rows). tick_turns K R moment) (λ (K : Capacity) (R : Rows). 0) old was

-- the words ask for nothing
pub not_asked : {O : Type 0} (M : Members O) (words : Option Mode) (old : O) (was : ℕ) → words ≡ None → Clauses M words Usage old old was was
not_asked M words old was none =
    clauses M words Usage old old was was (idle_counted M Usage old usage_not)
    (record { usage = λ is. none; asked = λ is. inl refl; idle = λ is. refl; looks = λ is. refl })
    (λ asked is. absurd (asked_none words asked is none))

-- there was no memory to read them
pub not_read : {O : Type 0} (M : Members O) (words : Option Mode) (old : O) (was : ℕ) → Clauses M words NoMemory old old was was
not_read M words old was =
    clauses M words NoMemory old old was was (idle_counted M NoMemory old (full_not.0, full_not.1, full_not.2, full_not.3))
    (record { usage = λ is. absurd (full_not.4 is); asked = λ is. inr refl; idle = λ is. refl; looks = λ is. refl })
    (λ asked is. record {
      own = idle_owes M asked old was;
      fits = idle_fits asked;
      tells = λ parts reads. idle_tells asked parts;
      quiet = λ parts reads idle. idle_quiet M old;
      left = λ nothing. refl;
      unwritten = λ nothing. (refl, idle_through M.disk_clock M.images old);
    })
