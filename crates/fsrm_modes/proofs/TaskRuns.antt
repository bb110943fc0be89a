-- A task is taken over a store, from the opening of the store to the status of the run.
use Rattle.std.proofs.Common.{◌≡◌, ◌≢◌, ℕ, ◌+◌, ◌≤◌, List, [], ◌++◌, refl, sym, subst, arith}
use Rattle.std.specs.Prelude.{Err, IfErr, IsErrOf, MatchResult, Ok, OnOk, Option, Result, Some}
use Rattle.fsrm_model.specs.declared.row.Capacity.{Capacity}
use Rattle.fsrm_model.specs.declared.row.Rows.{Rows}
use Rattle.fsrm_model.specs.values.Limits.{longest_script}
use Rattle.fsrm_outside.specs.Causes.{Rose}
use Rattle.fsrm_outside.specs.Members.{Members}
use Rattle.fsrm_outside.proofs.EachMoments.{then_moments}
use Rattle.fsrm_outside.proofs.OutsideLaws.{Laws}
use Rattle.fsrm_session.specs.Counts.{Counts, StopCounts}
use Rattle.fsrm_session.specs.Spending.{bytes_after, Spends}
use Rattle.fsrm_session.specs.Turns.{script_turns, Turn}
use Rattle.fsrm_session.specs.Underway.{Breaks, Calms, CanFlush, Goes, Safe, Stops, Underway}
use Rattle.fsrm_session.specs.declared.session.Session.{Session}
use Rattle.fsrm_session.specs.declared.stop.Stop.{Stop}
use Rattle.fsrm_session.specs.declared.stop.Stop.TheVariants as stops
use Rattle.fsrm_session.proofs.Going.{safe_on}
use Rattle.fsrm_session.proofs.Spending.{spends_less}
use Rattle.fsrm_store.specs.declared.fault.StoreFault.{StoreFault}
use Rattle.fsrm_store.specs.declared.fault.StoreFault.TheVariants as faults
use Rattle.fsrm_modes.specs.Answers.{most_taken, FitsReplay, FitsUnread, IsTooLong}
use Rattle.fsrm_modes.specs.Bytes.{TakenMost}
use Rattle.fsrm_modes.specs.Ends.{Took}
use Rattle.fsrm_modes.specs.Looks.{left_after}
use Rattle.fsrm_modes.specs.OwnTurns.{ended_by}
use Rattle.fsrm_modes.specs.Reading.{ReadTo}
use Rattle.fsrm_modes.specs.Statuses.{CloseCounts, IsOwnEnd, IsReadEnd, IsSettled, of_stop, of_store, ReadCounts, SettleCounts, status_of}
use Rattle.fsrm_modes.specs.Tasks.{task_cost, task_turns, Draws, EndsScript, EndsTask, FitsTask, IsGiven, IsTaskEnd, Performs, TakesTask}
use Rattle.fsrm_modes.specs.declared.status.Status.{Status}
use Rattle.fsrm_modes.specs.declared.status.Status.TheVariants.{Done, Usage, WriteFault, DiskFault, TooLong, NoMemory, AlreadyStore}
use Rattle.fsrm_modes.specs.declared.tasks.Task.{Task}
use Rattle.fsrm_modes.specs.declared.tasks.Task.TheVariants.{Script}
use Rattle.fsrm_modes.proofs.Ends.{err_of, read_takes}
use Rattle.fsrm_modes.proofs.OwnEnds.{end_counts, end_only, end_ready, own_spends, own_took, unbegun}
use Rattle.fsrm_modes.proofs.ReplayEnds.{begin_ready, moved_counts, none_taken, read_long, read_ready, run_ends, stop_counts, whole_taken}

-- ---- a session takes the turns
-- those of a script
drawn_most : {T : Type 0} (r : Result T Status) (a b : Option (List ℕ)) → MatchResult r (λ x. TakenMost a b longest_script) (λ s. TakenMost a b (most_taken s)) → TakenMost a b (most_taken (status_of r))
drawn_most (Ok x) a b t = t
drawn_most (Err s) a b t = t

drawn_long : {T : Type 0} (r : Result T Status) (P : Type 0) → IfErr r (λ s. s ≡ TooLong → P) → status_of r ≡ TooLong → P
drawn_long (Ok x) P p long = absurd (cc)
drawn_long (Err s) P p long = p long

pub script_performs : {O T : Type 0} {M : Members O} (task : Task) (group : ℕ) (r : Result T Status) (a c : Session) (old new : O) → task ≡ Script group → ((script : List ℕ) → M.left old ≡ Some script → ReadTo M a.store.engine.size r script a c old new)
    → MatchResult r (λ x. TakenMost (M.left old) (M.left new) longest_script) (λ s. TakenMost (M.left old) (M.left new) (most_taken s)) → OnOk r (CanFlush M.reads c new) → IfErr r (λ s. s ≢ WriteFault → s ≢ DiskFault → CanFlush M.reads c new) → IfErr r IsReadEnd
    → ReadCounts r (M.read_faults old) (M.read_faults new) (M.write_faults old) (M.write_faults new) (M.disk_faults old) (M.disk_faults new) → Performs M task r a c old new
script_performs {M = M} task group r a c old new is read taken ready stopped only counts = subst (λ (t : Task). Performs M t r a c old new) (sym is) (record {
  takes = λ K R script before given u. read_takes r K R script before a c old new (subst (λ (k : Capacity). ReadTo M k r script a c old new) u.size (read script given)) u;
  ready = read_ready r (CanFlush M.reads c new) ready stopped;
  only = only;
  draws = (drawn_most r (M.left old) (M.left new) taken, λ script told. drawn_long r (IsTooLong script (M.left new)) (read_long M r a.store.engine.size script a c old new (read script told)));
  counts = counts;
})

pub script_spends : {O : Type 0} {M : Members O} (task : Task) (group : ℕ) (script : List ℕ) (was : Session) (old : O) (looks steps left : ℕ) → task ≡ Script group → IsGiven task (M.left old) script → (M.left old ≡ Some script → Spends M (script_turns was.store.engine.size script) was old looks steps left)
    → Spends M (task_turns task script was.store.engine.size was.store.engine.rows) was old (looks + task_cost task was.store.engine.size was.store.engine.rows) steps left
script_spends {M = M} task group script was old looks steps left is given p =
    let size = was.store.engine.size in
    let rows = was.store.engine.rows in
    subst (λ (t : Task). Spends M (task_turns t script size rows) was old (looks + task_cost t size rows) steps left) (sym is)
    (spends_less (script_turns size script) was old looks (looks + 0) steps left left (omega arith) (omega arith) (p (subst (λ (t : Task). IsGiven t (M.left old) script) is given)))

-- those of the program's own
abbrev pub IsOwn : Task → Type 0
IsOwn (Script group) = ⊥
IsOwn other = Unit {0}

pub own_performs : {O T : Type 0} {M : Members O} (task own : Task) (r : Result T Stop) (ended : Result T Status) (a c : Session) (old new : O) → task ≡ own → IsOwn own → ended ≡ ended_by r
    → MatchResult r (λ x. Goes M (task_turns own [] a.store.engine.size a.store.engine.rows) a c old new) (λ e. Stops M e (task_turns own [] a.store.engine.size a.store.engine.rows) a c old new)
    → OnOk r (CanFlush M.reads c new) → (IsErrOf r stops.NoMemory → CanFlush M.reads c new) → Counts r (M.write_faults old) (M.write_faults new) (M.disk_faults old) (M.disk_faults new) → M.read_faults new ≡ M.read_faults old → M.left new ≡ M.left old
    → Performs M task ended a c old new
own_performs {T = T} {M = M} task own r ended a c old new is mine told runs ready memory counts reads left = subst (λ (t : Task). Performs M t ended a c old new) (sym is) (go own mine runs)
  where
    go : (own : Task) → IsOwn own → MatchResult r (λ x. Goes M (task_turns own [] a.store.engine.size a.store.engine.rows) a c old new) (λ e. Stops M e (task_turns own [] a.store.engine.size a.store.engine.rows) a c old new) → Performs M own ended a c old new
    go (Script group) mine runs = absurd mine
    go other mine runs = record {
      takes = λ K R script before given u. own_took r ended (λ (C : Capacity) (S : Rows). task_turns other [] C S) K R before a c old new told runs u;
      ready = end_ready r ended (CanFlush M.reads c new) told ready memory;
      only = end_only r ended told;
      draws = left;
      counts = end_counts r ended (M.read_faults old) (M.read_faults new) (M.write_faults old) (M.write_faults new) (M.disk_faults old) (M.disk_faults new) told reads counts;
    }

pub task_spends : {O T : Type 0} {M : Members O} (task own : Task) (script : List ℕ) (r : Result T Stop) (ended : Result T Status) (was now : Session) (old : O) (looks more steps : ℕ) → task ≡ own → IsOwn own → ended ≡ ended_by r → more ≤ looks + task_cost own was.store.engine.size was.store.engine.rows
    → Spends M (task_turns own [] was.store.engine.size was.store.engine.rows) was old more steps (bytes_after r now) → Spends M (task_turns task script was.store.engine.size was.store.engine.rows) was old (looks + task_cost task was.store.engine.size was.store.engine.rows) steps (left_after ended now)
task_spends {M = M} task own script r ended was now old looks more steps is mine told late p =
    subst (λ (t : Task). Spends M (task_turns t script size rows) was old (looks + task_cost t size rows) steps (left_after ended now)) (sym is) (go own mine late p)
  where
    size : Capacity
    size = was.store.engine.size

    rows : Rows
    rows = was.store.engine.rows

    go : (own : Task) → IsOwn own → more ≤ looks + task_cost own size rows → Spends M (task_turns own [] size rows) was old more steps (bytes_after r now) → Spends M (task_turns own script size rows) was old (looks + task_cost own size rows) steps (left_after ended now)
    go (Script group) mine late p = absurd mine
    go other mine late p = own_spends r ended (task_turns other script size rows) was now old more (looks + task_cost other size rows) steps told late p

-- ---- once the store may be written to
took_since : {O T : Type 0} {M : Members O} (r : Result T Status) (K : Capacity) (R : Rows) (turns : List Turn) (before : List ℕ) (c : Session) (old mid new : O) → Laws M → Safe M K R [] before old mid → Took M r K R turns before c mid new → Took M r K R turns before c old new
took_since r K R turns before c old mid new laws safe took = record { ended_is = took.ended_is; so_far = then_moments laws (safe_on K R [] turns before safe) took.so_far }

takes_since : {O T : Type 0} {M : Members O} (task : Task) (r : Result T Status) (K : Capacity) (R : Rows) (script before : List ℕ) (c : Session) (old mid new : O) → Laws M → Safe M K R [] before old mid → TakesTask M task K R r script before c mid new → TakesTask M task K R r script before c old new
takes_since (Script group) r K R script before c old mid new laws safe h = record { took = took_since r K R (task_turns (Script group) script K R) before c old mid new laws safe h.took; at_end = h.at_end; short = h.short; too_long = h.too_long; cut = h.cut }
takes_since other r K R script before c old mid new laws safe h = took_since r K R (task_turns other script K R) before c old mid new laws safe h

pub since_performs : {O T : Type 0} {M : Members O} (task : Task) (r : Result T Status) (a b c : Session) (old mid new : O) → Laws M → Calms M a b old mid → M.left mid ≡ M.left old → M.read_faults mid ≡ M.read_faults old → M.write_faults mid ≡ M.write_faults old → M.disk_faults mid ≡ M.disk_faults old
    → Performs M task r b c mid new → Performs M task r a c old new
since_performs {M = M} task r a b c old mid new laws calms left reads writes disk p = record {
  takes = λ K R script before given u. let v = calms.calms K R [] [] before u in
      takes_since task r K R script before c old mid new laws v.1 (p.takes K R script before (subst (λ (o : Option (List ℕ)). IsGiven task o script) (sym left) given) v.0);
  ready = p.ready;
  only = p.only;
  draws = subst (λ (o : Option (List ℕ)). Draws task (status_of r) o (M.left new)) left p.draws;
  counts = moved_counts r (M.read_faults old) (M.read_faults mid) (M.read_faults new) (M.write_faults old) (M.write_faults mid) (M.write_faults new) (M.disk_faults old) (M.disk_faults mid) (M.disk_faults new) reads writes disk p.counts;
}

-- it may not
unbegun_takes : {O : Type 0} {M : Members O} (T : Type 0) (task : Task) (stop : Stop) (K : Capacity) (R : Rows) (script before : List ℕ) (b : Session) (old new : O) → Took M (err_of T (of_stop stop)) K R (task_turns task script K R) before b old new → TakesTask M task K R (err_of T (of_stop stop)) script before b old new
unbegun_takes T (Script group) stops.WriteFault K R script before b old new took = record { took = took; at_end = tt; short = tt; too_long = λ e. absurd (cc); cut = tt }
unbegun_takes T (Script group) stops.DiskFault K R script before b old new took = record { took = took; at_end = tt; short = tt; too_long = λ e. absurd (cc); cut = tt }
unbegun_takes T (Script group) stops.NoMemory K R script before b old new took = record { took = took; at_end = tt; short = tt; too_long = λ e. absurd (cc); cut = tt }
unbegun_takes T other stop K R script before b old new took = took

stop_end : (task : Task) (stop : Stop) → IsTaskEnd task (of_stop stop)
stop_end (Script group) stops.WriteFault = tt
stop_end (Script group) stops.DiskFault = tt
stop_end (Script group) stops.NoMemory = tt
stop_end other stops.WriteFault = tt
stop_end other stops.DiskFault = tt
stop_end other stops.NoMemory = tt

none_drawn : (task : Task) (status : Status) (a b : Option (List ℕ)) → status ≢ TooLong → b ≡ a → Draws task status a b
none_drawn (Script group) status a b not same = (none_taken a b (most_taken status) same, λ script told long. absurd (not long))
none_drawn other status a b not same = same

stop_not_long : (stop : Stop) → of_stop stop ≢ TooLong
stop_not_long stops.WriteFault = λ e. absurd (cc)
stop_not_long stops.DiskFault = λ e. absurd (cc)
stop_not_long stops.NoMemory = λ e. absurd (cc)

pub unbegun_performs : {O : Type 0} {M : Members O} (T : Type 0) (task : Task) (stop : Stop) (status : Status) (a b : Session) (old new : O) → status ≡ of_stop stop → Breaks M stop a b old new → (stop ≡ stops.NoMemory → CanFlush M.reads b new) → M.left new ≡ M.left old → M.read_faults new ≡ M.read_faults old
    → StopCounts stop (M.write_faults old) (M.write_faults new) (M.disk_faults old) (M.disk_faults new) → Performs M task (err_of T status) a b old new
unbegun_performs {M = M} T task stop status a b old new is breaks memory left reads counts = subst (λ (s : Status). Performs M task (err_of T s) a b old new) (sym is) (record {
  takes = λ K R script before given u. unbegun_takes T task stop K R script before b old new (unbegun T stop K R (task_turns task script K R) before a b old new breaks u);
  ready = begin_ready stop (of_stop stop) (CanFlush M.reads b new) refl memory;
  only = stop_end task stop;
  draws = none_drawn task (of_stop stop) (M.left old) (M.left new) (stop_not_long stop) left;
  counts = stop_counts stop (of_stop stop) (M.read_faults old) (M.read_faults new) (M.write_faults old) (M.write_faults new) (M.disk_faults old) (M.disk_faults new) refl reads counts;
})

-- ---- the run ends
own_read_end : (status : Status) → IsOwnEnd status → IsReadEnd status
own_read_end WriteFault is = tt
own_read_end DiskFault is = tt
own_read_end NoMemory is = tt
own_read_end other is = absurd is

task_read_end : (task : Task) (status : Status) → IsTaskEnd task status → IsReadEnd status
task_read_end (Script group) status is = is
task_read_end other status is = own_read_end status is

pub task_ends : {T : Type 0} (task : Task) (r : Result T Status) → IfErr r (IsTaskEnd task) → IfErr r IsReadEnd
task_ends task (Ok x) only = tt
task_ends task (Err s) only = task_read_end task s only

pub takes_took : {O T : Type 0} {M : Members O} (task : Task) (r : Result T Status) (K : Capacity) (R : Rows) (script before : List ℕ) (c : Session) (old new : O) → TakesTask M task K R r script before c old new → Took M r K R (task_turns task script K R) before c old new
takes_took (Script group) r K R script before c old new h = h.took
takes_took other r K R script before c old new h = h

pub task_done : {O T : Type 0} {M : Members O} (task : Task) (ended : Result T Status) (status : Status) (K : Capacity) (R : Rows) (script before : List ℕ) (session : Session) (old mid now new : O) → Laws M → M.by_disk old mid → M.disk_faults mid ≡ M.disk_faults old
    → IfErr ended IsReadEnd → TakesTask M task K R ended script before session mid now
    → ((turns : List Turn) (words : List ℕ) → Underway M K R turns words before session now → IfErr ended (λ s. IsSettled s → (Rose (M.write_faults now) (M.write_faults new) → ⊥) → (Rose (M.disk_faults now) (M.disk_faults new) → ⊥) → M.shown new ≡ Some (before ++ words)))
    → ReadCounts ended (M.read_faults mid) (M.read_faults now) (M.write_faults mid) (M.write_faults now) (M.disk_faults mid) (M.disk_faults now)
    → IfErr ended (λ s. status ≡ s) → MatchResult ended (λ x. SettleCounts status (M.write_faults now) (M.write_faults new) (M.disk_faults now) (M.disk_faults new)) (λ s. CloseCounts s (M.write_faults now) (M.write_faults new) (M.disk_faults now) (M.disk_faults new))
    → M.left new ≡ M.left now → EndsTask M task K R status script before old new
task_done (Script group) ended status K R script before session old mid now new laws ran kept only h whole counts is c left = run_ends ended status K R script before session old mid now new laws ran kept only h whole counts is c left
task_done other ended status K R script before session old mid now new laws ran kept only h whole counts is c left = tt

drawn : {T : Type 0} (task : Task) (ended : Result T Status) (status : Status) (a b : Option (List ℕ)) (w v d e : ℕ) → IfErr ended (λ s. status ≡ s) → MatchResult ended (λ x. SettleCounts status w v d e) (λ s. CloseCounts s w v d e) → Draws task (status_of ended) a b → Draws task status a b
drawn (Script group) (Ok x) status a b w v d e is c t = (record { bytes = t.0.bytes; few = omega (arith, t.0.few, whole_taken status); taken = t.0.taken }, λ script told long. absurd (subst (λ (s : Status). SettleCounts s w v d e) long c))
drawn (Script group) (Err s) status a b w v d e is c t = subst (λ (x : Status). Draws (Script group) x a b) (sym is) t
drawn other (Ok x) status a b w v d e is c t = t
drawn other (Err s) status a b w v d e is c t = t

pub run_draws : {T : Type 0} (task : Task) (ended : Result T Status) (status : Status) (first mid now new : Option (List ℕ)) (w v d e : ℕ) → mid ≡ first → new ≡ now → IfErr ended (λ s. status ≡ s) → MatchResult ended (λ x. SettleCounts status w v d e) (λ s. CloseCounts s w v d e)
    → Draws task (status_of ended) mid now → Draws task status first new
run_draws task ended status first mid now new w v d e early late is c t =
    subst (λ (o : Option (List ℕ)). Draws task status o new) early (subst (λ (o : Option (List ℕ)). Draws task status mid o) (sym late) (drawn task ended status mid now w v d e is c t))

-- what it may answer
read_end_fits : (status : Status) → IsReadEnd status → FitsReplay status
read_end_fits Usage is = absurd is
read_end_fits AlreadyStore is = absurd is
read_end_fits other is = tt

own_end_fits : (status : Status) → IsOwnEnd status → FitsUnread status
own_end_fits WriteFault is = tt
own_end_fits DiskFault is = tt
own_end_fits NoMemory is = tt
own_end_fits other is = absurd is

end_fits : (task : Task) (status : Status) → IsTaskEnd task status → FitsTask task status
end_fits (Script group) status is = read_end_fits status is
end_fits other status is = own_end_fits status is

settled_fits : (task : Task) (status : Status) (w v d e : ℕ) → SettleCounts status w v d e → FitsTask task status
settled_fits (Script group) Done w v d e c = tt
settled_fits (Script group) WriteFault w v d e c = tt
settled_fits (Script group) DiskFault w v d e c = tt
settled_fits other Done w v d e c = tt
settled_fits other WriteFault w v d e c = tt
settled_fits other DiskFault w v d e c = tt
settled_fits task other w v d e c = absurd c

pub run_fits : {T : Type 0} (task : Task) (ended : Result T Status) (status : Status) (w v d e : ℕ) → IfErr ended (IsTaskEnd task) → IfErr ended (λ s. status ≡ s) → MatchResult ended (λ x. SettleCounts status w v d e) (λ s. CloseCounts s w v d e) → FitsTask task status
run_fits task (Ok x) status w v d e only is c = settled_fits task status w v d e c
run_fits task (Err s) status w v d e only is c = subst (FitsTask task) (sym is) (end_fits task s only)

-- ---- the store can't be opened
refused_ends : {O : Type 0} (M : Members O) (K : Capacity) (R : Rows) (fault : StoreFault) (script before : List ℕ) (old new : O) → EndsScript M K R (of_store fault) script before old new
refused_ends M K R faults.NoStore script before old new = record { at_end = λ e. absurd (cc); short = λ e. absurd (cc); too_long = λ e. absurd (cc); ended = tt }
refused_ends M K R faults.AlreadyStore script before old new = record { at_end = λ e. absurd (cc); short = λ e. absurd (cc); too_long = λ e. absurd (cc); ended = tt }
refused_ends M K R (faults.Damaged part place) script before old new = record { at_end = λ e. absurd (cc); short = λ e. absurd (cc); too_long = λ e. absurd (cc); ended = tt }
refused_ends M K R faults.DiskFault script before old new = record { at_end = λ e. absurd (cc); short = λ e. absurd (cc); too_long = λ e. absurd (cc); ended = tt }
refused_ends M K R faults.NoMemory script before old new = record { at_end = λ e. absurd (cc); short = λ e. absurd (cc); too_long = λ e. absurd (cc); ended = tt }

pub fault_ends : {O : Type 0} (M : Members O) (task : Task) (fault : StoreFault) (status : Status) (K : Capacity) (R : Rows) (script before : List ℕ) (old new : O) → status ≡ of_store fault → EndsTask M task K R status script before old new
fault_ends M (Script group) fault status K R script before old new is = subst (λ (s : Status). EndsScript M K R s script before old new) (sym is) (refused_ends M K R fault script before old new)
fault_ends M other fault status K R script before old new is = tt

refused_fits : {T : Type 0} (task : Task) (r : Result T StoreFault) (fault : StoreFault) → r ≡ Err fault → r ≢ Err faults.AlreadyStore → FitsTask task (of_store fault)
refused_fits task r faults.AlreadyStore was never = absurd (never was)
refused_fits (Script group) r other was never = tt
refused_fits task r other was never = tt

pub fault_fits : {T : Type 0} (task : Task) (r : Result T StoreFault) (fault : StoreFault) (status : Status) → r ≡ Err fault → r ≢ Err faults.AlreadyStore → status ≡ of_store fault → FitsTask task status
fault_fits task r fault status was never is = subst (FitsTask task) (sym is) (refused_fits task r fault was never)

refused_not_long : (fault : StoreFault) → of_store fault ≢ TooLong
refused_not_long faults.NoStore = λ e. absurd (cc)
refused_not_long faults.AlreadyStore = λ e. absurd (cc)
refused_not_long (faults.Damaged part place) = λ e. absurd (cc)
refused_not_long faults.DiskFault = λ e. absurd (cc)
refused_not_long faults.NoMemory = λ e. absurd (cc)

pub fault_draws : (task : Task) (fault : StoreFault) (status : Status) (a b : Option (List ℕ)) → status ≡ of_store fault → b ≡ a → Draws task status a b
fault_draws task fault status a b is same = subst (λ (s : Status). Draws task s a b) (sym is) (none_drawn task (of_store fault) a b (refused_not_long fault) same)
