-- A run that takes turns, from the store that it opens to its status.
use Rattle.std.proofs.Common.{◌≡◌, ◌≢◌, inl, inr, ⊎_elim, ℕ, ◌-◌, ◌≤◌, Some, List, [], length, refl, sym, ◌∙◌, ap, subst, arith}
use Rattle.std.specs.Prelude.{◌⊎◌, Result, Ok, Err, IfErr, IsErrOf, MatchResult}
use Rattle.std.proofs.lemmas.List.{append-nil}
use Rattle.fsrm_model.specs.declared.row.Capacity.{Capacity}
use Rattle.fsrm_model.specs.declared.row.Rows.{Rows}
use Rattle.fsrm_model.specs.store.Lasting.{lasting}
use Rattle.fsrm_model.specs.store.Replays.{replayed}
use Rattle.fsrm_model.proofs.journal.KeptEnds.{lasting_twice}
use Rattle.fsrm_outside.specs.Causes.{Rose}
use Rattle.fsrm_outside.specs.Changes.{Same, Through}
use Rattle.fsrm_outside.specs.Members.{Members}
use Rattle.fsrm_outside.specs.Parts.{Parts}
use Rattle.fsrm_outside.specs.Runs.{CoversMore, CrashSafe, EachMoment}
use Rattle.fsrm_outside.specs.Settling.{Settles}
use Rattle.fsrm_outside.proofs.OutsideLaws.{Laws}
use Rattle.fsrm_outside.proofs.Runs.{safe_early, safe_since, synced_by}
use Rattle.fsrm_outside.proofs.Stages.{some_is}
use Rattle.fsrm_store.specs.Recovery.{IsRefused}
use Rattle.fsrm_store.specs.Standing.{Standing}
use Rattle.fsrm_store.specs.States.{state_of}
use Rattle.fsrm_store.specs.States.State.{Holds}
use Rattle.fsrm_store.specs.declared.fault.StoreFault.{StoreFault}
use Rattle.fsrm_store.specs.declared.fault.StoreFault.TheVariants as faults
use Rattle.fsrm_store.specs.declared.store.Store.{Store}
use Rattle.fsrm_store.proofs.StateLaws.{told_holds}
use Rattle.fsrm_session.specs.Covers.{Covers}
use Rattle.fsrm_session.specs.Turns.{Turn}
use Rattle.fsrm_session.specs.Underway.{Safe, Underway}
use Rattle.fsrm_session.specs.declared.session.Session.{Session}
use Rattle.fsrm_modes.specs.Answers.{TellsStore}
use Rattle.fsrm_modes.specs.Promises.{Begins}
use Rattle.fsrm_modes.specs.Statuses.{CloseCounts, EndCounts, IsReadEnd, ReadCounts, SettleCounts, of_store, RunCounts}
use Rattle.fsrm_modes.specs.declared.status.Status.{Status}
use Rattle.fsrm_modes.specs.declared.status.Status.TheVariants.{Done, Usage, ReadFault, WriteFault, DiskFault, TooLong, Damaged, NoMemory, NoStore, AlreadyStore}

-- ---- the entry

same_size : (K L : Capacity) (R Q : Rows) → Holds K R ≡ Holds L Q → K ≡ L
same_size K L R Q e = cc

same_rows : (K L : Capacity) (R Q : Rows) → Holds K R ≡ Holds L Q → R ≡ Q
same_rows K L R Q e = cc

-- what a store holds lasts
pub lasting_of : (K : Capacity) (R : Rows) (parts : Parts) → state_of parts ≡ Holds K R → lasting R ≡ R
lasting_of K R parts is =
    let h = told_holds K R parts is in
    ap lasting (sym h.recovers) ∙ lasting_twice (replayed h.head.size h.base h.entries) ∙ h.recovers

-- no turn was taken
pub begins : {O : Type 0} {M : Members O} (K : Capacity) (R : Rows) (before : List ℕ) (store : Store) (session : Session) (old mid : O) → Laws M → M.by_disk old mid → (b : Begins M K R before old) → state_of b.parts ≡ Holds store.engine.size store.engine.rows
    → Standing M.reads M.disk_clock M.images store.engine.rows store mid → session.store ≡ store → session.kept.items ≡ [] → Underway M K R [] [] before session mid
begins {M = M} K R before store session old mid laws ran b state stands is empty =
    let told = sym b.holds ∙ state in
    let size : K ≡ store.engine.size = same_size K store.engine.size R store.engine.rows told in
    let rows : R ≡ store.engine.rows = same_rows K store.engine.size R store.engine.rows told in
    record {
      first = [];
      later = [];
      split = refl;
      shown = [];
      shown_is = (laws.disk_keeps_sink old mid ran).same_shown ∙ b.shown ∙ ap (λ (l : List ℕ). Some l) (sym (append-nil before));
      words_are = sym empty;
      front = ([], refl);
      few = omega arith;
      size = ap (λ (s : Store). s.engine.size) is ∙ sym size;
      rows = ap (λ (s : Store). s.engine.rows) is ∙ sym rows;
      standing = subst (λ (s : Store). Standing M.reads M.disk_clock M.images (lasting R) s mid) (sym is)
          (subst (λ (x : Rows). Standing M.reads M.disk_clock M.images x store mid) (sym rows ∙ sym (lasting_of K R b.parts b.holds)) stands);
    }

covers_none : (K : Capacity) (R : Rows) (turns : List Turn) (parts : Parts) → state_of parts ≡ Holds K R → Covers K R turns 0 parts
covers_none K R turns parts is = record {
  done = [];
  rest = turns;
  are = refl;
  holds = is ∙ ap (λ (x : Rows). Holds K x) (sym (lasting_of K R parts is));
  acknowledged = omega arith;
}

-- the store couldn't be opened
pub early_safe : {O : Type 0} {M : Members O} {failed : Type 0} (K : Capacity) (R : Rows) (turns : List Turn) (before : List ℕ) (start : ℕ) (old now : O) → Laws M → M.by_disk old now → Settles M.reads M.disk_clock M.images failed old now
    → Through M.disk_clock M.images Same old now → M.reads now ≡ M.reads old → Begins M K R before old → M.disk_clock old ≡ Some start → M.sink_clock old ≡ Some start → CrashSafe M (Covers K R turns) start old now
early_safe K R turns before start old now laws ran s quiet same b disk_told sink_told =
    safe_early (Covers K R turns) b.parts start old now laws ran s quiet same b.reads (covers_none K R turns b.parts b.holds) disk_told sink_told

-- it was, and what came then is safe
pub since_safe : {O : Type 0} {M : Members O} {failed : Type 0} (K : Capacity) (R : Rows) (turns : List Turn) (before : List ℕ) (start : ℕ) (old mid new : O) → Laws M → M.by_disk old mid → Settles M.reads M.disk_clock M.images failed old mid → (failed → ⊥)
    → Through M.disk_clock M.images Same old mid → M.reads mid ≡ M.reads old → Begins M K R before old → M.disk_clock old ≡ Some start → M.sink_clock old ≡ Some start → Safe M K R turns before mid new → CrashSafe M (Covers K R turns) start old new
since_safe {M = M} K R turns before start old mid new laws ran s never quiet same b disk_told sink_told safe =
    let is : before ≡ M.shown_at old start = some_is (sym b.shown ∙ laws.shown_now old start sink_told) in
    safe_since (Covers K R turns) b.parts start old mid new laws (synced_by start old mid laws ran s never quiet same disk_told sink_told) b.reads (covers_none K R turns b.parts b.holds)
    (subst (λ (l : List ℕ). EachMoment M (CoversMore (Covers K R turns) (length l)) mid new) is safe)

-- ---- what is told of the store

pub refused_tells : (parts : Parts) (fault : StoreFault) (status : Status) → status ≡ of_store fault → IsRefused parts fault → TellsStore parts status
refused_tells parts fault status is refused = subst (TellsStore parts) (sym is) (go fault refused)
  where
    go : (fault : StoreFault) → IsRefused parts fault → TellsStore parts (of_store fault)
    go faults.NoStore refused = refused
    go faults.AlreadyStore refused = absurd refused
    go (faults.Damaged part place) refused = refused
    go faults.DiskFault refused = tt
    go faults.NoMemory refused = tt

pub end_tells : (parts : Parts) (K : Capacity) (R : Rows) (status : Status) → IsReadEnd status → state_of parts ≡ Holds K R → TellsStore parts status
end_tells parts K R ReadFault is state = (K, R, state)
end_tells parts K R WriteFault is state = (K, R, state)
end_tells parts K R DiskFault is state = tt
end_tells parts K R TooLong is state = (K, R, state)
end_tells parts K R NoMemory is state = tt
end_tells parts K R Done is state = absurd is
end_tells parts K R Usage is state = absurd is
end_tells parts K R (Damaged part place) is state = absurd is
end_tells parts K R NoStore is state = absurd is
end_tells parts K R AlreadyStore is state = absurd is

settled_tells : (parts : Parts) (K : Capacity) (R : Rows) (status : Status) (w v d e : ℕ) → SettleCounts status w v d e → state_of parts ≡ Holds K R → TellsStore parts status
settled_tells parts K R Done w v d e c state = (K, R, state)
settled_tells parts K R WriteFault w v d e c state = (K, R, state)
settled_tells parts K R DiskFault w v d e c state = tt
settled_tells parts K R ReadFault w v d e c state = absurd c
settled_tells parts K R TooLong w v d e c state = absurd c
settled_tells parts K R NoMemory w v d e c state = absurd c
settled_tells parts K R Usage w v d e c state = absurd c
settled_tells parts K R (Damaged part place) w v d e c state = absurd c
settled_tells parts K R NoStore w v d e c state = absurd c
settled_tells parts K R AlreadyStore w v d e c state = absurd c

pub run_tells : {T : Type 0} (ended : Result T Status) (status : Status) (parts : Parts) (K : Capacity) (R : Rows) (w v d e : ℕ) → IfErr ended IsReadEnd → IfErr ended (λ s. status ≡ s) → MatchResult ended (λ x. SettleCounts status w v d e) (λ s. CloseCounts s w v d e)
    → state_of parts ≡ Holds K R → TellsStore parts status
run_tells (Ok x) status parts K R w v d e only is c state = settled_tells parts K R status w v d e c state
run_tells (Err s) status parts K R w v d e only is c state = subst (TellsStore parts) (sym is) (end_tells parts K R s only state)

pub fault_show : {T : Type 0} (r : Result T StoreFault) (fault : StoreFault) (status : Status) → r ≡ Err fault → r ≢ Err faults.AlreadyStore → status ≡ of_store fault → (status ≢ Usage) × (status ≢ AlreadyStore) × (status ≢ TooLong) × (status ≢ ReadFault)
fault_show r fault status was never is = subst (λ (x : Status). (x ≢ Usage) × (x ≢ AlreadyStore) × (x ≢ TooLong) × (x ≢ ReadFault)) (sym is) (go fault was)
  where
    go : (fault : StoreFault) → r ≡ Err fault → (of_store fault ≢ Usage) × (of_store fault ≢ AlreadyStore) × (of_store fault ≢ TooLong) × (of_store fault ≢ ReadFault)
    go faults.NoStore was = (λ e. absurd (cc), λ e. absurd (cc), λ e. absurd (cc), λ e. absurd (cc))
    go faults.AlreadyStore was = absurd (never was)
    go (faults.Damaged part place) was = (λ e. absurd (cc), λ e. absurd (cc), λ e. absurd (cc), λ e. absurd (cc))
    go faults.DiskFault was = (λ e. absurd (cc), λ e. absurd (cc), λ e. absurd (cc), λ e. absurd (cc))
    go faults.NoMemory was = (λ e. absurd (cc), λ e. absurd (cc), λ e. absurd (cc), λ e. absurd (cc))

-- ---- the counts

-- a store that can't be opened
pub fault_counts : (fault : StoreFault) (status : Status) (r q w v d e : ℕ) → status ≡ of_store fault → q ≡ r → v ≡ w → d ≤ e → (fault ≡ faults.DiskFault → Rose d e) → (fault ≡ faults.DiskFault) ⊎ (e ≡ d) → RunCounts status r q w v d e
fault_counts fault status r q w v d e is a b few rose counted = subst (λ (s : Status). RunCounts s r q w v d e) (sym is) (go fault rose counted)
  where
    go : (fault : StoreFault) → (fault ≡ faults.DiskFault → Rose d e) → (fault ≡ faults.DiskFault) ⊎ (e ≡ d) → RunCounts (of_store fault) r q w v d e
    go faults.DiskFault rose counted = record { read_fault = λ x. absurd (cc); write_fault = λ x. absurd (cc); disk_fault = λ x. rose refl; reads_kept = a; writes_kept = b; disk_kept = few }
    go faults.NoStore rose counted = record { read_fault = λ x. absurd (cc); write_fault = λ x. absurd (cc); disk_fault = λ x. absurd (cc); reads_kept = a; writes_kept = b; disk_kept = ⊎_elim (λ x. absurd (cc)) (λ x. x) counted }
    go faults.AlreadyStore rose counted = record { read_fault = λ x. absurd (cc); write_fault = λ x. absurd (cc); disk_fault = λ x. absurd (cc); reads_kept = a; writes_kept = b; disk_kept = ⊎_elim (λ x. absurd (cc)) (λ x. x) counted }
    go (faults.Damaged part place) rose counted = record { read_fault = λ x. absurd (cc); write_fault = λ x. absurd (cc); disk_fault = λ x. absurd (cc); reads_kept = a; writes_kept = b; disk_kept = ⊎_elim (λ x. absurd (cc)) (λ x. x) counted }
    go faults.NoMemory rose counted = record { read_fault = λ x. absurd (cc); write_fault = λ x. absurd (cc); disk_fault = λ x. absurd (cc); reads_kept = a; writes_kept = omega (arith, b); disk_kept = few }

settled_counts : (status : Status) (r w v d e : ℕ) → SettleCounts status w v d e → RunCounts status r r w v d e
settled_counts Done r w v d e c = record { read_fault = λ x. absurd (cc); write_fault = λ x. absurd (cc); disk_fault = λ x. absurd (cc); reads_kept = refl; writes_kept = c.0; disk_kept = c.1 }
settled_counts WriteFault r w v d e c = record { read_fault = λ x. absurd (cc); write_fault = λ x. c.0.rose; disk_fault = λ x. absurd (cc); reads_kept = refl; writes_kept = c.0.later; disk_kept = c.1 }
settled_counts DiskFault r w v d e c = record { read_fault = λ x. absurd (cc); write_fault = λ x. absurd (cc); disk_fault = λ x. c.1.rose; reads_kept = refl; writes_kept = c.0; disk_kept = c.1.later }
settled_counts ReadFault r w v d e c = absurd c
settled_counts TooLong r w v d e c = absurd c
settled_counts NoMemory r w v d e c = absurd c
settled_counts Usage r w v d e c = absurd c
settled_counts (Damaged part place) r w v d e c = absurd c
settled_counts NoStore r w v d e c = absurd c
settled_counts AlreadyStore r w v d e c = absurd c

ended_counts : (status : Status) (r q w v x d e f : ℕ) → IsReadEnd status → EndCounts status r q w v d e → CloseCounts status v x e f → RunCounts status r q w x d f
ended_counts ReadFault r q w v x d e f is a b = record { read_fault = λ s. a.0.rose; write_fault = λ s. absurd (cc); disk_fault = λ s. absurd (cc); reads_kept = a.0.later; writes_kept = omega (arith, a.1, b.0); disk_kept = omega (arith, a.2, b.1) }
ended_counts TooLong r q w v x d e f is a b = record { read_fault = λ s. absurd (cc); write_fault = λ s. absurd (cc); disk_fault = λ s. absurd (cc); reads_kept = a.0; writes_kept = omega (arith, a.1, b.0); disk_kept = omega (arith, a.2, b.1) }
ended_counts NoMemory r q w v x d e f is a b = record { read_fault = λ s. absurd (cc); write_fault = λ s. absurd (cc); disk_fault = λ s. absurd (cc); reads_kept = a.0; writes_kept = omega (arith, a.1, b.0); disk_kept = omega (arith, a.2, b.1) }
ended_counts WriteFault r q w v x d e f is a b = record { read_fault = λ s. absurd (cc); write_fault = λ s. omega (arith, a.1.rose, b.0); disk_fault = λ s. absurd (cc); reads_kept = a.0; writes_kept = omega (arith, a.1.later, b.0); disk_kept = b.1 ∙ a.2 }
ended_counts DiskFault r q w v x d e f is a b = record { read_fault = λ s. absurd (cc); write_fault = λ s. absurd (cc); disk_fault = λ s. omega (arith, a.2.rose, b.1); reads_kept = a.0; writes_kept = b.0 ∙ a.1; disk_kept = omega (arith, a.2.later, b.1) }
ended_counts Done r q w v x d e f is a b = absurd is
ended_counts Usage r q w v x d e f is a b = absurd is
ended_counts (Damaged part place) r q w v x d e f is a b = absurd is
ended_counts NoStore r q w v x d e f is a b = absurd is
ended_counts AlreadyStore r q w v x d e f is a b = absurd is

counts_as : (status : Status) (r s q p w v x d e f : ℕ) → s ≡ r → p ≡ q → v ≡ w → e ≡ d → RunCounts status s q v x e f → RunCounts status r p w x d f
counts_as status r s q p w v x d e f a b c g run =
    subst (λ (n : ℕ). RunCounts status n p w x d f) a
    (subst (λ (n : ℕ). RunCounts status s n w x d f) (sym b)
    (subst (λ (n : ℕ). RunCounts status s q n x d f) c
    (subst (λ (n : ℕ). RunCounts status s q v x n f) g run)))

run_from : {T : Type 0} (ended : Result T Status) (status : Status) (r q w v x d e f : ℕ) → IfErr ended IsReadEnd → ReadCounts ended r q w v d e → IfErr ended (λ s. status ≡ s) → MatchResult ended (λ y. SettleCounts status v x e f) (λ s. CloseCounts s v x e f) → RunCounts status r q w x d f
run_from (Ok y) status r q w v x d e f only a is b = counts_as status r q q q w v x d e f a.0 refl a.1 a.2 (settled_counts status q v x e f b)
run_from (Err s) status r q w v x d e f only a is b = subst (λ (t : Status). RunCounts t r q w x d f) (sym is) (ended_counts s r q w v x d e f only a b)

pub run_counts : {O T : Type 0} (M : Members O) (ended : Result T Status) (status : Status) (old mid now new : O) → Laws M → M.by_disk old mid → M.disk_faults mid ≡ M.disk_faults old → IfErr ended IsReadEnd
    → ReadCounts ended (M.read_faults mid) (M.read_faults now) (M.write_faults mid) (M.write_faults now) (M.disk_faults mid) (M.disk_faults now) → IfErr ended (λ s. status ≡ s)
    → MatchResult ended (λ y. SettleCounts status (M.write_faults now) (M.write_faults new) (M.disk_faults now) (M.disk_faults new)) (λ s. CloseCounts s (M.write_faults now) (M.write_faults new) (M.disk_faults now) (M.disk_faults new))
    → M.read_faults new ≡ M.read_faults now → RunCounts status (M.read_faults old) (M.read_faults new) (M.write_faults old) (M.write_faults new) (M.disk_faults old) (M.disk_faults new)
run_counts M ended status old mid now new laws ran kept only a is b same =
    let source = laws.disk_keeps_source old mid ran in
    let sink = laws.disk_keeps_sink old mid ran in
    counts_as status (M.read_faults old) (M.read_faults mid) (M.read_faults now) (M.read_faults new) (M.write_faults old) (M.write_faults mid) (M.write_faults new) (M.disk_faults old) (M.disk_faults mid) (M.disk_faults new) source.same_faults same sink.same_faults kept
    (run_from ended status (M.read_faults mid) (M.read_faults now) (M.write_faults mid) (M.write_faults now) (M.write_faults new) (M.disk_faults mid) (M.disk_faults now) (M.disk_faults new) only a is b)

abbrev err_of : (T : Type 0) → StoreFault → Result T StoreFault
err_of T fault = Err fault

pub opened_not : {T : Type 0} (r : Result T StoreFault) (x : T) → r ≡ Ok x → IsErrOf r faults.DiskFault → ⊥
opened_not (Ok y) x is bad = absurd (cc)
opened_not (Err y) x is bad = absurd (cc)

pub opened_kept : {T : Type 0} (r : Result T StoreFault) (x : T) (d e : ℕ) → r ≡ Ok x → IsErrOf r faults.DiskFault ⊎ (e ≡ d) → e ≡ d
opened_kept r x d e is counted = ⊎_elim (λ (bad : IsErrOf r faults.DiskFault). absurd (opened_not r x is bad)) (λ same. same) counted

same_fault : {T : Type 0} (a b : StoreFault) → Err a ≡ err_of T b → a ≡ b
same_fault a b e = cc

pub fault_run : {O T : Type 0} (M : Members O) (r : Result T StoreFault) (fault : StoreFault) (status : Status) (old new : O) → Laws M → r ≡ Err fault → status ≡ of_store fault → M.by_disk old new → M.disk_faults old ≤ M.disk_faults new
    → (IsErrOf r faults.DiskFault → Rose (M.disk_faults old) (M.disk_faults new)) → IsErrOf r faults.DiskFault ⊎ (M.disk_faults new ≡ M.disk_faults old)
    → RunCounts status (M.read_faults old) (M.read_faults new) (M.write_faults old) (M.write_faults new) (M.disk_faults old) (M.disk_faults new)
fault_run M r fault status old new laws was is ran later failed counted =
    fault_counts fault status (M.read_faults old) (M.read_faults new) (M.write_faults old) (M.write_faults new) (M.disk_faults old) (M.disk_faults new) is (laws.disk_keeps_source old new ran).same_faults (laws.disk_keeps_sink old new ran).same_faults later
    (λ bad. failed (was ∙ ap (λ (f : StoreFault). Err f) bad)) (tells counted)
  where
    tells : IsErrOf r faults.DiskFault ⊎ (M.disk_faults new ≡ M.disk_faults old) → (fault ≡ faults.DiskFault) ⊎ (M.disk_faults new ≡ M.disk_faults old)
    tells (inl bad) = let same : fault ≡ faults.DiskFault = same_fault fault faults.DiskFault (sym was ∙ bad) in inl same
    tells (inr kept) = inr kept
