-- What a run comes to that takes turns of its own.
use Rattle.std.proofs.Common.{◌≡◌, ℕ, ◌+◌, ◌*◌, ◌≤◌, Some, List, [], length, refl, sym, ◌∙◌, ap, subst, arith}
use Rattle.std.proofs.lemmas.List.{append-nil}
use Rattle.std.specs.Prelude.{◌/◌, Err, IfErr, IsErrOf, MatchResult, Ok, OnOk, Result, if◌then◌else◌}
use Rattle.fsrm_model.specs.declared.row.Capacity.{Capacity}
use Rattle.fsrm_model.specs.declared.row.Rows.{Rows}
use Rattle.fsrm_outside.specs.Members.{Members}
use Rattle.fsrm_outside.specs.Parts.{Parts}
use Rattle.fsrm_outside.specs.declared.traits.Part.{Part}
use Rattle.fsrm_outside.proofs.OutsideLaws.{Laws}
use Rattle.fsrm_journal.specs.Opened.{judged_parts}
use Rattle.fsrm_session.specs.Counts.{Counts}
use Rattle.fsrm_session.specs.Spending.{bytes_after, renewing, Spends}
use Rattle.fsrm_session.specs.Turns.{Turn, bytes_of, looks_of, text_of, IsWithin}
use Rattle.fsrm_session.specs.Underway.{Breaks, Calms, Goes, Safe, ShowsSome, Stopped, Stops, Underway}
use Rattle.fsrm_session.specs.declared.session.Session.{Session}
use Rattle.fsrm_session.specs.declared.stop.Stop.{Stop}
use Rattle.fsrm_session.specs.declared.stop.Stop.TheVariants as stops
use Rattle.fsrm_session.proofs.Going.{safe_on, stopped_more}
use Rattle.fsrm_session.proofs.Spending.{allowed, spends_less, within_now}
use Rattle.fsrm_store.specs.Amortized.{bytes_since, Amortized}
use Rattle.fsrm_store.specs.Keeps.{HasTail}
use Rattle.fsrm_store.specs.Recovery.{is_first_version, FewLooks}
use Rattle.fsrm_store.specs.States.{state_of}
use Rattle.fsrm_store.specs.States.State.{Holds}
use Rattle.fsrm_store.specs.declared.fault.StoreFault.{StoreFault}
use Rattle.fsrm_store.specs.declared.fault.StoreFault.TheVariants as faults
use Rattle.fsrm_store.specs.declared.store.Store.{Store}
use Rattle.fsrm_store.proofs.Amortizing.{whole}
use Rattle.fsrm_store.proofs.StateLaws.{same_ok}
use Rattle.fsrm_store.proofs.TailLaws.{one_tail}
use Rattle.fsrm_modes.specs.Ends.{Took}
use Rattle.fsrm_modes.specs.Looks.{left_after, FewForTurns}
use Rattle.fsrm_modes.specs.OwnTurns.{ended_by, TakesTurns}
use Rattle.fsrm_modes.specs.Promises.{Begins}
use Rattle.fsrm_modes.specs.Statuses.{of_stop, of_store, IsOwnEnd, IsSettled, ReadCounts}
use Rattle.fsrm_modes.specs.declared.status.Status.{Status}
use Rattle.fsrm_modes.proofs.Ends.{err_of}
use Rattle.fsrm_modes.proofs.Spending.{left_stop}
use Rattle.fsrm_modes.proofs.Spent.{renews}

-- ---- the store can't be opened
pub fault_takes : {O : Type 0} {M : Members O} (fault : StoreFault) (status : Status) (K : Capacity) (R : Rows) (turns : List Turn) (before : List ℕ) (old new : O) → Laws M → status ≡ of_store fault → M.by_disk old new → Begins M K R before old → TakesTurns M K R status turns before new
fault_takes {M = M} fault status K R turns before old new laws is ran b =
    subst (λ (s : Status). TakesTurns M K R s turns before new) (sym is)
    (go fault ([], (laws.disk_keeps_sink old new ran).same_shown ∙ b.shown ∙ ap (λ (l : List ℕ). Some l) (sym (append-nil before)), (text_of R turns, refl)))
  where
    go : (fault : StoreFault) → ShowsSome M (text_of R turns) before new → TakesTurns M K R (of_store fault) turns before new
    go faults.NoStore s = record { front = s; whole = λ e. absurd (cc); kept = λ e. absurd (cc) }
    go faults.AlreadyStore s = record { front = s; whole = λ e. absurd (cc); kept = λ e. absurd (cc) }
    go (faults.Damaged part place) s = record { front = s; whole = λ e. absurd (cc); kept = λ e. absurd (cc) }
    go faults.DiskFault s = record { front = s; whole = λ e. absurd (cc); kept = λ e. absurd (cc) }
    go faults.NoMemory s = record { front = s; whole = λ e. absurd (cc); kept = λ e. absurd (cc) }

-- ---- they are taken, or some first ones
pub own_took : {O T : Type 0} {M : Members O} (r : Result T Stop) (ended : Result T Status) (turns : Capacity → Rows → List Turn) (K : Capacity) (R : Rows) (before : List ℕ) (a c : Session) (old new : O) → ended ≡ ended_by r
    → MatchResult r (λ x. Goes M (turns a.store.engine.size a.store.engine.rows) a c old new) (λ e. Stops M e (turns a.store.engine.size a.store.engine.rows) a c old new)
    → Underway M K R [] [] before a old → Took M ended K R (turns K R) before c old new
own_took {T = T} {M = M} r ended turns K R before a c old new is runs u =
    subst (λ (e : Result T Status). Took M e K R (turns K R) before c old new) (sym is)
    (subst (λ (S : Rows). Took M (ended_by r) K R (turns K S) before c old new) u.rows
    (subst (λ (J : Capacity). Took M (ended_by r) K R (turns J a.store.engine.rows) before c old new) u.size (at r runs)))
  where
    own : List Turn
    own = turns a.store.engine.size a.store.engine.rows

    at : (r : Result T Stop) → MatchResult r (λ x. Goes M own a c old new) (λ e. Stops M e own a c old new) → Took M (ended_by r) K R own before c old new
    at (Ok x) h = let w = h.goes K R [] before u in record { ended_is = w.0; so_far = w.1 }
    at (Err stops.WriteFault) h = let w = h.stops K R [] before u in record { ended_is = w.0; so_far = w.1 }
    at (Err stops.DiskFault) h = let w = h.stops K R [] before u in record { ended_is = w.0; so_far = w.1 }
    at (Err stops.NoMemory) h = let w = h.stops K R [] before u in record { ended_is = w.0; so_far = w.1 }

-- they were not begun
pub unbegun : {O : Type 0} {M : Members O} (T : Type 0) (stop : Stop) (K : Capacity) (R : Rows) (turns : List Turn) (before : List ℕ) (a b : Session) (old new : O) → Breaks M stop a b old new → Underway M K R [] [] before a old → Took M (err_of T (of_stop stop)) K R turns before b old new
unbegun {M = M} T stop K R turns before a b old new breaks u =
    let v = breaks.breaks K R [] [] before u in
    go stop (stopped_more M stop K R [] turns before b new v.0) (safe_on K R [] turns before v.1)
  where
    go : (stop : Stop) → Stopped M stop K R turns before b new → Safe M K R turns before old new → Took M (err_of T (of_stop stop)) K R turns before b old new
    go stops.WriteFault s safe = record { ended_is = s; so_far = safe }
    go stops.DiskFault s safe = record { ended_is = s; so_far = safe }
    go stops.NoMemory s safe = record { ended_is = s; so_far = safe }

-- ---- how it is told
pub end_only : {T : Type 0} (r : Result T Stop) (ended : Result T Status) → ended ≡ ended_by r → IfErr ended IsOwnEnd
end_only {T} r ended is = subst (λ (e : Result T Status). IfErr e IsOwnEnd) (sym is) (go r)
  where
    go : (r : Result T Stop) → IfErr (ended_by r) IsOwnEnd
    go (Ok x) = tt
    go (Err stops.WriteFault) = tt
    go (Err stops.DiskFault) = tt
    go (Err stops.NoMemory) = tt

pub end_ready : {T : Type 0} (r : Result T Stop) (ended : Result T Status) (P : Type 0) → ended ≡ ended_by r → OnOk r P → (IsErrOf r stops.NoMemory → P) → MatchResult ended (λ x. P) (λ s. IsSettled s → P)
end_ready {T} r ended P is p q = subst (λ (e : Result T Status). MatchResult e (λ x. P) (λ s. IsSettled s → P)) (sym is) (go r p q)
  where
    go : (r : Result T Stop) → OnOk r P → (IsErrOf r stops.NoMemory → P) → MatchResult (ended_by r) (λ x. P) (λ s. IsSettled s → P)
    go (Ok x) p q = p
    go (Err stops.WriteFault) p q = λ s. absurd s
    go (Err stops.DiskFault) p q = λ s. absurd s
    go (Err stops.NoMemory) p q = λ s. q refl

pub end_counts : {T : Type 0} (r : Result T Stop) (ended : Result T Status) (a q w v d e : ℕ) → ended ≡ ended_by r → q ≡ a → Counts r w v d e → ReadCounts ended a q w v d e
end_counts {T} r ended a q w v d e is same c = subst (λ (x : Result T Status). ReadCounts x a q w v d e) (sym is) (go r c)
  where
    go : (r : Result T Stop) → Counts r w v d e → ReadCounts (ended_by r) a q w v d e
    go (Ok x) c = (same, c.0, c.1)
    go (Err stops.WriteFault) c = (same, c.0, c.1)
    go (Err stops.DiskFault) c = (same, c.0, c.1)
    go (Err stops.NoMemory) c = (same, c.0, c.1)

-- ---- the looks that it takes
-- it begins, and takes its turns, with so many looks beside them
pub turns_spent : {O : Type 0} {M : Members O} (turns : Capacity → Rows → List Turn) (beside : Capacity → Rows → ℕ) (K : Capacity) (R : Rows) (before : List ℕ) (was mid : Session) (first half : O) (looks late steps left most : ℕ) → Calms M was mid first half → Underway M K R [] [] before was first
    → late ≤ (looks + renewing was.store) + beside mid.store.engine.size mid.store.engine.rows → bytes_since mid.store.journal ≤ bytes_since was.store.journal → Spends M (turns mid.store.engine.size mid.store.engine.rows) mid half late steps left → IsWithin most R (turns K R)
    → Amortized most (((looks + renewing was.store) + beside K R) + looks_of R (turns K R)) steps (bytes_since was.store.journal + bytes_of R (turns K R)) left
turns_spent {M = M} turns beside K R before was mid first half looks late steps left most calms u few paid p within =
    let v = (calms.calms K R [] [] before u).0 in
    let rows = mid.store.engine.rows in
    let own = turns K R in
    let all = looks + renewing was.store in
    let cost : beside mid.store.engine.size rows ≡ beside K R = ap (λ (C : Capacity). beside C rows) v.size ∙ ap (beside K) v.rows in
    let same : turns mid.store.engine.size rows ≡ own = ap (λ (C : Capacity). turns C rows) v.size ∙ ap (turns K) v.rows in
    let q = subst (λ (ts : List Turn). Spends M ts mid half late steps left) same p in
    let one = q.spends K R [] before v most (subst (λ (S : Rows). IsWithin most S own) (sym v.rows) within) in
    allowed most most (late + looks_of rows own) ((all + beside K R) + looks_of R own) steps (bytes_since mid.store.journal + bytes_of rows own) (bytes_since was.store.journal + bytes_of R own) left left (omega arith)
    (omega (arith, few, cost, ap (λ (S : Rows). looks_of S own) v.rows))
    (omega (arith, paid, ap (λ (S : Rows). bytes_of S own) v.rows)) (omega arith) one

-- however it is told
end_left : {T : Type 0} (r : Result T Stop) (session : Session) → left_after (ended_by r) session ≤ bytes_after r session
end_left (Ok x) session = omega arith
end_left {T} (Err stop) session = left_stop T T stop session

pub own_spends : {O T : Type 0} {M : Members O} (r : Result T Stop) (ended : Result T Status) (turns : List Turn) (was now : Session) (old : O) (looks more steps : ℕ) → ended ≡ ended_by r → looks ≤ more → Spends M turns was old looks steps (bytes_after r now) → Spends M turns was old more steps (left_after ended now)
own_spends {T = T} r ended turns was now old looks more steps is late p = spends_less turns was old looks more steps (bytes_after r now) (left_after ended now) late (omega (arith, ap (λ (e : Result T Status). left_after e now) is, end_left r now)) p

-- the whole run: the store couldn't be opened
pub fault_turns : (parts : Parts) (R : Rows) (turns : List Turn) (beside looks steps : ℕ) → FewLooks parts looks steps → FewForTurns parts R turns beside looks steps
fault_turns parts R turns beside looks steps opening = record { opened = steps; opening = opening; few = λ ruling tail most judged has within. omega arith }

-- it was
pub run_turns : (parts : Parts) (K : Capacity) (R : Rows) (turns : List Turn) (beside : ℕ) (store : Store) (looks opened steps : ℕ) → FewLooks parts looks opened → state_of parts ≡ Holds K R → state_of parts ≡ Holds store.engine.size store.engine.rows
    → (judged_parts parts ≡ Ok store.journal.ruling) × (store.is_old ≡ is_first_version store.journal.ruling parts) → HasTail (bytes_since store.journal) parts
    → ((most : ℕ) → IsWithin most R turns → Amortized most (((opened + renewing store) + beside) + looks_of R turns) steps (bytes_since store.journal + bytes_of R turns) 0)
    → FewForTurns parts R turns beside looks steps
run_turns parts K R turns beside store looks opened steps opening holds state old has spends = record {
  opened = opened;
  opening = opening;
  few = λ ruling tail most judged other within.
      let same : Holds K R ≡ Holds store.engine.size store.engine.rows = sym holds ∙ state in
      let rows : R ≡ store.engine.rows = cc in
      let fit : length store.engine.rows.nodes ≤ most = omega (arith, within_now most R turns within, ap (λ (S : Rows). length S.nodes) rows) in
      let rule : store.journal.ruling ≡ ruling = same_ok store.journal.ruling ruling (judged_parts parts) old.0 judged in
      let renewed : renewing store ≤ (if is_first_version ruling parts then 2 * most else 0) = renews store.is_old (is_first_version ruling parts) (length store.engine.rows.nodes) most (old.1 ∙ ap (λ (p : Part). is_first_version p parts) rule) fit in
      let one : bytes_since store.journal ≡ tail = one_tail (bytes_since store.journal) tail parts has other in
      let all = whole most (((opened + renewing store) + beside) + looks_of R turns) steps (bytes_since store.journal + bytes_of R turns) 0 (spends most within) in
      let images : (bytes_since store.journal + bytes_of R turns) / 1048576 * (2 * most) ≡ (tail + bytes_of R turns) / 1048576 * (2 * most) = ap (λ (n : ℕ). (n + bytes_of R turns) / 1048576 * (2 * most)) one in
      omega (arith, all, images, renewed);
}
