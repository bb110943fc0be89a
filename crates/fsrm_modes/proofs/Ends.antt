-- Whole runs over a store.
use Rattle.std.proofs.Common.{◌≡◌, ◌≢◌, ℕ, ◌+◌, ◌-◌, ◌≤◌, Some, List, [], ◌++◌, length, drop, refl, sym, ◌∙◌, ap, subst, arith, append_assoc, length-append}
use Rattle.std.specs.Prelude.{Result, Ok, Err, OnOk, IfErr, IsErrOf, MatchResult}
use Rattle.std.proofs.lemmas.List.{append-nil, length-drop}
use Rattle.fsrm_model.specs.declared.row.Capacity.{Capacity}
use Rattle.fsrm_model.specs.declared.row.Rows.{Rows}
use Rattle.fsrm_model.specs.lines.Script.{lines, spelled_lines}
use Rattle.fsrm_model.specs.store.Lasting.{lasting}
use Rattle.fsrm_model.specs.values.Limits.{longest_script}
use Rattle.fsrm_outside.specs.Causes.{Rose}
use Rattle.fsrm_outside.specs.Members.{Members}
use Rattle.fsrm_outside.specs.Shown.{IsFront}
use Rattle.fsrm_outside.proofs.EachMoments.{then_moments}
use Rattle.fsrm_outside.proofs.OutsideLaws.{Laws}
use Rattle.fsrm_store.proofs.Told.{standing_told}
use Rattle.fsrm_store.specs.States.State.{Holds}
use Rattle.fsrm_session.specs.Counts.{Counts, StopCounts}
use Rattle.fsrm_session.specs.Turns.{Turn, line_turns, rows_after, script_turns, text_of}
use Rattle.fsrm_session.specs.Underway.{Breaks, Calms, Left, Safe, ShowsSome, Stopped, Underway}
use Rattle.fsrm_session.specs.declared.session.Session.{Session}
use Rattle.fsrm_session.specs.declared.stop.Stop.{Stop}
use Rattle.fsrm_session.specs.declared.stop.Stop.TheVariants as stops
use Rattle.fsrm_session.proofs.Going.{all_on_disk, safe_on, shows_still}
use Rattle.fsrm_modes.proofs.ScriptTurns.{script_turns-begin}
use Rattle.fsrm_session.proofs.Texts.{front_same, front_then, text_front}
use Rattle.fsrm_modes.specs.Ends.{CutAt, EndedBy, Outcome, TakesScript, Took}
use Rattle.fsrm_modes.specs.Reading.{IsCut, IsTooMuch, ReadTo}
use Rattle.fsrm_modes.specs.Statuses.{CloseCounts, IsReadEnd, IsSettled, SettleCounts, of_stop}
use Rattle.fsrm_modes.specs.declared.status.Status.{Status}
use Rattle.fsrm_modes.specs.declared.status.Status.TheVariants.{Done, Usage, ReadFault, WriteFault, DiskFault, TooLong, Damaged, NoMemory, NoStore, AlreadyStore}

abbrev pub ok_of : (T : Type 0) → T → Result T Status
ok_of T x = Ok x

abbrev pub err_of : (T : Type 0) → Status → Result T Status
err_of T status = Err status

-- ---- what is left of more turns

left_safe : {O : Type 0} {M : Members O} (K : Capacity) (R : Rows) (turns done rest : List Turn) (before : List ℕ) (old new : O) → turns ≡ done ++ rest → Safe M K R done before old new → Safe M K R turns before old new
left_safe {M = M} K R turns done rest before old new are e = subst (λ (l : List Turn). Safe M K R l before old new) (sym are) (safe_on K R done rest before e)

left_shows : {O : Type 0} (M : Members O) (R : Rows) (turns done rest : List Turn) (before : List ℕ) (new : O) → turns ≡ done ++ rest → ShowsSome M (text_of R done) before new → ShowsSome M (text_of R turns) before new
left_shows M R turns done rest before new are s =
    (s.0, s.1, front_then s.0 (text_of R done) (text_of R turns) s.2 (subst (λ (l : List Turn). IsFront (text_of R done) (text_of R l)) (sym are) (text_front R done rest)))

-- ---- a run is closed

-- all that waited is shown
words_shown : {O : Type 0} {M : Members O} (K : Capacity) (R : Rows) (turns : List Turn) (words before : List ℕ) (session : Session) (now : O) → Underway M K R turns words before session now → session.kept.items ≡ [] → M.shown now ≡ Some (before ++ words)
words_shown K R turns words before session now u empty =
    u.shown_is ∙ ap (λ (l : List ℕ). Some (before ++ l)) (sym (u.words_are ∙ ap (λ (l : List ℕ). u.shown ++ l) empty ∙ append-nil u.shown))

pub closed : {O T : Type 0} {M : Members O} (r : Result T Stop) (a b : Session) (old new : O) → MatchResult r (λ x. Calms M a b old new) (λ e. Breaks M e a b old new) → (IsErrOf r stops.NoMemory → ⊥)
    → (K : Capacity) (R : Rows) (turns : List Turn) (words before : List ℕ) → Underway M K R turns words before a old → ShowsSome M (text_of R turns) before new × Safe M K R turns before old new
closed (Ok x) a b old new h never K R turns words before u =
    let v = h.calms K R turns words before u in
    (shows_still K R turns words before new refl v.0, v.1)
closed (Err stops.WriteFault) a b old new h never K R turns words before u = h.breaks K R turns words before u
closed (Err stops.DiskFault) a b old new h never K R turns words before u = h.breaks K R turns words before u
closed (Err stops.NoMemory) a b old new h never K R turns words before u = absurd (never refl)

-- if no count rose, all that waited is shown
pub closed_whole : {O T : Type 0} {M : Members O} (r : Result T Stop) (a b : Session) (old new : O) → MatchResult r (λ x. Calms M a b old new) (λ e. Breaks M e a b old new) → (IsErrOf r stops.NoMemory → ⊥) → OnOk r (b.kept.items ≡ [])
    → Counts r (M.write_faults old) (M.write_faults new) (M.disk_faults old) (M.disk_faults new)
    → (K : Capacity) (R : Rows) (turns : List Turn) (words before : List ℕ) → Underway M K R turns words before a old
    → (Rose (M.write_faults old) (M.write_faults new) → ⊥) → (Rose (M.disk_faults old) (M.disk_faults new) → ⊥) → M.shown new ≡ Some (before ++ words)
closed_whole (Ok x) a b old new h never empty counts K R turns words before u no_write no_disk = words_shown K R turns words before b new (h.calms K R turns words before u).0 empty
closed_whole (Err stops.WriteFault) a b old new h never empty counts K R turns words before u no_write no_disk = absurd (no_write counts.0.rose)
closed_whole (Err stops.DiskFault) a b old new h never empty counts K R turns words before u no_write no_disk = absurd (no_disk counts.1.rose)
closed_whole (Err stops.NoMemory) a b old new h never empty counts K R turns words before u no_write no_disk = absurd (never refl)

pub closed_later : {T : Type 0} (r : Result T Stop) (w v d e : ℕ) → Counts r w v d e → (w ≤ v) × (d ≤ e)
closed_later (Ok x) w v d e c = (omega (arith, c.0), omega (arith, c.1))
closed_later (Err stops.WriteFault) w v d e c = (c.0.later, omega (arith, c.1))
closed_later (Err stops.DiskFault) w v d e c = (omega (arith, c.0), c.1.later)
closed_later (Err stops.NoMemory) w v d e c = (omega (arith, c.0), omega (arith, c.1))

-- ---- a run is concluded

-- all turns were taken, and all is stable and shown
pub done_outcome : {O : Type 0} {M : Members O} (K : Capacity) (R : Rows) (turns : List Turn) (before : List ℕ) (a b : Session) (start old new : O) → Laws M → Underway M K R turns (text_of R turns) before a old → Safe M K R turns before start old
    → Calms M a b old new → b.kept.items ≡ [] → b.store.journal.held ≡ 0 → Outcome M Done K R turns before start new
done_outcome {M = M} K R turns before a b start old new laws u so_far calms empty none =
    let v = calms.calms K R turns (text_of R turns) before u in
    let whole = words_shown K R turns (text_of R turns) before b new v.0 empty in
    let s = v.0.standing in
    let told = standing_told s.stands.parts s s.stands.certain.told in
    let same = all_on_disk K R turns (text_of R turns) before v.0 none in
    record {
      front = (text_of R turns, whole, front_same (text_of R turns) (text_of R turns) refl);
      whole = λ is. whole;
      kept = λ is. (s.stands.parts, s.stands.certain.told, told.state ∙ ap (λ (k : Capacity). Holds k (lasting (rows_after R v.0.first))) v.0.size ∙ ap (λ (x : Rows). Holds K x) same);
      safe = then_moments laws so_far v.1;
    }

-- that failed
pub broken_outcome : {O : Type 0} {M : Members O} (stop : Stop) (status : Status) (K : Capacity) (R : Rows) (turns : List Turn) (before : List ℕ) (a b : Session) (start old new : O) → Laws M → Underway M K R turns (text_of R turns) before a old → Safe M K R turns before start old
    → Breaks M stop a b old new → (stop ≡ stops.NoMemory → ⊥) → status ≡ of_stop stop → Outcome M status K R turns before start new
broken_outcome {M = M} stop status K R turns before a b start old new laws u so_far breaks never is =
    let v = breaks.breaks K R turns (text_of R turns) before u in
    go stop never is v.0 (then_moments laws so_far v.1)
  where
    go : (stop : Stop) → (stop ≡ stops.NoMemory → ⊥) → status ≡ of_stop stop → Stopped M stop K R turns before b new → Safe M K R turns before start new → Outcome M status K R turns before start new
    go stops.WriteFault never is s safe = record { front = s; whole = λ done. absurd (cc (done, is)); kept = λ done. absurd (cc (done, is)); safe = safe }
    go stops.DiskFault never is s safe = record { front = s; whole = λ done. absurd (cc (done, is)); kept = λ done. absurd (cc (done, is)); safe = safe }
    go stops.NoMemory never is s safe = absurd (never refl)

-- it had ended before
pub ended_outcome : {O : Type 0} {M : Members O} (status : Status) (K : Capacity) (R : Rows) (turns : List Turn) (before : List ℕ) (a : Session) (start old new : O) → Laws M → IsReadEnd status → EndedBy M status K R turns before a old → Safe M K R turns before start old
    → (IsSettled status → (K : Capacity) (R : Rows) (turns : List Turn) (words before : List ℕ) → Underway M K R turns words before a old → ShowsSome M (text_of R turns) before new × Safe M K R turns before old new)
    → ((IsSettled status → ⊥) → new ≡ old) → Outcome M status K R turns before start new
ended_outcome {M = M} status K R turns before a start old new laws is ended so_far settles same = go status is ended settles same
  where
    from_left : (status : Status) → status ≢ Done → Left M K R turns before a old → ((K : Capacity) (R : Rows) (turns : List Turn) (words before : List ℕ) → Underway M K R turns words before a old → ShowsSome M (text_of R turns) before new × Safe M K R turns before old new) → Outcome M status K R turns before start new
    from_left status other l settle =
        let v = settle K R l.done l.words before l.here in
        record {
          front = left_shows M R turns l.done l.rest before new l.are v.0;
          whole = λ done. absurd (other done);
          kept = λ done. absurd (other done);
          safe = then_moments laws so_far (left_safe K R turns l.done l.rest before old new l.are v.1);
        }

    from_shown : (status : Status) → status ≢ Done → ShowsSome M (text_of R turns) before old → new ≡ old → Outcome M status K R turns before start new
    from_shown status other s same = record {
      front = subst (ShowsSome M (text_of R turns) before) (sym same) s;
      whole = λ done. absurd (other done);
      kept = λ done. absurd (other done);
      safe = subst (Safe M K R turns before start) (sym same) so_far;
    }

    go : (status : Status) → IsReadEnd status → EndedBy M status K R turns before a old
        → (IsSettled status → (K : Capacity) (R : Rows) (turns : List Turn) (words before : List ℕ) → Underway M K R turns words before a old → ShowsSome M (text_of R turns) before new × Safe M K R turns before old new)
        → ((IsSettled status → ⊥) → new ≡ old) → Outcome M status K R turns before start new
    go ReadFault is l settle same = from_left ReadFault (λ e. absurd (cc)) l (settle tt)
    go TooLong is l settle same = from_left TooLong (λ e. absurd (cc)) l (settle tt)
    go NoMemory is l settle same = from_left NoMemory (λ e. absurd (cc)) l (settle tt)
    go WriteFault is s settle same = from_shown WriteFault (λ e. absurd (cc)) s (same (λ x. x))
    go DiskFault is s settle same = from_shown DiskFault (λ e. absurd (cc)) s (same (λ x. x))
    go Done is s settle same = absurd is
    go Usage is s settle same = absurd is
    go (Damaged part place) is s settle same = absurd is
    go NoStore is s settle same = absurd is
    go AlreadyStore is s settle same = absurd is

pub settle_counts : (stop : Stop) (status : Status) (w v d e : ℕ) → StopCounts stop w v d e → (stop ≡ stops.NoMemory → ⊥) → status ≡ of_stop stop → SettleCounts status w v d e
settle_counts stop status w v d e c never is = subst (λ (s : Status). SettleCounts s w v d e) (sym is) (go stop c never)
  where
    go : (stop : Stop) → StopCounts stop w v d e → (stop ≡ stops.NoMemory → ⊥) → SettleCounts (of_stop stop) w v d e
    go stops.WriteFault c never = c
    go stops.DiskFault c never = c
    go stops.NoMemory c never = absurd (never refl)

pub close_counts : (status : Status) (w v d e : ℕ) → w ≤ v → d ≤ e → ((IsSettled status → ⊥) → (v ≡ w) × (e ≡ d)) → CloseCounts status w v d e
close_counts ReadFault w v d e a b same = (a, b)
close_counts TooLong w v d e a b same = (a, b)
close_counts NoMemory w v d e a b same = (a, b)
close_counts Done w v d e a b same = same (λ x. x)
close_counts Usage w v d e a b same = same (λ x. x)
close_counts WriteFault w v d e a b same = same (λ x. x)
close_counts DiskFault w v d e a b same = same (λ x. x)
close_counts (Damaged part place) w v d e a b same = same (λ x. x)
close_counts NoStore w v d e a b same = same (λ x. x)
close_counts AlreadyStore w v d e a b same = same (λ x. x)

pub if_err : {T E : Type 0} (r : Result T E) (e : E) (Q : E → Type 0) → r ≡ Err e → Q e → IfErr r Q
if_err (Ok x) e Q is q = tt
if_err (Err y) e Q is q = let same : y ≡ e = cc in subst Q (sym same) q

pub of_err : {T E : Type 0} (r : Result T E) (e : E) (Q : E → Type 0) → r ≡ Err e → IfErr r Q → Q e
of_err (Ok x) e Q is q = absurd (cc)
of_err (Err y) e Q is q = let same : y ≡ e = cc in subst Q same q

-- ---- a script is read

taken_cut : {O : Type 0} {M : Members O} (status : Status) (K : Capacity) (R : Rows) (script left before : List ℕ) (b c : Session) (old new : O) → Underway M K R [] [] before b old
    → (cut : IsCut M K script left b c old new) → (status ≡ ReadFault → M.left new ≡ Some cut.rest) → (status ≡ TooLong → length (spelled_lines cut.ended ++ cut.next) ≡ longest_script)
    → Left M K R (script_turns K script) before c new × Safe M K R (script_turns K script) before old new × CutAt M K R status script before c new
taken_cut status K R script left before b c old new u cut kept full =
    let done = line_turns K 1 cut.ended in
    let rest = line_turns K (1 + length cut.ended) (lines (cut.next ++ cut.rest)) in
    let are : script_turns K script ≡ done ++ rest = script_turns-begin K cut.ended script (cut.next ++ cut.rest) cut.each (cut.script_is ∙ append_assoc (spelled_lines cut.ended) cut.next cut.rest) in
    let w = cut.goes.goes K R [] before u in (
      record { done = done; rest = rest; are = are; words = text_of R done; here = w.0 },
      left_safe K R (script_turns K script) done rest before old new are w.1,
      record { ended = cut.ended; next = cut.next; rest = cut.rest; each = cut.each; no_end = cut.no_end; script_is = cut.script_is; left_is = kept; full = full; here = w.0 },
    )

full_cut : {O : Type 0} {M : Members O} (K : Capacity) (script : List ℕ) (b c : Session) (mid new : O) → (h : IsTooMuch M K script b c mid new) → length (spelled_lines h.cut.ended ++ h.cut.next) ≡ longest_script
full_cut K script b c mid new h =
    omega (arith, ap length h.cut.script_is, length-append (spelled_lines h.cut.ended ++ h.cut.next) h.cut.rest, ap length h.rest_is, length-drop longest_script script, h.longer)

pub read_takes : {O T : Type 0} {M : Members O} (r : Result T Status) (K : Capacity) (R : Rows) (script before : List ℕ) (b c : Session) (old new : O) → ReadTo M K r script b c old new → Underway M K R [] [] before b old → TakesScript M K R r script before c old new
read_takes (Ok x) K R script before b c old new read u =
    let w = read.goes.goes K R [] before u in record { took = record { ended_is = w.0; so_far = w.1 }; at_end = read.at_end; short = read.short; too_long = tt; cut = tt }
read_takes (Err ReadFault) K R script before b c old new read u =
    let w = taken_cut ReadFault K R script read.left before b c old new u read.cut (λ e. read.cut.left_is ∙ ap (λ (l : List ℕ). Some l) (sym read.none_lost)) (λ e. absurd (cc)) in
    record { took = record { ended_is = w.0; so_far = w.1 }; at_end = tt; short = tt; too_long = λ e. absurd (cc); cut = w.2 }
read_takes (Err TooLong) K R script before b c old new read u =
    let w = taken_cut TooLong K R script (drop (longest_script + 1) script) before b c old new u read.cut (λ e. absurd (cc)) (λ e. full_cut K script b c old new read) in
    record { took = record { ended_is = w.0; so_far = w.1 }; at_end = tt; short = tt; too_long = λ e. record { longer = read.longer; taken = read.cut.left_is }; cut = w.2 }
read_takes (Err WriteFault) K R script before b c old new read u =
    let w = read.stops K R [] before u in record { took = record { ended_is = w.0; so_far = w.1 }; at_end = tt; short = tt; too_long = λ e. absurd (cc); cut = tt }
read_takes (Err DiskFault) K R script before b c old new read u =
    let w = read.stops K R [] before u in record { took = record { ended_is = w.0; so_far = w.1 }; at_end = tt; short = tt; too_long = λ e. absurd (cc); cut = tt }
read_takes (Err NoMemory) K R script before b c old new read u =
    let w = read.stops K R [] before u in record { took = record { ended_is = w.0; so_far = w.1 }; at_end = tt; short = tt; too_long = λ e. absurd (cc); cut = tt }
read_takes (Err Done) K R script before b c old new read u = absurd read
read_takes (Err Usage) K R script before b c old new read u = absurd read
read_takes (Err (Damaged part place)) K R script before b c old new read u = absurd read
read_takes (Err NoStore) K R script before b c old new read u = absurd read
read_takes (Err AlreadyStore) K R script before b c old new read u = absurd read

-- ---- how turns that were taken ended
pub took_ok : {O T : Type 0} {M : Members O} (r : Result T Status) (x : T) (K : Capacity) (R : Rows) (turns : List Turn) (before : List ℕ) (session : Session) (start now : O) → r ≡ Ok x → Took M r K R turns before session start now → Took M (ok_of T x) K R turns before session start now
took_ok {T = T} {M = M} r x K R turns before session start now is took = subst (λ (r : Result T Status). Took M r K R turns before session start now) is took

pub took_err : {O T : Type 0} {M : Members O} (r : Result T Status) (e : Status) (K : Capacity) (R : Rows) (turns : List Turn) (before : List ℕ) (session : Session) (start now : O) → r ≡ Err e → Took M r K R turns before session start now → Took M (err_of T e) K R turns before session start now
took_err {T = T} {M = M} r e K R turns before session start now is took = subst (λ (r : Result T Status). Took M r K R turns before session start now) is took
