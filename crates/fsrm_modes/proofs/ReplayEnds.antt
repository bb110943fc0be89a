-- What a run of replay promises, from how its turns ended.
use Rattle.std.proofs.Common.{◌≡◌, ◌≢◌, ℕ, ◌+◌, ◌≤◌, Some, List, [], ◌++◌, length, refl, sym, ◌∙◌, ap, subst, arith}
use Rattle.std.specs.Prelude.{Option, Result, Ok, Err, OnOk, IfErr, MatchResult}
use Rattle.fsrm_model.specs.declared.row.Capacity.{Capacity}
use Rattle.fsrm_model.specs.declared.row.Rows.{Rows}
use Rattle.fsrm_model.specs.store.Lasting.{lasting}
use Rattle.fsrm_model.specs.values.Limits.{longest_script}
use Rattle.fsrm_outside.specs.Causes.{Rose}
use Rattle.fsrm_outside.specs.Changes.{Same, Through}
use Rattle.fsrm_outside.specs.Members.{Members}
use Rattle.fsrm_outside.proofs.OutsideLaws.{Laws}
use Rattle.fsrm_store.specs.States.State.{Holds}
use Rattle.fsrm_session.specs.Counts.{StopCounts}
use Rattle.fsrm_session.specs.declared.stop.Stop.{Stop}
use Rattle.fsrm_session.specs.declared.stop.Stop.TheVariants as stops
use Rattle.fsrm_session.specs.Turns.{line_turns, script_turns, text_of, Turn}
use Rattle.fsrm_session.specs.Underway.{ShowsSome, Underway}
use Rattle.fsrm_session.specs.declared.session.Session.{Session}
use Rattle.fsrm_modes.proofs.ScriptTurns.{rows_after-script, text_of-lines, text_of-script}
use Rattle.fsrm_modes.specs.Answers.{most_taken, IsQuiet, IsTooLong, OnReadStop}
use Rattle.fsrm_modes.specs.Bytes.{TakenMost}
use Rattle.fsrm_modes.specs.Ends.{CutAt, TakesScript}
use Rattle.fsrm_modes.specs.OwnTurns.{TakesTurns}
use Rattle.fsrm_modes.specs.Promises.{Replays, ShowsEnded}
use Rattle.fsrm_modes.specs.Reading.{ReadTo}
use Rattle.fsrm_modes.specs.Statuses.{CloseCounts, EndCounts, IsReadEnd, IsSettled, ReadCounts, SettleCounts, of_stop}
use Rattle.fsrm_modes.specs.Tasks.{EndsScript}
use Rattle.fsrm_modes.specs.declared.status.Status.{Status}
use Rattle.fsrm_modes.specs.declared.status.Status.TheVariants.{Done, Usage, ReadFault, WriteFault, DiskFault, TooLong, Damaged, NoMemory, NoStore, AlreadyStore}

-- ---- a store that can't be opened

pub fault_quiet : {O : Type 0} {M : Members O} (old new : O) → Laws M → M.by_disk old new → M.reads new ≡ M.reads old → Through M.disk_clock M.images Same old new → IsQuiet M old new
fault_quiet old new laws ran same crash = record { left = (laws.disk_keeps_source old new ran).same_left; shown = (laws.disk_keeps_sink old new ran).same_shown; reads = same; crash = crash }

-- ---- what was taken of the script

pub none_taken : (a b : Option (List ℕ)) (most : ℕ) → b ≡ a → TakenMost a b most
none_taken a b most same = record { bytes = []; few = omega arith; taken = record { rest = λ script e. (script, refl, same ∙ e) } }

pub whole_taken : (status : Status) → longest_script ≤ most_taken status
whole_taken TooLong = omega arith
whole_taken Done = omega arith
whole_taken Usage = omega arith
whole_taken ReadFault = omega arith
whole_taken WriteFault = omega arith
whole_taken DiskFault = omega arith
whole_taken (Damaged part place) = omega arith
whole_taken NoMemory = omega arith
whole_taken NoStore = omega arith
whole_taken AlreadyStore = omega arith

-- ---- the script's end

done_ok : {T : Type 0} (ended : Result T Status) (status : Status) (P : Type 0) → IfErr ended IsReadEnd → IfErr ended (λ s. status ≡ s) → OnOk ended P → status ≡ Done → P
done_ok (Ok x) status P only is p done = p
done_ok (Err s) status P only is p done = absurd (subst IsReadEnd (sym is ∙ done) only)

long_err : {T : Type 0} (ended : Result T Status) (status : Status) (P : Type 0) (w v d e : ℕ) → IfErr ended (λ s. status ≡ s) → MatchResult ended (λ x. SettleCounts status w v d e) (λ s. CloseCounts s w v d e) → IfErr ended (λ s. s ≡ TooLong → P) → status ≡ TooLong → P
long_err (Ok x) status P w v d e is c p long = absurd (subst (λ (s : Status). SettleCounts s w v d e) long c)
long_err (Err s) status P w v d e is c p long = p (sym is ∙ long)

on_read_stop : (status : Status) (P Q : Type 0) → (IsSettled status → P → Q) → OnReadStop status P → OnReadStop status Q
on_read_stop ReadFault P Q f p = f tt p
on_read_stop TooLong P Q f p = f tt p
on_read_stop NoMemory P Q f p = tt
on_read_stop Done P Q f p = tt
on_read_stop Usage P Q f p = tt
on_read_stop WriteFault P Q f p = tt
on_read_stop DiskFault P Q f p = tt
on_read_stop (Damaged part place) P Q f p = tt
on_read_stop NoStore P Q f p = tt
on_read_stop AlreadyStore P Q f p = tt

settled_no_stop : (status : Status) (P : Type 0) (w v d e : ℕ) → SettleCounts status w v d e → OnReadStop status P
settled_no_stop Done P w v d e c = tt
settled_no_stop WriteFault P w v d e c = tt
settled_no_stop DiskFault P w v d e c = tt
settled_no_stop ReadFault P w v d e c = absurd c
settled_no_stop TooLong P w v d e c = absurd c
settled_no_stop NoMemory P w v d e c = tt
settled_no_stop Usage P w v d e c = tt
settled_no_stop (Damaged part place) P w v d e c = tt
settled_no_stop NoStore P w v d e c = tt
settled_no_stop AlreadyStore P w v d e c = tt

rose_from : (a b c : ℕ) → a ≤ b → Rose b c → Rose a c
rose_from a b c few rose = omega (arith, few, rose)

read_stop_counts : (s : Status) (r q w v d e : ℕ) → IsSettled s → EndCounts s r q w v d e → (w ≤ v) × (d ≤ e)
read_stop_counts ReadFault r q w v d e is c = (omega (arith, c.1), omega (arith, c.2))
read_stop_counts TooLong r q w v d e is c = (omega (arith, c.1), omega (arith, c.2))
read_stop_counts NoMemory r q w v d e is c = (omega (arith, c.1), omega (arith, c.2))
read_stop_counts Done r q w v d e is c = absurd is
read_stop_counts Usage r q w v d e is c = absurd is
read_stop_counts WriteFault r q w v d e is c = absurd is
read_stop_counts DiskFault r q w v d e is c = absurd is
read_stop_counts (Damaged part place) r q w v d e is c = absurd is
read_stop_counts NoStore r q w v d e is c = absurd is
read_stop_counts AlreadyStore r q w v d e is c = absurd is

shows_ended : {O T : Type 0} {M : Members O} (ended : Result T Status) (status : Status) (K : Capacity) (R : Rows) (script before : List ℕ) (session : Session) (old mid now new : O) → M.write_faults mid ≡ M.write_faults old → M.disk_faults mid ≡ M.disk_faults old
    → IfErr ended (λ s. OnReadStop s (CutAt M K R s script before session now))
    → ((turns : List Turn) (words : List ℕ) → Underway M K R turns words before session now → IfErr ended (λ s. IsSettled s → (Rose (M.write_faults now) (M.write_faults new) → ⊥) → (Rose (M.disk_faults now) (M.disk_faults new) → ⊥) → M.shown new ≡ Some (before ++ words)))
    → ReadCounts ended (M.read_faults mid) (M.read_faults now) (M.write_faults mid) (M.write_faults now) (M.disk_faults mid) (M.disk_faults now)
    → IfErr ended (λ s. status ≡ s) → MatchResult ended (λ x. SettleCounts status (M.write_faults now) (M.write_faults new) (M.disk_faults now) (M.disk_faults new)) (λ s. CloseCounts s (M.write_faults now) (M.write_faults new) (M.disk_faults now) (M.disk_faults new))
    → M.left new ≡ M.left now → OnReadStop status (ShowsEnded M K R status script before old new)
shows_ended {M = M} (Ok x) status K R script before session old mid now new w d cut whole counts is c left =
    settled_no_stop status (ShowsEnded M K R status script before old new) (M.write_faults now) (M.write_faults new) (M.disk_faults now) (M.disk_faults new) c
shows_ended {M = M} (Err s) status K R script before session old mid now new w d cut whole counts is c left =
    subst (λ (t : Status). OnReadStop t (ShowsEnded M K R t script before old new)) (sym is)
    (on_read_stop s (CutAt M K R s script before session now) (ShowsEnded M K R s script before old new)
    (λ settled h.
    let later = read_stop_counts s (M.read_faults mid) (M.read_faults now) (M.write_faults mid) (M.write_faults now) (M.disk_faults mid) (M.disk_faults now) settled counts in
    record {
      ended = h.ended;
      next = h.next;
      rest = h.rest;
      each = h.each;
      no_end = h.no_end;
      script_is = h.script_is;
      left_is = λ e. left ∙ h.left_is e;
      full = h.full;
      shows = λ no_write no_disk.
          whole (line_turns K 1 h.ended) (text_of R (line_turns K 1 h.ended)) h.here settled
          (λ rose. no_write (rose_from (M.write_faults old) (M.write_faults now) (M.write_faults new) (omega (arith, w, later.0)) rose))
          (λ rose. no_disk (rose_from (M.disk_faults old) (M.disk_faults now) (M.disk_faults new) (omega (arith, d, later.1)) rose))
          ∙ ap (λ (l : List ℕ). Some (before ++ l)) (text_of-lines K R 1 h.ended);
    }) cut)

pub run_ends : {O T : Type 0} {M : Members O} (ended : Result T Status) (status : Status) (K : Capacity) (R : Rows) (script before : List ℕ) (session : Session) (old mid now new : O) → Laws M → M.by_disk old mid → M.disk_faults mid ≡ M.disk_faults old
    → IfErr ended IsReadEnd → TakesScript M K R ended script before session mid now
    → ((turns : List Turn) (words : List ℕ) → Underway M K R turns words before session now → IfErr ended (λ s. IsSettled s → (Rose (M.write_faults now) (M.write_faults new) → ⊥) → (Rose (M.disk_faults now) (M.disk_faults new) → ⊥) → M.shown new ≡ Some (before ++ words)))
    → ReadCounts ended (M.read_faults mid) (M.read_faults now) (M.write_faults mid) (M.write_faults now) (M.disk_faults mid) (M.disk_faults now)
    → IfErr ended (λ s. status ≡ s) → MatchResult ended (λ x. SettleCounts status (M.write_faults now) (M.write_faults new) (M.disk_faults now) (M.disk_faults new)) (λ s. CloseCounts s (M.write_faults now) (M.write_faults new) (M.disk_faults now) (M.disk_faults new))
    → M.left new ≡ M.left now → EndsScript M K R status script before old new
run_ends {M = M} ended status K R script before session old mid now new laws ran kept only took whole counts is c left = record {
  at_end = λ done. left ∙ done_ok ended status (M.left now ≡ Some []) only is took.at_end done;
  short = done_ok ended status (length script ≤ longest_script) only is took.short;
  too_long = λ long. subst (IsTooLong script) (sym left) (long_err ended status (IsTooLong script (M.left now)) (M.write_faults now) (M.write_faults new) (M.disk_faults now) (M.disk_faults new) is c took.too_long long);
  ended = shows_ended ended status K R script before session old mid now new (laws.disk_keeps_sink old mid ran).same_faults kept took.cut whole counts is c left;
}

-- what is shown and kept besides
pub replays : {O : Type 0} {M : Members O} (K : Capacity) (R : Rows) (status : Status) (script before : List ℕ) (old new : O) → TakesTurns M K R status (script_turns K script) before new → EndsScript M K R status script before old new → Replays M K R status script before old new
replays {M = M} K R status script before old new took ends = record {
  front = subst (λ (l : List ℕ). ShowsSome M l before new) (text_of-script K R script) took.front;
  whole = λ done. took.whole done ∙ ap (λ (l : List ℕ). Some (before ++ l)) (text_of-script K R script);
  at_end = ends.at_end;
  short = ends.short;
  kept = λ done. let k = took.kept done in (k.0, k.1, k.2 ∙ ap (λ (x : Rows). Holds K (lasting x)) (rows_after-script K R script));
  too_long = ends.too_long;
  ended = ends.ended;
}

-- ---- the script is taken, or not begun

pub read_ready : {T : Type 0} (r : Result T Status) (P : Type 0) → OnOk r P → IfErr r (λ s. s ≢ WriteFault → s ≢ DiskFault → P) → MatchResult r (λ x. P) (λ s. IsSettled s → P)
read_ready (Ok x) P p q = p
read_ready (Err ReadFault) P p q = λ is. q (λ e. absurd (cc)) (λ e. absurd (cc))
read_ready (Err TooLong) P p q = λ is. q (λ e. absurd (cc)) (λ e. absurd (cc))
read_ready (Err NoMemory) P p q = λ is. q (λ e. absurd (cc)) (λ e. absurd (cc))
read_ready (Err Done) P p q = λ is. absurd is
read_ready (Err Usage) P p q = λ is. absurd is
read_ready (Err WriteFault) P p q = λ is. absurd is
read_ready (Err DiskFault) P p q = λ is. absurd is
read_ready (Err (Damaged part place)) P p q = λ is. absurd is
read_ready (Err NoStore) P p q = λ is. absurd is
read_ready (Err AlreadyStore) P p q = λ is. absurd is

pub begin_ready : (stop : Stop) (status : Status) (P : Type 0) → status ≡ of_stop stop → (stop ≡ stops.NoMemory → P) → IsSettled status → P
begin_ready stop status P is p settled = go stop p (subst IsSettled is settled)
  where
    go : (stop : Stop) → (stop ≡ stops.NoMemory → P) → IsSettled (of_stop stop) → P
    go stops.WriteFault p settled = absurd settled
    go stops.DiskFault p settled = absurd settled
    go stops.NoMemory p settled = p refl

pub stop_counts : (stop : Stop) (status : Status) (r q w v d e : ℕ) → status ≡ of_stop stop → q ≡ r → StopCounts stop w v d e → EndCounts status r q w v d e
stop_counts stop status r q w v d e is same c = subst (λ (s : Status). EndCounts s r q w v d e) (sym is) (go stop c)
  where
    go : (stop : Stop) → StopCounts stop w v d e → EndCounts (of_stop stop) r q w v d e
    go stops.WriteFault c = (same, c.0, c.1)
    go stops.DiskFault c = (same, c.0, c.1)
    go stops.NoMemory c = (same, c.0, c.1)

pub moved_counts : {T : Type 0} (ended : Result T Status) (r s q w x v d f e : ℕ) → s ≡ r → x ≡ w → f ≡ d → ReadCounts ended s q x v f e → ReadCounts ended r q w v d e
moved_counts ended r s q w x v d f e a b c h =
    subst (λ (n : ℕ). ReadCounts ended n q w v d e) a
    (subst (λ (n : ℕ). ReadCounts ended s q n v d e) b
    (subst (λ (n : ℕ). ReadCounts ended s q x v n e) c h))

-- ---- in each case of a result
pub match_ok : {T E : Type 0} (r : Result T E) (x : T) (P : T → Type 0) (Q : E → Type 0) → r ≡ Ok x → P x → MatchResult r P Q
match_ok (Ok y) x P Q is p = let same : y ≡ x = cc in subst P (sym same) p
match_ok (Err e) x P Q is p = absurd (cc)

pub match_err : {T E : Type 0} (r : Result T E) (e : E) (P : T → Type 0) (Q : E → Type 0) → r ≡ Err e → Q e → MatchResult r P Q
match_err (Ok x) e P Q is q = absurd (cc)
match_err (Err y) e P Q is q = let same : y ≡ e = cc in subst Q (sym same) q

-- ---- a script that is too long

pub read_long : {O T : Type 0} (M : Members O) (r : Result T Status) (K : Capacity) (script : List ℕ) (was now : Session) (old new : O) → ReadTo M K r script was now old new → IfErr r (λ s. s ≡ TooLong → IsTooLong script (M.left new))
read_long M (Ok x) K script was now old new read = tt
read_long M (Err TooLong) K script was now old new read = λ e. record { longer = read.longer; taken = read.cut.left_is }
read_long M (Err ReadFault) K script was now old new read = λ e. absurd (cc)
read_long M (Err WriteFault) K script was now old new read = λ e. absurd (cc)
read_long M (Err DiskFault) K script was now old new read = λ e. absurd (cc)
read_long M (Err NoMemory) K script was now old new read = λ e. absurd (cc)
read_long M (Err Done) K script was now old new read = λ e. absurd (cc)
read_long M (Err Usage) K script was now old new read = λ e. absurd (cc)
read_long M (Err (Damaged part place)) K script was now old new read = λ e. absurd (cc)
read_long M (Err NoStore) K script was now old new read = λ e. absurd (cc)
read_long M (Err AlreadyStore) K script was now old new read = λ e. absurd (cc)

pub stop_not_long : (stop : Stop) (status : Status) → status ≡ of_stop stop → status ≡ TooLong → ⊥
stop_not_long stops.WriteFault status is long = absurd (cc)
stop_not_long stops.DiskFault status is long = absurd (cc)
stop_not_long stops.NoMemory status is long = absurd (cc)
