-- What a run takes, from its beginning to its end.
use Rattle.std.proofs.Common.{◌≡◌, ℕ, true, false, Bool, ◌+◌, ◌*◌, ◌≤◌, List, [], ◌∷◌, ◌++◌, length, refl, sym, ap, ◌∙◌, subst, arith}
use Rattle.std.specs.Prelude.{Err, Ok, Result, if◌then◌else◌}
use Rattle.std.proofs.lemmas.List.{append-nil}
use Rattle.std.proofs.lemmas.Nat.{mul-le}
use Rattle.fsrm_model.specs.declared.row.Capacity.{Capacity}
use Rattle.fsrm_model.specs.declared.row.Rows.{Rows}
use Rattle.fsrm_model.specs.lines.Script.{cost_from, lines, replied, script_cost}
use Rattle.fsrm_outside.specs.Members.{Members}
use Rattle.fsrm_outside.specs.Parts.{Parts}
use Rattle.fsrm_store.specs.Amortized.{bytes_since, Amortized}
use Rattle.fsrm_store.specs.Recovery.{FewLooks}
use Rattle.fsrm_store.specs.States.{state_of}
use Rattle.fsrm_store.specs.States.State.{Holds}
use Rattle.fsrm_store.specs.declared.store.Store.{Store}
use Rattle.fsrm_session.specs.Spending.{bytes_after, Eases}
use Rattle.fsrm_session.specs.Turns.{line_turns, looks_of, rows_after, script_turns, text_of, IsWithin, Turn}
use Rattle.fsrm_session.specs.Underway.{Underway}
use Rattle.fsrm_session.specs.declared.session.Session.{Session}
use Rattle.fsrm_session.specs.declared.stop.Stop.{Stop}
use Rattle.fsrm_session.proofs.Spending.{allowed, no_image, within_first}
use Rattle.fsrm_modes.specs.Ends.{EndedBy}
use Rattle.fsrm_modes.specs.Looks.{left_after, FewForScript, FewForTurns, FewToShow}
use Rattle.fsrm_modes.specs.Statuses.{of_stop, IsSettled}
use Rattle.fsrm_modes.specs.declared.status.Status.{Status}
use Rattle.fsrm_modes.specs.declared.status.Status.TheVariants.{Done, Usage, ReadFault, WriteFault, DiskFault, TooLong, Damaged, NoMemory, NoStore, AlreadyStore}
use Rattle.fsrm_modes.proofs.Spending.{left_stop}

-- ---- the looks of a script
looks_of-lines : (K : Capacity) (R : Rows) (number : ℕ) (all : List (List ℕ)) → looks_of R (line_turns K number all) ≡ cost_from K R number all
looks_of-lines K R number [] = refl
looks_of-lines K R number (line ∷ more) = omega (arith, looks_of-lines K (replied K R number line).rows (number + 1) more)

looks_of-script : (K : Capacity) (R : Rows) (script : List ℕ) → looks_of R (script_turns K script) ≡ script_cost K R script
looks_of-script K R script = looks_of-lines K R 1 (lines script)

-- the rows after turns are among those on the way
within_end : (most : ℕ) (R : Rows) (turns : List Turn) → IsWithin most R turns → length (rows_after R turns).nodes ≤ most
within_end most R [] h = h
within_end most R (turn ∷ turns) h = within_end most (turn.after R) turns h.1

-- ---- images after others
then_images : (nodes most looks mid steps bytes left rest : ℕ) → nodes ≤ most → Amortized most looks mid bytes left → Amortized nodes mid steps left rest → Amortized most looks steps bytes rest
then_images nodes most looks mid steps bytes left rest few a b = record {
  images = a.images + b.images;
  few =
      let wide : b.images * (2 * nodes) ≤ b.images * (2 * most) = mul-le b.images (2 * nodes) b.images (2 * most) (omega arith) (omega (arith, few)) in
      let sum : (a.images + b.images) * (2 * most) ≡ a.images * (2 * most) + b.images * (2 * most) = omega arith in
      omega (arith, wide, sum, a.few, b.few);
  paid = omega (arith, a.paid, b.paid);
}

-- ---- turns are not begun
pub stop_spent : (S T : Type 0) (stop : Stop) (status : Status) (now : Session) (looks steps bytes beside own more most : ℕ) → status ≡ of_stop stop → steps ≤ looks → bytes_after {T = S} (Err stop) now ≤ bytes
    → Amortized most ((looks + beside) + own) steps (bytes + more) (left_after {T = T} (Err status) now)
stop_spent S T stop status now looks steps bytes beside own more most is few paid =
    no_image most ((looks + beside) + own) steps (bytes + more) (left_after {T = T} (Err status) now) (omega (arith, few))
    (omega (arith, paid, ap (λ (s : Status). left_after {T = T} (Err s) now) is, left_stop S T stop now))

-- ---- the run ends
-- what is held is made stable
pub eased : {O : Type 0} {M : Members O} (K : Capacity) (R : Rows) (turns : List Turn) (words before : List ℕ) (session : Session) (now : O) (looks steps left : ℕ) → Underway M K R turns words before session now → Eases M session now looks steps left
    → Amortized (length session.store.engine.rows.nodes) looks steps (bytes_since session.store.journal) 0
eased K R turns words before session now looks steps left u p =
    let nodes = length session.store.engine.rows.nodes in
    let since = bytes_since session.store.journal in
    allowed nodes nodes looks looks steps since since left 0 (omega arith) (omega arith) (omega arith) (omega arith) (p.eases K R turns words before u)

-- after all turns, or some first ones
settled_spends : {O : Type 0} {M : Members O} (K : Capacity) (R : Rows) (turns done rest : List Turn) (words before : List ℕ) (session : Session) (now : O) (most looks mid steps bytes : ℕ) → turns ≡ done ++ rest → IsWithin most R turns → Underway M K R done words before session now
    → Amortized most looks mid bytes (bytes_since session.store.journal) → Amortized (length session.store.engine.rows.nodes) mid steps (bytes_since session.store.journal) 0 → Amortized most looks steps bytes 0
settled_spends K R turns done rest words before session now most looks mid steps bytes are within u a b =
    let first = within_first most R done rest (subst (λ (ts : List Turn). IsWithin most R ts) are within) in
    let few : length session.store.engine.rows.nodes ≤ most = omega (arith, within_end most R done first, ap (λ (S : Rows). length S.nodes) u.rows) in
    then_images (length session.store.engine.rows.nodes) most looks mid steps bytes (bytes_since session.store.journal) 0 few a b

pub done_spends : {O T : Type 0} {M : Members O} (ended : Result T Status) (x : T) (K : Capacity) (R : Rows) (turns : List Turn) (before : List ℕ) (session : Session) (now : O) (most looks mid steps bytes left : ℕ) → ended ≡ Ok x → Underway M K R turns (text_of R turns) before session now → IsWithin most R turns
    → Amortized most looks mid bytes (left_after ended session) → Eases M session now mid steps left → Amortized most looks steps bytes 0
done_spends {T = T} ended x K R turns before session now most looks mid steps bytes left is u within a p =
    settled_spends K R turns turns [] (text_of R turns) before session now most looks mid steps bytes (sym (append-nil turns)) within u (subst (λ (r : Result T Status). Amortized most looks mid bytes (left_after r session)) is a)
    (eased K R turns (text_of R turns) before session now mid steps left u p)

same_steps : (most looks mid steps bytes left : ℕ) → steps ≡ mid → Amortized most looks mid bytes left → Amortized most looks steps bytes left
same_steps most looks mid steps bytes left same a = subst (λ (n : ℕ). Amortized most looks n bytes left) (sym same) a

-- unless the disk or a write failed
pub ended_spends : {O : Type 0} (M : Members O) (T : Type 0) (status : Status) (K : Capacity) (R : Rows) (turns : List Turn) (before : List ℕ) (session : Session) (now : O) (most looks mid steps bytes : ℕ) → EndedBy M status K R turns before session now → IsWithin most R turns
    → Amortized most looks mid bytes (left_after {T = T} (Err status) session)
    → (IsSettled status → (C : Capacity) (S : Rows) (done : List Turn) (words early : List ℕ) → Underway M C S done words early session now → Amortized (length session.store.engine.rows.nodes) mid steps (bytes_since session.store.journal) 0)
    → ((IsSettled status → ⊥) → steps ≡ mid) → Amortized most looks steps bytes 0
ended_spends M T ReadFault K R turns before session now most looks mid steps bytes e within a close same = settled_spends K R turns e.done e.rest e.words before session now most looks mid steps bytes e.are within e.here a (close tt K R e.done e.words before e.here)
ended_spends M T TooLong K R turns before session now most looks mid steps bytes e within a close same = settled_spends K R turns e.done e.rest e.words before session now most looks mid steps bytes e.are within e.here a (close tt K R e.done e.words before e.here)
ended_spends M T NoMemory K R turns before session now most looks mid steps bytes e within a close same = settled_spends K R turns e.done e.rest e.words before session now most looks mid steps bytes e.are within e.here a (close tt K R e.done e.words before e.here)
ended_spends M T WriteFault K R turns before session now most looks mid steps bytes e within a close same = same_steps most looks mid steps bytes 0 (same (λ x. x)) a
ended_spends M T DiskFault K R turns before session now most looks mid steps bytes e within a close same = same_steps most looks mid steps bytes 0 (same (λ x. x)) a
ended_spends M T Done K R turns before session now most looks mid steps bytes e within a close same = same_steps most looks mid steps bytes 0 (same (λ x. x)) a
ended_spends M T Usage K R turns before session now most looks mid steps bytes e within a close same = same_steps most looks mid steps bytes 0 (same (λ x. x)) a
ended_spends M T (Damaged part place) K R turns before session now most looks mid steps bytes e within a close same = same_steps most looks mid steps bytes 0 (same (λ x. x)) a
ended_spends M T NoStore K R turns before session now most looks mid steps bytes e within a close same = same_steps most looks mid steps bytes 0 (same (λ x. x)) a
ended_spends M T AlreadyStore K R turns before session now most looks mid steps bytes e within a close same = same_steps most looks mid steps bytes 0 (same (λ x. x)) a

-- ---- the whole run
pub renews : (old version : Bool) (nodes most : ℕ) → old ≡ version → nodes ≤ most → (if old then 2 * nodes else 0) ≤ (if version then 2 * most else 0)
renews true true nodes most same few = omega (arith, few)
renews true false nodes most same few = absurd cc
renews false true nodes most same few = omega arith
renews false false nodes most same few = omega arith

pub few_script : (parts : Parts) (K : Capacity) (R : Rows) (script : List ℕ) (looks steps : ℕ) → FewForTurns parts R (script_turns K script) 0 looks steps → FewForScript parts K R script looks steps
few_script parts K R script looks steps h = record { opened = h.opened; opening = h.opening; few = λ ruling tail most judged has within. omega (arith, h.few ruling tail most judged has within, looks_of-script K R script) }

-- ---- a text over the rows of a store
pub fault_shown : (parts : Parts) (cost looks steps : ℕ) → FewLooks parts looks steps → FewToShow parts cost looks steps
fault_shown parts cost looks steps opening = record { opened = steps; opening = opening; few = omega arith }

pub text_few : (parts : Parts) (K : Capacity) (R : Rows) (store : Store) (cost : Rows → ℕ) (looks opened steps : ℕ) → FewLooks parts looks opened → state_of parts ≡ Holds K R → state_of parts ≡ Holds store.engine.size store.engine.rows
    → steps ≤ opened + cost store.engine.rows → FewToShow parts (cost R) looks steps
text_few parts K R store cost looks opened steps opening holds state few = record {
  opened = opened;
  opening = opening;
  few =
      let same : Holds K R ≡ Holds store.engine.size store.engine.rows = sym holds ∙ state in
      let rows : R ≡ store.engine.rows = cc in
      omega (arith, few, ap cost rows);
}
