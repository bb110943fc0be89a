-- What a run promises that shows a text over the rows of a store, from what it wrote.
use Rattle.std.proofs.Common.{◌≡◌, ◌≢◌, ⊎_elim, ℕ, ◌+◌, ◌≤◌, Some, List, [], ◌++◌, length, refl, sym, ◌∙◌, ap, subst, arith}
use Rattle.std.specs.Prelude.{None, Option, Result, Ok, Err, IsErrOf}
use Rattle.std.specs.Io.KnownBytes.{append_known}
use Rattle.std.proofs.lemmas.Bool.{cases_lt}
use Rattle.std.proofs.lemmas.List.{append-nil}
use Rattle.fsrm_model.specs.declared.row.Capacity.{Capacity}
use Rattle.fsrm_model.specs.declared.row.Rows.{Rows}
use Rattle.fsrm_outside.specs.Changes.{Same, Through}
use Rattle.fsrm_outside.specs.Members.{Members}
use Rattle.fsrm_outside.specs.Shown.{ShowsFront}
use Rattle.fsrm_outside.proofs.OutsideLaws.{Laws}
use Rattle.fsrm_outside.proofs.Stages.{later_forth}
use Rattle.fsrm_store.specs.States.{state_of}
use Rattle.fsrm_store.specs.States.State.{Holds}
use Rattle.fsrm_store.specs.declared.fault.StoreFault.{StoreFault}
use Rattle.fsrm_store.specs.declared.fault.StoreFault.TheVariants as faults
use Rattle.fsrm_session.specs.Underway.{ShowsSome}
use Rattle.fsrm_modes.specs.Promises.{Begins, Shows}
use Rattle.fsrm_modes.specs.Statuses.{of_store}
use Rattle.fsrm_modes.specs.declared.status.Status.{Status}
use Rattle.fsrm_modes.specs.declared.status.Status.TheVariants.{Done, Usage, ReadFault, WriteFault, DiskFault, TooLong, NoMemory, AlreadyStore}
use Rattle.line_parts.specs.Writes.{KeepsCount}
use Rattle.line_parts.specs.declared.fault.TextFault.{TextFault}
use Rattle.line_parts.specs.declared.fault.TextFault.TheVariants as texts

same_size : (K L : Capacity) (R Q : Rows) → Holds K R ≡ Holds L Q → L ≡ K
same_size K L R Q e = cc

same_rows : (K L : Capacity) (R Q : Rows) → Holds K R ≡ Holds L Q → Q ≡ R
same_rows K L R Q e = cc

-- the store couldn't be opened
pub fault_shows : {O : Type 0} {M : Members O} (fault : StoreFault) (status : Status) (K : Capacity) (R : Rows) (list before : List ℕ) (old new : O) → Laws M → status ≡ of_store fault → M.by_disk old new → Begins M K R before old → Shows M list status before new
fault_shows {M = M} fault status K R list before old new laws is ran b =
    subst (λ (s : Status). Shows M list s before new) (sym is)
    (go fault ([], (laws.disk_keeps_sink old new ran).same_shown ∙ b.shown ∙ ap (λ (l : List ℕ). Some l) (sym (append-nil before)), (list, refl)))
  where
    go : (fault : StoreFault) → ShowsSome M list before new → Shows M list (of_store fault) before new
    go faults.NoStore s = record { front = s; whole = λ e. absurd (cc) }
    go faults.AlreadyStore s = record { front = s; whole = λ e. absurd (cc) }
    go (faults.Damaged part place) s = record { front = s; whole = λ e. absurd (cc) }
    go faults.DiskFault s = record { front = s; whole = λ e. absurd (cc) }
    go faults.NoMemory s = record { front = s; whole = λ e. absurd (cc) }

-- the rows are those of the store
text_is : (text : Capacity → Rows → List ℕ) (K L : Capacity) (R Q : Rows) → Holds K R ≡ Holds L Q → text L Q ≡ text K R
text_is text K L R Q e = ap (λ (k : Capacity). text k Q) (same_size K L R Q e) ∙ ap (text K) (same_rows K L R Q e)

pub text_shown : {O : Type 0} {M : Members O} (text : Capacity → Rows → List ℕ) (K L : Capacity) (R Q : Rows) (before : List ℕ) (old mid new : O) → Laws M → M.by_disk old mid → (b : Begins M K R before old) → state_of b.parts ≡ Holds L Q
    → M.shown new ≡ append_known (M.shown mid) (text L Q) → Shows M (text K R) Done before new
text_shown {M = M} text K L R Q before old mid new laws ran b state told =
    let all = text K R in
    let whole : M.shown new ≡ Some (before ++ all) =
    told ∙ ap (append_known (M.shown mid)) (text_is text K L R Q (sym b.holds ∙ state)) ∙ ap (λ (o : Option (List ℕ)). append_known o all) ((laws.disk_keeps_sink old mid ran).same_shown ∙ b.shown) in
    record { front = (all, whole, ([], sym (append-nil all))); whole = λ e. whole }

pub front_shown : {O : Type 0} {M : Members O} (status : Status) (text : Capacity → Rows → List ℕ) (K L : Capacity) (R Q : Rows) (before : List ℕ) (old mid new : O) → Laws M → status ≢ Done → M.by_disk old mid → (b : Begins M K R before old) → state_of b.parts ≡ Holds L Q
    → ShowsFront (M.shown mid) (M.shown new) (text L Q) → Shows M (text K R) status before new
front_shown {M = M} status text K L R Q before old mid new laws other ran b state told =
    let f = subst (ShowsFront (M.shown mid) (M.shown new)) (text_is text K L R Q (sym b.holds ∙ state)) told in
    record {
      front = (f.front, f.shown ∙ ap (λ (o : Option (List ℕ)). append_known o f.front) ((laws.disk_keeps_sink old mid ran).same_shown ∙ b.shown), f.is_front);
      whole = λ e. absurd (other e);
    }

-- the store was opened, and then only written to the sink
pub quiet_beside : {O : Type 0} {M : Members O} (old mid new : O) → Laws M → M.by_disk old mid → Through M.disk_clock M.images Same old mid → M.by_write mid new → Through M.disk_clock M.images Same old new
quiet_beside {M = M} old mid new laws first a wrote s t m i at_old at_new from to left =
    let keeps = laws.write_keeps_disk mid new wrote in
    let u = later_forth (M.disk_clock old) (M.disk_clock mid) s (laws.disk.later old mid first) at_old in
    ⊎_elim
    (λ before. a s u.0 m i at_old u.1 from (omega (arith, before)) ((keeps.past u.0 m i u.1 (omega (arith, before))).0 left))
    (λ after. a s u.0 u.0 i at_old u.1 u.2 (omega arith) ((keeps.since u.0 t m i u.1 at_new after to).0 left))
    (cases_lt m u.0)

-- ---- how the text was written
text_fault : {T : Type 0} (r : Result T TextFault) (fault is : TextFault) → r ≡ Err fault → fault ≡ is → IsErrOf r is
text_fault r fault is was same = was ∙ ap (λ (f : TextFault). Err f) same

pub write_rose : {T : Type 0} {P : Type 0} (r : Result T TextFault) (fault : TextFault) → r ≡ Err fault → fault ≡ texts.WriteFault → (IsErrOf r texts.WriteFault → P) → P
write_rose r fault was is rose = rose (text_fault r fault texts.WriteFault was is)

-- no write failed as memory ran out
pub full_kept : {T : Type 0} (r : Result T TextFault) (fault : TextFault) (before now : ℕ) → r ≡ Err fault → fault ≡ texts.NoMemory → KeepsCount r before now → now ≡ before
full_kept (Ok x) fault before now was is same = same
full_kept (Err texts.NoMemory) fault before now was is same = same
full_kept (Err texts.WriteFault) fault before now was is same = absurd (cc)

-- ---- what the statuses of such a run aren't
pub done_not : (Done ≢ Usage) × (Done ≢ AlreadyStore) × (Done ≢ TooLong) × (Done ≢ ReadFault) × (Done ≢ WriteFault) × (Done ≢ DiskFault)
done_not = (λ e. absurd (cc), λ e. absurd (cc), λ e. absurd (cc), λ e. absurd (cc), λ e. absurd (cc), λ e. absurd (cc))

pub write_not : (WriteFault ≢ Usage) × (WriteFault ≢ AlreadyStore) × (WriteFault ≢ TooLong) × (WriteFault ≢ ReadFault) × (WriteFault ≢ DiskFault) × (WriteFault ≢ Done)
write_not = (λ e. absurd (cc), λ e. absurd (cc), λ e. absurd (cc), λ e. absurd (cc), λ e. absurd (cc), λ e. absurd (cc))

pub full_not : (NoMemory ≢ Usage) × (NoMemory ≢ AlreadyStore) × (NoMemory ≢ TooLong) × (NoMemory ≢ ReadFault) × (NoMemory ≢ WriteFault) × (NoMemory ≢ DiskFault) × (NoMemory ≢ Done)
full_not = (λ e. absurd (cc), λ e. absurd (cc), λ e. absurd (cc), λ e. absurd (cc), λ e. absurd (cc), λ e. absurd (cc), λ e. absurd (cc))
