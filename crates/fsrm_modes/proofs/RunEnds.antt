-- What a run promises that does nothing, and what follows of each status.
use Rattle.std.proofs.Common.{◌≡◌, ◌≢◌, inl, inr, ℕ, ◌+◌, ◌≤◌, ◌<◌, Some, List, [], length, drop, true, false, refl, sym, ◌∙◌, ap, subst, arith, length-append}
use Rattle.std.specs.Prelude.{◌⊎◌, None, Option}
use Rattle.std.proofs.lemmas.Bool.Decides.{nat_tests}
use Rattle.std.proofs.lemmas.List.{append-nil, length-drop}
use Rattle.fsrm_model.specs.declared.row.Capacity.{Capacity}
use Rattle.fsrm_model.specs.declared.row.Rows.{Rows}
use Rattle.fsrm_model.specs.store.Capacities.{is_capacity}
use Rattle.fsrm_model.specs.store.Valid.{is_moment}
use Rattle.fsrm_model.specs.values.Limits.{latest_moment, longest_script}
use Rattle.fsrm_outside.specs.Changes.{Same, Through}
use Rattle.fsrm_outside.specs.Members.{Members}
use Rattle.fsrm_outside.specs.Parts.{Parts}
use Rattle.fsrm_outside.specs.Runs.{CrashSafe}
use Rattle.fsrm_outside.specs.declared.traits.Part.{Part}
use Rattle.fsrm_outside.proofs.Stages.{some_is}
use Rattle.fsrm_journal.specs.Formatted.{has_store}
use Rattle.fsrm_store.specs.Init.{MakesStore}
use Rattle.fsrm_store.specs.declared.fault.StoreFault.{StoreFault}
use Rattle.fsrm_store.specs.declared.fault.StoreFault.TheVariants as faults
use Rattle.fsrm_store.specs.States.{state_of}
use Rattle.fsrm_store.specs.States.State.{DamagedAt, Holds, NoState}
use Rattle.fsrm_session.specs.Turns.{Turn, text_of}
use Rattle.program_words.specs.Modes.{IsLegal}
use Rattle.program_words.specs.declared.modes.Mode.{Mode}
use Rattle.program_words.specs.declared.modes.Mode.TheVariants.{Init, Replay, Expire, Tick}
use Rattle.fsrm_modes.specs.Answers.{most_taken, Fits, FitsInit, FitsUnread, IsDoneOrNoMemory, IsQuiet, IsReadyOver, IsTooLong, Tells, TellsNew, TellsStore}
use Rattle.fsrm_modes.specs.Bytes.{TakenMost}
use Rattle.fsrm_modes.specs.Looks.{FewForTurns}
use Rattle.fsrm_modes.specs.OwnTurns.{TakesTurns}
use Rattle.fsrm_modes.specs.Promises.{Shows}
use Rattle.fsrm_modes.specs.Statuses.{KeepsDisk, KeepsReads, KeepsWrites, of_store}
use Rattle.fsrm_modes.specs.Tasks.{EndsScript}
use Rattle.fsrm_modes.specs.declared.status.Status.{Status}
use Rattle.fsrm_modes.specs.declared.status.Status.TheVariants.{Done, Usage, ReadFault, WriteFault, DiskFault, TooLong, Damaged, NoMemory, NoStore, AlreadyStore}

-- ---- nothing was done

same_moment : (o : Option ℕ) (s t m : ℕ) → o ≡ Some s → o ≡ Some t → s ≤ m → m ≤ t → m ≡ s
same_moment o s t m a b from to = let same : s ≡ t = some_is (sym a ∙ b) in omega arith

pub idle_through : {D : Type 0} (clock : D → Option ℕ) (images : D → ℕ → Parts → Type 0) (disk : D) → Through clock images Same disk disk
idle_through clock images disk s t m i a b from to left = (i, subst (λ (k : ℕ). images disk k i) (same_moment (clock disk) s t m a b from to) left, refl)

pub idle_quiet : {O : Type 0} (M : Members O) (now : O) → IsQuiet M now now
idle_quiet M now = record { left = refl; shown = refl; reads = refl; crash = idle_through M.disk_clock M.images now }

pub idle_makes : {D : Type 0} {clock : D → Option ℕ} {images : D → ℕ → Parts → Type 0} (K : Capacity) (disk : D) → MakesStore clock images K disk disk
idle_makes {D = D} {clock = clock} {images = images} K disk = go (clock disk) refl
  where
    go : (o : Option ℕ) → clock disk ≡ o → MakesStore clock images K disk disk
    go None is = record {
      begun = 0;
      closed = 0;
      quiet = λ s t m left a b from to few here. absurd (cc (is, a));
      soon = λ t told. absurd (cc (is, told));
      before = λ s t m left a b from to few here. absurd (cc (is, a));
      after = λ t m left told from to here. absurd (cc (is, told));
    }
    go (Some now) is = record {
      begun = now;
      closed = now + 1;
      quiet = λ s t m left a b from to few here. subst (λ (k : ℕ). images disk k left) (same_moment (clock disk) s t m a b from to) here;
      soon = λ t told. inl (omega arith);
      before = λ s t m left a b from to few here. (left, subst (λ (k : ℕ). images disk k left) (same_moment (clock disk) s t m a b from to) here, record { zero = refl; one = refl });
      after = λ t m left told from to here. let same : now ≡ t = some_is (sym is ∙ told) in absurd (omega arith);
    }

pub idle_safe : {O : Type 0} (M : Members O) (Covers : ℕ → Parts → Type 0) (start : ℕ) (now : O) → M.disk_clock now ≡ Some start → CrashSafe M Covers start now now
idle_safe M Covers start now told = record {
  first = start + 1;
  from = omega arith;
  soon = λ t told. inl (omega arith);
  before = λ t m i at from below to left. subst (λ (k : ℕ). M.images now k i) (same_moment (M.disk_clock now) start t m told at from to) left;
  unshown = λ t m at from below to. ap (M.shown_at now) (same_moment (M.disk_clock now) start t m told at from to);
  at_first = λ t i at to left. let same : start ≡ t = some_is (sym told ∙ at) in absurd (omega arith);
  since = λ t m i at from to left shown is. let same : start ≡ t = some_is (sym told ∙ at) in absurd (omega arith);
}

pub idle_ends : {O : Type 0} (M : Members O) (K : Capacity) (R : Rows) (script before : List ℕ) (now : O) → EndsScript M K R NoMemory script before now now
idle_ends M K R script before now = record { at_end = λ e. absurd (cc); short = λ e. absurd (cc); too_long = λ e. absurd (cc); ended = tt }

pub idle_shows : {O : Type 0} (M : Members O) (list before : List ℕ) (now : O) → M.shown now ≡ Some before → Shows M list NoMemory before now
idle_shows M list before now told = record { front = ([], told ∙ ap (λ (l : List ℕ). Some l) (sym (append-nil before)), (list, refl)); whole = λ e. absurd (cc) }

pub idle_takes : {O : Type 0} (M : Members O) (K : Capacity) (R : Rows) (turns : List Turn) (before : List ℕ) (now : O) → M.shown now ≡ Some before → TakesTurns M K R NoMemory turns before now
idle_takes M K R turns before now told = record {
  front = ([], told ∙ ap (λ (l : List ℕ). Some l) (sym (append-nil before)), (text_of R turns, refl));
  whole = λ e. absurd (cc);
  kept = λ e. absurd (cc);
}

pub idle_looks : (parts : Parts) (R : Rows) (turns : List Turn) (beside looks : ℕ) → FewForTurns parts R turns beside looks looks
idle_looks parts R turns beside looks = record { opened = looks; opening = inl refl; few = λ ruling tail most judged has within. omega arith }

pub idle_tells : (asked : Mode) (parts : Parts) → Tells asked parts NoMemory
idle_tells (Init size) parts = tt
idle_tells other parts = tt

-- ---- how much was taken

-- a status is TooLong if so much was taken
too_long_only : (status : Status) → longest_script < most_taken status → status ≡ TooLong
too_long_only TooLong h = refl
too_long_only other h = absurd (omega (arith, h))

pub is_too_long : (status : Status) (script : List ℕ) (before left : Option (List ℕ)) → TakenMost before left (most_taken status) → before ≡ Some script → IsTooLong script left → status ≡ TooLong
is_too_long status script before left most told long =
    let t = most.taken.rest script told in
    let rest : t.0 ≡ drop (longest_script + 1) script = some_is (sym t.2 ∙ long.taken) in
    too_long_only status (omega (arith, most.few, long.longer, ap length rest, length-drop (longest_script + 1) script, ap length t.1, length-append most.bytes t.0))

-- ---- counts that stayed

pub reads_stay : (status : Status) (r q : ℕ) → q ≡ r → KeepsReads status r q
reads_stay ReadFault r q same = omega arith
reads_stay other r q same = same

pub writes_stay : (status : Status) (w v : ℕ) → v ≡ w → KeepsWrites status w v
writes_stay ReadFault w v same = omega arith
writes_stay WriteFault w v same = omega arith
writes_stay TooLong w v same = omega arith
writes_stay NoMemory w v same = omega arith
writes_stay other w v same = same

pub disk_stays : (status : Status) (d e : ℕ) → e ≡ d → KeepsDisk status d e
disk_stays ReadFault d e same = omega arith
disk_stays DiskFault d e same = omega arith
disk_stays TooLong d e same = omega arith
disk_stays NoMemory d e same = omega arith
disk_stays other d e same = same

pub disk_counted : (status : Status) (d e : ℕ) → d ≤ e → (status ≡ DiskFault) ⊎ (e ≡ d) → KeepsDisk status d e
disk_counted status d e few (inl is) = subst (λ (s : Status). KeepsDisk s d e) (sym is) few
disk_counted status d e few (inr same) = disk_stays status d e same

-- ---- a run over devices that don't fail

pub new_completes : (parts : Parts) (status : Status) → TellsNew parts status → has_store parts ≡ false → (status ≡ DiskFault → ⊥) → IsDoneOrNoMemory status
new_completes parts Done t none disk = tt
new_completes parts NoMemory t none disk = tt
new_completes parts AlreadyStore t none disk = absurd (cc (t, none))
new_completes parts DiskFault t none disk = absurd (disk refl)
new_completes parts other t none disk = absurd t

none_or_rows : (K : Capacity) (R : Rows) → NoState ≡ Holds K R → ⊥
none_or_rows K R e = absurd (cc)

damaged_or_rows : (K : Capacity) (R : Rows) (part : Part) (place : ℕ) → DamagedAt part place ≡ Holds K R → ⊥
damaged_or_rows K R part place e = absurd (cc)

pub store_completes : (parts : Parts) (K : Capacity) (R : Rows) (status : Status) → TellsStore parts status → state_of parts ≡ Holds K R → (status ≡ ReadFault → ⊥) → (status ≡ WriteFault → ⊥) → (status ≡ DiskFault → ⊥) → (status ≡ TooLong → ⊥) → IsDoneOrNoMemory status
store_completes parts K R Done t is reads writes disk long = tt
store_completes parts K R NoMemory t is reads writes disk long = tt
store_completes parts K R ReadFault t is reads writes disk long = absurd (reads refl)
store_completes parts K R WriteFault t is reads writes disk long = absurd (writes refl)
store_completes parts K R DiskFault t is reads writes disk long = absurd (disk refl)
store_completes parts K R TooLong t is reads writes disk long = absurd (long refl)
store_completes parts K R NoStore t is reads writes disk long = absurd (none_or_rows K R (sym t ∙ is))
store_completes parts K R (Damaged part place) t is reads writes disk long = absurd (damaged_or_rows K R part place (sym t ∙ is))
store_completes parts K R other t is reads writes disk long = absurd t

pub not_too_long : (script : List ℕ) (left : Option (List ℕ)) (status : Status) → length script ≤ longest_script → (status ≡ TooLong → IsTooLong script left) → status ≡ TooLong → ⊥
not_too_long script left status short long is = let h = long is in absurd (omega (arith, h.longer, short))

pub completes : (asked : Mode) (parts : Parts) (status : Status) → Tells asked parts status → IsReadyOver asked parts → (status ≡ ReadFault → ⊥) → (status ≡ WriteFault → ⊥) → (status ≡ DiskFault → ⊥) → (status ≡ TooLong → ⊥) → IsDoneOrNoMemory status
completes (Init size) parts status t ready reads writes disk long = new_completes parts status t ready disk
completes other parts status t ready reads writes disk long = store_completes parts ready.0 ready.1 status t ready.2 reads writes disk long

-- ---- one mode is asked for
pub asked_for : (o : Option Mode) (a b : Mode) → o ≡ Some a → o ≡ Some b → a ≡ b
asked_for o a b p q = some_is (sym p ∙ q)

pub asked_none : (o : Option Mode) (a : Mode) → o ≡ Some a → o ≡ None → ⊥
asked_none o a p q = absurd (cc)

-- how a store is made
pub init_not : (s : Status) → (s ≡ Done) ⊎ (s ≡ AlreadyStore) ⊎ (s ≡ DiskFault) ⊎ (s ≡ NoMemory) → (s ≢ Usage) × (s ≢ ReadFault) × (s ≢ WriteFault) × (s ≢ TooLong)
init_not s (inl is) = (λ e. absurd (cc), λ e. absurd (cc), λ e. absurd (cc), λ e. absurd (cc))
init_not s (inr (inl is)) = (λ e. absurd (cc), λ e. absurd (cc), λ e. absurd (cc), λ e. absurd (cc))
init_not s (inr (inr (inl is))) = (λ e. absurd (cc), λ e. absurd (cc), λ e. absurd (cc), λ e. absurd (cc))
init_not s (inr (inr (inr is))) = (λ e. absurd (cc), λ e. absurd (cc), λ e. absurd (cc), λ e. absurd (cc))

-- ---- what each mode answers
pub init_fits : (s : Status) → (s ≡ Done) ⊎ (s ≡ AlreadyStore) ⊎ (s ≡ DiskFault) ⊎ (s ≡ NoMemory) → FitsInit s
init_fits s (inl is) = subst FitsInit (sym is) tt
init_fits s (inr (inl is)) = subst FitsInit (sym is) tt
init_fits s (inr (inr (inl is))) = subst FitsInit (sym is) tt
init_fits s (inr (inr (inr is))) = subst FitsInit (sym is) tt

pub unread_fits : (s : Status) → (s ≢ Usage) × (s ≢ AlreadyStore) × (s ≢ TooLong) × (s ≢ ReadFault) → FitsUnread s
unread_fits Usage only = absurd (only.0 refl)
unread_fits AlreadyStore only = absurd (only.1 refl)
unread_fits TooLong only = absurd (only.2 refl)
unread_fits ReadFault only = absurd (only.3 refl)
unread_fits other only = tt

pub idle_fits : (asked : Mode) → Fits asked NoMemory
idle_fits (Init size) = tt
idle_fits other = tt

-- and what the statuses of idle runs aren't
pub usage_not : (Usage ≢ TooLong) × (Usage ≢ ReadFault) × (Usage ≢ WriteFault) × (Usage ≢ DiskFault)
usage_not = (λ e. absurd (cc), λ e. absurd (cc), λ e. absurd (cc), λ e. absurd (cc))

pub full_not : (NoMemory ≢ TooLong) × (NoMemory ≢ ReadFault) × (NoMemory ≢ WriteFault) × (NoMemory ≢ DiskFault) × (NoMemory ≢ Usage) × (NoMemory ≢ Done)
full_not = (λ e. absurd (cc), λ e. absurd (cc), λ e. absurd (cc), λ e. absurd (cc), λ e. absurd (cc), λ e. absurd (cc))

-- ---- a store is made only if memory suffices
pub full_fault : (fault : StoreFault) (status : Status) → status ≡ of_store fault → status ≡ NoMemory → fault ≡ faults.NoMemory
full_fault faults.NoMemory status is full = refl
full_fault faults.NoStore status is full = absurd (cc)
full_fault faults.AlreadyStore status is full = absurd (cc)
full_fault (faults.Damaged part place) status is full = absurd (cc)
full_fault faults.DiskFault status is full = absurd (cc)

-- ---- what is asked for is in range
pub legal_size : (o : Mode) (size : Capacity) → o ≡ Init size → IsLegal o → is_capacity size ≡ true
legal_size o size is legal = subst IsLegal is legal

pub legal_group : (o : Mode) (group : ℕ) → o ≡ Replay group → IsLegal o → (1 ≤ group) × (group ≤ 1024)
legal_group o group is legal = subst IsLegal is legal

is_moment_of : (m : ℕ) → m ≤ latest_moment → is_moment m ≡ true
is_moment_of m h = grind (arith, nat_tests)

pub legal_expiry : (o : Mode) (from to : List (List ℕ)) (days : ℕ) (pattern : List ℕ) (moment : ℕ) → o ≡ Expire from to days pattern moment → IsLegal o → is_moment moment ≡ true
legal_expiry o from to days pattern moment is legal = let both = subst IsLegal is legal in is_moment_of moment both.1

pub legal_tick : (o : Mode) (moment : ℕ) → o ≡ Tick moment → IsLegal o → is_moment moment ≡ true
legal_tick o moment is legal = is_moment_of moment (subst IsLegal is legal)
