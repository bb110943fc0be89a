-- What the steps by which a store is made do.
use Rattle.std.proofs.Common.{◌≡◌, ◌≢◌, inl, inr, ⊎_elim, ℕ, ◌+◌, ◌≤◌, Bool, false, cond, List, [], ◌∷◌, ◌++◌, length, drop, length-append, refl, sym, ◌∙◌, ap, subst, arith}
use Rattle.std.specs.Prelude.{Option, Some, Result, Err, ◌||◌, slice_index}
use Rattle.std.proofs.lemmas.Bool.{cases_lt}
use Rattle.fsrm_outside.specs.Changes.{Same, Torn, Through, Written}
use Rattle.fsrm_outside.specs.Parts.{Parts}
use Rattle.fsrm_outside.specs.Told.{AtMostOneTick}
use Rattle.fsrm_outside.specs.declared.traits.Part.{Part}
use Rattle.fsrm_outside.specs.declared.traits.Part.TheVariants.{Zero, One}
use Rattle.fsrm_outside.proofs.Stages.{DiskLaws, later_forth, later_back, some_is, tick_forth}
use Rattle.fsrm_journal.specs.Formatted.{IsMade, SameButGates, NoneOrFresh, Formats}
use Rattle.fsrm_journal.specs.Halves.{head_tail, AllButGate, Beside, Shut, Until}
use Rattle.fsrm_journal.specs.Legal.{IsLegal}
use Rattle.fsrm_journal.specs.Heads.{head_of, is_open, half_fault, judged, ruling, unless_damaged}
use Rattle.fsrm_journal.specs.Opened.{judged_parts}
use Rattle.fsrm_journal.specs.declared.fault.JournalFault.{JournalFault}
use Rattle.fsrm_journal.specs.declared.fault.JournalFault.TheVariants.{NoStore}
use Rattle.fsrm_journal.specs.declared.heads.Head.{Head}
use Rattle.fsrm_journal.proofs.HeadBytes.{spelled}
use Rattle.fsrm_journal.proofs.NextLaws.{gate_at}
use Rattle.fsrm_outside.proofs.Settling.{at_clock, after_clock}
use Rattle.fsrm_journal.proofs.Turns.{ShutOrOpen, alone, fresh_is, shut_gate, shut_or_open}

-- a gate is written
pub gate_torn : (p : Part) (old new : Parts) → Torn p 0 1 old new → SameButGates old new
gate_torn Zero old new t = record { zero = t.after; one = ap (drop 1) t.other_part }
gate_torn One old new t = record { zero = ap (drop 1) t.other_part; one = t.after }

pub gates_stay : (old new : Parts) → Same old new → SameButGates old new
gates_stay old new same = record { zero = ap (λ (p : Parts). drop 1 p.zero) same; one = ap (λ (p : Parts). drop 1 p.one) same }

-- the steps of a call say less
pub through_as : {D : Type 0} (clock : D → Option ℕ) (images : D → ℕ → Parts → Type 0) (old new : D) (S T : Parts → Parts → Type 0) → ((d i : Parts) → S d i → T d i) → Through clock images S old new → Through clock images T old new
through_as clock images old new S T weak by_step s t m i at_old at_new from to left =
    let was = by_step s t m i at_old at_new from to left in
    (was.0, was.1, weak was.0 i was.2)

-- one run of gates after another
pub gates_then : {D : Type 0} {clock : D → Option ℕ} {images : D → ℕ → Parts → Type 0} {by : D → D → Type 0} → DiskLaws clock images by → (old mid new : D)
    → by old mid → by mid new → Through clock images SameButGates old mid → Through clock images SameButGates mid new → Through clock images SameButGates old new
gates_then {D} {clock} {images} {by} laws old mid new first second a b s t m i at_old at_new from to left =
    let u = later_forth (clock old) (clock mid) s (laws.later old mid first) at_old in
    ⊎_elim
    (λ before. a s u.0 m i at_old u.1 from (omega (arith, before)) ((laws.past mid new u.0 m i second u.1 (omega (arith, before))).0 left))
    (λ after.
    let was = b u.0 t m i u.1 at_new after to left in
    let then_was = a s u.0 u.0 was.0 at_old u.1 u.2 (omega arith) was.1 in
    (then_was.0, then_was.1, record { zero = was.2.zero ∙ then_was.2.zero; one = was.2.one ∙ then_was.2.one }))
    (cases_lt m u.0)

-- both gates were closed, and that is stable
pub both_shut : {D : Type 0} {reads : D → Option Parts} {clock : D → Option ℕ} {images : D → ℕ → Parts → Type 0} (parts : Parts) (new : D) → reads new ≡ Some (Written One 0 (0 ∷ []) (Written Zero 0 (0 ∷ []) parts))
    → ((t : ℕ) (i : Parts) → clock new ≡ Some t → images new t i → reads new ≡ Some i) → Beside reads clock images One (0 ∷ drop 1 parts.one) [] new
both_shut {clock = clock} {images = images} parts new told durable =
    let now = Written One 0 (0 ∷ []) (Written Zero 0 (0 ∷ []) parts) in
    let closed : 0 ≢ 1 = λ one. absurd (omega (arith, one)) in
    let shut : Shut One (0 ∷ drop 1 parts.one) now = record { same = refl; gate = 0; rest = drop 1 parts.zero; split = refl; closed = closed } in
    record {
      parts = now;
      told = told;
      same = refl;
      gate = 0;
      rest = drop 1 parts.zero;
      closed = closed;
      split = refl;
      now = λ t i at left. subst (Shut One (0 ∷ drop 1 parts.one)) (some_is (sym told ∙ durable t i at left)) shut;
    }

none_open : (a b : Bool) (r : Result Part JournalFault) → a ≡ false → b ≡ false → cond (a || b) r (Err NoStore) ≡ Err NoStore
none_open a b r p q = rw (p, q) refl

-- both gates are closed
no_store : (zero one : List ℕ) → is_open zero ≡ false → is_open one ≡ false → judged zero one ≡ Err NoStore
no_store zero one p q = none_open (is_open zero) (is_open one) (unless_damaged Zero (half_fault zero) (unless_damaged One (half_fault one) (ruling zero one))) p q

-- beside a closed gate there is none
shut_none : (rest : List ℕ) (parts : Parts) → Shut One (0 ∷ rest) parts → judged_parts parts ≡ Err NoStore
shut_none rest parts shut =
    no_store (head_of parts.zero) (head_of parts.one) (ap (λ (l : List ℕ). is_open (head_of l)) shut.split ∙ shut_gate shut.gate shut.rest shut.closed) (ap (λ (l : List ℕ). is_open (head_of l)) shut.same)

-- the half that is written rules once its gate is open
pub none_or_fresh : (head : Head) (image rest : List ℕ) (parts : Parts) → IsLegal head → head.image ≡ length image → ShutOrOpen One (0 ∷ rest) head image parts → NoneOrFresh head image parts
none_or_fresh head image rest parts legal whole (inl shut) = inl (shut_none rest parts shut)
none_or_fresh head image rest parts legal whole (inr o) =
    inr (fresh_is Zero head image o.rest parts legal whole o.split (alone One head image o.rest 0 rest parts legal o.split o.same (λ one. absurd (omega (arith, one)))))

-- the new store is there
pub made : (head : Head) (image rest : List ℕ) (was now : Parts) → IsLegal head → head.image ≡ length image → now.zero ≡ 1 ∷ (head_tail head ++ (image ++ 0 ∷ rest)) → now.one ≡ 0 ∷ drop 1 was.one → IsMade head image was now
made head image rest was now legal whole split beside =
    let front = spelled head ++ image in
    let size : length (spelled head) ≡ 48 = refl in
    let long : length front ≡ 48 + length image = omega (arith, size, length-append (spelled head) image) in
    let closed : 0 ≢ 1 = λ one. absurd (omega (arith, one)) in
    record {
      fresh = fresh_is Zero head image rest now legal whole split (alone One head image rest 0 (drop 1 was.one) now legal split beside closed);
      gate = ap (λ (l : List ℕ). slice_index l (48 + length image)) split ∙ ap (λ (k : ℕ). slice_index (front ++ 0 ∷ rest) k) (sym long) ∙ gate_at front rest 0;
      beside = beside;
    }

-- a run of at most n calls
abbrev pub AtMostTicks : {D : Type 0} → (D → Option ℕ) → ℕ → D → D → Type 0
AtMostTicks clock n old new = (s t : ℕ) → clock old ≡ Some s → clock new ≡ Some t → t ≤ s + n

-- one call more
pub ticks_then : {D : Type 0} {clock : D → Option ℕ} {images : D → ℕ → Parts → Type 0} {by : D → D → Type 0} → DiskLaws clock images by → (n : ℕ) (old mid new : D) → by old mid → AtMostTicks clock n old mid → AtMostOneTick (clock mid) (clock new) → AtMostTicks clock (n + 1) old new
ticks_then {clock = clock} laws n old mid new first few tick s t at_old at_new =
    let u = later_forth (clock old) (clock mid) s (laws.later old mid first) at_old in
    omega (arith, few s u.0 at_old u.1, tick_forth (clock mid) (clock new) u.0 t tick u.1 at_new)

-- none is written
pub formats_never : {D : Type 0} {clock : D → Option ℕ} {images : D → ℕ → Parts → Type 0} (head : Head) (image : List ℕ) {old new : D} → Through clock images Same old new → Formats clock images head image old new
unfolding after_clock
formats_never {clock = clock} {images = images} head image {old} {new} by_step =
    let same : (s t m : ℕ) (left : Parts) → clock old ≡ Some s → clock new ≡ Some t → s ≤ m → m ≤ t → images new m left → images old s left =
    λ s t m left at_old at_new from to i.
    let was = by_step s t m left at_old at_new from to i in
    subst (images old s) (sym was.2) was.1 in
    record {
      begun = after_clock (clock new);
      closed = after_clock (clock new);
      whole = after_clock (clock new);
      rest = [];
      beside = [];
      quiet = λ s t m i at_old at_new from to early left. same s t m i at_old at_new from to left;
      soon = λ t at_new. inl (omega arith);
      before = λ s t m i at_old at_new from to less left. (i, same s t m i at_old at_new from to left, gates_stay i i refl);
      shut = λ t m i at_new from to less left. absurd (omega (arith, ap after_clock at_new, from, to));
      after = λ t m i at_new from to whole left. absurd (omega (arith, ap after_clock at_new, from, to));
    }

-- up to a moment a crash leaves what it might have left at entry
quiet_until : {D : Type 0} {clock : D → Option ℕ} {images : D → ℕ → Parts → Type 0} {by : D → D → Type 0} → DiskLaws clock images by → (old mid new : D) → by old mid → by mid new → Through clock images Same old mid
    → (s t m : ℕ) (left : Parts) → clock old ≡ Some s → clock new ≡ Some t → s ≤ m → m ≤ t → m ≤ at_clock (clock mid) → images new m left → images old s left
unfolding at_clock
quiet_until {clock = clock} {images = images} laws old mid new first second by_step s t m i at_old at_new from to early left =
    let u = later_forth (clock old) (clock mid) s (laws.later old mid first) at_old in
    let within : m ≤ u.0 = omega (arith, early, ap at_clock u.1) in
    let was = by_step s u.0 m i at_old u.1 from within ((laws.past mid new u.0 m i second u.1 within).0 left) in
    subst (images old s) (sym was.2) was.1

-- the gates aren't stable yet
pub formats_before : {D : Type 0} {clock : D → Option ℕ} {images : D → ℕ → Parts → Type 0} {by : D → D → Type 0} → DiskLaws clock images by → (head : Head) (image : List ℕ) {old mid new : D}
    → by old mid → by mid new → Through clock images Same old mid → Through clock images SameButGates mid new → AtMostTicks clock 3 mid new → Formats clock images head image old new
unfolding at_clock after_clock
formats_before {clock = clock} {images = images} laws head image {old} {mid} {new} first second quietly by_step few = record {
  begun = at_clock (clock mid);
  closed = after_clock (clock new);
  whole = after_clock (clock new);
  rest = [];
  beside = [];
  quiet = quiet_until laws old mid new first second quietly;
  soon = λ t at_new.
      let u = later_back (clock mid) (clock new) t (laws.later mid new second) at_new in
      inr (omega (arith, few u.0 t u.1 at_new, ap at_clock u.1));
  before = λ s t m i at_old at_new from to less left. gates_then laws old mid new first second (through_as clock images old mid Same SameButGates gates_stay quietly) by_step s t m i at_old at_new from to left;
  shut = λ t m i at_new from to less left. absurd (omega (arith, ap after_clock at_new, from, to));
  after = λ t m i at_new from to whole left. absurd (omega (arith, ap after_clock at_new, from, to));
}

-- and then
pub formats_then : {D : Type 0} {clock : D → Option ℕ} {images : D → ℕ → Parts → Type 0} {by : D → D → Type 0} → DiskLaws clock images by → (head : Head) (image one : List ℕ) → IsLegal head → head.image ≡ length image → {old mid shut new : D}
    → by old mid → by mid shut → by shut new → Through clock images Same old mid → Through clock images SameButGates mid shut → AtMostTicks clock 3 mid shut
    → (rest : List ℕ) × Until clock images (Shut One (0 ∷ one)) (AllButGate One (0 ∷ one) head image rest) shut new → Formats clock images head image old new
unfolding at_clock
formats_then {clock = clock} {images = images} laws head image one legal is_whole {old} {mid} {shut} {new} first second third quietly by_step few u =
    let begin = laws.then_by old mid shut first second in
    let gates = gates_then laws old mid shut first second (through_as clock images old mid Same SameButGates gates_stay quietly) by_step in
    record {
      begun = at_clock (clock mid);
      closed = at_clock (clock shut);
      whole = u.1.since;
      rest = u.0;
      beside = 0 ∷ one;
      quiet = quiet_until laws old mid new first (laws.then_by mid shut new second third) quietly;
      soon = λ t at_new.
          let v = later_back (clock shut) (clock new) t (laws.later shut new third) at_new in
          let w = later_back (clock mid) (clock shut) v.0 (laws.later mid shut second) v.1 in
          inl (omega (arith, few w.0 v.0 w.1 v.1, ap at_clock w.1, ap at_clock v.1));
      before = λ s t m i at_old at_new from to less left.
          let v = later_forth (clock old) (clock shut) s (laws.later old shut begin) at_old in
          let within : m ≤ v.0 = omega (arith, less, ap at_clock v.1) in
          gates s v.0 m i at_old v.1 from within ((laws.past shut new v.0 m i third v.1 within).0 left);
      shut = λ t m i at_new from to less left.
          let v = later_back (clock shut) (clock new) t (laws.later shut new third) at_new in
          shut_none one i (u.1.before v.0 t m i v.1 at_new (omega (arith, from, ap at_clock v.1)) to less left);
      after = λ t m i at_new from to whole left.
          let v = later_back (clock shut) (clock new) t (laws.later shut new third) at_new in
          let a = u.1.after v.0 t m i v.1 at_new (omega (arith, from, ap at_clock v.1)) to whole left in
          (none_or_fresh head image one i legal is_whole (shut_or_open One (0 ∷ one) head image u.0 i a), a);
    }
