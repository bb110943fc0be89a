-- What calls of a disk make of the half that doesn't rule.
use Rattle.std.proofs.Common.{◌≡◌, ◌≢◌, inl, inr, ℕ, ◌+◌, ◌-◌, ◌^◌, ◌≤◌, ◌<◌, true, false, Some, List, [], ◌∷◌, ◌++◌, length, drop, refl, sym, ◌∙◌, ap, subst, arith, append_assoc}
use Rattle.std.specs.Prelude.{Option, Ok}
use Rattle.fsrm_outside.specs.Changes.{Same, Torn, Through, Written, over}
use Rattle.fsrm_outside.specs.Moments.{EachImage, EachNow}
use Rattle.fsrm_outside.specs.Parts.{Parts, part_of, other}
use Rattle.fsrm_outside.specs.declared.traits.Part.{Part}
use Rattle.fsrm_outside.proofs.Stages.{DiskLaws, Stage, begun, stepped, joined, through, at_end, some_is}
use Rattle.fsrm_journal.specs.Heads.{head_of, is_open, generation_at}
use Rattle.fsrm_journal.specs.Halves.{head_tail, AllButGate, Beside, Certain, Follows, OpenBeside, Ruled, Shut, Stays, StaysOrFresh}
use Rattle.fsrm_journal.specs.Opened.{judged_parts}
use Rattle.fsrm_journal.specs.declared.heads.Head.{Head}
use Rattle.fsrm_journal.proofs.Files.{over_at, written_here, written_there}
use Rattle.fsrm_journal.proofs.Turns.{back, rules_wins, has_gate, gate_shut, shut_gate, closing, shut_torn, opening_whole, both_open, new_rules, alone, retiring}

-- parts that a crash leaves
pub always : {D : Type 0} {reads : D → Option Parts} {clock : D → Option ℕ} {images : D → ℕ → Parts → Type 0} {parts : Parts} {disk : D} (P : Parts → Type 0) → Certain reads clock images parts disk → P parts → EachNow clock images P disk
always P certain here = record { now = λ t i told left. subst P (sym (certain.only t i told left)) here }

-- after a write and a sync
pub certain_now : {D : Type 0} {reads : D → Option Parts} {clock : D → Option ℕ} {images : D → ℕ → Parts → Type 0} (parts : Parts) (disk : D) → reads disk ≡ Some parts
    → ((t : ℕ) (i : Parts) → clock disk ≡ Some t → images disk t i → reads disk ≡ Some i) → Certain reads clock images parts disk
certain_now parts disk told durable = record { told = told; only = λ t i at left. some_is (sym (durable t i at left) ∙ told) }

-- the gate is closed already
pub closed_before : {D : Type 0} {reads : D → Option Parts} {clock : D → Option ℕ} {images : D → ℕ → Parts → Type 0} {parts : Parts} {disk : D} (r : Part) → Certain reads clock images parts disk → judged_parts parts ≡ Ok r
    → is_open (head_of (part_of (other r) parts)) ≡ false → Beside reads clock images r (part_of r parts) [] disk
closed_before {parts = parts} r certain rules shut =
    let g = has_gate (part_of (other r) parts) (rules_wins r parts rules).beside in
    let closed = gate_shut g.0 g.1 (ap (λ (l : List ℕ). is_open (head_of l)) (sym g.2) ∙ shut) in
    record {
      parts = parts;
      told = certain.told;
      same = refl;
      gate = g.0;
      rest = g.1;
      closed = closed;
      split = g.2;
      now = (always (Shut r (part_of r parts)) certain (record { same = refl; gate = g.0; rest = g.1; split = g.2; closed = closed })).now;
    }

-- it is written
pub closes : {D : Type 0} {reads : D → Option Parts} {clock : D → Option ℕ} {images : D → ℕ → Parts → Type 0} {by : D → D → Type 0} {parts : Parts} {disk : D} → DiskLaws clock images by → (r o : Part) → o ≡ other r → Certain reads clock images parts disk
    → judged_parts parts ≡ Ok r → is_open (head_of (part_of (other r) parts)) ≡ true → (new : D) → by disk new → Through clock images (Torn o 0 1) disk new
    → Stage clock images by (Stays r (part_of r parts)) (Stays r (part_of r parts)) disk new
closes {parts = parts} laws r o is certain rules opened new ran by_step =
    let P = Stays r (part_of r parts) in
    let Q : Parts → Type 0 = λ i. i ≡ parts in
    let here : P parts = record { rules = rules; same = refl } in
    let start = begun laws P {Q = Q} (record { now = certain.only }) (λ i same. subst P (sym same) here) in
    stepped laws new P (Torn o 0 1) start ran by_step (λ d i same torn. closing r o parts i is rules opened (subst (λ (x : Parts). Torn o 0 1 x i) same torn)) (λ i p. p)

pub closed_now : {D : Type 0} {reads : D → Option Parts} {clock : D → Option ℕ} {images : D → ℕ → Parts → Type 0} (parts : Parts) (r o : Part) → o ≡ other r → judged_parts parts ≡ Ok r
    → (new : D) → reads new ≡ Some (Written o 0 (0 ∷ []) parts) → ((t : ℕ) (i : Parts) → clock new ≡ Some t → images new t i → reads new ≡ Some i) → Beside reads clock images r (part_of r parts) [] new
closed_now {reads = reads} {clock = clock} {images = images} parts r o is rules new told durable =
    let g = has_gate (part_of (other r) parts) (rules_wins r parts rules).beside in
    let p = Written (other r) 0 (0 ∷ []) parts in
    let certain : Certain reads clock images p new = certain_now p new (told ∙ ap (λ (x : Part). Some (Written x 0 (0 ∷ []) parts)) is) durable in
    let same : part_of r p ≡ part_of r parts = sym (back r p) ∙ written_there (other r) 0 (0 ∷ []) parts ∙ back r parts in
    let split : part_of (other r) p ≡ 0 ∷ g.1 = written_here (other r) 0 (0 ∷ []) parts ∙ ap (over 0 (0 ∷ [])) g.2 in
    let closed : 0 ≢ 1 = λ one. absurd (omega (arith, one)) in
    record {
      parts = p;
      told = certain.told;
      same = same;
      gate = 0;
      rest = g.1;
      closed = closed;
      split = split;
      now = (always (Shut r (part_of r parts)) certain (record { same = same; gate = 0; rest = g.1; split = split; closed = closed })).now;
    }

-- bytes are written after the closed gate
pub writes_beside : {D : Type 0} {reads : D → Option Parts} {clock : D → Option ℕ} {images : D → ℕ → Parts → Type 0} {half front : List ℕ} {disk : D} (r o : Part) (place n : ℕ) → o ≡ other r → 1 ≤ place
    → Beside reads clock images r half front disk → (new : D) → Through clock images (Torn o place n) disk new → EachImage clock images (Shut r half) disk new
writes_beside {half = half} r o place n is after b new by_step =
    through new (Shut r half) {Q = Shut r half} (Torn o place n) (record { now = b.now }) by_step (λ d i s torn. shut_torn r o half place n d i is after s torn)

pub wrote_beside : {D : Type 0} {reads : D → Option Parts} {clock : D → Option ℕ} {images : D → ℕ → Parts → Type 0} {by : D → D → Type 0} {half front : List ℕ} {disk : D} → DiskLaws clock images by → (r o : Part) (place : ℕ) (bytes : List ℕ) → o ≡ other r
    → place ≡ 1 + length front → (b : Beside reads clock images r half front disk) → (new : D) → by disk new → Through clock images (Torn o place (length bytes)) disk new → reads new ≡ Some (Written o place bytes b.parts)
    → Beside reads clock images r half (front ++ bytes) new
wrote_beside {half = half} {front = front} laws r o place bytes is at b new ran by_step told =
    let p = Written (other r) place bytes b.parts in
    let each = writes_beside r o place (length bytes) is (omega (arith, at)) b new by_step in
    record {
      parts = p;
      told = told ∙ ap (λ (x : Part). Some (Written x place bytes b.parts)) is;
      same = sym (back r p) ∙ written_there (other r) place bytes b.parts ∙ back r b.parts ∙ b.same;
      gate = b.gate;
      rest = drop (length bytes) b.rest;
      closed = b.closed;
      split = written_here (other r) place bytes b.parts ∙ ap (over place bytes) b.split ∙ over_at (b.gate ∷ front) b.rest bytes place (omega (arith, at));
      now = (at_end laws ran each).now;
    }

-- the bytes after the closed gate, with the closed gate that ends the image
pub filled : (head : Head) (image rest : List ℕ) → (head_tail head ++ (image ++ 0 ∷ [])) ++ rest ≡ head_tail head ++ (image ++ 0 ∷ rest)
filled head image rest = ap (λ (l : List ℕ). head_tail head ++ l) (append_assoc image (0 ∷ []) rest)

-- they are synced, and then the gate is written
pub synced_beside : {D : Type 0} {reads : D → Option Parts} {clock : D → Option ℕ} {images : D → ℕ → Parts → Type 0} {half front : List ℕ} {disk : D} → {r : Part} → (b : Beside reads clock images r half front disk) → (new : D) → reads new ≡ reads disk
    → ((t : ℕ) (i : Parts) → clock new ≡ Some t → images new t i → reads new ≡ Some i) → Certain reads clock images b.parts new
synced_beside b new same durable = certain_now b.parts new (same ∙ b.told) durable

pub opened_now : {D : Type 0} {reads : D → Option Parts} {clock : D → Option ℕ} {images : D → ℕ → Parts → Type 0} {half : List ℕ} {disk : D} (r o : Part) (image : List ℕ) (head : Head) → o ≡ other r
    → (b : Beside reads clock images r half (head_tail head ++ (image ++ 0 ∷ [])) disk) → (new : D) → reads new ≡ Some (Written o 0 (1 ∷ []) b.parts) → ((t : ℕ) (i : Parts) → clock new ≡ Some t → images new t i → reads new ≡ Some i)
    → (parts : Parts) × Certain reads clock images parts new × OpenBeside r half head image parts
opened_now r o image head is b new told durable =
    let p = Written (other r) 0 (1 ∷ []) b.parts in (
      p,
      certain_now p new (told ∙ ap (λ (x : Part). Some (Written x 0 (1 ∷ []) b.parts)) is) durable,
      record {
        same = sym (back r p) ∙ written_there (other r) 0 (1 ∷ []) b.parts ∙ back r b.parts ∙ b.same;
        rest = b.rest;
        split = written_here (other r) 0 (1 ∷ []) b.parts ∙ ap (over 0 (1 ∷ [])) b.split ∙ ap (λ (l : List ℕ). 1 ∷ l) (filled head image b.rest);
      },
    )

-- the old half's gate stays open, and the new one rules
pub rules_by_generation : {half : List ℕ} {parts : Parts} (r : Part) (image : List ℕ) (head : Head) → Follows half head → generation_at (head_of half) < 2 ^ 64 - 1 → OpenBeside r half head image parts → Ruled r half head image true parts
rules_by_generation {half} {parts} r image head f small o = record {
  rules = new_rules r half head (image ++ 0 ∷ o.rest) parts f small o.same o.split;
  rest = o.rest;
  split = o.split;
  beside = sym (ap (λ (l : List ℕ). is_open (head_of l)) o.same ∙ f.opened);
  retired = inl (small, o.same);
}

-- it is closed
pub retires : {D : Type 0} {reads : D → Option Parts} {clock : D → Option ℕ} {images : D → ℕ → Parts → Type 0} {by : D → D → Type 0} {half : List ℕ} {parts : Parts} {disk : D} → DiskLaws clock images by → (r : Part) (image : List ℕ) (head : Head)
    → Follows half head → head.image ≡ length image → Certain reads clock images parts disk → OpenBeside r half head image parts → (new : D) → by disk new → Through clock images (Torn r 0 1) disk new
    → Stage clock images by (StaysOrFresh r half head image) (StaysOrFresh r half head image) disk new
retires {half = half} {parts = parts} laws r image head f whole certain o new ran by_step =
    let P = StaysOrFresh r half head image in
    let Q : Parts → Type 0 = λ i. i ≡ parts in
    let start = begun laws P {Q = Q} (record { now = certain.only }) (λ i same. subst P (sym same) (both_open r half head image parts f whole o)) in
    stepped laws new P (Torn r 0 1) start ran by_step (λ d i same torn. retiring r half head image parts i f whole o (subst (λ (x : Parts). Torn r 0 1 x i) same torn)) (λ i p. p)

pub retired_now : {D : Type 0} {reads : D → Option Parts} {clock : D → Option ℕ} {images : D → ℕ → Parts → Type 0} {half : List ℕ} {parts : Parts} (r : Part) (image : List ℕ) (head : Head) → Follows half head → generation_at (head_of half) ≡ 2 ^ 64 - 1 → OpenBeside r half head image parts
    → (new : D) → reads new ≡ Some (Written r 0 (0 ∷ []) parts) → ((t : ℕ) (i : Parts) → clock new ≡ Some t → images new t i → reads new ≡ Some i)
    → (now : Parts) × Certain reads clock images now new × Ruled r half head image false now
retired_now {half = half} {parts = parts} r image head f greatest o new told durable =
    let p = Written r 0 (0 ∷ []) parts in
    let g = has_gate half f.sound in
    let is : part_of r p ≡ 0 ∷ g.1 = written_here r 0 (0 ∷ []) parts ∙ ap (over 0 (0 ∷ [])) (o.same ∙ g.2) in
    let split = written_there r 0 (0 ∷ []) parts ∙ o.split in
    let closed : 0 ≢ 1 = λ one. absurd (omega (arith, one)) in (
      p,
      certain_now p new told durable,
      record {
        rules = alone r head image o.rest 0 g.1 p f.legal split is closed;
        rest = o.rest;
        split = split;
        beside = sym (ap (λ (l : List ℕ). is_open (head_of l)) is ∙ shut_gate 0 g.1 closed);
        retired = inr (greatest, is ∙ ap (λ (l : List ℕ). 0 ∷ drop 1 l) (sym g.2));
      },
    )

-- before the gate is opened it is closed
pub stays_shut : {D : Type 0} {reads : D → Option Parts} {clock : D → Option ℕ} {images : D → ℕ → Parts → Type 0} {half front : List ℕ} {disk : D} (r : Part) → Beside reads clock images r half front disk
    → (new : D) → Through clock images Same disk new → EachImage clock images (Shut r half) disk new
stays_shut {half = half} r b new by_step =
    through new (Shut r half) {Q = Shut r half} Same (record { now = b.now }) by_step (λ d i s same. subst (Shut r half) (sym same) s)

-- the gate is written, and all else is there
pub opens_whole : {D : Type 0} {reads : D → Option Parts} {clock : D → Option ℕ} {images : D → ℕ → Parts → Type 0} {half : List ℕ} {disk : D} → (r o : Part) (image : List ℕ) (head : Head) → o ≡ other r
    → (b : Beside reads clock images r half (head_tail head ++ (image ++ 0 ∷ [])) disk) → (mid new : D) → Certain reads clock images b.parts mid
    → Through clock images (Torn o 0 1) mid new → EachImage clock images (AllButGate r half head image b.rest) mid new
opens_whole {half = half} r o image head is b mid new certain by_step =
    let Q : Parts → Type 0 = λ i. i ≡ b.parts in
    through new (AllButGate r half head image b.rest) {Q = Q} (Torn o 0 1) (record { now = certain.only }) by_step
    (λ d i same torn. opening_whole r o half head image b.gate b.rest b.parts i is b.same (b.split ∙ ap (λ (l : List ℕ). b.gate ∷ l) (filled head image b.rest)) (subst (λ (x : Parts). Torn o 0 1 x i) same torn))

-- a call after a run that leaves the images as they may be
pub quiet_after : {D : Type 0} {clock : D → Option ℕ} {images : D → ℕ → Parts → Type 0} {by : D → D → Type 0} → DiskLaws clock images by → {old mid new : D} {P : Parts → Type 0} → by old mid → by mid new → Through clock images Same mid new
    → EachImage clock images P old mid → EachImage clock images P old new
quiet_after laws {old} {mid} {new} {P} first second by_step each =
    joined laws first second each (through new P Same (at_end laws first each) by_step (λ d i p same. subst P (sym same) p))
