-- How a run of disk calls goes on.
use Rattle.std.proofs.Common.{◌≡◌, ◌↔◌, ⊎_elim, ℕ, ◌+◌, ◌≤◌, None, Some, arith, refl, sym, ◌∙◌, subst}
use Rattle.std.specs.Prelude.{Option}
use Rattle.std.proofs.lemmas.Bool.{cases_lt}
use Rattle.fsrm_outside.specs.Parts.{Parts}
use Rattle.fsrm_outside.specs.Changes.{Same, Through}
use Rattle.fsrm_outside.specs.Told.{AtMostOneTick, Later}
use Rattle.fsrm_outside.specs.Moments.{EachNow, EachImage}

pub some_is : {A : Type 0} {a b : A} → Some a ≡ Some b → a ≡ b
some_is e = cc

pub later_forth : (a b : Option ℕ) (s : ℕ) → Later a b → a ≡ Some s → (t : ℕ) × (b ≡ Some t) × (s ≤ t)
later_forth None b s later told = absurd (cc)
later_forth (Some a) None s later told = absurd later
later_forth (Some a) (Some b) s later told = (b, refl, subst (λ (k : ℕ). k ≤ b) (some_is told) later)

pub later_back : (a b : Option ℕ) (t : ℕ) → Later a b → b ≡ Some t → (s : ℕ) × (a ≡ Some s) × (s ≤ t)
later_back None None t later told = absurd (cc)
later_back (Some a) None t later told = absurd (cc)
later_back None (Some b) t later told = absurd later
later_back (Some a) (Some b) t later told = (a, refl, subst (λ (k : ℕ). a ≤ k) (some_is told) later)

-- one call comes to no moment but the next
pub tick_forth : (a b : Option ℕ) (s t : ℕ) → AtMostOneTick a b → a ≡ Some s → b ≡ Some t → t ≤ s + 1
tick_forth None b s t tick at_a at_b = absurd (cc)
tick_forth (Some a) None s t tick at_a at_b = absurd (cc)
tick_forth (Some a) (Some b) s t tick at_a at_b = omega (arith, tick, some_is at_a, some_is at_b)

-- the laws of a disk that a run of calls stands on
pub record DiskLaws {D : Type 0} (clock : D → Option ℕ) (images : D → ℕ → Parts → Type 0) (by : D → D → Type 0) : Type 0 where
  pub same : (d : D) → by d d
  pub then_by : (a b c : D) → by a b → by b c → by a c
  pub later : (a b : D) → by a b → Later (clock a) (clock b)
  pub past : (a b : D) (t m : ℕ) (i : Parts) → by a b → clock a ≡ Some t → m ≤ t → images b m i ↔ images a m i

-- A run of calls from old to new: each image so far has P, and each of this moment Q.
pub record Stage {D : Type 0} (clock : D → Option ℕ) (images : D → ℕ → Parts → Type 0) (by : D → D → Type 0) (P Q : Parts → Type 0) (old new : D) : Type 0 where
  pub so_far : by old new
  pub each : EachImage clock images P old new
  pub now : EachNow clock images Q new

-- a run of calls, and another after it
pub joined : {D : Type 0} {clock : D → Option ℕ} {images : D → ℕ → Parts → Type 0} {by : D → D → Type 0} → DiskLaws clock images by → {old mid new : D} {P : Parts → Type 0}
    → by old mid → by mid new → EachImage clock images P old mid → EachImage clock images P mid new → EachImage clock images P old new
joined {D} {clock} {images} {by} laws {old} {mid} {new} {P} first second a b = record {
  each = λ s t m i at_old at_new from to left.
      let u = later_forth (clock old) (clock mid) s (laws.later old mid first) at_old in
      ⊎_elim
      (λ before. a.each s u.0 m i at_old u.1 from (omega (arith, before)) ((laws.past mid new u.0 m i second u.1 (omega (arith, before))).0 left))
      (λ after. b.each u.0 t m i u.1 at_new after to left)
      (cases_lt m u.0);
}

-- before the first call
pub started : {D : Type 0} {clock : D → Option ℕ} {images : D → ℕ → Parts → Type 0} {old : D} {P : Parts → Type 0} → EachNow clock images P old → EachImage clock images P old old
started {D} {clock} {images} {old} {P} here = record {
  each = λ s t m i at_old at_new from to left.
      let same : s ≡ t = some_is (sym at_old ∙ at_new) in
      let is : m ≡ t = omega arith in
      here.now t i at_new (subst (λ (k : ℕ). images old k i) is left);
}

-- one call, each step of which leads from Q to P
pub through : {D : Type 0} {clock : D → Option ℕ} {images : D → ℕ → Parts → Type 0} {old : D} (new : D) (P : Parts → Type 0) {Q : Parts → Type 0} (step : Parts → Parts → Type 0)
    → EachNow clock images Q old → Through clock images step old new → ((d i : Parts) → Q d → step d i → P i) → EachImage clock images P old new
through {D} {clock} {images} {old} new P {Q} step here by_step leads = record {
  each = λ s t m i at_old at_new from to left.
      let was = by_step s t m i at_old at_new from to left in
      leads was.0 i (here.now s was.0 at_old was.1) was.2;
}

-- what holds of each image of a run holds of those of its end
pub at_end : {D : Type 0} {clock : D → Option ℕ} {images : D → ℕ → Parts → Type 0} {by : D → D → Type 0} → DiskLaws clock images by → {old new : D} {P : Parts → Type 0}
    → by old new → EachImage clock images P old new → EachNow clock images P new
at_end {D} {clock} {images} {by} laws {old} {new} {P} ran a = record {
  now = λ t i at_new left.
      let s = later_back (clock old) (clock new) t (laws.later old new ran) at_new in
      a.each s.0 t t i s.1 at_new s.2 (omega arith) left;
}

pub begun : {D : Type 0} {clock : D → Option ℕ} {images : D → ℕ → Parts → Type 0} {by : D → D → Type 0} → DiskLaws clock images by → {old : D} (P : Parts → Type 0) {Q : Parts → Type 0}
    → EachNow clock images Q old → ((i : Parts) → Q i → P i) → Stage clock images by P Q old old
begun laws {old} P here weak = record {
  so_far = laws.same old;
  each = started (record { now = λ t i told left. weak i (here.now t i told left) });
  now = here;
}

-- one call more
pub stepped : {D : Type 0} {clock : D → Option ℕ} {images : D → ℕ → Parts → Type 0} {by : D → D → Type 0} → DiskLaws clock images by → {old mid : D} (new : D) {P Q : Parts → Type 0} (R : Parts → Type 0) (step : Parts → Parts → Type 0)
    → Stage clock images by P Q old mid → by mid new → Through clock images step mid new
    → ((d i : Parts) → Q d → step d i → R i) → ((i : Parts) → R i → P i) → Stage clock images by P R old new
stepped laws {old} {mid} new R step before ran by_step leads weak =
    let call = through new R step before.now by_step leads in
    record {
      so_far = laws.then_by old mid new before.so_far ran;
      each = joined laws before.so_far ran before.each (record { each = λ s t m i a b c d left. weak i (call.each s t m i a b c d left) });
      now = at_end laws ran call;
    }

-- one call more that leaves the images as they may be
pub stayed : {D : Type 0} {clock : D → Option ℕ} {images : D → ℕ → Parts → Type 0} {by : D → D → Type 0} → DiskLaws clock images by → {old mid : D} (new : D) {P Q : Parts → Type 0}
    → Stage clock images by P Q old mid → by mid new → Through clock images Same mid new → ((i : Parts) → Q i → P i) → Stage clock images by P Q old new
stayed laws new {P} {Q} before ran by_step weak = stepped laws new Q Same before ran by_step (λ d i q same. subst Q (sym same) q) weak

pub weaker : {D : Type 0} {clock : D → Option ℕ} {images : D → ℕ → Parts → Type 0} {old new : D} {P : Parts → Type 0} (Q : Parts → Type 0) → ((i : Parts) → P i → Q i) → EachImage clock images P old new → EachImage clock images Q old new
weaker Q weak a = record { each = λ s t m i at_old at_new from to left. weak i (a.each s t m i at_old at_new from to left) }

pub quiet_then : {D : Type 0} {clock : D → Option ℕ} {images : D → ℕ → Parts → Type 0} {by : D → D → Type 0} → DiskLaws clock images by → (old mid new : D)
    → by old mid → by mid new → Through clock images Same old mid → Through clock images Same mid new → Through clock images Same old new
quiet_then {D} {clock} {images} {by} laws old mid new first second a b s t m i at_old at_new from to left =
    let u = later_forth (clock old) (clock mid) s (laws.later old mid first) at_old in
    ⊎_elim
    (λ before. a s u.0 m i at_old u.1 from (omega (arith, before)) ((laws.past mid new u.0 m i second u.1 (omega (arith, before))).0 left))
    (λ after.
    let was = b u.0 t m i u.1 at_new after to left in
    let then_was = a s u.0 u.0 was.0 at_old u.1 u.2 (omega arith) was.1 in
    (then_was.0, then_was.1, was.2 ∙ then_was.2))
    (cases_lt m u.0)
