-- What each image has up to a moment, and what since then.
use Rattle.std.proofs.Common.{⊎_elim, ℕ, ◌≤◌, arith, ap}
use Rattle.std.specs.Prelude.{Option, max}
use Rattle.std.proofs.lemmas.Bool.{cases_lt}
use Rattle.fsrm_outside.specs.Moments.{EachImage}
use Rattle.fsrm_outside.specs.Parts.{Parts}
use Rattle.fsrm_outside.proofs.Stages.{DiskLaws, later_forth}
use Rattle.fsrm_journal.specs.Halves.{Until}
use Rattle.fsrm_outside.proofs.Settling.{at_clock, after_clock}

-- the moment didn't come
pub until_never : {D : Type 0} {clock : D → Option ℕ} {images : D → ℕ → Parts → Type 0} {P : Parts → Type 0} (Q : Parts → Type 0) {old : D} (new : D) → EachImage clock images P old new → Until clock images P Q old new
unfolding after_clock
until_never {clock = clock} Q new each = record {
  since = after_clock (clock new);
  before = λ s t m i at_old at_new from to less left. each.each s t m i at_old at_new from to left;
  after = λ s t m i at_old at_new from to since left. absurd (omega (arith, ap after_clock at_new, since, to));
}

-- it is that between two runs
pub until_at : {D : Type 0} {clock : D → Option ℕ} {images : D → ℕ → Parts → Type 0} {by : D → D → Type 0} {P Q : Parts → Type 0} → DiskLaws clock images by → (old mid new : D)
    → by old mid → by mid new → EachImage clock images P old mid → EachImage clock images Q mid new → Until clock images P Q old new
unfolding at_clock
until_at {clock = clock} laws old mid new first second one two = record {
  since = at_clock (clock mid);
  before = λ s t m i at_old at_new from to less left.
      let u = later_forth (clock old) (clock mid) s (laws.later old mid first) at_old in
      let within : m ≤ u.0 = omega (arith, less, ap at_clock u.1) in
      one.each s u.0 m i at_old u.1 from within ((laws.past mid new u.0 m i second u.1 within).0 left);
  after = λ s t m i at_old at_new from to since left.
      let u = later_forth (clock old) (clock mid) s (laws.later old mid first) at_old in
      two.each u.0 t m i u.1 at_new (omega (arith, since, ap at_clock u.1)) to left;
}

-- it comes in the second run
pub until_then : {D : Type 0} {clock : D → Option ℕ} {images : D → ℕ → Parts → Type 0} {by : D → D → Type 0} {P Q : Parts → Type 0} → DiskLaws clock images by → (old mid new : D)
    → by old mid → by mid new → EachImage clock images P old mid → Until clock images P Q mid new → Until clock images P Q old new
unfolding at_clock
until_then {clock = clock} laws old mid new first second one two = record {
  since = max two.since (at_clock (clock mid));
  before = λ s t m i at_old at_new from to less left.
      let u = later_forth (clock old) (clock mid) s (laws.later old mid first) at_old in
      ⊎_elim
      (λ early. one.each s u.0 m i at_old u.1 from (omega (arith, early)) ((laws.past mid new u.0 m i second u.1 (omega (arith, early))).0 left))
      (λ late. two.before u.0 t m i u.1 at_new late to (omega (arith, less, late, ap at_clock u.1)) left)
      (cases_lt m u.0);
  after = λ s t m i at_old at_new from to since left.
      let u = later_forth (clock old) (clock mid) s (laws.later old mid first) at_old in
      two.after u.0 t m i u.1 at_new (omega (arith, since, ap at_clock u.1)) to (omega (arith, since)) left;
}

-- each image has what both lead to
pub until_each : {D : Type 0} {clock : D → Option ℕ} {images : D → ℕ → Parts → Type 0} {P Q : Parts → Type 0} {old new : D} (R : Parts → Type 0) → ((i : Parts) → P i → R i) → ((i : Parts) → Q i → R i)
    → Until clock images P Q old new → EachImage clock images R old new
until_each R first second u = record {
  each = λ s t m i at_old at_new from to left.
      ⊎_elim
      (λ less. first i (u.before s t m i at_old at_new from to less left))
      (λ more. second i (u.after s t m i at_old at_new from to more left))
      (cases_lt m u.since);
}
