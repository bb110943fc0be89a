-- Reads leave what is stable.
use Rattle.std.proofs.Common.{◌≡◌, inl, inr, ⊎_elim, ℕ, ◌+◌, ◌≤◌, Some, sym, ◌∙◌, ap, arith}
use Rattle.std.specs.Prelude.{Option, None}
use Rattle.std.proofs.lemmas.Bool.{cases_lt}
use Rattle.fsrm_outside.specs.Changes.{Same, Through}
use Rattle.fsrm_outside.specs.Parts.{Parts}
use Rattle.fsrm_outside.specs.Settling.{Settles}
use Rattle.fsrm_outside.specs.Told.{AtMostOneTick}
use Rattle.fsrm_outside.proofs.Stages.{DiskLaws, later_back, later_forth, tick_forth}

pub still_stable : {D : Type 0} (reads : D → Option Parts) {clock : D → Option ℕ} {images : D → ℕ → Parts → Type 0} {by : D → D → Type 0} → DiskLaws clock images by → (old new : D)
    → by old new → Through clock images Same old new → reads new ≡ reads old
    → ((t : ℕ) (i : Parts) → clock old ≡ Some t → images old t i → reads old ≡ Some i)
    → (t : ℕ) (i : Parts) → clock new ≡ Some t → images new t i → reads new ≡ Some i
still_stable {D} reads {clock} {images} {by} laws old new ran same same_reads durable t i at left =
    let s = later_back (clock old) (clock new) t (laws.later old new ran) at in
    let was = same s.0 t t i s.1 at s.2 (omega arith) left in
    same_reads ∙ durable s.0 was.0 s.1 was.1 ∙ ap (λ (p : Parts). Some p) (sym was.2)

-- the moment of a clock, and the one after it
unfoldable pub at_clock : Option ℕ → ℕ
at_clock None = 0
at_clock (Some t) = t

unfoldable pub after_clock : Option ℕ → ℕ
after_clock None = 0
after_clock (Some t) = t + 1

-- the first sync failed
pub settles_never : {D : Type 0} {reads : D → Option Parts} {clock : D → Option ℕ} {images : D → ℕ → Parts → Type 0} {failed : Type 0} (old disk : D) → failed → AtMostOneTick (clock old) (clock disk) → Settles reads clock images failed old disk
unfolding after_clock
settles_never {clock = clock} old disk fails tick = record {
  since = after_clock (clock disk);
  after = λ t m i at from to left. absurd (omega (arith, ap after_clock at, from, to));
  comes = λ t at. inr fails;
  soon = λ s t at_old at. inr (tick_forth (clock old) (clock disk) s t tick at_old at);
}

-- the first sync made stable what a read gives, and then there were reads alone
pub settles_from : {D : Type 0} {reads : D → Option Parts} {clock : D → Option ℕ} {images : D → ℕ → Parts → Type 0} {by : D → D → Type 0} {failed : Type 0} → DiskLaws clock images by → (old mid new : D) → by old mid → AtMostOneTick (clock old) (clock mid)
    → by mid new → Through clock images Same mid new → reads new ≡ reads mid → ((t : ℕ) (i : Parts) → clock mid ≡ Some t → images mid t i → reads mid ≡ Some i) → Settles reads clock images failed old new
unfolding at_clock
settles_from {reads = reads} {clock = clock} laws old mid new synced tick ran same same_reads durable = record {
  since = at_clock (clock mid);
  after = λ t m i at from to left.
      let s = later_back (clock mid) (clock new) t (laws.later mid new ran) at in
      let was = same s.0 t m i s.1 at (omega (arith, from, ap at_clock s.1)) to left in
      same_reads ∙ durable s.0 was.0 s.1 was.1 ∙ ap (λ (p : Parts). Some p) (sym was.2);
  comes = λ t at.
      let s = later_back (clock mid) (clock new) t (laws.later mid new ran) at in
      inl (omega (arith, s.2, ap at_clock s.1));
  soon = λ s t at_old at.
      let u = later_forth (clock old) (clock mid) s (laws.later old mid synced) at_old in
      inl (omega (arith, ap at_clock u.1, tick_forth (clock old) (clock mid) s u.0 tick at_old u.1));
}

-- further reads leave it so
pub settles_then : {D : Type 0} {reads : D → Option Parts} {clock : D → Option ℕ} {images : D → ℕ → Parts → Type 0} {by : D → D → Type 0} {failed fails : Type 0} → DiskLaws clock images by → (old mid new : D)
    → by old mid → by mid new → Through clock images Same mid new → reads new ≡ reads mid → (failed → ⊥) → Settles reads clock images failed old mid → Settles reads clock images fails old new
settles_then {clock = clock} laws old mid new before ran same same_reads never s = record {
  since = s.since;
  after = λ t m i at from to left.
      let u = later_back (clock mid) (clock new) t (laws.later mid new ran) at in
      let reached : s.since ≤ u.0 = ⊎_elim (λ less. less) (λ fails. absurd (never fails)) (s.comes u.0 u.1) in
      ⊎_elim
      (λ less. same_reads ∙ s.after u.0 m i u.1 from (omega (arith, less)) ((laws.past mid new u.0 m i ran u.1 (omega (arith, less))).0 left))
      (λ more.
      let was = same u.0 t m i u.1 at more to left in
      same_reads ∙ s.after u.0 u.0 was.0 u.1 reached (omega arith) was.1 ∙ ap (λ (p : Parts). Some p) (sym was.2))
      (cases_lt m u.0);
  comes = λ t at.
      let u = later_back (clock mid) (clock new) t (laws.later mid new ran) at in
      inl (⊎_elim (λ less. omega (arith, less, u.2)) (λ fails. absurd (never fails)) (s.comes u.0 u.1));
  soon = λ a t at_old at.
      let u = later_back (clock mid) (clock new) t (laws.later mid new ran) at in
      let reached : s.since ≤ u.0 = ⊎_elim (λ less. less) (λ fails. absurd (never fails)) (s.comes u.0 u.1) in
      inl (⊎_elim (λ few. few) (λ early. omega (arith, early, reached)) (s.soon a u.0 at_old u.1));
}

-- a weaker word for how the call failed
pub settles_as : {D : Type 0} {reads : D → Option Parts} {clock : D → Option ℕ} {images : D → ℕ → Parts → Type 0} {failed fails : Type 0} (old disk : D) → (failed → fails) → Settles reads clock images failed old disk → Settles reads clock images fails old disk
settles_as old disk weak s = record { since = s.since; after = s.after; comes = λ t at. ⊎_elim (λ less. inl less) (λ so. inr (weak so)) (s.comes t at); soon = s.soon }
