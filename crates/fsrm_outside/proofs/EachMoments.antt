-- How each kind of call gives `EachMoment`.
use Rattle.std.proofs.Common.{◌≡◌, ⊎_elim, ℕ, ◌≤◌, Some, List, length, refl, sym, ◌∙◌, ap, subst, arith, length-append}
use Rattle.std.specs.Prelude.{Option, None}
use Rattle.std.proofs.lemmas.Bool.{cases_lt}
use Rattle.fsrm_outside.specs.Parts.{Parts}
use Rattle.fsrm_outside.specs.Members.{Members}
use Rattle.fsrm_outside.specs.Told.{Later}
use Rattle.fsrm_outside.specs.Moments.{EachImage}
use Rattle.fsrm_outside.proofs.Stages.{later_back, later_forth, some_is}
use Rattle.fsrm_outside.proofs.OutsideLaws.{Laws}
use Rattle.fsrm_outside.specs.Runs.{EachMoment}

later_same : (a : Option ℕ) → Later a a
later_same None = tt
later_same (Some a) = omega arith

later_then : (a b c : Option ℕ) → Later a b → Later b c → Later a c
later_then None None c first second = second
later_then None (Some b) c first second = absurd first
later_then (Some a) None c first second = absurd first
later_then (Some a) (Some b) None first second = second
later_then (Some a) (Some b) (Some c) first second = omega arith

pub read_moments : {O : Type 0} {M : Members O} {old : O} → Laws M → (new : O) (Q : ℕ → Parts → Type 0) → M.by_read old new
    → ((t : ℕ) (i : Parts) → M.disk_clock old ≡ Some t → M.sink_clock old ≡ Some t → M.images old t i → Q (length (M.shown_at old t)) i) → EachMoment M Q old new
read_moments {M = M} {old = old} laws new Q ran here =
    let disk = laws.read_keeps_disk old new ran in
    let sink = laws.read_keeps_sink old new ran in
    record {
      disk_later = disk.later;
      sink_later = sink.later;
      images_past = λ t m i told few left. (disk.past t m i told few).0 left;
      shown_past = λ t m told few. sink.past t m told few;
      each = λ s t m i d0 s0 d1 s1 from to left.
          subst (λ (l : List ℕ). Q (length l) i) (sym (sink.since s t m s0 s1 from to)) (here s i d0 s0 ((disk.since s t m i d0 d1 from to).0 left));
    }

pub disk_moments : {O : Type 0} {M : Members O} {old : O} {P : Parts → Type 0} → Laws M → (new : O) (Q : ℕ → Parts → Type 0) → M.by_disk old new → EachImage M.disk_clock M.images P old new
    → ((t : ℕ) (i : Parts) → M.sink_clock old ≡ Some t → P i → Q (length (M.shown_at old t)) i) → EachMoment M Q old new
disk_moments {M = M} {old = old} laws new Q ran image here =
    let sink = laws.disk_keeps_sink old new ran in
    record {
      disk_later = laws.disk.later old new ran;
      sink_later = sink.later;
      images_past = λ t m i told few left. (laws.disk.past old new t m i ran told few).0 left;
      shown_past = λ t m told few. sink.past t m told few;
      each = λ s t m i d0 s0 d1 s1 from to left.
          subst (λ (l : List ℕ). Q (length l) i) (sym (sink.since s t m s0 s1 from to)) (here s i s0 (image.each s t m i d0 d1 from to left));
    }

pub write_moments : {O : Type 0} {M : Members O} {old : O} → Laws M → (new : O) (Q : ℕ → Parts → Type 0) (shown_new : List ℕ) → M.by_write old new → M.shown new ≡ Some shown_new
    → ((t : ℕ) (i : Parts) → M.disk_clock old ≡ Some t → M.images old t i → (n : ℕ) → n ≤ length shown_new → Q n i) → EachMoment M Q old new
write_moments {M = M} {old = old} laws new Q shown_new ran told here =
    let disk = laws.write_keeps_disk old new ran in
    record {
      disk_later = disk.later;
      sink_later = laws.write_later old new ran;
      images_past = λ t m i at few left. (disk.past t m i at few).0 left;
      shown_past = λ t m at few. laws.write_past old new t m ran at few;
      each = λ s t m i d0 s0 d1 s1 from to left.
          let grows = laws.shown_grows new t m t s1 to (omega arith) in
          let end : shown_new ≡ M.shown_at new t = some_is (sym told ∙ laws.shown_now new t s1) in
          here s i d0 ((disk.since s t m i d0 d1 from to).0 left) (length (M.shown_at new m))
          (omega (arith, ap (λ (l : List ℕ). length l) end, ap (λ (l : List ℕ). length l) grows.1, length-append (M.shown_at new m) grows.0));
    }

pub then_moments : {O : Type 0} {M : Members O} {old mid new : O} {Q : ℕ → Parts → Type 0} → Laws M → EachMoment M Q old mid → EachMoment M Q mid new → EachMoment M Q old new
then_moments {M = M} {old = old} {mid = mid} {new = new} {Q = Q} laws a b = record {
  disk_later = later_then (M.disk_clock old) (M.disk_clock mid) (M.disk_clock new) a.disk_later b.disk_later;
  sink_later = later_then (M.sink_clock old) (M.sink_clock mid) (M.sink_clock new) a.sink_later b.sink_later;
  images_past = λ t m i told few left.
      let u = later_forth (M.disk_clock old) (M.disk_clock mid) t a.disk_later told in
      a.images_past t m i told few (b.images_past u.0 m i u.1 (omega (arith, u.2, few)) left);
  shown_past = λ t m told few.
      let u = later_forth (M.sink_clock old) (M.sink_clock mid) t a.sink_later told in
      b.shown_past u.0 m u.1 (omega (arith, u.2, few)) ∙ a.shown_past t m told few;
  each = λ s t m i d0 s0 d1 s1 from to left.
      let d = later_forth (M.disk_clock old) (M.disk_clock mid) s a.disk_later d0 in
      let k = later_forth (M.sink_clock old) (M.sink_clock mid) s a.sink_later s0 in
      let same : k.0 ≡ d.0 = laws.one_clock mid k.0 d.0 k.1 d.1 in
      let sink_mid : M.sink_clock mid ≡ Some d.0 = k.1 ∙ ap (λ (n : ℕ). Some n) same in
      ⊎_elim
      (λ before.
      let few : m ≤ d.0 = omega (arith, before) in
      subst (λ (l : List ℕ). Q (length l) i) (sym (b.shown_past d.0 m sink_mid few)) (a.each s d.0 m i d0 s0 d.1 sink_mid from few (b.images_past d.0 m i d.1 few left)))
      (λ after. b.each d.0 t m i d.1 sink_mid d1 s1 after to left)
      (cases_lt m d.0);
}

pub weaker_moments : {O : Type 0} {M : Members O} {old new : O} {P : ℕ → Parts → Type 0} (Q : ℕ → Parts → Type 0) → ((n : ℕ) (i : Parts) → P n i → Q n i) → EachMoment M P old new → EachMoment M Q old new
weaker_moments {M = M} Q weak a = record {
  disk_later = a.disk_later;
  sink_later = a.sink_later;
  images_past = a.images_past;
  shown_past = a.shown_past;
  each = λ s t m i d0 s0 d1 s1 from to left. weak _ i (a.each s t m i d0 s0 d1 s1 from to left);
}

-- before the first call
pub no_moments : {O : Type 0} {M : Members O} (old : O) (Q : ℕ → Parts → Type 0)
    → ((t : ℕ) (i : Parts) → M.disk_clock old ≡ Some t → M.sink_clock old ≡ Some t → M.images old t i → Q (length (M.shown_at old t)) i) → EachMoment M Q old old
no_moments {M = M} old Q here = record {
  disk_later = later_same (M.disk_clock old);
  sink_later = later_same (M.sink_clock old);
  images_past = λ t m i told few left. left;
  shown_past = λ t m told few. refl;
  each = λ s t m i d0 s0 d1 s1 from to left.
      let ends : s ≡ t = some_is (sym d0 ∙ d1) in
      let is : m ≡ s = omega arith in
      subst (λ (k : ℕ). Q (length (M.shown_at old k)) i) (sym is) (here s i d0 s0 (subst (λ (k : ℕ). M.images old k i) is left));
}

-- at the end
pub moment_now : {O : Type 0} {M : Members O} {old new : O} {Q : ℕ → Parts → Type 0} → Laws M → EachMoment M Q old new
    → (t : ℕ) (i : Parts) → M.disk_clock new ≡ Some t → M.sink_clock new ≡ Some t → M.images new t i → Q (length (M.shown_at new t)) i
moment_now {M = M} {old = old} {new = new} laws e t i disk_told sink_told left =
    let d = later_back (M.disk_clock old) (M.disk_clock new) t e.disk_later disk_told in
    let k = later_back (M.sink_clock old) (M.sink_clock new) t e.sink_later sink_told in
    let same : k.0 ≡ d.0 = laws.one_clock old k.0 d.0 k.1 d.1 in
    e.each d.0 t t i d.1 (k.1 ∙ ap (λ (n : ℕ). Some n) same) disk_told sink_told d.2 (omega arith) left
