-- A run that begins with a sync is safe if the moments since are.
use Rattle.std.proofs.Common.{◌≡◌, ◌⊎◌, ⊎_elim, inl, inr, ℕ, ◌+◌, ◌≤◌, Some, List, length, sym, ◌∙◌, ap, subst, arith}
use Rattle.std.specs.Prelude.{max}
use Rattle.std.proofs.lemmas.Bool.{cases_lt}
use Rattle.fsrm_outside.specs.Changes.{Same, Through}
use Rattle.fsrm_outside.specs.Members.{Members}
use Rattle.fsrm_outside.specs.Parts.{Parts}
use Rattle.fsrm_outside.specs.Runs.{CoversMore, CrashSafe, EachMoment, Synced}
use Rattle.fsrm_outside.specs.Settling.{Settles}
use Rattle.fsrm_outside.proofs.OutsideLaws.{Laws}
use Rattle.fsrm_outside.proofs.Stages.{later_forth, some_is}

-- a store was opened: its first call of the disk was a sync, and then it read
pub synced_by : {O : Type 0} {M : Members O} {failed : Type 0} (start : ℕ) (old now : O) → Laws M → M.by_disk old now → Settles M.reads M.disk_clock M.images failed old now → (failed → ⊥)
    → Through M.disk_clock M.images Same old now → M.reads now ≡ M.reads old → M.disk_clock old ≡ Some start → M.sink_clock old ≡ Some start → Synced M start old now
synced_by {M = M} start old now laws ran s never quiet same disk_told sink_told =
    let sink = laws.disk_keeps_sink old now ran in
    let d = later_forth (M.disk_clock old) (M.disk_clock now) start (laws.disk.later old now ran) disk_told in
    let k = later_forth (M.sink_clock old) (M.sink_clock now) start sink.later sink_told in
    let present = d.0 in
    let reached : s.since ≤ present = ⊎_elim (λ few. few) (λ fails. absurd (never fails)) (s.comes present d.1) in
    let sink_now : M.sink_clock now ≡ Some present = k.1 ∙ ap (λ (n : ℕ). Some n) (laws.one_clock now k.0 present k.1 d.1) in
    record {
      first = max s.since start;
      present = present;
      from = omega arith;
      soon = ⊎_elim (λ few. omega (arith, few)) (λ few. omega (arith, few, reached)) (s.soon start present disk_told d.1);
      come = omega (arith, reached, d.2);
      disk_told = d.1;
      sink_told = sink_now;
      before = λ m i from below left.
          let was = quiet start present m i disk_told d.1 from (omega (arith, below, reached, d.2)) left in
          subst (M.images old start) (sym was.2) was.1;
      since = λ m i from to left. sym same ∙ s.after present m i d.1 (omega (arith, from)) to left;
      unshown = λ m from to. sink.since start present m sink_told sink_now from to;
    }

covers_first : (Covers : ℕ → Parts → Type 0) (p i : Parts) (was now shown : ℕ) → Covers 0 p → i ≡ p → now ≡ was → now ≡ was + shown → Covers shown i
covers_first Covers p i was now shown covers one same is = subst (λ (n : ℕ). Covers n i) (omega (arith, same, is)) (subst (Covers 0) (sym one) covers)

-- the run ended at once, whether or not the sync did its work
pub safe_early : {O : Type 0} {M : Members O} {failed : Type 0} (Covers : ℕ → Parts → Type 0) (p : Parts) (start : ℕ) (old now : O) → Laws M → M.by_disk old now → Settles M.reads M.disk_clock M.images failed old now
    → Through M.disk_clock M.images Same old now → M.reads now ≡ M.reads old → M.reads old ≡ Some p → Covers 0 p → M.disk_clock old ≡ Some start → M.sink_clock old ≡ Some start → CrashSafe M Covers start old now
safe_early {M = M} Covers p start old now laws ran s quiet same reads covers disk_told sink_told =
    let sink = laws.disk_keeps_sink old now ran in
    let k = later_forth (M.sink_clock old) (M.sink_clock now) start sink.later sink_told in
    record {
      first = max s.since start;
      from = omega arith;
      soon = λ t told. ⊎_elim (λ few. inl (omega (arith, few))) (λ few. inr few) (s.soon start t disk_told told);
      before = λ t m i told from below to left.
          let was = quiet start t m i disk_told told from to left in
          subst (M.images old start) (sym was.2) was.1;
      unshown = λ t m told from below to.
          let told_sink : M.sink_clock now ≡ Some t = k.1 ∙ ap (λ (n : ℕ). Some n) (laws.one_clock now k.0 t k.1 told) in
          sink.since start t m sink_told told_sink from to;
      at_first = λ t i told to left. sym same ∙ s.after t (max s.since start) i told (omega arith) to left;
      since = λ t m i told from to left shown is.
          let told_sink : M.sink_clock now ≡ Some t = k.1 ∙ ap (λ (n : ℕ). Some n) (laws.one_clock now k.0 t k.1 told) in
          let one : i ≡ p = some_is (sym (s.after t m i told (omega (arith, from)) to left) ∙ (same ∙ reads)) in
          covers_first Covers p i (length (M.shown_at old start)) (length (M.shown_at now m)) shown covers one (ap (λ (l : List ℕ). length l) (sink.since start t m sink_told told_sink (omega (arith, from)) to)) is;
    }

-- what is known of the moments up to the first sync, and of those since
pub safe_since : {O : Type 0} {M : Members O} (Covers : ℕ → Parts → Type 0) (p : Parts) (start : ℕ) (old now new : O) → Laws M → Synced M start old now → M.reads old ≡ Some p → Covers 0 p
    → EachMoment M (CoversMore Covers (length (M.shown_at old start))) now new → CrashSafe M Covers start old new
safe_since {M = M} Covers p start old now new laws h reads covers e =
    let k = later_forth (M.sink_clock now) (M.sink_clock new) h.present e.sink_later h.sink_told in
    record {
      first = h.first;
      from = h.from;
      soon = λ t told. inl h.soon;
      before = λ t m i told from below to left. h.before m i from below (e.images_past h.present m i h.disk_told (omega (arith, below, h.come)) left);
      unshown = λ t m told from below to. e.shown_past h.present m h.sink_told (omega (arith, below, h.come)) ∙ h.unshown m from (omega (arith, below, h.come));
      at_first = λ t i told to left. h.since h.first i (omega arith) h.come (e.images_past h.present h.first i h.disk_told h.come left);
      since = λ t m i told from to left shown is.
          let same : k.0 ≡ t = laws.one_clock new k.0 t k.1 told in
          let sink_told : M.sink_clock new ≡ Some t = k.1 ∙ ap (λ (n : ℕ). Some n) same in
          ⊎_elim
          (λ earlier.
          let few : m ≤ h.present = omega (arith, earlier) in
          let one : i ≡ p = some_is (sym (h.since m i from few (e.images_past h.present m i h.disk_told few left)) ∙ reads) in
          covers_first Covers p i (length (M.shown_at old start)) (length (M.shown_at new m)) shown covers one
          (ap (λ (l : List ℕ). length l) (e.shown_past h.present m h.sink_told few ∙ h.unshown m (omega (arith, from, h.from)) few)) is)
          (λ later. e.each h.present t m i h.disk_told h.sink_told told sink_told later to left shown is)
          (cases_lt m h.present);
    }
