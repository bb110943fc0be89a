-- Quotas that come, change and go, with their counters.
use Rattle.std.proofs.Common.{◌≡◌, ℕ, ◌<◌, ◌≤◌, ◌==◌, Bool, true, false, cond, not, ◌||◌, ◌&&◌, ◌∷◌, inl, inr, List, [], length, Some, None, nat_lt, refl, ap, sym, ◌∙◌, subst, arith}
use Rattle.std.proofs.lemmas.Bool.Decides.{nat_tests}
use Rattle.std.proofs.lemmas.Option.{same_Some}
use Rattle.std.specs.Prelude.{map, is_some, if◌then◌else◌}
use Rattle.fsrm_model.specs.declared.row.Capacity.{Capacity}
use Rattle.fsrm_model.specs.declared.row.NodeRow.{NodeRow}
use Rattle.fsrm_model.specs.declared.row.QuotaRow.{QuotaRow}
use Rattle.fsrm_model.specs.declared.row.QuotaState.{QuotaState}
use Rattle.fsrm_model.specs.declared.row.QuotaState.TheVariants.{Complete, Disabled, Rebuilding, Incomplete}
use Rattle.fsrm_base.specs.Keyed.{row_of, has_row, is_ascending, with_row, with_change, without_row}
use Rattle.fsrm_model.specs.values.Limits.{latest_moment, most_quotas}
use Rattle.fsrm_model.specs.objects.Quota.{folder_of, counts, is_complete, is_limit, peaked}
use Rattle.fsrm_model.specs.objects.QuotaStates.{in_state}
use Rattle.fsrm_model.specs.objects.Thresholds.{are_thresholds}
use Rattle.fsrm_model.specs.nodes.Tree.{is_folder, usage}
use Rattle.fsrm_model.specs.store.Valid.{AreQuotas, is_moment}
use Rattle.fsrm_base.proofs.EditedRows.{absent_later, ascending_tail, change_absent, without_absent}
use Rattle.fsrm_base.proofs.Look.{FoundRow, found_key, found_has, has_found, changed_found, new_found}
use Rattle.fsrm_base.proofs.Order.{ascending-filter}
use Rattle.fsrm_base.proofs.TestLaws.{not_true, clash, eq_is, eq_same, lt_is}
use Rattle.quota_usage.specs.declared.change.Counter.{Counter}
use Rattle.quota_usage.specs.Counters.{counted, used_in, with_counter, without_counter}
use Rattle.fsrm_objects.specs.Tables.{Tables}
use Rattle.fsrm_engine.specs.declared.parts.Parts.{Parts}
use Rattle.fsrm_model.proofs.valid.QuotasKept.{without_found, quotas-new, quotas-change, quotas-without}
use Rattle.fsrm_parts.specs.Sums.{counter_of, sums_of}
use Rattle.fsrm_engine.specs.Machine.{IsCounted, recounted}
use Rattle.fsrm_parts.specs.Peaks.{raised}
use Rattle.fsrm_engine.proofs.tables.PeakLaws.{peak_stays, raised_is, some_settled, counted_raised}
use Rattle.fsrm_base.proofs.RowLaws.{change_same, each_found, map_same}
use Rattle.fsrm_parts.proofs.tables.SumLaws.{used_found, sums_few, sums_has, sums_with, sums_without, sums_kept, counter_found, fewer, sums_more}

-- a row that stands for the one before it in ascending rows
to_front : {X : Type 0} (key : X → ℕ) (row r : X) (rows : List X) → key r ≡ key row → is_ascending key (r ∷ rows) ≡ true → with_row key row rows ≡ row ∷ rows
to_front key row r [] k asc = refl
to_front key row r (s ∷ rows) k asc = at (nat_lt (key r) (key s)) (ap (λ n. nat_lt n (key s)) (sym k)) asc
  where
    at : (b : Bool) → nat_lt (key row) (key s) ≡ b → (b && is_ascending key (s ∷ rows)) ≡ true → with_row key row (s ∷ rows) ≡ row ∷ s ∷ rows
    at true e h = ap (λ b. cond b (row ∷ s ∷ rows) (s ∷ with_row key row rows)) e
    at false e h = cc

at_most : (n m : ℕ) → n ≡ m → m ≤ n
at_most n m h = omega arith

-- another row in the place of one is one less, and one more
pub changed_to : {X : Type 0} (key : X → ℕ) (n : ℕ) (row : X) (rows : List X) → is_ascending key rows ≡ true → key row ≡ n → has_row key n rows ≡ true → with_change key n (λ old. row) rows ≡ with_row key row (without_row key n rows)
changed_to key n row [] asc k h = cc
changed_to key n row (r ∷ rows) asc k h = at (key r == n) refl h (changed_to key n row rows (ascending_tail key r rows asc) k)
  where
    at : (b : Bool) → (key r == n) ≡ b → (b || has_row key n rows) ≡ true → (has_row key n rows ≡ true → with_change key n (λ old. row) rows ≡ with_row key row (without_row key n rows)) → cond b row r ∷ with_change key n (λ old. row) rows ≡ with_row key row (cond (not b) (r ∷ without_row key n rows) (without_row key n rows))
    at true e h f =
        let same : key r ≡ n = eq_is (key r) n e in
        let lacks = absent_later key n r rows (at_most (key r) n same) asc in
        ap (λ rs. row ∷ rs) (change_absent key n (λ old. row) rows lacks)
        ∙ (sym (to_front key row r rows (same ∙ sym k) asc) ∙ sym (ap (with_row key row) (without_absent key n rows lacks)))
    at false e h f =
        ap (λ rs. r ∷ rs) (f h)
        ∙ sym (ap (λ b. cond b (row ∷ r ∷ without_row key n rows) (r ∷ with_row key row (without_row key n rows))) (not_true _ (λ t.
        clash (has_row key n rows) h (absent_later key n r rows (before (key row) (key r) n k (lt_is (key row) (key r) t)) asc))))
      where
        before : (a b n : ℕ) → a ≡ n → a < b → n ≤ b
        before a b n k l = omega arith

-- Another quota in the place of a folder's: one that doesn't count, and one that counts where that didn't
pub sums_ended : (K : Capacity) (nodes : List NodeRow) (n : ℕ) (q : QuotaRow) (quotas : List QuotaRow) → is_ascending folder_of quotas ≡ true → q.folder ≡ n → has_row folder_of n quotas ≡ true → counts q ≡ false → sums_of K nodes (with_change folder_of n (λ old. q) quotas) ≡ without_row counted n (sums_of K nodes quotas)
sums_ended K nodes n q quotas asc k h c =
    ap (sums_of K nodes) (changed_to folder_of n q quotas asc k h)
    ∙ (sums_more K nodes q (without_row folder_of n quotas) c ∙ sums_without K nodes n quotas)

-- It does exactly where its quota counts
pub counter_is : (K : Capacity) (nodes : List NodeRow) (n : ℕ) (q : QuotaRow) (quotas : List QuotaRow) → is_ascending folder_of quotas ≡ true → row_of folder_of n quotas ≡ Some q → has_row counted n (sums_of K nodes quotas) ≡ counts q
counter_is K nodes n q quotas asc found =
    counter_found (sums_of K nodes quotas) n (used_in (sums_of K nodes quotas) n) (counts q) refl
    (ap is_some (used_found K nodes quotas n q asc found) ∙ at (counts q))
  where
    at : (b : Bool) → is_some (cond b (Some (usage K nodes q.folder)) None) ≡ b
    at true = refl
    at false = refl

pub sums_begun : (K : Capacity) (nodes : List NodeRow) (n : ℕ) (q : QuotaRow) (quotas : List QuotaRow) → is_ascending folder_of quotas ≡ true → q.folder ≡ n → has_row folder_of n quotas ≡ true → counts q ≡ true → has_row counted n (sums_of K nodes quotas) ≡ false → sums_of K nodes (with_change folder_of n (λ old. q) quotas) ≡ with_counter (sums_of K nodes quotas) n (usage K nodes n)
sums_begun K nodes n q quotas asc k h c lacks =
    ap (sums_of K nodes) (changed_to folder_of n q quotas asc k h)
    ∙ (sums_with K nodes q (without_row folder_of n quotas) c (ascending-filter folder_of (λ r. not (folder_of r == n)) quotas asc)
    ∙ (ap (with_row counted (counter_of K nodes q)) (sums_without K nodes n quotas ∙ without_absent counted n (sums_of K nodes quotas) lacks)
    ∙ ap (λ k. with_counter (sums_of K nodes quotas) k (usage K nodes k)) k))

-- what is kept when a quota comes
of_new : (quota : QuotaRow) (P : ℕ → QuotaRow → Type 0) (f : ℕ) (quotas : List QuotaRow) (r : QuotaRow) → has_row folder_of quota.folder quotas ≡ false → P quota.folder quota → ((r : QuotaRow) → row_of folder_of f quotas ≡ Some r → P f r) → row_of folder_of f (with_row folder_of quota quotas) ≡ Some r → P f r
of_new quota P f quotas r absent new old h =
    elim (new_found folder_of quota f quotas r absent h).other [
      | inl own ↦ subst (λ k. P k r) (sym own.0) (subst (P quota.folder) (sym own.1) new)
      | inr later ↦ old r later.1
    ]

pub counted_with : {level : Bool} (K : Capacity) (nodes : List NodeRow) (quotas : List QuotaRow) (counters made : List Counter) (quota : QuotaRow) → IsCounted K nodes quotas counters level → has_row folder_of quota.folder quotas ≡ false → length quotas < most_quotas → is_folder nodes quota.folder ≡ true → is_limit quota.limit ≡ true → are_thresholds quota.thresholds ≡ true → is_moment quota.peak_at ≡ true → (counts quota ≡ true → usage K nodes quota.folder ≤ quota.peak) → made ≡ sums_of K nodes (with_row folder_of quota quotas) → IsCounted K nodes (with_row folder_of quota quotas) made level
counted_with K nodes quotas counters made quota e absent room folder limit thresholds moment peak sums =
    record {
      volume = e.volume;
      legal = e.legal;
      are_quotas = quotas-new nodes quotas quota e.are_quotas absent room folder (record { limit = limit; thresholds = thresholds; moment = moment });
      sums = sums;
      peaks = λ l f r h. of_new quota (λ f r. counts r ≡ true → usage K nodes f ≤ r.peak) f quotas r absent peak (e.peaks l f) h;
    }

-- when one goes
pub counted_without : {level : Bool} (K : Capacity) (nodes : List NodeRow) (quotas : List QuotaRow) (counters made : List Counter) (n : ℕ) → IsCounted K nodes quotas counters level → made ≡ without_counter counters n → IsCounted K nodes (without_row folder_of n quotas) made level
counted_without K nodes quotas counters made n e is =
    record {
      volume = e.volume;
      legal = e.legal;
      are_quotas = quotas-without nodes quotas n e.are_quotas;
      sums = is ∙ (ap (without_row counted n) e.sums ∙ sym (sums_without K nodes n quotas));
      peaks = λ l f r h. e.peaks l f r (without_found n f quotas r h);
    }

-- and when one changes
of_changed : (n : ℕ) (c : QuotaRow → QuotaRow) (P : QuotaRow → Type 0) → ((r : QuotaRow) → (c r).folder ≡ r.folder) → (f : ℕ) (quotas : List QuotaRow) (r : QuotaRow) → ((r : QuotaRow) → row_of folder_of f quotas ≡ Some r → (f ≡ n → P (c r)) × P r) → row_of folder_of f (with_change folder_of n c quotas) ≡ Some r → P r
of_changed n c P k f quotas r old h =
    let w = changed_found folder_of n c k f quotas r h in
    subst P (sym w.is) (at (f == n) refl w.row (old w.row w.found))
  where
    at : (b : Bool) → (f == n) ≡ b → (r : QuotaRow) → (f ≡ n → P (c r)) × P r → P (cond b (c r) r)
    at true e r p = p.0 (eq_is f n e)
    at false e r p = p.1

pub counted_changed : {level : Bool} (K : Capacity) (nodes : List NodeRow) (quotas : List QuotaRow) (counters made : List Counter) (n : ℕ) (c : QuotaRow → QuotaRow) → IsCounted K nodes quotas counters level → ((r : QuotaRow) → (c r).folder ≡ r.folder) → ((r : QuotaRow) → row_of folder_of n quotas ≡ Some r → is_limit (c r).limit ≡ true) → ((r : QuotaRow) → row_of folder_of n quotas ≡ Some r → are_thresholds (c r).thresholds ≡ true) → ((r : QuotaRow) → row_of folder_of n quotas ≡ Some r → is_moment (c r).peak_at ≡ true) → (level ≡ true → (r : QuotaRow) → row_of folder_of n quotas ≡ Some r → counts (c r) ≡ true → usage K nodes n ≤ (c r).peak) → made ≡ sums_of K nodes (with_change folder_of n c quotas) → IsCounted K nodes (with_change folder_of n c quotas) made level
counted_changed K nodes quotas counters made n c e k limit thresholds moment peak sums =
    record {
      volume = e.volume;
      legal = e.legal;
      are_quotas = quotas-change nodes quotas n c e.are_quotas k (λ r found. record { limit = limit r found; thresholds = thresholds r found; moment = moment r found });
      sums = sums;
      peaks = λ l f r h. of_changed n c (λ r. counts r ≡ true → usage K nodes f ≤ r.peak) k f quotas r (λ r found. (
        λ same t. subst (λ m. usage K nodes m ≤ (c r).peak) (sym same) (peak l r (subst (λ m. row_of folder_of m quotas ≡ Some r) same found) t),
        e.peaks l f r found,
      )) h;
    }

-- a quota that is put in the place of a folder's
abbrev pub put_in : QuotaRow → QuotaRow → QuotaRow
put_in quota old = record quota { folder = old.folder }

pub put_is : (quota : QuotaRow) (quotas : List QuotaRow) → is_ascending folder_of quotas ≡ true → with_change folder_of quota.folder (λ old. quota) quotas ≡ with_change folder_of quota.folder (put_in quota) quotas
put_is quota quotas asc =
    change_same folder_of quota.folder (λ old. quota) (put_in quota) quotas asc (λ r found. ap (λ n. record quota { folder = n }) (sym (found_key folder_of quota.folder quotas r found)))

pub counted_put : {level : Bool} (K : Capacity) (nodes : List NodeRow) (quotas : List QuotaRow) (counters made : List Counter) (quota : QuotaRow) → IsCounted K nodes quotas counters level → is_limit quota.limit ≡ true → are_thresholds quota.thresholds ≡ true → is_moment quota.peak_at ≡ true → (level ≡ true → counts quota ≡ true → usage K nodes quota.folder ≤ quota.peak) → made ≡ sums_of K nodes (with_change folder_of quota.folder (λ old. quota) quotas) → IsCounted K nodes (with_change folder_of quota.folder (λ old. quota) quotas) made level
counted_put {level} K nodes quotas counters made quota e limit thresholds moment peak sums =
    let is = put_is quota quotas e.are_quotas.ascending in
    subst (λ (qs : List QuotaRow). IsCounted K nodes qs made level) (sym is)
    (counted_changed K nodes quotas counters made quota.folder (put_in quota) e (λ r. refl) (λ r found. limit) (λ r found. thresholds) (λ r found. moment) (λ l r found. peak l)
    (sums ∙ ap (sums_of K nodes) is))

-- and counts as the old one did
pub sums_held : (K : Capacity) (nodes : List NodeRow) (quotas : List QuotaRow) (quota old : QuotaRow) → is_ascending folder_of quotas ≡ true → row_of folder_of quota.folder quotas ≡ Some old → quota.state ≡ old.state → sums_of K nodes quotas ≡ sums_of K nodes (with_change folder_of quota.folder (λ old. quota) quotas)
sums_held K nodes quotas quota old asc found same =
    sym (ap (sums_of K nodes) (change_same folder_of quota.folder (λ old. quota) keep quotas asc (λ r h.
    ap (λ n. record quota { folder = n }) (sym (found_key folder_of quota.folder quotas r h))
    ∙ ap (λ s. record quota { folder = r.folder; state = s }) (same ∙ ap (λ (q : QuotaRow). q.state) (same_Some old r (sym found ∙ h)))))
    ∙ sums_kept K nodes (λ r. if folder_of r == quota.folder then keep r else r) (λ r. kept_folder (folder_of r == quota.folder) r) (λ r. kept_counts (folder_of r == quota.folder) r) quotas)
  where
    keep : QuotaRow → QuotaRow
    keep r = record quota { folder = r.folder; state = r.state }

    kept_folder : (b : Bool) (r : QuotaRow) → (cond b (keep r) r).folder ≡ r.folder
    kept_folder true r = refl
    kept_folder false r = refl

    kept_counts : (b : Bool) (r : QuotaRow) → counts (cond b (keep r) r) ≡ counts r
    kept_counts true r = refl
    kept_counts false r = refl

-- a quota in another state is another quota in its place
pub state_is : (state : QuotaState) (n : ℕ) (quotas : List QuotaRow) (quota : QuotaRow) → is_ascending folder_of quotas ≡ true → row_of folder_of n quotas ≡ Some quota → with_change folder_of n (in_state state) quotas ≡ with_change folder_of n (λ old. in_state state quota) quotas
state_is state n quotas quota asc found =
    change_same folder_of n (in_state state) (λ old. in_state state quota) quotas asc (λ r h. ap (in_state state) (same_Some r quota (sym h ∙ found)))

pub room_for : {level : Bool} (K : Capacity) (nodes : List NodeRow) (quotas : List QuotaRow) (counters : List Counter) (n : ℕ) → IsCounted K nodes quotas counters level → has_row folder_of n quotas ≡ true → has_row counted n counters ≡ false → length counters < most_quotas
room_for K nodes quotas counters n e there free =
    let lacks : has_row counted n (sums_of K nodes quotas) ≡ false = sym (ap (has_row counted n) e.sums) ∙ free in
    let same : sums_of K nodes (without_row folder_of n quotas) ≡ counters = sums_without K nodes n quotas ∙ (without_absent counted n (sums_of K nodes quotas) lacks ∙ sym e.sums) in
    omega (arith, ap length same, sums_few K nodes (without_row folder_of n quotas), fewer folder_of n quotas there, e.are_quotas.few)

-- and for that of a new one
pub room_more : {level : Bool} (K : Capacity) (nodes : List NodeRow) (quotas : List QuotaRow) (counters : List Counter) → IsCounted K nodes quotas counters level → length quotas < most_quotas → length counters < most_quotas
room_more K nodes quotas counters e h = omega (arith, ap length e.sums, sums_few K nodes quotas)

pub free_of : {level : Bool} (K : Capacity) (nodes : List NodeRow) (quotas : List QuotaRow) (counters : List Counter) (n : ℕ) → IsCounted K nodes quotas counters level → has_row folder_of n quotas ≡ false → has_row counted n counters ≡ false
free_of K nodes quotas counters n e absent =
    not_true _ (λ t. clash _ (sums_has K nodes n quotas (ap (has_row counted n) (sym e.sums) ∙ t)) absent)

pub has_counter : {level : Bool} (K : Capacity) (nodes : List NodeRow) (quotas : List QuotaRow) (counters : List Counter) (n : ℕ) (q : QuotaRow) → IsCounted K nodes quotas counters level → row_of folder_of n quotas ≡ Some q → has_row counted n counters ≡ counts q
has_counter K nodes quotas counters n q e found = ap (has_row counted n) e.sums ∙ counter_is K nodes n q quotas e.are_quotas.ascending found

-- what a count becomes
pub record Recounted (counters made : List Counter) (n : ℕ) (counting : Bool) : Type 0 where
  pub ended : counting ≡ false → made ≡ without_counter counters n
  pub begun : counting ≡ true → has_row counted n counters ≡ false → made ≡ with_counter counters n 0
  pub held : counting ≡ true → has_row counted n counters ≡ true → made ≡ counters

-- A quota was put on a folder
pub added : {level : Bool} (K : Capacity) (nodes : List NodeRow) (quotas set : List QuotaRow) (counters made : List Counter) (quota : QuotaRow) (counting : Bool) → IsCounted K nodes quotas counters level → has_row folder_of quota.folder quotas ≡ false → length quotas < most_quotas → is_folder nodes quota.folder ≡ true → is_limit quota.limit ≡ true → are_thresholds quota.thresholds ≡ true → is_moment quota.peak_at ≡ true → (counts quota ≡ true → usage K nodes quota.folder ≡ 0) → counting ≡ counts quota → Recounted counters made quota.folder counting → set ≡ with_row folder_of quota quotas → IsCounted K nodes set made level
added {level} K nodes quotas set counters made quota counting e absent room folder limit thresholds moment nothing c m s =
    subst (λ (qs : List QuotaRow). IsCounted K nodes qs made level) (sym s)
    (counted_with K nodes quotas counters made quota e absent room folder limit thresholds moment (λ t. small (usage K nodes quota.folder) quota.peak (nothing t)) (sums counting c m))
  where
    small : (u p : ℕ) → u ≡ 0 → u ≤ p
    small u p h = omega arith

    free : has_row counted quota.folder counters ≡ false
    free = free_of K nodes quotas counters quota.folder e absent

    sums : (b : Bool) → b ≡ counts quota → Recounted counters made quota.folder b → made ≡ sums_of K nodes (with_row folder_of quota quotas)
    sums true h m =
        m.begun refl free
        ∙ (ap (λ cs. with_counter cs quota.folder 0) e.sums
        ∙ (ap (with_counter (sums_of K nodes quotas) quota.folder) (sym (nothing (sym h)))
        ∙ sym (sums_with K nodes quota quotas (sym h) e.are_quotas.ascending)))
    sums false h m = m.ended refl ∙ (without_absent counted quota.folder counters free ∙ (e.sums ∙ sym (sums_more K nodes quota quotas (sym h))))

-- Another one was put in its place: its counter ends, begins, or stays
pub put_ended : {level : Bool} (K : Capacity) (nodes : List NodeRow) (quotas : List QuotaRow) (counters made : List Counter) (quota : QuotaRow) → IsCounted K nodes quotas counters level → has_row folder_of quota.folder quotas ≡ true → counts quota ≡ false → made ≡ without_counter counters quota.folder → made ≡ sums_of K nodes (with_change folder_of quota.folder (λ old. quota) quotas)
put_ended K nodes quotas counters made quota e there c m =
    m ∙ (ap (without_row counted quota.folder) e.sums ∙ sym (sums_ended K nodes quota.folder quota quotas e.are_quotas.ascending refl there c))

complete_is : (s : QuotaState) → is_complete s ≡ true → s ≡ Complete
complete_is Complete h = refl
complete_is Disabled h = cc
complete_is Rebuilding h = cc
complete_is Incomplete h = cc

pub put_sums : {level : Bool} (K : Capacity) (nodes : List NodeRow) (quotas : List QuotaRow) (counters made : List Counter) (quota old : QuotaRow) → IsCounted K nodes quotas counters level → row_of folder_of quota.folder quotas ≡ Some old → (counts old ≡ false → counts quota ≡ true → usage K nodes quota.folder ≡ 0) → Recounted counters made quota.folder (counts quota) → made ≡ sums_of K nodes (with_change folder_of quota.folder (λ old. quota) quotas)
put_sums K nodes quotas counters made quota old e found nothing m =
    at (counts quota) (counts old) refl refl
  where
    asc : is_ascending folder_of quotas ≡ true
    asc = e.are_quotas.ascending

    there : has_row folder_of quota.folder quotas ≡ true
    there = found_has folder_of quota.folder quotas old found

    counter : has_row counted quota.folder counters ≡ counts old
    counter = has_counter K nodes quotas counters quota.folder old e found

    at : (b d : Bool) → counts quota ≡ b → counts old ≡ d → made ≡ sums_of K nodes (with_change folder_of quota.folder (λ old. quota) quotas)
    at false d c was = put_ended K nodes quotas counters made quota e there c (m.ended c)
    at true false c was =
        m.begun c (counter ∙ was)
        ∙ (ap (λ cs. with_counter cs quota.folder 0) e.sums
        ∙ (ap (with_counter (sums_of K nodes quotas) quota.folder) (sym (nothing was c))
        ∙ sym (sums_begun K nodes quota.folder quota quotas asc refl there c (counter_is K nodes quota.folder old quotas asc found ∙ was))))
    at true true c was =
        m.held c (counter ∙ was)
        ∙ (e.sums ∙ sums_held K nodes quotas quota old asc found (complete_is quota.state c ∙ sym (complete_is old.state was)))

pub quota_put : {level : Bool} (K : Capacity) (nodes : List NodeRow) (quotas set : List QuotaRow) (counters made : List Counter) (quota : QuotaRow) (counting : Bool) → IsCounted K nodes quotas counters level → has_row folder_of quota.folder quotas ≡ true → is_limit quota.limit ≡ true → are_thresholds quota.thresholds ≡ true → is_moment quota.peak_at ≡ true → ((old : QuotaRow) → row_of folder_of quota.folder quotas ≡ Some old → quota.peak ≡ old.peak) → ((old : QuotaRow) → row_of folder_of quota.folder quotas ≡ Some old → counts old ≡ false → counts quota ≡ true → usage K nodes quota.folder ≡ 0) → counting ≡ counts quota → Recounted counters made quota.folder counting → set ≡ with_change folder_of quota.folder (λ old. quota) quotas → IsCounted K nodes set made level
quota_put {level} K nodes quotas set counters made quota counting e there limit thresholds moment peak nothing c m s =
    subst (λ (qs : List QuotaRow). IsCounted K nodes qs made level) (sym s)
    (counted_put K nodes quotas counters made quota e limit thresholds moment (λ l t. enough l (counts f.row) t refl)
    (put_sums K nodes quotas counters made quota f.row e f.is (nothing f.row f.is) (subst (λ b. Recounted counters made quota.folder b) c m)))
  where
    f : FoundRow (row_of folder_of quota.folder quotas)
    f = has_found folder_of quota.folder quotas there

    small : (u p : ℕ) → u ≡ 0 → u ≤ p
    small u p h = omega arith

    enough : level ≡ true → (b : Bool) → counts quota ≡ true → counts f.row ≡ b → usage K nodes quota.folder ≤ quota.peak
    enough l true t was = subst (λ p. usage K nodes quota.folder ≤ p) (sym (peak f.row f.is)) (e.peaks l quota.folder f.row f.is was)
    enough l false t was = small (usage K nodes quota.folder) quota.peak (nothing f.row f.is was t)

-- A quota that counts no longer
pub rebuilt : {level : Bool} (K : Capacity) (nodes : List NodeRow) (quotas set : List QuotaRow) (counters made : List Counter) (n : ℕ) → IsCounted K nodes quotas counters level → has_row folder_of n quotas ≡ true → made ≡ without_counter counters n → set ≡ with_change folder_of n (in_state Rebuilding) quotas → IsCounted K nodes set made level
rebuilt {level} K nodes quotas set counters made n e there m s =
    let f = has_found folder_of n quotas there in
    let quota = in_state Rebuilding f.row in
    let k : f.row.folder ≡ n = found_key folder_of n quotas f.row f.is in
    subst (λ (qs : List QuotaRow). IsCounted K nodes qs made level) (sym s)
    (counted_changed K nodes quotas counters made n (in_state Rebuilding) e (λ r. refl) (λ r found. e.are_quotas.limits n r found) (λ r found. e.are_quotas.thresholds n r found) (λ r found. e.are_quotas.moments n r found) (λ l r found c. cc)
    (m ∙ (ap (without_row counted n) e.sums
    ∙ sym (ap (sums_of K nodes) (state_is Rebuilding n quotas f.row e.are_quotas.ascending f.is) ∙ sums_ended K nodes n quota quotas e.are_quotas.ascending k there refl))))

-- A quota that counts from now on
pub completed_are : (K : Capacity) (nodes : List NodeRow) (quotas : List QuotaRow) (n : ℕ) → AreQuotas nodes quotas → AreQuotas nodes (with_change folder_of n (in_state Complete) quotas)
completed_are K nodes quotas n q =
    quotas-change nodes quotas n (in_state Complete) q (λ r. refl) (λ r found. record { limit = q.limits n r found; thresholds = q.thresholds n r found; moment = q.moments n r found })

completed_sums : {level : Bool} (K : Capacity) (nodes : List NodeRow) (quotas : List QuotaRow) (counters made : List Counter) (n used : ℕ) (q : QuotaRow) → IsCounted K nodes quotas counters level → row_of folder_of n quotas ≡ Some q → counts q ≡ false → used ≡ usage K nodes n → made ≡ with_counter counters n used → made ≡ sums_of K nodes (with_change folder_of n (in_state Complete) quotas)
completed_sums K nodes quotas counters made n used q e found c u m =
    let asc = e.are_quotas.ascending in
    m ∙ (ap (λ cs. with_counter cs n used) e.sums
    ∙ (ap (with_counter (sums_of K nodes quotas) n) u
    ∙ sym (ap (sums_of K nodes) (state_is Complete n quotas q asc found)
    ∙ sums_begun K nodes n (in_state Complete q) quotas asc (found_key folder_of n quotas q found) (found_has folder_of n quotas q found) refl (counter_is K nodes n q quotas asc found ∙ c))))

pub is_moment_of : (m : ℕ) → m ≤ latest_moment → is_moment m ≡ true
is_moment_of m h = grind (arith, nat_tests)

-- whether a quota is this folder's
abbrev pub is_on : ℕ → QuotaRow → Bool
is_on n q = folder_of q == n

-- of all quotas, if they are level, its peak alone may rise
completed_peaks : (K : Capacity) (nodes : List NodeRow) (quotas : List QuotaRow) (counters made : List Counter) (m n : ℕ) → IsCounted K nodes quotas counters true → made ≡ sums_of K nodes (with_change folder_of n (in_state Complete) quotas) → with_change folder_of n (raised made m) (with_change folder_of n (in_state Complete) quotas) ≡ map (peaked K nodes m) (with_change folder_of n (in_state Complete) quotas)
completed_peaks K nodes quotas counters made m n e sums =
    map_same (λ r. if folder_of r == n then raised made m r else r) (peaked K nodes m) after (each_found folder_of _ after asc (λ r found. at r found (folder_of r == n) refl))
  where
    after : List QuotaRow
    after = with_change folder_of n (in_state Complete) quotas

    asc : is_ascending folder_of after ≡ true
    asc = (completed_are K nodes quotas n e.are_quotas).ascending

    at : (r : QuotaRow) → row_of folder_of (folder_of r) after ≡ Some r → (b : Bool) → (folder_of r == n) ≡ b → cond b (raised made m r) r ≡ peaked K nodes m r
    at r found true t = raised_is K nodes after made m r asc sums found
    at r found false t = sym (peak_stays K nodes m r (of_changed n (in_state Complete) (λ q. counts q ≡ true → usage K nodes r.folder ≤ q.peak) (λ r. refl) (folder_of r) quotas r (λ q was. (λ same. absurd (clash _ (ap (λ k. k == n) same ∙ eq_same n) t), e.peaks refl (folder_of r) q was)) found))

-- what is kept when it counts
pub record IsCompleted (K : Capacity) (nodes : List NodeRow) (quotas set : List QuotaRow) (made : List Counter) (m n : ℕ) (level : Bool) : Type 0 where
  pub quotas_are : map (peaked K nodes m) set ≡ map (peaked K nodes m) (with_change folder_of n (in_state Complete) quotas)
  pub sums : made ≡ sums_of K nodes (with_change folder_of n (in_state Complete) quotas)
  pub engine : IsCounted K nodes set made level

pub completes : {level : Bool} (K : Capacity) (nodes : List NodeRow) (quotas in_it set : List QuotaRow) (counters made : List Counter) (m n used : ℕ) → IsCounted K nodes quotas counters level → m ≤ latest_moment → has_row folder_of n quotas ≡ true → ((q : QuotaRow) → row_of folder_of n quotas ≡ Some q → counts q ≡ false) → used ≡ usage K nodes n → made ≡ with_counter counters n used → in_it ≡ with_change folder_of n (in_state Complete) quotas → set ≡ with_change folder_of n (raised made m) in_it → IsCompleted K nodes quotas set made m n level
completes {level} K nodes quotas in_it set counters made m n used e late there uncounted u begun state raises =
    let f = has_found folder_of n quotas there in
    let after = with_change folder_of n (in_state Complete) quotas in
    let are = completed_are K nodes quotas n e.are_quotas in
    let sums = completed_sums K nodes quotas counters made n used f.row e f.is (uncounted f.row f.is) u begun in
    let is : set ≡ with_change folder_of n (raised made m) after = raises ∙ ap (with_change folder_of n (raised made m)) state in
    record {
      quotas_are = ap (map (peaked K nodes m)) is ∙ some_settled K nodes (is_on n) after made m are.ascending sums;
      sums = sums;
      engine = subst (λ (qs : List QuotaRow). IsCounted K nodes qs made level) (sym is)
          (counted_raised K nodes (is_on n) after made m e.volume e.legal are (is_moment_of m late) sums
          (λ l. completed_peaks K nodes quotas counters made m n (subst (IsCounted K nodes quotas counters) l e) sums));
    }

-- parts whose quotas and counters have changed so
pub recounted_as : (p : Parts) (tables : Tables) (counters : List Counter) (quotas : List QuotaRow) → tables ≡ record p.objects { quotas = quotas } → IsCounted p.tree.size p.tree.nodes tables.quotas counters p.level → record p { objects = tables; usage = counters } ≡ recounted p quotas
recounted_as p tables counters quotas is e =
    ap (λ (cs : List Counter). record p { objects = tables; usage = cs }) e.sums
    ∙ ap (λ (t : Tables). record p { objects = t; usage = sums_of p.tree.size p.tree.nodes t.quotas }) is
