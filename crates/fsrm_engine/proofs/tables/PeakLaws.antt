-- Peaks after a command that lasts, and what is then kept of counters.
use Rattle.std.proofs.Common.{◌≡◌, ℕ, ◌+◌, ◌-◌, ◌≤◌, ◌==◌, Bool, true, false, cond, ◌&&◌, List, [], ◌∷◌, Option, Some, None, nat_lt, refl, ap, sym, ◌∙◌, subst, arith}
use Rattle.std.proofs.lemmas.Bool.Decides.{nat_tests}
use Rattle.std.proofs.lemmas.List.{length-map}
use Rattle.std.proofs.lemmas.Option.{same_Some}
use Rattle.std.specs.Prelude.{map, option_map, if◌then◌else◌}
use Rattle.std.specs.Option.{option_map_or}
use Rattle.fsrm_model.specs.declared.row.Capacity.{Capacity}
use Rattle.fsrm_model.specs.declared.row.NodeRow.{NodeRow}
use Rattle.fsrm_model.specs.declared.row.QuotaRow.{QuotaRow}
use Rattle.fsrm_base.specs.Keyed.{row_of, is_ascending}
use Rattle.fsrm_model.specs.store.Capacities.{is_capacity}
use Rattle.fsrm_model.specs.objects.Quota.{folder_of, counts, is_limit, peaked}
use Rattle.fsrm_model.specs.objects.Thresholds.{are_thresholds}
use Rattle.fsrm_model.specs.nodes.Tree.{usage}
use Rattle.fsrm_model.specs.store.Valid.{IsVolume, AreQuotas, is_moment}
use Rattle.fsrm_base.proofs.Look.{find-map, found_key}
use Rattle.fsrm_base.proofs.Order.{ascending-map}
use Rattle.quota_usage.specs.declared.change.Change.{Change}
use Rattle.quota_usage.specs.declared.change.Counter.{Counter}
use Rattle.quota_usage.specs.Charge.{is_above, charged_counter}
use Rattle.quota_usage.specs.Counters.{used_in}
use Rattle.fsrm_parts.specs.Sums.{sums_of}
use Rattle.fsrm_engine.specs.Machine.{IsCounted}
use Rattle.fsrm_parts.specs.Peaks.{raised, raised_above}
use Rattle.fsrm_base.proofs.RowLaws.{each_found, map_same, map_id}
use Rattle.fsrm_parts.proofs.tables.SumLaws.{used_found, sums_kept, sums_follow}
use Rattle.fsrm_engine.proofs.operations.ChangeLaws.{Changes}
use Rattle.fsrm_parts.proofs.tables.RaiseLaws.{raised_case}

-- what a raised peak keeps
peak_case : {A : Type 0} (g : QuotaRow → A) (K : Capacity) (nodes : List NodeRow) (m : ℕ) → ((q : QuotaRow) (b : Bool) → g (cond b (record q { peak = usage K nodes q.folder; peak_at = m }) q) ≡ g q) → (q : QuotaRow) → g (peaked K nodes m q) ≡ g q
peak_case g K nodes m h q = h q (counts q && nat_lt q.peak (usage K nodes q.folder))

pub peaked_folder : (K : Capacity) (nodes : List NodeRow) (m : ℕ) (q : QuotaRow) → (peaked K nodes m q).folder ≡ q.folder
peaked_folder K nodes m q = peak_case (λ q. q.folder) K nodes m by_case q
  where
    by_case : (q : QuotaRow) (b : Bool) → (cond b (record q { peak = usage K nodes q.folder; peak_at = m }) q).folder ≡ q.folder
    by_case q true = refl
    by_case q false = refl

peaked_counts : (K : Capacity) (nodes : List NodeRow) (m : ℕ) (q : QuotaRow) → counts (peaked K nodes m q) ≡ counts q
peaked_counts K nodes m q = peak_case counts K nodes m by_case q
  where
    by_case : (q : QuotaRow) (b : Bool) → counts (cond b (record q { peak = usage K nodes q.folder; peak_at = m }) q) ≡ counts q
    by_case q true = refl
    by_case q false = refl

peaked_limit : (K : Capacity) (nodes : List NodeRow) (m : ℕ) (q : QuotaRow) → (peaked K nodes m q).limit ≡ q.limit
peaked_limit K nodes m q = peak_case (λ q. q.limit) K nodes m by_case q
  where
    by_case : (q : QuotaRow) (b : Bool) → (cond b (record q { peak = usage K nodes q.folder; peak_at = m }) q).limit ≡ q.limit
    by_case q true = refl
    by_case q false = refl

peaked_thresholds : (K : Capacity) (nodes : List NodeRow) (m : ℕ) (q : QuotaRow) → (peaked K nodes m q).thresholds ≡ q.thresholds
peaked_thresholds K nodes m q = peak_case (λ q. q.thresholds) K nodes m by_case q
  where
    by_case : (q : QuotaRow) (b : Bool) → (cond b (record q { peak = usage K nodes q.folder; peak_at = m }) q).thresholds ≡ q.thresholds
    by_case q true = refl
    by_case q false = refl

peaked_moment : (K : Capacity) (nodes : List NodeRow) (m : ℕ) (q : QuotaRow) → is_moment m ≡ true → is_moment q.peak_at ≡ true → is_moment (peaked K nodes m q).peak_at ≡ true
peaked_moment K nodes m q new old = by_case (counts q && nat_lt q.peak (usage K nodes q.folder))
  where
    by_case : (b : Bool) → is_moment (cond b (record q { peak = usage K nodes q.folder; peak_at = m }) q).peak_at ≡ true
    by_case true = new
    by_case false = old

-- no peak is below what is used
peaked_most : (K : Capacity) (nodes : List NodeRow) (m : ℕ) (q : QuotaRow) → counts q ≡ true → usage K nodes q.folder ≤ (peaked K nodes m q).peak
peaked_most K nodes m q c = at (counts q) (nat_lt q.peak (usage K nodes q.folder)) c refl
  where
    at : (b d : Bool) → b ≡ true → nat_lt q.peak (usage K nodes q.folder) ≡ d → usage K nodes q.folder ≤ (cond (b && d) (record q { peak = usage K nodes q.folder; peak_at = m }) q).peak
    at true true e l = omega arith
    at true false e l = not_less q.peak (usage K nodes q.folder) l
      where
        not_less : (x y : ℕ) → nat_lt x y ≡ false → y ≤ x
        not_less x y h = grind (arith, nat_tests)
    at false d e l = cc

-- a quota whose peak is no less stays
pub peak_stays : (K : Capacity) (nodes : List NodeRow) (m : ℕ) (q : QuotaRow) → (counts q ≡ true → usage K nodes q.folder ≤ q.peak) → peaked K nodes m q ≡ q
peak_stays K nodes m q h = at (counts q) refl
  where
    none : (x y : ℕ) → y ≤ x → nat_lt x y ≡ false
    none x y l = grind (arith, nat_tests)

    at : (b : Bool) → counts q ≡ b → cond (b && nat_lt q.peak (usage K nodes q.folder)) (record q { peak = usage K nodes q.folder; peak_at = m }) q ≡ q
    at true e = ap (λ c. cond c (record q { peak = usage K nodes q.folder; peak_at = m }) q) (none q.peak (usage K nodes q.folder) (h e))
    at false e = refl

pub peaks_stay : (K : Capacity) (nodes : List NodeRow) (m : ℕ) (quotas : List QuotaRow) → is_ascending folder_of quotas ≡ true → ((q : QuotaRow) → row_of folder_of (folder_of q) quotas ≡ Some q → counts q ≡ true → usage K nodes q.folder ≤ q.peak) → quotas ≡ map (peaked K nodes m) quotas
peaks_stay K nodes m quotas asc h =
    sym (map_id (peaked K nodes m) quotas (each_found folder_of _ quotas asc (λ q found. peak_stays K nodes m q (h q found))))

-- a row that is found after rows were changed
pub record Was (g : QuotaRow → QuotaRow) (f : ℕ) (quotas : List QuotaRow) (q : QuotaRow) : Type 0 where
  pub old : QuotaRow
  pub found : row_of folder_of f quotas ≡ Some old
  pub is : q ≡ g old

pub mapped_some : (g : QuotaRow → QuotaRow) (o : Option QuotaRow) (q : QuotaRow) → option_map g o ≡ Some q → (r : QuotaRow) × (o ≡ Some r) × (q ≡ g r)
mapped_some g None q h = cc
mapped_some g (Some r) q h = (r, refl, sym (same_Some (g r) q h))

pub was : (g : QuotaRow → QuotaRow) → ((q : QuotaRow) → (g q).folder ≡ q.folder) → (f : ℕ) (quotas : List QuotaRow) (q : QuotaRow) → row_of folder_of f (map g quotas) ≡ Some q → Was g f quotas q
was g folder f quotas q h =
    let w = mapped_some g (row_of folder_of f quotas) q (sym (find-map (λ q. folder_of q == f) g (λ q. ap (λ n. n == f) (folder q)) quotas) ∙ h) in
    record { old = w.0; found = w.1; is = w.2 }

found_folder_is : (f : ℕ) (quotas : List QuotaRow) (q : QuotaRow) → row_of folder_of f quotas ≡ Some q → q.folder ≡ f
found_folder_is f quotas q h = found_key folder_of f quotas q h

-- quotas of which nothing but peaks changes
pub quotas_mapped : (nodes : List NodeRow) (g : QuotaRow → QuotaRow) (quotas : List QuotaRow) → ((q : QuotaRow) → (g q).folder ≡ q.folder) → ((q : QuotaRow) → (g q).limit ≡ q.limit) → ((q : QuotaRow) → (g q).thresholds ≡ q.thresholds) → ((q : QuotaRow) → is_moment q.peak_at ≡ true → is_moment (g q).peak_at ≡ true) → AreQuotas nodes quotas → AreQuotas nodes (map g quotas)
quotas_mapped nodes g quotas folder limit thresholds moment qs =
    record {
      ascending = ascending-map folder_of g folder quotas qs.ascending;
      few = omega (arith, length-map quotas g, qs.few);
      folders = λ f q h. let w = was g folder f quotas q h in qs.folders f w.old w.found;
      limits = λ f q h. let w = was g folder f quotas q h in ap (λ (q : QuotaRow). is_limit q.limit) w.is ∙ (ap is_limit (limit w.old) ∙ qs.limits f w.old w.found);
      thresholds = λ f q h. let w = was g folder f quotas q h in ap (λ (q : QuotaRow). are_thresholds q.thresholds) w.is ∙ (ap are_thresholds (thresholds w.old) ∙ qs.thresholds f w.old w.found);
      moments = λ f q h. let w = was g folder f quotas q h in ap (λ (q : QuotaRow). is_moment q.peak_at) w.is ∙ moment w.old (qs.moments f w.old w.found);
    }

-- what is kept, once peaks are raised
pub counted_peaked : {level : Bool} (K : Capacity) (nodes : List NodeRow) (quotas : List QuotaRow) (counters : List Counter) (m : ℕ) → IsVolume K nodes → is_capacity K ≡ true → AreQuotas nodes quotas → is_moment m ≡ true → counters ≡ sums_of K nodes quotas → IsCounted K nodes (map (peaked K nodes m) quotas) counters level
counted_peaked K nodes quotas counters m v legal qs moment sums =
    record {
      volume = v;
      legal = legal;
      are_quotas = quotas_mapped nodes (peaked K nodes m) quotas (peaked_folder K nodes m) (peaked_limit K nodes m) (peaked_thresholds K nodes m) (λ q. peaked_moment K nodes m q moment) qs;
      sums = sums ∙ sym (sums_kept K nodes (peaked K nodes m) (peaked_folder K nodes m) (peaked_counts K nodes m) quotas);
      peaks = λ l f q h c.
          let w = was (peaked K nodes m) (peaked_folder K nodes m) f quotas q h in
          let counting : counts w.old ≡ true = sym (peaked_counts K nodes m w.old) ∙ (ap counts (sym w.is) ∙ c) in
          let most : usage K nodes w.old.folder ≤ q.peak = subst (λ (p : QuotaRow). usage K nodes w.old.folder ≤ p.peak) (sym w.is) (peaked_most K nodes m w.old counting) in
          subst (λ n. usage K nodes n ≤ q.peak) (found_folder_is f quotas w.old w.found) most;
    }

-- counters that were charged are the sums after the change
pub counters_charged : (K : Capacity) (nodes new : List NodeRow) (quotas : List QuotaRow) (counters : List Counter) (change : Change) → AreQuotas nodes quotas → Changes K nodes new quotas change → counters ≡ sums_of K nodes quotas → map (charged_counter new change) counters ≡ sums_of K new quotas
counters_charged K nodes new quotas counters change qs c sums =
    ap (map (charged_counter new change)) sums
    ∙ sums_follow K nodes new (charged_counter new change) quotas
    (each_found folder_of _ quotas qs.ascending (λ q found.
    ap (λ n. record { folder = q.folder; bytes = n })
    (ap (λ b. usage K nodes q.folder - cond b change.minus 0 + cond (is_above new change.to q.folder) change.plus 0) (c.from_same q.folder)
    ∙ (ap (λ b. usage K nodes q.folder - cond (is_above nodes change.from q.folder) change.minus 0 + cond b change.plus 0) (c.to_same q.folder)
    ∙ sym (c.after q.folder q found)))))

-- a quota that is raised by its counter has the peak that is due
pub raised_is : (K : Capacity) (nodes : List NodeRow) (quotas : List QuotaRow) (counters : List Counter) (m : ℕ) (q : QuotaRow) → is_ascending folder_of quotas ≡ true → counters ≡ sums_of K nodes quotas → row_of folder_of (folder_of q) quotas ≡ Some q → raised counters m q ≡ peaked K nodes m q
raised_is K nodes quotas counters m q asc sums found =
    ap (λ o. option_map_or (λ used. if nat_lt q.peak used then record q { peak = used; peak_at = m } else q) o q)
    (ap (λ cs. used_in cs q.folder) sums ∙ used_found K nodes quotas q.folder q asc found)
    ∙ at (counts q)
  where
    at : (b : Bool) → option_map_or (λ used. if nat_lt q.peak used then record q { peak = used; peak_at = m } else q) (cond b (Some (usage K nodes q.folder)) None) q ≡ cond (b && nat_lt q.peak (usage K nodes q.folder)) (record q { peak = usage K nodes q.folder; peak_at = m }) q
    at true = refl
    at false = refl

-- a peak that was raised at a moment isn't raised again at it
pub peaked_twice : (K : Capacity) (nodes : List NodeRow) (m : ℕ) (q : QuotaRow) → peaked K nodes m (peaked K nodes m q) ≡ peaked K nodes m q
peaked_twice K nodes m q =
    peak_stays K nodes m (peaked K nodes m q) (λ c.
    subst (λ n. usage K nodes n ≤ (peaked K nodes m q).peak) (sym (peaked_folder K nodes m q)) (peaked_most K nodes m q (sym (peaked_counts K nodes m q) ∙ c)))

-- some quotas, raised by their counters
abbrev pub raised_some : (QuotaRow → Bool) → List Counter → ℕ → QuotaRow → QuotaRow
raised_some p counters m q = if p q then raised counters m q else q

pub some_folder : (p : QuotaRow → Bool) (counters : List Counter) (m : ℕ) (q : QuotaRow) → (raised_some p counters m q).folder ≡ q.folder
some_folder p counters m q = raised_case (λ r. r.folder ≡ q.folder) counters m q refl (λ used. refl) (p q)

some_counts : (p : QuotaRow → Bool) (counters : List Counter) (m : ℕ) (q : QuotaRow) → counts (raised_some p counters m q) ≡ counts q
some_counts p counters m q = raised_case (λ r. counts r ≡ counts q) counters m q refl (λ used. refl) (p q)

pub some_limit : (p : QuotaRow → Bool) (counters : List Counter) (m : ℕ) (q : QuotaRow) → (raised_some p counters m q).limit ≡ q.limit
some_limit p counters m q = raised_case (λ r. r.limit ≡ q.limit) counters m q refl (λ used. refl) (p q)

pub some_thresholds : (p : QuotaRow → Bool) (counters : List Counter) (m : ℕ) (q : QuotaRow) → (raised_some p counters m q).thresholds ≡ q.thresholds
some_thresholds p counters m q = raised_case (λ r. r.thresholds ≡ q.thresholds) counters m q refl (λ used. refl) (p q)

-- where peaks of some quotas were raised, raising all of them leaves the same as at once
pub some_settled : (K : Capacity) (nodes : List NodeRow) (p : QuotaRow → Bool) (quotas : List QuotaRow) (counters : List Counter) (m : ℕ) → is_ascending folder_of quotas ≡ true → counters ≡ sums_of K nodes quotas → map (peaked K nodes m) (map (raised_some p counters m) quotas) ≡ map (peaked K nodes m) quotas
some_settled K nodes p quotas counters m asc sums =
    twice quotas
    ∙ map_same (λ q. peaked K nodes m (raised_some p counters m q)) (peaked K nodes m) quotas (each_found folder_of _ quotas asc (λ q found. at q found (p q)))
  where
    twice : (rows : List QuotaRow) → map (peaked K nodes m) (map (raised_some p counters m) rows) ≡ map (λ q. peaked K nodes m (raised_some p counters m q)) rows
    twice [] = refl
    twice (r ∷ rows) = ap (λ rs. peaked K nodes m (raised_some p counters m r) ∷ rs) (twice rows)

    at : (q : QuotaRow) → row_of folder_of (folder_of q) quotas ≡ Some q → (b : Bool) → peaked K nodes m (cond b (raised counters m q) q) ≡ peaked K nodes m q
    at q found true = ap (peaked K nodes m) (raised_is K nodes quotas counters m q asc sums found) ∙ peaked_twice K nodes m q
    at q found false = refl

-- what is kept where peaks of some quotas were raised: if it is level, of all that must be
pub counted_raised : {level : Bool} (K : Capacity) (nodes : List NodeRow) (p : QuotaRow → Bool) (quotas : List QuotaRow) (counters : List Counter) (m : ℕ) → IsVolume K nodes → is_capacity K ≡ true → AreQuotas nodes quotas → is_moment m ≡ true → counters ≡ sums_of K nodes quotas → (level ≡ true → map (raised_some p counters m) quotas ≡ map (peaked K nodes m) quotas) → IsCounted K nodes (map (raised_some p counters m) quotas) counters level
counted_raised {level} K nodes p quotas counters m v legal qs moment sums all =
    record {
      volume = v;
      legal = legal;
      are_quotas = quotas_mapped nodes (raised_some p counters m) quotas (some_folder p counters m) (some_limit p counters m) (some_thresholds p counters m)
          (λ q old. raised_case (λ r. is_moment r.peak_at ≡ true) counters m q old (λ used. moment) (p q)) qs;
      sums = sums ∙ sym (sums_kept K nodes (raised_some p counters m) (some_folder p counters m) (some_counts p counters m) quotas);
      peaks = λ l f q h c.
          let whole : IsCounted K nodes (map (peaked K nodes m) quotas) counters true = counted_peaked K nodes quotas counters m v legal qs moment sums in
          whole.peaks refl f q (subst (λ rows. row_of folder_of f rows ≡ Some q) (all l) h) c;
    }

-- what is kept where all of them were
pub all_raised : (K : Capacity) (nodes : List NodeRow) (quotas : List QuotaRow) (counters : List Counter) (m : ℕ) → is_ascending folder_of quotas ≡ true → counters ≡ sums_of K nodes quotas → map (raised counters m) quotas ≡ map (peaked K nodes m) quotas
all_raised K nodes quotas counters m asc sums =
    map_same (raised counters m) (peaked K nodes m) quotas (each_found folder_of _ quotas asc (λ q found. raised_is K nodes quotas counters m q asc sums found))

-- peaks that were raised above the folder that gained are those that are due
pub peaks_raised : (K : Capacity) (nodes new : List NodeRow) (quotas : List QuotaRow) (counters : List Counter) (change : Change) (m : ℕ) → AreQuotas nodes quotas → Changes K nodes new quotas change → counters ≡ sums_of K new quotas → ((f : ℕ) (q : QuotaRow) → row_of folder_of f quotas ≡ Some q → counts q ≡ true → usage K nodes f ≤ q.peak) → map (raised_above new change.to counters m) quotas ≡ map (peaked K new m) quotas
peaks_raised K nodes new quotas counters change m qs c sums peaks =
    map_same (raised_above new change.to counters m) (peaked K new m) quotas
    (each_found folder_of _ quotas qs.ascending (λ q found. at q found (is_above new change.to q.folder) refl))
  where
    at : (q : QuotaRow) → row_of folder_of (folder_of q) quotas ≡ Some q → (b : Bool) → is_above new change.to q.folder ≡ b → cond b (raised counters m q) q ≡ peaked K new m q
    at q found true e = raised_is K new quotas counters m q qs.ascending sums found
    at q found false e =
        let off : is_above nodes change.to q.folder ≡ false = sym (c.to_same q.folder) ∙ e in
        let a = c.after q.folder q found in
        let b = ap (λ b. cond b change.plus 0) off in
        sym (peak_stays K new m q (λ counting.
        let p = peaks q.folder q found counting in
        omega (arith, a, b, p)))
