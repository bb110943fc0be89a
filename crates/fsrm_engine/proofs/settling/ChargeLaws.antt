-- The quotas that were noted in a climb, and not dropped again, have exactly the acts that are due.
use Rattle.std.proofs.Common.{◌≡◌, ℕ, zero, suc, ◌<◌, Bool, true, false, ◌&&◌, ◌||◌, not, List, [], ◌∷◌, ◌++◌, cond, ◌≤◌, length, nat_le, Option, Some, None, slice_get, refl, ap, sym, ◌∙◌, subst, arith}
use Rattle.std.proofs.lemmas.List.{length-map}
use Rattle.std.proofs.lemmas.Option.{slice_get-map}
use Rattle.std.specs.Prelude.{flat_map, map, option_map}
use Rattle.std.specs.List.{list_all}
use Rattle.std.specs.Option.{option_map_or}
use Rattle.fsrm_base.specs.Keyed.{is_ascending}
use Rattle.fsrm_base.specs.Numbers.{is_in, is_set}
use Rattle.fsrm_base.proofs.Order.{ascending-map}
use Rattle.fsrm_base.proofs.TestLaws.{both, both_true, clash, is_false, le_test}
use Rattle.fsrm_model.specs.declared.command.Act.{Act}
use Rattle.fsrm_model.specs.declared.row.NodeRow.{NodeRow}
use Rattle.fsrm_model.specs.declared.row.QuotaRow.{QuotaRow}
use Rattle.fsrm_model.specs.values.Limits.{most_entries, most_quotas}
use Rattle.fsrm_model.specs.objects.Quota.{folder_of}
use Rattle.fsrm_model.specs.nodes.Tree.{is_under}
use Rattle.fsrm_model.proofs.thresholds.SettleLaws.{no_acts}
use Rattle.fsrm_objects.specs.Tables.{Tables}
use Rattle.number_set.specs.Numbers.{Numbers, no_numbers}
use Rattle.quota_usage.specs.declared.change.Change.{Change}
use Rattle.quota_usage.specs.declared.change.Counter.{Counter}
use Rattle.quota_usage.specs.Charge.{charged as charged_bytes, charged_counter, is_above, lost_by}
use Rattle.quota_usage.specs.Climb.{climbed_from}
use Rattle.quota_usage.proofs.ChargeLaws.{left_from}
use Rattle.thresholds.specs.Marked.{Marked}
use Rattle.thresholds.specs.Settled.{Settles, are_orderly, crosses, has_orderly_lists}
use Rattle.thresholds.proofs.OrderLaws.{orderly}
use Rattle.thresholds.proofs.SettleLaws.{settles_none}
use Rattle.fsrm_engine.specs.declared.parts.Parts.{Parts}
use Rattle.fsrm_parts.specs.Crossing.{Drops, IsCovered, Notes, acts_at, counted_acts, gained_acts, is_crossing, used_acts, is_kept}
use Rattle.fsrm_engine.specs.Due.{charged_acts}
use Rattle.fsrm_engine.specs.Machine.{IsCalm, Ran, charged_parts}
use Rattle.fsrm_parts.specs.Peaks.{raised_above}
use Rattle.fsrm_engine.proofs.settling.CalmLaws.{AtMost, none_crosses}
use Rattle.fsrm_engine.proofs.settling.GainLaws.{gained_are, others_none, used_charged}
use Rattle.fsrm_engine.proofs.settling.MarkLaws.{calm_set, calm_there}
use Rattle.fsrm_engine.proofs.settling.PlaceLaws.{by_places}
use Rattle.quota_usage.specs.Counters.{used_in}
use Rattle.fsrm_engine.proofs.tables.PeakLaws.{mapped_some}
use Rattle.fsrm_parts.proofs.tables.RaiseLaws.{raised_case, none_above}

-- ---- quotas whose peaks were raised are in order
module _ (nodes : List NodeRow) (place : Option ℕ) (counters : List Counter) (m : ℕ) where
  abbrev raise_quota : QuotaRow → QuotaRow
  raise_quota = raised_above nodes place counters m

  folder_stays : (q : QuotaRow) → folder_of (raise_quota q) ≡ folder_of q
  folder_stays q = raised_case (λ r. folder_of r ≡ folder_of q) counters m q refl (λ used. refl) (is_above nodes place q.folder)

  lists_stay : (q : QuotaRow) → has_orderly_lists (raise_quota q) ≡ has_orderly_lists q
  lists_stay q = raised_case (λ r. has_orderly_lists r ≡ has_orderly_lists q) counters m q refl (λ used. refl) (is_above nodes place q.folder)

  all_stay : (quotas : List QuotaRow) → list_all has_orderly_lists (map raise_quota quotas) ≡ list_all has_orderly_lists quotas
  all_stay [] = refl
  all_stay (q ∷ quotas) =
      ap (λ b. b && list_all has_orderly_lists (map raise_quota quotas)) (lists_stay q) ∙ ap (λ b. has_orderly_lists q && b) (all_stay quotas)

  raised_orderly : (quotas : List QuotaRow) → are_orderly quotas ≡ true → are_orderly (map raise_quota quotas) ≡ true
  raised_orderly quotas ordered =
      let o = orderly quotas ordered in
      let new = map raise_quota quotas in
      both_true (is_ascending folder_of new && nat_le (length new) most_quotas) (list_all has_orderly_lists new)
      (both_true (is_ascending folder_of new) (nat_le (length new) most_quotas)
      (ascending-map folder_of raise_quota folder_stays quotas o.ascending)
      (ap (λ n. nat_le n most_quotas) (length-map quotas raise_quota) ∙ le_test (length quotas) most_quotas o.few))
      (all_stay quotas ∙ o.lists)

  pub tables_orderly : (old new : Tables) → new ≡ record old { quotas = map raise_quota old.quotas } → are_orderly old.quotas ≡ true → are_orderly new.quotas ≡ true
  tables_orderly old new raising ordered = ap (λ (t : Tables). are_orderly t.quotas) raising ∙ raised_orderly old.quotas ordered

-- ---- what is left of the notes
-- what is known once the climbs were made
pub record Noted (nodes : List NodeRow) (counters : List Counter) (change : Change) (to m : ℕ) (quotas raised : List QuotaRow) (none noted left : Numbers) : Type 0 where
  pub gives : change.to ≡ Some to
  pub raised_are : raised ≡ map (raised_above nodes change.to (map (charged_counter nodes change) counters) m) quotas
  pub clear : none.members ≡ []
  pub notes : Notes none noted quotas (λ q. is_under nodes q.folder to && is_crossing (map (charged_counter nodes change) counters) (lost_by change to) change.plus q)
  pub drops : Drops noted left raised (is_kept nodes change to)

module _ (nodes : List NodeRow) (counters : List Counter) (change : Change) (to m : ℕ) (quotas raised : List QuotaRow) (none noted left : Numbers) (h : Noted nodes counters change to m quotas raised none noted left) where
  abbrev now : List Counter
  now = map (charged_counter nodes change) counters

  abbrev crosses_up : QuotaRow → Bool
  crosses_up q = is_under nodes q.folder to && is_crossing now (lost_by change to) change.plus q

  abbrev raise : QuotaRow → QuotaRow
  raise = raised_above nodes change.to now m

  same : (q : QuotaRow) → crosses_up (raise q) ≡ crosses_up q
  same q = raised_case (λ r. crosses_up r ≡ crosses_up q) now m q refl (λ used. refl) (is_above nodes change.to q.folder)

  was_at : (i : ℕ) (q : QuotaRow) → slice_get raised i ≡ Some q → (old : QuotaRow) × (slice_get quotas i ≡ Some old) × (q ≡ raise old)
  was_at i q there =
      mapped_some raise (slice_get quotas i) q (sym (slice_get-map raise quotas i) ∙ (ap (λ qs. slice_get qs i) (sym h.raised_are) ∙ there))

  -- which are left
  test_at : (i : ℕ) (q : QuotaRow) → slice_get raised i ≡ Some q → is_in left.members i ≡ (crosses_up q && not (is_kept nodes change to q))
  test_at i q there =
      let w = was_at i q there in
      h.drops.members i
      ∙ (ap (λ o. is_in noted.members i && not (option_map_or (is_kept nodes change to) o false)) there
      ∙ ap (λ b. b && not (is_kept nodes change to q))
      (h.notes.members i
      ∙ (ap (λ ns. is_in ns i || option_map_or crosses_up (slice_get quotas i) false) h.clear
      ∙ (ap (λ o. option_map_or crosses_up o false) w.1 ∙ (sym (same w.0) ∙ ap crosses_up (sym w.2))))))

  pub left_set : is_set left.members ≡ true
  left_set = h.drops.set (h.notes.set (ap is_set h.clear))

  -- each is the place of a quota
  pub left_within : (i : ℕ) → is_in left.members i ≡ true → i < length raised
  left_within i t =
      let was = both (is_in noted.members i) (not (option_map_or (is_kept nodes change to) (slice_get raised i) false)) (sym (h.drops.members i) ∙ t) in
      let some : option_map_or crosses_up (slice_get quotas i) false ≡ true = sym (h.notes.members i ∙ ap (λ ns. is_in ns i || option_map_or crosses_up (slice_get quotas i) false) h.clear) ∙ was.0 in
      let low : i < length quotas = found quotas i some in
      omega (arith, low, ap length h.raised_are, length-map quotas raise)
    where
      found : (qs : List QuotaRow) (i : ℕ) → option_map_or crosses_up (slice_get qs i) false ≡ true → i < length qs
      found [] i t = absurd (clash false t refl)
      found (q ∷ qs) zero t = omega arith
      found (q ∷ qs) (suc i) t = let l = found qs i t in omega (arith, l)

  pub noted_acts : (run_limit : ℕ) → IsCovered nodes counters change → acts_at (gained_acts now (lost_by change to) change.plus run_limit m) raised left.members ≡ counted_acts counters now run_limit m raised
  noted_acts run_limit covered =
      by_places (gained_acts now (lost_by change to) change.plus run_limit m) (λ q. used_acts (used_in counters q.folder) (used_in now q.folder) run_limit m q) raised left.members left_set left_within
      (λ i q there t.
      let passed = both (crosses_up q) (not (is_kept nodes change to q)) (sym (test_at i q there) ∙ t) in
      let up = both (is_under nodes q.folder to) (is_crossing now (lost_by change to) change.plus q) passed.0 in
      gained_are nodes counters change to h.gives covered q run_limit m up.0 (is_false (is_kept nodes change to q) passed.1))
      (λ i q there t. others_none nodes counters change to h.gives covered q run_limit m (sym (test_at i q there) ∙ t))

-- ---- the whole charge
-- what its steps left: counters that the bytes were taken from, and those after the climb, quotas whose peaks were raised, places that were noted, and those of them that are left
module _ (p mid : Parts) (change : Change) (to minus m : ℕ) (taken counters : List Counter) (tables : Tables) (noted : Numbers) (gives : change.to ≡ Some to) (loses : minus ≡ lost_by change to) (idle : IsCalm p) (climbed : counters ≡ climbed_from p.tree.nodes (Some to) minus change.plus taken) (left : climbed_from p.tree.nodes change.to minus change.plus taken ≡ map (charged_counter p.tree.nodes change) p.usage) (raising : tables ≡ record p.objects { quotas = map (raised_above p.tree.nodes (Some to) counters m) p.objects.quotas }) (notes : Notes p.crossing noted p.objects.quotas (λ q. is_under p.tree.nodes q.folder to && is_crossing counters minus change.plus q)) (kept : mid ≡ record (record p { usage = counters; objects = tables; crossing = noted }) { crossing = mid.crossing }) (drops : Drops noted mid.crossing tables.quotas (is_kept p.tree.nodes change to)) where
  abbrev charged : Parts
  charged = charged_parts p change m

  made : counters ≡ map (charged_counter p.tree.nodes change) p.usage
  made = climbed ∙ left_from p.tree.nodes change (Some to) minus taken _ gives left

  known : Noted p.tree.nodes p.usage change to m p.objects.quotas tables.quotas p.crossing noted mid.crossing
  known =
      record {
        gives = gives;
        raised_are =
            ap (λ (t : Tables). t.quotas) raising
            ∙ (ap (λ cs. map (raised_above p.tree.nodes (Some to) cs m) p.objects.quotas) made
            ∙ ap (λ o. map (raised_above p.tree.nodes o (map (charged_counter p.tree.nodes change) p.usage) m) p.objects.quotas) (sym gives));
        clear = ap (λ (n : Numbers). n.members) idle.crossing;
        notes =
            subst (λ n. Notes p.crossing noted p.objects.quotas (λ q. is_under p.tree.nodes q.folder to && is_crossing (map (charged_counter p.tree.nodes change) p.usage) n change.plus q)) loses
            (subst (λ (cs : List Counter). Notes p.crossing noted p.objects.quotas (λ q. is_under p.tree.nodes q.folder to && is_crossing cs minus change.plus q)) made notes);
        drops = drops;
      }

  objects_are : mid.objects ≡ tables
  objects_are = ap (λ (q : Parts). q.objects) kept

  charged_objects : charged.objects ≡ tables
  charged_objects =
      let with_quotas : List QuotaRow → Tables = λ qs. record p.objects { quotas = qs } in
      ap with_quotas (sym known.raised_are) ∙ (ap with_quotas (ap (λ (t : Tables). t.quotas) raising) ∙ sym raising)

  pub still_set : is_set mid.crossing.members ≡ true
  still_set = left_set p.tree.nodes p.usage change to m p.objects.quotas tables.quotas p.crossing noted mid.crossing known

  pub still_within : (place : ℕ) → is_in mid.crossing.members place ≡ true → place < length mid.objects.quotas
  still_within place t =
      let low = left_within p.tree.nodes p.usage change to m p.objects.quotas tables.quotas p.crossing noted mid.crossing known place t in
      subst (λ (t : Tables). place < length t.quotas) (sym objects_are) low

  pub charge_ran : (after : Tables) (marks : Marked) (crossing : Numbers) → IsCovered p.tree.nodes p.usage change → Settles mid.marks marks mid.objects after m (acts_at (gained_acts mid.usage minus change.plus mid.run_limit m) mid.objects.quotas mid.crossing.members) → is_set marks.numbers ≡ true → crossing ≡ no_numbers mid.crossing.bound → Ran charged (record mid { objects = after; marks = marks; crossing = crossing }) m (charged_acts p change m)
  charge_ran after marks crossing covered settles sorted clear =
      record {
        parts_are =
            ap (λ (q : Parts). record q { objects = after; marks = marks; crossing = crossing }) kept
            ∙ (ap (λ (cs : List Counter). record p { usage = cs; objects = after; marks = marks; crossing = crossing }) made
            ∙ ap (λ (n : Numbers). record p { usage = map (charged_counter p.tree.nodes change) p.usage; objects = after; marks = marks; crossing = n }) (clear ∙ (ap no_numbers bounds ∙ sym idle.crossing)));
        settles = subst (Settles charged.marks marks charged.objects after m) acts_are own;
        set = sorted;
      }
    where
      bounds : mid.crossing.bound ≡ most_quotas
      bounds = drops.bound ∙ (notes.bound ∙ ap (λ (n : Numbers). n.bound) idle.crossing)

      acts : ℕ → List Counter → ℕ → Tables → List Act
      acts lost cs limit t = acts_at (gained_acts cs lost change.plus limit m) t.quotas mid.crossing.members

      own : Settles charged.marks marks charged.objects after m (acts minus mid.usage mid.run_limit mid.objects)
      own =
          subst (λ (k : Marked). Settles k marks charged.objects after m (acts minus mid.usage mid.run_limit mid.objects)) (ap (λ (q : Parts). q.marks) kept)
          (subst (λ (t : Tables). Settles mid.marks marks t after m (acts minus mid.usage mid.run_limit mid.objects)) (objects_are ∙ sym charged_objects) settles)

      acts_are : acts minus mid.usage mid.run_limit mid.objects ≡ charged_acts p change m
      acts_are =
          ap (λ n. acts n mid.usage mid.run_limit mid.objects) loses
          ∙ (ap (λ (q : Parts). acts (lost_by change to) q.usage q.run_limit q.objects) kept
          ∙ (ap (λ (cs : List Counter). acts (lost_by change to) cs p.run_limit tables) made
          ∙ (noted_acts p.tree.nodes p.usage change to m p.objects.quotas tables.quotas p.crossing noted mid.crossing known p.run_limit covered
          ∙ ap (λ (t : Tables). counted_acts p.usage (map (charged_counter p.tree.nodes change) p.usage) p.run_limit m t.quotas) (sym charged_objects))))

-- ---- where no folder gains bytes nothing is due
none_gain : (p : Parts) (change : Change) (m : ℕ) → change.to ≡ None → charged_acts p change m ≡ []
none_gain p change m none = at (charged_parts p change m).objects.quotas
  where
    own : QuotaRow → List Act
    own q = used_acts (used_in p.usage q.folder) (used_in (map (charged_counter p.tree.nodes change) p.usage) q.folder) p.run_limit m q

    less : (f b : ℕ) → charged_bytes p.tree.nodes change f b ≤ b
    less f b = let nothing = ap (λ o. cond (is_above p.tree.nodes o f) change.plus 0) none in omega (arith, nothing)

    most : (f : ℕ) (o : Option ℕ) → AtMost (option_map (charged_bytes p.tree.nodes change f) o) o
    most f None = tt
    most f (Some b) = less f b

    quiet : (q : QuotaRow) → own q ≡ []
    quiet q =
        no_acts (crosses None (used_in p.usage q.folder) (used_in (map (charged_counter p.tree.nodes change) p.usage) q.folder) q) p.run_limit m q
        (λ percent. none_crosses q percent (used_in p.usage q.folder) (used_in (map (charged_counter p.tree.nodes change) p.usage) q.folder)
        (subst (λ o. AtMost o (used_in p.usage q.folder)) (sym (used_charged p.tree.nodes change p.usage q.folder)) (most q.folder (used_in p.usage q.folder))))

    at : (quotas : List QuotaRow) → flat_map own quotas ≡ []
    at [] = refl
    at (q ∷ quotas) = ap (λ acts. acts ++ flat_map own quotas) (quiet q) ∙ at quotas

pub charge_none : (p : Parts) (change : Change) (m : ℕ) (counters : List Counter) → change.to ≡ None → IsCalm p → length p.marks.log ≤ most_entries → counters ≡ map (charged_counter p.tree.nodes change) p.usage → Ran (charged_parts p change m) (record p { usage = counters }) m (charged_acts p change m)
charge_none p change m counters none idle few made =
    let charged = charged_parts p change m in
    let same : p.objects ≡ charged.objects =
    ap (λ (qs : List QuotaRow). record p.objects { quotas = qs }) (none_above p.tree.nodes change.to (map (charged_counter p.tree.nodes change) p.usage) m p.objects.quotas none) in
    record {
      parts_are = ap (λ (cs : List Counter). record p { usage = cs }) made;
      settles =
          subst (λ (t : Tables). Settles p.marks p.marks t p.objects m (charged_acts p change m)) same
          (subst (Settles p.marks p.marks p.objects p.objects m) (sym (none_gain p change m none)) (settles_none p.marks p.objects m few (calm_there p idle)));
      set = calm_set p idle;
    }
