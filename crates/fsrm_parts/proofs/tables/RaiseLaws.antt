-- One quota's peak, raised by its counter.
use Rattle.std.proofs.Common.{◌≡◌, ℕ, ◌+◌, ◌<◌, ◌≤◌, ◌==◌, Bool, true, false, cond, List, [], ◌∷◌, ◌++◌, length, slice_get, ◌||◌, append_assoc, length-append, Option, Some, None, nat_lt, refl, ap, sym, ◌∙◌, subst, arith}
use Rattle.std.proofs.lemmas.Bool.Decides.{nat_tests}
use Rattle.std.proofs.lemmas.Option.{same_Some}
use Rattle.std.specs.Prelude.{map, if◌then◌else◌}
use Rattle.std.specs.Option.{option_map_or}
use Rattle.fsrm_model.specs.declared.row.QuotaRow.{QuotaRow}
use Rattle.std.proofs.lemmas.List.{length-map, map-append, append-nil}
use Rattle.fsrm_base.specs.Keyed.{row_of, has_row, is_ascending, with_change}
use Rattle.fsrm_model.specs.objects.Quota.{folder_of}
use Rattle.fsrm_model.specs.declared.row.NodeRow.{NodeRow}
use Rattle.fsrm_base.proofs.EditedRows.{change_absent, absent_later, ascending_tail}
use Rattle.fsrm_base.proofs.TestLaws.{clash, eq_is, eq_same, not_true, or_later}
use Rattle.fsrm_base.proofs.Look.{found_key}
use Rattle.fsrm_objects.specs.Tables.{Tables, peaked_at}
use Rattle.quota_usage.specs.declared.change.Counter.{Counter}
use Rattle.quota_usage.specs.Counters.{used_in}
use Rattle.thresholds.specs.Settled.{crosses_any}
use Rattle.fsrm_parts.specs.Crossing.{is_crossing, used_before}
use Rattle.fsrm_parts.specs.Peaks.{raised, raised_above, raised_to}
use Rattle.fsrm_base.proofs.RowLaws.{change_same, change_none}

raised_by : (counters : List Counter) (m : ℕ) (q : QuotaRow) (o : Option ℕ) → used_in counters q.folder ≡ o → raised counters m q ≡ option_map_or (λ used. raised_to used m q) o q
raised_by counters m q o h = ap (λ o. option_map_or (λ used. raised_to used m q) o q) h

-- the counter of the folder that a quota is found on
own_used : (counters : List Counter) (quotas : List QuotaRow) (f : ℕ) (q : QuotaRow) (o : Option ℕ) → row_of folder_of f quotas ≡ Some q → used_in counters f ≡ o → used_in counters q.folder ≡ o
own_used counters quotas f q o found h = ap (used_in counters) (found_key folder_of f quotas q found) ∙ h

pub raise_none : (counters : List Counter) (quotas : List QuotaRow) (f m : ℕ) → is_ascending folder_of quotas ≡ true → used_in counters f ≡ None → quotas ≡ with_change folder_of f (raised counters m) quotas
raise_none counters quotas f m asc h =
    sym (change_same folder_of f (raised counters m) (λ q. q) quotas asc (λ q found. raised_by counters m q None (own_used counters quotas f q None found h)) ∙ change_none folder_of f quotas)

pub raise_absent : (counters : List Counter) (quotas : List QuotaRow) (f m : ℕ) → has_row folder_of f quotas ≡ false → quotas ≡ with_change folder_of f (raised counters m) quotas
raise_absent counters quotas f m none = sym (change_absent folder_of f (raised counters m) quotas none)

not_less : (x y : ℕ) → y ≤ x → nat_lt x y ≡ false
not_less x y h = grind (arith, nat_tests)

less : (x y : ℕ) → x < y → nat_lt x y ≡ true
less x y h = grind (arith, nat_tests)

-- by what is used
pub raise_low : (quotas : List QuotaRow) (f m used : ℕ) (q : QuotaRow) → is_ascending folder_of quotas ≡ true → row_of folder_of f quotas ≡ Some q → used ≤ q.peak → quotas ≡ with_change folder_of f (raised_to used m) quotas
raise_low quotas f m used q asc found low =
    sym (change_same folder_of f (raised_to used m) (λ q. q) quotas asc (λ r at.
    ap (λ b. cond b (record r { peak = used; peak_at = m }) r) (not_less r.peak used (subst (λ (s : QuotaRow). used ≤ s.peak) (same_Some q r (sym found ∙ at)) low)))
    ∙ change_none folder_of f quotas)

pub raise_high : (quotas : List QuotaRow) (f m used : ℕ) (q : QuotaRow) → is_ascending folder_of quotas ≡ true → row_of folder_of f quotas ≡ Some q → q.peak < used → with_change folder_of f (peaked_at used m) quotas ≡ with_change folder_of f (raised_to used m) quotas
raise_high quotas f m used q asc found high =
    sym (change_same folder_of f (raised_to used m) (peaked_at used m) quotas asc (λ r at.
    ap (λ b. cond b (record r { peak = used; peak_at = m }) r) (less r.peak used (subst (λ (s : QuotaRow). s.peak < used) (same_Some q r (sym found ∙ at)) high))))

-- which the counter tells
pub raise_used : (counters : List Counter) (quotas : List QuotaRow) (f m used : ℕ) → is_ascending folder_of quotas ≡ true → used_in counters f ≡ Some used → with_change folder_of f (raised_to used m) quotas ≡ with_change folder_of f (raised counters m) quotas
raise_used counters quotas f m used asc h =
    sym (change_same folder_of f (raised counters m) (raised_to used m) quotas asc (λ r at. raised_by counters m r (Some used) (own_used counters quotas f r (Some used) at h)))

raised_keeps_at : (q : QuotaRow) (m : ℕ) (o : Option ℕ) → (option_map_or (λ used. raised_to used m q) o q).folder ≡ q.folder
raised_keeps_at q m None = refl
raised_keeps_at q m (Some used) = at (nat_lt q.peak used)
  where
    at : (b : Bool) → (cond b (record q { peak = used; peak_at = m }) q).folder ≡ q.folder
    at true = refl
    at false = refl

pub raised_keeps : (counters : List Counter) (m : ℕ) (q : QuotaRow) → (raised counters m q).folder ≡ q.folder
raised_keeps counters m q = raised_keeps_at q m (used_in counters q.folder)

-- where nothing gains, no peak is raised
pub none_above : (nodes : List NodeRow) (place : Option ℕ) (counters : List Counter) (m : ℕ) (quotas : List QuotaRow) → place ≡ None → quotas ≡ map (raised_above nodes place counters m) quotas
none_above nodes place counters m quotas h = stays nodes counters m quotas ∙ ap (λ p. map (raised_above nodes p counters m) quotas) (sym h)
  where
    stays : (nodes : List NodeRow) (counters : List Counter) (m : ℕ) (quotas : List QuotaRow) → quotas ≡ map (raised_above nodes None counters m) quotas
    stays nodes counters m [] = refl
    stays nodes counters m (q ∷ qs) = ap (λ rs. q ∷ rs) (stays nodes counters m qs)

-- nor without counters
pub none_counted : (counters : List Counter) (m : ℕ) (on : QuotaRow → Bool) (quotas : List QuotaRow) → counters ≡ [] → quotas ≡ map (λ q. if on q then raised counters m q else q) quotas
none_counted counters m on [] e = refl
none_counted counters m on (q ∷ qs) e =
    ap (λ r. r ∷ qs) (one (on q)) ∙ ap (λ rs. cond (on q) (raised counters m q) q ∷ rs) (none_counted counters m on qs e)
  where
    one : (b : Bool) → q ≡ cond b (raised counters m q) q
    one true = sym (raised_by counters m q None (ap (λ (cs : List Counter). used_in cs q.folder) e))
    one false = refl

-- the peaks before a place of a table were raised
pub record RaisedTo (raise : QuotaRow → QuotaRow) (old now : List QuotaRow) (place : ℕ) : Type 0 where
  pub passed : List QuotaRow
  pub ahead : List QuotaRow
  pub whole : old ≡ passed ++ ahead
  pub count : length passed ≡ place
  pub now_is : now ≡ map raise passed ++ ahead

pub raised_none : (raise : QuotaRow → QuotaRow) (old : List QuotaRow) → RaisedTo raise old old 0
raised_none raise old = record { passed = []; ahead = old; whole = refl; count = refl; now_is = refl }

-- another row in the place of one among ascending rows
change_there : {X : Type 0} (key : X → ℕ) (c : X → X) (before : List X) (q : X) (after : List X) → is_ascending key (before ++ q ∷ after) ≡ true → with_change key (key q) c (before ++ q ∷ after) ≡ before ++ c q ∷ after
change_there key c [] q after asc =
    ap (λ b. cond b (c q) q ∷ with_change key (key q) c after) (eq_same (key q))
    ∙ ap (λ rs. c q ∷ rs) (change_absent key (key q) c after (absent_later key (key q) q after (le_same (key q)) asc))
  where
    le_same : (n : ℕ) → n ≤ n
    le_same n = omega arith
change_there key c (x ∷ before) q after asc =
    ap (λ b. cond b (c x) x ∷ with_change key (key q) c (before ++ q ∷ after))
    (not_true (key x == key q) (λ e.
    clash (has_row key (key x) (before ++ q ∷ after))
    (ap (λ n. has_row key n (before ++ q ∷ after)) (eq_is (key x) (key q) e) ∙ has_it before)
    (absent_later key (key x) x (before ++ q ∷ after) (le_same (key x)) asc)))
    ∙ ap (λ rs. x ∷ rs) (change_there key c before q after (ascending_tail key x (before ++ q ∷ after) asc))
  where
    le_same : (n : ℕ) → n ≤ n
    le_same n = omega arith

    has_it : (rows : List _) → has_row key (key q) (rows ++ q ∷ after) ≡ true
    has_it [] = ap (λ b. b || has_row key (key q) after) (eq_same (key q))
    has_it (r ∷ rows) = or_later (key r == key q) (has_row key (key q) (rows ++ q ∷ after)) (has_it rows)

-- the row at the place after some rows is the first of the others
row_after : {X : Type 0} (before ahead : List X) (x : X) → slice_get (before ++ ahead) (length before) ≡ Some x → (rest : List X) × (ahead ≡ x ∷ rest)
row_after [] [] x h = cc
row_after [] (y ∷ ahead) x h = (ahead, ap (λ z. z ∷ ahead) (same_Some y x h))
row_after (b ∷ before) ahead x h = row_after before ahead x h

pub changed_next : (raise : QuotaRow → QuotaRow) (old now : List QuotaRow) (place : ℕ) (q : QuotaRow) → is_ascending folder_of now ≡ true → slice_get now place ≡ Some q → RaisedTo raise old now place → RaisedTo raise old (with_change folder_of q.folder raise now) (place + 1)
changed_next raise old now place q asc at r =
    let len : length (map raise r.passed) ≡ place = length-map r.passed raise ∙ r.count in
    let there : slice_get (map raise r.passed ++ r.ahead) (length (map raise r.passed)) ≡ Some q = ap (slice_get (map raise r.passed ++ r.ahead)) len ∙ (ap (λ rows. slice_get rows place) (sym r.now_is) ∙ at) in
    let w = row_after (map raise r.passed) r.ahead q there in
    let now_is : now ≡ map raise r.passed ++ q ∷ w.0 = r.now_is ∙ ap (λ rows. map raise r.passed ++ rows) w.1 in
    record {
      passed = r.passed ++ q ∷ [];
      ahead = w.0;
      whole = r.whole ∙ (ap (λ rows. r.passed ++ rows) w.1 ∙ sym (append_assoc r.passed (q ∷ []) w.0));
      count = omega (arith, length-append r.passed (q ∷ []), r.count);
      now_is =
          ap (with_change folder_of q.folder raise) now_is
          ∙ (change_there folder_of raise (map raise r.passed) q w.0 (ap (is_ascending folder_of) (sym now_is) ∙ asc)
          ∙ sym (ap (λ rows. rows ++ w.0) (map-append raise r.passed (q ∷ [])) ∙ append_assoc (map raise r.passed) (raise q ∷ []) w.0));
    }

pub raised_next : (counters : List Counter) (m : ℕ) (old now : List QuotaRow) (place : ℕ) (q : QuotaRow) → is_ascending folder_of now ≡ true → slice_get now place ≡ Some q → RaisedTo (raised counters m) old now place → RaisedTo (raised counters m) old (with_change folder_of q.folder (raised counters m) now) (place + 1)
raised_next counters m = changed_next (raised counters m)

pub raised_whole : (raise : QuotaRow → QuotaRow) (old now : List QuotaRow) (place : ℕ) → length old ≤ place → RaisedTo raise old now place → now ≡ map raise old
raised_whole raise old now place end r =
    let none : r.ahead ≡ [] = empty r.ahead (omega (arith, end, ap length r.whole, length-append r.passed r.ahead, r.count)) in
    r.now_is ∙ (ap (λ rows. map raise r.passed ++ rows) none ∙ (append-nil (map raise r.passed) ∙ ap (map raise) (sym (r.whole ∙ (ap (λ rows. r.passed ++ rows) none ∙ append-nil r.passed)))))
  where
    empty : (rows : List QuotaRow) → length rows ≤ 0 → rows ≡ []
    empty [] h = refl
    empty (x ∷ rows) h = absurd (omega arith)

-- tables with these quotas
pub tables_as : (t : Tables) (quotas : List QuotaRow) → t.quotas ≡ quotas → t ≡ record t { quotas = quotas }
tables_as t quotas is = ap (λ (qs : List QuotaRow). record t { quotas = qs }) is

-- tables of which the quotas alone have changed
pub tables_on : (old mid new : Tables) (quotas : List QuotaRow) → mid ≡ record old { quotas = mid.quotas } → new ≡ record mid { quotas = quotas } → new ≡ record old { quotas = quotas }
tables_on old mid new quotas kept is = is ∙ ap (λ (t : Tables). record t { quotas = quotas }) kept

pub tables_kept : (old mid new : Tables) (quotas : List QuotaRow) → mid ≡ record old { quotas = mid.quotas } → new ≡ record mid { quotas = quotas } → new ≡ record old { quotas = new.quotas }
tables_kept old mid new quotas kept is =
    tables_on old mid new quotas kept is ∙ ap (λ (qs : List QuotaRow). record old { quotas = qs }) (sym (ap (λ (t : Tables). t.quotas) is))

-- whether a quota crosses a threshold, by its counter
pub crossing_none : (counters : List Counter) (minus plus : ℕ) (q : QuotaRow) → used_in counters q.folder ≡ None → is_crossing counters minus plus q ≡ false
crossing_none counters minus plus q h = ap (λ o. option_map_or (λ now. crosses_any q (used_before minus plus now) now) o false) h

pub crossing_some : (counters : List Counter) (minus plus : ℕ) (q : QuotaRow) (now : ℕ) → used_in counters q.folder ≡ Some now → is_crossing counters minus plus q ≡ crosses_any q (used_before minus plus now) now
crossing_some counters minus plus q now h = ap (λ o. option_map_or (λ now. crosses_any q (used_before minus plus now) now) o false) h

pub raised_case : (P : QuotaRow → Type 0) (counters : List Counter) (m : ℕ) (q : QuotaRow) → P q → ((used : ℕ) → P (record q { peak = used; peak_at = m })) → (b : Bool) → P (cond b (raised counters m q) q)
raised_case P counters m q old new false = old
raised_case P counters m q old new true = at (used_in counters q.folder)
  where
    by : (used : ℕ) (b : Bool) → P (cond b (record q { peak = used; peak_at = m }) q)
    by used true = new used
    by used false = old

    at : (o : Option ℕ) → P (option_map_or (λ used. if nat_lt q.peak used then record q { peak = used; peak_at = m } else q) o q)
    at None = old
    at (Some used) = by used (nat_lt q.peak used)
