-- The sums of the counting quotas, as counters.
use Rattle.std.proofs.Common.{◌≡◌, ℕ, ◌<◌, ◌≤◌, ◌==◌, Bool, true, false, cond, not, ◌||◌, List, [], ◌∷◌, length, Option, Some, None, nat_lt, refl, ap, sym, ◌∙◌, arith}
use Rattle.std.specs.Prelude.{map, filter, option_map, if◌then◌else◌, is_some}
use Rattle.std.specs.Option.{option_and_then}
use Rattle.std.specs.List.{AllByRecursion}
use Rattle.fsrm_model.specs.declared.row.Capacity.{Capacity}
use Rattle.fsrm_model.specs.declared.row.NodeRow.{NodeRow}
use Rattle.fsrm_model.specs.declared.row.QuotaRow.{QuotaRow}
use Rattle.fsrm_base.specs.Keyed.{row_of, has_row, is_ascending, with_row, without_row}
use Rattle.fsrm_model.specs.objects.Quota.{folder_of, counts}
use Rattle.fsrm_model.specs.nodes.Tree.{usage}
use Rattle.fsrm_base.proofs.EditedRows.{absent_later, ascending_tail}
use Rattle.fsrm_base.proofs.Look.{none_row, is_some-find}
use Rattle.fsrm_base.proofs.TestLaws.{eq_is, both, lt_is, lt_test}
use Rattle.quota_usage.specs.declared.change.Counter.{Counter}
use Rattle.quota_usage.specs.Counters.{counted, used_in}
use Rattle.fsrm_parts.specs.Sums.{counter_of, sums_of}
use Rattle.fsrm_model.proofs.valid.QuotasKept.{filter_few}

-- what a quota shows
abbrev pub shown_of : Capacity → List NodeRow → QuotaRow → Option ℕ
shown_of K nodes quota = if counts quota then Some (usage K nodes quota.folder) else None

absent_row : (n : ℕ) (q : QuotaRow) (qs : List QuotaRow) → is_ascending folder_of (q ∷ qs) ≡ true → (folder_of q == n) ≡ true → row_of folder_of n qs ≡ None
absent_row n q qs asc e =
    let same : q.folder ≡ n = eq_is (folder_of q) n e in
    none_row (row_of folder_of n qs) (is_some-find (λ r. folder_of r == n) qs ∙ absent_later folder_of n q qs (omega arith) asc)

-- a counter is found exactly where its quota counts
used_at : (K : Capacity) (nodes : List NodeRow) (n : ℕ) (q : QuotaRow) (qs : List QuotaRow) (b c : Bool) → counts q ≡ b → (folder_of q == n) ≡ c → (c ≡ true → row_of folder_of n qs ≡ None) → used_in (sums_of K nodes qs) n ≡ option_and_then (shown_of K nodes) (row_of folder_of n qs) → used_in (cond b (counter_of K nodes q ∷ sums_of K nodes qs) (sums_of K nodes qs)) n ≡ option_and_then (shown_of K nodes) (cond c (Some q) (row_of folder_of n qs))
used_at K nodes n q qs true true b c none h =
    ap (λ d. option_map (λ (r : Counter). r.bytes) (cond d (Some (counter_of K nodes q)) (row_of counted n (sums_of K nodes qs)))) c
    ∙ sym (ap (λ d. cond d (Some (usage K nodes q.folder)) None) b)
used_at K nodes n q qs true false b c none h =
    ap (λ d. option_map (λ (r : Counter). r.bytes) (cond d (Some (counter_of K nodes q)) (row_of counted n (sums_of K nodes qs)))) c ∙ h
used_at K nodes n q qs false true b c none h =
    h ∙ (ap (option_and_then (shown_of K nodes)) (none refl) ∙ sym (ap (λ d. cond d (Some (usage K nodes q.folder)) None) b))
used_at K nodes n q qs false false b c none h = h

as_cond : (K : Capacity) (nodes : List NodeRow) (q : QuotaRow) (qs : List QuotaRow) (b : Bool) → map (counter_of K nodes) (cond b (q ∷ filter counts qs) (filter counts qs)) ≡ cond b (counter_of K nodes q ∷ sums_of K nodes qs) (sums_of K nodes qs)
as_cond K nodes q qs true = refl
as_cond K nodes q qs false = refl

pub used_sums : (K : Capacity) (nodes : List NodeRow) (n : ℕ) (quotas : List QuotaRow) → is_ascending folder_of quotas ≡ true → used_in (sums_of K nodes quotas) n ≡ option_and_then (shown_of K nodes) (row_of folder_of n quotas)
used_sums K nodes n [] asc = refl
used_sums K nodes n (q ∷ qs) asc =
    ap (λ cs. used_in cs n) (as_cond K nodes q qs (counts q))
    ∙ used_at K nodes n q qs (counts q) (folder_of q == n) refl refl (absent_row n q qs asc) (used_sums K nodes n qs (ascending_tail folder_of q qs asc))

-- the counter of a quota that is found
pub used_found : (K : Capacity) (nodes : List NodeRow) (quotas : List QuotaRow) (n : ℕ) (q : QuotaRow) → is_ascending folder_of quotas ≡ true → row_of folder_of n quotas ≡ Some q → used_in (sums_of K nodes quotas) n ≡ shown_of K nodes q
used_found K nodes quotas n q asc h = used_sums K nodes n quotas asc ∙ ap (option_and_then (shown_of K nodes)) h

-- no more counters than quotas
pub sums_few : (K : Capacity) (nodes : List NodeRow) (quotas : List QuotaRow) → length (sums_of K nodes quotas) ≤ length quotas
sums_few K nodes [] = omega arith
sums_few K nodes (q ∷ qs) = at (counts q) (sums_few K nodes qs)
  where
    at : (b : Bool) → length (sums_of K nodes qs) ≤ length qs → length (map (counter_of K nodes) (cond b (q ∷ filter counts qs) (filter counts qs))) ≤ length (q ∷ qs)
    at true h = omega arith
    at false h = omega arith

-- a folder with a counter has a quota
pub sums_has : (K : Capacity) (nodes : List NodeRow) (n : ℕ) (quotas : List QuotaRow) → has_row counted n (sums_of K nodes quotas) ≡ true → has_row folder_of n quotas ≡ true
sums_has K nodes n [] h = h
sums_has K nodes n (q ∷ qs) h = at (counts q) h (sums_has K nodes n qs)
  where
    later : (b c d : Bool) → (c ≡ true → d ≡ true) → (b || c) ≡ true → (b || d) ≡ true
    later true c d f h = refl
    later false c d f h = f h

    skip : (b d : Bool) → d ≡ true → (b || d) ≡ true
    skip true d h = refl
    skip false d h = h

    at : (b : Bool) → has_row counted n (map (counter_of K nodes) (cond b (q ∷ filter counts qs) (filter counts qs))) ≡ true → (has_row counted n (sums_of K nodes qs) ≡ true → has_row folder_of n qs ≡ true) → ((folder_of q == n) || has_row folder_of n qs) ≡ true
    at true h f = later (folder_of q == n) (has_row counted n (sums_of K nodes qs)) (has_row folder_of n qs) f h
    at false h f = skip (folder_of q == n) (has_row folder_of n qs) (f h)

-- a quota less
pub sums_without : (K : Capacity) (nodes : List NodeRow) (n : ℕ) (quotas : List QuotaRow) → sums_of K nodes (without_row folder_of n quotas) ≡ without_row counted n (sums_of K nodes quotas)
sums_without K nodes n [] = refl
sums_without K nodes n (q ∷ qs) = at (counts q) (folder_of q == n) refl refl (sums_without K nodes n qs)
  where
    put : (b c : Bool) → map (counter_of K nodes) (filter counts (cond (not c) (q ∷ without_row folder_of n qs) (without_row folder_of n qs))) ≡ cond (not c) (map (counter_of K nodes) (cond (counts q) (q ∷ filter counts (without_row folder_of n qs)) (filter counts (without_row folder_of n qs)))) (sums_of K nodes (without_row folder_of n qs))
    put b true = refl
    put b false = refl

    at : (b c : Bool) → counts q ≡ b → (folder_of q == n) ≡ c → sums_of K nodes (without_row folder_of n qs) ≡ without_row counted n (sums_of K nodes qs) → sums_of K nodes (cond (not (folder_of q == n)) (q ∷ without_row folder_of n qs) (without_row folder_of n qs)) ≡ without_row counted n (map (counter_of K nodes) (cond (counts q) (q ∷ filter counts qs) (filter counts qs)))
    at true true b c h = rw (c, b) (h ∙ sym (ap (λ d. cond (not d) (counter_of K nodes q ∷ without_row counted n (sums_of K nodes qs)) (without_row counted n (sums_of K nodes qs))) c))
    at true false b c h = rw (c, b) (ap (λ cs. counter_of K nodes q ∷ cs) h ∙ sym (ap (λ d. cond (not d) (counter_of K nodes q ∷ without_row counted n (sums_of K nodes qs)) (without_row counted n (sums_of K nodes qs))) c))
    at false true b c h = rw (c, b) h
    at false false b c h = rw (c, b) h

-- quotas that keep their folders and whether they count
pub sums_kept : (K : Capacity) (nodes : List NodeRow) (g : QuotaRow → QuotaRow) → ((q : QuotaRow) → (g q).folder ≡ q.folder) → ((q : QuotaRow) → counts (g q) ≡ counts q) → (quotas : List QuotaRow) → sums_of K nodes (map g quotas) ≡ sums_of K nodes quotas
sums_kept K nodes g f c [] = refl
sums_kept K nodes g f c (q ∷ qs) =
    ap (λ b. map (counter_of K nodes) (cond b (g q ∷ filter counts (map g qs)) (filter counts (map g qs)))) (c q)
    ∙ at (counts q) (sums_kept K nodes g f c qs)
  where
    at : (b : Bool) → sums_of K nodes (map g qs) ≡ sums_of K nodes qs → map (counter_of K nodes) (cond b (g q ∷ filter counts (map g qs)) (filter counts (map g qs))) ≡ map (counter_of K nodes) (cond b (q ∷ filter counts qs) (filter counts qs))
    at true h = ap (λ n. record { folder = n; bytes = usage K nodes n } ∷ sums_of K nodes (map g qs)) (f q) ∙ ap (λ cs. counter_of K nodes q ∷ cs) h
    at false h = h

-- counters that follow the sums
pub sums_follow : (K : Capacity) (nodes new : List NodeRow) (g : Counter → Counter) (quotas : List QuotaRow) → AllByRecursion (λ q. g (counter_of K nodes q) ≡ counter_of K new q) quotas → map g (sums_of K nodes quotas) ≡ sums_of K new quotas
sums_follow K nodes new g [] h = refl
sums_follow K nodes new g (q ∷ qs) h = at (counts q) (sums_follow K nodes new g qs h.1)
  where
    at : (b : Bool) → map g (sums_of K nodes qs) ≡ sums_of K new qs → map g (map (counter_of K nodes) (cond b (q ∷ filter counts qs) (filter counts qs))) ≡ map (counter_of K new) (cond b (q ∷ filter counts qs) (filter counts qs))
    at true e = ap (λ c. c ∷ map g (sums_of K nodes qs)) h.0 ∙ ap (λ cs. counter_of K new q ∷ cs) e
    at false e = e

-- a quota more, which counts
before_sums : (K : Capacity) (nodes : List NodeRow) (c : Counter) (r : QuotaRow) (rows : List QuotaRow) → nat_lt c.folder r.folder ≡ true → is_ascending folder_of (r ∷ rows) ≡ true → with_row counted c (sums_of K nodes rows) ≡ c ∷ sums_of K nodes rows
before_sums K nodes c r [] l asc = refl
before_sums K nodes c r (s ∷ rows) l asc =
    let a = both (nat_lt (folder_of r) (folder_of s)) (is_ascending folder_of (s ∷ rows)) asc in
    let more : nat_lt c.folder s.folder ≡ true = lt_more c.folder r.folder s.folder l a.0 in
    at (counts s) more (before_sums K nodes c s rows more a.1)
  where
    lt_more : (x y z : ℕ) → nat_lt x y ≡ true → nat_lt y z ≡ true → nat_lt x z ≡ true
    lt_more x y z p q = let l : x < y = lt_is x y p in let m : y < z = lt_is y z q in lt_test x z (omega arith)

    at : (b : Bool) → nat_lt c.folder s.folder ≡ true → with_row counted c (sums_of K nodes rows) ≡ c ∷ sums_of K nodes rows → with_row counted c (map (counter_of K nodes) (cond b (s ∷ filter counts rows) (filter counts rows))) ≡ c ∷ map (counter_of K nodes) (cond b (s ∷ filter counts rows) (filter counts rows))
    at true m h = ap (λ d. cond d (c ∷ counter_of K nodes s ∷ sums_of K nodes rows) (counter_of K nodes s ∷ with_row counted c (sums_of K nodes rows))) m
    at false m h = h

pub sums_with : (K : Capacity) (nodes : List NodeRow) (q : QuotaRow) (quotas : List QuotaRow) → counts q ≡ true → is_ascending folder_of quotas ≡ true → sums_of K nodes (with_row folder_of q quotas) ≡ with_row counted (counter_of K nodes q) (sums_of K nodes quotas)
sums_with K nodes q [] c asc = ap (λ b. map (counter_of K nodes) (cond b (q ∷ []) [])) c
sums_with K nodes q (r ∷ rows) c asc = at (nat_lt (folder_of q) (folder_of r)) (counts r) refl refl (sums_with K nodes q rows c (ascending_tail folder_of r rows asc))
  where
    at : (b d : Bool) → nat_lt (folder_of q) (folder_of r) ≡ b → counts r ≡ d → sums_of K nodes (with_row folder_of q rows) ≡ with_row counted (counter_of K nodes q) (sums_of K nodes rows) → sums_of K nodes (cond (nat_lt (folder_of q) (folder_of r)) (q ∷ r ∷ rows) (r ∷ with_row folder_of q rows)) ≡ with_row counted (counter_of K nodes q) (map (counter_of K nodes) (cond (counts r) (r ∷ filter counts rows) (filter counts rows)))
    at true true l d h = rw (l, d, c) (sym (ap (λ e. cond e (counter_of K nodes q ∷ counter_of K nodes r ∷ sums_of K nodes rows) (counter_of K nodes r ∷ with_row counted (counter_of K nodes q) (sums_of K nodes rows))) l))
    at true false l d h = rw (l, d, c) (sym (before_sums K nodes (counter_of K nodes q) r rows l asc))
    at false true l d h = rw (l, d) (ap (λ cs. counter_of K nodes r ∷ cs) h ∙ sym (ap (λ e. cond e (counter_of K nodes q ∷ counter_of K nodes r ∷ sums_of K nodes rows) (counter_of K nodes r ∷ with_row counted (counter_of K nodes q) (sums_of K nodes rows))) l))
    at false false l d h = rw (l, d) h

-- a quota more that doesn't count
pub sums_more : (K : Capacity) (nodes : List NodeRow) (q : QuotaRow) (quotas : List QuotaRow) → counts q ≡ false → sums_of K nodes (with_row folder_of q quotas) ≡ sums_of K nodes quotas
sums_more K nodes q [] c = ap (λ b. map (counter_of K nodes) (cond b (q ∷ []) [])) c
sums_more K nodes q (r ∷ rows) c = at (nat_lt (folder_of q) (folder_of r)) (counts r) refl refl (sums_more K nodes q rows c)
  where
    at : (b d : Bool) → nat_lt (folder_of q) (folder_of r) ≡ b → counts r ≡ d → sums_of K nodes (with_row folder_of q rows) ≡ sums_of K nodes rows → sums_of K nodes (cond (nat_lt (folder_of q) (folder_of r)) (q ∷ r ∷ rows) (r ∷ with_row folder_of q rows)) ≡ map (counter_of K nodes) (cond (counts r) (r ∷ filter counts rows) (filter counts rows))
    at true d l e h = rw (l, c) refl
    at false true l e h = rw (l, e) (ap (λ cs. counter_of K nodes r ∷ cs) h)
    at false false l e h = rw (l, e) h

-- whether a folder has a counter
pub counter_found : (counters : List Counter) (n : ℕ) (o : Option ℕ) (b : Bool) → o ≡ used_in counters n → is_some o ≡ b → has_row counted n counters ≡ b
counter_found counters n o b h e =
    sym (is_some-find (λ c. counted c == n) counters) ∙ (sym (mapped (row_of counted n counters)) ∙ (ap is_some (sym h) ∙ e))
  where
    mapped : (o : Option Counter) → is_some (option_map (λ (c : Counter). c.bytes) o) ≡ is_some o
    mapped None = refl
    mapped (Some c) = refl

-- there is room for the counter of a quota that doesn't count yet
pub fewer : {X : Type 0} (key : X → ℕ) (n : ℕ) (rows : List X) → has_row key n rows ≡ true → length (without_row key n rows) < length rows
fewer key n [] h = cc
fewer key n (x ∷ rows) h = at (key x == n) h (filter_few (λ r. not (key r == n)) rows) (fewer key n rows)
  where
    at : (b : Bool) → (b || has_row key n rows) ≡ true → length (without_row key n rows) ≤ length rows → (has_row key n rows ≡ true → length (without_row key n rows) < length rows) → length (cond (not b) (x ∷ without_row key n rows) (without_row key n rows)) < length (x ∷ rows)
    at true h few f = omega arith
    at false h few f = omega (arith, f h)
