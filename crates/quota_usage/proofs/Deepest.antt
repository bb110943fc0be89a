-- The first quota that refuses, on the way up, is the deepest that does.
use Rattle.std.proofs.Common.{◌≡◌, ℕ, ◌+◌, ◌-◌, ◌≤◌, ◌==◌, Bool, true, false, cond, not, ◌&&◌, ◌||◌, inl, inr, List, [], ◌∷◌, Option, Some, None, nat_lt, refl, sym, ◌∙◌, ap, subst, arith}
use Rattle.std.proofs.lemmas.Bool.Decides.{nat_tests}
use Rattle.std.proofs.lemmas.Option.{same_Some}
use Rattle.std.specs.List.{list_all, list_any}
use Rattle.std.specs.Option.{option_and_then, option_map_or}
use Rattle.std.specs.Prelude.{find, filter, option_map, is_some, unwrap_or, if◌then◌else◌}
use Rattle.fsrm_model.specs.declared.row.NodeRow.{NodeRow}
use Rattle.fsrm_model.specs.declared.row.QuotaRow.{QuotaRow}
use Rattle.fsrm_base.specs.Keyed.{row_of, is_ascending}
use Rattle.fsrm_model.specs.objects.Quota.{folder_of, counts, refuses}
use Rattle.fsrm_model.specs.nodes.Tree.{is_under}
use Rattle.fsrm_base.proofs.TestLaws.{both, clash, eq_is, is_or_not, not_true, implied, is_false}
use Rattle.fsrm_model.proofs.nodes.ChainLaws.{IsTree, Has}
use Rattle.fsrm_model.proofs.nodes.Below.{chain_root, each_above}
use Rattle.fsrm_base.proofs.Look.{found_key, found_own, found_passes, found_any, is_some-find}
use Rattle.quota_usage.specs.Charge.{IsThere, is_above, charged, refuses_change, over_by, told_of, exceeded_by}
use Rattle.quota_usage.specs.Climb.{judged, refusal_at, IsFirst, IsNearest, IsNearestTo}
use Rattle.quota_usage.specs.Counters.{used_in}
use Rattle.quota_usage.specs.declared.change.Change.{Change}
use Rattle.quota_usage.specs.declared.change.Counter.{Counter}
use Rattle.quota_usage.specs.declared.change.Exceeded.{Exceeded}
use Rattle.quota_usage.proofs.Meetings.{has_above}
use Rattle.quota_usage.proofs.Refusals.{counted_is, uncounted}

-- a change that rises gives
pub rises_at : (n minus plus : ℕ) (b : Bool) → nat_lt n (n - minus + cond b plus 0) ≡ true → b ≡ true
rises_at n minus plus true h = refl
rises_at n minus plus false h = absurd (no_rise n (n - minus + 0) (omega arith) h)
  where
    no_rise : (n k : ℕ) → k ≤ n → nat_lt n k ≡ true → ⊥
    no_rise n k l h = grind (arith, nat_tests)

refusing_rises : (nodes : List NodeRow) (change : Change) (q : QuotaRow) (n : ℕ) → refuses q n (charged nodes change q.folder n) ≡ true → is_above nodes change.to q.folder ≡ true
refusing_rises nodes change q n h =
    rises_at n (cond (is_above nodes change.from q.folder) change.minus 0) change.plus (is_above nodes change.to q.folder) (both _ _ (both (counts q && q.enforce) _ h).1).0

-- what is judged of a quota
judged_is : (nodes : List NodeRow) (quotas : List QuotaRow) (counters : List Counter) (change : Change) (f : ℕ) (q : QuotaRow) (used : Option ℕ) → row_of folder_of f quotas ≡ Some q → used_in counters q.folder ≡ used → refusal_at nodes quotas counters change f ≡ (if option_map_or (λ bytes. refuses q bytes (charged nodes change q.folder bytes)) used false then Some (record { folder = q.folder; would = charged nodes change q.folder (unwrap_or used 0); limit = q.limit }) else None)
judged_is nodes quotas counters change f q None found e =
    uncounted quotas counters (if is_above nodes change.from f then change.minus else 0) (if is_above nodes change.to f then change.plus else 0) f
    (ap (used_in counters) (sym (found_key folder_of f quotas q found)) ∙ e)
judged_is nodes quotas counters change f q (Some n) found e =
    let key : q.folder ≡ f = found_key folder_of f quotas q found in
    counted_is quotas counters (if is_above nodes change.from f then change.minus else 0) (if is_above nodes change.to f then change.plus else 0) f n q found (ap (used_in counters) (sym key) ∙ e)
    ∙ ap (λ j. judged (if is_above nodes change.from j then change.minus else 0) (if is_above nodes change.to j then change.plus else 0) q n) (sym key)

refusal_is : (nodes : List NodeRow) (quotas : List QuotaRow) (counters : List Counter) (change : Change) (f : ℕ) (q : QuotaRow) → row_of folder_of f quotas ≡ Some q → refusal_at nodes quotas counters change f ≡ (if refuses_change nodes counters change q then Some (told_of nodes counters change q) else None)
refusal_is nodes quotas counters change f q found = judged_is nodes quotas counters change f q (used_in counters q.folder) found refl

-- a quota that refuses is on the way up from where bytes are given
over_at : (nodes : List NodeRow) (change : Change) (q : QuotaRow) (used : Option ℕ) → option_map_or (λ bytes. refuses q bytes (charged nodes change q.folder bytes)) used false ≡ true → is_above nodes change.to q.folder ≡ true
over_at nodes change q None h = cc
over_at nodes change q (Some n) h = refusing_rises nodes change q n h

over_on : (nodes : List NodeRow) (counters : List Counter) (change : Change) (q : QuotaRow) → refuses_change nodes counters change q ≡ true → is_above nodes change.to q.folder ≡ true
over_on nodes counters change q h = over_at nodes change q (used_in counters q.folder) h

no_refusal : (nodes : List NodeRow) (quotas : List QuotaRow) (counters : List Counter) (change : Change) (f : ℕ) (q : QuotaRow) → row_of folder_of f quotas ≡ Some q → refusal_at nodes quotas counters change f ≡ None → refuses_change nodes counters change q ≡ false
no_refusal nodes quotas counters change f q found none =
    not_true _ (λ is.
    let some : refusal_at nodes quotas counters change f ≡ Some (told_of nodes counters change q) =
    refusal_is nodes quotas counters change f q found ∙ ap (λ b. cond b (Some (told_of nodes counters change q)) None) is in
    cc)

-- searches among the rows that pass a test
and_at : {X : Type 0} (T : X → Bool) (x : X) (fs xs : List X) (o : Option X) (b : Bool) → find T fs ≡ o → find T (cond b (x ∷ fs) fs) ≡ cond (b && T x) (Some x) o
and_at T x fs xs o true e = ap (λ o. cond (T x) (Some x) o) e
and_at T x fs xs o false e = e

find-filter_and : {X : Type 0} (p T : X → Bool) (xs : List X) → find T (filter p xs) ≡ find (λ x. p x && T x) xs
find-filter_and p T [] = refl
find-filter_and p T (x ∷ xs) = and_at T x (filter p xs) xs (find (λ x. p x && T x) xs) (p x) (find-filter_and p T xs)

all_at : {X : Type 0} (P : X → Bool) (x : X) (fs : List X) (rest : Bool) (b : Bool) → list_all P fs ≡ rest → list_all P (cond b (x ∷ fs) fs) ≡ ((not b || P x) && rest)
all_at P x fs rest true e = ap (λ r. P x && r) e
all_at P x fs rest false e = e

list_all-filter : {X : Type 0} (p P : X → Bool) (xs : List X) → list_all P (filter p xs) ≡ list_all (λ x. not (p x) || P x) xs
list_all-filter p P [] = refl
list_all-filter p P (x ∷ xs) = all_at P x (filter p xs) (list_all (λ x. not (p x) || P x) xs) (p x) (list_all-filter p P xs)

row_passes : {X : Type 0} (Q : X → Bool) (x a : X) (o : Option X) (b : Bool) → Q x ≡ true → cond b (Some x) o ≡ Some a → (o ≡ Some a → Q a ≡ true) → Q a ≡ true
row_passes Q x a o true q h f = subst (λ y. Q y ≡ true) (same_Some x a h) q
row_passes Q x a o false q h f = f h

all_row : {X : Type 0} (Q : X → Bool) (key : X → ℕ) (n : ℕ) (xs : List X) (a : X) → list_all Q xs ≡ true → row_of key n xs ≡ Some a → Q a ≡ true
all_row Q key n [] a h g = cc
all_row Q key n (x ∷ xs) a h g =
    let parts : (Q x ≡ true) × (list_all Q xs ≡ true) = both _ _ h in
    row_passes Q x a (row_of key n xs) (key x == n) parts.0 g (all_row Q key n xs a parts.1)

record Fails {X : Type 0} (Q : X → Bool) (xs : List X) : Type 0 where
  row : X
  is : find (λ x. not (Q x)) xs ≡ Some row

fails_at : {X : Type 0} (Q : X → Bool) (x : X) (xs : List X) (b : Bool) → Q x ≡ b → (b && list_all Q xs) ≡ false → (list_all Q xs ≡ false → Fails Q xs) → Fails Q (x ∷ xs)
fails_at Q x xs true e h f =
    let g = f h in
    record { row = g.row; is = ap (λ b. cond (not b) (Some x) (find (λ x. not (Q x)) xs)) e ∙ g.is }
fails_at Q x xs false e h f = record { row = x; is = ap (λ b. cond (not b) (Some x) (find (λ x. not (Q x)) xs)) e }

fails : {X : Type 0} (Q : X → Bool) (xs : List X) → list_all Q xs ≡ false → Fails Q xs
fails Q [] h = cc
fails Q (x ∷ xs) h = fails_at Q x xs (Q x) refl h (fails Q xs)

all_rows_pass : {X : Type 0} (Q : X → Bool) (key : X → ℕ) (xs : List X) → is_ascending key xs ≡ true → ((n : ℕ) (a : X) → row_of key n xs ≡ Some a → Q a ≡ true) → list_all Q xs ≡ true
all_rows_pass Q key xs asc h =
    elim (is_or_not (list_all Q xs)) [
      | inl t ↦ t
      | inr t ↦
          let g = fails Q xs t in
          absurd (clash (Q g.row) (h (key g.row) g.row (found_own key (λ x. not (Q x)) xs g.row asc g.is)) (is_false _ (found_passes (λ x. not (Q x)) xs g.row g.is)))
    ]

none_kept : {X : Type 0} (p : X → Bool) (xs : List X) → list_all (λ x. not (p x)) xs ≡ true → filter p xs ≡ []
none_kept p [] h = refl
none_kept p (x ∷ xs) h =
    let parts : (not (p x) ≡ true) × (list_all (λ x. not (p x)) xs ≡ true) = both _ _ h in
    ap (λ b. cond b (x ∷ filter p xs) (filter p xs)) (is_false (p x) parts.0) ∙ none_kept p xs parts.1

-- the quota that refuses
record Refuser (nodes : List NodeRow) (quotas : List QuotaRow) (counters : List Counter) (change : Change) (f : ℕ) (e : Exceeded) : Type 0 where
  quota : QuotaRow
  found : row_of folder_of f quotas ≡ Some quota
  over : refuses_change nodes counters change quota ≡ true
  is : told_of nodes counters change quota ≡ e

refuser_case : (nodes : List NodeRow) (quotas : List QuotaRow) (counters : List Counter) (change : Change) (f : ℕ) (e : Exceeded) (q : QuotaRow) (b : Bool) → refuses_change nodes counters change q ≡ b → row_of folder_of f quotas ≡ Some q → cond b (Some (told_of nodes counters change q)) None ≡ Some e → Refuser nodes quotas counters change f e
refuser_case nodes quotas counters change f e q true o found h = record { quota = q; found = found; over = o; is = same_Some (told_of nodes counters change q) e h }
refuser_case nodes quotas counters change f e q false o found h = cc

refuser_of : (nodes : List NodeRow) (quotas : List QuotaRow) (counters : List Counter) (change : Change) (f : ℕ) (e : Exceeded) (o : Option QuotaRow) → row_of folder_of f quotas ≡ o → refusal_at nodes quotas counters change f ≡ Some e → Refuser nodes quotas counters change f e
refuser_of nodes quotas counters change f e None is h =
    let minus = if is_above nodes change.from f then change.minus else 0 in
    let plus = if is_above nodes change.to f then change.plus else 0 in
    let none : refusal_at nodes quotas counters change f ≡ None = ap (option_and_then (λ quota. option_and_then (judged minus plus quota) (used_in counters f))) is in
    cc
refuser_of nodes quotas counters change f e (Some q) is h =
    refuser_case nodes quotas counters change f e q (refuses_change nodes counters change q) refl is (sym (refusal_is nodes quotas counters change f q is) ∙ h)

implies : (a b : Bool) → (a ≡ true → b ≡ true) → (not a || b) ≡ true
implies true b h = h refl
implies false b h = refl

one_place : (nodes : List NodeRow) → IsTree nodes → (x f : ℕ) → Has nodes x → Has nodes f → is_under nodes x f ≡ true → is_under nodes f x ≡ true → f ≡ x
one_place nodes t x f hx hf up down =
    elim (is_or_not (x == 0)) [
      | inl z ↦
          let zero : x ≡ 0 = eq_is x 0 z in
          let at : is_under nodes f 0 ≡ true = subst (λ j. is_under nodes f j ≡ true) zero down in
          let is : 0 ≡ f = eq_is 0 f (sym (chain_root nodes f) ∙ at) in
          sym is ∙ sym zero
      | inr z ↦ sym (eq_is x f (each_above nodes t x f z hx hf up down))
    ]

-- what is searched: a quota that refuses, at or below each other that does
abbrev pub is_deepest : List NodeRow → List QuotaRow → List Counter → Change → QuotaRow → Bool
is_deepest nodes quotas counters change q =
    refuses_change nodes counters change q && list_all (λ above. is_under nodes above.folder q.folder) (over_by nodes quotas counters change)

-- a change that gives to the way up from d
pub record Gives (nodes : List NodeRow) (quotas : List QuotaRow) (change : Change) (d : ℕ) : Type 0 where
  pub tree : IsTree nodes
  pub to : change.to ≡ Some d
  pub has_to : Has nodes d
  pub ascending : is_ascending folder_of quotas ≡ true

on_way : (nodes : List NodeRow) (quotas : List QuotaRow) (counters : List Counter) (change : Change) (d : ℕ) (q : QuotaRow) → Gives nodes quotas change d → refuses_change nodes counters change q ≡ true → is_under nodes q.folder d ≡ true
on_way nodes quotas counters change d q c is = ap (λ o. is_above nodes o q.folder) (sym c.to) ∙ over_on nodes counters change q is

-- if none refuses
none_over : (nodes : List NodeRow) (quotas : List QuotaRow) (counters : List Counter) (change : Change) → is_ascending folder_of quotas ≡ true → ((f : ℕ) (q : QuotaRow) → row_of folder_of f quotas ≡ Some q → refuses_change nodes counters change q ≡ false) → over_by nodes quotas counters change ≡ []
none_over nodes quotas counters change a h =
    none_kept (refuses_change nodes counters change) quotas
    (all_rows_pass (λ q. not (refuses_change nodes counters change q)) folder_of quotas a (λ f q found. ap not (h f q found)))

pub admitted_to : (nodes : List NodeRow) (quotas : List QuotaRow) (counters : List Counter) (change : Change) (d : ℕ) → Gives nodes quotas change d → IsNearest nodes (refusal_at nodes quotas counters change) d None → over_by nodes quotas counters change ≡ []
admitted_to nodes quotas counters change d c n =
    none_over nodes quotas counters change c.ascending
    (λ f q found.
    not_true _ (λ is.
    let key : q.folder ≡ f = found_key folder_of f quotas q found in
    let on : is_under nodes f d ≡ true = subst (λ j. is_under nodes j d ≡ true) key (on_way nodes quotas counters change d q c is) in
    clash _ is (no_refusal nodes quotas counters change f q found (n f on))))

pub admitted_nowhere : (nodes : List NodeRow) (quotas : List QuotaRow) (counters : List Counter) (change : Change) → is_ascending folder_of quotas ≡ true → change.to ≡ None → over_by nodes quotas counters change ≡ []
admitted_nowhere nodes quotas counters change a e =
    none_over nodes quotas counters change a
    (λ f q found. not_true _ (λ is. clash (is_above nodes change.to q.folder) (over_on nodes counters change q is) (ap (λ o. is_above nodes o q.folder) e)))

-- if one refuses
above_first : (nodes : List NodeRow) (quotas : List QuotaRow) (counters : List Counter) (change : Change) (d : ℕ) (x : Exceeded) → Gives nodes quotas change d → (n : IsFirst nodes (refusal_at nodes quotas counters change) d x) → (f : ℕ) (q : QuotaRow) → row_of folder_of f quotas ≡ Some q → refuses_change nodes counters change q ≡ true → is_under nodes f n.place ≡ true
above_first nodes quotas counters change d x c n f q found is =
    elim (is_or_not (is_under nodes f n.place)) [
      | inl t ↦ t
      | inr t ↦
          let key : q.folder ≡ f = found_key folder_of f quotas q found in
          let on : is_under nodes f d ≡ true = subst (λ j. is_under nodes j d ≡ true) key (on_way nodes quotas counters change d q c is) in
          absurd (clash _ is (no_refusal nodes quotas counters change f q found (n.below f on t)))
    ]

deepest_some : (nodes : List NodeRow) (quotas : List QuotaRow) (counters : List Counter) (change : Change) (d : ℕ) (x : Exceeded) → Gives nodes quotas change d → (n : IsFirst nodes (refusal_at nodes quotas counters change) d x) → (r : Option QuotaRow) → find (is_deepest nodes quotas counters change) quotas ≡ r → list_any (is_deepest nodes quotas counters change) quotas ≡ true → option_map (told_of nodes counters change) r ≡ Some x
deepest_some nodes quotas counters change d x c n None e any = absurd (clash _ any (sym (is_some-find (is_deepest nodes quotas counters change) quotas) ∙ ap is_some e))
deepest_some nodes quotas counters change d x c n (Some q) e any =
    let w = refuser_of nodes quotas counters change n.place x (row_of folder_of n.place quotas) refl n.refused in
    let key : w.quota.folder ≡ n.place = found_key folder_of n.place quotas w.quota w.found in
    let found = found_own folder_of (is_deepest nodes quotas counters change) quotas q c.ascending e in
    let parts = both (refuses_change nodes counters change q) (list_all (λ (above : QuotaRow). is_under nodes above.folder q.folder) (over_by nodes quotas counters change)) (found_passes (is_deepest nodes quotas counters change) quotas q e) in
    let on : is_under nodes q.folder d ≡ true = on_way nodes quotas counters change d q c parts.0 in
    let each : list_all (λ (a : QuotaRow). not (refuses_change nodes counters change a) || is_under nodes a.folder q.folder) quotas ≡ true = sym (list_all-filter (refuses_change nodes counters change) (λ (above : QuotaRow). is_under nodes above.folder q.folder) quotas) ∙ parts.1 in
    let up : is_under nodes w.quota.folder q.folder ≡ true = implied (refuses_change nodes counters change w.quota) _ (all_row (λ (a : QuotaRow). not (refuses_change nodes counters change a) || is_under nodes a.folder q.folder) folder_of n.place quotas w.quota each w.found) w.over in
    let up_place : is_under nodes n.place q.folder ≡ true = subst (λ j. is_under nodes j q.folder ≡ true) key up in
    let down : is_under nodes q.folder n.place ≡ true = above_first nodes quotas counters change d x c n q.folder q found parts.0 in
    let place : q.folder ≡ n.place = one_place nodes c.tree n.place q.folder (has_above nodes c.tree n.place d c.has_to n.on) (has_above nodes c.tree q.folder d c.has_to on) up_place down in
    let same : q ≡ w.quota = same_Some q w.quota (sym found ∙ (ap (λ f. row_of folder_of f quotas) place ∙ w.found)) in
    ap (λ (q : QuotaRow). Some (told_of nodes counters change q)) same ∙ ap Some w.is

pub refused_to : (nodes : List NodeRow) (quotas : List QuotaRow) (counters : List Counter) (change : Change) (d : ℕ) (x : Exceeded) → Gives nodes quotas change d → IsFirst nodes (refusal_at nodes quotas counters change) d x → exceeded_by nodes quotas counters change ≡ Some x
refused_to nodes quotas counters change d x c n =
    let w = refuser_of nodes quotas counters change n.place x (row_of folder_of n.place quotas) refl n.refused in
    let key : w.quota.folder ≡ n.place = found_key folder_of n.place quotas w.quota w.found in
    let all : list_all (λ (above : QuotaRow). is_under nodes above.folder w.quota.folder) (over_by nodes quotas counters change) ≡ true =
    list_all-filter (refuses_change nodes counters change) (λ (above : QuotaRow). is_under nodes above.folder w.quota.folder) quotas
    ∙ all_rows_pass (λ (q : QuotaRow). not (refuses_change nodes counters change q) || is_under nodes q.folder w.quota.folder) folder_of quotas c.ascending
    (λ f q found.
    implies (refuses_change nodes counters change q) _ (λ is.
    let own : q.folder ≡ f = found_key folder_of f quotas q found in
    ap (is_under nodes q.folder) key ∙ subst (λ j. is_under nodes j n.place ≡ true) (sym own) (above_first nodes quotas counters change d x c n f q found is))) in
    let passes : is_deepest nodes quotas counters change w.quota ≡ true = ap (λ b. b && list_all (λ (above : QuotaRow). is_under nodes above.folder w.quota.folder) (over_by nodes quotas counters change)) w.over ∙ all in
    ap (option_map (told_of nodes counters change)) (find-filter_and (refuses_change nodes counters change) (λ (q : QuotaRow). list_all (λ (above : QuotaRow). is_under nodes above.folder q.folder) (over_by nodes quotas counters change)) quotas)
    ∙ deepest_some nodes quotas counters change d x c n (find (is_deepest nodes quotas counters change) quotas) refl
    (found_any folder_of (is_deepest nodes quotas counters change) n.place quotas w.quota w.found passes)

-- with a way up or without
admitted_by : (nodes : List NodeRow) (quotas : List QuotaRow) (counters : List Counter) (change : Change) (to : Option ℕ) → IsTree nodes → is_ascending folder_of quotas ≡ true → change.to ≡ to → IsThere nodes to → IsNearestTo nodes (refusal_at nodes quotas counters change) to None → over_by nodes quotas counters change ≡ []
admitted_by nodes quotas counters change None t a e h n = admitted_nowhere nodes quotas counters change a e
admitted_by nodes quotas counters change (Some d) t a e h n = admitted_to nodes quotas counters change d (record { tree = t; to = e; has_to = h; ascending = a }) n

refused_by : (nodes : List NodeRow) (quotas : List QuotaRow) (counters : List Counter) (change : Change) (x : Exceeded) (to : Option ℕ) → IsTree nodes → is_ascending folder_of quotas ≡ true → change.to ≡ to → IsThere nodes to → IsNearestTo nodes (refusal_at nodes quotas counters change) to (Some x) → exceeded_by nodes quotas counters change ≡ Some x
refused_by nodes quotas counters change x None t a e h n = cc
refused_by nodes quotas counters change x (Some d) t a e h n = refused_to nodes quotas counters change d x (record { tree = t; to = e; has_to = h; ascending = a }) n

pub admitted : (nodes : List NodeRow) (quotas : List QuotaRow) (counters : List Counter) (change : Change) (o : Option Exceeded) → IsTree nodes → is_ascending folder_of quotas ≡ true → IsThere nodes change.to → IsNearestTo nodes (refusal_at nodes quotas counters change) change.to o → o ≡ None → over_by nodes quotas counters change ≡ []
admitted nodes quotas counters change o t a h n e =
    admitted_by nodes quotas counters change change.to t a refl h (subst (IsNearestTo nodes (refusal_at nodes quotas counters change) change.to) e n)

pub refused : (nodes : List NodeRow) (quotas : List QuotaRow) (counters : List Counter) (change : Change) (x : Exceeded) (o : Option Exceeded) → IsTree nodes → is_ascending folder_of quotas ≡ true → IsThere nodes change.to → IsNearestTo nodes (refusal_at nodes quotas counters change) change.to o → o ≡ Some x → exceeded_by nodes quotas counters change ≡ Some x
refused nodes quotas counters change x o t a h n e =
    refused_by nodes quotas counters change x change.to t a refl h (subst (IsNearestTo nodes (refusal_at nodes quotas counters change) change.to) e n)
