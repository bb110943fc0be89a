-- A quota that counts and is enforced lets no usage rise above its limit.
use Rattle.std.proofs.Common.{◌≡◌, ℕ, ◌+◌, ◌<◌, ◌≤◌, ◌==◌, Bool, true, false, cond, not, ◌&&◌, ◌⊎◌, inl, inr, List, [], ◌∷◌, length, refl, sym, ◌∙◌, ap, subst, arith, Some, None, Option}
use Rattle.std.specs.Prelude.{nat_lt, filter, is_some, option_map}
use Rattle.std.specs.List.{AllByRecursion, list_all, list_any}
use Rattle.std.proofs.lemmas.Bool.{and_parts, and_from, ltb-false, cases_Bool}
use Rattle.fsrm_model.specs.declared.command.FileOp.{FileOp}
use Rattle.fsrm_model.specs.declared.command.FileOp.TheVariants.{Mkdir, Create, Resize, Touch, Move, Remove}
use Rattle.fsrm_model.specs.declared.command.Refusal.TheVariants.{PathNotFound, QuotaExceeded}
use Rattle.fsrm_model.specs.declared.row.Capacity.{Capacity}
use Rattle.fsrm_model.specs.declared.row.NodeRow.{NodeRow}
use Rattle.fsrm_model.specs.declared.row.QuotaRow.{QuotaRow}
use Rattle.fsrm_model.specs.declared.row.Rows.{Rows}
use Rattle.fsrm_model.specs.commands.Check.{◌when◌, first, table_full, texts_full}
use Rattle.fsrm_model.specs.meaning.Exceeds.{IsOver}
use Rattle.fsrm_model.specs.nodes.FileOps.{target, target_folder, new_node, resized, touched, placed, plain}
use Rattle.fsrm_model.specs.commands.FileWork.{judged_name, blocked, move_checks, remove_checks, file_checks, file_effect}
use Rattle.fsrm_base.specs.Keyed.{has_row, with_row}
use Rattle.fsrm_model.specs.nodes.Leads.{leads_to_file}
use Rattle.fsrm_model.specs.objects.Quota.{folder_of, quota_of, counts, refuses, over, deepest, exceeded}
use Rattle.fsrm_model.specs.values.Space.{space}
use Rattle.fsrm_model.specs.nodes.Tree.{number, is_folder, chain, is_under, usage, last_name, fresh}
use Rattle.fsrm_model.specs.store.Valid.{IsValid}
use Rattle.fsrm_base.proofs.TestLaws.{is_or_not, lt_is, clash, or_later, eq_is}
use Rattle.fsrm_model.proofs.nodes.ChainLaws.{IsTree, Has, chain-new_other, usage-new}
use Rattle.fsrm_base.specs.Numbers.{is_in}
use Rattle.fsrm_base.proofs.EditedRows.{all_rows}
use Rattle.fsrm_model.proofs.nodes.ChangeLaws.{KeepsPlace, chain-change, usage-change}
use Rattle.fsrm_model.proofs.nodes.MoveLaws.{KeepsSpace, usage-moved, under_other}
use Rattle.fsrm_model.proofs.nodes.RemoveLaws.{usage-removed}
use Rattle.fsrm_model.proofs.nodes.Below.{above_all, usage-moved_below}
use Rattle.fsrm_model.proofs.nodes.Climbs.{one_is_above, under_own}
use Rattle.fsrm_model.proofs.commands.FileParts.{NewChecks, new_parts, file_at, may_go, move_parts}
use Rattle.fsrm_model.proofs.nodes.Keeps.{tree_of, zero_apart, as_suc, moves_at, removes_of}
use Rattle.fsrm_base.proofs.Look.{found_key, has_found, found_any, is_some-find}
use Rattle.fsrm_base.proofs.Order.{least_free_is}
use Rattle.fsrm_model.proofs.commands.Orderly.{Rising, IsWithin, first_none}
use Rattle.fsrm_model.proofs.commands.QuotaLaws.{over_test}
use Rattle.fsrm_model.proofs.valid.ValidLaws.{folder_has}

-- if each of two is below the other, one is below all
record IsOrder {X : Type 0} (above : X → X → Bool) (Good : X → Type 0) : Type 0 where
  itself : (a : X) → above a a ≡ true
  total : (a b : X) → Good a → Good b → (above a b ≡ true) ⊎ (above b a ≡ true)
  joined : (a b c : X) → Good a → Good b → Good c → above a b ≡ true → above b c ≡ true → above a c ≡ true

record Lowest {X : Type 0} (above : X → X → Bool) (Good : X → Type 0) (xs : List X) : Type 0 where
  lowest : X
  good : Good lowest
  there : (p : X → Bool) → p lowest ≡ true → list_any p xs ≡ true
  each : list_all (λ a. above a lowest) xs ≡ true

all_joined : {X : Type 0} (above : X → X → Bool) (Good : X → Type 0) → IsOrder above Good → (b c : X) → Good b → Good c → above b c ≡ true → (xs : List X) → AllByRecursion Good xs → list_all (λ a. above a b) xs ≡ true → list_all (λ a. above a c) xs ≡ true
all_joined above Good o b c gb gc low [] each h = refl
all_joined above Good o b c gb gc low (a ∷ xs) each h =
    let parts = and_parts (above a b) (list_all (λ a. above a b) xs) h in
    and_from (above a c) (list_all (λ a. above a c) xs) (o.joined a b c each.0 gb gc parts.0 low) (all_joined above Good o b c gb gc low xs each.1 parts.1)

lowest_of : {X : Type 0} (above : X → X → Bool) (Good : X → Type 0) → IsOrder above Good → (x : X) (xs : List X) → AllByRecursion Good (x ∷ xs) → Lowest above Good (x ∷ xs)
lowest_of above Good o x [] each =
    record { lowest = x; good = each.0; there = λ p h. rw h refl; each = and_from (above x x) true (o.itself x) refl }
lowest_of above Good o x (y ∷ ys) each =
    let t = lowest_of above Good o y ys each.1 in
    elim (o.total x t.lowest each.0 t.good) [
      | inl below ↦ record {
        lowest = t.lowest;
        good = t.good;
        there = λ p h. or_later (p x) (list_any p (y ∷ ys)) (t.there p h);
        each = and_from (above x t.lowest) (list_all (λ a. above a t.lowest) (y ∷ ys)) below t.each;
      }
      | inr low ↦ record {
        lowest = x;
        good = each.0;
        there = λ p h. rw h refl;
        each = and_from (above x x) (list_all (λ a. above a x) (y ∷ ys)) (o.itself x) (all_joined above Good o t.lowest x t.good each.0 low (y ∷ ys) each.1 t.each);
      }
    ]

under_joined : (nodes : List NodeRow) → IsTree nodes → (a b c : ℕ) → Has nodes b → Has nodes c → is_under nodes a b ≡ true → is_under nodes b c ≡ true → is_under nodes a c ≡ true
under_joined nodes t a b c hb hc f g =
    elim (is_or_not (a == 0)) [
      | inl e ↦ subst (λ (j : ℕ). is_under nodes j c ≡ true) (sym (eq_is a 0 e)) (t.rooted c hc)
      | inr e ↦ above_all nodes t a b c e hb hc g f
    ]

-- a folder above a node, whose way up stays
record Stays (old new : List NodeRow) (t f : ℕ) : Type 0 where
  has : Has old f
  under : is_under old f t ≡ true
  same : chain new f ≡ chain old f

abbrev GoodQuota : List NodeRow → List NodeRow → ℕ → QuotaRow → Type 0
GoodQuota old new t quota = Stays old new t quota.folder

order_of : (old new : List NodeRow) → IsTree old → (t : ℕ) → Has old t → IsOrder (λ a b. is_under new a.folder b.folder) (GoodQuota old new t)
order_of old new tree t h = record {
  itself = λ a. under_own new a.folder;
  total = λ a b ga gb. elim (one_is_above old tree t a.folder b.folder h ga.under gb.under) [
    | inl e ↦ inl (ap (λ ns. is_in ns a.folder) gb.same ∙ e)
    | inr e ↦ inr (ap (λ ns. is_in ns b.folder) ga.same ∙ e)
  ];
  joined = λ a b c ga gb gc f g. ap (λ ns. is_in ns a.folder) gc.same ∙ under_joined old tree a.folder b.folder c.folder gb.has gc.has (sym (ap (λ ns. is_in ns a.folder) gb.same) ∙ f) (sym (ap (λ ns. is_in ns b.folder) gc.same) ∙ g);
}

-- if no quota refuses, none would
none_deepest : (old new : List NodeRow) → IsTree old → (t : ℕ) → Has old t → (quotas : List QuotaRow) → AllByRecursion (GoodQuota old new t) quotas → deepest new quotas ≡ None → quotas ≡ []
none_deepest old new tree t h [] each none = refl
none_deepest old new tree t h (x ∷ xs) each none =
    let above : QuotaRow → QuotaRow → Bool = λ a b. is_under new a.folder b.folder in
    let test : QuotaRow → Bool = λ q. list_all (λ a. above a q) (x ∷ xs) in
    let low = lowest_of above (GoodQuota old new t) (order_of old new tree t h) x xs each in
    absurd (clash (list_any test (x ∷ xs)) (low.there test low.each) (sym (is_some-find test (x ∷ xs)) ∙ ap is_some none))

filter_each : {X : Type 0} (p : X → Bool) (P : X → Type 0) (xs : List X) → AllByRecursion (λ x. p x ≡ true → P x) xs → AllByRecursion P (filter p xs)
filter_each p P [] each = tt
filter_each p P (x ∷ xs) each = elim (cases_Bool (p x)) [
  | inl e ↦ rw e (each.0 e, filter_each p P xs each.1)
  | inr e ↦ rw e (filter_each p P xs each.1)
]

filter_empty : {X : Type 0} (p : X → Bool) (xs : List X) → filter p xs ≡ [] → list_any p xs ≡ false
filter_empty p [] h = refl
filter_empty p (x ∷ xs) h = elim (cases_Bool (p x)) [
  | inl e ↦ let kept = rw e at h in absurd (cc kept)
  | inr e ↦ let rest = rw e at h in rw e (filter_empty p xs rest)
]

none_mapped : {X Y : Type 0} (f : X → Y) (o : Option X) → option_map f o ≡ None → o ≡ None
none_mapped f None h = refl
none_mapped f (Some x) h = absurd (cc h)

no_quota_over : (K : Capacity) (R : Rows) (new : List NodeRow) (t : ℕ) → IsValid K R → Has R.nodes t → ((f : ℕ) → is_folder R.nodes f ≡ true → usage K R.nodes f < usage K new f → Stays R.nodes new t f) → exceeded K R new ≡ None → (folder : ℕ) (quota : QuotaRow) → Rising K R new folder quota → usage K new folder ≤ quota.limit
no_quota_over K R new t store h grows none folder quota r =
    let rises : QuotaRow → Bool = λ q. refuses q (usage K R.nodes q.folder) (usage K new q.folder) in
    let good : AllByRecursion (λ q. rises q ≡ true → GoodQuota R.nodes new t q) R.quotas = all_rows folder_of (λ q. rises q ≡ true → GoodQuota R.nodes new t q) R.quotas (λ q has e.
    let found = has_found folder_of q.folder R.quotas has in
    let halves = and_parts (counts q && q.enforce) (nat_lt (usage K R.nodes q.folder) (usage K new q.folder) && nat_lt q.limit (usage K new q.folder)) e in
    let sizes = and_parts (nat_lt (usage K R.nodes q.folder) (usage K new q.folder)) (nat_lt q.limit (usage K new q.folder)) halves.1 in
    grows q.folder (store.quotas.folders q.folder found.row found.is) (lt_is (usage K R.nodes q.folder) (usage K new q.folder) sizes.0)) in
    let empty : over K R new ≡ [] = none_deepest R.nodes new (tree_of K R.nodes store.volume) t h (over K R new) (filter_each rises (GoodQuota R.nodes new t) R.quotas good) (none_mapped (λ q. QuotaExceeded q.folder (usage K new q.folder) q.limit) (deepest new (over K R new)) none) in
    elim (is_or_not (nat_lt quota.limit (usage K new folder))) [
      | inr e ↦ ltb-false quota.limit (usage K new folder) e
      | inl e ↦
          let key : quota.folder ≡ folder = found_key folder_of folder R.quotas quota r.there in
          let o : IsOver K R new folder quota = record { is_there = r.there; counting = r.counting; enforced = r.enforced; rises = r.rises; above = lt_is quota.limit (usage K new folder) e } in
          let test : rises quota ≡ true = subst (λ (f : ℕ). refuses quota (usage K R.nodes f) (usage K new f) ≡ true) (sym key) (over_test K R new folder quota o) in
          absurd (clash (list_any rises R.quotas) (found_any folder_of rises folder R.quotas quota r.there test) (filter_empty rises R.quotas empty))
    ]

-- how a usage rises
added : (b : Bool) (old new s : ℕ) → new ≡ old + cond b s 0 → old < new → b ≡ true
added true old new s e l = refl
added false old new s e l = absurd (omega (arith, e))

added_nothing : (b : Bool) (old new : ℕ) → new ≡ old + cond b 0 0 → old < new → ⊥
added_nothing true old new e l = omega (arith, e)
added_nothing false old new e l = omega (arith, e)

changed : (b : Bool) (old new s s' : ℕ) → new + cond b s 0 ≡ old + cond b s' 0 → old < new → b ≡ true
changed true old new s s' e l = refl
changed false old new s s' e l = absurd (omega (arith, e))

moved : (b c : Bool) (old new s : ℕ) → new + cond b s 0 ≡ old + cond c s 0 → old < new → c ≡ true
moved b true old new s e l = refl
moved b false old new s e l = absurd (omega (arith, e))

-- a file operation that no check refuses
abbrev pub Kept : Capacity → Rows → FileOp → ℕ → Type 0
Kept K R op moment = IsWithin K R (plain R.nodes op moment)

quota_has : (K : Capacity) (R : Rows) (folder : ℕ) (quota : QuotaRow) → IsValid K R → quota_of R folder ≡ Some quota → Has R.nodes folder
quota_has K R folder quota store there = folder_has R.nodes folder (store.quotas.folders folder quota there)

-- a new node in a folder
used_new : (K : Capacity) (R : Rows) (node : NodeRow) → IsValid K R → node.number ≡ fresh R.nodes → is_folder R.nodes node.parent ≡ true → (f : ℕ) → Has R.nodes f → (usage K (with_row number node R.nodes) f ≡ usage K R.nodes f + cond (is_under R.nodes f node.parent) (space K node) 0) × (chain (with_row number node R.nodes) f ≡ chain R.nodes f)
used_new K R node store own parent f h =
    let tree = tree_of K R.nodes store.volume in
    let free : has_row number node.number R.nodes ≡ false = ap (λ n. has_row number n R.nodes) own ∙ (least_free_is number R.nodes store.volume.ascending).free in
    let s = as_suc node.number (zero_apart R.nodes node.number store.volume.has_root free) in
    (usage-new K R.nodes tree node s.0 s.1 free (folder_has R.nodes node.parent parent) f h, chain-new_other R.nodes tree node free f h)

mkdir_kept : (K : Capacity) (R : Rows) (path : List (List ℕ)) (owner moment : ℕ) → IsValid K R → NewChecks K R path (file_effect R (Mkdir path owner) moment) (table_full (file_effect R (Mkdir path owner) moment) ∷ texts_full (file_effect R (Mkdir path owner) moment) ∷ []) → Kept K R (Mkdir path owner) moment
mkdir_kept K R path owner moment store h folder quota r =
    let node = new_node R.nodes path true 0 owner moment in
    let after = file_effect R (Mkdir path owner) moment in
    let p = new_parts K R path after (table_full after ∷ texts_full after ∷ []) store.volume h in
    let used = used_new K R node store refl p.0.place.folder folder (quota_has K R folder quota store r.there) in
    absurd (added_nothing (is_under R.nodes folder node.parent) (usage K R.nodes folder) (usage K (plain R.nodes (Mkdir path owner) moment) folder) used.0 r.rises)

create_kept : (K : Capacity) (R : Rows) (path : List (List ℕ)) (length owner moment : ℕ) → IsValid K R → NewChecks K R path (file_effect R (Create path length owner) moment) (blocked (judged_name R (Create path length owner)) ∷ exceeded K R (plain R.nodes (Create path length owner) moment) ∷ []) → Kept K R (Create path length owner) moment
create_kept K R path length owner moment store h folder quota r =
    let node = new_node R.nodes path false length owner moment in
    let new = plain R.nodes (Create path length owner) moment in
    let judged = blocked (judged_name R (Create path length owner)) in
    let p = new_parts K R path (file_effect R (Create path length owner) moment) (judged ∷ exceeded K R new ∷ []) store.volume h in
    let none = first_none (exceeded K R new) [] (first_none judged (exceeded K R new ∷ []) p.1).1 in
    no_quota_over K R new node.parent store (folder_has R.nodes node.parent p.0.place.folder)
    (λ f is rise.
    let has = folder_has R.nodes f is in
    let used = used_new K R node store refl p.0.place.folder f has in
    record { has = has; under = added (is_under R.nodes f node.parent) (usage K R.nodes f) (usage K new f) (space K node) used.0 rise; same = used.1 })
    none.0 folder quota r

resize_kept : (K : Capacity) (R : Rows) (path : List (List ℕ)) (length moment : ℕ) → IsValid K R → first ((PathNotFound when not (leads_to_file R.nodes path)) ∷ exceeded K R (plain R.nodes (Resize path length) moment) ∷ []) ≡ None → Kept K R (Resize path length) moment
resize_kept K R path length moment store h folder quota r =
    let new = plain R.nodes (Resize path length) moment in
    let n = target R.nodes path in
    let a = first_none (PathNotFound when not (leads_to_file R.nodes path)) (exceeded K R new ∷ []) h in
    let none = first_none (exceeded K R new) [] a.1 in
    let there = (file_at K R.nodes path store.volume a.0).has in
    let found = has_found number n R.nodes there in
    let own : found.row.number ≡ n = found_key number n R.nodes found.row found.is in
    let keeps : KeepsPlace (resized length moment) = record { same_number = λ r. refl; same_parent = λ r. refl } in
    no_quota_over K R new n store there
    (λ f is rise.
    let e = usage-change K R.nodes n (resized length moment) keeps store.volume.ascending found.row found.is f in
    let under = changed (is_under R.nodes f found.row.number) (usage K R.nodes f) (usage K new f) (space K found.row) (space K (resized length moment found.row)) e rise in
    record {
      has = folder_has R.nodes f is;
      under = subst (λ (j : ℕ). is_under R.nodes f j ≡ true) own under;
      same = chain-change n (resized length moment) keeps R.nodes f;
    })
    none.0 folder quota r

touch_kept : (K : Capacity) (R : Rows) (path : List (List ℕ)) (moment : ℕ) → IsValid K R → first ((PathNotFound when not (leads_to_file R.nodes path)) ∷ []) ≡ None → Kept K R (Touch path) moment
touch_kept K R path moment store h folder quota r =
    let n = target R.nodes path in
    let a = first_none (PathNotFound when not (leads_to_file R.nodes path)) [] h in
    let found = has_found number n R.nodes (file_at K R.nodes path store.volume a.0).has in
    let keeps : KeepsPlace (touched moment) = record { same_number = λ r. refl; same_parent = λ r. refl } in
    let e = usage-change K R.nodes n (touched moment) keeps store.volume.ascending found.row found.is folder in
    let rises = r.rises in
    absurd (omega (arith, e, rises))

remove_kept : (K : Capacity) (R : Rows) (path : List (List ℕ)) (moment : ℕ) → IsValid K R → first (remove_checks R path) ≡ None → Kept K R (Remove path) moment
remove_kept K R path moment store h folder quota r =
    let x = target R.nodes path in
    let leaf = may_go K R path store.volume h in
    let goes = removes_of K R.nodes x store.volume leaf in
    let e = usage-removed K R.nodes x goes store.volume.ascending leaf.row leaf.found folder in
    let rises = r.rises in
    absurd (omega (arith, e, rises))

move_kept : (K : Capacity) (R : Rows) (from to : List (List ℕ)) (moment : ℕ) → IsValid K R → first (move_checks K R from to (file_effect R (Move from to) moment)) ≡ None → Kept K R (Move from to) moment
move_kept K R from to moment store h folder quota r =
    let old = R.nodes in
    let new = plain R.nodes (Move from to) moment in
    let after = file_effect R (Move from to) moment in
    let x = target old from in
    let d = target_folder old to in
    let p = move_parts K R from to after store.volume h in
    let d_has = folder_has old d p.place.folder in
    let m = moves_at old x d (last_name to) p.row (tree_of K old store.volume) p.found p.inner p.place.folder p.apart in
    let keeps : KeepsSpace K (placed d (last_name to)) = record { same_number = λ r. refl; same_space = λ r. refl } in
    no_quota_over K R new d store d_has
    (λ f is rise.
    let has = folder_has old f is in
    elim (is_or_not (is_under old x f)) [
      | inl above ↦ let e = usage-moved_below K old x d (placed d (last_name to)) keeps m f has above in absurd (omega (arith, e, rise))
      | inr lacks ↦ record {
        has = has;
        under = moved (is_under old f x) (is_under old f d) (usage K old f) (usage K new f) (usage K old x) (usage-moved K old x d (placed d (last_name to)) keeps m f (record { has = has; lacks = lacks })) rise;
        same = under_other old new x d m f lacks;
      }
    ])
    p.unexceeded folder quota r

pub op_within : (K : Capacity) (R : Rows) (op : FileOp) (moment : ℕ) → IsValid K R → first (file_checks K R op (file_effect R op moment)) ≡ None → Kept K R op moment
op_within K R (Mkdir path owner) moment store h = mkdir_kept K R path owner moment store h
op_within K R (Create path length owner) moment store h = create_kept K R path length owner moment store h
op_within K R (Resize path length) moment store h = resize_kept K R path length moment store h
op_within K R (Touch path) moment store h = touch_kept K R path moment store h
op_within K R (Move from to) moment store h = move_kept K R from to moment store h
op_within K R (Remove path) moment store h = remove_kept K R path moment store h
