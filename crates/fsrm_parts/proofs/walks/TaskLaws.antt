-- A walk through the tree, whose tasks visit folders and end sums.
use Rattle.std.proofs.Common.{◌≡◌, ℕ, zero, suc, ◌+◌, ◌-◌, ◌*◌, ◌<◌, ◌≤◌, ◌==◌, ◌||◌, Bool, true, false, inl, inr, List, [], ◌∷◌, ◌++◌, length, slice_get, slice_set, Some, refl, ap, sym, ◌∙◌, subst, append_assoc, arith}
use Rattle.std.proofs.lemmas.List.{append-nil}
use Rattle.std.proofs.lemmas.List.Sums.{sum_by-append, sum_by-cons}
use Rattle.std.proofs.lemmas.Option.{same_Some}
use Rattle.std.specs.Prelude.{cond, filter, map, sum_by}
use Rattle.std.specs.List.{list_any}
use Rattle.std.specs.Option.{option_map_or}
use Rattle.fsrm_base.specs.Keyed.{has_row, is_ascending, row_of}
use Rattle.fsrm_base.proofs.EditedRows.{ascending_tail}
use Rattle.fsrm_base.proofs.SortedRows.{later_above, row_at, row_found}
use Rattle.fsrm_base.specs.Numbers.{is_in}
use Rattle.fsrm_base.proofs.TestLaws.{clash, eq_is, eq_same, is_or_not, neither, nor, not_true, or_later}
use Rattle.fsrm_model.specs.declared.row.Capacity.{Capacity}
use Rattle.fsrm_model.specs.declared.row.NodeRow.{NodeRow}
use Rattle.fsrm_model.specs.declared.row.QuotaRow.{QuotaRow}
use Rattle.fsrm_model.specs.nodes.Tree.{is_folder, is_under, usage, children_in_order, number}
use Rattle.fsrm_model.specs.objects.Quota.{folder_of}
use Rattle.fsrm_parts.specs.Walk.{usage_of_all, under_all}
use Rattle.fsrm_parts.specs.declared.sums.Task.{Task}
use Rattle.fsrm_parts.specs.declared.sums.Task.TheVariants.{End, Visit}
use Rattle.fsrm_model.specs.store.Valid.{AreQuotas, IsVolume}
use Rattle.fsrm_model.proofs.valid.ValidLaws.{folder_has}
use Rattle.rescan.specs.Visits.{folders_among, space_of}
use Rattle.rescan.proofs.unvisited.ChildLaws.{child_folder_by}
use Rattle.rescan.proofs.unvisited.VisitLaws.{through}
use Rattle.fsrm_parts.proofs.walks.SumLaws.{AreFolders, visited_fewer, visited_folders, visited_looks, visited_sum, visited_total}
use Rattle.fsrm_parts.specs.Tasks.{AreDue, AreSummed, Ends, Without, With, end_count, folders_of, is_for, sum_at, visits_of}

-- ---- tasks after others
pub folders-append : (xs ys : List Task) → folders_of (xs ++ ys) ≡ folders_of xs ++ folders_of ys
folders-append [] ys = refl
folders-append (Visit n ∷ xs) ys = ap (λ ns. n ∷ ns) (folders-append xs ys)
folders-append (End p b ∷ xs) ys = folders-append xs ys

pub folders_visits : (ns : List ℕ) → folders_of (visits_of ns) ≡ ns
folders_visits [] = refl
folders_visits (n ∷ ns) = ap (λ ms. n ∷ ms) (folders_visits ns)

pub ends-append : (xs ys : List Task) → end_count (xs ++ ys) ≡ end_count xs + end_count ys
ends-append [] ys = omega arith
ends-append (Visit n ∷ xs) ys = ends-append xs ys
ends-append (End p b ∷ xs) ys = omega (arith, ends-append xs ys)

pub ends_visits : (ns : List ℕ) → end_count (visits_of ns) ≡ 0
ends_visits [] = refl
ends_visits (n ∷ ns) = ends_visits ns

any-append : {X : Type 0} (p : X → Bool) (xs ys : List X) → list_any p (xs ++ ys) ≡ false → (list_any p xs ≡ false) × (list_any p ys ≡ false)
any-append p [] ys h = (refl, h)
any-append p (x ∷ xs) ys h =
    let parts = neither (p x) (list_any p (xs ++ ys)) h in
    let rest = any-append p xs ys parts.1 in
    (nor (p x) (list_any p xs) parts.0 rest.0, rest.1)

any_joined : {X : Type 0} (p : X → Bool) (xs ys : List X) → list_any p xs ≡ false → list_any p ys ≡ false → list_any p (xs ++ ys) ≡ false
any_joined p [] ys h g = g
any_joined p (x ∷ xs) ys h g =
    let parts = neither (p x) (list_any p xs) h in
    nor (p x) (list_any p (xs ++ ys)) parts.0 (any_joined p xs ys parts.1 g)

module _ (K : Capacity) (nodes : List NodeRow) (quotas : List QuotaRow) where
  pub due_back : (total : ℕ) (xs ys : List Task) → AreDue K nodes quotas total (xs ++ ys) → AreDue K nodes quotas total ys
  due_back total [] ys h = h
  due_back total (Visit n ∷ xs) ys h = due_back total xs ys h
  due_back total (End p b ∷ xs) ys h = due_back total xs ys h.2

  due_visits : (total : ℕ) (ns : List ℕ) → AreDue K nodes quotas total (visits_of ns)
  due_visits total [] = tt
  due_visits total (n ∷ ns) = due_visits total ns

  joined_sum : (xs ys : List Task) → usage_of_all K nodes (folders_of (xs ++ ys)) ≡ usage_of_all K nodes (folders_of xs) + usage_of_all K nodes (folders_of ys)
  joined_sum xs ys = ap (usage_of_all K nodes) (folders-append xs ys) ∙ sum_by-append (usage K nodes) (folders_of xs) (folders_of ys)

  -- what comes last is done, as far as it goes
  pub due_moved : (old new : ℕ) (xs ys zs : List Task) → old + usage_of_all K nodes (folders_of ys) ≡ new + usage_of_all K nodes (folders_of zs) → AreDue K nodes quotas old (xs ++ ys) → AreDue K nodes quotas new zs → AreDue K nodes quotas new (xs ++ zs)
  due_moved old new [] ys zs same h g = g
  due_moved old new (Visit n ∷ xs) ys zs same h g = due_moved old new xs ys zs same h g
  due_moved old new (End p b ∷ xs) ys zs same h g =
      (h.0, omega (arith, h.1, joined_sum xs ys, joined_sum xs zs, same), due_moved old new xs ys zs same h.2 g)

-- ---- below a folder
-- a member that passes is among those that pass
in_filter : (p : ℕ → Bool) (ns : List ℕ) (c : ℕ) → p c ≡ true → is_in ns c ≡ true → is_in (filter p ns) c ≡ true
in_filter p [] c h g = cc
in_filter p (n ∷ ns) c h g = at (n == c) (p n) refl refl (in_filter p ns c h)
  where
    at : (b d : Bool) → (n == c) ≡ b → p n ≡ d → (is_in ns c ≡ true → is_in (filter p ns) c ≡ true) → is_in (cond (p n) (n ∷ filter p ns) (filter p ns)) c ≡ true
    at true true e k f = ap (λ b. is_in (cond b (n ∷ filter p ns) (filter p ns)) c) k ∙ ap (λ b. b || is_in (filter p ns) c) e
    at true false e k f = absurd (clash (p n) (ap p (eq_is n c e) ∙ h) k)
    at false true e k f = ap (λ b. is_in (cond b (n ∷ filter p ns) (filter p ns)) c) k ∙ or_later (n == c) (is_in (filter p ns) c) (f (sym (ap (λ b. b || is_in ns c) e) ∙ g))
    at false false e k f = ap (λ b. is_in (cond b (n ∷ filter p ns) (filter p ns)) c) k ∙ f (sym (ap (λ b. b || is_in ns c) e) ∙ g)

in_all : (p : NodeRow → Bool) (rows : List NodeRow) (c : ℕ) → is_in (map number (filter p rows)) c ≡ true → is_in (map number rows) c ≡ true
in_all p [] c h = cc
in_all p (r ∷ rows) c h = at (p r) (in_all p rows c) h
  where
    at : (b : Bool) → (is_in (map number (filter p rows)) c ≡ true → is_in (map number rows) c ≡ true) → is_in (map number (cond b (r ∷ filter p rows) (filter p rows))) c ≡ true → is_in (map number (r ∷ rows)) c ≡ true
    at true f g = elim (is_or_not (number r == c)) [
      | inl own ↦ ap (λ b. b || is_in (map number rows) c) own
      | inr other ↦ or_later (number r == c) (is_in (map number rows) c) (f (sym (ap (λ b. b || is_in (map number (filter p rows)) c) other) ∙ g))
    ]
    at false f g = or_later (number r == c) (is_in (map number rows) c) (f g)

-- the numbers of a folder's children
abbrev inside : List NodeRow → ℕ → List ℕ
inside nodes n = map number (children_in_order nodes n)

any_visits : (nodes : List NodeRow) (p f c : ℕ) (ns : List ℕ) → is_in ns c ≡ true → is_under nodes c f ≡ true → list_any (is_for nodes p f) (visits_of ns) ≡ true
any_visits nodes p f c [] h u = cc
any_visits nodes p f c (n ∷ ns) h u = elim (is_or_not (n == c)) [
  | inl own ↦ ap (λ b. b || list_any (is_for nodes p f) (visits_of ns)) (ap (λ k. is_under nodes k f) (eq_is n c own) ∙ u)
  | inr other ↦ or_later (is_under nodes n f) (list_any (is_for nodes p f) (visits_of ns)) (any_visits nodes p f c ns (sym (ap (λ b. b || is_in ns c) other) ∙ h) u)
]

-- what is neither at a folder nor in one of its folders isn't below it
outside : (K : Capacity) (nodes : List NodeRow) → IsVolume K nodes → (p n f : ℕ) → is_folder nodes f ≡ true → (n == f) ≡ false → list_any (is_for nodes p f) (visits_of (folders_among nodes (inside nodes n))) ≡ false → is_under nodes n f ≡ false
outside K nodes v p n f folder other none =
    not_true (is_under nodes n f) (λ u.
    let t = through K nodes v n f folder other u in
    let among : is_in (folders_among nodes (inside nodes n)) t.child ≡ true =
    in_filter (is_folder nodes) (inside nodes n) t.child t.is.folder_is (in_all (λ node. node.folder) (children_in_order nodes n) t.child (child_folder_by nodes v.ascending n t.child t.is)) in
    clash (list_any (is_for nodes p f) (visits_of (folders_among nodes (inside nodes n)))) (any_visits nodes p f t.child (folders_among nodes (inside nodes n)) among t.above) none)

-- ---- places of quotas
one_place : {X : Type 0} (key : X → ℕ) (rows : List X) (i j : ℕ) (a b : X) → is_ascending key rows ≡ true → slice_get rows i ≡ Some a → slice_get rows j ≡ Some b → key a ≡ key b → i ≡ j
one_place key [] i j a b asc h g same = cc
one_place key (x ∷ rows) zero zero a b asc h g same = refl
one_place key (x ∷ rows) zero (suc j) a b asc h g same = absurd (omega (arith, ap key (same_Some x a h), same, later_above key x rows j b asc g))
one_place key (x ∷ rows) (suc i) zero a b asc h g same = absurd (omega (arith, ap key (same_Some x b g), same, later_above key x rows i a asc h))
one_place key (x ∷ rows) (suc i) (suc j) a b asc h g same = ap suc (one_place key rows i j a b (ascending_tail key x rows asc) h g same)

own_at : {X : Type 0} (key : X → ℕ) (rows : List X) (i : ℕ) (row : X) → is_ascending key rows ≡ true → slice_get rows i ≡ Some row → row_of key (key row) rows ≡ Some row
own_at key rows i row asc at = row_at key (key row) rows i row asc at refl

got_has : {X : Type 0} (key : X → ℕ) (rows : List X) (i : ℕ) (row : X) → slice_get rows i ≡ Some row → has_row key (key row) rows ≡ true
got_has key [] i row h = cc
got_has key (x ∷ rows) zero row h = ap (λ r. (key r == key row) || has_row key (key row) rows) (same_Some x row h) ∙ ap (λ b. b || has_row key (key row) rows) (eq_same (key row))
got_has key (x ∷ rows) (suc i) row h = or_later (key x == key row) (has_row key (key row) rows) (got_has key rows i row h)

-- ---- a visit
-- what tasks are after a visit
pub record Visited (K : Capacity) (nodes : List NodeRow) (quotas : List QuotaRow) (tasks new : List Task) (sums : List ℕ) (total bytes : ℕ) (n : ℕ) : Type 0 where
  pub folders : AreFolders nodes (folders_of new)
  pub fewer : 2 * under_all nodes (folders_of new) + end_count new < 2 * under_all nodes (folders_of tasks) + end_count tasks
  pub sum : (start : ℕ) → total + usage_of_all K nodes (folders_of tasks) ≡ usage K nodes start → total + bytes + usage_of_all K nodes (folders_of new) ≡ usage K nodes start
  pub looks : (start whole before now : ℕ) → before + 3 * under_all nodes (folders_of tasks) ≤ start + (3 * whole + 2 * length (folders_of tasks)) → now ≡ before + (1 + 2 * length (inside nodes n)) → now + 3 * under_all nodes (folders_of new) ≤ start + (3 * whole + 2 * length (folders_of new))
  pub due : AreDue K nodes quotas total tasks → AreDue K nodes quotas (total + bytes) new
  pub summed : AreSummed K nodes quotas tasks sums → AreSummed K nodes quotas new sums

module _ (K : Capacity) (nodes : List NodeRow) (quotas : List QuotaRow) (v : IsVolume K nodes) (are : AreQuotas nodes quotas) (tasks rest mid new : List Task) (n : ℕ) (sums : List ℕ) (total bytes : ℕ)
    (waits : AreFolders nodes (folders_of tasks)) (last : tasks ≡ rest ++ Visit n ∷ []) (ends : Ends quotas n total rest mid) (put : new ≡ mid ++ visits_of (folders_among nodes (inside nodes n))) (is : bytes ≡ sum_by (space_of K nodes) (inside nodes n)) where
  children : List ℕ
  children = folders_among nodes (inside nodes n)

  folders_last : folders_of tasks ≡ folders_of rest ++ n ∷ []
  folders_last = ap folders_of last ∙ folders-append rest (Visit n ∷ [])

  folders_mid : (mid : List Task) → Ends quotas n total rest mid → folders_of mid ≡ folders_of rest
  folders_mid mid (Without none same) = ap folders_of same
  folders_mid mid (With place at same) = ap folders_of same ∙ (folders-append rest (End place total ∷ []) ∙ append-nil (folders_of rest))

  ends_mid : (mid : List Task) → Ends quotas n total rest mid → end_count mid ≤ end_count rest + 1
  ends_mid mid (Without none same) = omega (arith, ap end_count same)
  ends_mid mid (With place at same) = omega (arith, ap end_count same, ends-append rest (End place total ∷ []))

  folders_put : folders_of new ≡ folders_of rest ++ folders_among nodes (inside nodes n)
  folders_put =
      ap folders_of put
      ∙ (folders-append mid (visits_of (folders_among nodes (inside nodes n)))
      ∙ (ap (λ ns. ns ++ folders_of (visits_of (folders_among nodes (inside nodes n)))) (folders_mid mid ends) ∙ ap (λ ns. folders_of rest ++ ns) (folders_visits (folders_among nodes (inside nodes n)))))

  ends_few : end_count new ≤ end_count tasks + 1
  ends_few =
      omega (
        arith,
        ap end_count put,
        ends-append mid (visits_of (folders_among nodes (inside nodes n))),
        ends_visits (folders_among nodes (inside nodes n)),
        ends_mid mid ends,
        ap end_count last,
        ends-append rest (Visit n ∷ []),
      )

  -- what is counted here is what the folder takes, but for its folders
  counted_here : bytes + usage_of_all K nodes (folders_among nodes (inside nodes n)) ≡ usage K nodes n
  counted_here =
      omega (
        arith,
        visited_sum K nodes (folders_of tasks) (folders_of rest) n v waits folders_last (folders_of new) folders_put bytes is,
        ap (usage_of_all K nodes) folders_put,
        sum_by-append (usage K nodes) (folders_of rest) (folders_among nodes (inside nodes n)),
      )

  last_sum_is : usage_of_all K nodes (folders_of (Visit n ∷ [])) ≡ usage K nodes n
  last_sum_is = omega (arith, sum_by-cons (usage K nodes) n [])

  visits_sum : usage_of_all K nodes (folders_of (visits_of (folders_among nodes (inside nodes n)))) ≡ usage_of_all K nodes (folders_among nodes (inside nodes n))
  visits_sum = ap (usage_of_all K nodes) (folders_visits (folders_among nodes (inside nodes n)))

  same_sum : total + usage_of_all K nodes (folders_of (Visit n ∷ [])) ≡ total + bytes + usage_of_all K nodes (folders_of (visits_of (folders_among nodes (inside nodes n))))
  same_sum = omega (arith, last_sum_is, visits_sum, counted_here)

  due_after : (mid : List Task) → Ends quotas n total rest mid → new ≡ mid ++ visits_of (folders_among nodes (inside nodes n)) → AreDue K nodes quotas total tasks → AreDue K nodes quotas (total + bytes) new
  due_after mid (Without none same) put due =
      subst (AreDue K nodes quotas (total + bytes)) (sym (put ∙ ap (λ ts. ts ++ visits_of (folders_among nodes (inside nodes n))) same))
      (due_moved K nodes quotas total (total + bytes) rest (Visit n ∷ []) (visits_of (folders_among nodes (inside nodes n))) same_sum (subst (AreDue K nodes quotas total) last due) (due_visits K nodes quotas (total + bytes) (folders_among nodes (inside nodes n))))
  due_after mid (With place at same) put due =
      let r = row_found folder_of n quotas place at in
      let own : sum_at K nodes quotas place ≡ usage K nodes n = ap (λ o. option_map_or (λ (q : QuotaRow). usage K nodes q.folder) o 0) r.at ∙ ap (usage K nodes) r.number in
      subst (AreDue K nodes quotas (total + bytes)) (sym (put ∙ (ap (λ ts. ts ++ visits_of (folders_among nodes (inside nodes n))) same ∙ append_assoc rest (End place total ∷ []) (visits_of (folders_among nodes (inside nodes n))))))
      (due_moved K nodes quotas total (total + bytes) rest (Visit n ∷ []) (End place total ∷ visits_of (folders_among nodes (inside nodes n))) same_sum (subst (AreDue K nodes quotas total) last due)
      (at.within, omega (arith, own, visits_sum, counted_here), due_visits K nodes quotas (total + bytes) (folders_among nodes (inside nodes n))))

  -- of the quota at a place nothing is to be done after the visit, so nothing was before
  not_here : (mid : List Task) → Ends quotas n total rest mid → (p : ℕ) (q : QuotaRow) → slice_get quotas p ≡ Some q → list_any (is_for nodes p q.folder) mid ≡ false → (list_any (is_for nodes p q.folder) rest ≡ false) × ((n == q.folder) ≡ false)
  not_here mid (Without none same) p q at free = (
    ap (list_any (is_for nodes p q.folder)) (sym same) ∙ free,
    not_true (n == q.folder) (λ e. clash (has_row folder_of n quotas) (ap (λ k. has_row folder_of k quotas) (eq_is n q.folder e) ∙ got_has folder_of quotas p q at) none),
  )
  not_here mid (With place there same) p q at free =
      let r = row_found folder_of n quotas place there in
      let parts = any-append (is_for nodes p q.folder) rest (End place total ∷ []) (ap (list_any (is_for nodes p q.folder)) (sym same) ∙ free) in (
        parts.0,
        not_true (n == q.folder) (λ e.
            let one : place ≡ p = one_place folder_of quotas place p r.row q are.ascending r.at at (r.number ∙ eq_is n q.folder e) in
            clash (place == p) (ap (λ k. k == p) one ∙ eq_same p) (neither (place == p) false parts.1).0),
      )

  summed_after : AreSummed K nodes quotas tasks sums → AreSummed K nodes quotas new sums
  summed_after summed = λ p q at free.
      let parts = any-append (is_for nodes p q.folder) mid (visits_of (folders_among nodes (inside nodes n))) (ap (list_any (is_for nodes p q.folder)) (sym put) ∙ free) in
      let here = not_here mid ends p q at parts.0 in
      let found = own_at folder_of quotas p q are.ascending at in
      let below = outside K nodes v p n q.folder (are.folders q.folder q found) here.1 parts.1 in
      summed p q at (ap (list_any (is_for nodes p q.folder)) last ∙ any_joined (is_for nodes p q.folder) rest (Visit n ∷ []) here.0 (nor (is_under nodes n q.folder) false below refl))

  pub visited : Visited K nodes quotas tasks new sums total bytes n
  visited = record {
    folders = visited_folders K nodes (folders_of tasks) (folders_of rest) n v waits folders_last (folders_of new) folders_put;
    fewer = omega (arith, visited_fewer K nodes (folders_of tasks) (folders_of rest) n v waits folders_last (folders_of new) folders_put, ends_few);
    sum = λ start sum. visited_total K nodes (folders_of tasks) (folders_of rest) n v waits folders_last (folders_of new) folders_put bytes total start is sum;
    looks = λ start whole before now looks count. visited_looks K nodes (folders_of tasks) (folders_of rest) n v waits folders_last (folders_of new) folders_put start whole before now looks count;
    due = due_after mid ends put;
    summed = summed_after;
  }

-- ---- the end of a sum
set_same : (sums : List ℕ) (p x : ℕ) → p < length sums → slice_get (slice_set sums p x) p ≡ Some x
set_same [] p x low = absurd (omega (arith, low))
set_same (s ∷ sums) zero x low = refl
set_same (s ∷ sums) (suc p) x low = set_same sums p x (omega (arith, low))

set_other : (sums : List ℕ) (p k x : ℕ) → (p ≡ k → ⊥) → slice_get (slice_set sums p x) k ≡ slice_get sums k
set_other [] p k x other = refl
set_other (s ∷ sums) zero zero x other = absurd (other refl)
set_other (s ∷ sums) zero (suc k) x other = refl
set_other (s ∷ sums) (suc p) zero x other = refl
set_other (s ∷ sums) (suc p) (suc k) x other = set_other sums p k x (λ e. other (ap suc e))

pub record Ended (K : Capacity) (nodes : List NodeRow) (quotas : List QuotaRow) (tasks rest : List Task) (sums : List ℕ) (total place before : ℕ) : Type 0 where
  pub low : place < length quotas
  pub before_least : before ≤ total
  pub folders : folders_of rest ≡ folders_of tasks
  pub fewer : end_count rest + 1 ≡ end_count tasks
  pub due : AreDue K nodes quotas total rest
  pub summed : length sums ≡ length quotas → AreSummed K nodes quotas tasks sums → AreSummed K nodes quotas rest (slice_set sums place (total - before))

pub ended : (K : Capacity) (nodes : List NodeRow) (quotas : List QuotaRow) (tasks rest : List Task) (sums : List ℕ) (total place before : ℕ) → tasks ≡ rest ++ End place before ∷ [] → AreDue K nodes quotas total tasks → Ended K nodes quotas tasks rest sums total place before
ended K nodes quotas tasks rest sums total place before last due =
    let all : AreDue K nodes quotas total (rest ++ End place before ∷ []) = subst (AreDue K nodes quotas total) last due in
    let own = due_back K nodes quotas total rest (End place before ∷ []) all in
    let here : before + sum_at K nodes quotas place ≡ total = omega (arith, own.1) in
    record {
      low = own.0;
      before_least = omega (arith, here);
      folders = sym (ap folders_of last ∙ (folders-append rest (End place before ∷ []) ∙ append-nil (folders_of rest)));
      fewer = omega (arith, ap end_count last, ends-append rest (End place before ∷ []));
      due = subst (AreDue K nodes quotas total) (append-nil rest) (due_moved K nodes quotas total total rest (End place before ∷ []) [] refl all tt);
      summed = λ size summed p q at free. elim (is_or_not (place == p)) [
        | inl same ↦
            let one : place ≡ p = eq_is place p same in
            let own_sum : sum_at K nodes quotas place ≡ usage K nodes q.folder = ap (λ o. option_map_or (λ (r : QuotaRow). usage K nodes r.folder) o 0) (ap (slice_get quotas) one ∙ at) in
            ap (slice_get (slice_set sums place (total - before))) (sym one)
            ∙ (set_same sums place (total - before) (omega (arith, own.0, size)) ∙ ap Some (omega (arith, here, own_sum)))
        | inr other ↦
            set_other sums place p (total - before) (λ e. clash (place == p) (ap (λ k. k == p) e ∙ eq_same p) other)
            ∙ summed p q at (ap (list_any (is_for nodes p q.folder)) last ∙ any_joined (is_for nodes p q.folder) rest (End place before ∷ []) free (nor (place == p) false other refl))
      ];
    }

-- ---- the beginning, and the whole
pub begun_summed : (K : Capacity) (nodes : List NodeRow) (quotas : List QuotaRow) (sums : List ℕ) → IsVolume K nodes → AreQuotas nodes quotas → AreSummed K nodes quotas (Visit 0 ∷ []) sums
begun_summed K nodes quotas sums v are = λ p q at free.
    let folder = are.folders q.folder q (own_at folder_of quotas p q are.ascending at) in
    absurd (clash (is_under nodes 0 q.folder) (v.rooted q.folder (folder_has nodes q.folder folder)) (neither (is_under nodes 0 q.folder) false free).0)

pub all_summed : (K : Capacity) (nodes : List NodeRow) (quotas : List QuotaRow) (sums : List ℕ) → length sums ≡ length quotas → AreSummed K nodes quotas [] sums → sums ≡ map (λ (quota : QuotaRow). usage K nodes quota.folder) quotas
all_summed K nodes [] [] size summed = refl
all_summed K nodes [] (s ∷ sums) size summed = absurd (omega (arith, size))
all_summed K nodes (q ∷ quotas) [] size summed = absurd (omega (arith, size))
all_summed K nodes (q ∷ quotas) (s ∷ sums) size summed =
    ap (λ x. x ∷ sums) (same_Some s (usage K nodes q.folder) (summed 0 q refl refl))
    ∙ ap (λ xs. usage K nodes q.folder ∷ xs) (all_summed K nodes quotas sums (omega (arith, size)) (λ p r at free. summed (suc p) r at refl))
