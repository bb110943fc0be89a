-- The walk that takes back what was counted goes on into a folder.
use Rattle.std.proofs.Common.{◌≡◌, ℕ, zero, suc, ◌+◌, ◌≤◌, ◌==◌, Bool, true, false, cond, not, ◌||◌, ◌&&◌, List, length, refl, sym, ◌∙◌, ap, subst, ◌⊎◌, inl, inr, arith, Some}
use Rattle.std.specs.Prelude.{sum_by, if◌then◌else◌}
use Rattle.std.specs.List.{AllByRecursion}
use Rattle.fsrm_model.specs.declared.row.Capacity.{Capacity}
use Rattle.fsrm_model.specs.declared.row.NodeRow.{NodeRow}
use Rattle.fsrm_base.specs.Numbers.{is_in, without_number, with_numbers}
use Rattle.fsrm_model.specs.values.Space.{alloc, space}
use Rattle.fsrm_model.specs.nodes.Tree.{number, node_of, parent_of, is_folder, is_child, children, is_under, chain}
use Rattle.fsrm_model.specs.store.Valid.{IsVolume}
use Rattle.fsrm_base.proofs.TestLaws.{is_or_not, clash, not_true, both_true, is_or, or_later, eq_is, eq_same, suc_apart, not_zero, same_tests}
use Rattle.fsrm_model.proofs.nodes.Below.{chain_root}
use Rattle.fsrm_model.proofs.nodes.ChainLaws.{IsTree, Has}
use Rattle.fsrm_base.proofs.EditedRows.{sum_by-filter, sum_by_same}
use Rattle.fsrm_model.proofs.nodes.Climbs.{shorter, under_own}
use Rattle.fsrm_model.proofs.nodes.Keeps.{as_suc, tree_of}
use Rattle.fsrm_base.proofs.Sums.{sum_by-add}
use Rattle.fsrm_model.proofs.nodes.UsageLaws.{parent_lacks}
use Rattle.fsrm_model.proofs.valid.ValidLaws.{folder_has}
use Rattle.fsrm_base.proofs.NumberLaws.{in_withs, set_without, set_withs}
use Rattle.rescan.specs.Frontiers.{Front, scanned, has_above}
use Rattle.rescan.specs.Visits.{folders_in}
use Rattle.rescan.proofs.unvisited.ChildLaws.{ChildFolder, child_folder_of, child_folder_by}
use Rattle.rescan.proofs.counted.CountLaws.{is_counted, part}
use Rattle.rescan.proofs.moved.Leaving.{Leaving, Tracked, left, without_in, in_other, waiting_has}
use Rattle.rescan.proofs.moved.MovedSums.{in_folder, folder_part}
use Rattle.rescan.proofs.moved.MovedTops.{in_scan, not_above}
use Rattle.rescan.proofs.unvisited.Tops.{above_of, above_by, above_own, above_child, under_child, under_under, parent_folder}
use Rattle.fsrm_base.proofs.RowLaws.{each_found}

-- the waiting folders after one of them was passed: the folders in it take its place
abbrev pub opened : List NodeRow → ℕ → List ℕ → List ℕ
opened nodes n waiting = with_numbers (folders_in nodes n) (without_number n waiting)

in_opened : (nodes : List NodeRow) (n m : ℕ) (waiting : List ℕ) → (K : Capacity) → IsVolume K nodes → is_in (opened nodes n waiting) m ≡ true → (ChildFolder nodes n m) ⊎ (((n == m) ≡ false) × (is_in waiting m ≡ true))
in_opened nodes n m waiting K v h = elim (is_or (is_in (folders_in nodes n) m) (is_in (without_number n waiting) m) (sym (in_withs (folders_in nodes n) (without_number n waiting) m) ∙ h)) [
  | inl c ↦ inl (child_folder_of nodes v.ascending n m c)
  | inr o ↦ inr (without_in n m waiting o)
]

opened_other : (nodes : List NodeRow) (n m : ℕ) (waiting : List ℕ) → (n == m) ≡ false → is_in waiting m ≡ true → is_in (opened nodes n waiting) m ≡ true
opened_other nodes n m waiting e h = in_withs (folders_in nodes n) (without_number n waiting) m ∙ or_later (is_in (folders_in nodes n) m) _ (in_other n m waiting e h)

opened_child : (K : Capacity) (nodes : List NodeRow) (n m : ℕ) (waiting : List ℕ) → IsVolume K nodes → ChildFolder nodes n m → is_in (opened nodes n waiting) m ≡ true
opened_child K nodes n m waiting v c = in_withs (folders_in nodes n) (without_number n waiting) m ∙ ap (λ b. b || is_in (without_number n waiting) m) (child_folder_by nodes v.ascending n m c)

-- a folder and the folders in it

child_has : (nodes : List NodeRow) (n c : ℕ) → ChildFolder nodes n c → Has nodes c
child_has nodes n c h = folder_has nodes c h.folder_is

above_of_child : (nodes : List NodeRow) → IsTree nodes → (y n c : ℕ) → ChildFolder nodes n c → is_under nodes y c ≡ ((c == y) || is_under nodes y n)
above_of_child nodes t y n c h = under_child nodes t y c (child_has nodes n c h) (not_zero c h.inner) ∙ ap (λ p. (c == y) || is_under nodes y p) h.parent_is

child_below : (nodes : List NodeRow) → IsTree nodes → (n c : ℕ) → ChildFolder nodes n c → is_under nodes n c ≡ true
child_below nodes t n c h = above_of_child nodes t n n c h ∙ or_later (c == n) _ (under_own nodes n)

child_apart : (nodes : List NodeRow) → IsTree nodes → (n c : ℕ) → ChildFolder nodes n c → is_under nodes c n ≡ false
child_apart nodes t n c h =
    let s = as_suc c h.inner in
    let lacks : is_under nodes c (parent_of nodes c) ≡ false =
    subst (λ (j : ℕ). is_under nodes j (parent_of nodes j) ≡ false) (sym s.1) (parent_lacks nodes t s.0 (subst (Has nodes) s.1 (child_has nodes n c h))) in
    ap (is_under nodes c) (sym h.parent_is) ∙ lacks

-- the folder through which a way leads down
pub record Lead (nodes : List NodeRow) (n m : ℕ) : Type 0 where
  pub child : ℕ
  pub folder : ChildFolder nodes n child
  pub above : is_under nodes child m ≡ true

lead_in : (K : Capacity) (nodes : List NodeRow) → IsVolume K nodes → (n most m : ℕ) → is_folder nodes m ≡ true → length (chain nodes m) ≤ most → is_under nodes n m ≡ true → (m == n) ≡ false → Lead nodes n m
lead_in K nodes v n most zero is short u e = absurd (clash (0 == n) (sym (chain_root nodes n) ∙ u) e)
lead_in K nodes v n zero (suc m) is short u e =
    absurd (omega (arith, shorter nodes (tree_of K nodes v) (suc m) (folder_has nodes (suc m) is) (λ h. clash (suc m == 0) (ap (λ j. j == 0) h ∙ eq_same 0) (suc_apart m))))
lead_in K nodes v n (suc most) (suc m) is short u e =
    let t = tree_of K nodes v in
    let has = folder_has nodes (suc m) is in
    let inner : suc m ≡ 0 → ⊥ = λ h. clash (suc m == 0) (ap (λ j. j == 0) h ∙ eq_same 0) (suc_apart m) in
    let p = parent_of nodes (suc m) in
    let less = shorter nodes t (suc m) has inner in
    let up : is_under nodes n p ≡ true = ap (λ b. b || is_under nodes n p) (sym e) ∙ (sym (under_child nodes t n (suc m) has inner) ∙ u) in
    elim (is_or_not (p == n)) [
      | inl s ↦ record { child = suc m; folder = record { folder_is = is; inner = suc_apart m; parent_is = eq_is p n s }; above = under_own nodes (suc m) }
      | inr s ↦
          let rest = lead_in K nodes v n most p (parent_folder K nodes v (suc m) has) (omega arith) up s in
          record {
            child = rest.child;
            folder = rest.folder;
            above = under_child nodes t rest.child (suc m) has inner ∙ or_later (suc m == rest.child) _ rest.above;
          }
    ]

lead : (K : Capacity) (nodes : List NodeRow) → IsVolume K nodes → (n m : ℕ) → is_folder nodes m ≡ true → is_under nodes n m ≡ true → (m == n) ≡ false → Lead nodes n m
lead K nodes v n m is u e = lead_in K nodes v n (length (chain nodes m)) m is (omega arith) u e

-- what is below a waiting folder then
pub opened_less : (K : Capacity) (nodes : List NodeRow) (waiting : List ℕ) (n m : ℕ) → IsVolume K nodes → is_in waiting n ≡ true → Has nodes m → Has nodes n → has_above nodes (opened nodes n waiting) m ≡ true → has_above nodes waiting m ≡ true
opened_less K nodes waiting n m v here hm hn h =
    let t = tree_of K nodes v in
    let a = above_of nodes (opened nodes n waiting) m h in
    elim (in_opened nodes n a.top waiting K v a.member) [
      | inl c ↦ above_by nodes waiting m n here (under_under nodes t n a.top m (child_has nodes n a.top c) hm a.above (child_below nodes t n a.top c))
      | inr o ↦ above_by nodes waiting m a.top o.1 a.above
    ]

pub opened_same : (K : Capacity) (nodes : List NodeRow) (waiting : List ℕ) (n m : ℕ) → IsVolume K nodes → is_in waiting n ≡ true → is_folder nodes m ≡ true → Has nodes n → (m == n) ≡ false → has_above nodes (opened nodes n waiting) m ≡ has_above nodes waiting m
opened_same K nodes waiting n m v here is hn e =
    same_tests _ _
    (opened_less K nodes waiting n m v here (folder_has nodes m is) hn)
    (λ h.
    let a = above_of nodes waiting m h in
    elim (is_or_not (n == a.top)) [
      | inl s ↦
          let down : is_under nodes n m ≡ true = subst (λ (j : ℕ). is_under nodes j m ≡ true) (sym (eq_is n a.top s)) a.above in
          let l = lead K nodes v n m is down e in
          above_by nodes (opened nodes n waiting) m l.child (opened_child K nodes n l.child waiting v l.folder) l.above
      | inr s ↦ above_by nodes (opened nodes n waiting) m a.top (opened_other nodes n a.top waiting s a.member) a.above
    ])

pub opened_gone : (K : Capacity) (nodes : List NodeRow) (f : Front) (x : ℕ) (tops waiting : List ℕ) (sum n : ℕ) → IsVolume K nodes → Leaving K nodes f x tops waiting sum → is_in waiting n ≡ true → has_above nodes (opened nodes n waiting) n ≡ false
opened_gone K nodes f x tops waiting sum n v w here = not_true _ (λ h.
    let a = above_of nodes (opened nodes n waiting) n h in
    elim (in_opened nodes n a.top waiting K v a.member) [
      | inl c ↦ clash _ a.above (child_apart nodes (tree_of K nodes v) n a.top c)
      | inr o ↦ clash _ (ap (λ j. n == j) (w.apart n a.top here o.1 a.above) ∙ eq_same n) o.0
    ])

-- no two of them are one above the other
opened_apart : (K : Capacity) (nodes : List NodeRow) (f : Front) (x : ℕ) (tops waiting : List ℕ) (sum n : ℕ) → IsVolume K nodes → Leaving K nodes f x tops waiting sum → is_in waiting n ≡ true → (a b : ℕ) → is_in (opened nodes n waiting) a ≡ true → is_in (opened nodes n waiting) b ≡ true → is_under nodes b a ≡ true → b ≡ a
opened_apart K nodes f x tops waiting sum n v w here a b ha hb u =
    let t = tree_of K nodes v in
    elim (in_opened nodes n a waiting K v ha) [
      | inl ca ↦ elim (is_or (a == b) (is_under nodes b n) (sym (above_of_child nodes t b n a ca) ∙ u)) [
        | inl e ↦ sym (eq_is a b e)
        | inr up ↦ elim (in_opened nodes n b waiting K v hb) [
          | inl cb ↦ absurd (clash _ up (child_apart nodes t n b cb))
          | inr ob ↦ absurd (clash _ (ap (λ j. n == j) (w.apart n b here ob.1 up) ∙ eq_same n) ob.0)
        ]
      ]
      | inr oa ↦ elim (in_opened nodes n b waiting K v hb) [
        | inl cb ↦
            let has = waiting_has K nodes f x tops waiting sum w a oa.1 in
            let up : is_under nodes n a ≡ true = under_under nodes t n b a (child_has nodes n b cb) has u (child_below nodes t n b cb) in
            absurd (clash _ (ap (λ j. n == j) (sym (w.apart a n oa.1 here up)) ∙ eq_same n) oa.0)
        | inr ob ↦ w.apart a b oa.1 ob.1 u
      ]
    ]

-- what the files in the folder take
opened_row : (K : Capacity) (nodes : List NodeRow) (f : Front) (x : ℕ) (tops waiting : List ℕ) (sum n : ℕ) → IsVolume K nodes → Leaving K nodes f x tops waiting sum → is_in waiting n ≡ true → is_counted nodes f n ≡ true
    → (r : NodeRow) → node_of nodes r.number ≡ Some r → (if has_above nodes waiting r.parent then part K nodes f r else 0) ≡ (if has_above nodes (opened nodes n waiting) r.parent then part K nodes f r else 0) + (if is_child n r then space K r else 0)
opened_row K nodes f x tops waiting sum n v w here counted r own = elim (is_or_not r.folder) [
  | inl e ↦
      let empty : space K r ≡ 0 = ap (λ b. cond b 0 (alloc K r.length)) e in
      none_each (has_above nodes waiting r.parent) (has_above nodes (opened nodes n waiting) r.parent) (is_child n r) (part K nodes f r) (space K r) (folder_part K nodes f r e) empty
  | inr e ↦
      let at = in_folder K nodes x r v own e in
      let inner : (r.number == 0) ≡ false = not_true _ (λ h. at.inner (eq_is r.number 0 h)) in
      elim (is_or_not (r.parent == n)) [
        | inl s ↦
            let is : r.parent ≡ n = eq_is r.parent n s in
            let was : has_above nodes waiting r.parent ≡ true = ap (has_above nodes waiting) is ∙ above_own nodes waiting n here in
            let now : has_above nodes (opened nodes n waiting) r.parent ≡ false = ap (has_above nodes (opened nodes n waiting)) is ∙ opened_gone K nodes f x tops waiting sum n v w here in
            let child : is_child n r ≡ true = ap (λ b. not b && (r.parent == n)) inner ∙ s in
            let whole : part K nodes f r ≡ space K r = ap (λ b. cond b (space K r) 0) (ap (is_counted nodes f) is ∙ counted) in
            taken_at (has_above nodes waiting r.parent) (has_above nodes (opened nodes n waiting) r.parent) (is_child n r) (part K nodes f r) (space K r) was now child whole
        | inr s ↦
            let same : has_above nodes (opened nodes n waiting) r.parent ≡ has_above nodes waiting r.parent = opened_same K nodes waiting n r.parent v here at.folder (waiting_has K nodes f x tops waiting sum w n here) s in
            let child : is_child n r ≡ false = ap (λ b. not b && (r.parent == n)) inner ∙ s in
            kept_at (has_above nodes waiting r.parent) (has_above nodes (opened nodes n waiting) r.parent) (is_child n r) (part K nodes f r) (space K r) same child
      ]
]
  where
    none_each : (a b c : Bool) (p s : ℕ) → p ≡ 0 → s ≡ 0 → cond a p 0 ≡ cond b p 0 + cond c s 0
    none_each a b c p s h g = omega (arith, zero a p h, zero b p h, zero c s g)
      where
        zero : (b : Bool) (p : ℕ) → p ≡ 0 → cond b p 0 ≡ 0
        zero true p h = h
        zero false p h = refl

    taken_at : (a b c : Bool) (p s : ℕ) → a ≡ true → b ≡ false → c ≡ true → p ≡ s → cond a p 0 ≡ cond b p 0 + cond c s 0
    taken_at true false true p s h g k e = omega (arith, e)
    taken_at true false false p s h g k e = cc
    taken_at true true c p s h g k e = cc
    taken_at false b c p s h g k e = cc

    kept_at : (a b c : Bool) (p s : ℕ) → b ≡ a → c ≡ false → cond a p 0 ≡ cond b p 0 + cond c s 0
    kept_at true true false p s h g = omega arith
    kept_at false false false p s h g = omega arith
    kept_at true false c p s h g = cc
    kept_at false true c p s h g = cc
    kept_at true true true p s h g = cc
    kept_at false false true p s h g = cc

pub opened_left : (K : Capacity) (nodes : List NodeRow) (f : Front) (x : ℕ) (tops waiting : List ℕ) (sum n : ℕ) → IsVolume K nodes → Leaving K nodes f x tops waiting sum → is_in waiting n ≡ true → is_counted nodes f n ≡ true → left K nodes f waiting ≡ left K nodes f (opened nodes n waiting) + sum_by (space K) (children nodes n)
opened_left K nodes f x tops waiting sum n v w here counted =
    let was : NodeRow → ℕ = λ r. cond (has_above nodes waiting r.parent) (part K nodes f r) 0 in
    let now : NodeRow → ℕ = λ r. cond (has_above nodes (opened nodes n waiting) r.parent) (part K nodes f r) 0 in
    let child : NodeRow → ℕ = λ r. cond (is_child n r) (space K r) 0 in
    let each : AllByRecursion (λ r. was r ≡ now r + child r) nodes = each_found number (λ r. was r ≡ now r + child r) nodes v.ascending (opened_row K nodes f x tops waiting sum n v w here counted) in
    omega (arith, sum_by_same was (λ r. now r + child r) nodes each, sum_by-add now child nodes, sum_by-filter (is_child n) (space K) nodes)

-- the step
opened_tops : (K : Capacity) (nodes : List NodeRow) (f : Front) (x : ℕ) (tops waiting : List ℕ) (sum n : ℕ) → Tracked K nodes f x → Leaving K nodes f x tops waiting sum → is_in waiting n ≡ true → is_in f.tops n ≡ false → (m : ℕ) → is_in tops m ≡ (is_in f.tops m && (has_above nodes (opened nodes n waiting) m || not (is_under nodes x m)))
opened_tops K nodes f x tops waiting sum n t w here lacks m = w.tops_are m ∙ at (is_in f.tops m) refl
  where
    at : (b : Bool) → is_in f.tops m ≡ b → (b && (has_above nodes waiting m || not (is_under nodes x m))) ≡ (b && (has_above nodes (opened nodes n waiting) m || not (is_under nodes x m)))
    at false e = refl
    at true e =
        let other : (m == n) ≡ false = not_true _ (λ s. clash _ (sym (ap (is_in f.tops) (eq_is m n s)) ∙ e) lacks) in
        ap (λ b. b || not (is_under nodes x m)) (sym (opened_same K nodes waiting n m t.volume here (t.tops.folders m e) (waiting_has K nodes f x tops waiting sum w n here) other))

lacks_top : (K : Capacity) (nodes : List NodeRow) (f : Front) (x : ℕ) (tops waiting : List ℕ) (sum n : ℕ) → Leaving K nodes f x tops waiting sum → is_in waiting n ≡ true → is_in tops n ≡ false → is_in f.tops n ≡ false
lacks_top K nodes f x tops waiting sum n w here e =
    not_true _ (λ h. clash (is_in tops n) (w.tops_are n ∙ (ap (λ b. b && (has_above nodes waiting n || not (is_under nodes x n))) h ∙ ap (λ b. b || not (is_under nodes x n)) (above_own nodes waiting n here))) e)

opened_visited : (K : Capacity) (nodes : List NodeRow) (f : Front) (n c : ℕ) → IsVolume K nodes → ChildFolder nodes n c → is_counted nodes f n ≡ true → is_in f.tops c ≡ false → is_counted nodes f c ≡ true
opened_visited K nodes f n c v h counted lacks =
    let t = tree_of K nodes v in
    let below : is_under nodes (scanned f) c ≡ true = above_of_child nodes t (scanned f) n c h ∙ or_later (c == scanned f) _ (in_scan nodes f n counted) in
    let free : has_above nodes f.tops c ≡ false =
    above_child nodes f.tops t c (child_has nodes n c h) (not_zero c h.inner)
    ∙ (ap (λ b. b || has_above nodes f.tops (parent_of nodes c)) lacks ∙ (ap (has_above nodes f.tops) h.parent_is ∙ not_above nodes f n counted)) in
    both_true (is_under nodes (scanned f) c) (not (has_above nodes f.tops c)) below (ap not free)

pub pass_open : (K : Capacity) (nodes : List NodeRow) (f : Front) (x : ℕ) (tops waiting : List ℕ) (sum sum2 n : ℕ) → Tracked K nodes f x → Leaving K nodes f x tops waiting sum → is_in waiting n ≡ true → is_in tops n ≡ false → sum2 + sum_by (space K) (children nodes n) ≡ sum → Leaving K nodes f x tops (opened nodes n waiting) sum2
pass_open K nodes f x tops waiting sum sum2 n t w here lacks less =
    let v = t.volume in
    let free = lacks_top K nodes f x tops waiting sum n w here lacks in
    let counted = w.visited n here free in
    record {
      ascending_tops = w.ascending_tops;
      ascending = set_withs (folders_in nodes n) (without_number n waiting) (set_without n waiting w.ascending);
      folders = λ m h. elim (in_opened nodes n m waiting K v h) [ inl c ↦ c.folder_is | inr o ↦ w.folders m o.1 ];
      below = λ m h. elim (in_opened nodes n m waiting K v h) [ inl c ↦ above_of_child nodes (tree_of K nodes v) x n m c ∙ or_later (m == x) _ (w.below n here) | inr o ↦ w.below m o.1 ];
      visited = λ m h g. elim (in_opened nodes n m waiting K v h) [ inl c ↦ opened_visited K nodes f n m v c counted g | inr o ↦ w.visited m o.1 g ];
      apart = opened_apart K nodes f x tops waiting sum n v w here;
      tops_are = opened_tops K nodes f x tops waiting sum n t w here free;
      sum_is = omega (arith, w.sum_is, opened_left K nodes f x tops waiting sum n v w here counted, less);
    }

-- what is taken back was counted
pub enough_left : (K : Capacity) (nodes : List NodeRow) (f : Front) (x : ℕ) (tops waiting : List ℕ) (sum n : ℕ) → Tracked K nodes f x → Leaving K nodes f x tops waiting sum → is_in waiting n ≡ true → is_in tops n ≡ false → sum_by (space K) (children nodes n) ≤ sum
enough_left K nodes f x tops waiting sum n t w here lacks =
    let counted = w.visited n here (lacks_top K nodes f x tops waiting sum n w here lacks) in
    omega (arith, w.sum_is, t.enough, opened_left K nodes f x tops waiting sum n t.volume w here counted)
