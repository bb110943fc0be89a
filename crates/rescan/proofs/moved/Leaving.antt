-- The walk that takes back what was counted at and below a folder.
use Rattle.std.proofs.Common.{◌≡◌, ℕ, ◌+◌, ◌≤◌, ◌==◌, Bool, true, false, cond, not, ◌||◌, ◌&&◌, List, [], ◌∷◌, Some, refl, sym, ◌∙◌, ap, subst, inl, inr, arith}
use Rattle.std.specs.Prelude.{sum_by, if◌then◌else◌}
use Rattle.fsrm_model.specs.declared.row.Capacity.{Capacity}
use Rattle.fsrm_model.specs.declared.row.NodeRow.{NodeRow}
use Rattle.fsrm_base.specs.Numbers.{is_in, is_set, without_number}
use Rattle.fsrm_model.specs.values.Space.{space}
use Rattle.fsrm_model.specs.nodes.Tree.{number, node_of, is_folder, is_under}
use Rattle.fsrm_model.specs.store.Valid.{IsVolume}
use Rattle.fsrm_base.proofs.TestLaws.{is_or_not, clash, not_true, both, eq_is, eq_same, same_tests}
use Rattle.fsrm_model.proofs.nodes.ChainLaws.{Has}
use Rattle.fsrm_base.proofs.EditedRows.{sum_by_same}
use Rattle.fsrm_model.proofs.nodes.Climbs.{under_own}
use Rattle.fsrm_model.proofs.nodes.Keeps.{found_folder}
use Rattle.fsrm_base.proofs.Sums.{sum_by_each, sum_by_nothing}
use Rattle.fsrm_model.proofs.valid.ValidLaws.{folder_has}
use Rattle.fsrm_base.proofs.NumberLaws.{in_without, set_without}
use Rattle.rescan.specs.Frontiers.{Room, Front, has_above}
use Rattle.rescan.specs.Leaves.{counted_below, Leaves}
use Rattle.rescan.specs.Tops.{AreTops}
use Rattle.rescan.proofs.counted.CountLaws.{is_counted, part}
use Rattle.rescan.proofs.moved.MovedSums.{in_folder, part_below, below_is, folder_part}
use Rattle.rescan.proofs.moved.MovedTops.{not_above}
use Rattle.rescan.proofs.unvisited.Tops.{above_of, above_by}
use Rattle.fsrm_base.proofs.RowLaws.{each_found}

-- what is still to be taken back, with these folders waiting
abbrev pub left : Capacity → List NodeRow → Front → List ℕ → ℕ
left K nodes f waiting = sum_by (λ row. if has_above nodes waiting row.parent then part K nodes f row else 0) nodes

-- the walk is under way
pub record Leaving (K : Capacity) (nodes : List NodeRow) (f : Front) (x : ℕ) (tops waiting : List ℕ) (sum : ℕ) : Type 0 where
  pub ascending_tops : is_set tops ≡ true
  pub ascending : is_set waiting ≡ true
  pub folders : (n : ℕ) → is_in waiting n ≡ true → is_folder nodes n ≡ true
  pub below : (n : ℕ) → is_in waiting n ≡ true → is_under nodes x n ≡ true
  pub visited : (n : ℕ) → is_in waiting n ≡ true → is_in f.tops n ≡ false → is_counted nodes f n ≡ true
  pub apart : (n m : ℕ) → is_in waiting n ≡ true → is_in waiting m ≡ true → is_under nodes m n ≡ true → m ≡ n
  pub tops_are : (n : ℕ) → is_in tops n ≡ (is_in f.tops n && (has_above nodes waiting n || not (is_under nodes x n)))
  pub sum_is : sum + counted_below K nodes f x ≡ f.sum + left K nodes f waiting

-- what a step needs of the tree and the scan
pub record Tracked (K : Capacity) (nodes : List NodeRow) (f : Front) (x : ℕ) : Type 0 where
  pub volume : IsVolume K nodes
  pub tops : AreTops nodes f
  pub folder : is_folder nodes x ≡ true
  pub visited : is_counted nodes f x ≡ true
  pub enough : counted_below K nodes f x ≤ f.sum

-- a number of one
one_is : (x n : ℕ) → is_in (x ∷ []) n ≡ true → x ≡ n
one_is x n h = eq_is x n (plain (x == n) h)
  where
    plain : (b : Bool) → (b || false) ≡ true → b ≡ true
    plain true h = refl
    plain false h = cc

pub above_one : (nodes : List NodeRow) (x n : ℕ) → has_above nodes (x ∷ []) n ≡ is_under nodes x n
above_one nodes x n =
    same_tests _ _
    (λ h. let a = above_of nodes (x ∷ []) n h in subst (λ (j : ℕ). is_under nodes j n ≡ true) (sym (one_is x a.top a.member)) a.above)
    (λ h. above_by nodes (x ∷ []) n x (ap (λ b. b || false) (eq_same x)) h)

above_none : (nodes : List NodeRow) (n : ℕ) → has_above nodes [] n ≡ false
above_none nodes n = not_true _ (λ h. let a = above_of nodes [] n h in let m : false ≡ true = a.member in clash false m refl)

-- a folder's row adds nothing

zero_either : (b c : Bool) (p : ℕ) → p ≡ 0 → cond b p 0 ≡ cond c p 0
zero_either true true p h = refl
zero_either true false p h = h
zero_either false true p h = sym h
zero_either false false p h = refl

-- the beginning
left_one : (K : Capacity) (nodes : List NodeRow) (f : Front) (x : ℕ) → Tracked K nodes f x → left K nodes f (x ∷ []) ≡ counted_below K nodes f x
left_one K nodes f x t =
    sum_by_same (λ r. if has_above nodes (x ∷ []) r.parent then part K nodes f r else 0) (part_below K nodes f x) nodes
    (each_found number (λ r. (if has_above nodes (x ∷ []) r.parent then part K nodes f r else 0) ≡ part_below K nodes f x r) nodes t.volume.ascending row)
    ∙ sym (below_is K nodes f x)
  where
    row : (r : NodeRow) → node_of nodes r.number ≡ Some r → (if has_above nodes (x ∷ []) r.parent then part K nodes f r else 0) ≡ part_below K nodes f x r
    row r own = elim (is_or_not r.folder) [
      | inl e ↦ zero_either (has_above nodes (x ∷ []) r.parent) (is_under nodes x r.number) (part K nodes f r) (folder_part K nodes f r e)
      | inr e ↦
          let at = in_folder K nodes x r t.volume own e in
          let other : (r.number == x) ≡ false = not_true _ (λ s. clash _ (ap (is_folder nodes) (eq_is r.number x s) ∙ t.folder) (found_folder nodes r.number r own ∙ e)) in
          let up : is_under nodes x r.number ≡ is_under nodes x r.parent = at.up ∙ ap (λ b. b || is_under nodes x r.parent) other in
          ap (λ b. cond b (part K nodes f r) 0) (above_one nodes x r.parent ∙ sym up)
    ]

both_ways : (a b : Bool) → a ≡ (a && (b || not b))
both_ways true true = refl
both_ways true false = refl
both_ways false b = refl

pub begin : (K : Capacity) (nodes : List NodeRow) (f : Front) (x : ℕ) → Tracked K nodes f x → Leaving K nodes f x f.tops (x ∷ []) f.sum
begin K nodes f x t =
    record {
      ascending_tops = t.tops.ascending;
      ascending = refl;
      folders = λ n h. subst (λ (j : ℕ). is_folder nodes j ≡ true) (one_is x n h) t.folder;
      below = λ n h. subst (λ (j : ℕ). is_under nodes x j ≡ true) (one_is x n h) (under_own nodes x);
      visited = λ n h g. subst (λ (j : ℕ). is_counted nodes f j ≡ true) (one_is x n h) t.visited;
      apart = λ n m h g u. sym (one_is x m g) ∙ one_is x n h;
      tops_are = λ n. both_ways (is_in f.tops n) (is_under nodes x n) ∙ ap (λ b. is_in f.tops n && (b || not (is_under nodes x n))) (sym (above_one nodes x n));
      sum_is = omega (arith, left_one K nodes f x t);
    }

-- the end
pub same_room : (room : Room) (nodes cluster : ℕ) → nodes ≡ room.nodes → cluster ≡ room.cluster → record { nodes = nodes; cluster = cluster } ≡ room
same_room room nodes cluster h g =
    ap (λ (n : ℕ). record { nodes = n; cluster = cluster }) h ∙ ap (λ (k : ℕ). record { nodes = room.nodes; cluster = k }) g

pub finish : (K : Capacity) (nodes : List NodeRow) (f f2 : Front) (x : ℕ) → Leaving K nodes f x f2.tops [] f2.sum → f2.room ≡ f.room → f2.folder ≡ f.folder → Leaves K nodes f f2 x
finish K nodes f f2 x w room folder =
    let none : left K nodes f [] ≡ 0 =
    sum_by_each (λ r. if has_above nodes [] r.parent then part K nodes f r else 0) (λ r. 0) (λ r. ap (λ b. cond b (part K nodes f r) 0) (above_none nodes r.parent)) nodes ∙ sum_by_nothing nodes in
    record {
      room = room;
      folder = folder;
      ascending = w.ascending_tops;
      tops = λ n. w.tops_are n ∙ ap (λ b. is_in f.tops n && (b || not (is_under nodes x n))) (above_none nodes n);
      sum = omega (arith, w.sum_is, none);
    }

-- one waiting folder fewer
pub without_in : (n m : ℕ) (ns : List ℕ) → is_in (without_number n ns) m ≡ true → ((n == m) ≡ false) × (is_in ns m ≡ true)
without_in n m ns h = at (n == m) (is_in ns m) (sym (in_without n m ns) ∙ h)
  where
    at : (a b : Bool) → (not a && b) ≡ true → (a ≡ false) × (b ≡ true)
    at true b h = cc
    at false b h = (refl, h)

pub in_other : (n m : ℕ) (ns : List ℕ) → (n == m) ≡ false → is_in ns m ≡ true → is_in (without_number n ns) m ≡ true
in_other n m ns e h = in_without n m ns ∙ (ap (λ b. not b && is_in ns m) e ∙ h)

pub waiting_has : (K : Capacity) (nodes : List NodeRow) (f : Front) (x : ℕ) (tops waiting : List ℕ) (sum : ℕ) → Leaving K nodes f x tops waiting sum → (n : ℕ) → is_in waiting n ≡ true → Has nodes n
waiting_has K nodes f x tops waiting sum w n h = folder_has nodes n (w.folders n h)

-- what is above a node without a folder that isn't above it
pub above_without : (nodes : List NodeRow) (waiting : List ℕ) (n m : ℕ) → is_under nodes n m ≡ false → has_above nodes (without_number n waiting) m ≡ has_above nodes waiting m
above_without nodes waiting n m far =
    same_tests _ _
    (λ h. let a = above_of nodes (without_number n waiting) m h in above_by nodes waiting m a.top (without_in n a.top waiting a.member).1 a.above)
    (λ h.
    let a = above_of nodes waiting m h in
    let other : (n == a.top) ≡ false = not_true _ (λ e. clash _ (subst (λ (j : ℕ). is_under nodes j m ≡ true) (sym (eq_is n a.top e)) a.above) far) in
    above_by nodes (without_number n waiting) m a.top (in_other n a.top waiting other a.member) a.above)

-- no waiting folder is above the one that is passed
pub without_gone : (K : Capacity) (nodes : List NodeRow) (f : Front) (x : ℕ) (tops waiting : List ℕ) (sum n : ℕ) → Leaving K nodes f x tops waiting sum → is_in waiting n ≡ true → has_above nodes (without_number n waiting) n ≡ false
without_gone K nodes f x tops waiting sum n w here = not_true _ (λ h.
    let a = above_of nodes (without_number n waiting) n h in
    let parts = without_in n a.top waiting a.member in
    clash _ (ap (λ j. n == j) (w.apart n a.top here parts.1 a.above) ∙ eq_same n) parts.0)

-- the next folder is a top
own_top : (a b : Bool) → (a && b) ≡ true → a ≡ true
own_top a b h = (both a b h).0

top_tops : (K : Capacity) (nodes : List NodeRow) (f : Front) (x : ℕ) (tops waiting : List ℕ) (sum n : ℕ) → Tracked K nodes f x → Leaving K nodes f x tops waiting sum → is_in waiting n ≡ true → is_in f.tops n ≡ true → (m : ℕ) → is_in (without_number n tops) m ≡ (is_in f.tops m && (has_above nodes (without_number n waiting) m || not (is_under nodes x m)))
top_tops K nodes f x tops waiting sum n t w here top m = in_without n m tops ∙ elim (is_or_not (n == m)) [
  | inl e ↦
      let same : n ≡ m = eq_is n m e in
      let none = without_gone K nodes f x tops waiting sum n w here in
      ap (λ b. not b && is_in tops m) e
      ∙ sym (subst (λ (j : ℕ). (is_in f.tops j && (has_above nodes (without_number n waiting) j || not (is_under nodes x j))) ≡ false) same
      (ap (λ b. is_in f.tops n && (b || not (is_under nodes x n))) none ∙ (ap (λ b. is_in f.tops n && not b) (w.below n here) ∙ nothing (is_in f.tops n))))
  | inr e ↦
      ap (λ b. not b && is_in tops m) e
      ∙ (w.tops_are m
      ∙ where_top (is_in f.tops m) (has_above nodes waiting m) (has_above nodes (without_number n waiting) m) (not (is_under nodes x m))
      (λ h. sym (above_without nodes waiting n m (not_true _ (λ u. clash _ (ap (λ j. n == j) (sym (t.tops.apart m n h top u)) ∙ eq_same n) e)))))
]
  where
    nothing : (a : Bool) → (a && false) ≡ false
    nothing true = refl
    nothing false = refl

    where_top : (a b c d : Bool) → (a ≡ true → b ≡ c) → (a && (b || d)) ≡ (a && (c || d))
    where_top true b c d h = ap (λ e. e || d) (h refl)
    where_top false b c d h = refl

top_left : (K : Capacity) (nodes : List NodeRow) (f : Front) (waiting : List ℕ) (n : ℕ) → IsVolume K nodes → is_in f.tops n ≡ true → left K nodes f (without_number n waiting) ≡ left K nodes f waiting
top_left K nodes f waiting n v top =
    sum_by_each (λ r. if has_above nodes (without_number n waiting) r.parent then part K nodes f r else 0) (λ r. if has_above nodes waiting r.parent then part K nodes f r else 0) row nodes
  where
    row : (r : NodeRow) → (if has_above nodes (without_number n waiting) r.parent then part K nodes f r else 0) ≡ (if has_above nodes waiting r.parent then part K nodes f r else 0)
    row r = elim (is_or_not (is_counted nodes f r.parent)) [
      | inl c ↦ ap (λ b. cond b (part K nodes f r) 0) (above_without nodes waiting n r.parent (not_true _ (λ u. clash _ (above_by nodes f.tops r.parent n top u) (not_above nodes f r.parent c))))
      | inr c ↦ zero_either (has_above nodes (without_number n waiting) r.parent) (has_above nodes waiting r.parent) (part K nodes f r) (ap (λ b. cond b (space K r) 0) c)
    ]

pub pass_top : (K : Capacity) (nodes : List NodeRow) (f : Front) (x : ℕ) (tops waiting : List ℕ) (sum n : ℕ) → Tracked K nodes f x → Leaving K nodes f x tops waiting sum → is_in waiting n ≡ true → is_in tops n ≡ true → Leaving K nodes f x (without_number n tops) (without_number n waiting) sum
pass_top K nodes f x tops waiting sum n t w here top =
    let is : is_in f.tops n ≡ true = own_top (is_in f.tops n) _ (sym (w.tops_are n) ∙ top) in
    let was : (m : ℕ) → is_in (without_number n waiting) m ≡ true → is_in waiting m ≡ true = λ m h. (without_in n m waiting h).1 in
    record {
      ascending_tops = set_without n tops w.ascending_tops;
      ascending = set_without n waiting w.ascending;
      folders = λ m h. w.folders m (was m h);
      below = λ m h. w.below m (was m h);
      visited = λ m h. w.visited m (was m h);
      apart = λ m k h g. w.apart m k (was m h) (was k g);
      tops_are = top_tops K nodes f x tops waiting sum n t w here is;
      sum_is = omega (arith, w.sum_is, top_left K nodes f waiting n t.volume is);
    }
