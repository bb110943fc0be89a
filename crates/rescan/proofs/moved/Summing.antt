-- The walk that makes a folder's sum at once, past the folders that have a counter.
use Rattle.std.proofs.Common.{◌≡◌, ℕ, ◌+◌, ◌≤◌, ◌==◌, Bool, true, false, cond, not, ◌||◌, List, [], ◌∷◌, refl, sym, ◌∙◌, ap, inl, inr, arith, Some}
use Rattle.std.specs.Prelude.{sum_by, if◌then◌else◌}
use Rattle.std.specs.List.{AllByRecursion}
use Rattle.fsrm_model.specs.declared.row.Capacity.{Capacity}
use Rattle.fsrm_model.specs.declared.row.NodeRow.{NodeRow}
use Rattle.fsrm_base.specs.Numbers.{is_in, without_number}
use Rattle.fsrm_model.specs.values.Space.{alloc, space}
use Rattle.fsrm_model.specs.nodes.Tree.{number, node_of, is_folder, children, is_under, chain, usage}
use Rattle.fsrm_model.specs.store.Valid.{IsVolume}
use Rattle.fsrm_base.proofs.TestLaws.{is_or_not, clash, not_true, both_true, eq_is, eq_same}
use Rattle.fsrm_model.proofs.nodes.ChainLaws.{Has, share, usage_is}
use Rattle.fsrm_base.proofs.EditedRows.{sum_by_same}
use Rattle.fsrm_model.proofs.nodes.Climbs.{one_is_above, under_own}
use Rattle.fsrm_model.proofs.nodes.Keeps.{found_folder, tree_of}
use Rattle.fsrm_base.proofs.Sums.{sum_by-add, sum_by_each, sum_by_nothing}
use Rattle.fsrm_model.proofs.valid.ValidLaws.{folder_has}
use Rattle.fsrm_base.proofs.NumberLaws.{set_without}
use Rattle.rescan.specs.Frontiers.{Front, has_above}
use Rattle.rescan.specs.Leaves.{counted_below}
use Rattle.rescan.proofs.counted.CountLaws.{is_counted, part}
use Rattle.rescan.proofs.moved.Leaving.{Leaving, Tracked, left, above_one, above_without, begin, without_in}
use Rattle.rescan.proofs.moved.MovedSums.{in_folder, folder_part}
use Rattle.rescan.proofs.moved.Opening.{opened, opened_left, pass_open}
use Rattle.rescan.proofs.unvisited.FindLaws.{no_above}
use Rattle.rescan.proofs.unvisited.Tops.{above_of, above_by, under_under}
use Rattle.fsrm_base.proofs.RowLaws.{each_found}

-- a scan that has visited all at and below a folder
abbrev bare : ℕ → Front
bare x = record { room = record { nodes = 0; cluster = 0 }; folder = Some x; tops = []; sum = 0 }

abbrev pub whole : Capacity → List NodeRow → ℕ → Front
whole K nodes x = record (bare x) { sum = counted_below K nodes (bare x) x }

-- the walk is under way: what is summed up, and what is still to be, is the sum
pub record Summing (K : Capacity) (nodes : List NodeRow) (x : ℕ) (waiting : List ℕ) (sum : ℕ) : Type 0 where
  pub walk : Leaving K nodes (whole K nodes x) x [] waiting (left K nodes (whole K nodes x) waiting)
  pub sum_is : sum + left K nodes (whole K nodes x) waiting ≡ usage K nodes x

below_none : (nodes : List NodeRow) (n : ℕ) → has_above nodes [] n ≡ false
below_none nodes n = no_above (chain nodes n)

counted_in : (K : Capacity) (nodes : List NodeRow) (x n : ℕ) → is_under nodes x n ≡ true → is_counted nodes (whole K nodes x) n ≡ true
counted_in K nodes x n h = both_true (is_under nodes x n) (not (has_above nodes [] n)) h (ap not (below_none nodes n))

pub tracked : (K : Capacity) (nodes : List NodeRow) (x : ℕ) → IsVolume K nodes → is_folder nodes x ≡ true → Tracked K nodes (whole K nodes x) x
tracked K nodes x v folder =
    record {
      volume = v;
      tops = record {
        active = refl;
        folder = folder;
        ascending = refl;
        folders = λ n h. cc;
        below = λ n h. cc;
        apart = λ n m h g u. cc;
      };
      folder = folder;
      visited = counted_in K nodes x x (under_own nodes x);
      enough = omega arith;
    }

-- the walk with what is left of it
with_left : (K : Capacity) (nodes : List NodeRow) (x : ℕ) (waiting : List ℕ) (sum : ℕ) → Leaving K nodes (whole K nodes x) x [] waiting sum → Leaving K nodes (whole K nodes x) x [] waiting (left K nodes (whole K nodes x) waiting)
with_left K nodes x waiting sum w =
    record {
      ascending_tops = w.ascending_tops;
      ascending = w.ascending;
      folders = w.folders;
      below = w.below;
      visited = w.visited;
      apart = w.apart;
      tops_are = w.tops_are;
      sum_is = omega arith;
    }

-- what a row adds to the sum of a folder
none_each : (a b c : Bool) (p s : ℕ) → p ≡ 0 → s ≡ 0 → cond a p 0 ≡ cond b p 0 + cond c s 0
none_each a b c p s h g = omega (arith, zero_at a p h, zero_at b p h, zero_at c s g)
  where
    zero_at : (b : Bool) (p : ℕ) → p ≡ 0 → cond b p 0 ≡ 0
    zero_at true p h = h
    zero_at false p h = refl

whole_at : (a b : Bool) (p s : ℕ) → a ≡ b → (a ≡ true → p ≡ s) → cond a p 0 ≡ cond b s 0
whole_at true true p s e h = h refl
whole_at false false p s e h = refl
whole_at true false p s e h = cc
whole_at false true p s e h = cc

-- the beginning
begin_row : (K : Capacity) (nodes : List NodeRow) (x : ℕ) → IsVolume K nodes → is_folder nodes x ≡ true → (r : NodeRow) → node_of nodes r.number ≡ Some r → (if has_above nodes (x ∷ []) r.parent then part K nodes (whole K nodes x) r else 0) ≡ share K nodes x r
begin_row K nodes x v folder r own = elim (is_or_not r.folder) [
  | inl e ↦
      let empty : space K r ≡ 0 = ap (λ b. cond b 0 (alloc K r.length)) e in
      omega (arith, none_each (has_above nodes (x ∷ []) r.parent) false (is_under nodes x r.number) (part K nodes (whole K nodes x) r) (space K r) (folder_part K nodes (whole K nodes x) r e) empty)
  | inr e ↦
      let at = in_folder K nodes x r v own e in
      let other : (r.number == x) ≡ false = not_true _ (λ s. clash _ (ap (is_folder nodes) (eq_is r.number x s) ∙ folder) (found_folder nodes r.number r own ∙ e)) in
      let up : is_under nodes x r.number ≡ is_under nodes x r.parent = at.up ∙ ap (λ b. b || is_under nodes x r.parent) other in
      whole_at (has_above nodes (x ∷ []) r.parent) (is_under nodes x r.number) (part K nodes (whole K nodes x) r) (space K r) (above_one nodes x r.parent ∙ sym up)
      (λ h. ap (λ b. cond b (space K r) 0) (counted_in K nodes x r.parent (sym (above_one nodes x r.parent) ∙ h)))
]

pub begin_sum : (K : Capacity) (nodes : List NodeRow) (x : ℕ) → IsVolume K nodes → is_folder nodes x ≡ true → Summing K nodes x (x ∷ []) 0
begin_sum K nodes x v folder =
    let f = whole K nodes x in
    let all : left K nodes f (x ∷ []) ≡ usage K nodes x =
    sum_by_same (λ r. if has_above nodes (x ∷ []) r.parent then part K nodes f r else 0) (share K nodes x) nodes
    (each_found number (λ r. (if has_above nodes (x ∷ []) r.parent then part K nodes f r else 0) ≡ share K nodes x r) nodes v.ascending (begin_row K nodes x v folder))
    ∙ sym (usage_is K nodes x) in
    record {
      walk = with_left K nodes x (x ∷ []) f.sum (begin K nodes f x (tracked K nodes x v folder));
      sum_is = omega (arith, all);
    }

-- ---- a folder that is walked through
pub open_sum : (K : Capacity) (nodes : List NodeRow) (x n : ℕ) (waiting : List ℕ) (sum bytes : ℕ) → IsVolume K nodes → is_folder nodes x ≡ true → Summing K nodes x waiting sum → is_in waiting n ≡ true → bytes ≡ sum_by (space K) (children nodes n) → Summing K nodes x (opened nodes n waiting) (sum + bytes)
open_sum K nodes x n waiting sum bytes v folder s here is =
    let f = whole K nodes x in
    let counted = s.walk.visited n here refl in
    let split = opened_left K nodes f x [] waiting (left K nodes f waiting) n v s.walk here counted in
    record {
      walk = with_left K nodes x (opened nodes n waiting) (left K nodes f (opened nodes n waiting))
          (pass_open K nodes f x [] waiting (left K nodes f waiting) (left K nodes f (opened nodes n waiting)) n (tracked K nodes x v folder) s.walk here refl (sym split));
      sum_is = omega (arith, split, is, s.sum_is);
    }

-- what is added is small enough
pub open_small : (K : Capacity) (nodes : List NodeRow) (x n : ℕ) (waiting : List ℕ) (sum bytes : ℕ) → IsVolume K nodes → Summing K nodes x waiting sum → is_in waiting n ≡ true → bytes ≡ sum_by (space K) (children nodes n) → sum + bytes ≤ usage K nodes x
open_small K nodes x n waiting sum bytes v s here is =
    let f = whole K nodes x in
    let counted = s.walk.visited n here refl in
    omega (arith, opened_left K nodes f x [] waiting (left K nodes f waiting) n v s.walk here counted, is, s.sum_is)

-- ---- a folder that has a counter, and is added as a whole
-- no other waiting folder is above what is below one
gone_below : (K : Capacity) (nodes : List NodeRow) (f : Front) (x n p : ℕ) (waiting : List ℕ) (sum : ℕ) → IsVolume K nodes → Leaving K nodes f x [] waiting sum → is_in waiting n ≡ true → Has nodes p → is_under nodes n p ≡ true → has_above nodes (without_number n waiting) p ≡ false
gone_below K nodes f x n p waiting sum v w here hp above = not_true _ (λ h.
    let a = above_of nodes (without_number n waiting) p h in
    let parts = without_in n a.top waiting a.member in
    elim (one_is_above nodes (tree_of K nodes v) p n a.top hp above a.above) [
      | inl e ↦ clash _ (ap (λ j. n == j) (sym (w.apart a.top n parts.1 here e)) ∙ eq_same n) parts.0
      | inr e ↦ clash _ (ap (λ j. n == j) (w.apart n a.top here parts.1 e) ∙ eq_same n) parts.0
    ])

counter_row : (K : Capacity) (nodes : List NodeRow) (x n : ℕ) (waiting : List ℕ) (sum : ℕ) → IsVolume K nodes → Leaving K nodes (whole K nodes x) x [] waiting sum → is_in waiting n ≡ true
    → (r : NodeRow) → node_of nodes r.number ≡ Some r → (if has_above nodes waiting r.parent then part K nodes (whole K nodes x) r else 0) ≡ (if has_above nodes (without_number n waiting) r.parent then part K nodes (whole K nodes x) r else 0) + share K nodes n r
counter_row K nodes x n waiting sum v w here r own = elim (is_or_not r.folder) [
  | inl e ↦
      let empty : space K r ≡ 0 = ap (λ b. cond b 0 (alloc K r.length)) e in
      none_each (has_above nodes waiting r.parent) (has_above nodes (without_number n waiting) r.parent) (is_under nodes n r.number) (part K nodes (whole K nodes x) r) (space K r) (folder_part K nodes (whole K nodes x) r e) empty
  | inr e ↦
      let at = in_folder K nodes n r v own e in
      let hn : Has nodes n = folder_has nodes n (w.folders n here) in
      let other : (r.number == n) ≡ false = not_true _ (λ s. clash _ (ap (is_folder nodes) (eq_is r.number n s) ∙ w.folders n here) (found_folder nodes r.number r own ∙ e)) in
      let up : is_under nodes n r.number ≡ is_under nodes n r.parent = at.up ∙ ap (λ b. b || is_under nodes n r.parent) other in
      elim (is_or_not (is_under nodes n r.parent)) [
        | inl below ↦
            let inside : is_under nodes x r.parent ≡ true = under_under nodes (tree_of K nodes v) x n r.parent hn at.has below (w.below n here) in
            let counted : part K nodes (whole K nodes x) r ≡ space K r = ap (λ b. cond b (space K r) 0) (counted_in K nodes x r.parent inside) in
            taken_at (has_above nodes waiting r.parent) (has_above nodes (without_number n waiting) r.parent) (is_under nodes n r.number) (part K nodes (whole K nodes x) r) (space K r)
            (above_by nodes waiting r.parent n here below) (gone_below K nodes (whole K nodes x) x n r.parent waiting sum v w here at.has below) (up ∙ below) counted
        | inr far ↦
            kept_at (has_above nodes waiting r.parent) (has_above nodes (without_number n waiting) r.parent) (is_under nodes n r.number) (part K nodes (whole K nodes x) r) (space K r)
            (above_without nodes waiting n r.parent far) (up ∙ far)
      ]
]
  where
    taken_at : (a b c : Bool) (p s : ℕ) → a ≡ true → b ≡ false → c ≡ true → p ≡ s → cond a p 0 ≡ cond b p 0 + cond c s 0
    taken_at true false true p s h g k e = omega (arith, e)
    taken_at true false false p s h g k e = cc
    taken_at true true c p s h g k e = cc
    taken_at false b c p s h g k e = cc

    kept_at : (a b c : Bool) (p s : ℕ) → b ≡ a → c ≡ false → cond a p 0 ≡ cond b p 0 + cond c s 0
    kept_at true true false p s h g = omega arith
    kept_at false false false p s h g = omega arith
    kept_at true false c p s h g = cc
    kept_at false true c p s h g = cc
    kept_at true true true p s h g = cc
    kept_at false false true p s h g = cc

pub counter_left : (K : Capacity) (nodes : List NodeRow) (x n : ℕ) (waiting : List ℕ) (sum : ℕ) → IsVolume K nodes → Leaving K nodes (whole K nodes x) x [] waiting sum → is_in waiting n ≡ true → left K nodes (whole K nodes x) waiting ≡ left K nodes (whole K nodes x) (without_number n waiting) + usage K nodes n
counter_left K nodes x n waiting sum v w here =
    let was : NodeRow → ℕ = λ r. cond (has_above nodes waiting r.parent) (part K nodes (whole K nodes x) r) 0 in
    let now : NodeRow → ℕ = λ r. cond (has_above nodes (without_number n waiting) r.parent) (part K nodes (whole K nodes x) r) 0 in
    let each : AllByRecursion (λ r. was r ≡ now r + share K nodes n r) nodes = each_found number (λ r. was r ≡ now r + share K nodes n r) nodes v.ascending (counter_row K nodes x n waiting sum v w here) in
    omega (arith, sum_by_same was (λ r. now r + share K nodes n r) nodes each, sum_by-add now (share K nodes n) nodes, usage_is K nodes n)

pub counter_sum : (K : Capacity) (nodes : List NodeRow) (x n : ℕ) (waiting : List ℕ) (sum bytes : ℕ) → IsVolume K nodes → Summing K nodes x waiting sum → is_in waiting n ≡ true → bytes ≡ usage K nodes n → Summing K nodes x (without_number n waiting) (sum + bytes)
counter_sum K nodes x n waiting sum bytes v s here is =
    let f = whole K nodes x in
    let w = s.walk in
    let was : (m : ℕ) → is_in (without_number n waiting) m ≡ true → is_in waiting m ≡ true = λ m h. (without_in n m waiting h).1 in
    record {
      walk = record {
        ascending_tops = w.ascending_tops;
        ascending = set_without n waiting w.ascending;
        folders = λ m h. w.folders m (was m h);
        below = λ m h. w.below m (was m h);
        visited = λ m h. w.visited m (was m h);
        apart = λ m k h g. w.apart m k (was m h) (was k g);
        tops_are = λ m. refl;
        sum_is = omega arith;
      };
      sum_is = omega (arith, counter_left K nodes x n waiting (left K nodes f waiting) v w here, is, s.sum_is);
    }

pub counter_small : (K : Capacity) (nodes : List NodeRow) (x n : ℕ) (waiting : List ℕ) (sum bytes : ℕ) → IsVolume K nodes → Summing K nodes x waiting sum → is_in waiting n ≡ true → bytes ≡ usage K nodes n → sum + bytes ≤ usage K nodes x
counter_small K nodes x n waiting sum bytes v s here is =
    omega (arith, counter_left K nodes x n waiting (left K nodes (whole K nodes x) waiting) v s.walk here, is, s.sum_is)

-- ---- the end
nothing_left : (K : Capacity) (nodes : List NodeRow) (f : Front) → left K nodes f [] ≡ 0
nothing_left K nodes f =
    sum_by_each (λ r. if has_above nodes [] r.parent then part K nodes f r else 0) (λ r. 0) (λ r. ap (λ b. cond b (part K nodes f r) 0) (below_none nodes r.parent)) nodes ∙ sum_by_nothing nodes

pub whole_sum : (K : Capacity) (nodes : List NodeRow) (x sum : ℕ) → Summing K nodes x [] sum → sum ≡ usage K nodes x
whole_sum K nodes x sum s = omega (arith, s.sum_is, nothing_left K nodes (whole K nodes x))
