-- How much of a walk through a folder is still ahead.
use Rattle.std.proofs.Common.{◌≡◌, ℕ, ◌+◌, ◌*◌, ◌≤◌, ◌==◌, Bool, true, false, cond, not, ◌||◌, ◌&&◌, List, [], ◌∷◌, length, refl, sym, ◌∙◌, ap, arith, Some, ◌<◌}
use Rattle.std.proofs.lemmas.List.Sums.{sum_by-cons}
use Rattle.std.specs.Prelude.{sum_by, if◌then◌else◌}
use Rattle.std.specs.List.{AllByRecursion}
use Rattle.fsrm_model.specs.declared.row.Capacity.{Capacity}
use Rattle.fsrm_model.specs.declared.row.NodeRow.{NodeRow}
use Rattle.fsrm_base.specs.Numbers.{is_in, without_number}
use Rattle.fsrm_model.specs.nodes.Tree.{number, node_of, is_child, children, is_under, under}
use Rattle.fsrm_model.specs.store.Valid.{IsVolume}
use Rattle.fsrm_base.proofs.TestLaws.{clash, or_later, eq_is, eq_same}
use Rattle.fsrm_model.proofs.nodes.ChainLaws.{Has}
use Rattle.fsrm_base.proofs.EditedRows.{sum_by-filter}
use Rattle.fsrm_model.proofs.nodes.Keeps.{tree_of}
use Rattle.fsrm_base.proofs.Look.{found_has, has_found, found_key}
use Rattle.fsrm_base.proofs.Sums.{sum_by-add, sum_by_only, sum_by_most}
use Rattle.fsrm_model.proofs.valid.ValidLaws.{folder_has, found_parent}
use Rattle.rescan.specs.Frontiers.{Front, has_above}
use Rattle.rescan.proofs.moved.Leaving.{Leaving, above_one, without_in, waiting_has, without_gone}
use Rattle.rescan.proofs.moved.Opening.{opened, opened_gone, opened_less}
use Rattle.rescan.proofs.unvisited.Tops.{above_of, above_by, above_own, under_child}
use Rattle.fsrm_base.proofs.RowLaws.{each_found}

-- the looks that are ahead: one for each node at or below a waiting one, and two for each whose parent is that
abbrev pub ahead : List NodeRow → List ℕ → ℕ
ahead nodes waiting =
    sum_by (λ row. (if has_above nodes waiting row.number then 1 else 0) + (if not (row.number == 0) && has_above nodes waiting row.parent then 2 else 0)) nodes

same_each : {X : Type 0} (k : ℕ) (xs : List X) → sum_by (λ (x : X). k) xs ≡ k * length xs
same_each k [] = omega arith
same_each {X} k (x ∷ xs) = omega (arith, sum_by-cons (λ (x : X). k) x xs, same_each k xs)

-- one step
fewer : (k : ℕ) (now was passed : Bool) → (passed ≡ true → was ≡ true) → (passed ≡ true → now ≡ false) → (now ≡ true → was ≡ true) → cond now k 0 + cond passed k 0 ≤ cond was k 0
fewer k true true true h g i = let e : true ≡ false = g refl in absurd (clash true refl e)
fewer k true true false h g i = omega arith
fewer k true false p h g i = let e : false ≡ true = i refl in absurd (clash false e refl)
fewer k false true true h g i = omega arith
fewer k false true false h g i = omega arith
fewer k false false true h g i = let e : false ≡ true = h refl in absurd (clash false e refl)
fewer k false false false h g i = omega arith

step_row : (K : Capacity) (nodes : List NodeRow) (waiting new : List ℕ) (n : ℕ) → IsVolume K nodes → has_above nodes waiting n ≡ true → has_above nodes new n ≡ false → ((m : ℕ) → Has nodes m → has_above nodes new m ≡ true → has_above nodes waiting m ≡ true)
    → (r : NodeRow) → node_of nodes r.number ≡ Some r
    → ((if has_above nodes new r.number then 1 else 0) + (if not (r.number == 0) && has_above nodes new r.parent then 2 else 0)) + ((if r.number == n then 1 else 0) + (if is_child n r then 2 else 0))
    ≤ (if has_above nodes waiting r.number then 1 else 0) + (if not (r.number == 0) && has_above nodes waiting r.parent then 2 else 0)
step_row K nodes waiting new n v was now less r own =
    let hp = folder_has nodes r.parent (v.up r.number r own) in
    let inner = not (r.number == 0) in
    let own_step : cond (has_above nodes new r.number) 1 0 + cond (r.number == n) 1 0 ≤ cond (has_above nodes waiting r.number) 1 0 =
    fewer 1 (has_above nodes new r.number) (has_above nodes waiting r.number) (r.number == n)
    (λ e. ap (has_above nodes waiting) (eq_is r.number n e) ∙ was)
    (λ e. ap (has_above nodes new) (eq_is r.number n e) ∙ now)
    (less r.number (found_has number r.number nodes r own)) in
    let child_step : cond (inner && has_above nodes new r.parent) 2 0 + cond (inner && (r.parent == n)) 2 0 ≤ cond (inner && has_above nodes waiting r.parent) 2 0 =
    within inner
    (fewer 2 (has_above nodes new r.parent) (has_above nodes waiting r.parent) (r.parent == n)
    (λ e. ap (has_above nodes waiting) (eq_is r.parent n e) ∙ was)
    (λ e. ap (has_above nodes new) (eq_is r.parent n e) ∙ now)
    (less r.parent hp)) in
    omega (arith, own_step, child_step)
  where
    within : (b : Bool) → cond (has_above nodes new r.parent) 2 0 + cond (r.parent == n) 2 0 ≤ cond (has_above nodes waiting r.parent) 2 0 → cond (b && has_above nodes new r.parent) 2 0 + cond (b && (r.parent == n)) 2 0 ≤ cond (b && has_above nodes waiting r.parent) 2 0
    within true h = h
    within false h = omega arith

pub step_ahead : (K : Capacity) (nodes : List NodeRow) (waiting new : List ℕ) (n : ℕ) → IsVolume K nodes → Has nodes n → has_above nodes waiting n ≡ true → has_above nodes new n ≡ false → ((m : ℕ) → Has nodes m → has_above nodes new m ≡ true → has_above nodes waiting m ≡ true) → ahead nodes new + (1 + 2 * length (children nodes n)) ≤ ahead nodes waiting
step_ahead K nodes waiting new n v hn was now less =
    let f = has_found number n nodes hn in
    let looks : List ℕ → NodeRow → ℕ = λ ns r. cond (has_above nodes ns r.number) 1 0 + cond (not (r.number == 0) && has_above nodes ns r.parent) 2 0 in
    let one : NodeRow → ℕ = λ r. cond (r.number == n) 1 0 in
    let two : NodeRow → ℕ = λ r. cond (is_child n r) 2 0 in
    let each : AllByRecursion (λ r. looks new r + (one r + two r) ≤ looks waiting r) nodes =
    each_found number (λ r. looks new r + (one r + two r) ≤ looks waiting r) nodes v.ascending (step_row K nodes waiting new n v was now less) in
    let same : (f.row.number == n) ≡ true = ap (λ j. j == n) (found_key number n nodes f.row f.is) ∙ eq_same n in
    let single : sum_by one nodes ≡ 1 = sum_by_only number one n (λ r e. ap (λ b. cond b 1 0) e) nodes f.row v.ascending f.is ∙ ap (λ b. cond b 1 0) same in
    let pairs : sum_by two nodes ≡ 2 * length (children nodes n) = sym (sum_by-filter (is_child n) (λ r. 2) nodes) ∙ same_each 2 (children nodes n) in
    omega (
      arith,
      sum_by_most (λ r. looks new r + (one r + two r)) (looks waiting) nodes each,
      sum_by-add (looks new) (λ r. one r + two r) nodes,
      sum_by-add one two nodes,
      single,
      pairs,
    )

-- the whole walk
whole_row : (K : Capacity) (nodes : List NodeRow) (x : ℕ) → IsVolume K nodes → (r : NodeRow) → node_of nodes r.number ≡ Some r
    → (if has_above nodes (x ∷ []) r.number then 1 else 0) + (if not (r.number == 0) && has_above nodes (x ∷ []) r.parent then 2 else 0) ≤ (if is_under nodes x r.number then 3 else 0)
whole_row K nodes x v r own =
    at (has_above nodes (x ∷ []) r.number) (is_under nodes x r.number) (r.number == 0) (has_above nodes (x ∷ []) r.parent) (above_one nodes x r.number)
    (λ e h.
    let up : is_under nodes x r.number ≡ ((r.number == x) || is_under nodes x r.parent) =
    under_child nodes (tree_of K nodes v) x r.number (found_has number r.number nodes r own) (λ z. clash (r.number == 0) (ap (λ j. j == 0) z ∙ eq_same 0) e)
    ∙ ap (λ p. (r.number == x) || is_under nodes x p) (found_parent nodes r.number r own) in
    up ∙ or_later (r.number == x) _ (sym (above_one nodes x r.parent) ∙ h))
  where
    at : (a b root c : Bool) → a ≡ b → (root ≡ false → c ≡ true → b ≡ true) → cond a 1 0 + cond (not root && c) 2 0 ≤ cond b 3 0
    at true true true c e h = omega arith
    at true true false true e h = omega arith
    at true true false false e h = omega arith
    at false false true c e h = omega arith
    at false false false true e h = let g : false ≡ true = h refl refl in absurd (clash false g refl)
    at false false false false e h = omega arith
    at true false root c e h = absurd (clash true refl e)
    at false true root c e h = absurd (clash true refl (sym e))

pub whole_ahead : (K : Capacity) (nodes : List NodeRow) (x : ℕ) → IsVolume K nodes → ahead nodes (x ∷ []) ≤ 3 * length (under nodes x)
whole_ahead K nodes x v =
    let looks : NodeRow → ℕ = λ r. cond (has_above nodes (x ∷ []) r.number) 1 0 + cond (not (r.number == 0) && has_above nodes (x ∷ []) r.parent) 2 0 in
    let most : NodeRow → ℕ = λ r. cond (is_under nodes x r.number) 3 0 in
    let each : AllByRecursion (λ r. looks r ≤ most r) nodes = each_found number (λ r. looks r ≤ most r) nodes v.ascending (whole_row K nodes x v) in
    omega (
      arith,
      sum_by_most looks most nodes each,
      sum_by-filter (λ r. is_under nodes x r.number) (λ r. 3) nodes,
      same_each 3 (under nodes x),
    )

-- the two kinds of steps
pub top_ahead : (K : Capacity) (nodes : List NodeRow) (f : Front) (x : ℕ) (tops waiting : List ℕ) (sum n : ℕ) → IsVolume K nodes → Leaving K nodes f x tops waiting sum → is_in waiting n ≡ true → ahead nodes (without_number n waiting) < ahead nodes waiting
top_ahead K nodes f x tops waiting sum n v w here =
    let step = step_ahead K nodes waiting (without_number n waiting) n v (waiting_has K nodes f x tops waiting sum w n here) (above_own nodes waiting n here) (without_gone K nodes f x tops waiting sum n w here)
    (λ m h a. let up = above_of nodes (without_number n waiting) m a in above_by nodes waiting m up.top (without_in n up.top waiting up.member).1 up.above) in
    omega (arith, step)

pub open_ahead : (K : Capacity) (nodes : List NodeRow) (f : Front) (x : ℕ) (tops waiting : List ℕ) (sum n : ℕ) → IsVolume K nodes → Leaving K nodes f x tops waiting sum → is_in waiting n ≡ true → ahead nodes (opened nodes n waiting) + (1 + 2 * length (children nodes n)) ≤ ahead nodes waiting
open_ahead K nodes f x tops waiting sum n v w here =
    let has = waiting_has K nodes f x tops waiting sum w n here in
    step_ahead K nodes waiting (opened nodes n waiting) n v has (above_own nodes waiting n here) (opened_gone K nodes f x tops waiting sum n v w here)
    (λ m h a. opened_less K nodes waiting n m v here h has a)
