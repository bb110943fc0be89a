-- No sum of a scan passes 64 bits.
use Rattle.std.proofs.Common.{◌≡◌, ℕ, ◌+◌, ◌*◌, ◌^◌, ◌<◌, ◌≤◌, ◌==◌, Bool, true, false, cond, List, [], ◌∷◌, length, Some, ap, sym, ◌∙◌, arith, inl, inr}
use Rattle.std.proofs.lemmas.List.Sums.{sum_by-cons}
use native.Mathlib.Nat.{mul-le-mul_right}
use Rattle.std.specs.Prelude.{sum_by, nat_le}
use Rattle.std.specs.List.{AllByRecursion}
use Rattle.fsrm_model.specs.declared.row.Capacity.{Capacity}
use Rattle.fsrm_model.specs.declared.row.NodeRow.{NodeRow}
use Rattle.fsrm_model.specs.store.Capacities.{is_capacity}
use Rattle.fsrm_base.specs.Keyed.{is_ascending}
use Rattle.fsrm_model.specs.values.Limits.{longest_file}
use Rattle.fsrm_model.specs.objects.Scan.{counted}
use Rattle.fsrm_model.specs.values.Space.{alloc, space}
use Rattle.fsrm_model.specs.nodes.Tree.{number, node_of, is_under, usage}
use Rattle.fsrm_model.specs.store.Valid.{IsVolume}
use Rattle.fsrm_model.proofs.nodes.ChainLaws.{share, usage_is}
use Rattle.fsrm_model.proofs.valid.CapacityLaws.{nodes_most, alloc_most}
use Rattle.fsrm_base.proofs.Order.{parts}
use Rattle.fsrm_base.proofs.TestLaws.{is_or_not, both, eq_is, lt_is, le_is}
use Rattle.rescan.specs.Frontiers.{Front, scanned, unvisited}
use Rattle.rescan.proofs.counted.CountLaws.{is_counted, part, counted_is}
use Rattle.volume_tree.proofs.slotted.FreshLaws.{few_nodes}
use Rattle.fsrm_base.proofs.RowLaws.{each_found}

-- so many nodes at most
abbrev From : ℕ → ℕ → List NodeRow → Type 0
From n most [] = n ≤ most
From n most (row ∷ rows) = n ≤ number row

few_from : (n most : ℕ) (rows : List NodeRow) → From n most rows → is_ascending number rows ≡ true → AllByRecursion (λ row. number row < most) rows → n + length rows ≤ most
few_from n most [] h a each = omega arith
few_from n most (row ∷ rows) h a each =
    let rest = few_from (n + 1) most rows (next n most row rows h each.0 a) (parts number row rows a).rest each.1 in
    omega (arith, rest)
  where
    next : (n most : ℕ) (row : NodeRow) (rows : List NodeRow) → n ≤ number row → number row < most → is_ascending number (row ∷ rows) ≡ true → From (n + 1) most rows
    next n most row [] h low a = omega arith
    next n most row (other ∷ rows) h low a = let up : number row < number other = lt_is _ _ (parts number row (other ∷ rows) a).above in omega arith

-- the root takes nothing, and a file no more than the longest
pub root_empty : (K : Capacity) (nodes : List NodeRow) (r : NodeRow) → IsVolume K nodes → node_of nodes 0 ≡ Some r → space K r ≡ 0
root_empty K nodes r v found =
    let folder : r.folder ≡ true = (both r.folder _ (both _ _ (both _ _ (v.root r found)).0).0).0 in
    ap (λ b. cond b 0 (alloc K r.length)) folder

space_at : (K : Capacity) (b : Bool) (n : ℕ) → is_capacity K ≡ true → nat_le n (cond b 0 longest_file) ≡ true → cond b 0 (alloc K n) ≤ longest_file
space_at K true n legal h = omega arith
space_at K false n legal h = alloc_most K n legal (le_is n longest_file h)

space_most : (K : Capacity) (nodes : List NodeRow) → IsVolume K nodes → is_capacity K ≡ true → (r : NodeRow) → node_of nodes (number r) ≡ Some r → space K r ≤ longest_file
space_most K nodes v legal r f = elim (is_or_not (number r == 0)) [
  | inl top ↦ let none = root_empty K nodes r v (ap (node_of nodes) (sym (eq_is (number r) 0 top)) ∙ f) in omega (arith, none)
  | inr inner ↦ space_at K r.folder r.length legal (both _ _ (both _ _ (v.own (number r) r f inner)).1).0
]

-- the space of all files, and of one more, is less than 2^64
pub sum_most : (f : NodeRow → ℕ) (most : ℕ) (rows : List NodeRow) → AllByRecursion (λ r. f r ≤ most) rows → sum_by f rows ≤ length rows * most
sum_most f most [] h = omega arith
sum_most f most (r ∷ rows) h = omega (arith, sum_by-cons f r rows, h.0, sum_most f most rows h.1)

pub total_small : (K : Capacity) (nodes : List NodeRow) → IsVolume K nodes → is_capacity K ≡ true → sum_by (space K) nodes < 2 ^ 64
total_small K nodes v legal =
    let small : AllByRecursion (λ r. space K r ≤ longest_file) nodes = each_found number (λ r. space K r ≤ longest_file) nodes v.ascending (space_most K nodes v legal) in
    let most : sum_by (space K) nodes ≤ length nodes * longest_file = sum_most (space K) longest_file nodes small in
    bound (length nodes) (sum_by (space K) nodes) most (omega (arith, few_nodes K nodes v, nodes_most K legal))
  where
    bound : (n whole : ℕ) → whole ≤ n * longest_file → n ≤ 1048576 → whole < 2 ^ 64
    bound n whole h few = omega (arith, mul-le-mul_right longest_file few)

pub sum_le : (f g : NodeRow → ℕ) (rows : List NodeRow) → ((r : NodeRow) → f r ≤ g r) → sum_by f rows ≤ sum_by g rows
sum_le f g [] h = omega arith
sum_le f g (r ∷ rows) h = omega (arith, sum_by-cons f r rows, sum_by-cons g r rows, h r, sum_le f g rows h)

-- a part of a number is no more than it
part_le : (b : Bool) (s : ℕ) → cond b s 0 ≤ s
part_le true s = omega arith
part_le false s = omega arith

pub counted_small : (K : Capacity) (nodes : List NodeRow) (f : Front) → IsVolume K nodes → counted K nodes (scanned f) (unvisited nodes f) ≤ sum_by (space K) nodes
counted_small K nodes f v = omega (arith, counted_is K nodes v f, sum_le (part K nodes f) (space K) nodes (λ r. part_le (is_counted nodes f r.parent) (space K r)))

pub usage_total : (K : Capacity) (nodes : List NodeRow) (f : ℕ) → usage K nodes f ≤ sum_by (space K) nodes
usage_total K nodes f = omega (arith, usage_is K nodes f, sum_le (share K nodes f) (space K) nodes (λ r. part_le (is_under nodes f r.number) (space K r)))

pub usage_small : (K : Capacity) (nodes : List NodeRow) (f : ℕ) → IsVolume K nodes → is_capacity K ≡ true → usage K nodes f < 2 ^ 64
usage_small K nodes f v legal = omega (arith, usage_total K nodes f, total_small K nodes v legal)
