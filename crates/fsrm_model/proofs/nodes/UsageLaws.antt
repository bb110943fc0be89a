-- What is at and below a node is the node and what is at and below its children.
use Rattle.std.proofs.Common.{◌≡◌, ℕ, zero, suc, ◌+◌, ◌≤◌, ◌==◌, Bool, true, false, cond, not, ◌||◌, ◌&&◌, List, [], ◌∷◌, length, refl, sym, ◌∙◌, ap, subst, arith, Some}
use Rattle.std.specs.Prelude.{sum_by, if◌then◌else◌}
use Rattle.std.specs.List.{AllByRecursion}
use Rattle.fsrm_model.specs.declared.row.Capacity.{Capacity}
use Rattle.fsrm_model.specs.declared.row.NodeRow.{NodeRow}
use Rattle.fsrm_base.specs.Keyed.{is_ascending}
use Rattle.fsrm_model.specs.values.Space.{space}
use Rattle.fsrm_model.specs.nodes.Tree.{number, node_of, parent_of, is_folder, is_child, children, chain, is_under, under, usage}
use Rattle.fsrm_model.specs.store.Valid.{IsVolume}
use Rattle.fsrm_base.proofs.TestLaws.{clash, not_true, eq_is, eq_same, eq_turned, suc_apart}
use Rattle.fsrm_model.proofs.nodes.ChainLaws.{IsTree, Has, chain_step}
use Rattle.fsrm_base.specs.Numbers.{is_in}
use Rattle.fsrm_base.proofs.EditedRows.{sum_by-filter, sum_by_same, all_rows}
use Rattle.fsrm_model.proofs.nodes.DepthLaws.{not_above}
use Rattle.fsrm_base.proofs.Sums.{sum_by-add, sum_by_each, sum_by_nothing, sum_by-ones, sum_by_turned, sum_by_only}
use Rattle.fsrm_base.proofs.Look.{has_found, found_key}
use Rattle.fsrm_base.proofs.Members.{none_passes, filter_none}
use Rattle.fsrm_model.proofs.nodes.Keeps.{tree_of}
use Rattle.fsrm_model.proofs.nodes.Below.{chain_root}
use Rattle.fsrm_model.proofs.valid.ValidLaws.{found_parent}

-- a node is in no chain of its parent
pub parent_lacks : (nodes : List NodeRow) → IsTree nodes → (n : ℕ) → Has nodes (suc n) → is_under nodes (suc n) (parent_of nodes (suc n)) ≡ false
parent_lacks [] t n h = cc
parent_lacks (x ∷ xs) t n h = not_above (length xs) (x ∷ xs) (record { root = t.root; closed = t.closed; rooted = t.rooted }) n h

apart_sum : (a b : Bool) (x : ℕ) → (a ≡ true → b ≡ false) → cond (a || b) x 0 ≡ cond a x 0 + cond b x 0
apart_sum true b x h = omega (arith, ap (λ b. cond b x 0) (h refl))
apart_sum false b x h = omega arith

-- what a node other than the root adds below a folder: if it is the folder, and if its parent is below it
up_sum : (nodes : List NodeRow) → IsTree nodes → (n f x : ℕ) → Has nodes (suc n) → cond (is_under nodes f (suc n)) x 0 ≡ cond (suc n == f) x 0 + cond (is_under nodes f (parent_of nodes (suc n))) x 0
up_sum nodes t n f x h =
    let up = parent_of nodes (suc n) in
    ap (λ ns. cond (is_in ns f) x 0) (chain_step nodes n (t.rooted (suc n) h))
    ∙ apart_sum (suc n == f) (is_under nodes f up) x (λ e. subst (λ j. is_under nodes j up ≡ false) (eq_is _ _ e) (parent_lacks nodes t n h))

nothing_at : (a b : Bool) (x : ℕ) → b ≡ false → cond a (cond b x 0) 0 ≡ 0
nothing_at true b x h = ap (λ b. cond b x 0) h
nothing_at false b x h = refl

-- of a folder's children only the node itself can be a given node
child_sum : (nodes : List NodeRow) → is_ascending number nodes ≡ true → (n f x : ℕ) → Has nodes (suc n) → sum_by (λ c. cond (suc n == c.number) x 0) (children nodes f) ≡ cond (parent_of nodes (suc n) == f) x 0
child_sum nodes a n f x h =
    let r = has_found number (suc n) nodes h in
    let own : r.row.number ≡ suc n = found_key number (suc n) nodes r.row r.is in
    let add : NodeRow → ℕ = λ c. if is_child f c then cond (suc n == c.number) x 0 else 0 in
    let only = sum_by_only number add (suc n) (λ c e. nothing_at (is_child f c) (suc n == c.number) x (eq_turned c.number (suc n) e)) nodes r.row a r.is in
    let inner : is_child f r.row ≡ (r.row.parent == f) = ap (λ k. not (k == 0) && (r.row.parent == f)) own ∙ ap (λ b. not b && (r.row.parent == f)) (suc_apart n) in
    let same : (suc n == r.row.number) ≡ true = ap (λ k. suc n == k) own ∙ eq_same (suc n) in
    sum_by-filter (is_child f) (λ c. cond (suc n == c.number) x 0) nodes
    ∙ (only
    ∙ (ap (λ b. cond (is_child f r.row) (cond b x 0) 0) same
    ∙ (ap (λ b. cond b x 0) inner
    ∙ ap (λ p. cond (p == f) x 0) (sym (found_parent nodes (suc n) r.row r.is)))))

-- the root is below no child
root_sum : (nodes : List NodeRow) (f x : ℕ) → sum_by (λ c. cond (is_under nodes c.number 0) x 0) (children nodes f) ≡ 0
root_sum nodes f x =
    sum_by-filter (is_child f) (λ c. cond (is_under nodes c.number 0) x 0) nodes
    ∙ (sum_by_each (λ c. if is_child f c then cond (is_under nodes c.number 0) x 0 else 0) (λ c. 0) (λ c. ap (λ b. cond (is_child f c) (cond b x 0) 0) (chain_root nodes c.number) ∙ no_root c.number (c.parent == f) x) nodes
    ∙ sum_by_nothing nodes)
  where
    no_root : (k : ℕ) (b : Bool) (x : ℕ) → cond (not (k == 0) && b) (cond (0 == k) x 0) 0 ≡ 0
    no_root zero b x = refl
    no_root (suc k) b x = nothing_at (not (suc k == 0) && b) (0 == suc k) x (eq_turned _ _ (suc_apart k))

-- a node is below a folder if it is the folder or is below one of its children
below_in : (nodes : List NodeRow) → IsTree nodes → is_ascending number nodes ≡ true → (most n f x : ℕ) → Has nodes n → length (chain nodes n) ≤ most → cond (is_under nodes f n) x 0 ≡ cond (n == f) x 0 + sum_by (λ c. cond (is_under nodes c.number n) x 0) (children nodes f)
below_in nodes t a most zero f x h l = omega (arith, ap (λ b. cond b x 0) (chain_root nodes f), root_sum nodes f x)
below_in nodes t a zero (suc n) f x h l = absurd (omega (arith, ap length (chain_step nodes n (t.rooted (suc n) h))))
below_in nodes t a (suc most) (suc n) f x h l =
    let up = parent_of nodes (suc n) in
    let long : length (chain nodes (suc n)) ≡ suc (length (chain nodes up)) = ap length (chain_step nodes n (t.rooted (suc n) h)) in
    let before = below_in nodes t a most up f x (t.closed (suc n) h) (omega arith) in
    let own : NodeRow → ℕ = λ c. cond (suc n == c.number) x 0 in
    let later : NodeRow → ℕ = λ c. cond (is_under nodes c.number up) x 0 in
    let each = sum_by_each (λ c. cond (is_under nodes c.number (suc n)) x 0) (λ c. own c + later c) (λ c. up_sum nodes t n c.number x h) (children nodes f) in
    omega (arith, up_sum nodes t n f x h, before, each, sum_by-add own later (children nodes f), child_sum nodes a n f x h)

pub below_sum : (nodes : List NodeRow) → IsTree nodes → is_ascending number nodes ≡ true → (n f x : ℕ) → Has nodes n → (if is_under nodes f n then x else 0) ≡ (if n == f then x else 0) + sum_by (λ c. if is_under nodes c.number n then x else 0) (children nodes f)
below_sum nodes t a n f x h = below_in nodes t a (length (chain nodes n)) n f x h (omega arith)

-- a sum over what is at and below a node
pub under_sum : (nodes : List NodeRow) → IsTree nodes → is_ascending number nodes ≡ true → (g : NodeRow → ℕ) (f : ℕ) (r : NodeRow) → node_of nodes f ≡ Some r → sum_by g (under nodes f) ≡ g r + sum_by (λ c. sum_by g (under nodes c.number)) (children nodes f)
under_sum nodes t a g f r h =
    let own : NodeRow → ℕ = λ n. cond (n.number == f) (g n) 0 in
    let one : NodeRow → NodeRow → ℕ = λ n c. cond (is_under nodes c.number n.number) (g n) 0 in
    let below : NodeRow → ℕ = λ n. cond (is_under nodes f n.number) (g n) 0 in
    let whole : sum_by g (under nodes f) ≡ sum_by below nodes = sum_by-filter (λ n. is_under nodes f n.number) g nodes in
    let all : AllByRecursion (λ n. below n ≡ own n + sum_by (one n) (children nodes f)) nodes =
    all_rows number (λ n. below n ≡ own n + sum_by (one n) (children nodes f)) nodes (λ n m. below_sum nodes t a n.number f (g n) m) in
    let split = sum_by_same below (λ n. own n + sum_by (one n) (children nodes f)) nodes all in
    let parts = sum_by-add own (λ n. sum_by (one n) (children nodes f)) nodes in
    let only : sum_by own nodes ≡ own r = sum_by_only number own f (λ n e. ap (λ b. cond b (g n) 0) e) nodes r a h in
    let itself : own r ≡ g r = ap (λ k. cond (k == f) (g r) 0) (found_key number f nodes r h) ∙ ap (λ b. cond b (g r) 0) (eq_same f) in
    let turned = sum_by_turned one nodes (children nodes f) in
    let each = sum_by_each (λ c. sum_by g (under nodes c.number)) (λ c. sum_by (λ n. one n c) nodes) (λ c. sum_by-filter (λ n. is_under nodes c.number n.number) g nodes) (children nodes f) in
    omega (arith, whole, split, parts, only, itself, turned, each)

-- the usage of a node, and how many nodes are at and below it
pub usage_children : (K : Capacity) (nodes : List NodeRow) (f : ℕ) (r : NodeRow) → IsVolume K nodes → node_of nodes f ≡ Some r → usage K nodes f ≡ space K r + sum_by (λ c. usage K nodes c.number) (children nodes f)
usage_children K nodes f r v h = under_sum nodes (tree_of K nodes v) v.ascending (space K) f r h

pub count_children : (K : Capacity) (nodes : List NodeRow) (f : ℕ) (r : NodeRow) → IsVolume K nodes → node_of nodes f ≡ Some r → length (under nodes f) ≡ 1 + sum_by (λ c. length (under nodes c.number)) (children nodes f)
count_children K nodes f r v h =
    let ones : NodeRow → ℕ = λ n. 1 in
    let each = sum_by_each (λ c. sum_by ones (under nodes c.number)) (λ c. length (under nodes c.number)) (λ c. sum_by-ones (under nodes c.number)) (children nodes f) in
    omega (arith, sum_by-ones (under nodes f), under_sum nodes (tree_of K nodes v) v.ascending ones f r h, each)

-- a file has no children: it is all there is at and below it
pub no_child_of_file : (K : Capacity) (nodes : List NodeRow) (n : ℕ) → IsVolume K nodes → is_folder nodes n ≡ false → children nodes n ≡ []
no_child_of_file K nodes n v h =
    filter_none (is_child n) nodes (none_passes number (is_child n) nodes v.ascending (λ c f.
    fails (not (c.number == 0)) (c.parent == n) (λ e. clash _ (subst (λ p. is_folder nodes p ≡ true) (eq_is _ _ e) (v.up c.number c f)) h)))
  where
    fails : (a b : Bool) → (b ≡ true → ⊥) → (a && b) ≡ false
    fails true b h = not_true b h
    fails false b h = refl

pub usage_of_file : (K : Capacity) (nodes : List NodeRow) (n : ℕ) (r : NodeRow) → IsVolume K nodes → node_of nodes n ≡ Some r → is_folder nodes n ≡ false → usage K nodes n ≡ space K r
usage_of_file K nodes n r v h e =
    let none = ap (sum_by (λ c. usage K nodes c.number)) (no_child_of_file K nodes n v e) in
    omega (arith, usage_children K nodes n r v h, none)

pub count_of_file : (K : Capacity) (nodes : List NodeRow) (n : ℕ) (r : NodeRow) → IsVolume K nodes → node_of nodes n ≡ Some r → is_folder nodes n ≡ false → length (under nodes n) ≡ 1
count_of_file K nodes n r v h e =
    let none = ap (sum_by (λ c. length (under nodes c.number))) (no_child_of_file K nodes n v e) in
    omega (arith, count_children K nodes n r v h, none)
