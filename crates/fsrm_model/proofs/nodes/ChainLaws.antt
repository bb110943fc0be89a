-- Laws of the chain of a node.
use Rattle.std.proofs.Common.{◌≡◌, ℕ, zero, suc, ◌+◌, ◌==◌, true, false, cond, ◌||◌, List, [], ◌∷◌, length, refl, sym, ◌∙◌, ap, subst, arith, inl, inr}
use Rattle.std.proofs.lemmas.Bool.Decides.{nat_tests}
use Rattle.std.specs.Prelude.{sum_by, if◌then◌else◌}
use Rattle.std.specs.List.{AllByRecursion}
use Rattle.fsrm_model.specs.declared.row.Capacity.{Capacity}
use Rattle.fsrm_model.specs.declared.row.NodeRow.{NodeRow}
use Rattle.fsrm_base.specs.Keyed.{with_row, has_row}
use Rattle.fsrm_model.specs.values.Space.{space}
use Rattle.fsrm_model.specs.nodes.Tree.{number, chain_in, chain, parent_of, is_under, usage}
use Rattle.fsrm_base.proofs.TestLaws.{not_true, is_or, neither, eq_is, eq_same, not_root}
use Rattle.fsrm_base.specs.Numbers.{is_in}
use Rattle.fsrm_base.proofs.EditedRows.{sum_by-filter, sum_by-with_row, sum_by_same, find-with_row, all_rows, length-with_row, find-with_row_same}

-- a chain that comes to the root stays as it is with more steps
pub stable : (k : ℕ) (nodes : List NodeRow) (n : ℕ) → is_in (chain_in k nodes n) 0 ≡ true → chain_in (suc k) nodes n ≡ chain_in k nodes n
stable zero nodes zero h = refl
stable zero nodes (suc n) h = cc (not_root n false h)
stable (suc k) nodes zero h = refl
stable (suc k) nodes (suc n) h = ap (λ ns. suc n ∷ ns) (stable k nodes (parent_of nodes (suc n)) (not_root n _ h))

-- the chain of a node other than the root is the node and its parent's chain
pub chain_step : (nodes : List NodeRow) (n : ℕ) → is_in (chain nodes (suc n)) 0 ≡ true → chain nodes (suc n) ≡ suc n ∷ chain nodes (parent_of nodes (suc n))
chain_step [] n h = cc (not_root n false h)
chain_step (x ∷ xs) n h = ap (λ ns. suc n ∷ ns) (sym (stable (length xs) (x ∷ xs) (parent_of (x ∷ xs) (suc n)) (not_root n _ h)))

abbrev pub Has : List NodeRow → ℕ → Type 0
Has nodes n = has_row number n nodes ≡ true

-- the shape of a tree with the root 0
pub record IsTree (nodes : List NodeRow) : Type 0 where
  pub root : Has nodes 0
  pub closed : (n : ℕ) → Has nodes n → Has nodes (parent_of nodes n)
  pub rooted : (n : ℕ) → Has nodes n → is_in (chain nodes n) 0 ≡ true

-- each member of a node's chain is a node
pub chain_in_has : (nodes : List NodeRow) → IsTree nodes → (k n x : ℕ) → Has nodes n → is_in (chain_in k nodes n) x ≡ true → Has nodes x
chain_in_has nodes t zero n x h m = elim (is_or _ _ m) [ inl e ↦ subst (Has nodes) (eq_is n x e) h | inr f ↦ cc ]
chain_in_has nodes t (suc k) zero x h m = elim (is_or _ _ m) [ inl e ↦ subst (Has nodes) (eq_is 0 x e) h | inr f ↦ cc ]
chain_in_has nodes t (suc k) (suc n) x h m =
    elim (is_or _ _ m) [ inl e ↦ subst (Has nodes) (eq_is (suc n) x e) h | inr r ↦ chain_in_has nodes t k (parent_of nodes (suc n)) x (t.closed (suc n) h) r ]

-- a number that is no node's is in no node's chain
pub chain_lacks : (nodes : List NodeRow) → IsTree nodes → (k n f : ℕ) → Has nodes n → has_row number f nodes ≡ false → is_in (chain_in k nodes n) f ≡ false
chain_lacks nodes t k n f h absent = not_true _ (λ m. let is : Has nodes f = chain_in_has nodes t k n f h m in cc)

-- if the parents are the same but for one node, a chain without it is the same
pub same_chain : (k : ℕ) (old new : List NodeRow) (f : ℕ) → ((m : ℕ) → (m == f) ≡ false → parent_of new m ≡ parent_of old m) → (n : ℕ) → is_in (chain_in k old n) f ≡ false → chain_in k new n ≡ chain_in k old n
same_chain zero old new f same n h = refl
same_chain (suc k) old new f same zero h = refl
same_chain (suc k) old new f same (suc n) h =
    let apart = neither _ _ h in
    let e : parent_of new (suc n) ≡ parent_of old (suc n) = same (suc n) apart.0 in
    ap (λ ns. suc n ∷ ns) (ap (chain_in k new) e ∙ same_chain k old new f same (parent_of old (suc n)) apart.1)

parent_of-new : (nodes : List NodeRow) (node : NodeRow) (m : ℕ) → (m == node.number) ≡ false → parent_of (with_row number node nodes) m ≡ parent_of nodes m
parent_of-new nodes node m h =
    let other : (node.number == m) ≡ false = grind (arith, nat_tests) in
    rw (find-with_row number (λ r. number r == m) node nodes other) refl

pub chain-new_other : (nodes : List NodeRow) → IsTree nodes → (node : NodeRow) → has_row number node.number nodes ≡ false → (n : ℕ) → Has nodes n → chain (with_row number node nodes) n ≡ chain nodes n
chain-new_other nodes t node absent n h =
    let new = with_row number node nodes in
    let lacks : is_in (chain_in (suc (length nodes)) nodes n) node.number ≡ false = chain_lacks nodes t (suc (length nodes)) n node.number h absent in
    ap (λ k. chain_in k new n) (length-with_row number node nodes)
    ∙ (same_chain (suc (length nodes)) nodes new node.number (parent_of-new nodes node) n lacks
    ∙ stable (length nodes) nodes n (t.rooted n h))

pub parent_of-new_same : (nodes : List NodeRow) (node : NodeRow) → has_row number node.number nodes ≡ false → parent_of (with_row number node nodes) node.number ≡ node.parent
parent_of-new_same nodes node absent =
    rw (find-with_row_same number (λ r. number r == node.number) node nodes (eq_same node.number) absent) refl

pub chain-new : (nodes : List NodeRow) → IsTree nodes → (node : NodeRow) (n : ℕ) → node.number ≡ suc n → has_row number node.number nodes ≡ false → Has nodes node.parent → chain (with_row number node nodes) node.number ≡ node.number ∷ chain nodes node.parent
chain-new nodes t node n e absent h =
    let new = with_row number node nodes in
    let lacks : is_in (chain_in (length nodes) nodes node.parent) node.number ≡ false = chain_lacks nodes t (length nodes) node.parent node.number h absent in
    let up : parent_of new (suc n) ≡ node.parent = ap (parent_of new) (sym e) ∙ parent_of-new_same nodes node absent in
    ap (λ k. chain_in k new node.number) (length-with_row number node nodes)
    ∙ (ap (chain_in (suc (length nodes)) new) e
    ∙ (ap (λ p. suc n ∷ chain_in (length nodes) new p) up
    ∙ (ap (λ ns. suc n ∷ ns) (same_chain (length nodes) nodes new node.number (parent_of-new nodes node) node.parent lacks)
    ∙ ap (λ k. k ∷ chain nodes node.parent) (sym e))))

-- what a node adds to a folder's usage
abbrev pub share : Capacity → List NodeRow → ℕ → NodeRow → ℕ
share K nodes folder node = if is_under nodes folder node.number then space K node else 0

pub usage_is : (K : Capacity) (nodes : List NodeRow) (folder : ℕ) → usage K nodes folder ≡ sum_by (share K nodes folder) nodes
usage_is K nodes folder = sum_by-filter (λ node. is_under nodes folder node.number) (space K) nodes

-- a new node adds its space to the usage of each folder on its parent's chain, and to no other
pub usage-new : (K : Capacity) (nodes : List NodeRow) → IsTree nodes → (node : NodeRow) (n : ℕ) → node.number ≡ suc n → has_row number node.number nodes ≡ false → Has nodes node.parent → (folder : ℕ) → Has nodes folder → usage K (with_row number node nodes) folder ≡ usage K nodes folder + (if is_under nodes folder node.parent then space K node else 0)
usage-new K nodes t node n e absent h folder is =
    let new = with_row number node nodes in
    let apart : (node.number == folder) ≡ false = not_true _ (λ m. let f : Has nodes node.number = subst (Has nodes) (sym (eq_is _ _ m)) is in cc) in
    let same : AllByRecursion (λ x. share K new folder x ≡ share K nodes folder x) nodes =
    all_rows number (λ x. share K new folder x ≡ share K nodes folder x) nodes (λ x m. ap (λ ns. cond (is_in ns folder) (space K x) 0) (chain-new_other nodes t node absent x.number m)) in
    let own : share K new folder node ≡ cond (is_under nodes folder node.parent) (space K node) 0 =
    ap (λ ns. cond (is_in ns folder) (space K node) 0) (chain-new nodes t node n e absent h)
    ∙ ap (λ b. cond (b || is_under nodes folder node.parent) (space K node) 0) apart in
    omega (arith, usage_is K new folder, usage_is K nodes folder, sum_by-with_row number (share K new folder) node nodes, sum_by_same _ _ nodes same, own)
