-- What a change that keeps numbers and parents does to chains and usages.
use Rattle.std.proofs.Common.{◌≡◌, ℕ, zero, suc, ◌+◌, ◌==◌, Bool, true, false, cond, List, [], ◌∷◌, length, refl, ◌∙◌, ap, arith, Some, Option}
use Rattle.std.specs.Prelude.{if◌then◌else◌}
use Rattle.std.specs.Option.{option_map_or}
use Rattle.std.specs.List.{AllByRecursion}
use Rattle.fsrm_model.specs.declared.row.Capacity.{Capacity}
use Rattle.fsrm_model.specs.declared.row.NodeRow.{NodeRow}
use Rattle.fsrm_base.specs.Keyed.{with_change, is_ascending}
use Rattle.fsrm_model.specs.values.Space.{space}
use Rattle.fsrm_model.specs.nodes.Tree.{number, node_of, parent_of, chain, chain_in, is_under, usage}
use Rattle.fsrm_base.specs.Numbers.{is_in}
use Rattle.fsrm_model.proofs.nodes.ChainLaws.{share, usage_is}
use Rattle.fsrm_base.proofs.EditedRows.{sum_by_same, all_rows, sum_by-with_change, length-change}

-- chains if no node's number and parent changes
abbrev pub up_of : Option NodeRow → ℕ
up_of o = option_map_or (λ node. node.parent) o 0

up_step : (b : Bool) (y x : NodeRow) (o' o : Option NodeRow) → y.parent ≡ x.parent → up_of o' ≡ up_of o → up_of (cond b (Some y) o') ≡ up_of (cond b (Some x) o)
up_step true y x o' o p e = p
up_step false y x o' o p e = e

parent_head : (m : ℕ) (y x : NodeRow) (rows' rows : List NodeRow) → y.number ≡ x.number → y.parent ≡ x.parent → parent_of rows' m ≡ parent_of rows m → parent_of (y ∷ rows') m ≡ parent_of (x ∷ rows) m
parent_head m y x rows' rows k p e =
    ap (λ t. up_of (cond (t == m) (Some y) (node_of rows' m))) k ∙ up_step (x.number == m) y x (node_of rows' m) (node_of rows m) p e

-- a change that keeps numbers and parents
pub record KeepsPlace (c : NodeRow → NodeRow) : Type 0 where
  pub same_number : (r : NodeRow) → (c r).number ≡ r.number
  pub same_parent : (r : NodeRow) → (c r).parent ≡ r.parent

changed_number : (c : NodeRow → NodeRow) → KeepsPlace c → (b : Bool) (x : NodeRow) → (cond b (c x) x).number ≡ x.number
changed_number c k true x = k.same_number x
changed_number c k false x = refl

changed_parent : (c : NodeRow → NodeRow) → KeepsPlace c → (b : Bool) (x : NodeRow) → (cond b (c x) x).parent ≡ x.parent
changed_parent c k true x = k.same_parent x
changed_parent c k false x = refl

pub parent_of-change : (n : ℕ) (c : NodeRow → NodeRow) → KeepsPlace c → (nodes : List NodeRow) (m : ℕ) → parent_of (with_change number n c nodes) m ≡ parent_of nodes m
parent_of-change n c k [] m = refl
parent_of-change n c k (x ∷ nodes) m =
    parent_head m (cond (x.number == n) (c x) x) x (with_change number n c nodes) nodes (changed_number c k (x.number == n) x) (changed_parent c k (x.number == n) x) (parent_of-change n c k nodes m)

same_parents : (k : ℕ) (old new : List NodeRow) → ((m : ℕ) → parent_of new m ≡ parent_of old m) → (n : ℕ) → chain_in k new n ≡ chain_in k old n
same_parents zero old new same n = refl
same_parents (suc k) old new same zero = refl
same_parents (suc k) old new same (suc n) =
    ap (λ ns. suc n ∷ ns) (ap (chain_in k new) (same (suc n)) ∙ same_parents k old new same (parent_of old (suc n)))

pub chain-change : (n : ℕ) (c : NodeRow → NodeRow) → KeepsPlace c → (nodes : List NodeRow) (m : ℕ) → chain (with_change number n c nodes) m ≡ chain nodes m
chain-change n c k nodes m =
    ap (λ j. chain_in j (with_change number n c nodes) m) (length-change number n c nodes)
    ∙ same_parents (length nodes) nodes (with_change number n c nodes) (parent_of-change n c k nodes) m

-- a change of a node's space changes the usage of each folder on its chain by it, and of no other
pub usage-change : (K : Capacity) (nodes : List NodeRow) (n : ℕ) (c : NodeRow → NodeRow) → KeepsPlace c → is_ascending number nodes ≡ true → (node : NodeRow) → node_of nodes n ≡ Some node → (folder : ℕ) → usage K (with_change number n c nodes) folder + (if is_under nodes folder node.number then space K node else 0) ≡ usage K nodes folder + (if is_under nodes folder node.number then space K (c node) else 0)
usage-change K nodes n c k a node is folder =
    let new = with_change number n c nodes in
    let f = share K nodes folder in
    let all : AllByRecursion (λ x. share K new folder x ≡ f x) new = all_rows number (λ x. share K new folder x ≡ f x) new (λ x m. ap (λ ns. cond (is_in ns folder) (space K x) 0) (chain-change n c k nodes x.number)) in
    let own : f (c node) ≡ cond (is_under nodes folder node.number) (space K (c node)) 0 = ap (λ t. cond (is_under nodes folder t) (space K (c node)) 0) (k.same_number node) in
    omega (arith, usage_is K new folder, usage_is K nodes folder, sum_by_same _ _ new all, sum_by-with_change number f n c node nodes a is, own)
