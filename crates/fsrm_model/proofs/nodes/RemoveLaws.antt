-- What a removal does to chains and usages.
use Rattle.std.proofs.Common.{◌≡◌, ℕ, zero, suc, ◌+◌, ◌==◌, Bool, true, false, cond, ◌||◌, List, [], ◌∷◌, length, refl, sym, ◌∙◌, ap, subst, arith, Some}
use Rattle.std.proofs.lemmas.Bool.Decides.{nat_tests}
use Rattle.std.specs.List.{AllByRecursion}
use Rattle.fsrm_model.specs.declared.row.Capacity.{Capacity}
use Rattle.fsrm_model.specs.declared.row.NodeRow.{NodeRow}
use Rattle.fsrm_base.specs.Keyed.{has_row, without_row, is_ascending}
use Rattle.fsrm_model.specs.nodes.Tree.{number, node_of, parent_of, chain, chain_in, usage}
use Rattle.fsrm_model.specs.values.Space.{space}
use Rattle.fsrm_base.proofs.TestLaws.{clash, not_true, eq_is, nor}
use Rattle.fsrm_base.specs.Numbers.{is_in}
use Rattle.fsrm_model.proofs.nodes.ChainLaws.{IsTree, Has, same_chain, share, usage_is}
use Rattle.fsrm_base.proofs.EditedRows.{sum_by_same, all_rows, sum_by-without_row}
use Rattle.fsrm_model.proofs.nodes.DepthLaws.{soon}
use Rattle.fsrm_model.proofs.nodes.MoveLaws.{same_any, members_has}

-- a node without children goes
pub record Removes (old new : List NodeRow) (x : ℕ) : Type 0 where
  pub tree : IsTree old
  pub is_inner : (x == 0) ≡ false
  pub leaf : (n : ℕ) → Has old n → (parent_of old n == x) ≡ false
  pub gone : has_row number x new ≡ false
  pub numbers : (n : ℕ) → (n == x) ≡ false → has_row number n new ≡ has_row number n old
  pub others : (n : ℕ) → (n == x) ≡ false → parent_of new n ≡ parent_of old n

alone : (b : Bool) → b ≡ false → (b || false) ≡ false
alone b h = ap (λ b. b || false) h

-- it is in no other node's chain
pub chain_lacks_leaf : (old new : List NodeRow) (x : ℕ) → Removes old new x → (k n : ℕ) → Has old n → (n == x) ≡ false → is_in (chain_in k old n) x ≡ false
chain_lacks_leaf old new x m zero n h e = alone (n == x) e
chain_lacks_leaf old new x m (suc k) zero h e = alone (0 == x) e
chain_lacks_leaf old new x m (suc k) (suc n) h e =
    nor (suc n == x) _ e (chain_lacks_leaf old new x m k (parent_of old (suc n)) (m.tree.closed (suc n) h) (m.leaf (suc n) h))

is_other : (old new : List NodeRow) (x n : ℕ) → Removes old new x → Has new n → (n == x) ≡ false
is_other old new x n m h = not_true _ (λ e. clash _ (subst (λ (j : ℕ). has_row number j new ≡ true) (eq_is n x e) h) m.gone)

old_has : (old new : List NodeRow) (x n : ℕ) → Removes old new x → Has new n → Has old n
old_has old new x n m h = sym (m.numbers n (is_other old new x n m h)) ∙ h

pub removed_chain_in : (old new : List NodeRow) (x : ℕ) → Removes old new x → (n : ℕ) → Has new n → chain_in (length old) new n ≡ chain old n
removed_chain_in old new x m n h =
    same_chain (length old) old new x m.others n (chain_lacks_leaf old new x m (length old) n (old_has old new x n m h) (is_other old new x n m h))

new_closed : (old new : List NodeRow) (x : ℕ) → Removes old new x → (n : ℕ) → Has new n → Has new (parent_of new n)
new_closed old new x m n h =
    let was : Has old n = old_has old new x n m h in
    let up : parent_of new n ≡ parent_of old n = m.others n (is_other old new x n m h) in
    subst (Has new) (sym up) (m.numbers (parent_of old n) (m.leaf n was) ∙ m.tree.closed n was)

zero_other : (x : ℕ) → (x == 0) ≡ false → (0 == x) ≡ false
zero_other x h = grind (arith, nat_tests)

removed_in : (old new : List NodeRow) (x j : ℕ) → length old ≡ suc j → Removes old new x → IsTree new
removed_in old new x j e m =
    soon j new
    (record {
      root = m.numbers 0 (zero_other x m.is_inner) ∙ m.tree.root;
      closed = new_closed old new x m;
      rooted = λ n h. subst (λ (k : ℕ). is_in (chain_in k new n) 0 ≡ true) e (subst (λ (ns : List ℕ). is_in ns 0 ≡ true) (sym (removed_chain_in old new x m n h)) (m.tree.rooted n (old_has old new x n m h)));
    })
    (λ n y h r. members_has new (new_closed old new x m) (suc j) n y h r)

-- the nodes after a removal are a tree
pub removed_tree : (old new : List NodeRow) (x : ℕ) → Removes old new x → IsTree new
removed_tree [] new x m = absurd (clash _ m.tree.root refl)
removed_tree (r ∷ rows) new x m = removed_in (r ∷ rows) new x (length rows) refl m

pub removed_chain : (old new : List NodeRow) (x : ℕ) → Removes old new x → (n : ℕ) → Has new n → chain new n ≡ chain old n
removed_chain old new x m n h =
    let e = removed_chain_in old new x m n h in
    let at : is_in (chain_in (length old) new n) 0 ≡ true = subst (λ (ns : List ℕ). is_in ns 0 ≡ true) (sym e) (m.tree.rooted n (old_has old new x n m h)) in
    same_any (length new) (length old) new n ((removed_tree old new x m).rooted n h) at ∙ e

-- a removed node's space leaves each folder on its chain
pub usage-removed : (K : Capacity) (old : List NodeRow) (x : ℕ) → Removes old (without_row number x old) x → is_ascending number old ≡ true → (node : NodeRow) → node_of old x ≡ Some node → (folder : ℕ) → usage K (without_row number x old) folder + share K old folder node ≡ usage K old folder
usage-removed K old x m a node is folder =
    let new = without_row number x old in
    let same : AllByRecursion (λ r. share K new folder r ≡ share K old folder r) new =
    all_rows number (λ r. share K new folder r ≡ share K old folder r) new (λ r h. ap (λ ns. cond (is_in ns folder) (space K r) 0) (removed_chain old new x m r.number h)) in
    omega (arith, usage_is K new folder, usage_is K old folder, sum_by_same _ _ new same, sum_by-without_row number (share K old folder) x node old a is)
