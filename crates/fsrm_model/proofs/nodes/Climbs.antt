-- The way up from a node to the root.
use Rattle.std.proofs.Common.{◌≡◌, ℕ, zero, suc, ◌<◌, ◌≤◌, ◌==◌, true, false, ◌||◌, ◌⊎◌, inl, inr, List, [], ◌∷◌, drop, length, refl, sym, ◌∙◌, ap, subst, arith}
use Rattle.fsrm_model.specs.declared.row.NodeRow.{NodeRow}
use Rattle.fsrm_model.specs.nodes.Tree.{above, chain, chain_in, is_under, parent_of}
use Rattle.fsrm_base.specs.Numbers.{is_in}
use Rattle.fsrm_base.proofs.TestLaws.{clash, eq_is, eq_same, is_apart, is_or_not}
use Rattle.fsrm_model.proofs.nodes.Below.{chain_root}
use Rattle.fsrm_model.proofs.nodes.ChainLaws.{IsTree, Has, chain_step}
use Rattle.fsrm_model.proofs.nodes.DepthLaws.{some_member}
use Rattle.fsrm_model.proofs.nodes.MoveLaws.{own_first}
use Rattle.fsrm_model.proofs.nodes.UsageLaws.{parent_lacks}

pub climb : (nodes : List NodeRow) → IsTree nodes → (n : ℕ) → Has nodes n → (n ≡ 0 → ⊥) → chain nodes n ≡ n ∷ chain nodes (parent_of nodes n)
climb nodes t zero h i = absurd (i refl)
climb nodes t (suc n) h i = chain_step nodes n (t.rooted (suc n) h)

pub shorter : (nodes : List NodeRow) → IsTree nodes → (n : ℕ) → Has nodes n → (n ≡ 0 → ⊥) → length (chain nodes (parent_of nodes n)) < length (chain nodes n)
shorter nodes t n h i = let e = ap length (climb nodes t n h i) in omega (arith, e)

pub under_up : (nodes : List NodeRow) → IsTree nodes → (f n : ℕ) → Has nodes n → (n ≡ 0 → ⊥) → (n ≡ f → ⊥) → is_under nodes f n ≡ is_under nodes f (parent_of nodes n)
under_up nodes t f n h i j = ap (λ ns. is_in ns f) (climb nodes t n h i) ∙ ap (λ b. b || is_under nodes f (parent_of nodes n)) (is_apart n f j)

pub under_own : (nodes : List NodeRow) (n : ℕ) → is_under nodes n n ≡ true
under_own nodes n = own_first (length nodes) nodes n

-- ---- the nodes above a node
-- the way up begins with the node itself
pub own_then_above : (nodes : List NodeRow) (n : ℕ) → chain nodes n ≡ n ∷ above nodes n
own_then_above nodes n = begins (length nodes) n
  where
    begins : (k n : ℕ) → chain_in k nodes n ≡ n ∷ drop 1 (chain_in k nodes n)
    begins zero n = refl
    begins (suc k) zero = refl
    begins (suc k) (suc n) = refl

-- none is above the root
pub above_root : (nodes : List NodeRow) → above nodes 0 ≡ []
above_root [] = refl
above_root (r ∷ rows) = refl

pub root_alone : (nodes : List NodeRow) → chain nodes 0 ≡ 0 ∷ []
root_alone nodes = own_then_above nodes 0 ∙ ap (λ ns. 0 ∷ ns) (above_root nodes)

-- above another node is its parent, and what is above that
pub above_next : (nodes : List NodeRow) → IsTree nodes → (n up : ℕ) → Has nodes n → (n ≡ 0 → ⊥) → up ≡ parent_of nodes n → above nodes n ≡ up ∷ above nodes up
above_next nodes t n up h inner is =
    ap (drop 1) (climb nodes t n h inner) ∙ (own_then_above nodes (parent_of nodes n) ∙ ap (λ m. m ∷ above nodes m) (sym is))

-- no node is above itself
pub above_lacks : (nodes : List NodeRow) → IsTree nodes → (n : ℕ) → Has nodes n → is_in (above nodes n) n ≡ false
above_lacks nodes t zero h = ap (λ ns. is_in ns 0) (above_root nodes)
above_lacks nodes t (suc n) h = ap (λ ns. is_in (drop 1 ns) (suc n)) (climb nodes t (suc n) h (λ z. absurd (omega (arith, z)))) ∙ parent_lacks nodes t n h

-- ---- an induction: what holds of the root, and of each other node if it holds of its parent, holds of all
module _ (P : ℕ → Type 0) (nodes : List NodeRow) (t : IsTree nodes) (root : P 0) (step : (n : ℕ) → Has nodes n → (n ≡ 0 → ⊥) → P (parent_of nodes n) → P n) where
  along_in : (most n : ℕ) → Has nodes n → length (chain nodes n) ≤ most → P n
  along_in zero n h l = absurd (omega (arith, some_member (length nodes) nodes n))
  along_in (suc most) zero h l = root
  along_in (suc most) (suc n) h l =
      let inner : suc n ≡ 0 → ⊥ = λ z. absurd (omega (arith, z)) in
      step (suc n) h inner
      (along_in most (parent_of nodes (suc n)) (t.closed (suc n) h) (omega (arith, ap length (climb nodes t (suc n) h inner))))

  pub along : (n : ℕ) → Has nodes n → P n
  along n h = along_in (length (chain nodes n)) n h (omega arith)

-- of two nodes above a third one is above the other
pub one_is_above : (nodes : List NodeRow) → IsTree nodes → (n a b : ℕ) → Has nodes n → is_under nodes a n ≡ true → is_under nodes b n ≡ true → (is_under nodes a b ≡ true) ⊎ (is_under nodes b a ≡ true)
one_is_above nodes t n a b h =
    along (λ n. is_under nodes a n ≡ true → is_under nodes b n ≡ true → (is_under nodes a b ≡ true) ⊎ (is_under nodes b a ≡ true)) nodes t
    (λ ha hb. inl (subst (λ (j : ℕ). is_under nodes a j ≡ true) (eq_is 0 b (sym (chain_root nodes b) ∙ hb)) ha))
    (λ n hn inner up ha hb.
    elim (is_or_not (n == a)) [
      | inl e ↦ inr (subst (λ (j : ℕ). is_under nodes b j ≡ true) (eq_is n a e) hb)
      | inr e ↦ elim (is_or_not (n == b)) [
        | inl f ↦ inl (subst (λ (j : ℕ). is_under nodes a j ≡ true) (eq_is n b f) ha)
        | inr f ↦ up (sym (under_up nodes t a n hn inner (others n a e)) ∙ ha) (sym (under_up nodes t b n hn inner (others n b f)) ∙ hb)
      ]
    ])
    n h
  where
    others : (n m : ℕ) → (n == m) ≡ false → n ≡ m → ⊥
    others n m e is = clash (n == m) (subst (λ (k : ℕ). (n == k) ≡ true) is (eq_same n)) e

-- ---- numbers that are the way up from the first of them
pub record IsFrom (nodes : List NodeRow) (n : ℕ) (ns : List ℕ) : Type 0 where
  pub there : Has nodes n
  pub all : ns ≡ chain nodes n

pub record IsUp (nodes : List NodeRow) (ns : List ℕ) : Type 0 where
  pub from : (n : ℕ) (rest : List ℕ) → ns ≡ n ∷ rest → IsFrom nodes n ns

pub up_chain : (nodes : List NodeRow) (n : ℕ) → Has nodes n → IsUp nodes (chain nodes n)
up_chain nodes n h = record {
  from = λ m rest is.
      let same : n ≡ m = cc (own_then_above nodes n) in
      record { there = subst (Has nodes) same h; all = ap (chain nodes) same };
}

-- without the first, too
pub up_rest : (nodes : List NodeRow) → IsTree nodes → (ns : List ℕ) (n : ℕ) (rest : List ℕ) → ns ≡ n ∷ rest → IsUp nodes ns → IsUp nodes rest
up_rest nodes t ns n rest is up =
    let f = up.from n rest is in
    let left : rest ≡ above nodes n = ap (drop 1) (sym is ∙ f.all) in
    elim (is_or_not (n == 0)) [
      | inl e ↦
          let none : rest ≡ [] = left ∙ (ap (above nodes) (eq_is n 0 e) ∙ above_root nodes) in
          record { from = λ m more some. cc }
      | inr e ↦
          let step = climb nodes t n f.there (λ z. clash (n == 0) (ap (λ k. k == 0) z) e) in
          subst (IsUp nodes) (sym (left ∙ ap (drop 1) step)) (up_chain nodes (parent_of nodes n) (t.closed n f.there))
    ]
