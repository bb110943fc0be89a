-- Below a file there is nothing.
use Rattle.std.proofs.Common.{◌≡◌, ℕ, zero, suc, ◌≤◌, ◌==◌, true, false, inl, inr, List, ◌∷◌, length, sym, ◌∙◌, ap, arith}
use Rattle.fsrm_model.specs.declared.row.Capacity.{Capacity}
use Rattle.fsrm_model.specs.declared.row.NodeRow.{NodeRow}
use Rattle.fsrm_model.specs.nodes.Tree.{number, parent_of, is_folder, chain, is_under}
use Rattle.fsrm_model.specs.store.Valid.{IsVolume}
use Rattle.fsrm_base.proofs.TestLaws.{is_or_not, clash, is_or, eq_is}
use Rattle.fsrm_model.proofs.nodes.ChainLaws.{Has, chain_step}
use Rattle.fsrm_base.specs.Numbers.{is_in}
use Rattle.fsrm_base.proofs.Look.{has_found}
use Rattle.fsrm_model.proofs.nodes.Keeps.{tree_of}
use Rattle.fsrm_model.proofs.nodes.Below.{chain_root}
use Rattle.fsrm_model.proofs.valid.ValidLaws.{found_parent}

-- each node's parent is a folder
pub parent_folder : (K : Capacity) (nodes : List NodeRow) (n : ℕ) → IsVolume K nodes → Has nodes n → is_folder nodes (parent_of nodes n) ≡ true
parent_folder K nodes n v h =
    let f = has_found number n nodes h in
    ap (is_folder nodes) (found_parent nodes n f.row f.is) ∙ v.up n f.row f.is

below_in : (K : Capacity) (nodes : List NodeRow) (f : ℕ) → IsVolume K nodes → is_folder nodes f ≡ false → (most n : ℕ) → Has nodes n → length (chain nodes n) ≤ most → is_under nodes f n ≡ true → n ≡ f
below_in K nodes f v file most zero h l u = eq_is 0 f (sym (chain_root nodes f) ∙ u)
below_in K nodes f v file zero (suc n) h l u = absurd (omega (arith, ap length (chain_step nodes n (v.rooted (suc n) h))))
below_in K nodes f v file (suc most) (suc n) h l u =
    let up = parent_of nodes (suc n) in
    let step : chain nodes (suc n) ≡ suc n ∷ chain nodes up = chain_step nodes n (v.rooted (suc n) h) in
    let long : length (chain nodes (suc n)) ≡ suc (length (chain nodes up)) = ap length step in
    elim (is_or (suc n == f) (is_in (chain nodes up) f) (sym (ap (λ ns. is_in ns f) step) ∙ u)) [
      | inl e ↦ eq_is (suc n) f e
      | inr r ↦
          let is : up ≡ f = below_in K nodes f v file most up ((tree_of K nodes v).closed (suc n) h) (omega arith) r in
          absurd (clash _ (sym (ap (is_folder nodes) is) ∙ parent_folder K nodes (suc n) v h) file)
    ]

pub below_file : (K : Capacity) (nodes : List NodeRow) (f n : ℕ) → IsVolume K nodes → is_folder nodes f ≡ false → Has nodes n → is_under nodes f n ≡ true → n ≡ f
below_file K nodes f n v file h u = below_in K nodes f v file (length (chain nodes n)) n h (omega arith) u

-- what has another node below it is a folder
pub above_folder : (K : Capacity) (nodes : List NodeRow) (f n : ℕ) → IsVolume K nodes → Has nodes n → (n ≡ f → ⊥) → is_under nodes f n ≡ true → is_folder nodes f ≡ true
above_folder K nodes f n v h other u =
    elim (is_or_not (is_folder nodes f)) [ inl e ↦ e | inr e ↦ absurd (other (below_file K nodes f n v e h u)) ]
