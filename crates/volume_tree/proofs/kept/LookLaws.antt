-- How many nodes a way up passes.
use Rattle.std.proofs.Common.{◌≡◌, ℕ, suc, ◌+◌, cond, ◌||◌, List, ◌∷◌, sym, ◌∙◌, ap, arith}
use Rattle.fsrm_base.specs.Numbers.{is_in}
use Rattle.fsrm_base.proofs.TestLaws.{is_apart}
use Rattle.volume_tree.specs.Looks.{passed}

-- the first of them is another one than the node that is sought
pub record Passes (node : ℕ) (way rest : List ℕ) : Type 0 where
  pub same : is_in rest node ≡ is_in way node
  pub one : passed node way ≡ passed node rest + 1

pub passes : (node : ℕ) (way : List ℕ) (at : ℕ) (rest : List ℕ) → way ≡ at ∷ rest → (at ≡ node → ⊥) → Passes node way rest
passes node way at rest is other =
    let apart = is_apart at node other in
    let one : passed node way ≡ suc (passed node rest) = ap (passed node) is ∙ ap (λ b. cond b 1 (suc (passed node rest))) apart in
    record {
      same = sym (ap (λ (ns : List ℕ). is_in ns node) is ∙ ap (λ b. b || is_in rest node) apart);
      one = omega (arith, one);
    }
