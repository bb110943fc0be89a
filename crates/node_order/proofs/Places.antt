-- What stands at the place of a name.
use Rattle.std.proofs.Common.{◌≡◌, ◌≢◌, AllPairs, ℕ, ◌<◌, true, false, inl, inr, List, length, sym, ◌∙◌, subst, arith}
use Rattle.std.proofs.lemmas.Bool.{cases_order}
use Rattle.fsrm_model.specs.declared.row.NodeRow.{NodeRow}
use Rattle.fsrm_model.specs.nodes.Fresh.{root_node}
use Rattle.fsrm_model.specs.values.Name.{same_name}
use Rattle.fsrm_base.proofs.TestLaws.{clash}
use Rattle.node_order.specs.Order.{IsListed, is_before}
use Rattle.node_order.proofs.ListLaws.{at, Divides, length-order_entries, number_there, same_entry}
use Rattle.node_order.proofs.Names.{comes_apart, comes_as, comes_turned, comes_itself}

-- an entry of a name in a folder stands at the place
pub only_place : (nodes : List NodeRow) (order : List ℕ) (folder : ℕ) (name : List ℕ) (place k : ℕ) (h : IsListed nodes order) → Divides (λ r. is_before r folder name) h.entries place → k < length h.entries → (at h.entries k).parent ≡ folder → same_name (at h.entries k).name name ≡ true → k ≡ place
only_place nodes order folder name place k h d l e t =
    let b = at h.entries k in
    elim (cases_order k place) [
      | inl is ↦ is
      | inr (inl m) ↦ absurd (clash _ t (comes_apart b.parent b.name folder name (d.before k m) e))
      | inr (inr m) ↦
          let p = at h.entries place in
          let before : is_before p folder b.name ≡ true = subst (λ (f : ℕ). is_before p f b.name ≡ true) e (h.ascending place k root_node m l) in
          absurd (clash _ (sym (comes_as p.parent p.name folder b.name name t) ∙ before) (d.after place (omega arith) (omega arith)))
    ]

-- an entry stands at the place of its own name
pub own_place : (nodes : List NodeRow) (order : List ℕ) (k : ℕ) (h : IsListed nodes order) → k < length h.entries → Divides (λ r. is_before r (at h.entries k).parent (at h.entries k).name) h.entries k
own_place nodes order k h l =
    let row = at h.entries k in
    record {
      within = omega arith;
      before = λ i m. h.ascending i k root_node m l;
      after = λ i m n. elim (cases_order i k) [
        | inl is ↦ subst (λ j. is_before (at h.entries j) row.parent row.name ≡ false) (sym is) (comes_itself row.parent row.name)
        | inr (inl o) ↦ absurd (omega arith)
        | inr (inr o) ↦ let later = at h.entries i in comes_turned row.parent row.name later.parent later.name (h.ascending k i root_node o n)
      ];
    }

-- entries at two places have two numbers
pub apart : (nodes : List NodeRow) (order : List ℕ) (i j : ℕ) (h : IsListed nodes order) → i < j → j < length h.entries → (at h.entries i).number ≡ (at h.entries j).number → ⊥
apart nodes order i j h l m e =
    let x = at h.entries i in
    let same : x ≡ at h.entries j = same_entry nodes order i j h (omega arith) m e in
    clash _ (subst (λ (y : NodeRow). is_before x y.parent y.name ≡ true) (sym same) (h.ascending i j root_node l m)) (comes_itself x.parent x.name)

pub numbers_apart : (nodes : List NodeRow) (order : List ℕ) → IsListed nodes order → AllPairs (λ (m n : ℕ). m ≢ n) order
numbers_apart nodes order h i j d l m e =
    let size = length-order_entries nodes order h in
    let low = number_there nodes order i d h (omega arith) in
    let high = number_there nodes order j d h m in
    apart nodes order i j h l (omega arith) (sym low ∙ (e ∙ high))
