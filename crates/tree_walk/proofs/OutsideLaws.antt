-- A walk that doesn't enter one folder.
use Rattle.std.proofs.Common.{◌≡◌, inl, inr, ℕ, ◌+◌, ◌*◌, ◌≤◌, ◌==◌, Bool, true, false, cond, not, List, [], ◌∷◌, ◌++◌, length, length-append, map, Some, refl, sym, ◌∙◌, ap, subst, arith}
use Rattle.std.proofs.lemmas.List.Sums.{sum_by_push}
use Rattle.std.specs.Prelude.{sum_by}
use Rattle.std.specs.List.{AllByRecursion}
use Rattle.fsrm_base.proofs.EditedRows.{sum_by-filter}
use Rattle.fsrm_base.proofs.Look.{found_has}
use Rattle.fsrm_base.proofs.RowLaws.{all_filter, each_found}
use Rattle.fsrm_base.proofs.Sums.{sum_by_each, sum_by_nothing}
use Rattle.fsrm_base.proofs.TestLaws.{both, eq_is, is_false, is_or_not, nor, not_zero}
use Rattle.fsrm_model.specs.declared.row.Capacity.{Capacity}
use Rattle.fsrm_model.specs.declared.row.NodeRow.{NodeRow}
use Rattle.fsrm_model.specs.nodes.Tree.{number, node_of, parent_of, is_child, children, children_in_order, is_under, under}
use Rattle.fsrm_model.specs.store.Valid.{IsVolume}
use Rattle.fsrm_model.proofs.nodes.Climbs.{under_own}
use Rattle.fsrm_model.proofs.nodes.Keeps.{tree_of}
use Rattle.fsrm_model.proofs.valid.UnvisitedKept.{under_child}
use Rattle.fsrm_model.proofs.valid.ValidLaws.{found_parent}
use Rattle.tree_walk.specs.Walk.{AreOutside, AreThere, Ignores, IsOutside, Takes, TakesOutside, inside, left, one, total}
use Rattle.tree_walk.proofs.WalkLaws.{all_from, before, own, there-front}

all-append : {X : Type 0} (P : X → Type 0) (xs ys : List X) → AllByRecursion P xs → AllByRecursion P ys → AllByRecursion P (xs ++ ys)
all-append P [] ys h g = g
all-append P (x ∷ xs) ys h g = (h.0, all-append P xs ys h.1 g)

all-front : {X : Type 0} (P : X → Type 0) (xs ys : List X) → AllByRecursion P (xs ++ ys) → AllByRecursion P xs
all-front P [] ys h = tt
all-front P (x ∷ xs) ys h = (h.0, all-front P xs ys h.1)

all-last : {X : Type 0} (P : X → Type 0) (xs : List X) (x : X) → AllByRecursion P (xs ++ x ∷ []) → P x
all-last P [] x h = h.0
all-last P (y ∷ xs) x h = all-last P xs x h.1

numbers_outside : (nodes : List NodeRow) (closed : ℕ) (rows : List NodeRow) → AllByRecursion (λ row. IsOutside nodes closed row.number) rows → AreOutside nodes closed (map number rows)
numbers_outside nodes closed [] h = tt
numbers_outside nodes closed (row ∷ rows) h = (h.0, numbers_outside nodes closed rows h.1)

-- a child of a node that isn't below the folder is the folder, or isn't below it either
child_outside : (K : Capacity) (nodes : List NodeRow) (closed n : ℕ) (row : NodeRow) → IsVolume K nodes → is_under nodes closed n ≡ false → node_of nodes row.number ≡ Some row → is_child n row ≡ true → IsOutside nodes closed row.number
child_outside K nodes closed n row v out found child =
    let parts = both (not (row.number == 0)) (row.parent == n) child in
    let up : parent_of nodes row.number ≡ n = found_parent nodes row.number row found ∙ eq_is row.parent n parts.1 in
    let test = under_child nodes (tree_of K nodes v) closed row.number (found_has number row.number nodes row found) (not_zero row.number (is_false (row.number == 0) parts.0)) in
    elim (is_or_not (row.number == closed)) [
      | inl e ↦ inl (eq_is row.number closed e)
      | inr f ↦ inr (test ∙ nor (row.number == closed) (is_under nodes closed (parent_of nodes row.number)) f (ap (is_under nodes closed) up ∙ out))
    ]

inside_outside : (K : Capacity) (nodes : List NodeRow) (closed n : ℕ) → IsVolume K nodes → is_under nodes closed n ≡ false → AreOutside nodes closed (inside nodes n)
inside_outside K nodes closed n v out =
    let P : NodeRow → Type 0 = λ row. IsOutside nodes closed row.number in
    numbers_outside nodes closed (children_in_order nodes n)
    (all_from before P [] (children nodes n) tt
    (all_filter (is_child n) P nodes (each_found number (λ row. is_child n row ≡ true → P row) nodes v.ascending (λ row found child. child_outside K nodes closed n row v out found child))))

-- what is below the folder comes to nothing
nothing_if : (b : Bool) (x : ℕ) → (b ≡ true → x ≡ 0) → cond b x 0 ≡ 0
nothing_if true x h = h refl
nothing_if false x h = refl

nothing_below : (nodes : List NodeRow) (closed : ℕ) (measure : NodeRow → ℕ) → Ignores nodes closed measure → sum_by measure (under nodes closed) ≡ 0
nothing_below nodes closed measure i =
    sum_by-filter (λ node. is_under nodes closed node.number) measure nodes
    ∙ (sum_by_each (λ node. cond (is_under nodes closed node.number) (measure node) 0) (λ node. 0) (λ node. nothing_if (is_under nodes closed node.number) (measure node) (i.nothing node)) nodes
    ∙ sum_by_nothing nodes)

-- ---- the last node that waits is taken
module _ (K : Capacity) (nodes : List NodeRow) (closed : ℕ) (old rest new : List ℕ) (row : NodeRow) (v : IsVolume K nodes) (found : node_of nodes row.number ≡ Some row) (waits : AreThere nodes old) (out : AreOutside nodes closed old) (last : old ≡ rest ++ row.number ∷ []) where
  apart : IsOutside nodes closed row.number
  apart = all-last (λ n. IsOutside nodes closed n) rest row.number (subst (AreOutside nodes closed) last out)

  rest_outside : AreOutside nodes closed rest
  rest_outside = all-front (λ n. IsOutside nodes closed n) rest (row.number ∷ []) (subst (AreOutside nodes closed) last out)

  -- another node than the folder
  pub enters : (row.number ≡ closed → ⊥) → new ≡ rest ++ inside nodes row.number → Takes nodes old new row → TakesOutside nodes closed old new row
  enters other goes t =
      let below : is_under nodes closed row.number ≡ false = elim apart [ inl e ↦ absurd (other e) | inr f ↦ f ] in
      record {
        found = found;
        there = t.there;
        apart = apart;
        outside = subst (AreOutside nodes closed) (sym goes) (all-append (λ n. IsOutside nodes closed n) rest (inside nodes row.number) rest_outside (inside_outside K nodes closed row.number v below));
        each = λ measure i. t.each measure;
        fewer = omega (arith, t.each one);
      }

  -- the folder itself
  old_total : (measure : NodeRow → ℕ) → total measure nodes old ≡ total measure nodes rest + sum_by measure (under nodes row.number)
  old_total measure = ap (total measure nodes) last ∙ sum_by_push (λ n. sum_by measure (under nodes n)) rest row.number

  pub passes : row.number ≡ closed → new ≡ rest → TakesOutside nodes closed old new row
  passes same goes =
      record {
        found = found;
        there = subst (AreThere nodes) (sym goes) (there-front nodes rest (row.number ∷ []) (subst (AreThere nodes) last waits));
        apart = apart;
        outside = subst (AreOutside nodes closed) (sym goes) rest_outside;
        each = λ measure i.
            let itself : measure row ≡ 0 = i.nothing row (ap (is_under nodes closed) same ∙ under_own nodes closed) in
            let below : sum_by measure (under nodes row.number) ≡ 0 = ap (λ n. sum_by measure (under nodes n)) same ∙ nothing_below nodes closed measure i in
            omega (arith, old_total measure, ap (total measure nodes) goes, itself, below);
        fewer = omega (arith, old_total one, ap (left nodes) goes, own K nodes row.number v (found_has number row.number nodes row found));
      }

  pub passes_looks : (start now : ℕ) → new ≡ rest → now ≤ start + 1 → now + (length old + 3 * left nodes new) ≤ start + (length new + 3 * left nodes old)
  passes_looks start now goes h =
      omega (
        arith,
        h,
        old_total one,
        ap (left nodes) goes,
        own K nodes row.number v (found_has number row.number nodes row found),
        ap length last,
        length-append rest (row.number ∷ []),
        ap length goes,
      )
