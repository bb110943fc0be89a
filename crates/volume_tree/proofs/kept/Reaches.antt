-- Ways up that come to the root.
use Rattle.std.proofs.Common.{◌≡◌, ℕ, zero, suc, ◌+◌, ◌-◌, ◌<◌, ◌==◌, ◌||◌, ◌&&◌, inl, inr, Bool, true, false, cond, List, [], ◌∷◌, length, get_or, set, get_or-set_other, refl, sym, ◌∙◌, ap, subst, arith, Some}
use Rattle.std.specs.Prelude.{find}
use Rattle.std.specs.List.{AllByRecursion, list_all}
use Rattle.std.proofs.lemmas.Bool.Decides.{nat_tests}
use Rattle.std.proofs.lemmas.Option.{same_Some}
use Rattle.fsrm_model.specs.declared.row.NodeRow.{NodeRow}
use Rattle.fsrm_base.specs.Keyed.{has_row}
use Rattle.fsrm_model.specs.nodes.Tree.{number, parent_of, is_folder, is_under, chain_in}
use Rattle.fsrm_model.specs.store.Valid.{is_root_node, is_own}
use Rattle.fsrm_model.proofs.nodes.ChainLaws.{Has, IsTree, stable}
use Rattle.fsrm_base.proofs.EditedRows.{all_rows}
use Rattle.fsrm_base.specs.Numbers.{is_in}
use Rattle.fsrm_model.proofs.nodes.DepthLaws.{soon}
use Rattle.fsrm_base.proofs.Look.{found_key, has_found}
use Rattle.fsrm_base.proofs.Members.{all_found}
use Rattle.fsrm_model.proofs.nodes.MoveLaws.{members_has, stable_by}
use Rattle.fsrm_base.proofs.TestLaws.{both, both_true, clash, eq_is, is_or_not, not_root}
use Rattle.fsrm_model.proofs.valid.ValidLaws.{folder_has, found_parent}
use Rattle.volume_tree.specs.Sound.{AreMarks, Reaches, is_placed}

-- the way up goes over the parent
pub up : (nodes : List NodeRow) (n : ℕ) → (n ≡ 0 → ⊥) → Reaches nodes (parent_of nodes n) → Reaches nodes n
up nodes zero i r = absurd (i refl)
up nodes (suc n) i r = record { steps = suc r.steps; comes = later (suc n == 0) _ r.comes }
  where
    later : (a b : Bool) → b ≡ true → (a || b) ≡ true
    later true b h = refl
    later false b h = h

down_from : (nodes : List NodeRow) (n k : ℕ) → is_in (chain_in k nodes (suc n)) 0 ≡ true → Reaches nodes (parent_of nodes (suc n))
down_from nodes n zero h = cc (not_root n false h)
down_from nodes n (suc k) h = record { steps = k; comes = not_root n _ h }

pub down : (nodes : List NodeRow) (n : ℕ) → (n ≡ 0 → ⊥) → Reaches nodes n → Reaches nodes (parent_of nodes n)
down nodes zero i r = absurd (i refl)
down nodes (suc n) i r = down_from nodes n r.steps r.comes

-- with one step fewer from the parent
one_step : (left : ℕ) (nodes : List NodeRow) (n : ℕ) → (n ≡ 0 → ⊥) → is_in (chain_in left nodes (parent_of nodes n)) 0 ≡ is_in (chain_in (suc left) nodes n) 0
one_step left nodes zero i = absurd (i refl)
one_step left nodes (suc n) i = let apart : (suc n == 0) ≡ false = grind (arith, nat_tests) in sym (ap (λ b. b || is_in (chain_in left nodes (parent_of nodes (suc n))) 0) apart)

pub step_up : (left : ℕ) (nodes : List NodeRow) (n : ℕ) → (n ≡ 0 → ⊥) → 0 < left → is_in (chain_in (left - 1) nodes (parent_of nodes n)) 0 ≡ is_in (chain_in left nodes n) 0
step_up left nodes n i l = let e : suc (left - 1) ≡ left = omega arith in one_step (left - 1) nodes n i ∙ ap (λ k. is_in (chain_in k nodes n) 0) e

-- a number that isn't marked isn't the root's
pub not_marked : (nodes : List NodeRow) (marks : List Bool) (n : ℕ) → AreMarks nodes marks → get_or marks n false ≡ false → n ≡ 0 → ⊥
not_marked nodes marks n m h e = clash (get_or marks 0 false) m.root (ap (λ k. get_or marks k false) (sym e) ∙ h)

-- one more mark
pub marked : (nodes : List NodeRow) (marks : List Bool) (at : ℕ) → AreMarks nodes marks → (at ≡ 0 → ⊥) → Reaches nodes at → AreMarks nodes (set marks at true)
marked nodes marks at m i r =
    record {
      root = let other : 0 ≡ at → ⊥ = λ e. i (sym e) in get_or-set_other marks at 0 true false other ∙ m.root;
      reach = λ n h. elim (is_or_not (n == at)) [
        | inl e ↦ subst (Reaches nodes) (sym (eq_is n at e)) r
        | inr e ↦ let other : n ≡ at → ⊥ = λ s. clash (n == at) (grind (arith, nat_tests)) e in m.reach n (sym (get_or-set_other marks at n true false other) ∙ h)
      ];
    }

-- what holds of all rows holds of those that are found
each : (P : NodeRow → Type 0) (rows : List NodeRow) → ((k : ℕ) (d : NodeRow) → k < length rows → P (get_or rows k d)) → AllByRecursion P rows
each P [] h = tt
each P (row ∷ rows) h = (h 0 row (omega arith), each P rows (λ k d l. h (suc k) d (omega arith)))

found_at : (P : NodeRow → Type 0) (p : NodeRow → Bool) (row r : NodeRow) (rows : List NodeRow) (b : Bool) → P row → cond b (Some row) (find p rows) ≡ Some r → (find p rows ≡ Some r → P r) → P r
found_at P p row r rows true h e f = subst P (same_Some row r e) h
found_at P p row r rows false h e f = f e

found_one : (P : NodeRow → Type 0) (p : NodeRow → Bool) (rows : List NodeRow) (r : NodeRow) → AllByRecursion P rows → find p rows ≡ Some r → P r
found_one P p [] r h e = cc
found_one P p (row ∷ rows) r h e = found_at P p row r rows (p row) h.0 e (found_one P p rows r h.1)

weaker : (P Q : NodeRow → Type 0) → ((r : NodeRow) → P r → Q r) → (rows : List NodeRow) → AllByRecursion P rows → AllByRecursion Q rows
weaker P Q f [] h = tt
weaker P Q f (row ∷ rows) h = (f row h.0, weaker P Q f rows h.1)

-- all ways come to the root in so many steps
abbrev Comes : List NodeRow → ℕ → NodeRow → Type 0
Comes nodes steps r = is_in (chain_in steps nodes r.number) 0 ≡ true

record Within (nodes rows : List NodeRow) : Type 0 where
  steps : ℕ
  all : AllByRecursion (Comes nodes steps) rows

more : (j k : ℕ) (nodes : List NodeRow) (n : ℕ) → is_in (chain_in k nodes n) 0 ≡ true → is_in (chain_in (j + k) nodes n) 0 ≡ true
more j k nodes n h = ap (λ ns. is_in ns 0) (stable_by j k nodes n h) ∙ h

within : (nodes rows : List NodeRow) → AllByRecursion (λ (r : NodeRow). Reaches nodes r.number) rows → Within nodes rows
within nodes [] h = record { steps = 0; all = tt }
within nodes (row ∷ rows) h =
    let rest = within nodes rows h.1 in
    let first : Reaches nodes row.number = h.0 in
    let e : rest.steps + first.steps ≡ first.steps + rest.steps = omega arith in
    record {
      steps = first.steps + rest.steps;
      all = (
        ap (λ k. is_in (chain_in k nodes row.number) 0) (sym e) ∙ more rest.steps first.steps nodes row.number first.comes,
        weaker (Comes nodes rest.steps) (Comes nodes (first.steps + rest.steps)) (λ r c. more first.steps rest.steps nodes r.number c) rows rest.all,
      );
    }

-- each node's parent is a node

placed_parent : (nodes : List NodeRow) (r : NodeRow) (b : Bool) → has_row number 0 nodes ≡ true → cond b (is_root_node r) (is_own r && is_folder nodes r.parent) ≡ true → Has nodes r.parent
placed_parent nodes r true root h =
    let first : ((r.folder && (length r.name == 0)) ≡ true) × (((r.parent == 0) && (r.length == 0)) ≡ true) = both _ _ (both _ _ h).0 in
    let up = both (r.parent == 0) (r.length == 0) first.1 in
    subst (Has nodes) (sym (eq_is r.parent 0 up.0)) root
placed_parent nodes r false root h = folder_has nodes r.parent (both (is_own r) (is_folder nodes r.parent) h).1

closed : (nodes : List NodeRow) → has_row number 0 nodes ≡ true → list_all (is_placed nodes) nodes ≡ true → (n : ℕ) → Has nodes n → Has nodes (parent_of nodes n)
closed nodes root placed n h =
    let f = has_found number n nodes h in
    subst (Has nodes) (sym (found_parent nodes n f.row f.is))
    (placed_parent nodes f.row (f.row.number == 0) root (all_found (is_placed nodes) (λ y. number y == n) nodes f.row placed f.is))

-- if all ways come to the root, each does in as many steps as there are nodes
pub all_rooted : (nodes : List NodeRow) → has_row number 0 nodes ≡ true → list_all (is_placed nodes) nodes ≡ true → ((k : ℕ) (d : NodeRow) → k < length nodes → Reaches nodes (get_or nodes k d).number) → IsTree nodes
all_rooted nodes root placed h =
    let w = within nodes nodes (each (λ (r : NodeRow). Reaches nodes r.number) nodes h) in
    let up = closed nodes root placed in
    let comes : (n : ℕ) → Has nodes n → is_in (chain_in (suc w.steps) nodes n) 0 ≡ true = λ n i.
    let f = has_found number n nodes i in
    let own = found_one (Comes nodes w.steps) (λ y. number y == n) nodes f.row w.all f.is in
    let here = subst (λ (m : ℕ). is_in (chain_in w.steps nodes m) 0 ≡ true) (found_key number n nodes f.row f.is) own in
    ap (λ ns. is_in ns 0) (stable w.steps nodes n here) ∙ here in
    soon w.steps nodes (record { root = root; closed = up; rooted = comes }) (λ n x i m. members_has nodes up (suc w.steps) n x i m)

passes : (p : NodeRow → Bool) (rows : List NodeRow) → AllByRecursion (λ r. p r ≡ true) rows → list_all p rows ≡ true
passes p [] h = refl
passes p (row ∷ rows) h = both_true (p row) (list_all p rows) h.0 (passes p rows h.1)

pub all_under : (nodes : List NodeRow) → IsTree nodes → list_all (λ (r : NodeRow). is_under nodes 0 r.number) nodes ≡ true
all_under nodes t =
    passes (λ (r : NodeRow). is_under nodes 0 r.number) nodes
    (all_rows number (λ (r : NodeRow). is_under nodes 0 r.number ≡ true) nodes (λ r h. t.rooted r.number h))
