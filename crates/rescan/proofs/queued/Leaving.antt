-- What has no child may go.
use Rattle.std.proofs.Common.{◌≡◌, ℕ, ◌==◌, Bool, true, false, cond, not, ◌||◌, List, [], ◌∷◌, length, refl, sym, ◌∙◌, ap, subst, inl, inr, arith}
use Rattle.std.specs.List.{list_any}
use Rattle.std.specs.Option.{option_map_or}
use Rattle.fsrm_model.specs.declared.row.Capacity.{Capacity}
use Rattle.fsrm_model.specs.declared.row.NodeRow.{NodeRow}
use Rattle.fsrm_base.specs.Keyed.{has_row, without_row}
use Rattle.fsrm_model.specs.nodes.Tree.{number, is_folder, is_child, children}
use Rattle.fsrm_model.specs.store.Valid.{IsVolume}
use Rattle.fsrm_model.proofs.nodes.Keeps.{volume-removed}
use Rattle.fsrm_base.proofs.Look.{has_found, has_row-without, row_of-without}
use Rattle.fsrm_base.proofs.Members.{none_passes, filter_none}
use Rattle.fsrm_model.proofs.valid.ValidLaws.{folder_has}
use Rattle.fsrm_base.proofs.TestLaws.{is_or_not, clash, not_true, both, eq_is}

-- a file has no child
pub file_children : (K : Capacity) (nodes : List NodeRow) (n : ℕ) → IsVolume K nodes → is_folder nodes n ≡ false → length (children nodes n) ≡ 0
file_children K nodes n v file =
    let none : list_any (is_child n) nodes ≡ false = none_passes number (is_child n) nodes v.ascending (λ r own. not_true (is_child n r) (λ t.
    let up : r.parent ≡ n = eq_is r.parent n (both (not (r.number == 0)) (r.parent == n) t).1 in
    clash (is_folder nodes n) (subst (λ k. is_folder nodes k ≡ true) up (v.up r.number r own)) file)) in
    ap length (filter_none (is_child n) nodes none)

none_at : (x : NodeRow) (xs : List NodeRow) (b c : Bool) → length (cond b (x ∷ xs) xs) ≡ 0 → (length xs ≡ 0 → c ≡ false) → (b || c) ≡ false
none_at x xs true c h f = absurd (omega arith)
none_at x xs false c h f = f h

no_children : (n : ℕ) (nodes : List NodeRow) → length (children nodes n) ≡ 0 → list_any (is_child n) nodes ≡ false
no_children n [] h = refl
no_children n (x ∷ nodes) h = none_at x (children nodes n) (is_child n x) (list_any (is_child n) nodes) h (no_children n nodes)

pub volume_without : (K : Capacity) (nodes : List NodeRow) (n : ℕ) → IsVolume K nodes → has_row number n nodes ≡ true → (n == 0) ≡ false → length (children nodes n) ≡ 0 → IsVolume K (without_row number n nodes)
volume_without K nodes n v h inner leaf =
    let f = has_found number n nodes h in
    volume-removed K nodes n v (record { inner = inner; row = f.row; found = f.is; leaf = no_children n nodes leaf })

-- folders that stay, and those that were there
pub folder_back : (nodes : List NodeRow) (n m : ℕ) → is_folder (without_row number n nodes) m ≡ true → is_folder nodes m ≡ true
folder_back nodes n m h =
    elim (is_or_not (m == n)) [
      | inl e ↦ absurd (clash (has_row number m (without_row number n nodes)) (folder_has (without_row number n nodes) m h)
          (ap (λ k. has_row number k (without_row number n nodes)) (eq_is m n e) ∙ has_row-without number n nodes))
      | inr e ↦ ap (λ o. option_map_or (λ node. node.folder) o false) (sym (row_of-without number n m nodes e)) ∙ h
    ]

pub folder_stays : (nodes : List NodeRow) (n m : ℕ) → (m == n) ≡ false → is_folder nodes m ≡ true → is_folder (without_row number n nodes) m ≡ true
folder_stays nodes n m e h = ap (λ o. option_map_or (λ node. node.folder) o false) (row_of-without number n m nodes e) ∙ h

pub file_apart : (nodes : List NodeRow) (n m : ℕ) → is_folder nodes n ≡ false → is_folder nodes m ≡ true → (m == n) ≡ false
file_apart nodes n m file folder = not_true (m == n) (λ t. clash (is_folder nodes n) (ap (is_folder nodes) (sym (eq_is m n t)) ∙ folder) file)
