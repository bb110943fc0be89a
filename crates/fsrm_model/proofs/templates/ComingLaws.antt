-- The quota that a folder gets when it is made or moved is told by the nodes before: a new folder has no child, and one that moves has
-- those that it had.
use Rattle.std.proofs.Common.{◌≡◌, ℕ, ◌==◌, Bool, true, false, cond, not, ◌||◌, ◌&&◌, List, [], ◌∷◌, length, Some, None, Option, refl, sym, ◌∙◌, ap, subst, arith}
use Rattle.std.specs.Prelude.{filter, is_some, option_and_then, option_map, if◌then◌else◌}
use Rattle.std.specs.List.{list_all, list_any}
use Rattle.std.specs.Option.{option_map_or}
use Rattle.fsrm_base.specs.Keyed.{has_row, with_row, with_change}
use Rattle.fsrm_base.proofs.EditedRows.{find-with_row_same}
use Rattle.fsrm_base.proofs.EditedTests.{list_any-with_row}
use Rattle.fsrm_base.proofs.Look.{found_has, found_key, row_of-change}
use Rattle.fsrm_base.proofs.Members.{all_pass, filter_none, none_passes}
use Rattle.fsrm_base.proofs.TestLaws.{and_false, both, clash, eq_is, eq_same, fails, is_false, not_true, not_zero}
use Rattle.fsrm_model.specs.declared.row.Capacity.{Capacity}
use Rattle.fsrm_model.specs.declared.row.NodeRow.{NodeRow}
use Rattle.fsrm_model.specs.declared.row.QuotaRow.{QuotaRow}
use Rattle.fsrm_model.specs.declared.row.QuotaState.{QuotaState}
use Rattle.fsrm_model.specs.declared.row.QuotaState.TheVariants.{Complete, Rebuilding}
use Rattle.fsrm_model.specs.declared.row.Rows.{Rows}
use Rattle.fsrm_model.specs.objects.AutoApply.{applied, template_for}
use Rattle.fsrm_model.specs.nodes.FileOps.{placed}
use Rattle.fsrm_model.specs.objects.Quota.{quota_of}
use Rattle.fsrm_model.specs.objects.QuotaStates.{start}
use Rattle.fsrm_model.specs.objects.Templates.{template_of, derived}
use Rattle.fsrm_model.specs.nodes.Tree.{number, node_of, parent_of, name_of, is_folder, is_child, is_under, chain}
use Rattle.fsrm_model.specs.store.Valid.{IsVolume}
use Rattle.fsrm_model.proofs.nodes.ChainLaws.{Has}
use Rattle.fsrm_model.proofs.nodes.Climbs.{shorter, under_own}
use Rattle.fsrm_model.proofs.nodes.Keeps.{tree_of}
use Rattle.fsrm_model.proofs.valid.ValidLaws.{folder_has, found_parent}

-- the quota of a template, if there is one, on a folder in a state
abbrev pub derived_on : Rows → ℕ → QuotaState → ℕ → Option ℕ → Option QuotaRow
derived_on R folder state moment template = option_map (λ t. derived t folder state moment) (option_and_then (template_of R.templates) template)

-- ---- a folder that moves
children_kept : (x d : ℕ) (name : List ℕ) (xs : List NodeRow) → (d == x) ≡ false → list_all (λ r. not (r.number == x) || not (r.parent == x)) xs ≡ true → filter (is_child x) (with_change number x (placed d name) xs) ≡ filter (is_child x) xs
children_kept x d name [] apart h = refl
children_kept x d name (r ∷ xs) apart h =
    let parts = both (not (r.number == x) || not (r.parent == x)) (list_all (λ r. not (r.number == x) || not (r.parent == x)) xs) h in
    at (r.number == x) parts.0 (children_kept x d name xs apart parts.1)
  where
    F : List NodeRow
    F = filter (is_child x) xs

    G : List NodeRow
    G = filter (is_child x) (with_change number x (placed d name) xs)

    at : (b : Bool) → (not b || not (r.parent == x)) ≡ true → G ≡ F → cond (is_child x (cond b (placed d name r) r)) (cond b (placed d name r) r ∷ G) G ≡ cond (is_child x r) (r ∷ F) F
    at true own e =
        let moved : is_child x (placed d name r) ≡ false = ap (λ c. not (r.number == 0) && c) apart ∙ and_false (not (r.number == 0)) in
        let was : is_child x r ≡ false = ap (λ c. not (r.number == 0) && c) (is_false (r.parent == x) own) ∙ and_false (not (r.number == 0)) in
        ap (λ c. cond c (placed d name r ∷ G) G) moved ∙ (e ∙ sym (ap (λ c. cond c (r ∷ F) F) was))
    at false own e = ap (λ rows. cond (is_child x r) (r ∷ rows) rows) e

-- no node but the root is its own parent
parents_apart : (K : Capacity) (nodes : List NodeRow) (x : ℕ) → IsVolume K nodes → (x == 0) ≡ false → list_all (λ r. not (r.number == x) || not (r.parent == x)) nodes ≡ true
parents_apart K nodes x v inner =
    all_pass number (λ r. not (r.number == x) || not (r.parent == x)) nodes v.ascending (λ r own. at r own (r.number == x) refl)
  where
    at : (r : NodeRow) → node_of nodes r.number ≡ Some r → (b : Bool) → (r.number == x) ≡ b → (not b || not (r.parent == x)) ≡ true
    at r own false e = refl
    at r own true e =
        let found : node_of nodes x ≡ Some r = subst (λ k. node_of nodes k ≡ Some r) (eq_is r.number x e) own in
        let up = shorter nodes (tree_of K nodes v) x (found_has number x nodes r found) (not_zero x inner) in
        fails (r.parent == x) (λ t.
        let same : parent_of nodes x ≡ x = found_parent nodes x r found ∙ eq_is r.parent x t in
        let long = ap (λ k. length (chain nodes k)) same in
        omega (arith, up, long))

pub start_moved : (K : Capacity) (nodes : List NodeRow) (x d : ℕ) (name : List ℕ) → IsVolume K nodes → (x == 0) ≡ false → is_under nodes x d ≡ false → start (with_change number x (placed d name) nodes) x ≡ start nodes x
start_moved K nodes x d name v inner apart =
    let other : (d == x) ≡ false = not_true (d == x) (λ e. clash (is_under nodes x d) (subst (λ k. is_under nodes x k ≡ true) (sym (eq_is d x e)) (under_own nodes x)) apart) in
    ap (λ (rows : List NodeRow). if length rows == 0 then Complete else Rebuilding) (children_kept x d name nodes other (parents_apart K nodes x v inner))

node_moved : (nodes : List NodeRow) (x d : ℕ) (name : List ℕ) (row : NodeRow) → node_of nodes x ≡ Some row → node_of (with_change number x (placed d name) nodes) x ≡ Some (placed d name row)
node_moved nodes x d name row found =
    row_of-change number x (placed d name) (λ r. refl) x nodes
    ∙ (ap (option_map (λ r. if number r == x then placed d name r else r)) found
    ∙ ap (λ b. Some (cond b (placed d name row) row)) (ap (λ k. k == x) (found_key number x nodes row found) ∙ eq_same x))

pub applied_moved : (K : Capacity) (R : Rows) (left : List ℕ) (x d : ℕ) (name : List ℕ) (row : NodeRow) (moment : ℕ) → IsVolume K R.nodes → (x == 0) ≡ false → node_of R.nodes x ≡ Some row → is_under R.nodes x d ≡ false → applied (record R { nodes = with_change number x (placed d name) R.nodes; unvisited = left }) moment x ≡ (if is_some (quota_of R x) then None else derived_on R x (start R.nodes x) moment (template_for R.autos d name))
applied_moved K R left x d name row moment v inner found apart =
    let new = with_change number x (placed d name) R.nodes in
    let own = node_moved R.nodes x d name row found in
    let parent : parent_of new x ≡ d = ap (λ o. option_map_or (λ node. node.parent) o 0) own in
    let named : name_of new x ≡ name = ap (λ o. option_map_or (λ node. node.name) o []) own in
    ap (λ p. if is_some (quota_of R x) then None else derived_on R x (start new x) moment (template_for R.autos p (name_of new x))) parent
    ∙ (ap (λ n. if is_some (quota_of R x) then None else derived_on R x (start new x) moment (template_for R.autos d n)) named
    ∙ ap (λ s. if is_some (quota_of R x) then None else derived_on R x s moment (template_for R.autos d name)) (start_moved K R.nodes x d name v inner apart))

-- ---- a folder that is made
apart_free : (nodes : List NodeRow) (n f : ℕ) → has_row number n nodes ≡ false → Has nodes f → (f == n) ≡ false
apart_free nodes n f free there = not_true (f == n) (λ e. clash (has_row number n nodes) (subst (λ k. has_row number k nodes ≡ true) (eq_is f n e) there) free)

pub start_made : (K : Capacity) (nodes : List NodeRow) (node : NodeRow) → IsVolume K nodes → has_row number node.number nodes ≡ false → is_folder nodes node.parent ≡ true → start (with_row number node nodes) node.number ≡ Complete
start_made K nodes node v free folder =
    let n = node.number in
    let lone : (r : NodeRow) → is_folder nodes r.parent ≡ true → is_child n r ≡ false = λ r up. ap (λ c. not (r.number == 0) && c) (apart_free nodes n r.parent free (folder_has nodes r.parent up)) ∙ and_false (not (r.number == 0)) in
    let none : list_any (is_child n) nodes ≡ false = none_passes number (is_child n) nodes v.ascending (λ r own. lone r (v.up r.number r own)) in
    ap (λ (rows : List NodeRow). if length rows == 0 then Complete else Rebuilding)
    (filter_none (is_child n) (with_row number node nodes) (list_any-with_row number (is_child n) node nodes (lone node folder) none))

pub applied_made : (K : Capacity) (R : Rows) (left : List ℕ) (node : NodeRow) (moment : ℕ) → IsVolume K R.nodes → has_row number node.number R.nodes ≡ false → is_folder R.nodes node.parent ≡ true → quota_of R node.number ≡ None → applied (record R { nodes = with_row number node R.nodes; unvisited = left }) moment node.number ≡ derived_on R node.number Complete moment (template_for R.autos node.parent node.name)
applied_made K R left node moment v free folder unset =
    let new = with_row number node R.nodes in
    let n = node.number in
    let own : node_of new n ≡ Some node = find-with_row_same number (λ r. number r == n) node R.nodes (eq_same n) free in
    let parent : parent_of new n ≡ node.parent = ap (λ o. option_map_or (λ node. node.parent) o 0) own in
    let named : name_of new n ≡ node.name = ap (λ o. option_map_or (λ node. node.name) o []) own in
    ap (λ (o : Option QuotaRow). if is_some o then None else derived_on R n (start new n) moment (template_for R.autos (parent_of new n) (name_of new n))) unset
    ∙ (ap (λ p. derived_on R n (start new n) moment (template_for R.autos p (name_of new n))) parent
    ∙ (ap (λ k. derived_on R n (start new n) moment (template_for R.autos node.parent k)) named
    ∙ ap (λ s. derived_on R n s moment (template_for R.autos node.parent node.name)) (start_made K R.nodes node v free folder)))
