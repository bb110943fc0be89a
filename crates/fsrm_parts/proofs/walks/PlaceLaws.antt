-- What a path leads to, by what was found.
use Rattle.std.proofs.Common.{◌≡◌, ℕ, suc, ◌+◌, ◌-◌, ◌≤◌, ◌==◌, true, false, List, [], ◌∷◌, length, take, Some, refl, ap, sym, ◌∙◌, subst, arith}
use Rattle.std.proofs.lemmas.Option.{same_Some, get_or_from_slice_get}
use Rattle.std.proofs.lemmas.Bool.Decides.{nat_tests}
use Rattle.std.proofs.lemmas.List.{length-take-le}
use Rattle.std.specs.Prelude.{is_some, slice_get, unwrap_or, slice_index_or}
use Rattle.std.specs.Option.{option_map_or}
use Rattle.fsrm_model.specs.declared.command.Refusal.{Refusal}
use Rattle.fsrm_model.specs.declared.command.Refusal.TheVariants.{QuotaExceeded, ScreenBlocked}
use Rattle.fsrm_model.specs.declared.row.Capacity.{Capacity}
use Rattle.fsrm_model.specs.declared.row.NodeRow.{NodeRow}
use Rattle.fsrm_model.specs.values.Limits.{longest_file}
use Rattle.fsrm_model.specs.nodes.FileOps.{target}
use Rattle.fsrm_base.specs.Keyed.{has_row}
use Rattle.fsrm_model.specs.nodes.Leads.{is_root, leads, leads_to_folder}
use Rattle.fsrm_model.specs.texts.Text.{is_bare}
use Rattle.fsrm_model.specs.nodes.Tree.{number, is_folder, child_number, chain, path_of, resolve, folder_part, last_name, owner_of, parent_of}
use Rattle.fsrm_model.specs.store.Valid.{IsVolume}
use Rattle.fsrm_base.proofs.Look.{found_key}
use Rattle.fsrm_base.proofs.TestLaws.{not_true, eq_is, suc_apart}
use Rattle.fsrm_model.proofs.nodes.Walks.{path_root}
use Rattle.fsrm_model.proofs.nodes.Resolves.{resolve_root, resolve_child, resolved, some_name}
use Rattle.fsrm_model.proofs.nodes.Keeps.{found_folder}
use Rattle.fsrm_model.specs.values.Name.{is_name}
use Rattle.node_table.specs.declared.view.NodeView.{NodeView}
use Rattle.volume_tree.specs.Volume.{Shows}
use Rattle.fsrm_parts.specs.Places.{IsPlace, IsFile, IsFolder, IsRefusedPlace}

-- a path's last name is its part at the last place
pub last_name_is : (path : List (List ℕ)) (last depth : ℕ) (name : List ℕ) → depth ≡ length path → last + 1 ≡ depth → slice_get path last ≡ Some name → last_name path ≡ name
last_name_is path last depth name d l h =
    let is : length path - 1 ≡ last = omega arith in
    ap (λ k. slice_index_or path k []) is ∙ get_or_from_slice_get path last name [] h

-- the folder part of a path is its first names
pub first_names : (path : List (List ℕ)) (last depth : ℕ) → depth ≡ length path → last + 1 ≡ depth → take last path ≡ folder_part path
first_names path last depth d l =
    let is : last ≡ length path - 1 = omega arith in
    ap (λ k. take k path) is

pub not_root : (path : List (List ℕ)) (last depth : ℕ) → depth ≡ length path → last + 1 ≡ depth → is_root path ≡ false
not_root path last depth d l = grind (arith, nat_tests)

-- a path that leads to the root is the root's
pub root_is : (K : Capacity) (nodes : List NodeRow) (path : List (List ℕ)) (n : ℕ) → IsVolume K nodes → resolve nodes path ≡ Some n → is_root path ≡ (n == 0)
root_is K nodes [] n v h = ap (λ k. k == 0) (same_Some 0 n (sym (resolve_root K nodes v) ∙ h))
root_is K nodes (name ∷ names) n v h =
    let inner : (n == 0) ≡ false = not_true _ (λ t.
    let is : n ≡ 0 = eq_is _ _ t in
    let long : length (path_of nodes 0) ≡ suc (length names) = subst (λ k. length (path_of nodes k) ≡ suc (length names)) is (resolved K nodes (name ∷ names) n v h).long in
    let none : length (path_of nodes 0) ≡ 0 = ap length (path_root nodes) in
    absurd (omega arith)) in
    suc_apart (length names) ∙ sym inner

pub has_resolved : (K : Capacity) (nodes : List NodeRow) (path : List (List ℕ)) (n : ℕ) → IsVolume K nodes → resolve nodes path ≡ Some n → has_row number n nodes ≡ true
has_resolved K nodes path n v h = (resolved K nodes path n v h).has

pub leads_is : (nodes : List NodeRow) (path : List (List ℕ)) (n : ℕ) → resolve nodes path ≡ Some n → leads nodes path ≡ true
leads_is nodes path n h = ap is_some h

pub target_is : (nodes : List NodeRow) (path : List (List ℕ)) (n : ℕ) → resolve nodes path ≡ Some n → target nodes path ≡ n
target_is nodes path n h = ap (λ o. unwrap_or o 0) h

pub leads_to_folder_is : (nodes : List NodeRow) (path : List (List ℕ)) (n : ℕ) → resolve nodes path ≡ Some n → leads_to_folder nodes path ≡ is_folder nodes n
leads_to_folder_is nodes path n h = ap (λ o. option_map_or (is_folder nodes) o false) h

-- what the path of a place leads to is the child that has the name
pub place_leads : (K : Capacity) (nodes : List NodeRow) (path : List (List ℕ)) (d : ℕ) (name : List ℕ) → IsVolume K nodes → IsPlace nodes path d name → resolve nodes path ≡ child_number nodes d name
place_leads K nodes path d name v p =
    resolve_child K nodes path d v (some_name path p.inner) p.resolved ∙ ap (child_number nodes d) p.name_is

pub place_folder : (nodes : List NodeRow) (path : List (List ℕ)) (d : ℕ) (name : List ℕ) → IsPlace nodes path d name → leads_to_folder nodes (folder_part path) ≡ true
place_folder nodes path d name p = leads_to_folder_is nodes (folder_part path) d p.resolved ∙ p.folder_is

-- how far a place's folder is from the root
pub place_depth : (K : Capacity) (nodes : List NodeRow) (path : List (List ℕ)) (d : ℕ) (name : List ℕ) → IsVolume K nodes → IsPlace nodes path d name → length (chain nodes d) ≤ length path
place_depth K nodes path d name v p =
    let r = resolved K nodes (folder_part path) d v p.resolved in
    let some = some_name path p.inner in
    let short : length (folder_part path) ≡ length path - 1 = length-take-le (length path - 1) path (omega arith) in
    omega (arith, r.deep)

-- whether a node that is lent is a folder
pub shown_folder : (nodes : List NodeRow) (n : ℕ) (view : NodeView) → Shows view nodes n → is_folder nodes n ≡ view.folder
shown_folder nodes n view s = found_folder nodes n s.row s.found ∙ sym s.is.folder

-- what was found
shown_number : (nodes : List NodeRow) (n : ℕ) (view : NodeView) → Shows view nodes n → view.number ≡ n
shown_number nodes n view s = s.is.number ∙ found_key number n nodes s.row s.found

pub shown_owner : (nodes : List NodeRow) (n : ℕ) (view : NodeView) → Shows view nodes n → owner_of nodes n ≡ view.owner
shown_owner nodes n view s = ap (λ o. option_map_or (λ (node : NodeRow). node.owner) o 0) s.found ∙ sym s.is.owner

pub shown_parent : (nodes : List NodeRow) (n : ℕ) (view : NodeView) → Shows view nodes n → parent_of nodes n ≡ view.parent
shown_parent nodes n view s = ap (λ o. option_map_or (λ (node : NodeRow). node.parent) o 0) s.found ∙ sym s.is.parent

pub file_found : (K : Capacity) (nodes : List NodeRow) (path : List (List ℕ)) (n : ℕ) (view : NodeView) → IsVolume K nodes → Some n ≡ resolve nodes path → Shows view nodes n → view.length ≤ longest_file → view.folder ≡ false → IsFile nodes path view
file_found K nodes path n view k h s short f =
    let same = shown_number nodes n view s in
    record {
      resolved = sym h ∙ ap Some (sym same);
      there = subst (λ k. has_row number k nodes ≡ true) (sym same) (has_resolved K nodes path n k (sym h));
      shows = subst (λ k. Shows view nodes k) (sym same) s;
      file = f;
      short = short;
    }

pub folder_found : (nodes : List NodeRow) (path : List (List ℕ)) (n : ℕ) (view : NodeView) → Some n ≡ resolve nodes path → Shows view nodes n → view.folder ≡ true → IsFolder nodes path n
folder_found nodes path n view h s f = record { resolved = sym h; folder = shown_folder nodes n view s ∙ f }

pub place_found : (nodes : List NodeRow) (path : List (List ℕ)) (depth at d : ℕ) (name : List ℕ) (view : NodeView) → depth ≡ length path → (1 ≤ depth) × (at ≡ depth - 1) → Some d ≡ resolve nodes (take at path) → Shows view nodes d → view.folder ≡ true → slice_get path at ≡ Some name → is_name name ≡ true → IsPlace nodes path d name
place_found nodes path depth at d name view deep at_is h s f part valid =
    let a = at_is.0 in
    let b = at_is.1 in
    let next : at + 1 ≡ depth = omega arith in
    record {
      inner = not_root path at depth deep next;
      resolved = sym (ap (resolve nodes) (first_names path at depth deep next)) ∙ sym h;
      folder_is = shown_folder nodes d view s ∙ f;
      name_is = last_name_is path at depth name deep next part;
      valid = valid;
    }

-- a place is refused by no screen and by no quota
pub place_bare : (nodes : List NodeRow) (path : List (List ℕ)) (refusal : Refusal) → IsRefusedPlace nodes path refusal → is_bare refusal ≡ true
place_bare nodes path (ScreenBlocked screen) h = absurd h
place_bare nodes path (QuotaExceeded folder would limit) h = absurd h
place_bare nodes path other h = refl

-- a path that isn't the root's has a name
pub place_inner : (path : List (List ℕ)) → is_root path ≡ false → 1 ≤ length path
place_inner [] h = absurd (cc h)
place_inner (name ∷ path) h = omega arith
