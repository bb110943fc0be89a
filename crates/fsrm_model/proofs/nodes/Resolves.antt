-- Where paths lead: a path's last name is that of a child of where the names before it lead to.
use Rattle.std.proofs.Common.{◌≡◌, ℕ, suc, ◌+◌, ◌-◌, ◌<◌, ◌==◌, true, false, List, [], ◌∷◌, ◌++◌, length, take, refl, sym, ◌∙◌, ap, subst, arith, Some, None, Option}
use Rattle.std.proofs.lemmas.Bool.Decides.{nat_tests}
use Rattle.std.proofs.lemmas.List.{take_all, take_more, length-drop, length-map, length-reverse}
use Rattle.std.proofs.lemmas.Option.{same_Some}
use Rattle.std.proofs.lemmas.Slice.Eq.{bytes_eq-Decides}
use Rattle.std.specs.Prelude.{map, reverse, option_map}
use Rattle.std.specs.Option.{option_and_then}
use Rattle.fsrm_model.specs.declared.row.Capacity.{Capacity}
use Rattle.fsrm_model.specs.declared.row.NodeRow.{NodeRow}
use Rattle.fsrm_base.specs.Keyed.{has_row}
use Rattle.fsrm_model.specs.values.Name.{same_name, same_names, folded}
use Rattle.fsrm_model.specs.nodes.Tree.{number, node_of, name_of, is_folder, child_of, child_number, chain, path_of, resolve, folder_part, last_name}
use Rattle.fsrm_model.specs.nodes.Leads.{is_root}
use Rattle.fsrm_model.specs.store.Valid.{IsVolume}
use Rattle.fsrm_base.proofs.TestLaws.{both}
use Rattle.fsrm_model.proofs.nodes.DepthLaws.{some_member}
use Rattle.fsrm_base.proofs.Look.{found_has}
use Rattle.fsrm_model.proofs.nodes.Walks.{walk, walk-append, then_then, walk_sound, resolve_is, child_found, path_root}

-- the empty path leads to the root
pub resolve_root : (K : Capacity) (nodes : List NodeRow) → IsVolume K nodes → resolve nodes [] ≡ Some 0
resolve_root K nodes v = resolve_is K nodes v []

-- a path that isn't the root's has a name
pub some_name : (path : List (List ℕ)) → is_root path ≡ false → 0 < length path
some_name path h = grind (arith, nat_tests)

-- a path is its folder's with one name more
pub joined_path : (path : List (List ℕ)) → 0 < length path → path ≡ folder_part path ++ last_name path ∷ []
joined_path path h =
    let whole : length path - 1 + 1 ≡ length path = omega arith in
    sym (take_all (length path) path (omega arith)) ∙ (ap (λ n. take n path) (sym whole) ∙ take_more path (length path - 1) [] (omega arith))

pub resolve_step : (K : Capacity) (nodes : List NodeRow) (path : List (List ℕ)) → IsVolume K nodes → 0 < length path → resolve nodes path ≡ option_and_then (λ d. child_number nodes d (last_name path)) (resolve nodes (folder_part path))
resolve_step K nodes path v h =
    resolve_is K nodes v path
    ∙ (ap (walk nodes 0) (joined_path path h)
    ∙ (walk-append nodes 0 (folder_part path) (last_name path)
    ∙ ap (option_and_then (λ d. child_number nodes d (last_name path))) (sym (resolve_is K nodes v (folder_part path)))))

pub resolve_child : (K : Capacity) (nodes : List NodeRow) (path : List (List ℕ)) (d : ℕ) → IsVolume K nodes → 0 < length path → resolve nodes (folder_part path) ≡ Some d → resolve nodes path ≡ child_number nodes d (last_name path)
resolve_child K nodes path d v h e = resolve_step K nodes path v h ∙ ap (option_and_then (λ d. child_number nodes d (last_name path))) e

-- a walk in two parts
pub walk-joined : (nodes : List NodeRow) (n : ℕ) (xs ys : List (List ℕ)) → walk nodes n (xs ++ ys) ≡ option_and_then (λ d. walk nodes d ys) (walk nodes n xs)
walk-joined nodes n [] ys = refl
walk-joined nodes n (x ∷ xs) ys =
    then_then (λ c. walk nodes c xs) (λ d. walk nodes d ys) (λ c. walk nodes c (xs ++ ys)) (child_number nodes n x) (λ c. walk-joined nodes c xs ys)

-- the node that a path leads to
pub record Resolved (nodes : List NodeRow) (path : List (List ℕ)) (n : ℕ) : Type 0 where
  pub has : has_row number n nodes ≡ true
  pub same : same_names (path_of nodes n) path ≡ true
  pub long : length (path_of nodes n) ≡ length path
  pub deep : length (chain nodes n) ≡ length path + 1

same_length : (xs ys : List (List ℕ)) → same_names xs ys ≡ true → length xs ≡ length ys
same_length [] [] h = refl
same_length [] (y ∷ ys) h = cc
same_length (x ∷ xs) [] h = cc
same_length (x ∷ xs) (y ∷ ys) h = ap suc (same_length xs ys (both _ _ h).1)

pub path_length : (nodes : List NodeRow) (n : ℕ) → length (path_of nodes n) + 1 ≡ length (chain nodes n)
path_length nodes n =
    omega (arith, length-drop 1 (map (name_of nodes) (reverse (chain nodes n))), length-map (reverse (chain nodes n)) (name_of nodes), length-reverse (chain nodes n), some_member (length nodes) nodes n)

pub resolved : (K : Capacity) (nodes : List NodeRow) (path : List (List ℕ)) (n : ℕ) → IsVolume K nodes → resolve nodes path ≡ Some n → Resolved nodes path n
resolved K nodes path n v h =
    let none : same_names (path_of nodes 0) [] ≡ true = ap (λ p. same_names p []) (path_root nodes) in
    let w = walk_sound K nodes v path [] 0 n v.has_root none (sym (resolve_is K nodes v path) ∙ h) in
    let long = same_length (path_of nodes n) path w.same in
    record { has = w.has; same = w.same; long = long; deep = omega (arith, long, path_length nodes n) }

-- a node's own path leads to it
pub same_itself : (a : List ℕ) → same_name a a ≡ true
same_itself a = let d = bytes_eq-Decides (folded a) (folded a) in grind arith

pub same_paths : (path : List (List ℕ)) → same_names path path ≡ true
same_paths [] = refl
same_paths (a ∷ path) = rw (same_itself a, same_paths path) refl

-- a folder's child of a name
pub record NamedChild (nodes : List NodeRow) (d : ℕ) (name : List ℕ) (n : ℕ) : Type 0 where
  pub row : NodeRow
  pub found : node_of nodes n ≡ Some row
  pub has : has_row number n nodes ≡ true
  pub inner : (n == 0) ≡ false
  pub up : row.parent ≡ d
  pub same : same_name row.name name ≡ true
  pub folder : is_folder nodes d ≡ true

named_at : (K : Capacity) (nodes : List NodeRow) (d : ℕ) (name : List ℕ) (n : ℕ) (o : Option NodeRow) → IsVolume K nodes → child_of nodes d name ≡ o → option_map number o ≡ Some n → NamedChild nodes d name n
named_at K nodes d name n None v e h = cc
named_at K nodes d name n (Some r) v e h =
    let c = child_found K nodes d name r v e in
    let is : r.number ≡ n = same_Some r.number n h in
    let found : node_of nodes n ≡ Some r = subst (λ k. node_of nodes k ≡ Some r) is c.found in
    record {
      row = r;
      found = found;
      has = found_has number n nodes r found;
      inner = subst (λ k. (k == 0) ≡ false) is c.inner;
      up = c.up;
      same = c.same;
      folder = subst (λ p. is_folder nodes p ≡ true) c.up (v.up n r found);
    }

pub named_child : (K : Capacity) (nodes : List NodeRow) (d : ℕ) (name : List ℕ) (n : ℕ) → IsVolume K nodes → child_number nodes d name ≡ Some n → NamedChild nodes d name n
named_child K nodes d name n v h = named_at K nodes d name n (child_of nodes d name) v refl h
