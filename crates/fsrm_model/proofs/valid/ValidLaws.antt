-- What valid rows have.
use Rattle.std.proofs.Common.{◌≡◌, ℕ, ◌==◌, Bool, true, false, cond, ◌||◌, ◌&&◌, List, [], ◌∷◌, refl, sym, subst, Some, None}
use Rattle.std.specs.Prelude.{find, length, Option}
use Rattle.std.specs.Option.{option_map_or}
use Rattle.std.specs.List.{list_any, list_all}
use Rattle.fsrm_model.specs.declared.row.Capacity.{Capacity}
use Rattle.fsrm_model.specs.declared.row.NodeRow.{NodeRow}
use Rattle.fsrm_base.specs.Keyed.{is_ascending, has_row, row_of}
use Rattle.fsrm_model.specs.nodes.Tree.{number, node_of, parent_of, is_folder, chain}
use Rattle.fsrm_model.specs.store.Valid.{is_tree, is_sound_node, is_root_node, is_inner_node, is_only_one}
use Rattle.fsrm_base.proofs.TestLaws.{eq_is}
use Rattle.fsrm_base.specs.Numbers.{is_in}
use Rattle.fsrm_model.proofs.nodes.ChainLaws.{IsTree, Has}
pub use Rattle.fsrm_base.proofs.TestLaws.{both}

-- a row that is there
pub record Found {X : Type 0} (key : X → ℕ) (n : ℕ) (rows : List X) (test : X → Bool) : Type 0 where
  pub row : X
  pub found : row_of key n rows ≡ Some row
  pub key_is : key row ≡ n
  pub passes : test row ≡ true

found_at : {X : Type 0} (key : X → ℕ) (n : ℕ) (r : X) (rows : List X) (test : X → Bool) (b : Bool) → (key r == n) ≡ b → (b || has_row key n rows) ≡ true → test r ≡ true → (has_row key n rows ≡ true → Found key n rows test) → Found key n (r ∷ rows) test
found_at key n r rows test true e h p f = record { row = r; found = rw e refl; key_is = eq_is (key r) n e; passes = p }
found_at key n r rows test false e h p f = let g = f h in record { row = g.row; found = rw (e, g.found) refl; key_is = g.key_is; passes = g.passes }

pub found : {X : Type 0} (key : X → ℕ) (n : ℕ) (rows : List X) (test : X → Bool) → has_row key n rows ≡ true → list_all test rows ≡ true → Found key n rows test
found key n [] test h p = cc
found key n (r ∷ rows) test h p =
    let parts : (test r ≡ true) × (list_all test rows ≡ true) = both _ _ p in
    found_at key n r rows test (key r == n) refl h parts.0 (λ m. found key n rows test m parts.1)

any_at : {X : Type 0} (p : X → Bool) (r : X) (rows : List X) (b : Bool) → p r ≡ b → (found : X) → cond b (Some r) (find p rows) ≡ Some found → (find p rows ≡ Some found → list_any p rows ≡ true) → (b || list_any p rows) ≡ true
any_at p r rows true e found h f = refl
any_at p r rows false e found h f = f h

pub any_found : {X : Type 0} (p : X → Bool) (rows : List X) (found : X) → find p rows ≡ Some found → list_any p rows ≡ true
any_found p [] found h = cc
any_found p (r ∷ rows) found h = any_at p r rows (p r) refl found h (any_found p rows found)

folder_has_of : (nodes : List NodeRow) (n : ℕ) (o : Option NodeRow) → node_of nodes n ≡ o → option_map_or (λ node. node.folder) o false ≡ true → Has nodes n
folder_has_of nodes n None e h = cc
folder_has_of nodes n (Some r) e h = any_found (λ r. number r == n) nodes r e

-- a folder is a node
pub folder_has : (nodes : List NodeRow) (n : ℕ) → is_folder nodes n ≡ true → Has nodes n
folder_has nodes n h = folder_has_of nodes n (node_of nodes n) refl h

-- what a sound node says of its parent and its chain
pub record SoundParts (nodes : List NodeRow) (node : NodeRow) : Type 0 where
  pub parent : Has nodes node.parent
  pub rooted : is_in (chain nodes node.number) 0 ≡ true

chain_zero : (nodes : List NodeRow) → is_in (chain nodes 0) 0 ≡ true
chain_zero [] = refl
chain_zero (x ∷ xs) = refl

sound_case : (K : Capacity) (nodes : List NodeRow) (node : NodeRow) (b : Bool) → (node.number == 0) ≡ b → Has nodes 0 → cond b (is_root_node node) (is_inner_node nodes node) ≡ true → SoundParts nodes node
sound_case K nodes node true e root h =
    let parts = both _ _ h in
    let first : ((node.folder && (length node.name == 0)) ≡ true) × (((node.parent == 0) && (node.length == 0)) ≡ true) = both _ _ parts.0 in
    let up : ((node.parent == 0) ≡ true) × ((node.length == 0) ≡ true) = both _ _ first.1 in
    record {
      parent = subst (Has nodes) (sym (eq_is node.parent 0 up.0)) root;
      rooted = subst (λ (n : ℕ). is_in (chain nodes n) 0 ≡ true) (sym (eq_is node.number 0 e)) (chain_zero nodes);
    }
sound_case K nodes node false e root h =
    let beside : ((is_folder nodes node.parent && is_in (chain nodes node.number) 0) ≡ true) × (is_only_one nodes node ≡ true) = both _ _ (both _ _ h).1 in
    let up : (is_folder nodes node.parent ≡ true) × (is_in (chain nodes node.number) 0 ≡ true) = both _ _ beside.0 in
    record { parent = folder_has nodes node.parent up.0; rooted = up.1 }

pub sound_parts : (K : Capacity) (nodes : List NodeRow) (node : NodeRow) → Has nodes 0 → is_sound_node K nodes node ≡ true → SoundParts nodes node
sound_parts K nodes node root h = sound_case K nodes node (node.number == 0) refl root (both _ _ h).1

pub found_parent : (nodes : List NodeRow) (n : ℕ) (r : NodeRow) → node_of nodes n ≡ Some r → parent_of nodes n ≡ r.parent
found_parent nodes n r e = rw e refl

-- the nodes of valid rows are a tree
pub valid_tree : (K : Capacity) (nodes : List NodeRow) → is_tree K nodes ≡ true → IsTree nodes
valid_tree K nodes h =
    let parts = both _ _ h in
    let heads : (is_ascending number nodes ≡ true) × (list_any (λ node. node.number == 0) nodes ≡ true) = both _ _ parts.0 in
    let each : (list_all (is_sound_node K nodes) nodes ≡ true) × _ = both _ _ parts.1 in
    record {
      root = heads.1;
      closed = λ n is.
          let f = found number n nodes (is_sound_node K nodes) is each.0 in
          subst (Has nodes) (sym (found_parent nodes n f.row f.found)) (sound_parts K nodes f.row heads.1 f.passes).parent;
      rooted = λ n is.
          let f = found number n nodes (is_sound_node K nodes) is each.0 in
          subst (λ (n : ℕ). is_in (chain nodes n) 0 ≡ true) f.key_is (sound_parts K nodes f.row heads.1 f.passes).rooted;
    }
