-- What keeps a volume.
use Rattle.std.proofs.Common.{◌≡◌, ℕ, zero, suc, ◌+◌, ◌≤◌, ◌==◌, Bool, true, false, cond, not, ◌||◌, ◌&&◌, inl, inr, List, [], ◌∷◌, length, refl, sym, ◌∙◌, ap, subst, arith, Some, None, Option, nat_lt}
use Rattle.std.proofs.lemmas.Option.{same_Some}
use Rattle.std.proofs.lemmas.Slice.Eq.{bytes_eq-Decides}
use Rattle.std.proofs.lemmas.List.Sums.{sum_by-cons}
use Rattle.std.specs.Prelude.{is_some, option_map, if◌then◌else◌}
use Rattle.std.specs.Option.{option_map_or}
use Rattle.std.specs.Str.{bytes_eq}
use Rattle.std.specs.List.{list_any}
use Rattle.fsrm_model.specs.declared.row.Capacity.{Capacity}
use Rattle.fsrm_model.specs.declared.row.NodeRow.{NodeRow}
use Rattle.fsrm_base.specs.Keyed.{is_ascending, has_row, with_row, with_change, without_row}
use Rattle.fsrm_model.specs.values.Name.{same_name, folded}
use Rattle.fsrm_model.specs.nodes.Tree.{number, node_of, parent_of, is_folder, is_child, child_of, chain, name_bytes}
use Rattle.fsrm_model.specs.nodes.FileOps.{placed}
use Rattle.fsrm_model.specs.store.Valid.{is_root_node, is_own, IsVolume}
use Rattle.fsrm_base.proofs.TestLaws.{is_or_not, clash, not_true, is_false, both, both_true, eq_is, eq_same, eq_turned}
use Rattle.fsrm_model.proofs.valid.ValidLaws.{folder_has, found_parent}
use Rattle.fsrm_base.specs.Numbers.{is_in}
use Rattle.fsrm_model.proofs.nodes.ChainLaws.{IsTree, Has, chain-new, chain-new_other}
use Rattle.fsrm_base.proofs.EditedRows.{sum_by-with_row, sum_by-with_change, sum_by-without_row}
use Rattle.fsrm_model.proofs.nodes.ChangeLaws.{KeepsPlace, chain-change}
use Rattle.fsrm_model.proofs.nodes.MoveLaws.{Moves, moved_tree}
use Rattle.fsrm_model.proofs.nodes.RemoveLaws.{Removes, removed_tree}
use Rattle.fsrm_base.proofs.Look.{has_found, found_has, found_key, found_lacks, found_any, is_some-find, new_found, row_of-new_other, has_row-new_other, Changed, changed_found, row_of-change, has_row-change, row_of-without, has_row-without, has_row-without_other}
use Rattle.fsrm_base.proofs.Order.{ascending-with_row, ascending-change, ascending-filter, length-change}
use Rattle.fsrm_base.proofs.Members.{member}

-- folders
pub record FoundFolder (nodes : List NodeRow) (n : ℕ) : Type 0 where
  pub row : NodeRow
  pub found : node_of nodes n ≡ Some row
  pub folder : row.folder ≡ true

folder_at : (nodes : List NodeRow) (n : ℕ) (o : Option NodeRow) → node_of nodes n ≡ o → option_map_or (λ node. node.folder) o false ≡ true → FoundFolder nodes n
folder_at nodes n None e h = cc
folder_at nodes n (Some r) e h = record { row = r; found = e; folder = h }

pub folder_found : (nodes : List NodeRow) (n : ℕ) → is_folder nodes n ≡ true → FoundFolder nodes n
folder_found nodes n h = folder_at nodes n (node_of nodes n) refl h

pub found_folder : (nodes : List NodeRow) (n : ℕ) (r : NodeRow) → node_of nodes n ≡ Some r → is_folder nodes n ≡ r.folder
found_folder nodes n r h = ap (λ o. option_map_or (λ node. node.folder) o false) h

-- a volume is a tree
pub tree_of : (K : Capacity) (nodes : List NodeRow) → IsVolume K nodes → IsTree nodes
tree_of K nodes v =
    record {
      root = v.has_root;
      closed = λ n h.
          let f = has_found number n nodes h in
          subst (Has nodes) (sym (found_parent nodes n f.row f.is)) (folder_has nodes f.row.parent (v.up n f.row f.is));
      rooted = v.rooted;
    }

pub same_turned : (a b : List ℕ) → same_name a b ≡ true → same_name b a ≡ true
same_turned a b h =
    let is : folded a ≡ folded b = bytes_is (folded a) (folded b) h in
    rw is (bytes_same (folded b))
  where
    bytes_is : (xs ys : List ℕ) → bytes_eq xs ys ≡ true → xs ≡ ys
    bytes_is xs ys h = let d = bytes_eq-Decides xs ys in grind arith

    bytes_same : (xs : List ℕ) → bytes_eq xs xs ≡ true
    bytes_same xs = let d = bytes_eq-Decides xs xs in grind arith

pub same_joined : (a b c : List ℕ) → same_name a b ≡ true → same_name c b ≡ true → same_name a c ≡ true
same_joined a b c h g = let d = bytes_eq-Decides (folded a) (folded b) in let e = bytes_eq-Decides (folded c) (folded b) in let f = bytes_eq-Decides (folded a) (folded c) in grind arith

-- one more node
pub record Fits (K : Capacity) (nodes : List NodeRow) (node : NodeRow) : Type 0 where
  pub free : has_row number node.number nodes ≡ false
  pub below : nat_lt node.number K.nodes ≡ true
  pub own : is_own node ≡ true
  pub folder : is_folder nodes node.parent ≡ true
  pub alone : is_some (child_of nodes node.parent node.name) ≡ false
  pub names : name_bytes nodes + length node.name ≤ K.names

pub folder-new : (nodes : List NodeRow) (node : NodeRow) (n : ℕ) → has_row number node.number nodes ≡ false → is_folder nodes n ≡ true → is_folder (with_row number node nodes) n ≡ true
folder-new nodes node n free h =
    let f = folder_found nodes n h in
    let apart : (n == node.number) ≡ false = not_true _ (λ t. clash _ (subst (Has nodes) (eq_is _ _ t) (found_has number n nodes f.row f.found)) free) in
    found_folder (with_row number node nodes) n f.row (row_of-new_other number node n nodes apart ∙ f.found) ∙ f.folder

pub zero_apart : (nodes : List NodeRow) (n : ℕ) → Has nodes 0 → has_row number n nodes ≡ false → (n == 0) ≡ false
zero_apart nodes n h free = not_true _ (λ t. clash _ (subst (Has nodes) (sym (eq_is n 0 t)) h) free)

pub as_suc : (n : ℕ) → (n == 0) ≡ false → (k : ℕ) × (n ≡ suc k)
as_suc zero h = cc
as_suc (suc k) h = (k, refl)

pub is_child_test : (p m : ℕ) (row : NodeRow) → row.number ≡ m → (m == 0) ≡ false → row.parent ≡ p → is_child p row ≡ true
is_child_test p m row e h g = rw (e, h, g) (rw (eq_same p) refl)

-- no other node has the name that no child has
no_other : (nodes : List NodeRow) (p m : ℕ) (name : List ℕ) (s : NodeRow) → is_some (child_of nodes p name) ≡ false → node_of nodes m ≡ Some s → (m == 0) ≡ false → s.parent ≡ p → same_name s.name name ≡ true → ⊥
no_other nodes p m name s none found inner up same =
    let test : NodeRow → Bool = λ node. is_child p node && same_name node.name name in
    let lacks : test s ≡ false = found_lacks number test m nodes s (sym (is_some-find test nodes) ∙ none) found in
    let has : test s ≡ true = rw (is_child_test p m s (found_key number m nodes s found) inner up, same) refl in
    clash (test s) has lacks

pub volume-new : (K : Capacity) (nodes : List NodeRow) (node : NodeRow) → IsVolume K nodes → Fits K nodes node → IsVolume K (with_row number node nodes)
volume-new K nodes node v f =
    let new = with_row number node nodes in
    let t = tree_of K nodes v in
    let inner : (node.number == 0) ≡ false = zero_apart nodes node.number v.has_root f.free in
    let zero_other : (0 == node.number) ≡ false = eq_turned _ _ inner in
    let s = as_suc node.number inner in
    let bytes : name_bytes new ≡ length node.name + name_bytes nodes = sum_by-with_row number (λ node. length node.name) node nodes in
    record {
      ascending = ascending-with_row number node nodes f.free v.ascending;
      has_root = has_row-new_other number node 0 nodes zero_other ∙ v.has_root;
      root = λ r h. v.root r (sym (row_of-new_other number node 0 nodes zero_other) ∙ h);
      below = λ n r h. elim (new_found number node n nodes r f.free h).other [
        | inl e ↦ ap (λ i. nat_lt i K.nodes) e.0 ∙ f.below
        | inr e ↦ v.below n r e.1
      ];
      own = λ n r h i. elim (new_found number node n nodes r f.free h).other [
        | inl e ↦ ap is_own e.1 ∙ f.own
        | inr e ↦ v.own n r e.1 i
      ];
      up = λ n r h. elim (new_found number node n nodes r f.free h).other [
        | inl e ↦ ap (λ (x : NodeRow). is_folder new x.parent) e.1 ∙ folder-new nodes node node.parent f.free f.folder
        | inr e ↦ folder-new nodes node r.parent f.free (v.up n r e.1)
      ];
      rooted = λ n h. elim (is_or_not (n == node.number)) [
        | inl e ↦ subst (λ j. is_in (chain new j) 0 ≡ true) (sym (eq_is _ _ e))
            (ap (λ ns. is_in ns 0) (chain-new nodes t node s.0 s.1 f.free (folder_has nodes node.parent f.folder)) ∙ ap (λ b. b || is_in (chain nodes node.parent) 0) inner ∙ v.rooted node.parent (folder_has nodes node.parent f.folder))
        | inr e ↦
            let has : Has nodes n = sym (has_row-new_other number node n nodes e) ∙ h in
            ap (λ ns. is_in ns 0) (chain-new_other nodes t node f.free n has) ∙ v.rooted n has
      ];
      alone = λ n m r s h g i j up same. elim (new_found number node n nodes r f.free h).other [
        | inl e ↦ elim (new_found number node m nodes s f.free g).other [
          | inl d ↦ d.0 ∙ sym e.0
          | inr d ↦ absurd (no_other nodes node.parent m node.name s f.alone d.1 j (up ∙ ap (λ (x : NodeRow). x.parent) e.1) (ap (λ (x : NodeRow). same_name s.name x.name) (sym e.1) ∙ same))
        ]
        | inr e ↦ elim (new_found number node m nodes s f.free g).other [
          | inl d ↦ absurd (no_other nodes node.parent n node.name r f.alone e.1 i (sym up ∙ ap (λ (x : NodeRow). x.parent) d.1) (same_turned node.name r.name (ap (λ (x : NodeRow). same_name x.name r.name) (sym d.1) ∙ same)))
          | inr d ↦ v.alone n m r s e.1 d.1 i j up same
        ]
      ];
      names = omega (arith, bytes, f.names);
    }

-- a change of a node that keeps its place, its name and its kind
pub record KeepsNode (c : NodeRow → NodeRow) : Type 0 where
  pub same_number : (r : NodeRow) → (c r).number ≡ r.number
  pub same_parent : (r : NodeRow) → (c r).parent ≡ r.parent
  pub same_name : (r : NodeRow) → (c r).name ≡ r.name
  pub same_folder : (r : NodeRow) → (c r).folder ≡ r.folder

pub place_of : (c : NodeRow → NodeRow) → KeepsNode c → KeepsPlace c
place_of c k = record { same_number = k.same_number; same_parent = k.same_parent }

pub cond_same : {A : Type 0} (g : NodeRow → A) (c : NodeRow → NodeRow) → ((r : NodeRow) → g (c r) ≡ g r) → (b : Bool) (r : NodeRow) → g (cond b (c r) r) ≡ g r
cond_same g c h true r = h r
cond_same g c h false r = refl

folder_mapped : (g : NodeRow → NodeRow) → ((r : NodeRow) → (g r).folder ≡ r.folder) → (o : Option NodeRow) → option_map_or (λ node. node.folder) (option_map g o) false ≡ option_map_or (λ node. node.folder) o false
folder_mapped g h None = refl
folder_mapped g h (Some x) = h x

pub folder-change : (nodes : List NodeRow) (x n : ℕ) (c : NodeRow → NodeRow) → ((r : NodeRow) → (c r).number ≡ r.number) → ((r : NodeRow) → (c r).folder ≡ r.folder) → is_folder (with_change number x c nodes) n ≡ is_folder nodes n
folder-change nodes x n c k f =
    ap (λ o. option_map_or (λ node. node.folder) o false) (row_of-change number x c k n nodes)
    ∙ folder_mapped (λ r. if number r == x then c r else r) (λ r. cond_same (λ y. y.folder) c f (number r == x) r) (node_of nodes n)

names_at : (c : NodeRow → NodeRow) → ((r : NodeRow) → (c r).name ≡ r.name) → (b : Bool) (r : NodeRow) → length (cond b (c r) r).name ≡ length r.name
names_at c k true r = ap length (k r)
names_at c k false r = refl

pub name_bytes-change : (x : ℕ) (c : NodeRow → NodeRow) → ((r : NodeRow) → (c r).name ≡ r.name) → (nodes : List NodeRow) → name_bytes (with_change number x c nodes) ≡ name_bytes nodes
name_bytes-change x c k [] = refl
name_bytes-change x c k (r ∷ nodes) =
    omega (arith, sum_by-cons (λ (node : NodeRow). length node.name) (cond (number r == x) (c r) r) (with_change number x c nodes), sum_by-cons (λ (node : NodeRow). length node.name) r nodes, names_at c k (number r == x) r, name_bytes-change x c k nodes)

-- a sound change of one inner node
pub volume-change : (K : Capacity) (nodes : List NodeRow) (x : ℕ) (c : NodeRow → NodeRow) → IsVolume K nodes → KeepsNode c → (x == 0) ≡ false → ((r : NodeRow) → node_of nodes x ≡ Some r → is_own (c r) ≡ true) → IsVolume K (with_change number x c nodes)
volume-change K nodes x c v k inner own =
    let new = with_change number x c nodes in
    let zero_other : (0 == x) ≡ false = eq_turned _ _ inner in
    let was : (n : ℕ) (r : NodeRow) → node_of new n ≡ Some r → Changed number x c n nodes r = λ n r h. changed_found number x c k.same_number n nodes r h in
    record {
      ascending = ascending-change number x c k.same_number nodes v.ascending;
      has_root = has_row-change number x c k.same_number 0 nodes ∙ v.has_root;
      root = λ r h. let w = was 0 r h in ap is_root_node (w.is ∙ ap (λ b. cond b (c w.row) w.row) zero_other) ∙ v.root w.row w.found;
      below = λ n r h. let w = was n r h in v.below n w.row w.found;
      own = λ n r h i. let w = was n r h in elim (is_or_not (n == x)) [
        | inl e ↦ ap is_own (w.is ∙ ap (λ b. cond b (c w.row) w.row) e) ∙ own w.row (ap (node_of nodes) (sym (eq_is _ _ e)) ∙ w.found)
        | inr e ↦ ap is_own (w.is ∙ ap (λ b. cond b (c w.row) w.row) e) ∙ v.own n w.row w.found i
      ];
      up = λ n r h. let w = was n r h in
          ap (is_folder new) (ap (λ (y : NodeRow). y.parent) w.is ∙ cond_same (λ y. y.parent) c k.same_parent (n == x) w.row) ∙ (folder-change nodes x w.row.parent c k.same_number k.same_folder ∙ v.up n w.row w.found);
      rooted = λ n h. ap (λ ns. is_in ns 0) (chain-change x c (place_of c k) nodes n) ∙ v.rooted n (sym (has_row-change number x c k.same_number n nodes) ∙ h);
      alone = λ n m r s h g i j up same.
          let w = was n r h in
          let u = was m s g in
          let rp : r.parent ≡ w.row.parent = ap (λ (y : NodeRow). y.parent) w.is ∙ cond_same (λ y. y.parent) c k.same_parent (n == x) w.row in
          let sp : s.parent ≡ u.row.parent = ap (λ (y : NodeRow). y.parent) u.is ∙ cond_same (λ y. y.parent) c k.same_parent (m == x) u.row in
          let rn : r.name ≡ w.row.name = ap (λ (y : NodeRow). y.name) w.is ∙ cond_same (λ y. y.name) c k.same_name (n == x) w.row in
          let sn : s.name ≡ u.row.name = ap (λ (y : NodeRow). y.name) u.is ∙ cond_same (λ y. y.name) c k.same_name (m == x) u.row in
          v.alone n m w.row u.row w.found u.found i j (sym sp ∙ (up ∙ rp)) (ap (λ t. same_name t w.row.name) (sym sn) ∙ (ap (λ t. same_name s.name t) (sym rn) ∙ same));
      names = subst (λ t. t ≤ K.names) (sym (name_bytes-change x c k.same_name nodes)) v.names;
    }

-- a move of a node to a folder and a name
pub record MayMove (K : Capacity) (nodes : List NodeRow) (x d : ℕ) (name : List ℕ) : Type 0 where
  pub inner : (x == 0) ≡ false
  pub row : NodeRow
  pub found : node_of nodes x ≡ Some row
  pub folder : is_folder nodes d ≡ true
  pub apart : is_in (chain nodes d) x ≡ false
  pub own : is_own (placed d name row) ≡ true
  pub alone : (s : NodeRow) → child_of nodes d name ≡ Some s → s.number ≡ x
  pub names : name_bytes nodes + length name ≤ K.names + length row.name

moved_up : (nodes : List NodeRow) (x d : ℕ) (name : List ℕ) (row : NodeRow) → node_of nodes x ≡ Some row → parent_of (with_change number x (placed d name) nodes) x ≡ d
moved_up nodes x d name row found =
    ap (λ o. option_map_or (λ node. node.parent) o 0) (row_of-change number x (placed d name) (λ r. refl) x nodes ∙ ap (option_map (λ r. if number r == x then placed d name r else r)) found)
    ∙ ap (λ b. (cond b (placed d name row) row).parent) (ap (λ j. j == x) (found_key number x nodes row found) ∙ eq_same x)

parent_mapped : (g : NodeRow → NodeRow) (o : Option NodeRow) → ((r : NodeRow) → o ≡ Some r → (g r).parent ≡ r.parent) → option_map_or (λ node. node.parent) (option_map g o) 0 ≡ option_map_or (λ node. node.parent) o 0
parent_mapped g None h = refl
parent_mapped g (Some x) h = h x refl

pub moves_at : (nodes : List NodeRow) (x d : ℕ) (name : List ℕ) (row : NodeRow) → IsTree nodes → node_of nodes x ≡ Some row → (x == 0) ≡ false → is_folder nodes d ≡ true → is_in (chain nodes d) x ≡ false → Moves nodes (with_change number x (placed d name) nodes) x d
moves_at nodes x d name row tree found inner folder apart =
    record {
      tree = tree;
      has_moved = found_has number x nodes row found;
      has_folder = folder_has nodes d folder;
      is_inner = inner;
      apart = apart;
      size = length-change number x (placed d name) nodes;
      numbers = λ n. has_row-change number x (placed d name) (λ r. refl) n nodes;
      up = moved_up nodes x d name row found;
      others = λ n e.
          ap (λ o. option_map_or (λ node. node.parent) o 0) (row_of-change number x (placed d name) (λ r. refl) n nodes)
          ∙ parent_mapped (λ r. if number r == x then placed d name r else r) (node_of nodes n) (λ r h. ap (λ b. (cond b (placed d name r) r).parent) (ap (λ j. j == x) (found_key number n nodes r h) ∙ e));
    }

pub moves_of : (K : Capacity) (nodes : List NodeRow) (x d : ℕ) (name : List ℕ) → IsVolume K nodes → MayMove K nodes x d name → Moves nodes (with_change number x (placed d name) nodes) x d
moves_of K nodes x d name v m = moves_at nodes x d name m.row (tree_of K nodes v) m.found m.inner m.folder m.apart

-- whoever has the name in the folder is the moved node
only_moved : (K : Capacity) (nodes : List NodeRow) (x d m : ℕ) (name : List ℕ) (s : NodeRow) → IsVolume K nodes → MayMove K nodes x d name → node_of nodes m ≡ Some s → (m == 0) ≡ false → s.parent ≡ d → same_name s.name name ≡ true → m ≡ x
only_moved K nodes x d m name s v k found inner up same =
    let test : NodeRow → Bool = λ node. is_child d node && same_name node.name name in
    let passes : test s ≡ true = both_true _ _ (is_child_test d m s (found_key number m nodes s found) inner up) same in
    let f = member number test nodes v.ascending (found_any number test m nodes s found passes) in
    let parts : (is_child d f.row ≡ true) × (same_name f.row.name name ≡ true) = both _ _ f.passes in
    let child : (not (f.row.number == 0) ≡ true) × ((f.row.parent == d) ≡ true) = both _ _ parts.0 in
    let in_one : s.parent ≡ f.row.parent = up ∙ sym (eq_is _ _ child.1) in
    let is : m ≡ f.row.number = v.alone f.row.number m f.row s f.found found (is_false _ child.0) inner in_one (same_joined s.name name f.row.name same parts.1) in
    is ∙ k.alone f.row f.first

pub volume-moved : (K : Capacity) (nodes : List NodeRow) (x d : ℕ) (name : List ℕ) → IsVolume K nodes → MayMove K nodes x d name → IsVolume K (with_change number x (placed d name) nodes)
volume-moved K nodes x d name v m =
    let c = placed d name in
    let new = with_change number x c nodes in
    let t = moved_tree nodes new x d (moves_of K nodes x d name v m) in
    let zero_other : (0 == x) ≡ false = eq_turned _ _ m.inner in
    let was : (n : ℕ) (r : NodeRow) → node_of new n ≡ Some r → Changed number x c n nodes r = λ n r h. changed_found number x c (λ r. refl) n nodes r h in
    let bytes : name_bytes new + length m.row.name ≡ name_bytes nodes + length name = sum_by-with_change number (λ (node : NodeRow). length node.name) x c m.row nodes v.ascending m.found in
    record {
      ascending = ascending-change number x c (λ r. refl) nodes v.ascending;
      has_root = has_row-change number x c (λ r. refl) 0 nodes ∙ v.has_root;
      root = λ r h. let w = was 0 r h in ap is_root_node (w.is ∙ ap (λ b. cond b (c w.row) w.row) zero_other) ∙ v.root w.row w.found;
      below = λ n r h. let w = was n r h in v.below n w.row w.found;
      own = λ n r h i. let w = was n r h in elim (is_or_not (n == x)) [
        | inl e ↦
            let is : w.row ≡ m.row = same_Some _ _ (sym w.found ∙ (ap (node_of nodes) (eq_is _ _ e) ∙ m.found)) in
            ap is_own (w.is ∙ (ap (λ b. cond b (c w.row) w.row) e ∙ ap c is)) ∙ m.own
        | inr e ↦ ap is_own (w.is ∙ ap (λ b. cond b (c w.row) w.row) e) ∙ v.own n w.row w.found i
      ];
      up = λ n r h. let w = was n r h in elim (is_or_not (n == x)) [
        | inl e ↦ ap (λ (y : NodeRow). is_folder new y.parent) (w.is ∙ ap (λ b. cond b (c w.row) w.row) e) ∙ (folder-change nodes x d c (λ r. refl) (λ r. refl) ∙ m.folder)
        | inr e ↦ ap (λ (y : NodeRow). is_folder new y.parent) (w.is ∙ ap (λ b. cond b (c w.row) w.row) e) ∙ (folder-change nodes x w.row.parent c (λ r. refl) (λ r. refl) ∙ v.up n w.row w.found)
      ];
      rooted = t.rooted;
      alone = λ n k r s h g i j up same.
          let w = was n r h in
          let u = was k s g in
          elim (is_or_not (n == x)) [
            | inl e ↦
                let rn : r ≡ c w.row = w.is ∙ ap (λ b. cond b (c w.row) w.row) e in
                elim (is_or_not (k == x)) [
                  | inl d' ↦ eq_is _ _ d' ∙ sym (eq_is _ _ e)
                  | inr d' ↦
                      let sn : s ≡ u.row = u.is ∙ ap (λ b. cond b (c u.row) u.row) d' in
                      only_moved K nodes x d k name u.row v m u.found j (ap (λ (y : NodeRow). y.parent) (sym sn) ∙ (up ∙ ap (λ (y : NodeRow). y.parent) rn)) (ap (λ (y : NodeRow). same_name y.name name) (sym sn) ∙ (ap (λ (y : NodeRow). same_name s.name y.name) (sym rn) ∙ same)) ∙ sym (eq_is _ _ e)
                ]
            | inr e ↦
                let rn : r ≡ w.row = w.is ∙ ap (λ b. cond b (c w.row) w.row) e in
                elim (is_or_not (k == x)) [
                  | inl d' ↦
                      let sn : s ≡ c u.row = u.is ∙ ap (λ b. cond b (c u.row) u.row) d' in
                      let turned : same_name r.name s.name ≡ true = same_turned s.name r.name same in
                      eq_is _ _ d' ∙ sym (only_moved K nodes x d n name w.row v m w.found i (ap (λ (y : NodeRow). y.parent) (sym rn) ∙ (sym up ∙ ap (λ (y : NodeRow). y.parent) sn)) (ap (λ (y : NodeRow). same_name y.name name) (sym rn) ∙ (ap (λ (y : NodeRow). same_name r.name y.name) (sym sn) ∙ turned)))
                  | inr d' ↦
                      let sn : s ≡ u.row = u.is ∙ ap (λ b. cond b (c u.row) u.row) d' in
                      v.alone n k w.row u.row w.found u.found i j (ap (λ (y : NodeRow). y.parent) (sym sn) ∙ (up ∙ ap (λ (y : NodeRow). y.parent) rn)) (ap (λ (y : NodeRow). same_name y.name w.row.name) (sym sn) ∙ (ap (λ (y : NodeRow). same_name s.name y.name) (sym rn) ∙ same))
                ]
          ];
      names = omega (arith, bytes, m.names);
    }

-- a node without children goes
removed_ascending : (nodes : List NodeRow) (x : ℕ) → is_ascending number nodes ≡ true → is_ascending number (without_row number x nodes) ≡ true
removed_ascending nodes x a = ascending-filter number (λ r. not (number r == x)) nodes a

pub record MayGo (nodes : List NodeRow) (x : ℕ) : Type 0 where
  pub inner : (x == 0) ≡ false
  pub row : NodeRow
  pub found : node_of nodes x ≡ Some row
  pub leaf : list_any (is_child x) nodes ≡ false

no_child : (K : Capacity) (nodes : List NodeRow) (x n : ℕ) (r : NodeRow) → IsVolume K nodes → MayGo nodes x → node_of nodes n ≡ Some r → (r.parent == x) ≡ false
no_child K nodes x n r v m h =
    not_true _ (λ t.
    elim (is_or_not (n == 0)) [
      | inl e ↦
          let root : is_root_node r ≡ true = v.root r (ap (node_of nodes) (sym (eq_is _ _ e)) ∙ h) in
          let zero : (r.parent == 0) ≡ true = (both _ _ (both _ _ (both _ _ root).0).1).0 in
          clash (x == 0) (subst (λ j. (j == 0) ≡ true) (eq_is _ _ t) zero) m.inner
      | inr e ↦ clash (is_child x r) (is_child_test x n r (found_key number n nodes r h) e (eq_is _ _ t)) (found_lacks number (is_child x) n nodes r m.leaf h)
    ])

pub removes_of : (K : Capacity) (nodes : List NodeRow) (x : ℕ) → IsVolume K nodes → MayGo nodes x → Removes nodes (without_row number x nodes) x
removes_of K nodes x v m =
    record {
      tree = tree_of K nodes v;
      is_inner = m.inner;
      leaf = λ n h. let f = has_found number n nodes h in ap (λ j. j == x) (found_parent nodes n f.row f.is) ∙ no_child K nodes x n f.row v m f.is;
      gone = has_row-without number x nodes;
      numbers = λ n e. has_row-without_other number x n nodes e;
      others = λ n e. ap (λ o. option_map_or (λ node. node.parent) o 0) (row_of-without number x n nodes e);
    }

pub volume-removed : (K : Capacity) (nodes : List NodeRow) (x : ℕ) → IsVolume K nodes → MayGo nodes x → IsVolume K (without_row number x nodes)
volume-removed K nodes x v m =
    let new = without_row number x nodes in
    let t = removed_tree nodes new x (removes_of K nodes x v m) in
    let zero_other : (0 == x) ≡ false = eq_turned _ _ m.inner in
    let was : (n : ℕ) (r : NodeRow) → node_of new n ≡ Some r → ((n == x) ≡ false) × (node_of nodes n ≡ Some r) = λ n r h.
    let e : (n == x) ≡ false = not_true _ (λ t. clash _ (subst (λ j. has_row number j new ≡ true) (eq_is _ _ t) (found_has number n new r h)) (has_row-without number x nodes)) in
    (e, sym (row_of-without number x n nodes e) ∙ h) in
    record {
      ascending = removed_ascending nodes x v.ascending;
      has_root = has_row-without_other number x 0 nodes zero_other ∙ v.has_root;
      root = λ r h. v.root r (was 0 r h).1;
      below = λ n r h. v.below n r (was n r h).1;
      own = λ n r h i. v.own n r (was n r h).1 i;
      up = λ n r h. ap (λ o. option_map_or (λ node. node.folder) o false) (row_of-without number x r.parent nodes (no_child K nodes x n r v m (was n r h).1)) ∙ v.up n r (was n r h).1;
      rooted = t.rooted;
      alone = λ n k r s h g i j up same. v.alone n k r s (was n r h).1 (was k s g).1 i j up same;
      names = let bytes : name_bytes new + length m.row.name ≡ name_bytes nodes = sum_by-without_row number (λ (node : NodeRow). length node.name) x m.row nodes v.ascending m.found in let most = v.names in omega arith;
    }
