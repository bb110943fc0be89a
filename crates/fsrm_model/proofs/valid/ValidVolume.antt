-- The test of a store's nodes says the same as what a volume has part by part.
use Rattle.std.proofs.Common.{◌≡◌, ℕ, ◌==◌, Bool, true, false, cond, not, ◌||◌, ◌&&◌, List, length, refl, sym, ◌∙◌, ap, inl, inr, Some, nat_le, nat_lt}
use Rattle.std.specs.List.{list_all}
use Rattle.fsrm_model.specs.declared.row.Capacity.{Capacity}
use Rattle.fsrm_model.specs.declared.row.NodeRow.{NodeRow}
use Rattle.fsrm_base.specs.Keyed.{is_ascending, has_row}
use Rattle.fsrm_model.specs.values.Name.{same_name}
use Rattle.fsrm_model.specs.nodes.Tree.{number, node_of, is_folder, is_child, is_under, name_bytes}
use Rattle.fsrm_model.specs.store.Valid.{is_tree, is_sound_node, is_root_node, is_inner_node, is_only_one, is_own, IsVolume}
use Rattle.fsrm_base.proofs.TestLaws.{is_or_not, is_false, both, both_true, eq_is, eq_same, le_is, le_test}
use Rattle.fsrm_model.proofs.valid.ValidLaws.{valid_tree}
use Rattle.fsrm_base.proofs.Look.{has_found, found_has, found_key}
use Rattle.fsrm_base.proofs.Members.{all_pass, all_found}
use Rattle.fsrm_model.proofs.nodes.Keeps.{found_folder, is_child_test}

-- what the test says of the root and of another node
as_root : (K : Capacity) (nodes : List NodeRow) (r : NodeRow) (b : Bool) → b ≡ true → cond b (is_root_node r) (is_inner_node nodes r) ≡ true → is_root_node r ≡ true
as_root K nodes r true e h = h
as_root K nodes r false e h = cc

as_inner : (K : Capacity) (nodes : List NodeRow) (r : NodeRow) (b : Bool) → b ≡ false → cond b (is_root_node r) (is_inner_node nodes r) ≡ true → is_inner_node nodes r ≡ true
as_inner K nodes r true e h = cc
as_inner K nodes r false e h = h

record Inner (nodes : List NodeRow) (r : NodeRow) : Type 0 where
  own : is_own r ≡ true
  up : is_folder nodes r.parent ≡ true
  rooted : is_under nodes 0 r.number ≡ true
  alone : is_only_one nodes r ≡ true

inner_parts : (nodes : List NodeRow) (r : NodeRow) → is_inner_node nodes r ≡ true → Inner nodes r
inner_parts nodes r h =
    let halves : (is_own r ≡ true) × (((is_folder nodes r.parent && is_under nodes 0 r.number) && is_only_one nodes r) ≡ true) = both _ _ h in
    let beside : ((is_folder nodes r.parent && is_under nodes 0 r.number) ≡ true) × (is_only_one nodes r ≡ true) = both _ _ halves.1 in
    let way : (is_folder nodes r.parent ≡ true) × (is_under nodes 0 r.number ≡ true) = both _ _ beside.0 in
    record { own = halves.0; up = way.0; rooted = way.1; alone = beside.1 }

-- the root is its own parent, and a folder
root_parent : (r : NodeRow) → is_root_node r ≡ true → r.parent ≡ 0
root_parent r h =
    let first : ((r.folder && (length r.name == 0)) ≡ true) × (((r.parent == 0) && (r.length == 0)) ≡ true) = both _ _ (both _ _ h).0 in
    eq_is _ _ (both (r.parent == 0) (r.length == 0) first.1).0

pub root_folder : (r : NodeRow) → is_root_node r ≡ true → r.folder ≡ true
root_folder r h =
    let first : ((r.folder && (length r.name == 0)) ≡ true) × (((r.parent == 0) && (r.length == 0)) ≡ true) = both _ _ (both _ _ h).0 in
    (both r.folder (length r.name == 0) first.0).0

-- of two children of one name in one folder the test says that they are one
only_one : (same child : Bool) → (same || not child) ≡ true → child ≡ true → same ≡ true
only_one true child h e = refl
only_one false true h e = cc
only_one false false h e = cc

pub volume_of_tree : (K : Capacity) (nodes : List NodeRow) → is_tree K nodes ≡ true → IsVolume K nodes
volume_of_tree K nodes h =
    let halves : ((is_ascending number nodes && has_row number 0 nodes) ≡ true) × ((list_all (is_sound_node K nodes) nodes && nat_le (name_bytes nodes) K.names) ≡ true) = both _ _ h in
    let heads : (is_ascending number nodes ≡ true) × (has_row number 0 nodes ≡ true) = both _ _ halves.0 in
    let rest : (list_all (is_sound_node K nodes) nodes ≡ true) × (nat_le (name_bytes nodes) K.names ≡ true) = both _ _ halves.1 in
    let sound : (n : ℕ) (r : NodeRow) → node_of nodes n ≡ Some r → is_sound_node K nodes r ≡ true = λ n r f. all_found (is_sound_node K nodes) (λ y. number y == n) nodes r rest.0 f in
    let case : (n : ℕ) (r : NodeRow) → node_of nodes n ≡ Some r → cond (n == 0) (is_root_node r) (is_inner_node nodes r) ≡ true = λ n r f.
    ap (λ k. cond (k == 0) (is_root_node r) (is_inner_node nodes r)) (sym (found_key number n nodes r f)) ∙ (both (nat_lt r.number K.nodes) _ (sound n r f)).1 in
    let root : (r : NodeRow) → node_of nodes 0 ≡ Some r → is_root_node r ≡ true = λ r f. as_root K nodes r (0 == 0) refl (case 0 r f) in
    let inner : (n : ℕ) (r : NodeRow) → node_of nodes n ≡ Some r → (n == 0) ≡ false → Inner nodes r = λ n r f e. inner_parts nodes r (as_inner K nodes r (n == 0) e (case n r f)) in
    record {
      ascending = heads.0;
      has_root = heads.1;
      root = root;
      below = λ n r f. ap (λ k. nat_lt k K.nodes) (sym (found_key number n nodes r f)) ∙ (both (nat_lt r.number K.nodes) _ (sound n r f)).0;
      own = λ n r f e. (inner n r f e).own;
      up = λ n r f. elim (is_or_not (n == 0)) [
        | inl e ↦
            let g = has_found number 0 nodes heads.1 in
            let at : is_root_node r ≡ true = root r (ap (node_of nodes) (sym (eq_is n 0 e)) ∙ f) in
            ap (is_folder nodes) (root_parent r at) ∙ (found_folder nodes 0 g.row g.is ∙ root_folder g.row (root g.row g.is))
        | inr e ↦ (inner n r f e).up
      ];
      rooted = (valid_tree K nodes h).rooted;
      alone = λ n m r s f g i j up same.
          let rn : r.number ≡ n = found_key number n nodes r f in
          let sm : s.number ≡ m = found_key number m nodes s g in
          let test = all_found (λ other. (other.number == r.number) || not (is_child r.parent other && same_name other.name r.name)) (λ y. number y == m) nodes s (inner n r f i).alone g in
          let child : (is_child r.parent s && same_name s.name r.name) ≡ true = both_true _ _ (is_child_test r.parent m s sm j up) same in
          sym sm ∙ (eq_is s.number r.number (only_one (s.number == r.number) _ test child) ∙ rn);
      names = le_is _ _ rest.1;
    }

-- the same the other way
alone_at : (K : Capacity) (nodes : List NodeRow) (r s : NodeRow) → IsVolume K nodes → node_of nodes r.number ≡ Some r → (r.number == 0) ≡ false → node_of nodes s.number ≡ Some s → ((s.number == r.number) || not (is_child r.parent s && same_name s.name r.name)) ≡ true
alone_at K nodes r s v f i g = either (s.number == r.number) (is_child r.parent s && same_name s.name r.name) (λ h.
    let parts : (is_child r.parent s ≡ true) × (same_name s.name r.name ≡ true) = both _ _ h in
    let child : (not (s.number == 0) ≡ true) × ((s.parent == r.parent) ≡ true) = both _ _ parts.0 in
    ap (λ k. k == r.number) (v.alone r.number s.number r s f g i (is_false _ child.0) (eq_is _ _ child.1) parts.1) ∙ eq_same r.number)
  where
    either : (a b : Bool) → (b ≡ true → a ≡ true) → (a || not b) ≡ true
    either true b h = refl
    either false true h = h refl
    either false false h = refl

inner_at : (K : Capacity) (nodes : List NodeRow) (r : NodeRow) → IsVolume K nodes → node_of nodes r.number ≡ Some r → (r.number == 0) ≡ false → is_inner_node nodes r ≡ true
inner_at K nodes r v f i =
    both_true (is_own r) _ (v.own r.number r f i)
    (both_true (is_folder nodes r.parent && is_under nodes 0 r.number) (is_only_one nodes r)
    (both_true (is_folder nodes r.parent) (is_under nodes 0 r.number) (v.up r.number r f) (v.rooted r.number (found_has number r.number nodes r f)))
    (all_pass number (λ other. (other.number == r.number) || not (is_child r.parent other && same_name other.name r.name)) nodes v.ascending (λ s g. alone_at K nodes r s v f i g)))

sound_at : (K : Capacity) (nodes : List NodeRow) (r : NodeRow) → IsVolume K nodes → node_of nodes r.number ≡ Some r → is_sound_node K nodes r ≡ true
sound_at K nodes r v f =
    both_true (nat_lt r.number K.nodes) (cond (r.number == 0) (is_root_node r) (is_inner_node nodes r)) (v.below r.number r f)
    (elim (is_or_not (r.number == 0)) [
      | inl e ↦ ap (λ b. cond b (is_root_node r) (is_inner_node nodes r)) e ∙ v.root r (ap (node_of nodes) (sym (eq_is r.number 0 e)) ∙ f)
      | inr e ↦ ap (λ b. cond b (is_root_node r) (is_inner_node nodes r)) e ∙ inner_at K nodes r v f e
    ])

pub tree_of_volume : (K : Capacity) (nodes : List NodeRow) → IsVolume K nodes → is_tree K nodes ≡ true
tree_of_volume K nodes v =
    both_true (is_ascending number nodes && has_row number 0 nodes) _
    (both_true (is_ascending number nodes) (has_row number 0 nodes) v.ascending v.has_root)
    (both_true (list_all (is_sound_node K nodes) nodes) (nat_le (name_bytes nodes) K.names)
    (all_pass number (is_sound_node K nodes) nodes v.ascending (λ r f. sound_at K nodes r v f))
    (le_test _ _ v.names))
