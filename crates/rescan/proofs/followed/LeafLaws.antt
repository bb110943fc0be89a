-- A node without children comes or goes: of the other nodes' ways up nothing changes.
use Rattle.std.proofs.Common.{◌≡◌, ℕ, suc, ◌+◌, ◌==◌, Bool, true, false, cond, not, ◌||◌, ◌&&◌, inl, inr, List, [], ◌∷◌, length, refl, sym, ◌∙◌, ap, subst, arith, Some}
use Rattle.std.specs.Option.{option_map_or}
use Rattle.std.specs.List.{AllByRecursion, list_any}
use Rattle.fsrm_model.specs.declared.row.Capacity.{Capacity}
use Rattle.fsrm_model.specs.declared.row.NodeRow.{NodeRow}
use Rattle.fsrm_base.specs.Keyed.{without_row}
use Rattle.fsrm_base.specs.Numbers.{is_in, without_number}
use Rattle.fsrm_model.specs.objects.Scan.{counted, unvisited_with}
use Rattle.fsrm_model.specs.values.Space.{space}
use Rattle.fsrm_model.specs.nodes.Tree.{number, node_of, parent_of, is_folder, is_child, chain, is_under}
use Rattle.fsrm_model.specs.store.Valid.{IsVolume}
use Rattle.fsrm_base.proofs.TestLaws.{is_or_not, clash, not_true, neither, eq_is, eq_turned, not_zero}
use Rattle.fsrm_model.proofs.valid.ValidLaws.{folder_has, found_parent}
use Rattle.fsrm_model.proofs.nodes.ChainLaws.{Has, chain_lacks}
use Rattle.fsrm_base.proofs.EditedRows.{sum_by_same, sum_by-without_row}
use Rattle.fsrm_model.proofs.nodes.Climbs.{climb, under_own}
use Rattle.fsrm_model.proofs.nodes.Keeps.{MayGo, removes_of, tree_of, zero_apart, found_folder, as_suc}
use Rattle.fsrm_base.proofs.Look.{found_has, found_key, row_of-without, has_row-without}
use Rattle.fsrm_base.proofs.Members.{none_passes}
use Rattle.fsrm_model.proofs.nodes.RemoveLaws.{removed_chain}
use Rattle.fsrm_model.proofs.nodes.UsageLaws.{parent_lacks}
use Rattle.fsrm_model.proofs.valid.UnvisitedKept.{in_new, set_new}
use Rattle.fsrm_base.proofs.NumberLaws.{in_without, set_without, same_set}
use Rattle.rescan.specs.Frontiers.{Front, scanned, has_above, unvisited}
use Rattle.rescan.specs.Tops.{AreTops}
use Rattle.rescan.proofs.counted.CountLaws.{is_counted, part, counted_is}
use Rattle.rescan.proofs.unvisited.Tops.{in_unvisited, set_unvisited}
use Rattle.fsrm_base.proofs.RowLaws.{each_found}

-- a node that is there, and without which the others are a volume too
pub record IsLeaf (K : Capacity) (nodes : List NodeRow) (n : ℕ) (row : NodeRow) : Type 0 where
  pub whole : IsVolume K nodes
  pub rest : IsVolume K (without_row number n nodes)
  pub found : node_of nodes n ≡ Some row

pub leaf_inner : (K : Capacity) (nodes : List NodeRow) (n : ℕ) (row : NodeRow) → IsLeaf K nodes n row → (n == 0) ≡ false
leaf_inner K nodes n row l = zero_apart (without_row number n nodes) n l.rest.has_root (has_row-without number n nodes)

-- no node stands in it
own_parent : (nodes : List NodeRow) (n : ℕ) → (K : Capacity) → IsVolume K nodes → (n == 0) ≡ false → Has nodes n → (parent_of nodes n == n) ≡ false
own_parent nodes n K v inner h =
    let s = as_suc n inner in
    let has : Has nodes (suc s.0) = subst (Has nodes) s.1 h in
    not_true _ (λ t.
    let up : parent_of nodes (suc s.0) ≡ suc s.0 = ap (parent_of nodes) (sym s.1) ∙ (eq_is _ _ t ∙ s.1) in
    clash _ (ap (is_under nodes (suc s.0)) up ∙ under_own nodes (suc s.0)) (parent_lacks nodes (tree_of K nodes v) s.0 has))

no_parent : (K : Capacity) (nodes : List NodeRow) (n : ℕ) (row : NodeRow) → IsLeaf K nodes n row → (r : NodeRow) → node_of nodes r.number ≡ Some r → (r.parent == n) ≡ false
no_parent K nodes n row l r own =
    elim (is_or_not (r.number == n)) [
      | inl e ↦
          let is : r.number ≡ n = eq_is _ _ e in
          let at : node_of nodes n ≡ Some r = ap (node_of nodes) (sym is) ∙ own in
          ap (λ p. p == n) (sym (found_parent nodes n r at)) ∙ own_parent nodes n K l.whole (leaf_inner K nodes n row l) (found_has number n nodes r at)
      | inr e ↦
          not_true _ (λ t.
          let up : is_folder (without_row number n nodes) r.parent ≡ true = l.rest.up r.number r (row_of-without number n r.number nodes e ∙ own) in
          clash _ (subst (Has (without_row number n nodes)) (eq_is _ _ t) (folder_has (without_row number n nodes) r.parent up)) (has_row-without number n nodes))
    ]

leaf_goes : (K : Capacity) (nodes : List NodeRow) (n : ℕ) (row : NodeRow) → IsLeaf K nodes n row → MayGo nodes n
leaf_goes K nodes n row l =
    record {
      inner = leaf_inner K nodes n row l;
      row = row;
      found = l.found;
      leaf = none_passes number (is_child n) nodes l.whole.ascending (λ r own. rw (no_parent K nodes n row l r own) (never (not (r.number == 0))));
    }
  where
    never : (b : Bool) → (b && false) ≡ false
    never true = refl
    never false = refl

-- the others' ways up, and which of them are folders
pub rest_chain : (K : Capacity) (nodes : List NodeRow) (n : ℕ) (row : NodeRow) → IsLeaf K nodes n row → (m : ℕ) → Has (without_row number n nodes) m → chain (without_row number n nodes) m ≡ chain nodes m
rest_chain K nodes n row l m h = removed_chain nodes (without_row number n nodes) n (removes_of K nodes n l.whole (leaf_goes K nodes n row l)) m h

pub rest_folder : (nodes : List NodeRow) (n m : ℕ) → (m == n) ≡ false → is_folder (without_row number n nodes) m ≡ is_folder nodes m
rest_folder nodes n m h = ap (λ o. option_map_or (λ node. node.folder) o false) (row_of-without number n m nodes h)

pub gone_folder : (nodes : List NodeRow) (n : ℕ) → is_folder (without_row number n nodes) n ≡ false
gone_folder nodes n = not_true _ (λ t. clash _ (folder_has (without_row number n nodes) n t) (has_row-without number n nodes))

pub rest_other : (nodes : List NodeRow) (n m : ℕ) → is_folder (without_row number n nodes) m ≡ true → (m == n) ≡ false
rest_other nodes n m h = not_true _ (λ t. clash _ (subst (λ j. is_folder (without_row number n nodes) j ≡ true) (eq_is m n t) h) (gone_folder nodes n))

pub rest_under : (K : Capacity) (nodes : List NodeRow) (n : ℕ) (row : NodeRow) → IsLeaf K nodes n row → (f m : ℕ) → Has (without_row number n nodes) m → is_under (without_row number n nodes) f m ≡ is_under nodes f m
rest_under K nodes n row l f m h = ap (λ ns. list_any (λ (j : ℕ). j == f) ns) (rest_chain K nodes n row l m h)

pub rest_above : (K : Capacity) (nodes : List NodeRow) (n : ℕ) (row : NodeRow) → IsLeaf K nodes n row → (tops : List ℕ) (m : ℕ) → Has (without_row number n nodes) m → has_above (without_row number n nodes) tops m ≡ has_above nodes tops m
rest_above K nodes n row l tops m h = ap (list_any (is_in tops)) (rest_chain K nodes n row l m h)

-- its own way up is itself and its parent's
pub own_above : (K : Capacity) (nodes : List NodeRow) (n : ℕ) (row : NodeRow) → IsLeaf K nodes n row → (tops : List ℕ) → has_above nodes tops n ≡ (is_in tops n || has_above nodes tops row.parent)
own_above K nodes n row l tops =
    ap (list_any (is_in tops)) (climb nodes (tree_of K nodes l.whole) n (found_has number n nodes row l.found) (not_zero n (leaf_inner K nodes n row l)))
    ∙ ap (λ p. is_in tops n || has_above nodes tops p) (found_parent nodes n row l.found)

pub own_parent_folder : (K : Capacity) (nodes : List NodeRow) (n : ℕ) (row : NodeRow) → IsLeaf K nodes n row → is_folder (without_row number n nodes) row.parent ≡ true
own_parent_folder K nodes n row l =
    let own : node_of nodes row.number ≡ Some row = ap (node_of nodes) (found_key number n nodes row l.found) ∙ l.found in
    rest_folder nodes n row.parent (no_parent K nodes n row l row own) ∙ l.whole.up n row l.found

-- the node that comes is no top, and leaves the tops as they are
pub tops_with : (K : Capacity) (nodes : List NodeRow) (n : ℕ) (row : NodeRow) → IsLeaf K nodes n row → (f : Front) → AreTops (without_row number n nodes) f → AreTops nodes f
tops_with K nodes n row l f t =
    let old = without_row number n nodes in
    let was : (m : ℕ) → is_folder old m ≡ true → is_folder nodes m ≡ true = λ m h. sym (rest_folder nodes n m (rest_other nodes n m h)) ∙ h in
    record {
      active = t.active;
      folder = was (scanned f) t.folder;
      ascending = t.ascending;
      folders = λ m h. was m (t.folders m h);
      below = λ m h. sym (rest_under K nodes n row l (scanned f) m (folder_has old m (t.folders m h))) ∙ t.below m h;
      apart = λ m k h g u. t.apart m k h g (rest_under K nodes n row l k m (folder_has old m (t.folders m h)) ∙ u);
    }

-- the node that goes isn't the scanned folder, and no top any longer
pub tops_without : (K : Capacity) (nodes : List NodeRow) (n : ℕ) (row : NodeRow) → IsLeaf K nodes n row → (f : Front) → (n == scanned f) ≡ false → AreTops nodes f → AreTops (without_row number n nodes) (record f { tops = without_number n f.tops })
tops_without K nodes n row l f other t =
    let old = without_row number n nodes in
    let parts : (m : ℕ) → is_in (without_number n f.tops) m ≡ true → ((m == n) ≡ false) × (is_in f.tops m ≡ true) = λ m h. member_parts n m f.tops (sym (in_without n m f.tops) ∙ h) in
    let stays : (m : ℕ) → is_in (without_number n f.tops) m ≡ true → is_folder old m ≡ true = λ m h. rest_folder nodes n m (parts m h).0 ∙ t.folders m (parts m h).1 in
    record {
      active = t.active;
      folder = rest_folder nodes n (scanned f) (eq_turned n (scanned f) other) ∙ t.folder;
      ascending = set_without n f.tops t.ascending;
      folders = stays;
      below = λ m h. rest_under K nodes n row l (scanned f) m (folder_has old m (stays m h)) ∙ t.below m (parts m h).1;
      apart = λ m k h g u. t.apart m k (parts m h).1 (parts k g).1 (sym (rest_under K nodes n row l k m (folder_has old m (stays m h))) ∙ u);
    }
  where
    member_parts : (n m : ℕ) (tops : List ℕ) → (not (n == m) && is_in tops m) ≡ true → ((m == n) ≡ false) × (is_in tops m ≡ true)
    member_parts n m tops h = at (n == m) refl h
      where
        at : (b : Bool) → (n == m) ≡ b → (not b && is_in tops m) ≡ true → ((m == n) ≡ false) × (is_in tops m ≡ true)
        at true e h = cc
        at false e h = (eq_turned n m e, h)

-- whether the files in a folder are counted
rest_counted : (K : Capacity) (nodes : List NodeRow) (n : ℕ) (row : NodeRow) → IsLeaf K nodes n row → (f : Front) (m : ℕ) → Has (without_row number n nodes) m → is_counted (without_row number n nodes) f m ≡ is_counted nodes f m
rest_counted K nodes n row l f m h =
    let old = without_row number n nodes in
    ap (λ b. b && not (has_above old f.tops m)) (rest_under K nodes n row l (scanned f) m h) ∙ ap (λ b. is_under nodes (scanned f) m && not b) (rest_above K nodes n row l f.tops m h)

-- a number that isn't on the way up may be a top or not
above_without : (n : ℕ) (tops ns : List ℕ) → is_in ns n ≡ false → list_any (is_in (without_number n tops)) ns ≡ list_any (is_in tops) ns
above_without n tops [] h = refl
above_without n tops (m ∷ ns) h =
    let parts : ((m == n) ≡ false) × (is_in ns n ≡ false) = neither _ _ h in
    ap (λ b. b || list_any (is_in (without_number n tops)) ns) (in_without n m tops ∙ ap (λ b. not b && is_in tops m) (eq_turned m n parts.0))
    ∙ ap (λ b. is_in tops m || b) (above_without n tops ns parts.1)

pub rest_above_without : (K : Capacity) (nodes : List NodeRow) (n : ℕ) (row : NodeRow) → IsLeaf K nodes n row → (tops : List ℕ) (m : ℕ) → Has (without_row number n nodes) m → has_above (without_row number n nodes) (without_number n tops) m ≡ has_above nodes tops m
rest_above_without K nodes n row l tops m h =
    let old = without_row number n nodes in
    above_without n tops (chain old m) (chain_lacks old (tree_of K old l.rest) (length old) m n h (has_row-without number n nodes)) ∙ rest_above K nodes n row l tops m h

rest_counted_without : (K : Capacity) (nodes : List NodeRow) (n : ℕ) (row : NodeRow) → IsLeaf K nodes n row → (f : Front) (m : ℕ) → Has (without_row number n nodes) m → is_counted (without_row number n nodes) (record f { tops = without_number n f.tops }) m ≡ is_counted nodes f m
rest_counted_without K nodes n row l f m h =
    let old = without_row number n nodes in
    ap (λ b. b && not (has_above old (without_number n f.tops) m)) (rest_under K nodes n row l (scanned f) m h)
    ∙ ap (λ b. is_under nodes (scanned f) m && not b) (rest_above_without K nodes n row l f.tops m h)

-- what is counted over the other nodes, and the node's part
rest_sum : (K : Capacity) (nodes : List NodeRow) (n : ℕ) (row : NodeRow) → IsLeaf K nodes n row → (f g : Front) → ((m : ℕ) → Has (without_row number n nodes) m → is_counted (without_row number n nodes) g m ≡ is_counted nodes f m) → counted K (without_row number n nodes) (scanned g) (unvisited (without_row number n nodes) g) + part K nodes f row ≡ counted K nodes (scanned f) (unvisited nodes f)
rest_sum K nodes n row l f g same =
    let old = without_row number n nodes in
    let parts : AllByRecursion (λ r. part K old g r ≡ part K nodes f r) old =
    each_found number (λ r. part K old g r ≡ part K nodes f r) old l.rest.ascending (λ r own. ap (λ b. cond b (space K r) 0) (same r.parent (folder_has old r.parent (l.rest.up r.number r own)))) in
    omega (arith, counted_is K old l.rest g, counted_is K nodes l.whole f, sum_by_same (part K old g) (part K nodes f) old parts, sum_by-without_row number (part K nodes f) n row nodes l.whole.ascending l.found)

pub counted_with : (K : Capacity) (nodes : List NodeRow) (n : ℕ) (row : NodeRow) → IsLeaf K nodes n row → (f : Front) → counted K (without_row number n nodes) (scanned f) (unvisited (without_row number n nodes) f) + part K nodes f row ≡ counted K nodes (scanned f) (unvisited nodes f)
counted_with K nodes n row l f = rest_sum K nodes n row l f f (rest_counted K nodes n row l f)

pub counted_without : (K : Capacity) (nodes : List NodeRow) (n : ℕ) (row : NodeRow) → IsLeaf K nodes n row → (f : Front) → counted K (without_row number n nodes) (scanned f) (unvisited (without_row number n nodes) (record f { tops = without_number n f.tops })) + part K nodes f row ≡ counted K nodes (scanned f) (unvisited nodes f)
counted_without K nodes n row l f = rest_sum K nodes n row l f (record f { tops = without_number n f.tops }) (rest_counted_without K nodes n row l f)

-- two tests are both met, or not, if the first ones are the same and the second ones are where the first is met
same_both : (a b c d : Bool) → a ≡ b → (b ≡ true → c ≡ d) → (a && c) ≡ (b && d)
same_both true true c d h g = g refl
same_both false false c d h g = refl
same_both true false c d h g = cc
same_both false true c d h g = cc

last_test : (b : Bool) → (b && false) ≡ false
last_test true = refl
last_test false = refl

-- of the node itself
new_own : (K : Capacity) (nodes : List NodeRow) (n : ℕ) (row : NodeRow) → IsLeaf K nodes n row → (f : Front) → AreTops (without_row number n nodes) f → (is_folder nodes n && has_above nodes f.tops n) ≡ (((row.folder && is_in (unvisited (without_row number n nodes) f) row.parent) && true) || is_in (unvisited (without_row number n nodes) f) n)
new_own K nodes n row l f t =
    let old = without_row number n nodes in
    let set = unvisited old f in
    let up : is_folder old row.parent ≡ true = own_parent_folder K nodes n row l in
    let no_top : is_in f.tops n ≡ false = not_true _ (λ h. clash _ (t.folders n h) (gone_folder nodes n)) in
    let parent_in : is_in set row.parent ≡ has_above old f.tops row.parent = in_unvisited K old l.rest f row.parent ∙ ap (λ b. b && has_above old f.tops row.parent) up in
    let own_in : is_in set n ≡ false = in_unvisited K old l.rest f n ∙ ap (λ b. b && has_above old f.tops n) (gone_folder nodes n) in
    let above : has_above nodes f.tops n ≡ is_in set row.parent =
    own_above K nodes n row l f.tops ∙ (ap (λ b. b || has_above nodes f.tops row.parent) no_top ∙ (sym (rest_above K nodes n row l f.tops row.parent (folder_has old row.parent up)) ∙ sym parent_in)) in
    ap (λ b. b && has_above nodes f.tops n) (found_folder nodes n row l.found)
    ∙ (ap (λ b. row.folder && b) above ∙ (alone_test (row.folder && is_in set row.parent) ∙ ap (λ b. ((row.folder && is_in set row.parent) && true) || b) (sym own_in)))
  where
    alone_test : (a : Bool) → a ≡ ((a && true) || false)
    alone_test true = refl
    alone_test false = refl

-- of another node
new_other : (K : Capacity) (nodes : List NodeRow) (n : ℕ) (row : NodeRow) → IsLeaf K nodes n row → (f : Front) (m : ℕ) → (m == n) ≡ false → (is_folder nodes m && has_above nodes f.tops m) ≡ is_in (unvisited (without_row number n nodes) f) m
new_other K nodes n row l f m e =
    let old = without_row number n nodes in
    same_both (is_folder nodes m) (is_folder old m) (has_above nodes f.tops m) (has_above old f.tops m) (sym (rest_folder nodes n m e)) (λ h. sym (rest_above K nodes n row l f.tops m (folder_has old m h)))
    ∙ sym (in_unvisited K old l.rest f m)

new_at : (K : Capacity) (nodes : List NodeRow) (n : ℕ) (row : NodeRow) → IsLeaf K nodes n row → (f : Front) → AreTops (without_row number n nodes) f → (m : ℕ) (b : Bool) → (row.number == m) ≡ b → (is_folder nodes m && has_above nodes f.tops m) ≡ (((row.folder && is_in (unvisited (without_row number n nodes) f) row.parent) && b) || is_in (unvisited (without_row number n nodes) f) m)
new_at K nodes n row l f t m true e =
    let is : n ≡ m = sym (found_key number n nodes row l.found) ∙ eq_is row.number m e in
    subst (λ (j : ℕ). (is_folder nodes j && has_above nodes f.tops j) ≡ (((row.folder && is_in (unvisited (without_row number n nodes) f) row.parent) && true) || is_in (unvisited (without_row number n nodes) f) j)) is (new_own K nodes n row l f t)
new_at K nodes n row l f t m false e =
    let apart : (m == n) ≡ false = eq_turned n m (ap (λ j. j == m) (sym (found_key number n nodes row l.found)) ∙ e) in
    new_other K nodes n row l f m apart
    ∙ ap (λ b. b || is_in (unvisited (without_row number n nodes) f) m) (sym (last_test (row.folder && is_in (unvisited (without_row number n nodes) f) row.parent)))

pub unvisited_new : (K : Capacity) (nodes : List NodeRow) (n : ℕ) (row : NodeRow) → IsLeaf K nodes n row → (f : Front) → AreTops (without_row number n nodes) f → unvisited nodes f ≡ unvisited_with row (unvisited (without_row number n nodes) f)
unvisited_new K nodes n row l f t =
    let old = without_row number n nodes in
    let set = unvisited old f in
    same_set (unvisited nodes f) (unvisited_with row set) (set_unvisited K nodes l.whole f) (set_new row set (set_unvisited K old l.rest f)) (λ m.
    in_unvisited K nodes l.whole f m ∙ (new_at K nodes n row l f t m (row.number == m) refl ∙ sym (in_new row set m)))

-- and without it
gone_at : (K : Capacity) (nodes : List NodeRow) (n : ℕ) (row : NodeRow) → IsLeaf K nodes n row → (f : Front) (m : ℕ) (b : Bool) → (n == m) ≡ b → (is_folder (without_row number n nodes) m && has_above (without_row number n nodes) (without_number n f.tops) m) ≡ (not b && (is_folder nodes m && has_above nodes f.tops m))
gone_at K nodes n row l f m true e =
    let old = without_row number n nodes in
    ap (λ b. b && has_above old (without_number n f.tops) m) (subst (λ (j : ℕ). is_folder old j ≡ false) (eq_is n m e) (gone_folder nodes n))
gone_at K nodes n row l f m false e =
    let old = without_row number n nodes in
    sym (same_both (is_folder nodes m) (is_folder old m) (has_above nodes f.tops m) (has_above old (without_number n f.tops) m) (sym (rest_folder nodes n m (eq_turned n m e))) (λ h. sym (rest_above_without K nodes n row l f.tops m (folder_has old m h))))

pub unvisited_gone : (K : Capacity) (nodes : List NodeRow) (n : ℕ) (row : NodeRow) → IsLeaf K nodes n row → (f : Front) → unvisited (without_row number n nodes) (record f { tops = without_number n f.tops }) ≡ without_number n (unvisited nodes f)
unvisited_gone K nodes n row l f =
    let old = without_row number n nodes in
    let g : Front = record f { tops = without_number n f.tops } in
    same_set (unvisited old g) (without_number n (unvisited nodes f)) (set_unvisited K old l.rest g) (set_without n (unvisited nodes f) (set_unvisited K nodes l.whole f)) (λ m.
    in_unvisited K old l.rest g m ∙ (gone_at K nodes n row l f m (n == m) refl ∙ (ap (λ b. not (n == m) && b) (sym (in_unvisited K nodes l.whole f m)) ∙ sym (in_without n m (unvisited nodes f)))))
