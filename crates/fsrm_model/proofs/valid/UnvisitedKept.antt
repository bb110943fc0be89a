-- What is unvisited stays so over visits, and when a node comes, changes, moves or goes.
use Rattle.std.proofs.Common.{◌≡◌, ℕ, zero, suc, ◌==◌, Bool, true, false, cond, not, ◌||◌, ◌&&◌, List, [], ◌∷◌, refl, sym, ◌∙◌, ap, subst, ◌⊎◌, inl, inr, Some, None, Option}
use Rattle.std.specs.Prelude.{map, filter}
use Rattle.std.specs.Option.{option_map_or}
use Rattle.fsrm_model.specs.declared.row.Capacity.{Capacity}
use Rattle.fsrm_model.specs.declared.row.NodeRow.{NodeRow}
use Rattle.fsrm_base.specs.Keyed.{has_row, with_row, with_change, without_row}
use Rattle.fsrm_base.specs.Numbers.{is_in, is_set, with_number, without_number, with_numbers, without_numbers}
use Rattle.fsrm_model.specs.objects.Scan.{AreUnvisited, folders_under, is_topmost, next_visit, visit, visits, unvisited_with, unvisited_moved}
use Rattle.fsrm_model.specs.nodes.Tree.{number, node_of, parent_of, is_folder, chain, is_under}
use Rattle.fsrm_model.specs.store.Valid.{IsVolume}
use Rattle.fsrm_model.proofs.nodes.Below.{above_all, below_moved}
use Rattle.fsrm_model.proofs.nodes.ChainLaws.{IsTree, Has, chain-new, chain-new_other, parent_of-new_same}
use Rattle.fsrm_base.proofs.EditedRows.{find-with_row_same}
use Rattle.fsrm_model.proofs.nodes.ChangeLaws.{parent_of-change, chain-change}
use Rattle.fsrm_model.proofs.nodes.Climbs.{climb, under_own}
use Rattle.fsrm_model.proofs.nodes.Keeps.{KeepsNode, place_of, tree_of, zero_apart, as_suc, found_folder, folder-new, folder-change, MayGo, removes_of}
use Rattle.fsrm_base.proofs.Look.{found_key, found_passes, row_of-new_other, row_of-without, has_row-without}
use Rattle.fsrm_model.proofs.nodes.MoveLaws.{Moves, moved_tree, under_other}
use Rattle.fsrm_base.proofs.NumberLaws.{in_with, in_withs, in_without, in_withouts, set_with, set_withs, set_without, set_withouts}
use Rattle.fsrm_model.proofs.nodes.Numbered.{in_numbers, set_numbers}
use Rattle.fsrm_model.proofs.nodes.RemoveLaws.{removed_chain}
use Rattle.fsrm_base.proofs.TestLaws.{is_or_not, clash, not_true, is_false, both, both_true, is_or, or_later, eq_is, eq_same, eq_turned, not_zero, suc_apart}
use Rattle.fsrm_model.proofs.valid.ValidLaws.{folder_has}

-- what is above a node by what is above its parent
pub under_child : (nodes : List NodeRow) → IsTree nodes → (f n : ℕ) → Has nodes n → (n ≡ 0 → ⊥) → is_under nodes f n ≡ ((n == f) || is_under nodes f (parent_of nodes n))
under_child nodes t f n h i = ap (λ ns. is_in ns f) (climb nodes t n h i)

-- what is above a node that is above another
pub under_under : (nodes : List NodeRow) → IsTree nodes → (x f n : ℕ) → Has nodes f → Has nodes n → is_under nodes f n ≡ true → is_under nodes x f ≡ true → is_under nodes x n ≡ true
under_under nodes t zero f n hf hn below above = t.rooted n hn
under_under nodes t (suc x) f n hf hn below above = above_all nodes t (suc x) f n (suc_apart x) hf hn below above

-- the folders at and below a node
filter_twice : (p q : NodeRow → Bool) (rows : List NodeRow) → filter p (filter q rows) ≡ filter (λ r. q r && p r) rows
filter_twice p q [] = refl
filter_twice p q (r ∷ rows) = at (q r) (p r) refl (filter_twice p q rows)
  where
    at : (b c : Bool) → p r ≡ c → filter p (filter q rows) ≡ filter (λ r. q r && p r) rows → filter p (cond b (r ∷ filter q rows) (filter q rows)) ≡ cond (b && c) (r ∷ filter (λ r. q r && p r) rows) (filter (λ r. q r && p r) rows)
    at true true e h = ap (λ b. cond b (r ∷ filter p (filter q rows)) (filter p (filter q rows))) e ∙ ap (λ rs. r ∷ rs) h
    at true false e h = ap (λ b. cond b (r ∷ filter p (filter q rows)) (filter p (filter q rows))) e ∙ h
    at false c e h = h

folder_at : (nodes : List NodeRow) (x n : ℕ) (o : Option NodeRow) → node_of nodes n ≡ o → option_map_or (λ r. is_under nodes x r.number && r.folder) o false ≡ (option_map_or (λ r. r.folder) o false && is_under nodes x n)
folder_at nodes x n None e = refl
folder_at nodes x n (Some r) e = ap (λ k. is_under nodes x k && r.folder) (found_key number n nodes r e) ∙ turned (is_under nodes x n) r.folder
  where
    turned : (a b : Bool) → (a && b) ≡ (b && a)
    turned true true = refl
    turned true false = refl
    turned false true = refl
    turned false false = refl

pub in_folders : (K : Capacity) (nodes : List NodeRow) (x n : ℕ) → IsVolume K nodes → is_in (folders_under nodes x) n ≡ (is_folder nodes n && is_under nodes x n)
in_folders K nodes x n v =
    ap (λ rows. is_in (map number rows) n) (filter_twice (λ r. r.folder) (λ r. is_under nodes x r.number) nodes)
    ∙ (in_numbers (λ r. is_under nodes x r.number && r.folder) nodes v.ascending n
    ∙ folder_at nodes x n (node_of nodes n) refl)

-- what a scan begins with
set_folders : (K : Capacity) (nodes : List NodeRow) (x : ℕ) → IsVolume K nodes → is_set (folders_under nodes x) ≡ true
set_folders K nodes x v =
    ap (λ rows. is_set (map number rows)) (filter_twice (λ r. r.folder) (λ r. is_under nodes x r.number) nodes)
    ∙ set_numbers (λ r. is_under nodes x r.number && r.folder) nodes v.ascending

pub unvisited_begun : (K : Capacity) (nodes : List NodeRow) (x : ℕ) → IsVolume K nodes → AreUnvisited nodes x (folders_under nodes x)
unvisited_begun K nodes x v =
    let parts : (n : ℕ) → is_in (folders_under nodes x) n ≡ true → (is_folder nodes n ≡ true) × (is_under nodes x n ≡ true) = λ n h. both _ _ (sym (in_folders K nodes x n v) ∙ h) in
    record {
      ascending = set_folders K nodes x v;
      folders = λ n h. (parts n h).0;
      below = λ n h. (parts n h).1;
      closed = λ n is inner up.
          let below : is_under nodes x n ≡ true = under_child nodes (tree_of K nodes v) x n (folder_has nodes n is) (not_zero n inner) ∙ or_later (n == x) _ (parts (parent_of nodes n) up).1 in
          in_folders K nodes x n v ∙ both_true (is_folder nodes n) (is_under nodes x n) is below;
    }

-- after a visit, and after visits
apart_from : (n m : ℕ) (ns : List ℕ) → is_in (without_number n ns) m ≡ true → ((n == m) ≡ false) × (is_in ns m ≡ true)
apart_from n m ns h =
    let parts : (not (n == m) ≡ true) × (is_in ns m ≡ true) = both _ _ (sym (in_without n m ns) ∙ h) in
    (is_false (n == m) parts.0, parts.1)

still_in : (n m : ℕ) (ns : List ℕ) → (n == m) ≡ false → is_in ns m ≡ true → is_in (without_number n ns) m ≡ true
still_in n m ns e h = in_without n m ns ∙ both_true (not (n == m)) (is_in ns m) (ap not e) h

without_topmost : (nodes : List NodeRow) (scanned n : ℕ) (us : List ℕ) → AreUnvisited nodes scanned us → is_topmost nodes us n ≡ true → AreUnvisited nodes scanned (without_number n us)
without_topmost nodes scanned n us a top =
    record {
      ascending = set_without n us a.ascending;
      folders = λ m h. a.folders m (apart_from n m us h).1;
      below = λ m h. a.below m (apart_from n m us h).1;
      closed = λ m is inner up.
          let parent = (apart_from n (parent_of nodes m) us up).1 in
          let other : (n == m) ≡ false = not_true (n == m) (λ e.
          let mine : is_topmost nodes us m ≡ true = subst (λ k. is_topmost nodes us k ≡ true) (eq_is n m e) top in
          elim (is_or (m == 0) (not (is_in us (parent_of nodes m))) mine) [
            | inl z ↦ clash (m == 0) z inner
            | inr o ↦ clash (is_in us (parent_of nodes m)) parent (is_false (is_in us (parent_of nodes m)) o)
          ]) in
          still_in n m us other (a.closed m is inner parent);
    }

pub unvisited_visit : (nodes : List NodeRow) (scanned : ℕ) (us : List ℕ) → AreUnvisited nodes scanned us → AreUnvisited nodes scanned (visit nodes us)
unvisited_visit nodes scanned us a = at (next_visit nodes us) refl
  where
    at : (o : Option ℕ) → next_visit nodes us ≡ o → AreUnvisited nodes scanned (option_map_or (λ n. without_number n us) o us)
    at None e = a
    at (Some n) e = without_topmost nodes scanned n us a (found_passes (is_topmost nodes us) us n e)

pub unvisited_visits : (k : ℕ) (nodes : List NodeRow) (scanned : ℕ) (us : List ℕ) → AreUnvisited nodes scanned us → AreUnvisited nodes scanned (visits k nodes us)
unvisited_visits zero nodes scanned us a = a
unvisited_visits (suc k) nodes scanned us a = unvisited_visits k nodes scanned (visit nodes us) (unvisited_visit nodes scanned us a)

-- if a node changes and keeps its place and kind
pub unvisited-change : (nodes : List NodeRow) (x : ℕ) (c : NodeRow → NodeRow) (scanned : ℕ) (us : List ℕ) → KeepsNode c → AreUnvisited nodes scanned us → AreUnvisited (with_change number x c nodes) scanned us
unvisited-change nodes x c scanned us k a =
    let kind : (n : ℕ) → is_folder (with_change number x c nodes) n ≡ is_folder nodes n = λ n. folder-change nodes x n c k.same_number k.same_folder in
    record {
      ascending = a.ascending;
      folders = λ n h. kind n ∙ a.folders n h;
      below = λ n h. ap (λ ns. is_in ns scanned) (chain-change x c (place_of c k) nodes n) ∙ a.below n h;
      closed = λ n is inner up. a.closed n (sym (kind n) ∙ is) inner (ap (is_in us) (sym (parent_of-change x c (place_of c k) nodes n)) ∙ up);
    }

-- a new node is unvisited if it is a folder and its parent is unvisited
pub in_new : (node : NodeRow) (us : List ℕ) (m : ℕ) → is_in (unvisited_with node us) m ≡ (((node.folder && is_in us node.parent) && (node.number == m)) || is_in us m)
in_new node us m = at (node.folder && is_in us node.parent)
  where
    at : (b : Bool) → is_in (cond b (with_number node.number us) us) m ≡ ((b && (node.number == m)) || is_in us m)
    at true = in_with node.number m us
    at false = refl

pub set_new : (node : NodeRow) (us : List ℕ) → is_set us ≡ true → is_set (unvisited_with node us) ≡ true
set_new node us h = at (node.folder && is_in us node.parent)
  where
    at : (b : Bool) → is_set (cond b (with_number node.number us) us) ≡ true
    at true = set_with node.number us h
    at false = h

pub unvisited-new : (K : Capacity) (nodes : List NodeRow) (node : NodeRow) (scanned : ℕ) (us : List ℕ) → IsVolume K nodes → has_row number node.number nodes ≡ false → is_folder nodes node.parent ≡ true → AreUnvisited nodes scanned us → AreUnvisited (with_row number node nodes) scanned (unvisited_with node us)
unvisited-new K nodes node scanned us v free folder a =
    record {
      ascending = set_new node us a.ascending;
      folders = λ n h. kind n (which n h);
      below = λ n h. below n (which n h);
      closed = λ n is inner up. closed n is inner (which (parent_of new n) up) (is_or_not (node.number == n));
    }
  where
    new : List NodeRow
    new = with_row number node nodes

    t : IsTree nodes
    t = tree_of K nodes v

    other : (n : ℕ) → Has nodes n → (n == node.number) ≡ false
    other n h = not_true _ (λ e. clash _ (subst (Has nodes) (eq_is n node.number e) h) free)

    -- what is unvisited then: the new folder, if its parent is, and what was
    which : (n : ℕ) → is_in (unvisited_with node us) n ≡ true → (((node.folder && is_in us node.parent) && (node.number == n)) ≡ true) ⊎ (is_in us n ≡ true)
    which n h = is_or _ _ (sym (in_new node us n) ∙ h)

    own_found : node_of new node.number ≡ Some node
    own_found = find-with_row_same number (λ r. r.number == node.number) node nodes (eq_same node.number) free

    own_chain : chain new node.number ≡ node.number ∷ chain nodes node.parent
    own_chain = let s = as_suc node.number (zero_apart nodes node.number v.has_root free) in chain-new nodes t node s.0 s.1 free (folder_has nodes node.parent folder)

    kind : (n : ℕ) → (((node.folder && is_in us node.parent) && (node.number == n)) ≡ true) ⊎ (is_in us n ≡ true) → is_folder new n ≡ true
    kind n (inl h) =
        let parts : ((node.folder && is_in us node.parent) ≡ true) × ((node.number == n) ≡ true) = both _ _ h in
        let is : (node.folder ≡ true) × (is_in us node.parent ≡ true) = both _ _ parts.0 in
        subst (λ k. is_folder new k ≡ true) (eq_is node.number n parts.1) (found_folder new node.number node own_found ∙ is.0)
    kind n (inr h) = folder-new nodes node n free (a.folders n h)

    below : (n : ℕ) → (((node.folder && is_in us node.parent) && (node.number == n)) ≡ true) ⊎ (is_in us n ≡ true) → is_under new scanned n ≡ true
    below n (inl h) =
        let parts : ((node.folder && is_in us node.parent) ≡ true) × ((node.number == n) ≡ true) = both _ _ h in
        let is : (node.folder ≡ true) × (is_in us node.parent ≡ true) = both _ _ parts.0 in
        subst (λ k. is_under new scanned k ≡ true) (eq_is node.number n parts.1) (ap (λ ns. is_in ns scanned) own_chain ∙ or_later (node.number == scanned) _ (a.below node.parent is.1))
    below n (inr h) = ap (λ ns. is_in ns scanned) (chain-new_other nodes t node free n (folder_has nodes n (a.folders n h))) ∙ a.below n h

    -- the parent of a node that was there was there
    old_parent : (n : ℕ) → Has nodes n → parent_of new n ≡ parent_of nodes n
    old_parent n h = ap (λ o. option_map_or (λ r. r.parent) o 0) (row_of-new_other number node n nodes (other n h))

    old_kind : (n : ℕ) → (n == node.number) ≡ false → is_folder new n ≡ is_folder nodes n
    old_kind n e = ap (λ o. option_map_or (λ r. r.folder) o false) (row_of-new_other number node n nodes e)

    not_new : (n : ℕ) → Has nodes n → (((node.folder && is_in us node.parent) && (node.number == n)) ≡ true) ⊎ (is_in us n ≡ true) → is_in us n ≡ true
    not_new n h (inl w) = absurd (clash _ (both (node.folder && is_in us node.parent) (node.number == n) w).1 (eq_turned n node.number (other n h)))
    not_new n h (inr w) = w

    closed : (n : ℕ) → is_folder new n ≡ true → (n == 0) ≡ false → (((node.folder && is_in us node.parent) && (node.number == parent_of new n)) ≡ true) ⊎ (is_in us (parent_of new n) ≡ true) → ((node.number == n) ≡ true) ⊎ ((node.number == n) ≡ false) → is_in (unvisited_with node us) n ≡ true
    closed n is inner up (inl e) =
        let mine : node.number ≡ n = eq_is node.number n e in
        let kind : node.folder ≡ true = sym (found_folder new node.number node own_found) ∙ subst (λ k. is_folder new k ≡ true) (sym mine) is in
        let above : parent_of new n ≡ node.parent = ap (parent_of new) (sym mine) ∙ parent_of-new_same nodes node free in
        let has : Has nodes (parent_of new n) = subst (Has nodes) (sym above) (folder_has nodes node.parent folder) in
        let here : is_in us node.parent ≡ true = subst (λ k. is_in us k ≡ true) above (not_new (parent_of new n) has up) in
        in_new node us n ∙ ap (λ b. b || is_in us n) (both_true _ _ (both_true _ _ kind here) e)
    closed n is inner up (inr e) =
        let old : is_folder nodes n ≡ true = sym (old_kind n (eq_turned node.number n e)) ∙ is in
        let has : Has nodes n = folder_has nodes n old in
        let same : parent_of new n ≡ parent_of nodes n = old_parent n has in
        let above : Has nodes (parent_of new n) = subst (Has nodes) (sym same) (t.closed n has) in
        let here : is_in us (parent_of nodes n) ≡ true = subst (λ k. is_in us k ≡ true) same (not_new (parent_of new n) above up) in
        in_new node us n ∙ or_later ((node.folder && is_in us node.parent) && (node.number == n)) (is_in us n) (a.closed n old inner here)

-- if one goes that isn't the scanned folder
pub unvisited-removed : (K : Capacity) (nodes : List NodeRow) (x scanned : ℕ) (us : List ℕ) → IsVolume K nodes → MayGo nodes x → AreUnvisited nodes scanned us → AreUnvisited (without_row number x nodes) scanned (without_number x us)
unvisited-removed K nodes x scanned us v m a =
    record {
      ascending = set_without x us a.ascending;
      folders = λ n h. let p = apart_from x n us h in kind n (eq_turned x n p.0) ∙ a.folders n p.1;
      below = λ n h.
          let p = apart_from x n us h in
          let stays : Has new n = folder_has new n (kind n (eq_turned x n p.0) ∙ a.folders n p.1) in
          ap (λ ns. is_in ns scanned) (removed_chain nodes new x (removes_of K nodes x v m) n stays) ∙ a.below n p.1;
      closed = λ n is inner up.
          let apart : (n == x) ≡ false = not_true _ (λ e. clash _ (subst (λ k. is_folder new k ≡ true) (eq_is n x e) is) (not_true _ (λ f. clash _ (folder_has new x f) (has_row-without number x nodes)))) in
          let old : is_folder nodes n ≡ true = sym (kind n apart) ∙ is in
          let same : parent_of new n ≡ parent_of nodes n = ap (λ o. option_map_or (λ r. r.parent) o 0) (row_of-without number x n nodes apart) in
          let parent = apart_from x (parent_of new n) us up in
          still_in x n us (eq_turned n x apart) (a.closed n old inner (subst (λ k. is_in us k ≡ true) same parent.1));
    }
  where
    new : List NodeRow
    new = without_row number x nodes

    kind : (n : ℕ) → (n == x) ≡ false → is_folder new n ≡ is_folder nodes n
    kind n e = ap (λ o. option_map_or (λ r. r.folder) o false) (row_of-without number x n nodes e)

-- if one moves
pub record MovedScan (K : Capacity) (nodes new : List NodeRow) (x d scanned : ℕ) (us : List ℕ) : Type 0 where
  pub volume : IsVolume K nodes
  pub moves : Moves nodes new x d
  pub kinds : (n : ℕ) → is_folder new n ≡ is_folder nodes n
  pub folder : is_folder nodes scanned ≡ true
  pub are : AreUnvisited nodes scanned us

-- the scanned folder moves with it
moved_with : (K : Capacity) (nodes new : List NodeRow) (x d scanned : ℕ) (us : List ℕ) → MovedScan K nodes new x d scanned us → is_under nodes x scanned ≡ true → AreUnvisited new scanned us
moved_with K nodes new x d scanned us s inside =
    let a = s.are in
    let m = s.moves in
    let has : (n : ℕ) → is_in us n ≡ true → Has nodes n = λ n h. folder_has nodes n (a.folders n h) in
    let here : Has nodes scanned = folder_has nodes scanned s.folder in
    record {
      ascending = a.ascending;
      folders = λ n h. s.kinds n ∙ a.folders n h;
      below = λ n h. below_moved nodes new x d m scanned n here inside (has n h) ∙ a.below n h;
      closed = λ n is inner up.
          let old : is_folder nodes n ≡ true = sym (s.kinds n) ∙ is in
          elim (is_or_not (n == x)) [
            | inl e ↦
                let to : is_in us d ≡ true = subst (λ k. is_in us k ≡ true) (ap (parent_of new) (eq_is n x e) ∙ m.up) up in
                absurd (clash (is_under nodes x d) (under_under nodes m.tree x scanned d here m.has_folder (a.below d to) inside) m.apart)
            | inr e ↦ a.closed n old inner (subst (λ k. is_in us k ≡ true) (m.others n e) up)
          ];
    }

-- a node that isn't at or below the moved one stays where it was, and one that is lies where that is
below_after : (K : Capacity) (nodes new : List NodeRow) (x d scanned : ℕ) (us : List ℕ) → MovedScan K nodes new x d scanned us → (n : ℕ) → Has nodes n → (is_under nodes x n ≡ true → is_under new scanned x ≡ true) → (is_under nodes x n ≡ false → is_under nodes scanned n ≡ true) → is_under new scanned n ≡ true
below_after K nodes new x d scanned us s n h with out =
    let m = s.moves in
    elim (is_or_not (is_under nodes x n)) [
      | inl b ↦
          let tree = moved_tree nodes new x d m in
          let down : is_under new x n ≡ true = below_moved nodes new x d m x n m.has_moved (under_own nodes x) h ∙ b in
          under_under new tree scanned x n (m.numbers x ∙ m.has_moved) (m.numbers n ∙ h) down (with b)
      | inr b ↦ ap (λ ns. is_in ns scanned) (under_other nodes new x d m n b) ∙ out b
    ]

-- a node whose parent isn't at or below the moved one isn't either, but for that one
child_out : (nodes : List NodeRow) → IsTree nodes → (x n : ℕ) → Has nodes n → (n == 0) ≡ false → (n == x) ≡ false → is_under nodes x (parent_of nodes n) ≡ false → is_under nodes x n ≡ false
child_out nodes t x n h inner other out = under_child nodes t x n h (not_zero n inner) ∙ (ap (λ b. b || is_under nodes x (parent_of nodes n)) other ∙ out)

-- it comes to lie outside
moved_out : (K : Capacity) (nodes new : List NodeRow) (x d scanned : ℕ) (us : List ℕ) → MovedScan K nodes new x d scanned us → is_under new scanned x ≡ false → AreUnvisited new scanned (without_numbers (folders_under nodes x) us)
moved_out K nodes new x d scanned us s outside =
    record {
      ascending = set_withouts ws us a.ascending;
      folders = λ n h. s.kinds n ∙ a.folders n (parts n h).1;
      below = λ n h. below_after K nodes new x d scanned us s n (has n (parts n h).1) (λ b. absurd (clash _ b (parts n h).0)) (λ b. a.below n (parts n h).1);
      closed = λ n is inner up. closed n (sym (s.kinds n) ∙ is) inner (parts (parent_of new n) up) (is_or_not (n == x));
    }
  where
    a : AreUnvisited nodes scanned us
    a = s.are

    m : Moves nodes new x d
    m = s.moves

    ws : List ℕ
    ws = folders_under nodes x

    has : (n : ℕ) → is_in us n ≡ true → Has nodes n
    has n h = folder_has nodes n (a.folders n h)

    parts : (n : ℕ) → is_in (without_numbers ws us) n ≡ true → (is_under nodes x n ≡ false) × (is_in us n ≡ true)
    parts n h =
        let p : (not (is_in ws n) ≡ true) × (is_in us n ≡ true) = both _ _ (sym (in_withouts ws us n) ∙ h) in
        let none : is_in ws n ≡ false = is_false (is_in ws n) p.0 in
        (not_true _ (λ b. clash _ (in_folders K nodes x n s.volume ∙ both_true (is_folder nodes n) (is_under nodes x n) (a.folders n p.1) b) none), p.1)

    kept : (n : ℕ) → is_under nodes x n ≡ false → is_in us n ≡ true → is_in (without_numbers ws us) n ≡ true
    kept n out h =
        let none : is_in ws n ≡ false = in_folders K nodes x n s.volume ∙ (ap (λ b. is_folder nodes n && b) out ∙ never (is_folder nodes n)) in
        in_withouts ws us n ∙ both_true (not (is_in ws n)) (is_in us n) (ap not none) h
      where
        never : (b : Bool) → (b && false) ≡ false
        never true = refl
        never false = refl

    closed : (n : ℕ) → is_folder nodes n ≡ true → (n == 0) ≡ false → (is_under nodes x (parent_of new n) ≡ false) × (is_in us (parent_of new n) ≡ true) → ((n == x) ≡ true) ⊎ ((n == x) ≡ false) → is_in (without_numbers ws us) n ≡ true
    closed n is inner up (inl e) =
        let to : is_in us d ≡ true = subst (λ k. is_in us k ≡ true) (ap (parent_of new) (eq_is n x e) ∙ m.up) up.1 in
        let tree = moved_tree nodes new x d m in
        let inside : is_under new scanned d ≡ true = ap (λ ns. is_in ns scanned) (under_other nodes new x d m d m.apart) ∙ a.below d to in
        let down : is_under new scanned x ≡ true = under_child new tree scanned x (m.numbers x ∙ m.has_moved) (not_zero x m.is_inner) ∙ or_later (x == scanned) _ (ap (is_under new scanned) m.up ∙ inside) in
        absurd (clash _ down outside)
    closed n is inner up (inr e) =
        let same : parent_of new n ≡ parent_of nodes n = m.others n e in
        let here : is_in us (parent_of nodes n) ≡ true = subst (λ k. is_in us k ≡ true) same up.1 in
        let out : is_under nodes x (parent_of nodes n) ≡ false = ap (is_under nodes x) (sym same) ∙ up.0 in
        kept n (child_out nodes m.tree x n (folder_has nodes n is) inner e out) (a.closed n is inner here)

-- it comes from outside, or under an unvisited folder
moved_in : (K : Capacity) (nodes new : List NodeRow) (x d scanned : ℕ) (us : List ℕ) → MovedScan K nodes new x d scanned us → is_under new scanned x ≡ true → AreUnvisited new scanned (with_numbers (folders_under nodes x) us)
moved_in K nodes new x d scanned us s inside =
    record {
      ascending = set_withs ws us a.ascending;
      folders = λ n h. s.kinds n ∙ kind n (which n h);
      below = λ n h. below n (which n h);
      closed = λ n is inner up. closed n (sym (s.kinds n) ∙ is) inner (which (parent_of new n) up) (is_or_not (n == x));
    }
  where
    a : AreUnvisited nodes scanned us
    a = s.are

    m : Moves nodes new x d
    m = s.moves

    ws : List ℕ
    ws = folders_under nodes x

    which : (n : ℕ) → is_in (with_numbers ws us) n ≡ true → ((is_folder nodes n && is_under nodes x n) ≡ true) ⊎ (is_in us n ≡ true)
    which n h = elim (is_or _ _ (sym (in_withs ws us n) ∙ h)) [ inl w ↦ inl (sym (in_folders K nodes x n s.volume) ∙ w) | inr u ↦ inr u ]

    kind : (n : ℕ) → ((is_folder nodes n && is_under nodes x n) ≡ true) ⊎ (is_in us n ≡ true) → is_folder nodes n ≡ true
    kind n (inl w) = (both (is_folder nodes n) (is_under nodes x n) w).0
    kind n (inr u) = a.folders n u

    below : (n : ℕ) → ((is_folder nodes n && is_under nodes x n) ≡ true) ⊎ (is_in us n ≡ true) → is_under new scanned n ≡ true
    below n (inl w) =
        let p : (is_folder nodes n ≡ true) × (is_under nodes x n ≡ true) = both _ _ w in
        below_after K nodes new x d scanned us s n (folder_has nodes n p.0) (λ b. inside) (λ b. absurd (clash _ p.1 b))
    below n (inr u) = below_after K nodes new x d scanned us s n (folder_has nodes n (a.folders n u)) (λ b. inside) (λ b. a.below n u)

    among : (n : ℕ) → is_folder nodes n ≡ true → is_under nodes x n ≡ true → is_in (with_numbers ws us) n ≡ true
    among n is b = in_withs ws us n ∙ ap (λ c. c || is_in us n) (in_folders K nodes x n s.volume ∙ both_true (is_folder nodes n) (is_under nodes x n) is b)

    closed : (n : ℕ) → is_folder nodes n ≡ true → (n == 0) ≡ false → ((is_folder nodes (parent_of new n) && is_under nodes x (parent_of new n)) ≡ true) ⊎ (is_in us (parent_of new n) ≡ true) → ((n == x) ≡ true) ⊎ ((n == x) ≡ false) → is_in (with_numbers ws us) n ≡ true
    closed n is inner up (inl e) = among n is (subst (λ k. is_under nodes k n ≡ true) (eq_is n x e) (under_own nodes n))
    closed n is inner (inl w) (inr e) =
        let up : is_under nodes x (parent_of nodes n) ≡ true = ap (is_under nodes x) (sym (m.others n e)) ∙ (both _ _ w).1 in
        among n is (under_child nodes m.tree x n (folder_has nodes n is) (not_zero n inner) ∙ or_later (n == x) _ up)
    closed n is inner (inr u) (inr e) =
        in_withs ws us n ∙ or_later (is_in ws n) (is_in us n) (a.closed n is inner (subst (λ k. is_in us k ≡ true) (m.others n e) u))

-- it stays inside, under a visited folder
moved_inside : (K : Capacity) (nodes new : List NodeRow) (x d scanned : ℕ) (us : List ℕ) → MovedScan K nodes new x d scanned us → is_under new scanned x ≡ true → is_in us d ≡ false → AreUnvisited new scanned us
moved_inside K nodes new x d scanned us s inside visited =
    let a = s.are in
    let m = s.moves in
    record {
      ascending = a.ascending;
      folders = λ n h. s.kinds n ∙ a.folders n h;
      below = λ n h. below_after K nodes new x d scanned us s n (folder_has nodes n (a.folders n h)) (λ b. inside) (λ b. a.below n h);
      closed = λ n is inner up.
          elim (is_or_not (n == x)) [
            | inl e ↦ absurd (clash (is_in us d) (subst (λ k. is_in us k ≡ true) (ap (parent_of new) (eq_is n x e) ∙ m.up) up) visited)
            | inr e ↦ a.closed n (sym (s.kinds n) ∙ is) inner (subst (λ k. is_in us k ≡ true) (m.others n e) up)
          ];
    }

pub unvisited-moved : (K : Capacity) (nodes new : List NodeRow) (x d scanned : ℕ) (us : List ℕ) → MovedScan K nodes new x d scanned us → AreUnvisited new scanned (unvisited_moved nodes new scanned x d us)
unvisited-moved K nodes new x d scanned us s =
    at (is_under nodes x scanned) (is_under new scanned x) (is_in us d) (is_under nodes scanned x) refl refl refl
  where
    at : (a b c e : Bool) → is_under nodes x scanned ≡ a → is_under new scanned x ≡ b → is_in us d ≡ c → AreUnvisited new scanned (cond a us (cond (not b) (without_numbers (folders_under nodes x) us) (cond (c || not e) (with_numbers (folders_under nodes x) us) us)))
    at true b c e h i j = moved_with K nodes new x d scanned us s h
    at false false c e h i j = moved_out K nodes new x d scanned us s i
    at false true true e h i j = moved_in K nodes new x d scanned us s i
    at false true false true h i j = moved_inside K nodes new x d scanned us s i j
    at false true false false h i j = moved_in K nodes new x d scanned us s i
