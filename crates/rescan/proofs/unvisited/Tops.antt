-- The topmost unvisited folders say which folders are unvisited.
use Rattle.std.proofs.Common.{◌≡◌, ℕ, zero, suc, ◌==◌, Bool, true, false, not, ◌||◌, ◌&&◌, List, [], ◌∷◌, length, Option, Some, None, refl, sym, ◌∙◌, ap, subst, inl, inr}
use Rattle.std.specs.Prelude.{filter}
use Rattle.std.specs.Option.{option_map_or}
use Rattle.std.specs.List.{list_any}
use Rattle.fsrm_model.specs.declared.row.Capacity.{Capacity}
use Rattle.fsrm_model.specs.declared.row.NodeRow.{NodeRow}
use Rattle.fsrm_base.specs.Numbers.{is_in, is_set}
use Rattle.fsrm_model.specs.objects.Scan.{is_topmost, counted}
use Rattle.fsrm_model.specs.nodes.Tree.{number, node_of, parent_of, is_folder, chain, is_under}
use Rattle.fsrm_model.specs.store.Valid.{IsVolume}
use Rattle.fsrm_base.proofs.TestLaws.{clash, not_true, is_false, both, both_true, is_or, or_later, eq_is, eq_same, not_root, same_tests}
use Rattle.fsrm_model.proofs.valid.ValidLaws.{folder_has, found_parent}
use Rattle.fsrm_model.proofs.nodes.ChainLaws.{IsTree, Has}
use Rattle.fsrm_base.proofs.Look.{found_key, has_found}
use Rattle.fsrm_model.proofs.nodes.Keeps.{tree_of}
use Rattle.fsrm_model.proofs.nodes.MoveLaws.{own_first}
use Rattle.fsrm_model.proofs.nodes.Below.{chain_root}
use Rattle.fsrm_model.proofs.nodes.Climbs.{climb}
pub use Rattle.fsrm_model.proofs.valid.UnvisitedKept.{under_child, under_under}
use Rattle.fsrm_model.proofs.nodes.UsageLaws.{parent_lacks}
use Rattle.fsrm_base.proofs.NumberLaws.{in_filter, set_filter, same_set}
use Rattle.volume_tree.specs.Volume.{Volume}
use Rattle.rescan.specs.Frontiers.{Front, Stands, Suits, scanned, has_above, unvisited}
use Rattle.rescan.specs.Tops.{AreTops}
use Rattle.fsrm_model.proofs.nodes.Numbered.{in_numbers, set_numbers}

-- which folders are unvisited
at_node : (nodes : List NodeRow) (tops : List ℕ) (n : ℕ) (o : Option NodeRow) → node_of nodes n ≡ o → option_map_or (λ node. node.folder && has_above nodes tops node.number) o false ≡ (option_map_or (λ node. node.folder) o false && has_above nodes tops n)
at_node nodes tops n None e = refl
at_node nodes tops n (Some r) e = ap (λ k. r.folder && has_above nodes tops k) (found_key number n nodes r e)

pub in_unvisited : (K : Capacity) (nodes : List NodeRow) → IsVolume K nodes → (f : Front) (n : ℕ) → is_in (unvisited nodes f) n ≡ (is_folder nodes n && has_above nodes f.tops n)
in_unvisited K nodes v f n =
    in_numbers (λ node. node.folder && has_above nodes f.tops node.number) nodes v.ascending n
    ∙ at_node nodes f.tops n (node_of nodes n) refl

pub set_unvisited : (K : Capacity) (nodes : List NodeRow) → IsVolume K nodes → (f : Front) → is_set (unvisited nodes f) ≡ true
set_unvisited K nodes v f = set_numbers (λ node. node.folder && has_above nodes f.tops node.number) nodes v.ascending

-- a top above a node
pub record Above (nodes : List NodeRow) (tops : List ℕ) (n : ℕ) : Type 0 where
  pub top : ℕ
  pub member : is_in tops top ≡ true
  pub above : is_under nodes top n ≡ true

record Met (tops ns : List ℕ) : Type 0 where
  top : ℕ
  member : is_in tops top ≡ true
  met : is_in ns top ≡ true

meets : (tops ns : List ℕ) → list_any (is_in tops) ns ≡ true → Met tops ns
meets tops [] h = cc
meets tops (n ∷ ns) h =
    elim (is_or (is_in tops n) (list_any (is_in tops) ns) h) [
      | inl e ↦ record { top = n; member = e; met = ap (λ b. b || is_in ns n) (eq_same n) }
      | inr r ↦ let m = meets tops ns r in record { top = m.top; member = m.member; met = or_later (n == m.top) (is_in ns m.top) m.met }
    ]

met : (tops ns : List ℕ) (t : ℕ) → is_in tops t ≡ true → is_in ns t ≡ true → list_any (is_in tops) ns ≡ true
met tops [] t m h = cc
met tops (n ∷ ns) t m h =
    elim (is_or (n == t) (is_in ns t) h) [
      | inl e ↦ ap (λ b. b || list_any (is_in tops) ns) (subst (λ k. is_in tops k ≡ true) (sym (eq_is n t e)) m)
      | inr r ↦ or_later (is_in tops n) (list_any (is_in tops) ns) (met tops ns t m r)
    ]

pub above_of : (nodes : List NodeRow) (tops : List ℕ) (n : ℕ) → has_above nodes tops n ≡ true → Above nodes tops n
above_of nodes tops n h = let m = meets tops (chain nodes n) h in record { top = m.top; member = m.member; above = m.met }

pub above_by : (nodes : List NodeRow) (tops : List ℕ) (n t : ℕ) → is_in tops t ≡ true → is_under nodes t n ≡ true → has_above nodes tops n ≡ true
above_by nodes tops n t m h = met tops (chain nodes n) t m h

-- a top is above itself
pub above_own : (nodes : List NodeRow) (tops : List ℕ) (n : ℕ) → is_in tops n ≡ true → has_above nodes tops n ≡ true
above_own nodes tops n m = above_by nodes tops n n m (own_first (length nodes) nodes n)

-- what is above the root, and above a node by what is above its parent
pub above_root : (nodes : List NodeRow) (tops : List ℕ) → has_above nodes tops 0 ≡ is_in tops 0
above_root [] tops = plain (is_in tops 0)
  where
    plain : (b : Bool) → (b || false) ≡ b
    plain true = refl
    plain false = refl
above_root (r ∷ rows) tops = plain (is_in tops 0)
  where
    plain : (b : Bool) → (b || false) ≡ b
    plain true = refl
    plain false = refl

pub above_child : (nodes : List NodeRow) (tops : List ℕ) → IsTree nodes → (n : ℕ) → Has nodes n → (n ≡ 0 → ⊥) → has_above nodes tops n ≡ (is_in tops n || has_above nodes tops (parent_of nodes n))
above_child nodes tops t n h i = ap (list_any (is_in tops)) (climb nodes t n h i)

pub above_below : (nodes : List NodeRow) (tops : List ℕ) → IsTree nodes → (m n : ℕ) → Has nodes m → Has nodes n → is_under nodes m n ≡ true → has_above nodes tops m ≡ true → has_above nodes tops n ≡ true
above_below nodes tops t m n hm hn below h =
    let a = above_of nodes tops m h in
    above_by nodes tops n a.top a.member (under_under nodes t a.top m n hm hn below a.above)

-- a folder's parent is a folder
pub parent_folder : (K : Capacity) (nodes : List NodeRow) → IsVolume K nodes → (n : ℕ) → Has nodes n → is_folder nodes (parent_of nodes n) ≡ true
parent_folder K nodes v n h =
    let f = has_found number n nodes h in
    subst (λ p. is_folder nodes p ≡ true) (sym (found_parent nodes n f.row f.is)) (v.up n f.row f.is)

-- no top is below another
unvisited_by : (K : Capacity) (nodes : List NodeRow) → IsVolume K nodes → (f : Front) (n : ℕ) → is_folder nodes n ≡ true → has_above nodes f.tops n ≡ true → is_in (unvisited nodes f) n ≡ true
unvisited_by K nodes v f n h g = in_unvisited K nodes v f n ∙ both_true (is_folder nodes n) (has_above nodes f.tops n) h g

record Top (nodes : List NodeRow) (f : Front) (n : ℕ) : Type 0 where
  topmost : is_topmost nodes (unvisited nodes f) n ≡ true
  member : is_in (unvisited nodes f) n ≡ true

top_of : (v : Volume) (f : Front) → Stands v f → (n : ℕ) → is_in f.tops n ≡ true → Top v.nodes f n
top_of v f s n h =
    let is = both (is_topmost v.nodes (unvisited v.nodes f) n) (is_in (unvisited v.nodes f) n)
    (sym (in_filter (is_topmost v.nodes (unvisited v.nodes f)) (unvisited v.nodes f) n) ∙ (ap (λ ns. is_in ns n) (sym s.tops) ∙ h)) in
    record { topmost = is.0; member = is.1 }

apart_at : (v : Volume) (f : Front) → Stands v f → (n m : ℕ) → is_in f.tops m ≡ true → Top v.nodes f n → is_under v.nodes m n ≡ true → m ≡ n
apart_at v f s zero m g h below = sym (eq_is 0 m (sym (chain_root v.nodes m) ∙ below))
apart_at v f s (suc n) m g h below =
    let t = tree_of v.size v.nodes s.volume in
    let has = folder_has v.nodes (suc n) (s.are.folders (suc n) h.member) in
    let up = parent_of v.nodes (suc n) in
    elim (is_or (suc n == m) (is_under v.nodes m up) (sym (under_child v.nodes t m (suc n) has suc_not) ∙ below)) [
      | inl e ↦ sym (eq_is (suc n) m e)
      | inr r ↦ absurd (clash (is_in (unvisited v.nodes f) up)
          (unvisited_by v.size v.nodes s.volume f up (parent_folder v.size v.nodes s.volume (suc n) has) (above_by v.nodes f.tops up m g r))
          (is_false (is_in (unvisited v.nodes f) up) (not_root n (not (is_in (unvisited v.nodes f) up)) h.topmost)))
    ]
  where
    suc_not : suc n ≡ 0 → ⊥
    suc_not e = cc

pub tops_of : (v : Volume) (f : Front) → Stands v f → AreTops v.nodes f
tops_of v f s =
    record {
      active = s.active;
      folder = s.folder;
      ascending = ap is_set s.tops ∙ set_filter (is_topmost v.nodes (unvisited v.nodes f)) (unvisited v.nodes f) s.are.ascending;
      folders = λ n h. s.are.folders n (top_of v f s n h).member;
      below = λ n h. s.are.below n (top_of v f s n h).member;
      apart = λ n m h g b. apart_at v f s n m g (top_of v f s n h) b;
    }

-- and back
below_at : (K : Capacity) (nodes : List NodeRow) → IsVolume K nodes → (f : Front) → AreTops nodes f → (n : ℕ) → is_in (unvisited nodes f) n ≡ true → is_under nodes (scanned f) n ≡ true
below_at K nodes v f t n h =
    let is = both (is_folder nodes n) (has_above nodes f.tops n) (sym (in_unvisited K nodes v f n) ∙ h) in
    let a = above_of nodes f.tops n is.1 in
    under_under nodes (tree_of K nodes v) (scanned f) a.top n (folder_has nodes a.top (t.folders a.top a.member)) (folder_has nodes n is.0) a.above (t.below a.top a.member)

closed_at : (K : Capacity) (nodes : List NodeRow) → IsVolume K nodes → (f : Front) (n : ℕ) → is_folder nodes n ≡ true → (n == 0) ≡ false → is_in (unvisited nodes f) (parent_of nodes n) ≡ true → is_in (unvisited nodes f) n ≡ true
closed_at K nodes v f n h i g =
    let is = both (is_folder nodes (parent_of nodes n)) (has_above nodes f.tops (parent_of nodes n)) (sym (in_unvisited K nodes v f (parent_of nodes n)) ∙ g) in
    let inner : n ≡ 0 → ⊥ = λ e. clash (n == 0) (ap (λ k. k == 0) e) i in
    unvisited_by K nodes v f n h
    (above_child nodes f.tops (tree_of K nodes v) n (folder_has nodes n h) inner ∙ or_later (is_in f.tops n) (has_above nodes f.tops (parent_of nodes n)) is.1)

-- a top's parent isn't unvisited, and an unvisited folder whose parent isn't is a top
parent_visited : (K : Capacity) (nodes : List NodeRow) → IsVolume K nodes → (f : Front) → AreTops nodes f → (n : ℕ) → is_in f.tops (suc n) ≡ true → is_in (unvisited nodes f) (parent_of nodes (suc n)) ≡ true → ⊥
parent_visited K nodes v f t n m h =
    let up = parent_of nodes (suc n) in
    let tree = tree_of K nodes v in
    let has = folder_has nodes (suc n) (t.folders (suc n) m) in
    let is = both (is_folder nodes up) (has_above nodes f.tops up) (sym (in_unvisited K nodes v f up) ∙ h) in
    let a = above_of nodes f.tops up is.1 in
    let own : suc n ≡ 0 → ⊥ = λ e. cc in
    let below : is_under nodes a.top (suc n) ≡ true = under_child nodes tree a.top (suc n) has own ∙ or_later (suc n == a.top) (is_under nodes a.top up) a.above in
    let same : a.top ≡ suc n = t.apart (suc n) a.top m a.member below in
    clash (is_under nodes (suc n) up) (subst (λ k. is_under nodes k up ≡ true) same a.above) (parent_lacks nodes tree n has)

topmost_at : (K : Capacity) (nodes : List NodeRow) → IsVolume K nodes → (f : Front) → AreTops nodes f → (n : ℕ) → is_in f.tops n ≡ true → is_topmost nodes (unvisited nodes f) n ≡ true
topmost_at K nodes v f t zero m = refl
topmost_at K nodes v f t (suc n) m =
    or_later (suc n == 0) (not (is_in (unvisited nodes f) (parent_of nodes (suc n))))
    (ap not (not_true (is_in (unvisited nodes f) (parent_of nodes (suc n))) (parent_visited K nodes v f t n m)))

top_by : (K : Capacity) (nodes : List NodeRow) → IsVolume K nodes → (f : Front) (n : ℕ) → is_topmost nodes (unvisited nodes f) n ≡ true → is_folder nodes n ≡ true → has_above nodes f.tops n ≡ true → is_in f.tops n ≡ true
top_by K nodes v f zero m h g = sym (above_root nodes f.tops) ∙ g
top_by K nodes v f (suc n) m h g =
    let up = parent_of nodes (suc n) in
    let has = folder_has nodes (suc n) h in
    let own : suc n ≡ 0 → ⊥ = λ e. cc in
    elim (is_or (is_in f.tops (suc n)) (has_above nodes f.tops up) (sym (above_child nodes f.tops (tree_of K nodes v) (suc n) has own) ∙ g)) [
      | inl e ↦ e
      | inr r ↦ absurd (clash (is_in (unvisited nodes f) up)
          (unvisited_by K nodes v f up (parent_folder K nodes v (suc n) has) r)
          (is_false (is_in (unvisited nodes f) up) (not_root n (not (is_in (unvisited nodes f) up)) m)))
    ]

-- two tests that pass alike

pub tops_are : (K : Capacity) (nodes : List NodeRow) → IsVolume K nodes → (f : Front) → AreTops nodes f → f.tops ≡ filter (is_topmost nodes (unvisited nodes f)) (unvisited nodes f)
tops_are K nodes v f t =
    let U = unvisited nodes f in
    let topmost = is_topmost nodes U in
    same_set f.tops (filter topmost U) t.ascending (set_filter topmost U (set_unvisited K nodes v f)) (λ n.
    same_tests (is_in f.tops n) (is_in (filter topmost U) n)
    (λ m. in_filter topmost U n ∙ both_true (topmost n) (is_in U n) (topmost_at K nodes v f t n m) (unvisited_by K nodes v f n (t.folders n m) (above_own nodes f.tops n m)))
    (λ m.
    let is = both (topmost n) (is_in U n) (sym (in_filter topmost U n) ∙ m) in
    let parts = both (is_folder nodes n) (has_above nodes f.tops n) (sym (in_unvisited K nodes v f n) ∙ is.1) in
    top_by K nodes v f n is.0 parts.0 parts.1))

pub stands_by : (v : Volume) (f : Front) → IsVolume v.size v.nodes → Suits v.size f.room → AreTops v.nodes f → f.sum ≡ counted v.size v.nodes (scanned f) (unvisited v.nodes f) → Stands v f
stands_by v f volume fits t sum =
    record {
      volume = volume;
      fits = fits;
      active = t.active;
      folder = t.folder;
      are = record {
        ascending = set_unvisited v.size v.nodes volume f;
        folders = λ n h. (both (is_folder v.nodes n) (has_above v.nodes f.tops n) (sym (in_unvisited v.size v.nodes volume f n) ∙ h)).0;
        below = below_at v.size v.nodes volume f t;
        closed = closed_at v.size v.nodes volume f;
      };
      tops = tops_are v.size v.nodes volume f t;
      sum = sum;
    }
