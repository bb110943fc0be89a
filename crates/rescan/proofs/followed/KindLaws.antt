-- A change of one node that keeps its place and its kind: of the way up, and of what is unvisited, nothing changes.
use Rattle.std.proofs.Common.{◌≡◌, ℕ, ◌+◌, ◌==◌, Bool, true, false, cond, not, ◌&&◌, List, [], ◌∷◌, refl, sym, ◌∙◌, ap, arith, Some}
use Rattle.std.specs.Prelude.{map, filter, sum_by, if◌then◌else◌}
use Rattle.std.specs.List.{list_any}
use Rattle.fsrm_model.specs.declared.row.Capacity.{Capacity}
use Rattle.fsrm_model.specs.declared.row.NodeRow.{NodeRow}
use Rattle.fsrm_base.specs.Keyed.{has_row, with_change}
use Rattle.fsrm_base.specs.Numbers.{is_in}
use Rattle.fsrm_model.specs.objects.Scan.{counted}
use Rattle.fsrm_model.specs.values.Space.{alloc, space}
use Rattle.fsrm_model.specs.nodes.Tree.{number, node_of, parent_of, is_folder, is_under}
use Rattle.fsrm_model.specs.store.Valid.{IsVolume}
use Rattle.fsrm_model.proofs.nodes.ChangeLaws.{KeepsPlace, parent_of-change, chain-change}
use Rattle.fsrm_base.proofs.EditedRows.{sum_by-with_change}
use Rattle.fsrm_model.proofs.nodes.ChainLaws.{IsTree}
use Rattle.fsrm_model.proofs.nodes.Keeps.{folder-change, cond_same}
use Rattle.fsrm_base.proofs.Look.{has_row-change}
use Rattle.fsrm_base.proofs.Sums.{sum_by-map, sum_by_each}
use Rattle.rescan.specs.Frontiers.{Front, scanned, has_above, unvisited}
use Rattle.rescan.specs.Tops.{AreTops}
use Rattle.rescan.proofs.counted.CountLaws.{is_counted, part, counted_is}

-- a change that keeps number, parent and kind
pub record KeepsKind (c : NodeRow → NodeRow) : Type 0 where
  pub same_number : (r : NodeRow) → (c r).number ≡ r.number
  pub same_parent : (r : NodeRow) → (c r).parent ≡ r.parent
  pub same_folder : (r : NodeRow) → (c r).folder ≡ r.folder

pub place_of : (c : NodeRow → NodeRow) → KeepsKind c → KeepsPlace c
place_of c k = record { same_number = k.same_number; same_parent = k.same_parent }

-- the way up, and which nodes are folders
pub kind_folder : (n : ℕ) (c : NodeRow → NodeRow) → KeepsKind c → (nodes : List NodeRow) (m : ℕ) → is_folder (with_change number n c nodes) m ≡ is_folder nodes m
kind_folder n c k nodes m = folder-change nodes n m c k.same_number k.same_folder

pub kind_under : (n : ℕ) (c : NodeRow → NodeRow) → KeepsKind c → (nodes : List NodeRow) (f m : ℕ) → is_under (with_change number n c nodes) f m ≡ is_under nodes f m
kind_under n c k nodes f m = ap (λ ns. list_any (λ (j : ℕ). j == f) ns) (chain-change n c (place_of c k) nodes m)

pub kind_above : (n : ℕ) (c : NodeRow → NodeRow) → KeepsKind c → (nodes : List NodeRow) (tops : List ℕ) (m : ℕ) → has_above (with_change number n c nodes) tops m ≡ has_above nodes tops m
kind_above n c k nodes tops m = ap (list_any (is_in tops)) (chain-change n c (place_of c k) nodes m)

-- what is unvisited
pub kept_at : {X : Type 0} (key : X → ℕ) (x y : X) (xs ys : List X) (b : Bool) → key y ≡ key x → map key ys ≡ map key xs → map key (cond b (y ∷ ys) ys) ≡ map key (cond b (x ∷ xs) xs)
kept_at key x y xs ys true h e = ap (λ k. k ∷ map key ys) h ∙ ap (λ ks. key x ∷ ks) e
kept_at key x y xs ys false h e = e

pub numbers_kept : {X : Type 0} (key : X → ℕ) (p q : X → Bool) (g : X → X) → ((x : X) → q (g x) ≡ p x) → ((x : X) → key (g x) ≡ key x) → (xs : List X) → map key (filter q (map g xs)) ≡ map key (filter p xs)
numbers_kept key p q g h k [] = refl
numbers_kept {X} key p q g h k (x ∷ xs) =
    ap (λ b. map key (cond b (g x ∷ filter q (map g xs)) (filter q (map g xs)))) (h x)
    ∙ kept_at key x (g x) (filter p xs) (filter q (map g xs)) (p x) (k x) (numbers_kept key p q g h k xs)

pub kind_unvisited : (n : ℕ) (c : NodeRow → NodeRow) → KeepsKind c → (nodes : List NodeRow) (f : Front) → unvisited (with_change number n c nodes) f ≡ unvisited nodes f
kind_unvisited n c k nodes f =
    let new = with_change number n c nodes in
    let g : NodeRow → NodeRow = λ r. if number r == n then c r else r in
    let p : NodeRow → Bool = λ r. r.folder && has_above nodes f.tops r.number in
    let q : NodeRow → Bool = λ r. r.folder && has_above new f.tops r.number in
    numbers_kept number p q g
    (λ r.
    ap (λ b. b && has_above new f.tops (g r).number) (cond_same (λ y. y.folder) c k.same_folder (number r == n) r)
    ∙ (ap (λ m. r.folder && has_above new f.tops m) (cond_same (λ y. y.number) c k.same_number (number r == n) r)
    ∙ ap (λ b. r.folder && b) (kind_above n c k nodes f.tops r.number)))
    (λ r. cond_same (λ y. y.number) c k.same_number (number r == n) r)
    nodes

-- the topmost unvisited folders, over nodes with the same folders and ways up
pub same_tops : (old new : List NodeRow) (f : Front) → ((m : ℕ) → is_folder new m ≡ is_folder old m) → ((a m : ℕ) → is_under new a m ≡ is_under old a m) → AreTops old f → AreTops new f
same_tops old new f folders up t = record {
  active = t.active;
  folder = folders (scanned f) ∙ t.folder;
  ascending = t.ascending;
  folders = λ n h. folders n ∙ t.folders n h;
  below = λ n h. up (scanned f) n ∙ t.below n h;
  apart = λ n m h g u. t.apart n m h g (sym (up m n) ∙ u);
}

pub kind_tops : (n : ℕ) (c : NodeRow → NodeRow) → KeepsKind c → (nodes : List NodeRow) (f : Front) → AreTops nodes f → AreTops (with_change number n c nodes) f
kind_tops n c k nodes f t = same_tops nodes (with_change number n c nodes) f (kind_folder n c k nodes) (kind_under n c k nodes) t

pub kind_tops_back : (n : ℕ) (c : NodeRow → NodeRow) → KeepsKind c → (nodes : List NodeRow) (f : Front) → AreTops (with_change number n c nodes) f → AreTops nodes f
kind_tops_back n c k nodes f t =
    same_tops (with_change number n c nodes) nodes f (λ m. sym (kind_folder n c k nodes m)) (λ a m. sym (kind_under n c k nodes a m)) t

-- what is counted goes by the changed node's part
pub kind_is_counted : (n : ℕ) (c : NodeRow → NodeRow) → KeepsKind c → (nodes : List NodeRow) (f : Front) (m : ℕ) → is_counted (with_change number n c nodes) f m ≡ is_counted nodes f m
kind_is_counted n c k nodes f m =
    let new = with_change number n c nodes in
    ap (λ b. b && not (has_above new f.tops m)) (kind_under n c k nodes (scanned f) m) ∙ ap (λ b. is_under nodes (scanned f) m && not b) (kind_above n c k nodes f.tops m)

pub kind_parts : (K : Capacity) (n : ℕ) (c : NodeRow → NodeRow) → KeepsKind c → (nodes : List NodeRow) (f : Front) (rows : List NodeRow) → sum_by (part K (with_change number n c nodes) f) rows ≡ sum_by (part K nodes f) rows
kind_parts K n c k nodes f rows =
    sum_by_each (part K (with_change number n c nodes) f) (part K nodes f) (λ r. ap (λ b. cond b (space K r) 0) (kind_is_counted n c k nodes f r.parent)) rows

pub kind_counted : (K : Capacity) (n : ℕ) (c : NodeRow → NodeRow) → KeepsKind c → (nodes : List NodeRow) (f : Front) (row : NodeRow) → IsVolume K nodes → IsVolume K (with_change number n c nodes) → node_of nodes n ≡ Some row → counted K (with_change number n c nodes) (scanned f) (unvisited (with_change number n c nodes) f) + part K nodes f row ≡ counted K nodes (scanned f) (unvisited nodes f) + part K nodes f (c row)
kind_counted K n c k nodes f row v w found =
    let new = with_change number n c nodes in
    omega (arith, counted_is K new w f, counted_is K nodes v f, kind_parts K n c k nodes f new, sum_by-with_change number (part K nodes f) n c row nodes v.ascending found)

-- if each node keeps its length, the same is counted
pub kind_counted_same : (K : Capacity) (n : ℕ) (c : NodeRow → NodeRow) → KeepsKind c → ((r : NodeRow) → (c r).length ≡ r.length) → (nodes : List NodeRow) (f : Front) → IsVolume K nodes → IsVolume K (with_change number n c nodes) → counted K (with_change number n c nodes) (scanned f) (unvisited (with_change number n c nodes) f) ≡ counted K nodes (scanned f) (unvisited nodes f)
kind_counted_same K n c k l nodes f v w =
    let new = with_change number n c nodes in
    let g : NodeRow → NodeRow = λ r. if number r == n then c r else r in
    let own : (r : NodeRow) → part K nodes f (c r) ≡ part K nodes f r = λ r.
    ap (λ p. cond (is_counted nodes f p) (space K (c r)) 0) (k.same_parent r)
    ∙ (ap (λ b. cond (is_counted nodes f r.parent) (cond b 0 (alloc K (c r).length)) 0) (k.same_folder r)
    ∙ ap (λ j. cond (is_counted nodes f r.parent) (cond r.folder 0 (alloc K j)) 0) (l r)) in
    counted_is K new w f
    ∙ (kind_parts K n c k nodes f new
    ∙ (sum_by-map (part K nodes f) g nodes
    ∙ (sum_by_each (λ r. part K nodes f (g r)) (part K nodes f) (λ r. cond_same (part K nodes f) c own (number r == n) r) nodes
    ∙ sym (counted_is K nodes v f))))

-- the nodes before the change are a tree if those after it are one
pub kind_tree_back : (n : ℕ) (c : NodeRow → NodeRow) → KeepsKind c → (nodes : List NodeRow) → IsTree (with_change number n c nodes) → IsTree nodes
kind_tree_back n c k nodes t =
    let new = with_change number n c nodes in
    let same : (m : ℕ) → has_row number m new ≡ has_row number m nodes = λ m. has_row-change number n c k.same_number m nodes in
    record {
      root = sym (same 0) ∙ t.root;
      closed = λ m h. sym (same (parent_of nodes m)) ∙ (ap (λ j. has_row number j new) (sym (parent_of-change n c (place_of c k) nodes m)) ∙ t.closed m (same m ∙ h));
      rooted = λ m h. ap (λ ns. is_in ns 0) (sym (chain-change n c (place_of c k) nodes m)) ∙ t.rooted m (same m ∙ h);
    }
