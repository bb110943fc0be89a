-- A scan goes on over changes of the tree: nodes that come and go, and other lengths and moments.
use Rattle.std.proofs.Common.{◌≡◌, ℕ, ◌≤◌, ◌==◌, Bool, true, false, cond, not, ◌&&◌, inl, inr, List, [], ◌∷◌, length, refl, sym, ◌∙◌, ap, subst, arith, Some, nat_lt}
use Rattle.std.proofs.lemmas.Bool.Decides.{nat_tests}
use Rattle.std.proofs.lemmas.Option.{same_Some}
use Rattle.std.specs.Prelude.{map, nat_le, option_map, if◌then◌else◌}
use Rattle.std.specs.List.{AllByRecursion}
use Rattle.fsrm_model.specs.declared.row.Capacity.{Capacity}
use Rattle.fsrm_model.specs.declared.row.NodeRow.{NodeRow}
use Rattle.fsrm_model.specs.nodes.FileOps.{touched}
use Rattle.fsrm_base.specs.Keyed.{has_row, is_ascending, with_row, with_change, without_row}
use Rattle.fsrm_model.specs.values.Limits.{longest_file}
use Rattle.fsrm_model.specs.values.Name.{is_name}
use Rattle.fsrm_base.specs.Numbers.{without_number}
use Rattle.fsrm_model.specs.objects.Scan.{counted, unvisited_with}
use Rattle.fsrm_model.specs.values.Space.{alloc}
use Rattle.fsrm_model.specs.nodes.Tree.{number, node_of}
use Rattle.fsrm_model.specs.store.Valid.{IsVolume, is_moment, is_own, is_root_node}
use Rattle.fsrm_model.proofs.valid.CapacityLaws.{rounded_none}
use Rattle.fsrm_base.proofs.TestLaws.{is_or_not, both, both_true, clash, eq_is, eq_same, neither, not_true}
use Rattle.fsrm_model.proofs.nodes.Keeps.{volume-change}
use Rattle.fsrm_base.proofs.Look.{found_key, row_of-change}
use Rattle.volume_tree.specs.Volume.{Volume, with_touch, without_node}
use Rattle.rescan.specs.Frontiers.{Front, Stands, Follows, scanned, unvisited, of_length, sized}
use Rattle.rescan.proofs.counted.CountLaws.{is_counted, part}
use Rattle.rescan.proofs.followed.KindLaws.{KeepsKind, kind_tops, kind_unvisited, kind_counted, kind_counted_same}
use Rattle.rescan.proofs.followed.LeafLaws.{IsLeaf, leaf_inner, tops_with, tops_without, counted_with, counted_without, unvisited_new, unvisited_gone}
use Rattle.rescan.proofs.unvisited.Tops.{tops_of, stands_by}
use Rattle.fsrm_base.proofs.EditedRows.{without_absent}
use Rattle.fsrm_base.proofs.RowLaws.{change_same, change_none}
use Rattle.fsrm_model.proofs.valid.ValidVolume.{root_folder}

-- a change of a node that keeps number, parent, kind and length
pub record KeepsShape (c : NodeRow → NodeRow) : Type 0 where
  pub same_number : (r : NodeRow) → (c r).number ≡ r.number
  pub same_parent : (r : NodeRow) → (c r).parent ≡ r.parent
  pub same_folder : (r : NodeRow) → (c r).folder ≡ r.folder
  pub same_length : (r : NodeRow) → (c r).length ≡ r.length

pub kind_of : (c : NodeRow → NodeRow) → KeepsShape c → KeepsKind c
kind_of c k = record { same_number = k.same_number; same_parent = k.same_parent; same_folder = k.same_folder }

-- it leaves a scan as it was
pub alike : (v : Volume) (f : Front) (n : ℕ) (c : NodeRow → NodeRow) → KeepsShape c → Stands v f → IsVolume v.size (with_change number n c v.nodes) → Stands (record v { nodes = with_change number n c v.nodes }) f
alike v f n c k s w =
    let kind = kind_of c k in
    stands_by (record v { nodes = with_change number n c v.nodes }) f w s.fits (kind_tops n c kind v.nodes f (tops_of v f s))
    (s.sum ∙ sym (kind_counted_same v.size n c kind k.same_length v.nodes f s.volume w))

pub alike_unvisited : (v : Volume) (f : Front) (n : ℕ) (c : NodeRow → NodeRow) → KeepsShape c → unvisited (with_change number n c v.nodes) f ≡ unvisited v.nodes f
alike_unvisited v f n c k = kind_unvisited n c (kind_of c k) v.nodes f

-- a file that was read, and a moment that isn't of a scan
pub touched_keeps : (moment : ℕ) → KeepsShape (touched moment)
touched_keeps moment = record { same_number = λ r. refl; same_parent = λ r. refl; same_folder = λ r. refl; same_length = λ r. refl }

abbrev pub stamped : ℕ → NodeRow → NodeRow
stamped moment node = record node { modified = moment }

pub stamped_keeps : (moment : ℕ) → KeepsShape (stamped moment)
stamped_keeps moment = record { same_number = λ r. refl; same_parent = λ r. refl; same_folder = λ r. refl; same_length = λ r. refl }

pub touch_stands : (v : Volume) (f : Front) (n moment : ℕ) → Stands v f → IsVolume v.size (with_touch v n moment).nodes → Stands (with_touch v n moment) f
touch_stands v f n moment s w = alike v f n (touched moment) (touched_keeps moment) s w

-- rows of which one changes: a change goes by its row
map_same : {X : Type 0} (f g : X → X) (rows : List X) → AllByRecursion (λ r. f r ≡ g r) rows → map f rows ≡ map g rows
map_same f g [] h = refl
map_same f g (r ∷ rows) h = ap (λ y. y ∷ map f rows) h.0 ∙ ap (λ ys. g r ∷ ys) (map_same f g rows h.1)

twice_at : {X : Type 0} (key : X → ℕ) (n : ℕ) (c d : X → X) → ((r : X) → key (c r) ≡ key r) → (r : X) (b : Bool) → (key r == n) ≡ b → (if key (cond b (c r) r) == n then d (cond b (c r) r) else cond b (c r) r) ≡ cond b (d (c r)) r
twice_at key n c d k r true e = ap (λ j. cond (j == n) (d (c r)) (c r)) (k r) ∙ ap (λ b. cond b (d (c r)) (c r)) e
twice_at key n c d k r false e = ap (λ b. cond b (d r) r) e

pub change_twice : {X : Type 0} (key : X → ℕ) (n : ℕ) (c d : X → X) → ((r : X) → key (c r) ≡ key r) → (rows : List X) → with_change key n d (with_change key n c rows) ≡ with_change key n (λ r. d (c r)) rows
change_twice key n c d k [] = refl
change_twice key n c d k (r ∷ rows) =
    ap (λ x. x ∷ with_change key n d (with_change key n c rows)) (twice_at key n c d k r (key r == n) refl)
    ∙ ap (λ rs. (if key r == n then d (c r) else r) ∷ rs) (change_twice key n c d k rows)

-- what is changed is found changed, and is gone if its row goes
pub changed_found : (n : ℕ) (c : NodeRow → NodeRow) → ((r : NodeRow) → (c r).number ≡ r.number) → (nodes : List NodeRow) (row : NodeRow) → node_of nodes n ≡ Some row → node_of (with_change number n c nodes) n ≡ Some (c row)
changed_found n c k nodes row found =
    row_of-change number n c k n nodes
    ∙ (ap (option_map (λ r. if number r == n then c r else r)) found
    ∙ ap (λ b. Some (cond b (c row) row)) (ap (λ j. j == n) (found_key number n nodes row found) ∙ eq_same n))

gone_at : {X : Type 0} (key : X → ℕ) (n : ℕ) (c : X → X) → ((r : X) → key (c r) ≡ key r) → (r : X) (xs ys : List X) (b : Bool) → (key r == n) ≡ b → xs ≡ ys → cond (not (key (cond b (c r) r) == n)) (cond b (c r) r ∷ xs) xs ≡ cond (not b) (r ∷ ys) ys
gone_at key n c k r xs ys true e h = ap (λ j. cond (not (j == n)) (c r ∷ xs) xs) (k r) ∙ (ap (λ b. cond (not b) (c r ∷ xs) xs) e ∙ h)
gone_at key n c k r xs ys false e h = ap (λ b. cond (not b) (r ∷ xs) xs) e ∙ ap (λ rs. r ∷ rs) h

change_gone : {X : Type 0} (key : X → ℕ) (n : ℕ) (c : X → X) → ((r : X) → key (c r) ≡ key r) → (rows : List X) → without_row key n (with_change key n c rows) ≡ without_row key n rows
change_gone key n c k [] = refl
change_gone key n c k (r ∷ rows) = gone_at key n c k r (without_row key n (with_change key n c rows)) (without_row key n rows) (key r == n) refl (change_gone key n c k rows)

-- what comes and goes leaves the others

pub made_at : {X : Type 0} (key : X → ℕ) (row r : X) (rows more : List X) (b : Bool) → has_row key (key row) (r ∷ rows) ≡ false → without_row key (key row) more ≡ rows → without_row key (key row) (cond b (row ∷ r ∷ rows) (r ∷ more)) ≡ r ∷ rows
made_at key row r rows more true absent h =
    ap (λ b. cond (not b) (row ∷ without_row key (key row) (r ∷ rows)) (without_row key (key row) (r ∷ rows))) (eq_same (key row)) ∙ without_absent key (key row) (r ∷ rows) absent
made_at key row r rows more false absent h =
    let parts : ((key r == key row) ≡ false) × (has_row key (key row) rows ≡ false) = neither _ _ absent in
    ap (λ b. cond (not b) (r ∷ without_row key (key row) more) (without_row key (key row) more)) parts.0 ∙ ap (λ rs. r ∷ rs) h

pub with_and_without : {X : Type 0} (key : X → ℕ) (row : X) (rows : List X) → has_row key (key row) rows ≡ false → without_row key (key row) (with_row key row rows) ≡ rows
with_and_without key row [] h = ap (λ b. cond (not b) (row ∷ []) []) (eq_same (key row))
with_and_without key row (r ∷ rows) h =
    made_at key row r rows (with_row key row rows) (nat_lt (key row) (key r)) h (with_and_without key row rows (neither (key r == key row) _ h).1)

-- another length
pub length_keeps : (bytes : ℕ) → KeepsKind (of_length bytes)
length_keeps bytes = record { same_number = λ r. refl; same_parent = λ r. refl; same_folder = λ r. refl }

own_sized : (r : NodeRow) (bytes : ℕ) → is_own r ≡ true → nat_le bytes (if r.folder then 0 else longest_file) ≡ true → is_own (of_length bytes r) ≡ true
own_sized r bytes h g =
    let split = both (is_name r.name && nat_lt 0 r.owner) (nat_le r.length (if r.folder then 0 else longest_file) && (is_moment r.created && (is_moment r.modified && is_moment r.accessed))) h in
    let rest = both (nat_le r.length (if r.folder then 0 else longest_file)) (is_moment r.created && (is_moment r.modified && is_moment r.accessed)) split.1 in
    both_true _ _ split.0 (both_true _ _ g rest.1)

pub sized_volume : (K : Capacity) (nodes : List NodeRow) (n bytes : ℕ) (row : NodeRow) → IsVolume K nodes → node_of nodes n ≡ Some row → (n == 0) ≡ false → nat_le bytes (if row.folder then 0 else longest_file) ≡ true → IsVolume K (with_change number n (of_length bytes) nodes)
sized_volume K nodes n bytes row v found inner h =
    volume-change K nodes n (of_length bytes) v (record { same_number = λ r. refl; same_parent = λ r. refl; same_name = λ r. refl; same_folder = λ r. refl }) inner
    (λ r e. own_sized r bytes (v.own n r e inner) (subst (λ (y : NodeRow). nat_le bytes (if y.folder then 0 else longest_file) ≡ true) (same_Some row r (sym found ∙ e)) h))

-- the nodes with a node's own length are the nodes
pub sized_own : (nodes : List NodeRow) (n bytes : ℕ) (row : NodeRow) → is_ascending number nodes ≡ true → node_of nodes n ≡ Some row → row.length ≡ bytes → with_change number n (of_length bytes) nodes ≡ nodes
sized_own nodes n bytes row asc found is =
    change_same number n (of_length bytes) (λ r. r) nodes asc (λ r e.
    subst (λ (j : ℕ). of_length j r ≡ r) (ap (λ (y : NodeRow). y.length) (same_Some r row (sym e ∙ found)) ∙ is) refl)
    ∙ change_none number n nodes

pub own_stands : (v : Volume) (f : Front) (n bytes : ℕ) (row : NodeRow) → Stands v f → node_of v.nodes n ≡ Some row → row.length ≡ bytes → Stands (sized v n bytes) f
own_stands v f n bytes row s found is =
    subst (λ ns. Stands (record v { nodes = ns }) f) (sym (sized_own v.nodes n bytes row s.volume.ascending found is)) s

-- of a length on a length only the last one counts
pub sized_twice : (nodes : List NodeRow) (n a b : ℕ) → with_change number n (of_length b) (with_change number n (of_length a) nodes) ≡ with_change number n (of_length b) nodes
sized_twice nodes n a b = change_twice number n (of_length a) (of_length b) (λ r. refl) nodes

-- files and folders

pub file_inner : (K : Capacity) (nodes : List NodeRow) (n : ℕ) (row : NodeRow) → IsVolume K nodes → node_of nodes n ≡ Some row → row.folder ≡ false → (n == 0) ≡ false
file_inner K nodes n row v found file =
    not_true _ (λ t.
    let root : is_root_node row ≡ true = v.root row (ap (node_of nodes) (sym (eq_is n 0 t)) ∙ found) in
    clash row.folder (root_folder row root) file)

pub root_length : (r : NodeRow) → is_root_node r ≡ true → (r.length == 0) ≡ true
root_length r h = (both (r.parent == 0) (r.length == 0) (both (r.folder && (length r.name == 0)) ((r.parent == 0) && (r.length == 0)) (both _ _ h).0).1).1

pub own_length : (r : NodeRow) → is_own r ≡ true → nat_le r.length (if r.folder then 0 else longest_file) ≡ true
own_length r h =
    (both (nat_le r.length (if r.folder then 0 else longest_file)) (is_moment r.created && (is_moment r.modified && is_moment r.accessed))
    (both (is_name r.name && nat_lt 0 r.owner) (nat_le r.length (if r.folder then 0 else longest_file) && (is_moment r.created && (is_moment r.modified && is_moment r.accessed))) h).1).0

pub none_left : (n : ℕ) (b : Bool) → b ≡ true → nat_le n (cond b 0 longest_file) ≡ true → n ≡ 0
none_left n true e h = grind (arith, nat_tests)
none_left n false e h = cc

-- a folder has no length
pub folder_length : (K : Capacity) (nodes : List NodeRow) (n : ℕ) (row : NodeRow) → IsVolume K nodes → node_of nodes n ≡ Some row → row.folder ≡ true → row.length ≡ 0
folder_length K nodes n row v found folder =
    elim (is_or_not (n == 0)) [
      | inl e ↦ eq_is row.length 0 (root_length row (v.root row (ap (node_of nodes) (sym (eq_is n 0 e)) ∙ found)))
      | inr e ↦ none_left row.length row.folder folder (own_length row (v.own n row found e))
    ]

pub empty_fits : (b : Bool) → nat_le 0 (cond b 0 longest_file) ≡ true
empty_fits true = refl
empty_fits false = refl

pub length_fits : (bytes : ℕ) (b : Bool) → b ≡ false → bytes ≤ longest_file → nat_le bytes (cond b 0 longest_file) ≡ true
length_fits bytes true e h = cc
length_fits bytes false e h = le_test bytes longest_file h
  where
    le_test : (m n : ℕ) → m ≤ n → nat_le m n ≡ true
    le_test m n h = grind (arith, nat_tests)

-- an empty node is no part of what is counted
empty_part : (K : Capacity) (nodes : List NodeRow) (f : Front) (row : NodeRow) → part K nodes f (of_length 0 row) ≡ 0
empty_part K nodes f row = at (is_counted nodes f row.parent) row.folder
  where
    at : (b d : Bool) → cond b (cond d 0 (alloc K 0)) 0 ≡ 0
    at true true = refl
    at true false = rounded_none K.cluster
    at false d = refl

-- a scan goes on over a new node that is still empty
pub created : (v : Volume) (n : ℕ) (row : NodeRow) (f : Front) → IsVolume v.size v.nodes → node_of v.nodes n ≡ Some row → Stands (without_node v n) f → Follows f f (sized v n 0) (unvisited_with row (unvisited (without_node v n).nodes f))
created v n row f w found s =
    let l : IsLeaf v.size v.nodes n row = record { whole = w; rest = s.volume; found = found } in
    let tops = tops_of (without_node v n) f s in
    let now : IsVolume v.size (with_change number n (of_length 0) v.nodes) = sized_volume v.size v.nodes n 0 row w found (leaf_inner v.size v.nodes n row l) (empty_fits row.folder) in
    let sum : f.sum ≡ counted v.size (with_change number n (of_length 0) v.nodes) (scanned f) (unvisited (with_change number n (of_length 0) v.nodes) f) =
    omega (arith, s.sum, counted_with v.size v.nodes n row l f, kind_counted v.size n (of_length 0) (length_keeps 0) v.nodes f row w now found, empty_part v.size v.nodes f row) in
    record {
      stands = stands_by (sized v n 0) f now s.fits (kind_tops n (of_length 0) (length_keeps 0) v.nodes f (tops_with v.size v.nodes n row l f tops)) sum;
      unvisited_are = kind_unvisited n (of_length 0) (length_keeps 0) v.nodes f ∙ unvisited_new v.size v.nodes n row l f tops;
      folder = refl;
      room = refl;
    }

-- and over the removal of an empty node that isn't the scanned folder
gone : (v : Volume) (n : ℕ) (row : NodeRow) (f : Front) → IsVolume v.size (without_node v n).nodes → node_of v.nodes n ≡ Some row → (n == scanned f) ≡ false → part v.size v.nodes f row ≡ 0 → Stands v f → Follows f (record f { tops = without_number n f.tops }) (without_node v n) (without_number n (unvisited v.nodes f))
gone v n row f w found other empty s =
    let l : IsLeaf v.size v.nodes n row = record { whole = s.volume; rest = w; found = found } in
    let g : Front = record f { tops = without_number n f.tops } in
    let sum : f.sum ≡ counted v.size (without_row number n v.nodes) (scanned f) (unvisited (without_row number n v.nodes) g) =
    omega (arith, s.sum, counted_without v.size v.nodes n row l f, empty) in
    record {
      stands = stands_by (without_node v n) g w s.fits (tops_without v.size v.nodes n row l f other (tops_of v f s)) sum;
      unvisited_are = unvisited_gone v.size v.nodes n row l f;
      folder = refl;
      room = refl;
    }

pub removed : (v : Volume) (n : ℕ) (row : NodeRow) (f : Front) → IsVolume v.size (without_node v n).nodes → node_of v.nodes n ≡ Some row → (n == scanned f) ≡ false → Stands (sized v n 0) f → Follows f (record f { tops = without_number n f.tops }) (without_node v n) (without_number n (unvisited v.nodes f))
removed v n row f w found other s =
    let g : Front = record f { tops = without_number n f.tops } in
    let new = with_change number n (of_length 0) v.nodes in
    let same : without_row number n new ≡ without_row number n v.nodes = change_gone number n (of_length 0) (λ r. refl) v.nodes in
    let at : Follows f g (without_node (sized v n 0) n) (without_number n (unvisited new f)) =
    gone (sized v n 0) n (of_length 0 row) f (subst (IsVolume v.size) (sym same) w) (changed_found n (of_length 0) (λ r. refl) v.nodes row found) other (empty_part v.size new f row) s in
    subst (λ (left : List ℕ). Follows f g (without_node v n) (without_number n left)) (kind_unvisited n (of_length 0) (length_keeps 0) v.nodes f)
    (subst (λ ns. Follows f g (record v { nodes = ns }) (without_number n (unvisited new f))) same at)
