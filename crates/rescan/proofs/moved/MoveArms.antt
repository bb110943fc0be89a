-- A scan goes on over each kind of move.
use Rattle.std.proofs.Common.{◌≡◌, ℕ, ◌+◌, ◌^◌, ◌<◌, ◌≤◌, ◌==◌, Bool, true, false, cond, not, ◌&&◌, List, [], ◌∷◌, refl, sym, ◌∙◌, ap, arith, Some}
use Rattle.std.proofs.lemmas.List.Sums.{sum_by-cons}
use Rattle.std.specs.Prelude.{sum_by, if◌then◌else◌}
use Rattle.fsrm_model.specs.declared.row.Capacity.{Capacity}
use Rattle.fsrm_model.specs.declared.row.NodeRow.{NodeRow}
use Rattle.fsrm_model.specs.store.Capacities.{is_capacity}
use Rattle.fsrm_model.specs.nodes.FileOps.{placed}
use Rattle.fsrm_base.specs.Numbers.{is_in, is_set}
use Rattle.fsrm_model.specs.objects.Scan.{unvisited_moved}
use Rattle.fsrm_model.specs.values.Space.{alloc, space}
use Rattle.fsrm_model.specs.nodes.Tree.{number, node_of, is_folder, is_under}
use Rattle.fsrm_model.specs.store.Valid.{IsVolume}
use Rattle.fsrm_base.proofs.TestLaws.{clash, not_true, eq_same, cond_most}
use Rattle.fsrm_model.proofs.nodes.ChainLaws.{Has}
use Rattle.fsrm_model.proofs.nodes.Files.{below_file}
use Rattle.fsrm_model.proofs.nodes.Keeps.{found_folder, tree_of, moves_at, folder-change}
use Rattle.fsrm_base.proofs.Look.{found_has, found_key}
use Rattle.fsrm_model.proofs.nodes.MoveLaws.{Moves}
use Rattle.fsrm_base.proofs.Sums.{sum_by-map, sum_by_each, sum_by_only}
use Rattle.fsrm_model.proofs.valid.ValidLaws.{folder_has}
use Rattle.rescan.specs.declared.standing.Standing.{Standing}
use Rattle.rescan.specs.declared.standing.Standing.TheVariants.{Outside as IsOutside, Visited, Unvisited}
use Rattle.rescan.specs.Frontiers.{Front, Stands, Follows, scanned, has_above, unvisited}
use Rattle.rescan.specs.Leaves.{counted_below}
use Rattle.rescan.specs.Standings.{standing, share_of}
use Rattle.rescan.proofs.counted.CountLaws.{is_counted, part, counted_is}
use Rattle.rescan.proofs.counted.FitLaws.{total_small}
use Rattle.rescan.proofs.moved.MovedScan.{moved_follows}
use Rattle.rescan.proofs.moved.MovedSums.{part_below, below_is, file_sum}
use Rattle.rescan.proofs.moved.MovedTops.{TopsMoved}
use Rattle.rescan.proofs.unvisited.Tops.{tops_of}
use Rattle.volume_tree.specs.Volume.{Volume, with_place}

-- a move that the tree allows
pub record Goes (v : Volume) (f : Front) (x d : ℕ) : Type 0 where
  pub stands : Stands v f
  pub row : NodeRow
  pub found : node_of v.nodes x ≡ Some row
  pub inner : (x == 0) ≡ false
  pub folder : is_folder v.nodes d ≡ true
  pub apart : is_under v.nodes x d ≡ false

pub moves : (v : Volume) (f : Front) (x d : ℕ) (name : List ℕ) → Goes v f x d → Moves v.nodes (with_place v x d name).nodes x d
moves v f x d name g = moves_at v.nodes x d name g.row (tree_of v.size v.nodes g.stands.volume) g.found g.inner g.folder g.apart

pub kinds : (v : Volume) (x d : ℕ) (name : List ℕ) (n : ℕ) → is_folder (with_place v x d name).nodes n ≡ is_folder v.nodes n
kinds v x d name n = folder-change v.nodes x n (placed d name) (λ r. refl) (λ r. refl)

pub moved_has : (v : Volume) (f : Front) (x d : ℕ) → Goes v f x d → Has v.nodes x
moved_has v f x d g = found_has number x v.nodes g.row g.found

-- a standing says what is counted
stands_at : (above below : Bool) → Standing
stands_at above below = cond above Unvisited (cond below Visited IsOutside)

share_is : (K : Capacity) (nodes : List NodeRow) (f : Front) (n bytes : ℕ) → share_of K.cluster bytes (standing nodes f n) ≡ cond (is_counted nodes f n) (alloc K bytes) 0
share_is K nodes f n bytes = at (has_above nodes f.tops n) (is_under nodes (scanned f) n)
  where
    at : (a b : Bool) → share_of K.cluster bytes (cond a Unvisited (cond b Visited IsOutside)) ≡ cond (b && not a) (alloc K bytes) 0
    at true true = refl
    at true false = refl
    at false true = refl
    at false false = refl

pub visited_is : (nodes : List NodeRow) (f : Front) (n : ℕ) → Visited ≡ standing nodes f n → is_counted nodes f n ≡ true
visited_is nodes f n h = at (has_above nodes f.tops n) (is_under nodes (scanned f) n) h
  where
    at : (a b : Bool) → Visited ≡ cond a Unvisited (cond b Visited IsOutside) → (b && not a) ≡ true
    at true b h = cc
    at false true h = refl
    at false false h = cc

pub outside_is : (nodes : List NodeRow) (f : Front) (n : ℕ) → IsOutside ≡ standing nodes f n → is_counted nodes f n ≡ false
outside_is nodes f n h = at (has_above nodes f.tops n) (is_under nodes (scanned f) n) h
  where
    at : (a b : Bool) → IsOutside ≡ cond a Unvisited (cond b Visited IsOutside) → (b && not a) ≡ false
    at true true h = refl
    at true false h = refl
    at false true h = cc
    at false false h = refl

pub unvisited_is : (nodes : List NodeRow) (f : Front) (n : ℕ) → Unvisited ≡ standing nodes f n → is_counted nodes f n ≡ false
unvisited_is nodes f n h = at (has_above nodes f.tops n) (is_under nodes (scanned f) n) h
  where
    at : (a b : Bool) → Unvisited ≡ cond a Unvisited (cond b Visited IsOutside) → (b && not a) ≡ false
    at true true h = refl
    at true false h = refl
    at false true h = cc
    at false false h = refl

-- what was counted is the sum of the parts
pub counted_parts : (v : Volume) (f : Front) → Stands v f → f.sum ≡ sum_by (part v.size v.nodes f) v.nodes
counted_parts v f s = s.sum ∙ counted_is v.size v.nodes s.volume f

sum_most : {X : Type 0} (p q : X → ℕ) (xs : List X) → ((x : X) → p x ≤ q x) → sum_by p xs ≤ sum_by q xs
sum_most p q [] h = omega arith
sum_most p q (x ∷ xs) h = omega (arith, sum_by-cons p x xs, sum_by-cons q x xs, h x, sum_most p q xs h)

-- what is counted below a node was counted
pub below_counted : (v : Volume) (f : Front) (x : ℕ) → Stands v f → counted_below v.size v.nodes f x ≤ f.sum
below_counted v f x s =
    omega (
      arith,
      below_is v.size v.nodes f x,
      sum_most (part_below v.size v.nodes f x) (part v.size v.nodes f) v.nodes (λ r. cond_most (is_under v.nodes x r.number) (part v.size v.nodes f r)),
      counted_parts v f s,
    )

-- a moved file
file_tops : (v : Volume) (f f2 : Front) (x d : ℕ) (name : List ℕ) (g : Goes v f x d) → g.row.folder ≡ false → f2.folder ≡ f.folder → f2.tops ≡ f.tops → TopsMoved v.nodes (with_place v x d name).nodes f f2 x d false false
file_tops v f f2 x d name g file same tops =
    let K = v.size in
    let nodes = v.nodes in
    let a = tops_of v f g.stands in
    let is : is_folder nodes x ≡ false = found_folder nodes x g.row g.found ∙ file in
    let lacks : (n : ℕ) → is_folder nodes n ≡ true → is_under nodes x n ≡ false = λ n h.
    not_true _ (λ b. clash _ (sym (ap (is_folder nodes) (below_file K nodes x n g.stands.volume is (folder_has nodes n h) b)) ∙ h) is) in
    record {
      moves = moves v f x d name g;
      tops = a;
      kinds = kinds v x d name;
      outside = lacks (scanned f) a.folder;
      folder = same;
      ascending = ap is_set tops ∙ a.ascending;
      others = λ n b. ap (λ ns. is_in ns n) tops;
      below = λ n b. ap (λ ns. is_in ns n) tops ∙ not_true _ (λ h. clash _ b (lacks n (a.folders n h)));
      kept = λ h. absurd (clash false h refl);
      entered = λ h. absurd (clash false h refl);
    }

file_space : (K : Capacity) (r : NodeRow) → r.folder ≡ false → space K r ≡ alloc K r.length
file_space K r e = ap (λ b. cond b 0 (alloc K r.length)) e

file_shares : (v : Volume) (f f2 : Front) (x d : ℕ) (name : List ℕ) (g : Goes v f x d) → g.row.folder ≡ false → f2.folder ≡ f.folder → f2.tops ≡ f.tops
    → sum_by (part v.size (with_place v x d name).nodes f2) (with_place v x d name).nodes + share_of v.size.cluster g.row.length (standing v.nodes f g.row.parent) ≡ f.sum + share_of v.size.cluster g.row.length (standing v.nodes f d)
file_shares v f f2 x d name g file same tops =
    let K = v.size in
    let nodes = v.nodes in
    let moved = file_sum K nodes f f2 x d name false false g.row g.stands.volume (file_tops v f f2 x d name g file same tops) (found_folder nodes x g.row g.found ∙ file) g.found in
    omega (
      arith,
      moved,
      counted_parts v f g.stands,
      share_is K nodes f g.row.parent g.row.length,
      share_is K nodes f d g.row.length,
      ap (λ s. cond (is_counted nodes f g.row.parent) s 0) (file_space K g.row file),
      ap (λ s. cond (is_counted nodes f d) s 0) (file_space K g.row file),
    )

pub file_follows : (v : Volume) (f f2 : Front) (x d : ℕ) (name : List ℕ) (g : Goes v f x d) → g.row.folder ≡ false → IsVolume v.size (with_place v x d name).nodes → f2 ≡ record f { sum = f2.sum } → f2.sum + share_of v.size.cluster g.row.length (standing v.nodes f g.row.parent) ≡ f.sum + share_of v.size.cluster g.row.length (standing v.nodes f d)
    → Follows f f2 (with_place v x d name) (unvisited_moved v.nodes (with_place v x d name).nodes (scanned f) x d (unvisited v.nodes f))
file_follows v f f2 x d name g file w rest sum =
    let same : f2.folder ≡ f.folder = ap (λ h. h.folder) rest in
    let tops : f2.tops ≡ f.tops = ap (λ h. h.tops) rest in
    let is : is_folder v.nodes x ≡ false = found_folder v.nodes x g.row g.found ∙ file in
    let none : is_folder v.nodes x ≡ true → ⊥ = λ h. clash _ h is in
    moved_follows v f f2 x d name false false g.stands w g.folder (file_tops v f f2 x d name g file same tops)
    (record { stay = λ h i j. absurd (none h); enter = λ h i j. absurd (none h) })
    (ap (λ h. h.room) rest)
    (omega (arith, sum, file_shares v f f2 x d name g file same tops))

-- its sums
part_in : (v : Volume) (f : Front) (x : ℕ) (row : NodeRow) → Stands v f → node_of v.nodes x ≡ Some row → part v.size v.nodes f row ≤ f.sum
part_in v f x row s found =
    let K = v.size in
    let nodes = v.nodes in
    let only : NodeRow → ℕ = λ r. cond (r.number == x) (part K nodes f r) 0 in
    let here : (row.number == x) ≡ true = ap (λ j. j == x) (found_key number x nodes row found) ∙ eq_same x in
    let one : sum_by only nodes ≡ part K nodes f row = sum_by_only number only x (λ r e. ap (λ b. cond b (part K nodes f r) 0) e) nodes row s.volume.ascending found ∙ ap (λ b. cond b (part K nodes f row) 0) here in
    omega (arith, one, sum_most only (part K nodes f) nodes (λ r. cond_most (r.number == x) (part K nodes f r)), counted_parts v f s)

pub share_counted : (v : Volume) (f : Front) (x d : ℕ) (g : Goes v f x d) → g.row.folder ≡ false → share_of v.size.cluster g.row.length (standing v.nodes f g.row.parent) ≤ f.sum
share_counted v f x d g file =
    omega (
      arith,
      part_in v f x g.row g.stands g.found,
      share_is v.size v.nodes f g.row.parent g.row.length,
      ap (λ s. cond (is_counted v.nodes f g.row.parent) s 0) (file_space v.size g.row file),
    )

placed_space : (K : Capacity) (x d : ℕ) (name : List ℕ) (r : NodeRow) → space K (if r.number == x then placed d name r else r) ≡ space K r
placed_space K x d name r = at (r.number == x)
  where
    at : (b : Bool) → space K (cond b (placed d name r) r) ≡ space K r
    at true = refl
    at false = refl

pub share_fits : (v : Volume) (f : Front) (x d : ℕ) (g : Goes v f x d) → is_capacity v.size ≡ true → g.row.folder ≡ false → f.sum + share_of v.size.cluster g.row.length (standing v.nodes f d) < 2 ^ 64 + share_of v.size.cluster g.row.length (standing v.nodes f g.row.parent)
share_fits v f x d g legal file =
    let K = v.size in
    let new = (with_place v x d []).nodes in
    let whole : sum_by (space K) new ≡ sum_by (space K) v.nodes = sum_by-map (space K) (λ r. if r.number == x then placed d [] r else r) v.nodes ∙ sum_by_each _ (space K) (placed_space K x d []) v.nodes in
    omega (
      arith,
      file_shares v f f x d [] g file refl refl,
      sum_most (part K new f) (space K) new (λ r. cond_most (is_counted new f r.parent) (space K r)),
      whole,
      total_small K v.nodes g.stands.volume legal,
    )

-- a share by what is lent, and by the cluster that a frontier has
pub share_same : (cluster size : ℕ) (nodes : List NodeRow) (f : Front) (bytes own n m : ℕ) (s : Standing) → size ≡ cluster → s ≡ standing nodes f n → bytes ≡ own → n ≡ m → share_of cluster bytes s ≡ share_of size own (standing nodes f m)
share_same cluster size nodes f bytes own n m s same is b e =
    ap (share_of cluster bytes) is
    ∙ (ap (λ c. share_of c bytes (standing nodes f n)) (sym same)
    ∙ (ap (λ k. share_of size k (standing nodes f n)) b
    ∙ ap (λ k. share_of size own (standing nodes f k)) e))
