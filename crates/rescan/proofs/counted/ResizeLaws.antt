-- What another length of a file does to what is counted.
use Rattle.std.proofs.Common.{◌≡◌, ℕ, ◌+◌, ◌-◌, ◌^◌, ◌<◌, ◌≤◌, ◌==◌, Bool, true, false, cond, not, ◌&&◌, List, length, refl, sym, ◌∙◌, ap, subst, arith, Some}
use Rattle.std.specs.Prelude.{if◌then◌else◌}
use Rattle.fsrm_model.specs.declared.row.Capacity.{Capacity}
use Rattle.fsrm_model.specs.declared.row.NodeRow.{NodeRow}
use Rattle.fsrm_model.specs.store.Capacities.{is_capacity}
use Rattle.fsrm_base.specs.Keyed.{has_row, with_change}
use Rattle.fsrm_model.specs.values.Limits.{longest_file}
use Rattle.fsrm_model.specs.objects.Scan.{counted}
use Rattle.fsrm_model.specs.values.Space.{alloc}
use Rattle.fsrm_model.specs.nodes.Tree.{number, node_of, is_folder, chain, is_under}
use Rattle.fsrm_model.specs.store.Valid.{IsVolume}
use Rattle.fsrm_base.proofs.TestLaws.{clash, eq_same, not_true}
use Rattle.fsrm_model.proofs.valid.ValidLaws.{folder_has, found_parent}
use Rattle.fsrm_model.proofs.nodes.ChainLaws.{IsTree}
use Rattle.fsrm_model.proofs.nodes.Climbs.{climb}
use Rattle.fsrm_model.proofs.nodes.Keeps.{found_folder, tree_of}
use Rattle.fsrm_base.proofs.Look.{found_has}
use Rattle.fsrm_base.proofs.EditedRows.{sum_by-without_row}
use Rattle.node_table.specs.declared.view.NodeView.{NodeView}
use Rattle.volume_tree.specs.Volume.{Volume, Shows}
use Rattle.rescan.specs.declared.standing.Standing.TheVariants.{Outside, Visited, Unvisited}
use Rattle.rescan.specs.Frontiers.{Front, Stands, Follows, scanned, has_above, unvisited, of_length, sized}
use Rattle.rescan.specs.Standings.{standing}
use Rattle.rescan.specs.Tops.{AreTops}
use Rattle.rescan.proofs.followed.ChangeLaws.{length_keeps, sized_twice, sized_volume, changed_found, file_inner, length_fits}
use Rattle.rescan.proofs.counted.CountLaws.{is_counted, part, counted_is}
use Rattle.rescan.proofs.followed.KindLaws.{kind_tops, kind_tops_back, kind_tree_back, kind_folder, kind_unvisited, kind_is_counted, kind_counted}
use Rattle.rescan.proofs.counted.FitLaws.{counted_small, total_small}
use Rattle.rescan.proofs.unvisited.Tops.{tops_of, stands_by}

-- the bytes that a length adds in a folder
abbrev share : Capacity → List NodeRow → Front → ℕ → ℕ → ℕ
share K nodes f parent bytes = if is_counted nodes f parent then alloc K bytes else 0

file_part : (K : Capacity) (nodes : List NodeRow) (n a b : ℕ) (f : Front) (row : NodeRow) → row.folder ≡ false → part K (with_change number n (of_length a) nodes) f (of_length b row) ≡ share K nodes f row.parent b
file_part K nodes n a b f row file =
    ap (λ c. cond c (cond row.folder 0 (alloc K b)) 0) (kind_is_counted n (of_length a) (length_keeps a) nodes f row.parent)
    ∙ ap (λ c. cond (is_counted nodes f row.parent) (cond c 0 (alloc K b)) 0) file

-- of a file's length
record IsFile (v : Volume) (n : ℕ) (row : NodeRow) (a : ℕ) (f : Front) : Type 0 where
  pub found : node_of v.nodes n ≡ Some row
  pub file : row.folder ≡ false
  pub stands : Stands (sized v n a) f

resized_volume : (v : Volume) (n : ℕ) (row : NodeRow) (a b : ℕ) (f : Front) → IsFile v n row a f → b ≤ longest_file → IsVolume v.size (with_change number n (of_length b) v.nodes)
resized_volume v n row a b f t most =
    let was = with_change number n (of_length a) v.nodes in
    let found = changed_found n (of_length a) (λ r. refl) v.nodes row t.found in
    subst (IsVolume v.size) (sized_twice v.nodes n a b)
    (sized_volume v.size was n b (of_length a row) t.stands.volume found (file_inner v.size was n (of_length a row) t.stands.volume found t.file) (length_fits b row.folder t.file most))

resized_counted : (v : Volume) (n : ℕ) (row : NodeRow) (a b : ℕ) (f : Front) → IsFile v n row a f → b ≤ longest_file → counted v.size (with_change number n (of_length b) v.nodes) (scanned f) (unvisited (with_change number n (of_length b) v.nodes) f) + share v.size v.nodes f row.parent a ≡ f.sum + share v.size v.nodes f row.parent b
resized_counted v n row a b f t most =
    let was = with_change number n (of_length a) v.nodes in
    let now = with_change number n (of_length b) was in
    let volume : IsVolume v.size now = subst (IsVolume v.size) (sym (sized_twice v.nodes n a b)) (resized_volume v n row a b f t most) in
    let same : counted v.size now (scanned f) (unvisited now f) ≡ counted v.size (with_change number n (of_length b) v.nodes) (scanned f) (unvisited (with_change number n (of_length b) v.nodes) f) =
    ap (λ ns. counted v.size ns (scanned f) (unvisited ns f)) (sized_twice v.nodes n a b) in
    omega (
      arith,
      same,
      t.stands.sum,
      kind_counted v.size n (of_length b) (length_keeps b) was f (of_length a row) t.stands.volume volume (changed_found n (of_length a) (λ r. refl) v.nodes row t.found),
      file_part v.size v.nodes n a a f row t.file,
      file_part v.size v.nodes n a b f row t.file,
    )

part_within : (K : Capacity) (nodes : List NodeRow) → IsVolume K nodes → (f : Front) (n : ℕ) (row : NodeRow) → node_of nodes n ≡ Some row → part K nodes f row ≤ counted K nodes (scanned f) (unvisited nodes f)
part_within K nodes v f n row found =
    omega (arith, counted_is K nodes v f, sum_by-without_row number (part K nodes f) n row nodes v.ascending found)

-- what the old length adds is in the sum, and the new sum has 64 bits
share_within : (v : Volume) (n : ℕ) (row : NodeRow) (a : ℕ) (f : Front) → IsFile v n row a f → share v.size v.nodes f row.parent a ≤ f.sum
share_within v n row a f t =
    let was = with_change number n (of_length a) v.nodes in
    omega (arith, t.stands.sum, part_within v.size was t.stands.volume f n (of_length a row) (changed_found n (of_length a) (λ r. refl) v.nodes row t.found), file_part v.size v.nodes n a a f row t.file)

resized_small : (v : Volume) (n : ℕ) (row : NodeRow) (a b sum : ℕ) (f : Front) → IsFile v n row a f → b ≤ longest_file → is_capacity v.size ≡ true → sum + share v.size v.nodes f row.parent a ≡ f.sum + share v.size v.nodes f row.parent b → sum < 2 ^ 64
resized_small v n row a b sum f t most legal e =
    let new = with_change number n (of_length b) v.nodes in
    let volume = resized_volume v n row a b f t most in
    omega (arith, e, resized_counted v n row a b f t most, counted_small v.size new f volume, total_small v.size new volume legal)

-- a scan goes on over another length
resizes : (v : Volume) (n : ℕ) (row : NodeRow) (a b sum : ℕ) (f : Front) → IsFile v n row a f → b ≤ longest_file → sum + share v.size v.nodes f row.parent a ≡ f.sum + share v.size v.nodes f row.parent b → Follows f (record f { sum = sum }) (sized v n b) (unvisited v.nodes f)
resizes v n row a b sum f t most e =
    let g : Front = record f { sum = sum } in
    let tops = kind_tops n (of_length b) (length_keeps b) v.nodes f (kind_tops_back n (of_length a) (length_keeps a) v.nodes f (tops_of (sized v n a) f t.stands)) in
    record {
      stands = stands_by (sized v n b) g (resized_volume v n row a b f t most) t.stands.fits (other_sum sum tops) (omega (arith, e, resized_counted v n row a b f t most));
      unvisited_are = kind_unvisited n (of_length b) (length_keeps b) v.nodes f;
      folder = refl;
      room = refl;
    }
  where
    other_sum : {nodes : List NodeRow} {f : Front} (sum : ℕ) → AreTops nodes f → AreTops nodes (record f { sum = sum })
    other_sum sum t = record { active = t.active; folder = t.folder; ascending = t.ascending; folders = t.folders; below = t.below; apart = t.apart }

-- where a node stands
visited_counts : (nodes : List NodeRow) (f : Front) (n : ℕ) → standing nodes f n ≡ Visited → is_counted nodes f n ≡ true
visited_counts nodes f n h = at (has_above nodes f.tops n) (is_under nodes (scanned f) n) h
  where
    at : (a b : Bool) → cond a Unvisited (cond b Visited Outside) ≡ Visited → (b && not a) ≡ true
    at true b h = cc
    at false true h = refl
    at false false h = cc

counts_visited : (nodes : List NodeRow) (f : Front) (n : ℕ) → is_counted nodes f n ≡ true → standing nodes f n ≡ Visited
counts_visited nodes f n h = at (has_above nodes f.tops n) (is_under nodes (scanned f) n) h
  where
    at : (a b : Bool) → (b && not a) ≡ true → cond a Unvisited (cond b Visited Outside) ≡ Visited
    at true true h = cc
    at true false h = cc
    at false true h = refl
    at false false h = cc

-- a file that is lent, over whose nodes with this length a scan stands
pub record IsResized (v : Volume) (n a : ℕ) (f : Front) (view : NodeView) : Type 0 where
  pub shows : Shows view v.nodes n
  pub file : is_folder v.nodes n ≡ false
  pub stands : Stands (sized v n a) f

as_file : (v : Volume) (n a : ℕ) (f : Front) (view : NodeView) → (r : IsResized v n a f view) → IsFile v n r.shows.row a f
as_file v n a f view r =
    record { found = r.shows.found; file = sym (found_folder v.nodes n r.shows.row r.shows.found) ∙ r.file; stands = r.stands }

pub resized_tree : (v : Volume) (n a : ℕ) (f : Front) → Stands (sized v n a) f → IsTree v.nodes
resized_tree v n a f s = kind_tree_back n (of_length a) (length_keeps a) v.nodes (tree_of v.size (with_change number n (of_length a) v.nodes) s.volume)

pub resized_tops : (v : Volume) (n a : ℕ) (f : Front) → Stands (sized v n a) f → AreTops v.nodes f
resized_tops v n a f s = kind_tops_back n (of_length a) (length_keeps a) v.nodes f (tops_of (sized v n a) f s)

pub parent_there : (v : Volume) (n a : ℕ) (f : Front) (view : NodeView) → IsResized v n a f view → has_row number view.parent v.nodes ≡ true
parent_there v n a f view r =
    let new = with_change number n (of_length a) v.nodes in
    let up : is_folder new r.shows.row.parent ≡ true = r.stands.volume.up n (of_length a r.shows.row) (changed_found n (of_length a) (λ r. refl) v.nodes r.shows.row r.shows.found) in
    ap (λ p. has_row number p v.nodes) r.shows.is.parent ∙ folder_has v.nodes r.shows.row.parent (sym (kind_folder n (of_length a) (length_keeps a) v.nodes r.shows.row.parent) ∙ up)

pub way_up : (v : Volume) (n a : ℕ) (f : Front) (view : NodeView) → IsResized v n a f view → length (chain v.nodes n) ≡ 1 + length (chain v.nodes view.parent)
way_up v n a f view r =
    let t = as_file v n a f view r in
    let new = with_change number n (of_length a) v.nodes in
    let inner = file_inner v.size new n (of_length a r.shows.row) r.stands.volume (changed_found n (of_length a) (λ r. refl) v.nodes r.shows.row r.shows.found) t.file in
    let step = climb v.nodes (resized_tree v n a f r.stands) n (found_has number n v.nodes r.shows.row r.shows.found) (λ e. clash (n == 0) (ap (λ k. k == 0) e ∙ eq_same 0) inner) in
    omega (arith, ap length step, ap (λ p. length (chain v.nodes p)) (found_parent v.nodes n r.shows.row r.shows.found), ap (λ p. length (chain v.nodes p)) r.shows.is.parent)

share_at : (v : Volume) (n a b : ℕ) (f : Front) (view : NodeView) → (r : IsResized v n a f view) → standing v.nodes f view.parent ≡ Visited → share v.size v.nodes f r.shows.row.parent b ≡ alloc v.size b
share_at v n a b f view r h =
    ap (λ c. cond c (alloc v.size b) 0) (visited_counts v.nodes f r.shows.row.parent (ap (standing v.nodes f) (sym r.shows.is.parent) ∙ h))

-- in a visited folder the sum goes with the length
pub visited_within : (v : Volume) (n a : ℕ) (f : Front) (view : NodeView) → IsResized v n a f view → standing v.nodes f view.parent ≡ Visited → alloc v.size a ≤ f.sum
visited_within v n a f view r h = omega (arith, share_at v n a a f view r h, share_within v n r.shows.row a f (as_file v n a f view r))

pub visited_small : (v : Volume) (n a b : ℕ) (f : Front) (view : NodeView) → IsResized v n a f view → standing v.nodes f view.parent ≡ Visited → b ≤ longest_file → is_capacity v.size ≡ true → f.sum - alloc v.size a + alloc v.size b < 2 ^ 64
visited_small v n a b f view r h most legal =
    let within = visited_within v n a f view r h in
    resized_small v n r.shows.row a b (f.sum - alloc v.size a + alloc v.size b) f (as_file v n a f view r) most legal (omega (arith, within, share_at v n a a f view r h, share_at v n a b f view r h))

pub visited_follows : (v : Volume) (n a b : ℕ) (f : Front) (view : NodeView) → IsResized v n a f view → standing v.nodes f view.parent ≡ Visited → b ≤ longest_file → Follows f (record f { sum = f.sum - alloc v.size a + alloc v.size b }) (sized v n b) (unvisited v.nodes f)
visited_follows v n a b f view r h most =
    let within = visited_within v n a f view r h in
    resizes v n r.shows.row a b (f.sum - alloc v.size a + alloc v.size b) f (as_file v n a f view r) most (omega (arith, within, share_at v n a a f view r h, share_at v n a b f view r h))

-- elsewhere it stays
pub other_follows : (v : Volume) (n a b : ℕ) (f : Front) (view : NodeView) → IsResized v n a f view → (standing v.nodes f view.parent ≡ Visited → ⊥) → b ≤ longest_file → Follows f f (sized v n b) (unvisited v.nodes f)
other_follows v n a b f view r h most =
    let p = r.shows.row.parent in
    let none : is_counted v.nodes f p ≡ false = not_true _ (λ t. h (ap (standing v.nodes f) r.shows.is.parent ∙ counts_visited v.nodes f p t)) in
    let share_a : share v.size v.nodes f p a ≡ 0 = ap (λ c. cond c (alloc v.size a) 0) none in
    let share_b : share v.size v.nodes f p b ≡ 0 = ap (λ c. cond c (alloc v.size b) 0) none in
    resizes v n r.shows.row a b f.sum f (as_file v n a f view r) most (omega (arith, share_a, share_b))
