-- What is counted after a move, if the scanned folder doesn't move.
use Rattle.std.proofs.Common.{◌≡◌, ℕ, ◌+◌, ◌==◌, Bool, true, false, cond, not, ◌||◌, ◌&&◌, List, refl, sym, ◌∙◌, ap, inl, inr, arith, Some}
use Rattle.std.specs.Prelude.{sum_by, if◌then◌else◌}
use Rattle.std.specs.List.{AllByRecursion}
use Rattle.fsrm_model.specs.declared.row.Capacity.{Capacity}
use Rattle.fsrm_model.specs.declared.row.NodeRow.{NodeRow}
use Rattle.fsrm_model.specs.nodes.FileOps.{placed}
use Rattle.fsrm_base.specs.Keyed.{with_change}
use Rattle.fsrm_model.specs.values.Space.{alloc, space}
use Rattle.fsrm_model.specs.nodes.Tree.{number, node_of, is_folder, is_under}
use Rattle.fsrm_model.specs.store.Valid.{IsVolume, is_root_node}
use Rattle.fsrm_base.proofs.TestLaws.{is_or_not, clash, not_true, both, both_true, eq_is, eq_same}
use Rattle.fsrm_model.proofs.nodes.ChainLaws.{IsTree, Has}
use Rattle.fsrm_base.proofs.EditedRows.{sum_by-filter, sum_by_same}
use Rattle.fsrm_model.proofs.nodes.Files.{below_file}
use Rattle.fsrm_model.proofs.nodes.Keeps.{found_folder, tree_of}
use Rattle.fsrm_base.proofs.Look.{found_has, found_key}
use Rattle.fsrm_model.proofs.nodes.MoveLaws.{Outside, under_before}
use Rattle.fsrm_base.proofs.Sums.{sum_by-map, sum_by-add, sum_by_each, sum_by_nothing, sum_by_only}
use Rattle.fsrm_model.proofs.valid.ValidLaws.{folder_has, found_parent}
use Rattle.rescan.specs.Frontiers.{Front, scanned, has_above}
use Rattle.rescan.specs.Leaves.{counted_below}
use Rattle.rescan.specs.Tops.{AreTops}
use Rattle.rescan.proofs.counted.CountLaws.{is_counted, part}
use Rattle.rescan.proofs.moved.MovedTops.{TopsMoved, in_scan, not_above, counted_other, counted_kept, counted_moved}
use Rattle.rescan.proofs.unvisited.Tops.{above_below, under_child}
use Rattle.fsrm_base.proofs.RowLaws.{each_found}

-- what a node adds to what is counted at and below another
abbrev pub part_below : Capacity → List NodeRow → Front → ℕ → NodeRow → ℕ
part_below K nodes f x row = if is_under nodes x row.number then part K nodes f row else 0

pub below_is : (K : Capacity) (nodes : List NodeRow) (f : Front) (x : ℕ) → counted_below K nodes f x ≡ sum_by (part_below K nodes f x) nodes
below_is K nodes f x =
    let test : NodeRow → Bool = λ r. is_under nodes x r.number && is_counted nodes f r.parent in
    sum_by-filter test (space K) nodes
    ∙ sum_by_each (λ r. if test r then space K r else 0) (part_below K nodes f x) (λ r. split (is_under nodes x r.number) (is_counted nodes f r.parent) (space K r)) nodes
  where
    split : (a b : Bool) (s : ℕ) → cond (a && b) s 0 ≡ cond a (cond b s 0) 0
    split true b s = refl
    split false b s = refl

-- a folder adds nothing
nothing : (b : Bool) (s : ℕ) → s ≡ 0 → cond b s 0 ≡ 0
nothing true s h = h
nothing false s h = refl

pub folder_part : (K : Capacity) (nodes : List NodeRow) (f : Front) (r : NodeRow) → r.folder ≡ true → part K nodes f r ≡ 0
folder_part K nodes f r e = nothing (is_counted nodes f r.parent) (space K r) (ap (λ b. cond b 0 (alloc K r.length)) e)

pub placed_folder : (d : ℕ) (name : List ℕ) (b : Bool) (r : NodeRow) → (cond b (placed d name r) r).folder ≡ r.folder
placed_folder d name true r = refl
placed_folder d name false r = refl

-- a file stands in another node, and not at the root
pub record InFolder (nodes : List NodeRow) (x : ℕ) (r : NodeRow) : Type 0 where
  pub has : Has nodes r.parent
  pub folder : is_folder nodes r.parent ≡ true
  pub inner : r.number ≡ 0 → ⊥
  pub up : is_under nodes x r.number ≡ ((r.number == x) || is_under nodes x r.parent)

root_is : (K : Capacity) (nodes : List NodeRow) (r : NodeRow) → IsVolume K nodes → node_of nodes r.number ≡ Some r → r.number ≡ 0 → r.folder ≡ true
root_is K nodes r v own top =
    let root : is_root_node r ≡ true = v.root r (ap (node_of nodes) (sym top) ∙ own) in
    (both _ _ (both _ _ (both _ _ root).0).0).0

pub in_folder : (K : Capacity) (nodes : List NodeRow) (x : ℕ) (r : NodeRow) → IsVolume K nodes → node_of nodes r.number ≡ Some r → r.folder ≡ false → InFolder nodes x r
in_folder K nodes x r v own file =
    let folder = v.up r.number r own in
    let inner : r.number ≡ 0 → ⊥ = λ top. clash r.folder (root_is K nodes r v own top) file in
    record {
      has = folder_has nodes r.parent folder;
      folder = folder;
      inner = inner;
      up = under_child nodes (tree_of K nodes v) x r.number (found_has number r.number nodes r own) inner
          ∙ ap (λ p. (r.number == x) || is_under nodes x p) (found_parent nodes r.number r own);
    }

other_of : (nodes : List NodeRow) (x : ℕ) (r : NodeRow) (folder : Bool) → node_of nodes r.number ≡ Some r → is_folder nodes x ≡ folder → (r.folder ≡ folder → ⊥) → (r.number == x) ≡ false
other_of nodes x r folder own e apart =
    not_true _ (λ same. apart (sym (found_folder nodes r.number r own) ∙ (ap (is_folder nodes) (eq_is r.number x same) ∙ e)))

-- the moved node is a folder
share_at : (keeps below : Bool) (new old : ℕ) → (below ≡ false → new ≡ old) → (keeps ≡ true → below ≡ true → new ≡ old) → (keeps ≡ false → below ≡ true → new ≡ 0) → new + cond keeps 0 (cond below old 0) ≡ old
share_at keeps false new old h g k = at keeps
  where
    at : (b : Bool) → new + cond b 0 0 ≡ old
    at true = omega (arith, h refl)
    at false = omega (arith, h refl)
share_at true true new old h g k = omega (arith, g refl refl)
share_at false true new old h g k = omega (arith, k refl refl)

none_at : (keeps below : Bool) (new old : ℕ) → new ≡ 0 → old ≡ 0 → new + cond keeps 0 (cond below old 0) ≡ old
none_at true below new old h g = omega (arith, h, g)
none_at false true new old h g = omega (arith, h, g)
none_at false false new old h g = omega (arith, h, g)

folder_row : (K : Capacity) (nodes : List NodeRow) (f f2 : Front) (x d : ℕ) (name : List ℕ) (keeps enters : Bool) → IsVolume K nodes → TopsMoved nodes (with_change number x (placed d name) nodes) f f2 x d keeps enters → is_folder nodes x ≡ true → (keeps ≡ false → enters ≡ false → is_counted nodes f d ≡ false)
    → (r : NodeRow) → node_of nodes r.number ≡ Some r → part K (with_change number x (placed d name) nodes) f2 (if r.number == x then placed d name r else r) + cond keeps 0 (part_below K nodes f x r) ≡ part K nodes f r
folder_row K nodes f f2 x d name keeps enters v s is left r own =
    let new = with_change number x (placed d name) nodes in
    let put : NodeRow = cond (r.number == x) (placed d name r) r in
    elim (is_or_not r.folder) [
      | inl e ↦ none_at keeps (is_under nodes x r.number) (part K new f2 put) (part K nodes f r) (folder_part K new f2 put (placed_folder d name (r.number == x) r ∙ e)) (folder_part K nodes f r e)
      | inr e ↦
          let other : (r.number == x) ≡ false = other_of nodes x r true own is (λ h. clash r.folder h e) in
          let at = in_folder K nodes x r v own e in
          let up : is_under nodes x r.number ≡ is_under nodes x r.parent = at.up ∙ ap (λ b. b || is_under nodes x r.parent) other in
          let stays : part K new f2 put ≡ part K new f2 r = ap (λ b. part K new f2 (cond b (placed d name r) r)) other in
          share_at keeps (is_under nodes x r.number) (part K new f2 put) (part K nodes f r)
          (λ b. stays ∙ ap (λ b. cond b (space K r) 0) (counted_other nodes new f f2 x d keeps enters s r.parent at.has (sym up ∙ b)))
          (λ k b. stays ∙ ap (λ b. cond b (space K r) 0) (counted_kept nodes new f f2 x d keeps enters s k r.parent at.has (sym up ∙ b)))
          (λ k b. stays ∙ ap (λ b. cond b (space K r) 0) (counted_moved nodes new f f2 x d keeps enters s k (left k) r.parent at.has (sym up ∙ b)))
    ]

sum_cond : {X : Type 0} (b : Bool) (g : X → ℕ) (xs : List X) → sum_by (λ x. cond b 0 (g x)) xs ≡ cond b 0 (sum_by g xs)
sum_cond true g xs = sum_by_nothing xs
sum_cond false g xs = refl

pub folder_sum : (K : Capacity) (nodes : List NodeRow) (f f2 : Front) (x d : ℕ) (name : List ℕ) (keeps enters : Bool) → IsVolume K nodes → TopsMoved nodes (with_change number x (placed d name) nodes) f f2 x d keeps enters → is_folder nodes x ≡ true → (keeps ≡ false → enters ≡ false → is_counted nodes f d ≡ false)
    → sum_by (part K (with_change number x (placed d name) nodes) f2) (with_change number x (placed d name) nodes) + (if keeps then 0 else counted_below K nodes f x) ≡ sum_by (part K nodes f) nodes
folder_sum K nodes f f2 x d name keeps enters v s is left =
    let new = with_change number x (placed d name) nodes in
    let now : NodeRow → ℕ = λ r. part K new f2 (cond (r.number == x) (placed d name r) r) in
    let gone : NodeRow → ℕ = λ r. cond keeps 0 (part_below K nodes f x r) in
    let each : AllByRecursion (λ r. now r + gone r ≡ part K nodes f r) nodes =
    each_found number (λ r. now r + gone r ≡ part K nodes f r) nodes v.ascending (folder_row K nodes f f2 x d name keeps enters v s is left) in
    omega (
      arith,
      sum_by-map (part K new f2) (λ r. cond (r.number == x) (placed d name r) r) nodes,
      sum_by_same (λ r. now r + gone r) (part K nodes f) nodes each,
      sum_by-add now gone nodes,
      sum_cond keeps (part_below K nodes f x) nodes,
      ap (cond keeps 0) (below_is K nodes f x),
    )

-- below a folder that wasn't visited nothing is counted
counted_up : (nodes : List NodeRow) (f : Front) (x p : ℕ) → IsTree nodes → AreTops nodes f → (x == 0) ≡ false → Has nodes x → Has nodes p → is_under nodes x (scanned f) ≡ false → is_under nodes x p ≡ true → is_counted nodes f p ≡ true → is_counted nodes f x ≡ true
counted_up nodes f x p t a inner hx hp outside below h =
    let far : Outside nodes x (scanned f) = record { has = folder_has nodes (scanned f) a.folder; lacks = outside } in
    let here : is_under nodes (scanned f) x ≡ true = sym (under_before nodes t x (scanned f) p inner hx far hp below) ∙ in_scan nodes f p h in
    let free : has_above nodes f.tops x ≡ false = not_true _ (λ u. clash _ (above_below nodes f.tops t x p hx hp below u) (not_above nodes f p h)) in
    both_true (is_under nodes (scanned f) x) (not (has_above nodes f.tops x)) here (ap not free)

pub nothing_below : (K : Capacity) (nodes : List NodeRow) (f : Front) (x : ℕ) → IsVolume K nodes → AreTops nodes f → (x == 0) ≡ false → Has nodes x → is_folder nodes x ≡ true → is_under nodes x (scanned f) ≡ false → is_counted nodes f x ≡ false → counted_below K nodes f x ≡ 0
nothing_below K nodes f x v a inner hx is outside none =
    below_is K nodes f x
    ∙ (sum_by_same (part_below K nodes f x) (λ r. 0) nodes (each_found number (λ r. part_below K nodes f x r ≡ 0) nodes v.ascending row)
    ∙ sum_by_nothing nodes)
  where
    row : (r : NodeRow) → node_of nodes r.number ≡ Some r → part_below K nodes f x r ≡ 0
    row r own = elim (is_or_not r.folder) [
      | inl e ↦ nothing (is_under nodes x r.number) (part K nodes f r) (folder_part K nodes f r e)
      | inr e ↦
          let at = in_folder K nodes x r v own e in
          let up : is_under nodes x r.number ≡ is_under nodes x r.parent = at.up ∙ ap (λ b. b || is_under nodes x r.parent) (other_of nodes x r true own is (λ h. clash r.folder h e)) in
          elim (is_or_not (is_under nodes x r.number)) [
            | inl b ↦
                let lacks : is_counted nodes f r.parent ≡ false = not_true _ (λ h. clash _ (counted_up nodes f x r.parent (tree_of K nodes v) a inner hx at.has outside (sym up ∙ b) h) none) in
                nothing (is_under nodes x r.number) (part K nodes f r) (ap (λ b. cond b (space K r) 0) lacks)
            | inr b ↦ ap (λ b. cond b (part K nodes f r) 0) b
          ]
    ]

-- the moved node is a file
file_row : (K : Capacity) (nodes : List NodeRow) (f f2 : Front) (x d : ℕ) (name : List ℕ) (keeps enters : Bool) → IsVolume K nodes → TopsMoved nodes (with_change number x (placed d name) nodes) f f2 x d keeps enters → is_folder nodes x ≡ false
    → (r : NodeRow) → node_of nodes r.number ≡ Some r → part K (with_change number x (placed d name) nodes) f2 (if r.number == x then placed d name r else r) + (if r.number == x then part K nodes f r else 0) ≡ part K nodes f r + (if r.number == x then (if is_counted nodes f d then space K r else 0) else 0)
file_row K nodes f f2 x d name keeps enters v s is r own =
    let new = with_change number x (placed d name) nodes in
    elim (is_or_not (r.number == x)) [
      | inl e ↦
          let there : part K new f2 (placed d name r) ≡ cond (is_counted nodes f d) (space K r) 0 = ap (λ b. cond b (space K r) 0) (counted_other nodes new f f2 x d keeps enters s d s.moves.has_folder s.moves.apart) in
          rw e (omega (arith, there))
      | inr e ↦
          let folder = v.up r.number r own in
          let has = folder_has nodes r.parent folder in
          let far : is_under nodes x r.parent ≡ false = not_true _ (λ b. clash _ (sym (ap (is_folder nodes) (below_file K nodes x r.parent v is has b)) ∙ folder) is) in
          let same : part K new f2 r ≡ part K nodes f r = ap (λ b. cond b (space K r) 0) (counted_other nodes new f f2 x d keeps enters s r.parent has far) in
          rw e (omega (arith, same))
    ]

only_one : (x : ℕ) (g : NodeRow → ℕ) (r : NodeRow) → (r.number == x) ≡ false → cond (r.number == x) (g r) 0 ≡ 0
only_one x g r e = ap (λ b. cond b (g r) 0) e

pub file_sum : (K : Capacity) (nodes : List NodeRow) (f f2 : Front) (x d : ℕ) (name : List ℕ) (keeps enters : Bool) (row : NodeRow) → IsVolume K nodes → TopsMoved nodes (with_change number x (placed d name) nodes) f f2 x d keeps enters → is_folder nodes x ≡ false → node_of nodes x ≡ Some row
    → sum_by (part K (with_change number x (placed d name) nodes) f2) (with_change number x (placed d name) nodes) + part K nodes f row ≡ sum_by (part K nodes f) nodes + (if is_counted nodes f d then space K row else 0)
file_sum K nodes f f2 x d name keeps enters row v s is found =
    let new = with_change number x (placed d name) nodes in
    let now : NodeRow → ℕ = λ r. part K new f2 (cond (r.number == x) (placed d name r) r) in
    let gives : NodeRow → ℕ = λ r. cond (is_counted nodes f d) (space K r) 0 in
    let gone : NodeRow → ℕ = λ r. cond (r.number == x) (part K nodes f r) 0 in
    let come : NodeRow → ℕ = λ r. cond (r.number == x) (gives r) 0 in
    let same : row.number ≡ x = found_key number x nodes row found in
    let here : (row.number == x) ≡ true = ap (λ j. j == x) same ∙ eq_same x in
    let went : sum_by gone nodes ≡ part K nodes f row = sum_by_only number gone x (only_one x (part K nodes f)) nodes row v.ascending found ∙ ap (λ b. cond b (part K nodes f row) 0) here in
    let came : sum_by come nodes ≡ gives row = sum_by_only number come x (only_one x gives) nodes row v.ascending found ∙ ap (λ b. cond b (gives row) 0) here in
    let each : AllByRecursion (λ r. now r + gone r ≡ part K nodes f r + come r) nodes =
    each_found number (λ r. now r + gone r ≡ part K nodes f r + come r) nodes v.ascending (file_row K nodes f f2 x d name keeps enters v s is) in
    omega (
      arith,
      sum_by-map (part K new f2) (λ r. cond (r.number == x) (placed d name r) r) nodes,
      sum_by_same (λ r. now r + gone r) (λ r. part K nodes f r + come r) nodes each,
      sum_by-add now gone nodes,
      sum_by-add (part K nodes f) come nodes,
      went,
      came,
    )
