-- A scan goes on over a move that moves its folder.
use Rattle.std.proofs.Common.{◌≡◌, ℕ, ◌==◌, Bool, true, false, cond, not, ◌&&◌, List, refl, sym, ◌∙◌, ap, inl, inr, Some}
use Rattle.std.specs.Prelude.{sum_by, if◌then◌else◌}
use Rattle.fsrm_model.specs.declared.row.Capacity.{Capacity}
use Rattle.fsrm_model.specs.declared.row.NodeRow.{NodeRow}
use Rattle.fsrm_model.specs.nodes.FileOps.{placed}
use Rattle.fsrm_base.specs.Keyed.{with_change}
use Rattle.fsrm_base.specs.Numbers.{is_in}
use Rattle.fsrm_model.specs.objects.Scan.{unvisited_moved}
use Rattle.fsrm_model.specs.values.Space.{space}
use Rattle.fsrm_model.specs.nodes.Tree.{number, node_of, is_folder, is_under}
use Rattle.fsrm_model.specs.store.Valid.{IsVolume}
use Rattle.fsrm_base.proofs.TestLaws.{is_or_not, clash, not_true, eq_is, eq_same, same_tests}
use Rattle.fsrm_model.proofs.nodes.Below.{below_moved}
use Rattle.fsrm_model.proofs.nodes.ChainLaws.{Has}
use Rattle.fsrm_base.proofs.EditedRows.{sum_by_same}
use Rattle.fsrm_model.proofs.nodes.Files.{above_folder}
use Rattle.fsrm_model.proofs.nodes.Keeps.{found_folder}
use Rattle.fsrm_model.proofs.nodes.MoveLaws.{Moves}
use Rattle.fsrm_base.proofs.Sums.{sum_by-map}
use Rattle.fsrm_model.proofs.valid.ValidLaws.{folder_has}
use Rattle.fsrm_base.proofs.NumberLaws.{same_set}
use Rattle.rescan.specs.Frontiers.{Front, Stands, Follows, scanned, has_above, unvisited}
use Rattle.rescan.specs.Tops.{AreTops}
use Rattle.rescan.proofs.counted.CountLaws.{is_counted, part, counted_is}
use Rattle.rescan.proofs.moved.MovedSums.{in_folder, folder_part, placed_folder}
use Rattle.rescan.proofs.unvisited.Tops.{in_unvisited, set_unvisited, stands_by, above_of, above_by, under_under}
use Rattle.volume_tree.specs.Volume.{Volume, with_place}
use Rattle.fsrm_base.proofs.RowLaws.{each_found}

-- the scanned folder is at or below the moved node
pub record WholeMoved (nodes new : List NodeRow) (f : Front) (x d : ℕ) : Type 0 where
  pub moves : Moves nodes new x d
  pub tops : AreTops nodes f
  pub kinds : (n : ℕ) → is_folder new n ≡ is_folder nodes n
  pub inside : is_under nodes x (scanned f) ≡ true

scan_has : (nodes new : List NodeRow) (f : Front) (x d : ℕ) → WholeMoved nodes new f x d → Has nodes (scanned f)
scan_has nodes new f x d s = folder_has nodes (scanned f) s.tops.folder

top_inside : (nodes new : List NodeRow) (f : Front) (x d : ℕ) → WholeMoved nodes new f x d → (n : ℕ) → is_in f.tops n ≡ true → is_under nodes x n ≡ true
top_inside nodes new f x d s n h =
    under_under nodes s.moves.tree x (scanned f) n (scan_has nodes new f x d s) (folder_has nodes n (s.tops.folders n h)) (s.tops.below n h) s.inside

top_same : (nodes new : List NodeRow) (f : Front) (x d : ℕ) → WholeMoved nodes new f x d → (t n : ℕ) → is_in f.tops t ≡ true → Has nodes n → is_under new t n ≡ is_under nodes t n
top_same nodes new f x d s t n h hn = below_moved nodes new x d s.moves t n (folder_has nodes t (s.tops.folders t h)) (top_inside nodes new f x d s t h) hn

scan_same : (nodes new : List NodeRow) (f : Front) (x d : ℕ) → WholeMoved nodes new f x d → (n : ℕ) → Has nodes n → is_under new (scanned f) n ≡ is_under nodes (scanned f) n
scan_same nodes new f x d s n hn = below_moved nodes new x d s.moves (scanned f) n (scan_has nodes new f x d s) s.inside hn

above_same : (nodes new : List NodeRow) (f : Front) (x d : ℕ) → WholeMoved nodes new f x d → (n : ℕ) → Has nodes n → has_above new f.tops n ≡ has_above nodes f.tops n
above_same nodes new f x d s n hn =
    same_tests _ _
    (λ h. let a = above_of new f.tops n h in above_by nodes f.tops n a.top a.member (sym (top_same nodes new f x d s a.top n a.member hn) ∙ a.above))
    (λ h. let a = above_of nodes f.tops n h in above_by new f.tops n a.top a.member (top_same nodes new f x d s a.top n a.member hn ∙ a.above))

whole_tops : (nodes new : List NodeRow) (f : Front) (x d : ℕ) → WholeMoved nodes new f x d → AreTops new f
whole_tops nodes new f x d s =
    let has : (n : ℕ) → is_in f.tops n ≡ true → Has nodes n = λ n h. folder_has nodes n (s.tops.folders n h) in
    record {
      active = s.tops.active;
      folder = s.kinds (scanned f) ∙ s.tops.folder;
      ascending = s.tops.ascending;
      folders = λ n h. s.kinds n ∙ s.tops.folders n h;
      below = λ n h. scan_same nodes new f x d s n (has n h) ∙ s.tops.below n h;
      apart = λ n k h g u. s.tops.apart n k h g (sym (top_same nodes new f x d s k n g (has n h)) ∙ u);
    }

whole_unvisited : (K : Capacity) (nodes new : List NodeRow) (f : Front) (x d : ℕ) → IsVolume K nodes → IsVolume K new → WholeMoved nodes new f x d → unvisited new f ≡ unvisited nodes f
whole_unvisited K nodes new f x d v w s =
    same_set (unvisited new f) (unvisited nodes f) (set_unvisited K new w f) (set_unvisited K nodes v f) (λ n.
    in_unvisited K new w f n
    ∙ (ap (λ b. b && has_above new f.tops n) (s.kinds n)
    ∙ (where_folder (is_folder nodes n) (has_above new f.tops n) (has_above nodes f.tops n) (λ e. above_same nodes new f x d s n (folder_has nodes n e))
    ∙ sym (in_unvisited K nodes v f n))))
  where
    where_folder : (a b c : Bool) → (a ≡ true → b ≡ c) → (a && b) ≡ (a && c)
    where_folder true b c h = h refl
    where_folder false b c h = refl

-- the moved node is a folder
moved_is_folder : (K : Capacity) (nodes new : List NodeRow) (f : Front) (x d : ℕ) → IsVolume K nodes → WholeMoved nodes new f x d → is_folder nodes x ≡ true
moved_is_folder K nodes new f x d v s = elim (is_or_not (scanned f == x)) [
  | inl e ↦ sym (ap (is_folder nodes) (eq_is (scanned f) x e)) ∙ s.tops.folder
  | inr e ↦ above_folder K nodes x (scanned f) v (scan_has nodes new f x d s) (λ h. clash (scanned f == x) (ap (λ j. j == x) h ∙ eq_same x) e) s.inside
]

whole_row : (K : Capacity) (nodes : List NodeRow) (f : Front) (x d : ℕ) (name : List ℕ) → IsVolume K nodes → WholeMoved nodes (with_change number x (placed d name) nodes) f x d
    → (r : NodeRow) → node_of nodes r.number ≡ Some r → part K (with_change number x (placed d name) nodes) f (if r.number == x then placed d name r else r) ≡ part K nodes f r
whole_row K nodes f x d name v s r own =
    let new = with_change number x (placed d name) nodes in
    let put : NodeRow = cond (r.number == x) (placed d name r) r in
    elim (is_or_not r.folder) [
      | inl e ↦ folder_part K new f put (placed_folder d name (r.number == x) r ∙ e) ∙ sym (folder_part K nodes f r e)
      | inr e ↦
          let other : (r.number == x) ≡ false = not_true _ (λ h. clash _ (ap (is_folder nodes) (eq_is r.number x h) ∙ moved_is_folder K nodes new f x d v s) (found_folder nodes r.number r own ∙ e)) in
          let at = in_folder K nodes x r v own e in
          let counts : is_counted new f r.parent ≡ is_counted nodes f r.parent =
          ap (λ b. b && not (has_above new f.tops r.parent)) (scan_same nodes new f x d s r.parent at.has)
          ∙ ap (λ b. is_under nodes (scanned f) r.parent && not b) (above_same nodes new f x d s r.parent at.has) in
          ap (λ b. part K new f (cond b (placed d name r) r)) other ∙ ap (λ b. cond b (space K r) 0) counts
    ]

whole_sum : (K : Capacity) (nodes : List NodeRow) (f : Front) (x d : ℕ) (name : List ℕ) → IsVolume K nodes → WholeMoved nodes (with_change number x (placed d name) nodes) f x d → sum_by (part K (with_change number x (placed d name) nodes) f) (with_change number x (placed d name) nodes) ≡ sum_by (part K nodes f) nodes
whole_sum K nodes f x d name v s =
    let new = with_change number x (placed d name) nodes in
    let now : NodeRow → ℕ = λ r. part K new f (cond (r.number == x) (placed d name r) r) in
    sum_by-map (part K new f) (λ r. cond (r.number == x) (placed d name r) r) nodes
    ∙ sum_by_same now (part K nodes f) nodes (each_found number (λ r. now r ≡ part K nodes f r) nodes v.ascending (whole_row K nodes f x d name v s))

pub whole_follows : (v : Volume) (f : Front) (x d : ℕ) (name : List ℕ) → Stands v f → IsVolume v.size (with_place v x d name).nodes → WholeMoved v.nodes (with_place v x d name).nodes f x d → Follows f f (with_place v x d name) (unvisited_moved v.nodes (with_place v x d name).nodes (scanned f) x d (unvisited v.nodes f))
whole_follows v f x d name stands w s =
    let K = v.size in
    let nodes = v.nodes in
    let new = (with_place v x d name).nodes in
    record {
      stands = stands_by (with_place v x d name) f w stands.fits (whole_tops nodes new f x d s)
          (stands.sum ∙ (counted_is K nodes stands.volume f ∙ (sym (whole_sum K nodes f x d name stands.volume s) ∙ sym (counted_is K new w f))));
      unvisited_are = whole_unvisited K nodes new f x d stands.volume w s ∙ sym (stays (is_under nodes x (scanned f)) (unvisited nodes f) _ s.inside);
      folder = refl;
      room = refl;
    }
  where
    stays : (b : Bool) (left other : List ℕ) → b ≡ true → cond b left other ≡ left
    stays true left other h = refl
    stays false left other h = cc
