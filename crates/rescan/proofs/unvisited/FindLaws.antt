-- All unvisited folders, found from the topmost ones on.
use Rattle.std.proofs.Common.{◌≡◌, ℕ, ◌+◌, ◌*◌, ◌<◌, ◌≤◌, ◌==◌, Bool, true, false, cond, not, ◌||◌, ◌&&◌, List, [], ◌∷◌, length, Some, None, refl, sym, ◌∙◌, ap, subst, inl, inr, arith}
use Rattle.std.specs.Prelude.{filter, sum_by, slice_get, if◌then◌else◌}
use Rattle.std.specs.List.{list_any}
use Rattle.fsrm_model.specs.declared.row.NodeRow.{NodeRow}
use Rattle.fsrm_base.specs.Keyed.{row_of, has_row, is_ascending}
use Rattle.fsrm_base.specs.Numbers.{itself, is_in, is_set, with_number, without_number, with_numbers}
use Rattle.fsrm_model.specs.nodes.Tree.{number, is_folder, is_child, children, chain}
use Rattle.fsrm_model.specs.store.Valid.{IsVolume}
use Rattle.fsrm_base.proofs.TestLaws.{is_or_not, both_true, eq_is, eq_turned, lt_is}
use Rattle.fsrm_base.proofs.EditedRows.{sum_by-filter, sum_by-without_row}
use Rattle.fsrm_model.proofs.nodes.Keeps.{folder_found}
use Rattle.fsrm_base.proofs.Look.{has_found, found_key}
use Rattle.fsrm_base.proofs.Sums.{sum_by-map, sum_by-add, sum_by-ones, sum_by_each, sum_by_turned, sum_by_absent, sum_by_only}
use Rattle.number_set.specs.Numbers.{Numbers}
use Rattle.fsrm_base.proofs.NumberLaws.{in_with, in_without, set_with, same_set}
use Rattle.volume_tree.specs.Volume.{Volume}
use Rattle.rescan.specs.Frontiers.{Front, Stands, Suits, has_above, unvisited}
use Rattle.rescan.specs.Tops.{AreTops}
use Rattle.rescan.specs.Visits.{folders_in, tops_after, looks_left}
use Rattle.rescan.proofs.unvisited.ChildLaws.{filter_least}
use Rattle.rescan.proofs.counted.FitLaws.{sum_le}
use Rattle.number_set.proofs.TakenLaws.{none_first}
use Rattle.rescan.proofs.unvisited.Tops.{in_unvisited, set_unvisited, above_own, tops_of}
use Rattle.rescan.proofs.unvisited.VisitLaws.{first_in, tops_visited, unvisited_after}

-- a frontier with other tops
abbrev pub topped : Front → List ℕ → Front
topped f tops = record f { tops = tops }

-- what is found and what waits: each unvisited folder is found, or at or below one that waits
pub record Finding (v : Volume) (f : Front) (waiting found : Numbers) : Type 0 where
  pub tops : AreTops v.nodes (topped f waiting.members)
  pub waiting_room : waiting.bound ≡ f.room.nodes
  pub found_room : found.bound ≡ f.room.nodes
  pub ascending : is_set found.members ≡ true
  pub members : (n : ℕ) → is_in (unvisited v.nodes f) n ≡ (is_in found.members n || is_in (unvisited v.nodes (topped f waiting.members)) n)

pub finding_begins : (v : Volume) (f : Front) (waiting found : Numbers) → Stands v f → waiting ≡ record { bound = f.room.nodes; members = f.tops } → found ≡ record { bound = f.room.nodes; members = [] } → Finding v f waiting found
finding_begins v f waiting found s w e =
    subst (λ (ns : Numbers). Finding v f ns found) (sym w)
    (subst (λ (ns : Numbers). Finding v f (record { bound = f.room.nodes; members = f.tops }) ns) (sym e)
    (record { tops = tops_of v f s; waiting_room = refl; found_room = refl; ascending = refl; members = λ n. refl }))

-- a member of the volume is below its bound
pub folder_low : (v : Volume) (f : Front) (n : ℕ) → IsVolume v.size v.nodes → Suits v.size f.room → is_folder v.nodes n ≡ true → n < f.room.nodes
folder_low v f n volume fits h =
    let r = folder_found v.nodes n h in
    let low : n < v.size.nodes = lt_is n v.size.nodes (volume.below n r.row r.found) in
    omega (arith, fits.nodes)

pub waits_low : (v : Volume) (f : Front) (waiting found : Numbers) (n : ℕ) → Stands v f → Finding v f waiting found → slice_get waiting.members 0 ≡ Some n → n < f.room.nodes
waits_low v f waiting found n s d h = folder_low v f n s.volume s.fits (d.tops.folders n (first_in waiting.members n h))

-- the next that waits is unvisited
next_unvisited : (v : Volume) (f : Front) (tops : List ℕ) (n : ℕ) → IsVolume v.size v.nodes → AreTops v.nodes (topped f tops) → is_in tops n ≡ true → is_in (unvisited v.nodes (topped f tops)) n ≡ true
next_unvisited v f tops n volume t h =
    in_unvisited v.size v.nodes volume (topped f tops) n ∙ both_true (is_folder v.nodes n) (has_above v.nodes tops n) (t.folders n h) (above_own v.nodes tops n h)

-- and is found
found_more : (a w : Bool) (e : Bool) → (e ≡ true → w ≡ true) → (a || w) ≡ ((e || a) || (not e && w))
found_more a w true h = ap (λ b. a || b) (h refl) ∙ always a
  where
    always : (b : Bool) → (b || true) ≡ true
    always true = refl
    always false = refl
found_more a w false h = refl

pub finding_more : (v : Volume) (f : Front) (waiting mid new found more : Numbers) (n : ℕ) → Stands v f → Finding v f waiting found → slice_get waiting.members 0 ≡ Some n → mid ≡ record waiting { members = without_number n waiting.members } → new ≡ record mid { members = with_numbers (folders_in v.nodes n) mid.members } → more ≡ record found { members = with_number n found.members } → Finding v f new more
finding_more v f waiting mid new found more n s d h out put in_found =
    let w = topped f waiting.members in
    let top = first_in waiting.members n h in
    let is : new ≡ record waiting { members = tops_after v.nodes n waiting.members } = put ∙ ap (λ (m : Numbers). record m { members = with_numbers (folders_in v.nodes n) m.members }) out in
    subst (λ (ns : Numbers). Finding v f ns more) (sym is)
    (subst (λ (ns : Numbers). Finding v f (record waiting { members = tops_after v.nodes n waiting.members }) ns) (sym in_found)
    (record {
      tops = tops_visited v.size v.nodes s.volume w d.tops n top;
      waiting_room = d.waiting_room;
      found_room = d.found_room;
      ascending = set_with n found.members d.ascending;
      members = λ m.
          d.members m
          ∙ (found_more (is_in found.members m) (is_in (unvisited v.nodes w) m) (n == m) (λ e. subst (λ k. is_in (unvisited v.nodes w) k ≡ true) (eq_is n m e) (next_unvisited v f waiting.members n s.volume d.tops top))
          ∙ (ap (λ b. b || (not (n == m) && is_in (unvisited v.nodes w) m)) (sym (in_with n m found.members))
          ∙ ap (λ b. is_in (with_number n found.members) m || b) (sym (ap (λ ns. is_in ns m) (unvisited_after v.size v.nodes s.volume w d.tops n top) ∙ in_without n m (unvisited v.nodes w)))));
    }))

-- at the end all are found
pub no_above : (ns : List ℕ) → list_any (is_in []) ns ≡ false
no_above [] = refl
no_above (n ∷ ns) = no_above ns

pub finding_ends : (v : Volume) (f : Front) (waiting found : Numbers) → Stands v f → Finding v f waiting found → slice_get waiting.members 0 ≡ None → found.members ≡ unvisited v.nodes f
finding_ends v f waiting found s d h =
    same_set found.members (unvisited v.nodes f) d.ascending (set_unvisited v.size v.nodes s.volume f) (λ n.
    sym (d.members n ∙ (ap (λ b. is_in found.members n || b) (none n) ∙ nothing (is_in found.members n))))
  where
    nothing : (b : Bool) → (b || false) ≡ b
    nothing true = refl
    nothing false = refl

    never : (b : Bool) → (b && false) ≡ false
    never true = refl
    never false = refl

    none : (n : ℕ) → is_in (unvisited v.nodes (topped f waiting.members)) n ≡ false
    none n =
        in_unvisited v.size v.nodes s.volume (topped f waiting.members) n
        ∙ (ap (λ b. is_folder v.nodes n && b) (ap (λ (ns : List ℕ). has_above v.nodes ns n) (none_first waiting.members h) ∙ no_above (chain v.nodes n))
        ∙ never (is_folder v.nodes n))

-- the looks that are left
abbrev pub own_looks : List NodeRow → ℕ → ℕ
own_looks nodes n = 1 + 2 * length (children nodes n)

member_row : (n : ℕ) (ns : List ℕ) → is_in ns n ≡ true → row_of itself n ns ≡ Some n
member_row n ns h =
    let r = has_found itself n ns h in
    r.is ∙ ap (λ (k : ℕ). Some k) (found_key itself n ns r.row r.is)

pub looks_after : (v : Volume) (f : Front) (waiting mid new found : Numbers) (n : ℕ) → Stands v f → Finding v f waiting found → slice_get waiting.members 0 ≡ Some n → mid ≡ record waiting { members = without_number n waiting.members } → new ≡ record mid { members = with_numbers (folders_in v.nodes n) mid.members } → looks_left v.nodes (topped f new.members) + own_looks v.nodes n ≡ looks_left v.nodes (topped f waiting.members)
looks_after v f waiting mid new found n s d h out put =
    let w = topped f waiting.members in
    let top = first_in waiting.members n h in
    let W = unvisited v.nodes w in
    let cost : ℕ → ℕ = own_looks v.nodes in
    let is : new.members ≡ tops_after v.nodes n waiting.members = ap (λ (m : Numbers). m.members) put ∙ ap (λ (m : Numbers). with_numbers (folders_in v.nodes n) m.members) out in
    let less : looks_left v.nodes (topped f new.members) ≡ sum_by cost (without_number n W) =
    ap (λ (ns : List ℕ). looks_left v.nodes (topped f ns)) is ∙ ap (sum_by cost) (unvisited_after v.size v.nodes s.volume w d.tops n top) in
    let split = sum_by-without_row itself cost n n W (set_unvisited v.size v.nodes s.volume w) (member_row n W (next_unvisited v f waiting.members n s.volume d.tops top)) in
    omega (arith, less, split)

-- each node is one child at most
abbrev is_one : NodeRow → NodeRow → ℕ
is_one c r = if is_child r.number c then 1 else 0

one_parent : (nodes : List NodeRow) → is_ascending number nodes ≡ true → (c : NodeRow) → sum_by (is_one c) nodes ≤ 1
one_parent nodes a c = elim (is_or_not (has_row number c.parent nodes)) [
  | inl h ↦
      let r = has_found number c.parent nodes h in
      let only : sum_by (is_one c) nodes ≡ is_one c r.row = sum_by_only number (is_one c) c.parent other nodes r.row a r.is in
      omega (arith, only, small (is_child r.row.number c) 1)
  | inr h ↦
      let none : sum_by (is_one c) nodes ≡ 0 = sum_by_absent number (is_one c) c.parent other nodes h in
      omega (arith, none)
]
  where
    small : (b : Bool) (x : ℕ) → cond b x 0 ≤ x
    small true x = omega arith
    small false x = omega arith

    nothing : (b d : Bool) (x : ℕ) → d ≡ false → cond (b && d) x 0 ≡ 0
    nothing true d x e = rw e refl
    nothing false d x e = refl

    other : (r : NodeRow) → (number r == c.parent) ≡ false → is_one c r ≡ 0
    other r e = nothing (not (c.number == 0)) (c.parent == r.number) 1 (eq_turned r.number c.parent e)

children_sum : (nodes : List NodeRow) → is_ascending number nodes ≡ true → sum_by (λ r. length (children nodes r.number)) nodes ≤ length nodes
children_sum nodes a =
    let each = sum_by_each (λ r. length (children nodes r.number)) (λ r. sum_by (λ c. is_one c r) nodes) (λ r. counts r) nodes in
    let turned = sum_by_turned (λ r c. is_one c r) nodes nodes in
    let few = sum_le (λ c. sum_by (is_one c) nodes) (λ c. 1) nodes (one_parent nodes a) in
    omega (arith, each, turned, few, sum_by-ones nodes)
  where
    counts : (r : NodeRow) → length (children nodes r.number) ≡ sum_by (λ c. is_one c r) nodes
    counts r = sym (sum_by-ones (children nodes r.number)) ∙ sum_by-filter (is_child r.number) (λ c. 1) nodes

pub looks_most : (v : Volume) (f : Front) → IsVolume v.size v.nodes → looks_left v.nodes f ≤ 3 * length v.nodes
looks_most v f volume =
    let nodes = v.nodes in
    let cost : NodeRow → ℕ = λ r. own_looks nodes r.number in
    let p : NodeRow → Bool = λ node. node.folder && has_above nodes f.tops node.number in
    let below : NodeRow → ℕ = λ r. length (children nodes r.number) in
    let named = sum_by-map (own_looks nodes) number (filter p nodes) in
    let twice = sum_by_each cost (λ r. 1 + (below r + below r)) (λ r. doubled (below r)) nodes in
    let split = sum_by-add (λ r. 1) (λ r. below r + below r) nodes in
    let again = sum_by-add below below nodes in
    omega (arith, named, filter_least cost p nodes, twice, split, again, sum_by-ones nodes, children_sum nodes volume.ascending)
  where
    doubled : (k : ℕ) → 1 + 2 * k ≡ 1 + (k + k)
    doubled k = omega arith
