-- Rows that pass each part of the reading are the nodes of a volume, and those that fail one are not.
use Rattle.std.proofs.Common.{◌≡◌, ℕ, suc, ◌≤◌, ◌==◌, ◌||◌, ◌&&◌, Bool, true, false, cond, not, List, [], ◌∷◌, refl, sym, ◌∙◌, ap, arith, nat_le, nat_lt, Some}
use Rattle.std.specs.List.{list_all}
use Rattle.fsrm_model.specs.declared.row.Capacity.{Capacity}
use Rattle.fsrm_model.specs.declared.row.NodeRow.{NodeRow}
use Rattle.fsrm_base.specs.Keyed.{is_ascending, has_row}
use Rattle.fsrm_model.specs.values.Name.{same_name}
use Rattle.fsrm_model.specs.nodes.Tree.{number, node_of, is_folder, is_child, is_under, name_bytes}
use Rattle.fsrm_model.specs.store.Valid.{is_tree, is_sound_node, is_root_node, is_inner_node, is_only_one, is_own, IsVolume}
use Rattle.fsrm_base.proofs.Look.{found_has}
use Rattle.fsrm_base.proofs.Members.{all_found, all_pass}
use Rattle.fsrm_base.proofs.Order.{is_above, join, parts}
use Rattle.fsrm_base.proofs.TestLaws.{both, both_true, clash, eq_is, eq_same, is_false, lt_is, lt_test, not_true, le_is, le_test}
use Rattle.fsrm_model.proofs.valid.ValidVolume.{volume_of_tree}
use Rattle.fsrm_model.specs.values.Limits.{latest_moment, longest_file}
use Rattle.volume_tree.specs.Late.{AreApart}
use Rattle.volume_tree.specs.Sound.{HasTwins, are_from, are_sound, is_in_range, is_placed}

-- what numbers that ascend below a bound have
pub record From (n bound : ℕ) (row : NodeRow) (rows : List NodeRow) : Type 0 where
  pub least : n ≤ row.number
  pub below : nat_lt row.number bound ≡ true
  pub rest : are_from (suc row.number) bound rows ≡ true

pub from_parts : (n bound : ℕ) (row : NodeRow) (rows : List NodeRow) → are_from n bound (row ∷ rows) ≡ true → From n bound row rows
from_parts n bound row rows h =
    let halves = both (nat_le n row.number && nat_lt row.number bound) (are_from (suc row.number) bound rows) h in
    let first = both (nat_le n row.number) (nat_lt row.number bound) halves.0 in
    record { least = le_is n row.number first.0; below = first.1; rest = halves.1 }

from_above : (bound : ℕ) (row : NodeRow) (rows : List NodeRow) → are_from (suc row.number) bound rows ≡ true → is_above number row rows ≡ true
from_above bound row [] h = refl
from_above bound row (next ∷ rows) h = let p = from_parts (suc row.number) bound next rows h in let l = p.least in lt_test row.number next.number (omega arith)

pub from_ascending : (n bound : ℕ) (rows : List NodeRow) → are_from n bound rows ≡ true → is_ascending number rows ≡ true
from_ascending n bound [] h = refl
from_ascending n bound (row ∷ rows) h =
    let p = from_parts n bound row rows h in
    join number row rows (from_above bound row rows p.rest) (from_ascending (suc row.number) bound rows p.rest)

pub from_below : (n bound : ℕ) (rows : List NodeRow) → are_from n bound rows ≡ true → list_all (λ (r : NodeRow). nat_lt r.number bound) rows ≡ true
from_below n bound [] h = refl
from_below n bound (row ∷ rows) h =
    let p = from_parts n bound row rows h in
    both_true (nat_lt row.number bound) (list_all (λ (r : NodeRow). nat_lt r.number bound) rows) p.below (from_below (suc row.number) bound rows p.rest)

-- rows begin with a number or a greater one
abbrev Begins : ℕ → List NodeRow → Type 0
Begins n [] = Unit {0}
Begins n (row ∷ rows) = n ≤ row.number

begins_next : (row : NodeRow) (rows : List NodeRow) → is_above number row rows ≡ true → Begins (suc row.number) rows
begins_next row [] h = tt
begins_next row (next ∷ rows) h = let l = lt_is row.number next.number h in omega arith

ascending_from : (n bound : ℕ) (rows : List NodeRow) → Begins n rows → is_ascending number rows ≡ true → list_all (λ (r : NodeRow). nat_lt r.number bound) rows ≡ true → are_from n bound rows ≡ true
ascending_from n bound [] b a l = refl
ascending_from n bound (row ∷ rows) b a l =
    let p = parts number row rows a in
    let below = both (nat_lt row.number bound) (list_all (λ (r : NodeRow). nat_lt r.number bound) rows) l in
    both_true (nat_le n row.number && nat_lt row.number bound) (are_from (suc row.number) bound rows)
    (both_true (nat_le n row.number) (nat_lt row.number bound) (le_test n row.number b) below.0)
    (ascending_from (suc row.number) bound rows (begins_next row rows p.above) p.rest below.1)

begins_nothing : (rows : List NodeRow) → Begins 0 rows
begins_nothing [] = tt
begins_nothing (row ∷ rows) = omega arith

numbers_of : (K : Capacity) (nodes : List NodeRow) → IsVolume K nodes → are_from 0 K.nodes nodes ≡ true
numbers_of K nodes v =
    ascending_from 0 K.nodes nodes (begins_nothing nodes) v.ascending
    (all_pass number (λ (r : NodeRow). nat_lt r.number K.nodes) nodes v.ascending (λ r f. v.below r.number r f))

placed_at : (nodes : List NodeRow) (node : NodeRow) (b : Bool) → (node.number == 0) ≡ b → (b ≡ true → is_root_node node ≡ true) → (b ≡ false → (is_own node && is_folder nodes node.parent) ≡ true) → cond b (is_root_node node) (is_own node && is_folder nodes node.parent) ≡ true
placed_at nodes node true e f g = f refl
placed_at nodes node false e f g = g refl

placed_of : (K : Capacity) (nodes : List NodeRow) → IsVolume K nodes → list_all (is_placed nodes) nodes ≡ true
placed_of K nodes v =
    all_pass number (is_placed nodes) nodes v.ascending (λ r f.
    placed_at nodes r (r.number == 0) refl
    (λ e. v.root r (ap (node_of nodes) (sym (eq_is r.number 0 e)) ∙ f))
    (λ e. both_true (is_own r) (is_folder nodes r.parent) (v.own r.number r f e) (v.up r.number r f)))

rooted_of : (K : Capacity) (nodes : List NodeRow) → IsVolume K nodes → list_all (λ (r : NodeRow). is_under nodes 0 r.number) nodes ≡ true
rooted_of K nodes v = all_pass number (λ (r : NodeRow). is_under nodes 0 r.number) nodes v.ascending (λ r f. v.rooted r.number (found_has number r.number nodes r f))

sound_of : (K : Capacity) (nodes : List NodeRow) → IsVolume K nodes → are_sound K.nodes nodes ≡ true
sound_of K nodes v =
    both_true (are_from 0 K.nodes nodes && (has_row number 0 nodes && list_all (is_placed nodes) nodes)) (list_all (λ (r : NodeRow). is_under nodes 0 r.number) nodes)
    (both_true (are_from 0 K.nodes nodes) (has_row number 0 nodes && list_all (is_placed nodes) nodes) (numbers_of K nodes v)
    (both_true (has_row number 0 nodes) (list_all (is_placed nodes) nodes) v.has_root (placed_of K nodes v)))
    (rooted_of K nodes v)

-- what is placed is in range
placed_range : (nodes : List NodeRow) (node : NodeRow) (b : Bool) → (node.number == 0) ≡ b → cond b (is_root_node node) (is_own node && is_folder nodes node.parent) ≡ true → is_in_range node ≡ true
placed_range nodes node true e h =
    let a = both _ _ h in
    let size = both _ _ (both _ _ a.0).1 in
    let rest = both _ _ (both _ _ a.1).1 in
    let last = both _ _ rest.1 in
    both_true _ _ (zero_in node.length longest_file size.1) (both_true _ _ (zero_in node.created latest_moment rest.0) (both_true _ _ (zero_in node.modified latest_moment last.0) (zero_in node.accessed latest_moment last.1)))
  where
    zero_in : (n most : ℕ) → (n == 0) ≡ true → nat_le n most ≡ true
    zero_in n most z = let is : n ≡ 0 = eq_is n 0 z in le_test n most (omega arith)
placed_range nodes node false e h =
    let own = both _ _ (both _ _ (both _ _ h).0).1 in
    both_true _ _ (short_in node.folder (le_is _ _ own.0)) own.1
  where
    short_in : (folder : Bool) → node.length ≤ cond folder 0 longest_file → nat_le node.length longest_file ≡ true
    short_in true l = le_test node.length longest_file (omega arith)
    short_in false l = le_test node.length longest_file l

range_from : (nodes rows : List NodeRow) → list_all (is_placed nodes) rows ≡ true → list_all is_in_range rows ≡ true
range_from nodes [] h = refl
range_from nodes (row ∷ rows) h =
    let p = both (is_placed nodes row) (list_all (is_placed nodes) rows) h in
    both_true (is_in_range row) (list_all is_in_range rows) (placed_range nodes row (row.number == 0) refl p.0) (range_from nodes rows p.1)

-- what isn't listed or not in range isn't sound
pub bad_listed : (bound : ℕ) (nodes : List NodeRow) → are_from 0 bound nodes ≡ false → are_sound bound nodes ≡ false
bad_listed bound nodes h = ap (λ b. (b && (has_row number 0 nodes && list_all (is_placed nodes) nodes)) && list_all (λ (r : NodeRow). is_under nodes 0 r.number) nodes) h

pub bad_range : (bound : ℕ) (nodes : List NodeRow) → list_all is_in_range nodes ≡ false → are_sound bound nodes ≡ false
bad_range bound nodes h =
    not_true (are_sound bound nodes) (λ s.
    let parts = both _ _ (both _ _ s).0 in
    clash (list_all is_in_range nodes) (range_from nodes nodes (both _ _ parts.1).1) h)

-- what fails a part is no tree
pub bad_sound : (K : Capacity) (nodes : List NodeRow) → are_sound K.nodes nodes ≡ false → is_tree K nodes ≡ false
bad_sound K nodes h = not_true (is_tree K nodes) (λ t. clash (are_sound K.nodes nodes) (sound_of K nodes (volume_of_tree K nodes t)) h)

pub bad_twins : (K : Capacity) (nodes : List NodeRow) → HasTwins nodes → is_tree K nodes ≡ false
bad_twins K nodes t =
    not_true (is_tree K nodes) (λ is.
    let v = volume_of_tree K nodes is in
    t.apart (v.alone t.other.number t.one.number t.other t.one t.other_found t.one_found t.other_inner t.one_inner t.folder t.name))

either : (a b : Bool) → (b ≡ true → a ≡ true) → (a || not b) ≡ true
either true b h = refl
either false true h = h refl
either false false h = refl

only_one : (nodes : List NodeRow) → AreApart nodes → is_ascending number nodes ≡ true → (r : NodeRow) → node_of nodes r.number ≡ Some r → (r.number == 0) ≡ false → is_only_one nodes r ≡ true
only_one nodes h a r f i =
    all_pass number (λ (other : NodeRow). (other.number == r.number) || not (is_child r.parent other && same_name other.name r.name)) nodes a (λ s g.
    either (s.number == r.number) (is_child r.parent s && same_name s.name r.name) (λ t.
    let halves = both (is_child r.parent s) (same_name s.name r.name) t in
    let child = both (not (s.number == 0)) (s.parent == r.parent) halves.0 in
    let same = h.alone r.number s.number r s f g i (is_false _ child.0) (eq_is s.parent r.parent child.1) halves.1 in
    ap (λ (k : ℕ). k == r.number) same ∙ eq_same r.number))

sound_at : (nodes : List NodeRow) (r : NodeRow) (b : Bool) → (r.number == 0) ≡ b → cond b (is_root_node r) (is_own r && is_folder nodes r.parent) ≡ true → is_under nodes 0 r.number ≡ true → (b ≡ false → is_only_one nodes r ≡ true) → cond b (is_root_node r) (is_inner_node nodes r) ≡ true
sound_at nodes r true e p u o = p
sound_at nodes r false e p u o =
    let halves = both (is_own r) (is_folder nodes r.parent) p in
    both_true (is_own r) _ halves.0 (both_true (is_folder nodes r.parent && is_under nodes 0 r.number) (is_only_one nodes r) (both_true (is_folder nodes r.parent) (is_under nodes 0 r.number) halves.1 u) (o refl))

-- the parts of sound rows
pub record Parts (bound : ℕ) (nodes : List NodeRow) : Type 0 where
  pub numbers : are_from 0 bound nodes ≡ true
  pub root : has_row number 0 nodes ≡ true
  pub placed : list_all (is_placed nodes) nodes ≡ true
  pub rooted : list_all (λ (r : NodeRow). is_under nodes 0 r.number) nodes ≡ true

pub sound_parts : (bound : ℕ) (nodes : List NodeRow) → are_sound bound nodes ≡ true → Parts bound nodes
sound_parts bound nodes h =
    let halves = both (are_from 0 bound nodes && (has_row number 0 nodes && list_all (is_placed nodes) nodes)) (list_all (λ (r : NodeRow). is_under nodes 0 r.number) nodes) h in
    let first = both (are_from 0 bound nodes) (has_row number 0 nodes && list_all (is_placed nodes) nodes) halves.0 in
    let heads = both (has_row number 0 nodes) (list_all (is_placed nodes) nodes) first.1 in
    record { numbers = first.0; root = heads.0; placed = heads.1; rooted = halves.1 }

pub sound_ascending : (bound : ℕ) (nodes : List NodeRow) → are_sound bound nodes ≡ true → is_ascending number nodes ≡ true
sound_ascending bound nodes h = from_ascending 0 bound nodes (sound_parts bound nodes h).numbers

-- rows that pass all parts are a volume
pub volume_of_parts : (K : Capacity) (nodes : List NodeRow) (used : ℕ) → are_sound K.nodes nodes ≡ true → used ≡ name_bytes nodes → used ≤ K.names → AreApart nodes → IsVolume K nodes
volume_of_parts K nodes used s sum names h =
    let p = sound_parts K.nodes nodes s in
    let a = from_ascending 0 K.nodes nodes p.numbers in
    let below = from_below 0 K.nodes nodes p.numbers in
    let sound = all_pass number (is_sound_node K nodes) nodes a (λ r f.
    both_true (nat_lt r.number K.nodes) (cond (r.number == 0) (is_root_node r) (is_inner_node nodes r))
    (all_found (λ (r : NodeRow). nat_lt r.number K.nodes) (λ y. number y == r.number) nodes r below f)
    (sound_at nodes r (r.number == 0) refl
    (all_found (is_placed nodes) (λ y. number y == r.number) nodes r p.placed f)
    (all_found (λ (r : NodeRow). is_under nodes 0 r.number) (λ y. number y == r.number) nodes r p.rooted f)
    (λ e. only_one nodes h a r f e))) in
    volume_of_tree K nodes
    (both_true (is_ascending number nodes && has_row number 0 nodes) _ (both_true (is_ascending number nodes) (has_row number 0 nodes) a p.root)
    (both_true (list_all (is_sound_node K nodes) nodes) (nat_le (name_bytes nodes) K.names) sound (le_test (name_bytes nodes) K.names (omega (arith, sum, names)))))
