-- What the calls of a tree keep.
use Rattle.std.proofs.Common.{◌≡◌, ℕ, zero, suc, ◌+◌, ◌-◌, ◌<◌, ◌≤◌, ◌==◌, Bool, true, false, cond, not, List, [], ◌∷◌, length, refl, sym, ◌∙◌, ap, subst, arith, nat_le, nat_lt, Some, None, Option}
use Rattle.std.proofs.lemmas.Bool.Decides.{nat_tests}
use Rattle.std.proofs.lemmas.Option.{same_Some}
use Rattle.std.specs.Prelude.{filter, max, is_some, option_map, if◌then◌else◌}
use Rattle.fsrm_model.specs.declared.row.Capacity.{Capacity}
use Rattle.fsrm_model.specs.declared.row.NodeRow.{NodeRow}
use Rattle.fsrm_model.specs.nodes.FileOps.{resized, touched, placed}
use Rattle.fsrm_base.specs.Numbers.{with_number, without_number}
use Rattle.fsrm_base.specs.Keyed.{has_row, with_row, with_change, without_row}
use Rattle.fsrm_model.specs.values.Limits.{latest_moment, longest_file, most_nodes}
use Rattle.fsrm_model.specs.values.Name.{is_name}
use Rattle.fsrm_model.specs.nodes.Tree.{number, node_of, name_of, fresh, is_folder, is_child, is_under, child_of, child_number, children, name_bytes}
use Rattle.fsrm_model.specs.store.Valid.{IsVolume, is_own, is_root_node}
use Rattle.fsrm_model.proofs.valid.CapacityLaws.{nodes_most}
use Rattle.fsrm_base.proofs.EditedRows.{length-with_row, length-change}
use Rattle.fsrm_model.proofs.nodes.Keeps.{volume-new, volume-change, volume-moved, volume-removed, KeepsNode, name_bytes-change, found_folder}
use Rattle.fsrm_base.proofs.Look.{has_found, none_filtered}
use Rattle.fsrm_model.proofs.nodes.OwnLaws.{own_parts, own_joined, own_named, file_short, file_inner}
use Rattle.fsrm_model.proofs.nodes.Sizes.{length-removed, name_bytes-new, name_bytes-placed, name_bytes-removed}
use Rattle.fsrm_base.proofs.TestLaws.{lt_is, lt_test, eq_is, both, le_test, is_inner}
use Rattle.fsrm_model.proofs.nodes.Walks.{found_name}
use Rattle.number_set.specs.Numbers.{Numbers}
use Rattle.volume_tree.specs.Kept.{rows_of, AreSlots, IsKept}
use Rattle.volume_tree.specs.Late.{IsRegister}
use Rattle.volume_tree.specs.declared.register.Register.{Register}
use Rattle.volume_tree.specs.Volume.{is_other}
use Rattle.volume_tree.proofs.late.Registers.{inner_few, register_kept}
use Rattle.volume_tree.proofs.slotted.HoleLaws.{holes_made, holes_gone, holes_changed}
use Rattle.volume_tree.proofs.slotted.FreshLaws.{fresh_near, fresh_free, fresh_most, fresh_apart, few_nodes}

-- the rows of slots are few
pub few_rows : (K : Capacity) (count used : ℕ) (holes : Numbers) (slots : List (Option NodeRow)) (register : Register) → IsKept K count used holes slots register → length (rows_of slots) ≤ most_nodes
few_rows K count used holes slots register k =
    let few = few_nodes K (rows_of slots) k.volume in
    let most = nodes_most K k.size in
    omega (arith, few, most)

no_child_of : (o : Option NodeRow) → option_map number o ≡ None → is_some o ≡ false
no_child_of None h = refl
no_child_of (Some row) h = cc

-- a new node makes one more of a volume
pub volume_made : (K : Capacity) (count used : ℕ) (holes : Numbers) (slots : List (Option NodeRow)) (register : Register) (row : NodeRow) → IsKept K count used holes slots register → row.number ≡ fresh (rows_of slots) → is_own row ≡ true → is_folder (rows_of slots) row.parent ≡ true → child_number (rows_of slots) row.parent row.name ≡ None → count < K.nodes → used + length row.name ≤ K.names → IsVolume K (with_row number row (rows_of slots))
volume_made K count used holes slots register row k fr own folder alone room names =
    let nodes = rows_of slots in
    let most = fresh_most nodes k.volume.ascending in
    let c = k.count_is in
    let u = k.used_is in
    volume-new K nodes row k.volume (record {
      free = ap (λ n. has_row number n nodes) fr ∙ fresh_free nodes k.volume.ascending;
      below = lt_test row.number K.nodes (omega (arith, fr, most, c));
      own = own;
      folder = folder;
      alone = no_child_of (child_of nodes row.parent row.name) alone;
      names = omega (arith, u);
    })

-- one more node is kept
pub kept_made : (K : Capacity) (count used : ℕ) (holes : Numbers) (slots made : List (Option NodeRow)) (register more : Register) (row : NodeRow) → IsKept K count used holes slots register → row.number ≡ fresh (rows_of slots) → IsVolume K (with_row number row (rows_of slots)) → AreSlots 0 made → rows_of made ≡ with_row number row (rows_of slots) → length made ≡ max (length slots) (row.number + 1) → IsRegister (rows_of made) [] more → more.order.room ≡ register.order.room → IsKept K (count + 1) (used + length row.name) (record holes { members = without_number row.number holes.members }) made more
kept_made K count used holes slots made register more row k fr volume are rows len entered same_room =
    let nodes = rows_of slots in
    let near = fresh_near slots k.slots_are in
    let lacks : has_row number row.number nodes ≡ false = ap (λ n. has_row number n nodes) fr ∙ fresh_free nodes k.volume.ascending in
    let c = k.count_is in
    let u = k.used_is in
    let bytes = name_bytes-new nodes row in
    let longer = length-with_row number row nodes in
    let here : count + 1 ≡ length (with_row number row nodes) = omega (arith, c, longer) in
    let used_here : used + length row.name ≡ name_bytes (with_row number row nodes) = omega (arith, u, bytes) in
    record {
      volume = subst (IsVolume K) (sym rows) volume;
      size = k.size;
      slots_are = are;
      count_is = here ∙ ap length (sym rows);
      used_is = used_here ∙ ap name_bytes (sym rows);
      bound_is = k.bound_is;
      holes_are = holes_made slots made holes.members row k.holes_are lacks (omega (arith, fr, near)) rows len;
      register_is = entered;
      room_is = same_room ∙ k.room_is;
    }

-- a change that keeps places and names is kept
pub kept_changed : (K : Capacity) (count used : ℕ) (holes : Numbers) (slots made : List (Option NodeRow)) (register : Register) (n : ℕ) (c : NodeRow → NodeRow) → IsKept K count used holes slots register → KeepsNode c → (n == 0) ≡ false → ((r : NodeRow) → node_of (rows_of slots) n ≡ Some r → is_own (c r) ≡ true) → AreSlots 0 made → rows_of made ≡ with_change number n c (rows_of slots) → length made ≡ length slots → IsKept K count used holes made register
kept_changed K count used holes slots made register n c k keeps inner own are rows len =
    let nodes = rows_of slots in
    let volume = volume-change K nodes n c k.volume keeps inner own in
    record {
      volume = subst (IsVolume K) (sym rows) volume;
      size = k.size;
      slots_are = are;
      count_is = k.count_is ∙ (sym (length-change number n c nodes) ∙ ap length (sym rows));
      used_is = k.used_is ∙ (sym (name_bytes-change n c keeps.same_name nodes) ∙ ap name_bytes (sym rows));
      bound_is = k.bound_is;
      holes_are = holes_changed slots made holes.members n c keeps.same_number k.holes_are rows len;
      register_is = subst (λ (ns : List NodeRow). IsRegister ns [] register) (sym rows) (register_kept nodes n c register keeps (omega (arith, inner_few K (with_change number n c nodes) volume, k.room_is)) k.register_is);
      room_is = k.room_is;
    }

-- a file of another length is kept
pub resized_kept : (K : Capacity) (count used : ℕ) (holes : Numbers) (slots made : List (Option NodeRow)) (register : Register) (n bytes moment : ℕ) → IsKept K count used holes slots register → is_folder (rows_of slots) n ≡ false → bytes ≤ longest_file → moment ≤ latest_moment → AreSlots 0 made → rows_of made ≡ with_change number n (resized bytes moment) (rows_of slots) → length made ≡ length slots → IsKept K count used holes made register
resized_kept K count used holes slots made register n bytes moment k file b m are rows len =
    let inner = file_inner K (rows_of slots) n k.volume file in
    kept_changed K count used holes slots made register n (resized bytes moment) k
    (record { same_number = λ r. refl; same_parent = λ r. refl; same_name = λ r. refl; same_folder = λ r. refl }) inner
    (λ r h.
    let p = own_parts r (k.volume.own n r h inner) in
    own_joined (resized bytes moment r) (record {
      named = p.named;
      short = file_short r.folder bytes (sym (found_folder (rows_of slots) n r h) ∙ file) b;
      made = p.made;
      changed = le_test moment latest_moment m;
      seen = p.seen;
    }))
    are rows len

-- a file that was read is kept
pub touched_kept : (K : Capacity) (count used : ℕ) (holes : Numbers) (slots made : List (Option NodeRow)) (register : Register) (n moment : ℕ) → IsKept K count used holes slots register → is_folder (rows_of slots) n ≡ false → moment ≤ latest_moment → AreSlots 0 made → rows_of made ≡ with_change number n (touched moment) (rows_of slots) → length made ≡ length slots → IsKept K count used holes made register
touched_kept K count used holes slots made register n moment k file m are rows len =
    let inner = file_inner K (rows_of slots) n k.volume file in
    kept_changed K count used holes slots made register n (touched moment) k
    (record { same_number = λ r. refl; same_parent = λ r. refl; same_name = λ r. refl; same_folder = λ r. refl }) inner
    (λ r h.
    let p = own_parts r (k.volume.own n r h inner) in
    own_joined (touched moment r) (record { named = p.named; short = p.short; made = p.made; changed = p.changed; seen = le_test moment latest_moment m }))
    are rows len

-- the bytes of a node's name
pub name_fits : (K : Capacity) (nodes : List NodeRow) (n : ℕ) → IsVolume K nodes → has_row number n nodes ≡ true → length (name_of nodes n) ≤ name_bytes nodes
name_fits K nodes n v h = omega (arith, name_bytes-removed nodes n v.ascending h)

-- and its number is below the bound
pub node_below : (K : Capacity) (nodes : List NodeRow) (n : ℕ) → IsVolume K nodes → has_row number n nodes ≡ true → n < K.nodes
node_below K nodes n v h = let f = has_found number n nodes h in lt_is n K.nodes (v.below n f.row f.is)

not_other : (o : Option ℕ) (s n : ℕ) → is_other o n ≡ false → o ≡ Some s → s ≡ n
not_other None s n h e = cc
not_other (Some k) s n h e = let same : k ≡ s = same_Some k s e in let is : k ≡ n = eq_is k n (not_not (k == n) h) in sym same ∙ is
  where
    not_not : (b : Bool) → not b ≡ false → b ≡ true
    not_not true h = refl
    not_not false h = cc

-- if nothing is against a move, the nodes are those of a volume afterwards
pub volume_placed : (K : Capacity) (nodes : List NodeRow) (x d : ℕ) (name : List ℕ) → IsVolume K nodes → has_row number x nodes ≡ true → (x == 0) ≡ false → is_folder nodes d ≡ true → is_name name ≡ true → is_under nodes x d ≡ false → is_other (child_number nodes d name) x ≡ false → name_bytes nodes + length name ≤ K.names + length (name_of nodes x) → IsVolume K (with_change number x (placed d name) nodes)
volume_placed K nodes x d name v has inner folder named apart alone room =
    let f = has_found number x nodes has in
    let e : length (name_of nodes x) ≡ length f.row.name = ap length (found_name nodes x f.row f.is) in
    let p = own_parts f.row (v.own x f.row f.is inner) in
    let first = own_named name f.row.name f.row.owner named p.named in
    volume-moved K nodes x d name v (record {
      inner = inner;
      row = f.row;
      found = f.is;
      folder = folder;
      apart = apart;
      own = own_joined (placed d name f.row) (record { named = first; short = p.short; made = p.made; changed = p.changed; seen = p.seen });
      alone = λ s h. not_other (child_number nodes d name) s.number x alone (ap (option_map number) h);
      names = omega (arith, e, room);
    })

-- a node at another place is kept
pub kept_moved : (K : Capacity) (count used now : ℕ) (holes : Numbers) (slots made : List (Option NodeRow)) (register moved : Register) (x d : ℕ) (name : List ℕ) → IsKept K count used holes slots register → has_row number x (rows_of slots) ≡ true → IsVolume K (with_change number x (placed d name) (rows_of slots)) → now + length (name_of (rows_of slots) x) ≡ used + length name → AreSlots 0 made → rows_of made ≡ with_change number x (placed d name) (rows_of slots) → length made ≡ length slots → IsRegister (rows_of made) [] moved → moved.order.room ≡ register.order.room → IsKept K count now holes made moved
kept_moved K count used now holes slots made register moved x d name k has volume bytes are rows len entered same_room =
    let nodes = rows_of slots in
    let u = k.used_is in
    let sum = name_bytes-placed nodes x d name k.volume.ascending has in
    let used_here : now ≡ name_bytes (with_change number x (placed d name) nodes) = omega (arith, u, sum, bytes) in
    record {
      volume = subst (IsVolume K) (sym rows) volume;
      size = k.size;
      slots_are = are;
      count_is = k.count_is ∙ (sym (length-change number x (placed d name) nodes) ∙ ap length (sym rows));
      used_is = used_here ∙ ap name_bytes (sym rows);
      bound_is = k.bound_is;
      holes_are = holes_changed slots made holes.members x (placed d name) (λ r. refl) k.holes_are rows len;
      register_is = entered;
      room_is = same_room ∙ k.room_is;
    }

no_children : (n : ℕ) → not (n == 0) ≡ false → n ≡ 0
no_children n h = grind (arith, nat_tests)

-- a node that went is kept away
pub volume_gone : (K : Capacity) (nodes : List NodeRow) (n : ℕ) → IsVolume K nodes → has_row number n nodes ≡ true → (n == 0) ≡ false → not (length (children nodes n) == 0) ≡ false → IsVolume K (without_row number n nodes)
volume_gone K nodes n v has inner leaf =
    let f = has_found number n nodes has in
    volume-removed K nodes n v (record {
      inner = inner;
      row = f.row;
      found = f.is;
      leaf = none_filtered (is_child n) nodes (no_children (length (children nodes n)) leaf);
    })

pub kept_gone : (K : Capacity) (count used : ℕ) (holes : Numbers) (slots made : List (Option NodeRow)) (register less : Register) (n : ℕ) → IsKept K count used holes slots register → has_row number n (rows_of slots) ≡ true → IsVolume K (without_row number n (rows_of slots)) → AreSlots 0 made → rows_of made ≡ without_row number n (rows_of slots) → length made ≡ length slots → IsRegister (rows_of made) [] less → less.order.room ≡ register.order.room → IsKept K (count - 1) (used - length (name_of (rows_of slots) n)) (record holes { members = with_number n holes.members }) made less
kept_gone K count used holes slots made register less n k has volume are rows len left same_room =
    let nodes = rows_of slots in
    let s = name_bytes-removed nodes n k.volume.ascending has in
    let fewer = length-removed number n nodes k.volume.ascending has in
    let c = k.count_is in
    let u = k.used_is in
    let count_here : count - 1 ≡ length (without_row number n nodes) = omega (arith, fewer, c) in
    let used_here : used - length (name_of nodes n) ≡ name_bytes (without_row number n nodes) = omega (arith, s, u) in
    record {
      volume = subst (IsVolume K) (sym rows) volume;
      size = k.size;
      slots_are = are;
      count_is = count_here ∙ ap length (sym rows);
      used_is = used_here ∙ ap name_bytes (sym rows);
      bound_is = k.bound_is;
      holes_are = holes_gone slots made holes.members n k.slots_are k.holes_are has rows len;
      register_is = left;
      room_is = same_room ∙ k.room_is;
    }

-- a tree that is arranged keeps its nodes
pub kept_settled : (K : Capacity) (count used : ℕ) (holes : Numbers) (slots : List (Option NodeRow)) (register arranged : Register) → IsKept K count used holes slots register → IsRegister (rows_of slots) [] arranged → arranged.order.room ≡ register.order.room → IsKept K count used holes slots arranged
kept_settled K count used holes slots register arranged k is same_room =
    record {
      volume = k.volume;
      size = k.size;
      slots_are = k.slots_are;
      count_is = k.count_is;
      used_is = k.used_is;
      bound_is = k.bound_is;
      holes_are = k.holes_are;
      register_is = is;
      room_is = same_room ∙ k.room_is;
    }

-- the length of a node
root_short : (r : NodeRow) → is_root_node r ≡ true → r.length ≡ 0
root_short r h = eq_is r.length 0 (both _ _ (both _ _ (both _ _ h).0).1).1

short_at : (f : Bool) (bytes : ℕ) → nat_le bytes (if f then 0 else longest_file) ≡ true → bytes ≤ longest_file
short_at true bytes h = grind (arith, nat_tests)
short_at false bytes h = grind (arith, nat_tests)

pub node_short : (K : Capacity) (nodes : List NodeRow) (n : ℕ) (r : NodeRow) → IsVolume K nodes → node_of nodes n ≡ Some r → r.length ≤ longest_file
node_short K nodes n r v h = choose (n == 0) refl
  where
    choose : (b : Bool) → (n == 0) ≡ b → r.length ≤ longest_file
    choose true e = let z = root_short r (v.root r (ap (node_of nodes) (sym (eq_is n 0 e)) ∙ h)) in omega (arith, z)
    choose false e = short_at r.folder r.length (own_parts r (v.own n r h e)).short

children_fit_at : (p : NodeRow → Bool) (r : NodeRow) (nodes : List NodeRow) (b : Bool) → length (filter p nodes) ≤ length nodes → length (cond b (r ∷ filter p nodes) (filter p nodes)) ≤ suc (length nodes)
children_fit_at p r nodes true l = omega (arith, l)
children_fit_at p r nodes false l = omega (arith, l)

filter_fit : (p : NodeRow → Bool) (nodes : List NodeRow) → length (filter p nodes) ≤ length nodes
filter_fit p [] = omega arith
filter_fit p (r ∷ nodes) = children_fit_at p r nodes (p r) (filter_fit p nodes)

-- a folder has no more children than there are nodes
pub children_fit : (nodes : List NodeRow) (folder : ℕ) → length (children nodes folder) ≤ length nodes
children_fit nodes folder = filter_fit (is_child folder) nodes
