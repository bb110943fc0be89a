-- What an order of nodes tells.
use Rattle.std.proofs.Common.{◌≡◌, ℕ, zero, suc, ◌<◌, ◌≤◌, ◌==◌, ◌||◌, not, Bool, true, false, cond, All, AllPairs, List, [], ◌∷◌, length, get_or, slice_get, slice_index, Option, Some, refl, sym, ◌∙◌, ap, subst, arith}
use Rattle.std.specs.List.{Contains}
use Rattle.std.proofs.lemmas.Bool.Decides.{nat_tests}
use Rattle.std.proofs.lemmas.List.{get_or-map, length-map}
use Rattle.std.proofs.lemmas.List.Elements.{All-cons, All-filter, All-weaker, filter_passes}
use Rattle.std.proofs.lemmas.List.Kept.{AllPairs-cons}
use Rattle.std.proofs.lemmas.List.Sorted.{All-permutation, Contains-permutation}
use Rattle.std.proofs.lemmas.Option.{same_Some, slice_get-get_or, slice_get_within, get_or_from_slice_get}
use Rattle.fsrm_model.specs.declared.row.NodeRow.{NodeRow}
use Rattle.fsrm_model.specs.nodes.Fresh.{root_node}
use Rattle.fsrm_base.specs.Keyed.{is_ascending, row_of}
use Rattle.fsrm_base.specs.Numbers.{is_in}
use Rattle.fsrm_model.specs.nodes.Tree.{number, node_of}
use Rattle.fsrm_base.proofs.Look.{found_key}
use Rattle.fsrm_base.proofs.Order.{parts}
use Rattle.fsrm_base.proofs.TestLaws.{eq_is, eq_same, is_false}
use Rattle.node_order.specs.Order.{IsListed, IsOrder, IsPlace, inner, is_before}
use Rattle.node_order.proofs.Items.{contains_passing, contains_found}

-- ascending rows: each is below all later ones, and is found by its number

pub later_above : {X : Type 0} (key : X → ℕ) (x : X) (ys : List X) → is_ascending key (x ∷ ys) ≡ true → All (λ y. key x < key y) ys
later_above key x [] h = λ k d l. absurd (omega arith)
later_above key x (y ∷ ys) h =
    let p = parts key x (y ∷ ys) h in
    let first : key x < key y = let above = p.above in grind (arith, nat_tests) in
    All-cons (λ z. key x < key z) y ys first
    (All-weaker (λ z. key y < key z) (λ z. key x < key z) (λ z l. omega arith) ys (later_above key y ys p.rest))

pub ascending_pairs : {X : Type 0} (key : X → ℕ) (rows : List X) → is_ascending key rows ≡ true → AllPairs (λ a b. key a < key b) rows
ascending_pairs key [] h = λ i j d l m. absurd (omega arith)
ascending_pairs key (x ∷ xs) h =
    AllPairs-cons (λ a b. key a < key b) x xs (later_above key x xs h) (ascending_pairs key xs (parts key x xs h).rest)

found_later : {X : Type 0} (key : X → ℕ) (x y : X) (o : Option X) → key x < key y → o ≡ Some y → cond (key x == key y) (Some x) o ≡ Some y
found_later key x y o l e = let apart : (key x == key y) ≡ false = grind (arith, nat_tests) in ap (λ b. cond b (Some x) o) apart ∙ e

pub rows_found : {X : Type 0} (key : X → ℕ) (rows : List X) → is_ascending key rows ≡ true → All (λ r. row_of key (key r) rows ≡ Some r) rows
rows_found key [] h = λ k d l. absurd (omega arith)
rows_found key (x ∷ xs) h =
    let rest = rows_found key xs (parts key x xs h).rest in
    let above = later_above key x xs h in
    All-cons (λ r. row_of key (key r) (x ∷ xs) ≡ Some r) x xs (ap (λ b. cond b (Some x) (row_of key (key x) xs)) (eq_same (key x)))
    (λ k d l. found_later key x (get_or xs k d) (row_of key (key (get_or xs k d)) xs) (above k d l) (rest k d l))

-- an entry of the order is the node of its number
pub record Entry (nodes : List NodeRow) (row : NodeRow) : Type 0 where
  pub found : node_of nodes row.number ≡ Some row
  pub inner : (row.number == 0) ≡ false

inner_entries : (nodes : List NodeRow) → is_ascending number nodes ≡ true → All (Entry nodes) (inner nodes)
inner_entries nodes a =
    let test : NodeRow → Bool = λ node. not (node.number == 0) in
    let found = All-filter test (λ (r : NodeRow). node_of nodes r.number ≡ Some r) nodes (rows_found number nodes a) in
    let passes = filter_passes test nodes in
    λ k d l. record { found = found k d l; inner = is_false _ (passes k d l) }

pub entries_are : (nodes : List NodeRow) (order : List ℕ) (h : IsOrder nodes order) → is_ascending number nodes ≡ true → All (Entry nodes) h.entries
entries_are nodes order h a = All-permutation (Entry nodes) (inner nodes) h.entries h.members (inner_entries nodes a)

-- an order of all nodes is one of some
abbrev pub order_listed : (nodes : List NodeRow) (order : List ℕ) → IsOrder nodes order → is_ascending number nodes ≡ true → IsListed nodes order
order_listed nodes order h a = record {
  entries = h.entries;
  numbers = h.numbers;
  there = λ k d l. (entries_are nodes order h a k d l).found;
  inside = λ k d l. (entries_are nodes order h a k d l).inner;
  ascending = h.ascending;
}

-- each node but the root has an entry, if all are listed
pub entry_of : (nodes : List NodeRow) (order : List ℕ) (n : ℕ) (row : NodeRow) (h : IsOrder nodes order) → node_of nodes n ≡ Some row → (n == 0) ≡ false → Contains h.entries row
entry_of nodes order n row h found other =
    let test : NodeRow → Bool = λ node. not (node.number == 0) in
    let is : row.number ≡ n = found_key number n nodes row found in
    let passes : test row ≡ true = ap (λ (i : ℕ). not (i == 0)) is ∙ ap not other in
    Contains-permutation (inner nodes) h.entries row h.members (contains_passing test nodes row passes (contains_found (λ r. number r == n) nodes row found))

-- the entry at a place, whose number stands there
abbrev pub at : List NodeRow → ℕ → NodeRow
at entries k = get_or entries k root_node

pub length-order_entries : (nodes : List NodeRow) (order : List ℕ) (h : IsListed nodes order) → length order ≡ length h.entries
length-order_entries nodes order h = ap length h.numbers ∙ length-map h.entries number

pub number_there : (nodes : List NodeRow) (order : List ℕ) (k d : ℕ) (h : IsListed nodes order) → k < length order → get_or order k d ≡ (at h.entries k).number
number_there nodes order k d h l =
    let size = length-order_entries nodes order h in
    ap (λ xs. get_or xs k d) h.numbers ∙ get_or-map number h.entries k root_node d (omega arith)

pub entry_there : (nodes : List NodeRow) (order : List ℕ) (k : ℕ) (h : IsListed nodes order) → k < length h.entries → Entry nodes (at h.entries k)
entry_there nodes order k h l = record { found = h.there k root_node l; inner = h.inside k root_node l }

pub node_there : (nodes : List NodeRow) (order : List ℕ) (k : ℕ) (h : IsListed nodes order) → k < length order → node_of nodes (slice_index order k) ≡ Some (at h.entries k)
node_there nodes order k h l =
    let size = length-order_entries nodes order h in
    ap (node_of nodes) (number_there nodes order k 0 h l) ∙ h.there k root_node (omega arith)

-- the entry whose number a place has
pub record There (nodes : List NodeRow) (entries : List NodeRow) (k n : ℕ) : Type 0 where
  pub below : k < length entries
  pub number_is : (at entries k).number ≡ n
  pub found : node_of nodes n ≡ Some (at entries k)

pub there : (nodes : List NodeRow) (order : List ℕ) (k n : ℕ) (h : IsListed nodes order) → slice_get order k ≡ Some n → There nodes h.entries k n
there nodes order k n h e =
    let l = slice_get_within order k n e in
    let size = length-order_entries nodes order h in
    let is : (at h.entries k).number ≡ n = sym (number_there nodes order k n h l) ∙ get_or_from_slice_get order k n n e in
    record { below = omega arith; number_is = is; found = ap (node_of nodes) (sym is) ∙ h.there k root_node (omega arith) }

-- entries of one number stand at one place
pub same_entry : (nodes : List NodeRow) (order : List ℕ) (i j : ℕ) (h : IsListed nodes order) → i < length h.entries → j < length h.entries → (at h.entries i).number ≡ (at h.entries j).number → at h.entries i ≡ at h.entries j
same_entry nodes order i j h l m e =
    same_Some _ _ (sym (h.there i root_node l) ∙ (ap (node_of nodes) e ∙ h.there j root_node m))

-- a number that is listed stands somewhere
pub record StandsIn (order : List ℕ) (n : ℕ) : Type 0 where
  pub place : ℕ
  pub is : slice_get order place ≡ Some n

in_at : (m n : ℕ) (ns : List ℕ) (b : Bool) → (m == n) ≡ b → (b || is_in ns n) ≡ true → (is_in ns n ≡ true → StandsIn ns n) → StandsIn (m ∷ ns) n
in_at m n ns true e h f = record { place = 0; is = ap Some (eq_is m n e) }
in_at m n ns false e h f = let s = f h in record { place = suc s.place; is = s.is }

pub in_place : (ns : List ℕ) (n : ℕ) → is_in ns n ≡ true → StandsIn ns n
in_place [] n h = cc
in_place (m ∷ ns) n h = in_at m n ns (m == n) refl h (in_place ns n)

pub place_in : (ns : List ℕ) (k n : ℕ) → slice_get ns k ≡ Some n → is_in ns n ≡ true
place_in [] zero n e = cc
place_in [] (suc k) n e = cc
place_in (m ∷ ns) zero n e = ap (λ b. b || is_in ns n) (ap (λ i. i == n) (same_Some m n e) ∙ eq_same n)
place_in (m ∷ ns) (suc k) n e = ap (λ b. (m == n) || b) (place_in ns k n e) ∙ or_true (m == n)
  where
    or_true : (b : Bool) → (b || true) ≡ true
    or_true true = refl
    or_true false = refl

-- a place before which all entries pass a test, and after which none does
pub record Divides (test : NodeRow → Bool) (entries : List NodeRow) (place : ℕ) : Type 0 where
  pub within : place ≤ length entries
  pub before : (k : ℕ) → k < place → test (at entries k) ≡ true
  pub after : (k : ℕ) → place ≤ k → k < length entries → test (at entries k) ≡ false

pub place_divides : (nodes : List NodeRow) (order : List ℕ) (folder : ℕ) (name : List ℕ) (place : ℕ) (h : IsListed nodes order) → IsPlace nodes order folder name place → Divides (λ r. is_before r folder name) h.entries place
place_divides nodes order folder name place h p =
    let size = length-order_entries nodes order h in
    let within = p.within in
    let read : (k : ℕ) → k < length order → slice_get order k ≡ Some (slice_index order k) = λ k l. slice_get-get_or order k 0 l in
    record {
      within = omega arith;
      before = λ k l. p.before k (slice_index order k) (at h.entries k) l (read k (omega arith)) (node_there nodes order k h (omega arith));
      after = λ k l m. p.after k (slice_index order k) (at h.entries k) l (read k (omega arith)) (node_there nodes order k h (omega arith));
    }

pub divides_place : (nodes : List NodeRow) (order : List ℕ) (folder : ℕ) (name : List ℕ) (place : ℕ) (h : IsListed nodes order) → Divides (λ r. is_before r folder name) h.entries place → IsPlace nodes order folder name place
divides_place nodes order folder name place h p =
    let size = length-order_entries nodes order h in
    let within = p.within in
    let row_is : (k n : ℕ) (row : NodeRow) → slice_get order k ≡ Some n → node_of nodes n ≡ Some row → (k < length h.entries) × (at h.entries k ≡ row) = λ k n row e f.
    let t = there nodes order k n h e in (t.below, same_Some _ _ (sym t.found ∙ f)) in
    record {
      within = omega arith;
      before = λ k n row l e f. subst (λ (r : NodeRow). is_before r folder name ≡ true) (row_is k n row e f).1 (p.before k l);
      after = λ k n row l e f. subst (λ (r : NodeRow). is_before r folder name ≡ false) (row_is k n row e f).1 (p.after k l (row_is k n row e f).0);
    }
