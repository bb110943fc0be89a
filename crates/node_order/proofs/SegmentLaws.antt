-- A folder's children stand in the order as one segment.
use Rattle.std.proofs.Common.{◌≡◌, ℕ, ◌+◌, ◌-◌, ◌<◌, ◌≤◌, ◌==◌, not, nat_lt, Bool, true, false, AllPairs, inl, inr, List, [], length, get_or, map, drop, take, Some, refl, sym, ◌∙◌, ap, subst, arith}
use Rattle.std.specs.List.{Contains, between}
use Rattle.std.proofs.lemmas.Bool.{cases_order, cases_lt}
use Rattle.std.proofs.lemmas.Bool.Decides.{nat_tests}
use Rattle.std.proofs.lemmas.List.{drop-map, take-map, get_or_default}
use Rattle.std.proofs.lemmas.List.Edits.{length-between, get_or-between}
use Rattle.std.proofs.lemmas.List.Elements.{All-contains, All-contains_itself}
use Rattle.std.proofs.lemmas.List.Kept.{AllPairs-filter}
use Rattle.std.proofs.lemmas.List.Sorted.{All-permutation, Contains-permutation, length_permutation}
use Rattle.fsrm_model.specs.declared.row.NodeRow.{NodeRow}
use Rattle.fsrm_model.specs.nodes.Fresh.{root_node}
use Rattle.fsrm_base.specs.Keyed.{is_ascending}
use Rattle.fsrm_model.specs.values.Name.{name_before}
use Rattle.fsrm_base.specs.Order.{in_order}
use Rattle.fsrm_model.specs.nodes.Tree.{number, node_of, is_child, children, children_in_order}
use Rattle.fsrm_base.proofs.TestLaws.{eq_is, clash, both, is_false}
use Rattle.node_order.specs.Order.{IsListed, IsOrder, IsPlace, IsSegment}
use Rattle.node_order.proofs.ListLaws.{at, place_divides, ascending_pairs, rows_found, entry_of, entry_there, length-order_entries, order_listed}
use Rattle.node_order.proofs.Halving.{before_empty}
use Rattle.node_order.proofs.Items.{Differs, contains_found, contains_kept, contains_passing, passes_kept, same_sorted, in_order_moves, in_order_sorted}
use Rattle.node_order.proofs.Names.{comes_equal, name_before_then, name_before_turned}

-- where the folders that are less end
pub record Ends (folder : ℕ) (entries : List NodeRow) (place : ℕ) : Type 0 where
  pub within : place ≤ length entries
  pub below : (k : ℕ) → k < place → (at entries k).parent < folder
  pub above : (k : ℕ) → place ≤ k → k < length entries → folder ≤ (at entries k).parent

less_is : (m n : ℕ) (b : Bool) → b ≡ nat_lt m n → b ≡ true → m < n
less_is m n b e h = let t : nat_lt m n ≡ true = sym e ∙ h in grind (arith, nat_tests)

most_is : (m n : ℕ) (b : Bool) → b ≡ nat_lt m n → b ≡ false → n ≤ m
most_is m n b e h = let t : nat_lt m n ≡ false = sym e ∙ h in grind (arith, nat_tests)

pub place_ends : (nodes : List NodeRow) (order : List ℕ) (folder place : ℕ) (h : IsListed nodes order) → IsPlace nodes order folder [] place → Ends folder h.entries place
place_ends nodes order folder place h p =
    let d = place_divides nodes order folder [] place h p in
    record {
      within = d.within;
      below = λ k l. less_is (at h.entries k).parent folder _ (before_empty (at h.entries k) folder) (d.before k l);
      above = λ k l m. most_is (at h.entries k).parent folder _ (before_empty (at h.entries k) folder) (d.after k l m);
    }

-- a child is an entry of its folder
pub record ChildEntry (entries : List NodeRow) (folder : ℕ) (row : NodeRow) : Type 0 where
  pub place : ℕ
  pub below : place < length entries
  pub is : at entries place ≡ row
  pub folder_is : (at entries place).parent ≡ folder

pub entry_of_child : (nodes : List NodeRow) (order : List ℕ) (folder : ℕ) (row : NodeRow) (h : IsOrder nodes order) → is_ascending number nodes ≡ true → Contains (children nodes folder) row → ChildEntry h.entries folder row
entry_of_child nodes order folder row h a c =
    let own : node_of nodes row.number ≡ Some row = All-contains (λ (r : NodeRow). node_of nodes r.number ≡ Some r) nodes row (rows_found number nodes a) (contains_kept (is_child folder) nodes row c) in
    let test : (not (row.number == 0) ≡ true) × ((row.parent == folder) ≡ true) = both _ _ (passes_kept (is_child folder) nodes row c) in
    let e = entry_of nodes order row.number row h own (is_false _ test.0) in
    let is : at h.entries e.0 ≡ row = get_or_default h.entries e.0 root_node row e.1 ∙ e.2 in
    record { place = e.0; below = e.1; is = is; folder_is = ap (λ (r : NodeRow). r.parent) is ∙ eq_is _ _ test.1 }

child_test : (row : NodeRow) (folder : ℕ) → (row.number == 0) ≡ false → row.parent ≡ folder → is_child folder row ≡ true
child_test row folder h e = let t : (row.parent == folder) ≡ true = grind (arith, nat_tests) in rw (h, t) refl

pub child_of_entry : (nodes : List NodeRow) (order : List ℕ) (folder k : ℕ) (h : IsListed nodes order) → k < length h.entries → (at h.entries k).parent ≡ folder → Contains (children nodes folder) (at h.entries k)
child_of_entry nodes order folder k h l e =
    let row = at h.entries k in
    let own = entry_there nodes order k h l in
    contains_passing (is_child folder) nodes row (child_test row folder own.inner e) (contains_found (λ r. number r == row.number) nodes row own.found)

-- children differ in their names
before : NodeRow → NodeRow → Bool
before a b = name_before a.name b.name

in_folder : (nodes : List NodeRow) (order : List ℕ) (i j folder : ℕ) (h : IsOrder nodes order) → i < j → j < length h.entries → (at h.entries i).parent ≡ folder → (at h.entries j).parent ≡ folder → name_before (at h.entries i).name (at h.entries j).name ≡ true
in_folder nodes order i j folder h l m e f =
    let a = at h.entries i in
    let b = at h.entries j in
    sym (comes_equal a.parent a.name b.parent b.name (e ∙ sym f)) ∙ h.ascending i j root_node l m

differ_at : (nodes : List NodeRow) (order : List ℕ) (folder : ℕ) (a b : NodeRow) (h : IsOrder nodes order) → ChildEntry h.entries folder a → ChildEntry h.entries folder b → a.number < b.number → name_before b.name a.name ≡ false → name_before a.name b.name ≡ true
differ_at nodes order folder a b h c d l apart =
    elim (cases_order c.place d.place) [
      | inl e ↦ let same : a ≡ b = sym c.is ∙ (ap (at h.entries) e ∙ d.is) in let n : a.number ≡ b.number = ap (λ (r : NodeRow). r.number) same in absurd (omega arith)
      | inr (inl m) ↦ subst (λ (r : NodeRow). name_before r.name b.name ≡ true) c.is (subst (λ (r : NodeRow). name_before (at h.entries c.place).name r.name ≡ true) d.is (in_folder nodes order c.place d.place folder h m d.below c.folder_is d.folder_is))
      | inr (inr m) ↦
          let turned : name_before b.name a.name ≡ true =
          subst (λ (r : NodeRow). name_before r.name a.name ≡ true) d.is (subst (λ (r : NodeRow). name_before (at h.entries d.place).name r.name ≡ true) c.is (in_folder nodes order d.place c.place folder h m c.below d.folder_is c.folder_is)) in
          absurd (clash _ turned apart)
    ]

children_differ : (nodes : List NodeRow) (order : List ℕ) (folder : ℕ) (h : IsOrder nodes order) → is_ascending number nodes ≡ true → AllPairs (Differs (λ a b. name_before a.name b.name)) (children nodes folder)
children_differ nodes order folder h a i j d l m =
    let cs = children nodes folder in
    let each = All-contains_itself cs in
    differ_at nodes order folder (get_or cs i d) (get_or cs j d) h
    (entry_of_child nodes order folder (get_or cs i d) h a (each i d (omega arith)))
    (entry_of_child nodes order folder (get_or cs j d) h a (each j d m))
    (AllPairs-filter (λ (x y : NodeRow). x.number < y.number) (is_child folder) nodes (ascending_pairs number nodes a) i j d l m)

-- the segment of a folder
abbrev pub segment : List NodeRow → ℕ → ℕ → List NodeRow
segment entries first end = between first end entries

pub ends_ordered : (entries : List NodeRow) (folder first end : ℕ) → Ends folder entries first → Ends (folder + 1) entries end → first ≤ end
ends_ordered entries folder first end s t =
    elim (cases_lt end first) [
      | inl l ↦ let within = s.within in let less = s.below end l in let most = t.above end (omega arith) (omega arith) in absurd (omega arith)
      | inr l ↦ omega arith
    ]

segment_folder : (entries : List NodeRow) (folder first end k : ℕ) → Ends folder entries first → Ends (folder + 1) entries end → first ≤ k → k < end → (at entries k).parent ≡ folder
segment_folder entries folder first end k s t l m =
    let within = t.within in
    let less = t.below k m in
    let most = s.above k l (omega arith) in
    omega arith

segment_at : (entries : List NodeRow) (first end k : ℕ) (d : NodeRow) → end ≤ length entries → first + k < end → get_or (segment entries first end) k d ≡ at entries (first + k)
segment_at entries first end k d l m = get_or-between entries first end k d m ∙ get_or_default entries (first + k) d root_node (omega arith)

in_segment : (entries : List NodeRow) (folder first end : ℕ) (row : NodeRow) → Ends folder entries first → Ends (folder + 1) entries end → ChildEntry entries folder row → Contains (segment entries first end) row
in_segment entries folder first end row s t c =
    let within = t.within in
    let size = length-between entries first end within in
    let folder_is = c.folder_is in
    let low : first ≤ c.place =
    elim (cases_lt c.place first) [ inl l ↦ let less = s.below c.place l in absurd (omega arith) | inr l ↦ omega arith ] in
    let high : c.place < end =
    elim (cases_lt c.place end) [ inl l ↦ l | inr l ↦ let below = c.below in let most = t.above c.place (omega arith) below in absurd (omega arith) ] in
    let k = c.place - first in
    let place_is : first + k ≡ c.place = omega arith in
    (k, omega arith, segment_at entries first end k row within (omega arith) ∙ (ap (at entries) place_is ∙ c.is))

pub children_are_segment : (nodes : List NodeRow) (order : List ℕ) (folder first end : ℕ) (h : IsOrder nodes order) → is_ascending number nodes ≡ true → Ends folder h.entries first → Ends (folder + 1) h.entries end → children_in_order nodes folder ≡ segment h.entries first end
children_are_segment nodes order folder first end h a s t =
    let before : NodeRow → NodeRow → Bool = λ x y. name_before x.name y.name in
    let cs = children nodes folder in
    let run = segment h.entries first end in
    let within = t.within in
    let size = length-between h.entries first end within in
    let moved = in_order_moves before cs in
    same_sorted (λ (x y : NodeRow). name_before x.name y.name ≡ true) (λ x y l m. clash _ m (name_before_turned x.name y.name l))
    (in_order before cs) run
    (in_order_sorted before (λ x y z. name_before_then x.name y.name z.name) cs (children_differ nodes order folder h a))
    (λ i j d l m.
    let low = segment_at h.entries first end i d within (omega arith) in
    let high = segment_at h.entries first end j d within (omega arith) in
    rw (low, high) (in_folder nodes order (first + i) (first + j) folder h (omega arith) (omega arith)
    (segment_folder h.entries folder first end (first + i) s t (omega arith) (omega arith))
    (segment_folder h.entries folder first end (first + j) s t (omega arith) (omega arith))))
    (All-permutation (Contains run) cs (in_order before cs) moved
    (λ k d l. in_segment h.entries folder first end (get_or cs k d) s t (entry_of_child nodes order folder (get_or cs k d) h a (All-contains_itself cs k d l))))
    (λ k d l.
    let is = segment_at h.entries first end k d within (omega arith) in
    let child = child_of_entry nodes order folder (first + k) (order_listed nodes order h a) (omega arith) (segment_folder h.entries folder first end (first + k) s t (omega arith) (omega arith)) in
    subst (Contains (in_order before cs)) (sym is) (Contains-permutation cs (in_order before cs) (at h.entries (first + k)) moved child))

pub length-children : (nodes : List NodeRow) (order : List ℕ) (folder first end : ℕ) (h : IsOrder nodes order) → is_ascending number nodes ≡ true → Ends folder h.entries first → Ends (folder + 1) h.entries end → length (children nodes folder) ≡ end - first
length-children nodes order folder first end h a s t =
    sym (length_permutation (children nodes folder) (children_in_order nodes folder) (in_order_moves (λ x y. name_before x.name y.name) (children nodes folder)))
    ∙ (ap length (children_are_segment nodes order folder first end h a s t) ∙ length-between h.entries first end t.within)

-- where the children stand
numbers_between : (first end : ℕ) (rows : List NodeRow) → between first end (map number rows) ≡ map number (between first end rows)
numbers_between first end rows = ap (take (end - first)) (drop-map number first rows) ∙ take-map number (end - first) (drop first rows)

pub segment_of : (nodes : List NodeRow) (order : List ℕ) (folder f first end : ℕ) (h : IsOrder nodes order) → is_ascending number nodes ≡ true → f ≡ folder → IsPlace nodes order f [] first → IsPlace nodes order (f + 1) [] end → IsSegment nodes order folder first end
segment_of nodes order folder f first end h a e p q =
    let all = order_listed nodes order h a in
    let s = place_ends nodes order folder first all (subst (λ n. IsPlace nodes order n [] first) e p) in
    let t = place_ends nodes order (folder + 1) end all (subst (λ n. IsPlace nodes order (n + 1) [] end) e q) in
    let size = length-order_entries nodes order all in
    let within = t.within in
    record {
      ordered = ends_ordered h.entries folder first end s t;
      within = omega arith;
      children_are = ap (between first end) h.numbers ∙ (numbers_between first end h.entries ∙ ap (map number) (sym (children_are_segment nodes order folder first end h a s t)));
    }
