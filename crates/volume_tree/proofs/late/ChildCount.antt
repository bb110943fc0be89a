-- How many children a folder has, by the entries of listed nodes and of late ones.
use Rattle.std.proofs.Common.{◌≡◌, ℕ, zero, suc, ◌+◌, ◌-◌, ◌<◌, ◌≤◌, ◌==◌, ◌&&◌, not, Bool, true, false, cond, filter, All, List, [], ◌∷◌, ◌++◌, length, get_or, map, Option, Some, refl, sym, ◌∙◌, ap, subst, arith}
use Rattle.std.specs.List.{count_by}
use Rattle.std.specs.Option.{option_map_or}
use Rattle.std.proofs.lemmas.List.Elements.{All-head, All-tail}
use Rattle.std.proofs.lemmas.List.Sorted.{sum_by-IsPermutation}
use Rattle.std.proofs.lemmas.List.Sums.{sum_by-append, sum_by-cons}
use Rattle.fsrm_base.specs.Keyed.{is_ascending}
use Rattle.fsrm_base.specs.Numbers.{is_in}
use Rattle.fsrm_base.proofs.Look.{found_key}
use Rattle.fsrm_base.proofs.TestLaws.{eq_above, eq_below, eq_test, neither}
use Rattle.fsrm_model.specs.declared.row.NodeRow.{NodeRow}
use Rattle.fsrm_model.specs.nodes.Tree.{number, node_of, is_child, children}
use Rattle.block_list.specs.Runs.{entries_of}
use Rattle.node_order.specs.declared.entries.Entry.{Entry}
use Rattle.node_order.specs.Entries.{IsFirst, IsOwn, Sequence, number_in}
use Rattle.node_order.specs.Order.{IsListed, inner, is_child_of}
use Rattle.node_order.proofs.ListLaws.{at, entry_there, length-order_entries, number_there, rows_found}
use Rattle.node_order.proofs.Lower.{place_first}
use Rattle.node_order.proofs.SegmentLaws.{Ends, ends_ordered, place_ends}
use Rattle.volume_tree.specs.Late.{AreEntered}
use Rattle.volume_tree.proofs.late.Numbers.{inner_numbers}
use Rattle.volume_tree.proofs.late.Parents.{late_inner}

-- a number that is found is a child's if its row is
row_child : (nodes : List NodeRow) (n folder : ℕ) (row : NodeRow) → node_of nodes n ≡ Some row → is_child_of nodes n folder ≡ is_child folder row
row_child nodes n folder row f = ap (λ (o : Option NodeRow). option_map_or (λ r. is_child folder r) o false) f

-- one item more
counted_yes : {X : Type 0} (p : X → Bool) (x : X) (xs : List X) → p x ≡ true → count_by p (x ∷ xs) ≡ 1 + count_by p xs
counted_yes p x xs e = sum_by-cons (λ y. cond (p y) 1 0) x xs ∙ ap {B = ℕ} (λ b. cond b 1 0 + count_by p xs) e

counted_no : {X : Type 0} (p : X → Bool) (x : X) (xs : List X) → p x ≡ false → count_by p (x ∷ xs) ≡ count_by p xs
counted_no p x xs e =
    let none : cond (p x) 1 0 ≡ 0 = ap {B = ℕ} (λ b. cond b 1 0) e in
    let sum : count_by p (x ∷ xs) ≡ cond (p x) 1 0 + count_by p xs = sum_by-cons (λ y. cond (p y) 1 0) x xs in
    omega (arith, none, sum)

-- among the numbers of all nodes but the root
inner_counted : (nodes rows : List NodeRow) (folder : ℕ) → All (λ (r : NodeRow). node_of nodes r.number ≡ Some r) rows → count_by (λ n. is_child_of nodes n folder) (map number (inner rows)) ≡ length (filter (is_child folder) rows)
inner_counted nodes [] folder h = refl
inner_counted nodes (r ∷ rows) folder h =
    at (r.number == 0) (r.parent == folder) (row_child nodes r.number folder r (h 0 r (omega arith))) (inner_counted nodes rows folder (λ k d l. h (suc k) d (omega arith)))
  where
    at : (b c : Bool) → is_child_of nodes r.number folder ≡ (not b && c) → count_by (λ n. is_child_of nodes n folder) (map number (inner rows)) ≡ length (filter (is_child folder) rows) → count_by (λ n. is_child_of nodes n folder) (map number (cond (not b) (r ∷ inner rows) (inner rows))) ≡ length (cond (not b && c) (r ∷ filter (is_child folder) rows) (filter (is_child folder) rows))
    at true c e ih = ih
    at false true e ih =
        let sum : 1 + count_by (λ n. is_child_of nodes n folder) (map number (inner rows)) ≡ suc (length (filter (is_child folder) rows)) = omega (arith, ih) in
        counted_yes (λ n. is_child_of nodes n folder) r.number (map number (inner rows)) e ∙ sum
    at false false e ih = counted_no (λ n. is_child_of nodes n folder) r.number (map number (inner rows)) e ∙ ih

-- among those that are listed: items of which those from one place to another pass
count_between : {X : Type 0} (p : X → Bool) (xs : List X) (first end : ℕ) → first ≤ end → end ≤ length xs → ((k : ℕ) (d : X) → k < length xs → k < first → p (get_or xs k d) ≡ false) → ((k : ℕ) (d : X) → k < length xs → first ≤ k → k < end → p (get_or xs k d) ≡ true) → ((k : ℕ) (d : X) → k < length xs → end ≤ k → p (get_or xs k d) ≡ false) → count_by p xs + first ≡ end
count_between p [] first end l m low in_it high = omega arith
count_between p (x ∷ xs) (suc first) zero l m low in_it high = absurd (omega arith)
count_between p (x ∷ xs) (suc first) (suc end) l m low in_it high =
    let rest = count_between p xs first end (omega arith) (omega arith) (λ k d a b. low (suc k) d (omega arith) (omega arith)) (λ k d a b c. in_it (suc k) d (omega arith) (omega arith) (omega arith)) (λ k d a b. high (suc k) d (omega arith) (omega arith)) in
    omega (arith, rest, counted_no p x xs (low 0 x (omega arith) (omega arith)))
count_between p (x ∷ xs) zero (suc end) l m low in_it high =
    let rest = count_between p xs 0 end (omega arith) (omega arith) (λ k d a b. absurd (omega arith)) (λ k d a b c. in_it (suc k) d (omega arith) (omega arith) (omega arith)) (λ k d a b. high (suc k) d (omega arith) (omega arith)) in
    omega (arith, rest, counted_yes p x xs (in_it 0 x (omega arith) (omega arith) (omega arith)))
count_between p (x ∷ xs) zero zero l m low in_it high =
    let rest = count_between p xs 0 0 (omega arith) (omega arith) (λ k d a b. absurd (omega arith)) (λ k d a b c. absurd (omega arith)) (λ k d a b. high (suc k) d (omega arith) (omega arith)) in
    omega (arith, rest, counted_no p x xs (high 0 x (omega arith) (omega arith)))

entry_child : (nodes : List NodeRow) (order : List ℕ) (folder k d : ℕ) (h : IsListed nodes order) → k < length order → is_child_of nodes (get_or order k d) folder ≡ ((at h.entries k).parent == folder)
entry_child nodes order folder k d h l =
    let size = length-order_entries nodes order h in
    let e = entry_there nodes order k h (omega arith) in
    ap (λ n. is_child_of nodes n folder) (number_there nodes order k d h l)
    ∙ (row_child nodes (at h.entries k).number folder (at h.entries k) e.found ∙ ap (λ b. not b && ((at h.entries k).parent == folder)) e.inner)

listed_counted : (nodes : List NodeRow) (order : List ℕ) (folder first end : ℕ) (h : IsListed nodes order) → Ends folder h.entries first → Ends (folder + 1) h.entries end → count_by (λ n. is_child_of nodes n folder) order + first ≡ end
listed_counted nodes order folder first end h s t =
    let size = length-order_entries nodes order h in
    let within = t.within in
    let parent : ℕ → ℕ = λ k. (at h.entries k).parent in
    count_between (λ n. is_child_of nodes n folder) order first end (ends_ordered h.entries folder first end s t) (omega arith)
    (λ k d l m. entry_child nodes order folder k d h l ∙ eq_below (parent k) folder (s.below k m))
    (λ k d l m n. entry_child nodes order folder k d h l ∙ eq_test (parent k) folder (same k (s.above k m (omega arith)) (t.below k n)))
    (λ k d l m. entry_child nodes order folder k d h l ∙ eq_above (parent k) folder (more k (t.above k m (omega arith))))
  where
    same : (k : ℕ) → folder ≤ (at h.entries k).parent → (at h.entries k).parent < folder + 1 → (at h.entries k).parent ≡ folder
    same k a b = omega arith

    more : (k : ℕ) → folder + 1 ≤ (at h.entries k).parent → folder < (at h.entries k).parent
    more k a = omega arith

-- among those that are late
late_counted : (nodes : List NodeRow) (folder : ℕ) (late : List Entry) → All (IsOwn nodes) late → is_in (map number_in late) 0 ≡ false → count_by (λ n. is_child_of nodes n folder) (map number_in late) ≡ count_by (λ (e : Entry). e.parent == folder) late
late_counted nodes folder [] own none = refl
late_counted nodes folder (e ∷ late) own none =
    let is = All-head (IsOwn nodes) e late own in
    let parts = neither (e.node == 0) (is_in (map number_in late) 0) none in
    let n : is.row.number ≡ e.node = found_key number e.node nodes is.row is.found in
    let test : is_child_of nodes e.node folder ≡ (e.parent == folder) =
    row_child nodes e.node folder is.row is.found
    ∙ (ap (λ b. not b && (is.row.parent == folder)) (ap (λ i. i == 0) n ∙ parts.0) ∙ ap (λ p. p == folder) (sym is.parent_is)) in
    let rest = late_counted nodes folder late (All-tail (IsOwn nodes) e late own) parts.1 in
    sum_by-cons (λ n. cond (is_child_of nodes n folder) 1 0) e.node (map number_in late)
    ∙ (ap {B = ℕ} (λ b. cond b 1 0 + count_by (λ n. is_child_of nodes n folder) (map number_in late)) test
    ∙ (ap {B = ℕ} (λ n. cond (e.parent == folder) 1 0 + n) rest ∙ sym (sum_by-cons (λ (x : Entry). cond (x.parent == folder) 1 0) e late)))

-- all of them
pub record AreCounted (nodes : List NodeRow) (late : List Entry) (folder first end : ℕ) : Type 0 where
  pub ordered : first ≤ end
  pub sum : end - first + count_by (λ (e : Entry). e.parent == folder) late ≡ length (children nodes folder)

pub counted : (nodes : List NodeRow) (order : Sequence) (late : List Entry) (folder f first end : ℕ) → is_ascending number nodes ≡ true → AreEntered nodes [] order late → f ≡ folder → IsFirst order f first → IsFirst order (f + 1) end → AreCounted nodes late folder first end
counted nodes order late folder f first end a k is p q =
    let listed = entries_of order.runs in
    let h = k.listed in
    let s = place_ends nodes listed folder first h (place_first nodes order folder first h k.entries (subst (λ n. IsFirst order n first) is p)) in
    let t = place_ends nodes listed (folder + 1) end h (place_first nodes order (folder + 1) end h k.entries (subst (λ n. IsFirst order (n + 1) end) is q)) in
    let one = listed_counted nodes listed folder first end h s t in
    let two = late_counted nodes folder late k.own (late_inner nodes order late k) in
    let all = inner_counted nodes nodes folder (rows_found number nodes a) in
    let moved = sum_by-IsPermutation (λ n. cond (is_child_of nodes n folder) 1 0) (inner_numbers nodes) (listed ++ map number_in late) k.members in
    let sum = sum_by-append (λ n. cond (is_child_of nodes n folder) 1 0) listed (map number_in late) in
    record {
      ordered = ends_ordered h.entries folder first end s t;
      sum = omega (arith, one, two, all, moved, sum, ends_ordered h.entries folder first end s t);
    }
