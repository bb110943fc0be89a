-- What is at and below the nodes that are still to be visited.
use Rattle.std.proofs.Common.{◌≡◌, ℕ, suc, ◌+◌, ◌*◌, ◌<◌, ◌≤◌, ◌==◌, Bool, true, false, cond, inl, inr, List, [], ◌∷◌, ◌++◌, length, refl, sym, ◌∙◌, ap, arith, Some, fold, nat_lt}
use Rattle.std.proofs.lemmas.Bool.Decides.{nat_tests}
use Rattle.std.proofs.lemmas.List.Sums.{sum_by-cons, sum_by_push}
use Rattle.std.specs.Prelude.{map, filter, sum_by, nat_le}
use Rattle.std.specs.List.{AllByRecursion, list_all}
use Rattle.fsrm_model.specs.declared.row.Capacity.{Capacity}
use Rattle.fsrm_model.specs.declared.row.NodeRow.{NodeRow}
use Rattle.fsrm_base.specs.Keyed.{has_row, is_ascending}
use Rattle.fsrm_model.specs.store.Capacities.{is_capacity}
use Rattle.fsrm_model.specs.values.Limits.{longest_file}
use Rattle.fsrm_model.specs.values.Name.{name_before}
use Rattle.fsrm_base.specs.Order.{put, in_order}
use Rattle.fsrm_model.specs.values.Space.{alloc, space}
use Rattle.fsrm_model.specs.nodes.Tree.{number, node_of, is_child, children, children_in_order, is_under, under, usage}
use Rattle.fsrm_model.specs.store.Valid.{IsVolume}
use Rattle.fsrm_base.proofs.TestLaws.{is_or_not, both, eq_is, lt_is, le_is}
use Rattle.fsrm_base.proofs.EditedRows.{all_rows}
use Rattle.fsrm_base.proofs.Order.{parts}
use Rattle.fsrm_base.proofs.Members.{all_pass}
use Rattle.fsrm_base.proofs.Sums.{sum_by-map}
use Rattle.fsrm_model.proofs.valid.CapacityLaws.{nodes_most, alloc_most}
use Rattle.fsrm_model.proofs.nodes.Keeps.{found_folder}
use Rattle.fsrm_base.proofs.Look.{has_found}
use Rattle.fsrm_model.proofs.nodes.UsageLaws.{usage_children, count_children, usage_of_file, count_of_file}
use Rattle.node_table.specs.declared.view.NodeView.{NodeView}
use Rattle.volume_tree.specs.Volume.{Shows}
use Rattle.fsrm_parts.specs.Walk.{usage_of_all, under_all, AreThere}
use Rattle.volume_tree.proofs.slotted.FreshLaws.{few_nodes}

-- a sum stays where items are put in order
put_sum : {X : Type 0} (before : X → X → Bool) (f : X → ℕ) (x : X) (ys : List X) → sum_by f (put before x ys) ≡ f x + sum_by f ys
put_sum before f x [] = sum_by-cons f x []
put_sum {X} before f x (y ∷ ys) = at (before x y) (put_sum before f x ys)
  where
    at : (b : Bool) → sum_by f (put before x ys) ≡ f x + sum_by f ys → sum_by f (cond b (x ∷ y ∷ ys) (y ∷ put before x ys)) ≡ f x + sum_by f (y ∷ ys)
    at true e = sum_by-cons f x (y ∷ ys)
    at false e = omega (arith, sum_by-cons f y (put before x ys), sum_by-cons f y ys, e)

sum_from : {X : Type 0} (before : X → X → Bool) (f : X → ℕ) (sorted xs : List X) → sum_by f (fold (λ ys x. put before x ys) sorted xs) ≡ sum_by f sorted + sum_by f xs
sum_from before f sorted [] = omega arith
sum_from before f sorted (x ∷ xs) = omega (arith, sum_from before f (put before x sorted) xs, put_sum before f x sorted, sum_by-cons f x xs)

sum_in_order : {X : Type 0} (before : X → X → Bool) (f : X → ℕ) (xs : List X) → sum_by f (in_order before xs) ≡ sum_by f xs
sum_in_order before f xs = omega (arith, sum_from before f [] xs)

put_length : {X : Type 0} (before : X → X → Bool) (x : X) (ys : List X) → length (put before x ys) ≡ suc (length ys)
put_length before x [] = refl
put_length before x (y ∷ ys) = at (before x y) (put_length before x ys)
  where
    at : (b : Bool) → length (put before x ys) ≡ suc (length ys) → length (cond b (x ∷ y ∷ ys) (y ∷ put before x ys)) ≡ suc (suc (length ys))
    at true e = refl
    at false e = ap suc e

length_from : {X : Type 0} (before : X → X → Bool) (sorted xs : List X) → length (fold (λ ys x. put before x ys) sorted xs) ≡ length sorted + length xs
length_from before sorted [] = omega arith
length_from before sorted (x ∷ xs) = omega (arith, length_from before (put before x sorted) xs, put_length before x sorted)

-- and what holds of each item
put_all : {X : Type 0} (before : X → X → Bool) (P : X → Type 0) (x : X) (ys : List X) → P x → AllByRecursion P ys → AllByRecursion P (put before x ys)
put_all before P x [] h each = (h, tt)
put_all before P x (y ∷ ys) h each = at (before x y) (put_all before P x ys h each.1)
  where
    at : (b : Bool) → AllByRecursion P (put before x ys) → AllByRecursion P (cond b (x ∷ y ∷ ys) (y ∷ put before x ys))
    at true rest = (h, each)
    at false rest = (each.0, rest)

all_from : {X : Type 0} (before : X → X → Bool) (P : X → Type 0) (sorted xs : List X) → AllByRecursion P sorted → AllByRecursion P xs → AllByRecursion P (fold (λ ys x. put before x ys) sorted xs)
all_from before P sorted [] h each = h
all_from before P sorted (x ∷ xs) h each = all_from before P (put before x sorted) xs (put_all before P x sorted each.0 h) each.1

all_in_order : {X : Type 0} (before : X → X → Bool) (P : X → Type 0) (xs : List X) → AllByRecursion P xs → AllByRecursion P (in_order before xs)
all_in_order before P xs each = all_from before P [] xs tt each

all_kept : {X : Type 0} (P : X → Type 0) (p : X → Bool) (xs : List X) → AllByRecursion P xs → AllByRecursion P (filter p xs)
all_kept P p [] each = tt
all_kept P p (x ∷ xs) each = at (p x) (all_kept P p xs each.1)
  where
    at : (b : Bool) → AllByRecursion P (filter p xs) → AllByRecursion P (cond b (x ∷ filter p xs) (filter p xs))
    at true rest = (each.0, rest)
    at false rest = rest

abbrev before : NodeRow → NodeRow → Bool
before a b = name_before a.name b.name

-- the nodes of rows that are there
rows_there : (nodes rows : List NodeRow) → AllByRecursion (λ row. has_row number row.number nodes ≡ true) rows → AreThere nodes (map number rows)
rows_there nodes [] each = tt
rows_there nodes (row ∷ rows) each = (each.0, rows_there nodes rows each.1)

pub children_there : (nodes : List NodeRow) (folder : ℕ) → AreThere nodes (map number (children_in_order nodes folder))
children_there nodes folder =
    let P : NodeRow → Type 0 = λ row. has_row number row.number nodes ≡ true in
    rows_there nodes (children_in_order nodes folder) (all_in_order before P (children nodes folder) (all_kept P (is_child folder) nodes (all_rows number P nodes (λ r h. h))))

pub there-append : (nodes : List NodeRow) (xs ys : List ℕ) → AreThere nodes xs → AreThere nodes ys → AreThere nodes (xs ++ ys)
there-append nodes [] ys h g = g
there-append nodes (x ∷ xs) ys h g = (h.0, there-append nodes xs ys h.1 g)

pub there-front : (nodes : List NodeRow) (xs ys : List ℕ) → AreThere nodes (xs ++ ys) → AreThere nodes xs
there-front nodes [] ys h = tt
there-front nodes (x ∷ xs) ys h = (h.0, there-front nodes xs ys h.1)

pub there-back : (nodes : List NodeRow) (xs ys : List ℕ) → AreThere nodes (xs ++ ys) → AreThere nodes ys
there-back nodes [] ys h = h
there-back nodes (x ∷ xs) ys h = there-back nodes xs ys h.1

-- a folder takes what its children take, and has one node more
pub usage_of_folder : (K : Capacity) (nodes : List NodeRow) (n : ℕ) (r : NodeRow) → IsVolume K nodes → node_of nodes n ≡ Some r → r.folder ≡ true → usage K nodes n ≡ usage_of_all K nodes (map number (children_in_order nodes n))
usage_of_folder K nodes n r v h e =
    let none : space K r ≡ 0 = ap (λ b. cond b 0 (alloc K r.length)) e in
    let each = sum_by-map (usage K nodes) number (children_in_order nodes n) in
    let order = sum_in_order before (λ c. usage K nodes c.number) (children nodes n) in
    omega (arith, usage_children K nodes n r v h, none, each, order)

pub count_of_children : (K : Capacity) (nodes : List NodeRow) (n : ℕ) (r : NodeRow) → IsVolume K nodes → node_of nodes n ≡ Some r → length (under nodes n) ≡ 1 + under_all nodes (map number (children_in_order nodes n))
count_of_children K nodes n r v h =
    let each = sum_by-map (λ m. length (under nodes m)) number (children_in_order nodes n) in
    let order = sum_in_order before (λ c. length (under nodes c.number)) (children nodes n) in
    omega (arith, count_children K nodes n r v h, each, order)

-- each node is one of those below it
pub count_least : (K : Capacity) (nodes : List NodeRow) (n : ℕ) → IsVolume K nodes → has_row number n nodes ≡ true → 1 ≤ length (under nodes n)
count_least K nodes n v h =
    let f = has_found number n nodes h in
    omega (arith, count_children K nodes n f.row v f.is)

pub count_all : (K : Capacity) (nodes : List NodeRow) (numbers : List ℕ) → IsVolume K nodes → AreThere nodes numbers → length numbers ≤ under_all nodes numbers
count_all K nodes [] v h = omega arith
count_all K nodes (n ∷ numbers) v h =
    let below : ℕ → ℕ = λ m. length (under nodes m) in
    omega (arith, count_least K nodes n v h.0, count_all K nodes numbers v h.1, sum_by-cons below n numbers)

-- what a file takes
pub file_sum : (K : Capacity) (nodes : List NodeRow) (n : ℕ) (view : NodeView) → IsVolume K nodes → Shows view nodes n → view.folder ≡ false → usage K nodes n ≡ alloc K view.length
file_sum K nodes n view v shows e =
    let file : shows.row.folder ≡ false = sym shows.is.folder ∙ e in
    usage_of_file K nodes n shows.row v shows.found (found_folder nodes n shows.row shows.found ∙ file)
    ∙ (ap (λ (b : Bool). cond b 0 (alloc K shows.row.length)) file
    ∙ ap (alloc K) (sym shows.is.bytes))

pub file_count : (K : Capacity) (nodes : List NodeRow) (n : ℕ) (view : NodeView) → IsVolume K nodes → Shows view nodes n → view.folder ≡ false → length (under nodes n) ≡ 1
file_count K nodes n view v shows e =
    count_of_file K nodes n shows.row v shows.found (found_folder nodes n shows.row shows.found ∙ sym shows.is.folder ∙ e)

-- a node that is taken from the end
pub last_sum : (f : ℕ → ℕ) (numbers rest : List ℕ) (n : ℕ) → numbers ≡ rest ++ n ∷ [] → sum_by f numbers ≡ sum_by f rest + f n
last_sum f numbers rest n e = ap (sum_by f) e ∙ sum_by_push f rest n

-- so many nodes, and no more bytes than the longest files have
abbrev From : ℕ → ℕ → List NodeRow → Type 0
From n most [] = n ≤ most
From n most (row ∷ rows) = n ≤ number row

few_from : (n most : ℕ) (rows : List NodeRow) → From n most rows → is_ascending number rows ≡ true → list_all (λ row. nat_lt (number row) most) rows ≡ true → n + length rows ≤ most
few_from n most [] h a each = omega arith
few_from n most (row ∷ rows) h a each =
    let split = both _ _ each in
    let low : number row < most = lt_is _ _ split.0 in
    let rest = few_from (n + 1) most rows (next n most row rows h low a) (parts number row rows a).rest split.1 in
    omega (arith, rest)
  where
    next : (n most : ℕ) (row : NodeRow) (rows : List NodeRow) → n ≤ number row → number row < most → is_ascending number (row ∷ rows) ≡ true → From (n + 1) most rows
    next n most row [] h low a = omega arith
    next n most row (other ∷ rows) h low a = let up : number row < number other = lt_is _ _ (parts number row (other ∷ rows) a).above in omega arith

small_at : (K : Capacity) (b : Bool) (n : ℕ) → is_capacity K ≡ true → nat_le n (cond b 0 longest_file) ≡ true → nat_le (cond b 0 (alloc K n)) longest_file ≡ true
small_at K true n legal h = refl
small_at K false n legal h = le_test (alloc K n) longest_file (alloc_most K n legal (le_is n longest_file h))
  where
    le_test : (m n : ℕ) → m ≤ n → nat_le m n ≡ true
    le_test m n h = grind (arith, nat_tests)

small_row : (K : Capacity) (nodes : List NodeRow) → IsVolume K nodes → is_capacity K ≡ true → (row : NodeRow) → node_of nodes (number row) ≡ Some row → nat_le (space K row) longest_file ≡ true
small_row K nodes v legal row f = elim (is_or_not (number row == 0)) [
  | inl top ↦
      let root = v.root row (ap (node_of nodes) (sym (eq_is (number row) 0 top)) ∙ f) in
      let folder : row.folder ≡ true = (both _ _ (both _ _ (both _ _ root).0).0).0 in
      ap (λ (b : Bool). nat_le (cond b 0 (alloc K row.length)) longest_file) folder
  | inr inner ↦
      let own = v.own (number row) row f inner in
      small_at K row.folder row.length legal (both _ _ (both _ _ own).1).0
]

sum_small : (f : NodeRow → ℕ) (p : NodeRow → Bool) (most : ℕ) (rows : List NodeRow) → list_all (λ row. nat_le (f row) most) rows ≡ true → sum_by f (filter p rows) ≤ length rows * most
sum_small f p most [] each = omega arith
sum_small f p most (row ∷ rows) each =
    let split = both _ _ each in
    at (p row) (le_is (f row) most split.0) (sum_small f p most rows split.1)
  where
    at : (b : Bool) → f row ≤ most → sum_by f (filter p rows) ≤ length rows * most → sum_by f (cond b (row ∷ filter p rows) (filter p rows)) ≤ suc (length rows) * most
    at true low rest = omega (arith, sum_by-cons f row (filter p rows))
    at false low rest = omega arith

pub usage_small : (K : Capacity) (nodes : List NodeRow) (n : ℕ) → IsVolume K nodes → is_capacity K ≡ true → usage K nodes n ≤ 1048576 * longest_file
usage_small K nodes n v legal =
    let each = all_pass number (λ row. nat_le (space K row) longest_file) nodes v.ascending (small_row K nodes v legal) in
    let sum : usage K nodes n ≤ length nodes * longest_file = sum_small (space K) (λ row. is_under nodes n row.number) longest_file nodes each in
    let few : length nodes ≤ 1048576 = omega (arith, few_nodes K nodes v, nodes_most K legal) in
    omega (arith, sum, few)

-- what is left to be visited bounds the sum
pub sum_at_visit : (K : Capacity) (nodes : List NodeRow) (pending rest new : List ℕ) (n start total bytes : ℕ) → IsVolume K nodes → is_capacity K ≡ true → pending ≡ rest ++ n ∷ [] → total + usage_of_all K nodes pending ≡ usage K nodes start → bytes + usage_of_all K nodes new ≡ usage K nodes n + usage_of_all K nodes rest → total + bytes ≤ 1048576 * longest_file
sum_at_visit K nodes pending rest new n start total bytes v legal e sum more =
    omega (arith, sum, more, last_sum (usage K nodes) pending rest n e, usage_small K nodes start v legal)

-- each node's space is small, and the nodes are few
pub row_space : (K : Capacity) (nodes : List NodeRow) → IsVolume K nodes → is_capacity K ≡ true → (row : NodeRow) → node_of nodes (number row) ≡ Some row → space K row ≤ longest_file
row_space K nodes v legal row f = le_is (space K row) longest_file (small_row K nodes v legal row f)

pub nodes_few : (K : Capacity) (nodes : List NodeRow) → IsVolume K nodes → is_capacity K ≡ true → length nodes ≤ 1048576
nodes_few K nodes v legal = omega (arith, few_nodes K nodes v, nodes_most K legal)
