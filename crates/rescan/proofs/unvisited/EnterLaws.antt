-- Nodes of which the folders are put into a set, and the bytes of the files are summed.
use Rattle.std.proofs.Common.{◌≡◌, ℕ, ◌+◌, ◌<◌, ◌≤◌, Bool, true, false, cond, All, List, [], ◌∷◌, ◌++◌, length, get_or, take, Some, refl, sym, ◌∙◌, ap, subst, arith}
use Rattle.std.proofs.lemmas.List.Elements.{All-cons, All-filter, All-head, All-tail, filter-append}
use Rattle.std.proofs.lemmas.List.Sorted.{All-permutation}
use Rattle.std.proofs.lemmas.List.Sums.{sum_by-append, sum_by-cons, sum_by-take-le}
use Rattle.std.proofs.lemmas.List.{take_more}
use Rattle.std.specs.Prelude.{map, filter, sum_by}
use Rattle.std.specs.Option.{option_map_or}
use Rattle.fsrm_model.specs.declared.row.Capacity.{Capacity}
use Rattle.fsrm_model.specs.declared.row.NodeRow.{NodeRow}
use Rattle.fsrm_base.specs.Keyed.{has_row, is_ascending}
use Rattle.fsrm_base.specs.Numbers.{with_number, with_numbers}
use Rattle.fsrm_base.proofs.Look.{found_has}
use Rattle.fsrm_model.specs.values.Space.{alloc, space}
use Rattle.fsrm_model.specs.nodes.Tree.{number, node_of, is_folder, is_child, children, children_in_order}
use Rattle.fsrm_model.proofs.nodes.Keeps.{found_folder}
use Rattle.node_table.specs.declared.view.NodeView.{NodeView}
use Rattle.volume_tree.specs.Volume.{Shows}
use Rattle.node_order.proofs.ListLaws.{rows_found}
use Rattle.node_order.proofs.Items.{in_order_moves}
use Rattle.number_set.specs.Numbers.{Numbers}
use Rattle.rescan.specs.Visits.{folders_in, folders_among, space_of}
use Rattle.rescan.proofs.unvisited.ChildLaws.{before, sum-children, filter_least}

with_numbers-append : (ms ns members : List ℕ) → with_numbers (ms ++ ns) members ≡ with_numbers ns (with_numbers ms members)
with_numbers-append [] ns members = refl
with_numbers-append (m ∷ ms) ns members = with_numbers-append ms ns (with_number m members)

-- these nodes are entered
pub record Entered (K : Capacity) (nodes : List NodeRow) (numbers : List ℕ) (old new : Numbers) (sum : ℕ) : Type 0 where
  pub set : new ≡ record old { members = with_numbers (folders_among nodes numbers) old.members }
  pub bytes : sum ≡ sum_by (space_of K nodes) numbers

pub none_entered : (K : Capacity) (nodes : List NodeRow) (old : Numbers) → Entered K nodes [] old old 0
none_entered K nodes old = record { set = refl; bytes = refl }

pub more_entered : (K : Capacity) (nodes : List NodeRow) (first more : List ℕ) (old mid new : Numbers) (a b sum : ℕ) → Entered K nodes first old mid a → Entered K nodes more mid new b → sum ≡ a + b → Entered K nodes (first ++ more) old new sum
more_entered K nodes first more old mid new a b sum s t plus = record {
  set = t.set ∙ (ap (λ (m : Numbers). record m { members = with_numbers (folders_among nodes more) m.members }) s.set
      ∙ ap (λ ms. record old { members = ms }) (sym (ap (λ ns. with_numbers ns old.members) (filter-append (is_folder nodes) first more) ∙ with_numbers-append (folders_among nodes first) (folders_among nodes more) old.members)));
  bytes = omega (arith, plus, s.bytes, t.bytes, sum_by-append (space_of K nodes) first more);
}

one_folder : (nodes : List NodeRow) (n : ℕ) (b : Bool) → is_folder nodes n ≡ b → folders_among nodes (n ∷ []) ≡ cond b (n ∷ []) []
one_folder nodes n b e = ap (λ c. cond c (n ∷ []) []) e

one_space : (K : Capacity) (nodes : List NodeRow) (n : ℕ) (row : NodeRow) → node_of nodes n ≡ Some row → sum_by (space_of K nodes) (n ∷ []) ≡ space K row
one_space K nodes n row f = omega (arith, sum_by-cons (space_of K nodes) n [], ap (λ o. option_map_or (space K) o 0) f)

pub folder_entered : (K : Capacity) (nodes : List NodeRow) (n : ℕ) (view : NodeView) (old new : Numbers) → Shows view nodes n → view.folder ≡ true → new ≡ record old { members = with_number n old.members } → Entered K nodes (n ∷ []) old new 0
folder_entered K nodes n view old new s e put =
    let kind : s.row.folder ≡ true = sym s.is.folder ∙ e in
    let none : space K s.row ≡ 0 = ap (λ b. cond b 0 (alloc K s.row.length)) kind in
    record {
      set = put ∙ ap (λ ns. record old { members = with_numbers ns old.members }) (sym (one_folder nodes n true (found_folder nodes n s.row s.found ∙ kind)));
      bytes = omega (arith, one_space K nodes n s.row s.found, none);
    }

pub file_entered : (K : Capacity) (nodes : List NodeRow) (n : ℕ) (view : NodeView) (old new : Numbers) (bytes : ℕ) → Shows view nodes n → view.folder ≡ false → new ≡ old → bytes ≡ alloc K view.length → Entered K nodes (n ∷ []) old new bytes
file_entered K nodes n view old new bytes s e stays is =
    let kind : s.row.folder ≡ false = sym s.is.folder ∙ e in
    let own : space K s.row ≡ alloc K view.length = ap (λ b. cond b 0 (alloc K s.row.length)) kind ∙ ap (alloc K) (sym s.is.bytes) in
    record {
      set = stays ∙ ap (λ ns. record old { members = with_numbers ns old.members }) (sym (one_folder nodes n false (found_folder nodes n s.row s.found ∙ kind)));
      bytes = omega (arith, is, one_space K nodes n s.row s.found, own);
    }

-- rows that are found by their numbers
abbrev AreFound : List NodeRow → List NodeRow → Type 0
AreFound nodes rows = All (λ (r : NodeRow). node_of nodes r.number ≡ Some r) rows

among_rows : (nodes rows : List NodeRow) → AreFound nodes rows → folders_among nodes (map number rows) ≡ map number (filter (λ (r : NodeRow). r.folder) rows)
among_rows nodes [] found = refl
among_rows nodes (row ∷ rows) found =
    let kind = found_folder nodes row.number row (All-head (λ (r : NodeRow). node_of nodes r.number ≡ Some r) row rows found) in
    ap (λ b. cond b (row.number ∷ folders_among nodes (map number rows)) (folders_among nodes (map number rows))) kind
    ∙ at row.folder (among_rows nodes rows (All-tail (λ (r : NodeRow). node_of nodes r.number ≡ Some r) row rows found))
  where
    at : (b : Bool) → folders_among nodes (map number rows) ≡ map number (filter (λ (r : NodeRow). r.folder) rows) → cond b (row.number ∷ folders_among nodes (map number rows)) (folders_among nodes (map number rows)) ≡ map number (cond b (row ∷ filter (λ (r : NodeRow). r.folder) rows) (filter (λ (r : NodeRow). r.folder) rows))
    at true e = ap (λ ns. row.number ∷ ns) e
    at false e = e

space_rows : (K : Capacity) (nodes rows : List NodeRow) → AreFound nodes rows → sum_by (space_of K nodes) (map number rows) ≡ sum_by (space K) rows
space_rows K nodes [] found = refl
space_rows K nodes (row ∷ rows) found =
    let own = ap (λ o. option_map_or (space K) o 0) (All-head (λ (r : NodeRow). node_of nodes r.number ≡ Some r) row rows found) in
    let rest = space_rows K nodes rows (All-tail (λ (r : NodeRow). node_of nodes r.number ≡ Some r) row rows found) in
    omega (arith, sum_by-cons (space_of K nodes) row.number (map number rows), sum_by-cons (space K) row rows, own, rest)

children_found : (nodes : List NodeRow) (folder : ℕ) → is_ascending number nodes ≡ true → AreFound nodes (children_in_order nodes folder)
children_found nodes folder a =
    All-permutation (λ (r : NodeRow). node_of nodes r.number ≡ Some r) (children nodes folder) (children_in_order nodes folder) (in_order_moves before (children nodes folder))
    (All-filter (is_child folder) (λ (r : NodeRow). node_of nodes r.number ≡ Some r) nodes (rows_found number nodes a))

-- all children of a folder
pub all_entered : (K : Capacity) (nodes : List NodeRow) (folder : ℕ) (numbers : List ℕ) (old new : Numbers) (sum : ℕ) → is_ascending number nodes ≡ true → numbers ≡ map number (children_in_order nodes folder) → Entered K nodes numbers old new sum → (new ≡ record old { members = with_numbers (folders_in nodes folder) old.members }) × (sum ≡ sum_by (space K) (children nodes folder))
all_entered K nodes folder numbers old new sum a are t =
    let found = children_found nodes folder a in (
      t.set ∙ ap (λ ns. record old { members = with_numbers ns old.members }) (ap (folders_among nodes) are ∙ among_rows nodes (children_in_order nodes folder) found),
      t.bytes ∙ (ap (sum_by (space_of K nodes)) are ∙ (space_rows K nodes (children_in_order nodes folder) found ∙ sum-children (space K) nodes folder)),
    )

-- some of the children are there, and take no more than all files
pub part_small : (K : Capacity) (nodes : List NodeRow) (folder : ℕ) (first part rest : List ℕ) → is_ascending number nodes ≡ true → first ++ (part ++ rest) ≡ map number (children_in_order nodes folder) → sum_by (space_of K nodes) first + sum_by (space_of K nodes) part ≤ sum_by (space K) nodes
part_small K nodes folder first part rest a are =
    omega (arith, sum_by-append (space_of K nodes) first (part ++ rest), sum_by-append (space_of K nodes) part rest, ap (sum_by (space_of K nodes)) are, space_rows K nodes (children_in_order nodes folder) (children_found nodes folder a), sum-children (space K) nodes folder, filter_least (space K) (is_child folder) nodes)

all_behind : (P : ℕ → Type 0) (xs ys : List ℕ) → All P (xs ++ ys) → All P ys
all_behind P [] ys h = h
all_behind P (x ∷ xs) ys h = all_behind P xs ys (All-tail P x (xs ++ ys) h)

all_front : (P : ℕ → Type 0) (xs ys : List ℕ) → All P (xs ++ ys) → All P xs
all_front P [] ys h = λ k d l. absurd (omega arith)
all_front P (x ∷ xs) ys h = All-cons P x xs (All-head P x (xs ++ ys) h) (all_front P xs ys (All-tail P x (xs ++ ys) h))

rows_there : (nodes rows : List NodeRow) → AreFound nodes rows → All (λ n. has_row number n nodes ≡ true) (map number rows)
rows_there nodes [] found = λ k d l. absurd (omega arith)
rows_there nodes (row ∷ rows) found =
    All-cons (λ n. has_row number n nodes ≡ true) row.number (map number rows)
    (found_has number row.number nodes row (All-head (λ (r : NodeRow). node_of nodes r.number ≡ Some r) row rows found))
    (rows_there nodes rows (All-tail (λ (r : NodeRow). node_of nodes r.number ≡ Some r) row rows found))

pub part_there : (nodes : List NodeRow) (folder : ℕ) (first part rest : List ℕ) → is_ascending number nodes ≡ true → first ++ (part ++ rest) ≡ map number (children_in_order nodes folder) → (k : ℕ) → k < length part → has_row number (get_or part k 0) nodes ≡ true
part_there nodes folder first part rest a are k l =
    all_front (λ n. has_row number n nodes ≡ true) part rest
    (all_behind (λ n. has_row number n nodes ≡ true) first (part ++ rest)
    (subst (All (λ n. has_row number n nodes ≡ true)) (sym are) (rows_there nodes (children_in_order nodes folder) (children_found nodes folder a)))) k 0 l

-- the first of these nodes and the next one take no more than all of them
pub front_small : (K : Capacity) (nodes : List NodeRow) (numbers : List ℕ) (k : ℕ) → k < length numbers → sum_by (space_of K nodes) (take k numbers) + sum_by (space_of K nodes) (get_or numbers k 0 ∷ []) ≤ sum_by (space_of K nodes) numbers
front_small K nodes numbers k l =
    omega (arith, sum_by-append (space_of K nodes) (take k numbers) (get_or numbers k 0 ∷ []), ap (sum_by (space_of K nodes)) (take_more numbers k 0 l), sum_by-take-le (space_of K nodes) numbers (k + 1))
