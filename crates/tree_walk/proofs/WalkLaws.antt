-- A walk goes on from a node to its children.
use Rattle.std.proofs.Common.{◌≡◌, ℕ, ◌+◌, ◌*◌, ◌≤◌, Bool, true, false, cond, List, [], ◌∷◌, ◌++◌, length, length-append, map, fold, Some, refl, sym, ◌∙◌, ap, subst, arith}
use Rattle.std.proofs.lemmas.List.Sums.{sum_by-append, sum_by-cons, sum_by_push}
use Rattle.std.specs.Prelude.{filter, sum_by}
use Rattle.std.specs.List.{AllByRecursion}
use Rattle.fsrm_base.specs.Keyed.{has_row}
use Rattle.fsrm_base.specs.Order.{put, in_order}
use Rattle.fsrm_base.proofs.EditedRows.{all_rows}
use Rattle.fsrm_base.proofs.Look.{has_found}
use Rattle.fsrm_base.proofs.Sums.{sum_by-map}
use Rattle.fsrm_model.specs.declared.row.Capacity.{Capacity}
use Rattle.fsrm_model.specs.declared.row.NodeRow.{NodeRow}
use Rattle.fsrm_model.specs.values.Name.{name_before}
use Rattle.fsrm_model.specs.nodes.Tree.{number, node_of, is_folder, is_child, children, children_in_order, under}
use Rattle.fsrm_model.specs.store.Valid.{IsVolume}
use Rattle.fsrm_model.proofs.nodes.Keeps.{tree_of, found_folder}
use Rattle.fsrm_model.proofs.nodes.UsageLaws.{under_sum, no_child_of_file}
use Rattle.tree_walk.specs.Walk.{AreThere, inside, inside_if, total, one, left, Takes}

-- a sum stays where items are put in order
put_sum : {X : Type 0} (before : X → X → Bool) (f : X → ℕ) (x : X) (ys : List X) → sum_by f (put before x ys) ≡ f x + sum_by f ys
put_sum before f x [] = sum_by-cons f x []
put_sum {X} before f x (y ∷ ys) = at (before x y) (put_sum before f x ys)
  where
    at : (b : Bool) → sum_by f (put before x ys) ≡ f x + sum_by f ys → sum_by f (cond b (x ∷ y ∷ ys) (y ∷ put before x ys)) ≡ f x + sum_by f (y ∷ ys)
    at true e = sum_by-cons f x (y ∷ ys)
    at false e = omega (arith, sum_by-cons f y (put before x ys), sum_by-cons f y ys, e)

sum_from : {X : Type 0} (before : X → X → Bool) (f : X → ℕ) (sorted xs : List X) → sum_by f (fold (λ ys x. put before x ys) sorted xs) ≡ sum_by f sorted + sum_by f xs
sum_from before f sorted [] = omega arith
sum_from before f sorted (x ∷ xs) = omega (arith, sum_from before f (put before x sorted) xs, put_sum before f x sorted, sum_by-cons f x xs)

sum_in_order : {X : Type 0} (before : X → X → Bool) (f : X → ℕ) (xs : List X) → sum_by f (in_order before xs) ≡ sum_by f xs
sum_in_order before f xs = omega (arith, sum_from before f [] xs)

-- what holds of each item
put_all : {X : Type 0} (before : X → X → Bool) (P : X → Type 0) (x : X) (ys : List X) → P x → AllByRecursion P ys → AllByRecursion P (put before x ys)
put_all before P x [] h each = (h, tt)
put_all before P x (y ∷ ys) h each = at (before x y) (put_all before P x ys h each.1)
  where
    at : (b : Bool) → AllByRecursion P (put before x ys) → AllByRecursion P (cond b (x ∷ y ∷ ys) (y ∷ put before x ys))
    at true rest = (h, each)
    at false rest = (each.0, rest)

pub all_from : {X : Type 0} (before : X → X → Bool) (P : X → Type 0) (sorted xs : List X) → AllByRecursion P sorted → AllByRecursion P xs → AllByRecursion P (fold (λ ys x. put before x ys) sorted xs)
all_from before P sorted [] h each = h
all_from before P sorted (x ∷ xs) h each = all_from before P (put before x sorted) xs (put_all before P x sorted each.0 h) each.1

all_kept : {X : Type 0} (P : X → Type 0) (p : X → Bool) (xs : List X) → AllByRecursion P xs → AllByRecursion P (filter p xs)
all_kept P p [] each = tt
all_kept P p (x ∷ xs) each = at (p x) (all_kept P p xs each.1)
  where
    at : (b : Bool) → AllByRecursion P (filter p xs) → AllByRecursion P (cond b (x ∷ filter p xs) (filter p xs))
    at true rest = (each.0, rest)
    at false rest = rest

abbrev pub before : NodeRow → NodeRow → Bool
before a b = name_before a.name b.name

rows_there : (nodes rows : List NodeRow) → AllByRecursion (λ row. has_row number row.number nodes ≡ true) rows → AreThere nodes (map number rows)
rows_there nodes [] each = tt
rows_there nodes (row ∷ rows) each = (each.0, rows_there nodes rows each.1)

inside_there : (nodes : List NodeRow) (n : ℕ) → AreThere nodes (inside nodes n)
inside_there nodes n =
    let P : NodeRow → Type 0 = λ row. has_row number row.number nodes ≡ true in
    rows_there nodes (children_in_order nodes n) (all_from before P [] (children nodes n) tt (all_kept P (is_child n) nodes (all_rows number P nodes (λ r h. h))))

there-append : (nodes : List NodeRow) (xs ys : List ℕ) → AreThere nodes xs → AreThere nodes ys → AreThere nodes (xs ++ ys)
there-append nodes [] ys h g = g
there-append nodes (x ∷ xs) ys h g = (h.0, there-append nodes xs ys h.1 g)

pub there-front : (nodes : List NodeRow) (xs ys : List ℕ) → AreThere nodes (xs ++ ys) → AreThere nodes xs
there-front nodes [] ys h = tt
there-front nodes (x ∷ xs) ys h = (h.0, there-front nodes xs ys h.1)

there-last : (nodes : List NodeRow) (xs : List ℕ) (n : ℕ) → AreThere nodes (xs ++ n ∷ []) → has_row number n nodes ≡ true
there-last nodes [] n h = h.0
there-last nodes (x ∷ xs) n h = there-last nodes xs n h.1

-- what is at and below a node is the node, and what is at and below its children
inside_total : (K : Capacity) (nodes : List NodeRow) (measure : NodeRow → ℕ) (n : ℕ) (row : NodeRow) → IsVolume K nodes → node_of nodes n ≡ Some row → sum_by measure (under nodes n) ≡ measure row + total measure nodes (inside nodes n)
inside_total K nodes measure n row v h =
    let f : NodeRow → ℕ = λ c. sum_by measure (under nodes c.number) in
    omega (arith, under_sum nodes (tree_of K nodes v) v.ascending measure n row h, sum_in_order before f (children nodes n), sum_by-map (λ m. sum_by measure (under nodes m)) number (children_in_order nodes n))

-- at least the node itself
pub own : (K : Capacity) (nodes : List NodeRow) (n : ℕ) → IsVolume K nodes → has_row number n nodes ≡ true → 1 ≤ sum_by one (under nodes n)
own K nodes n v h =
    let f = has_found number n nodes h in
    omega (arith, inside_total K nodes one n f.row v f.is)

few : (K : Capacity) (nodes : List NodeRow) (numbers : List ℕ) → IsVolume K nodes → AreThere nodes numbers → length numbers ≤ left nodes numbers
few K nodes [] v h = omega arith
few K nodes (n ∷ numbers) v h =
    omega (arith, own K nodes n v h.0, few K nodes numbers v h.1, sum_by-cons (λ m. sum_by one (under nodes m)) n numbers)

pub nothing_inside : (K : Capacity) (nodes : List NodeRow) (n : ℕ) → IsVolume K nodes → (b : Bool) → is_folder nodes n ≡ b → inside_if b nodes n ≡ inside nodes n
nothing_inside K nodes n v true h = refl
nothing_inside K nodes n v false h = sym (ap (λ (rows : List NodeRow). map number (in_order before rows)) (no_child_of_file K nodes n v h))

-- ---- the last node that waits is taken
module _ (K : Capacity) (nodes : List NodeRow) (old rest new : List ℕ) (row : NodeRow) (v : IsVolume K nodes) (found : node_of nodes row.number ≡ Some row) (waits : AreThere nodes old) (last : old ≡ rest ++ row.number ∷ []) (goes : new ≡ rest ++ inside_if row.folder nodes row.number) where
  kind : is_folder nodes row.number ≡ row.folder
  kind = found_folder nodes row.number row found

  goes_on : new ≡ rest ++ inside nodes row.number
  goes_on = goes ∙ ap (λ (ns : List ℕ). rest ++ ns) (nothing_inside K nodes row.number v row.folder kind)

  rest_there : AreThere nodes rest
  rest_there = there-front nodes rest (row.number ∷ []) (subst (AreThere nodes) last waits)

  old_total : (measure : NodeRow → ℕ) → total measure nodes old ≡ total measure nodes rest + sum_by measure (under nodes row.number)
  old_total measure = ap (total measure nodes) last ∙ sum_by_push (λ n. sum_by measure (under nodes n)) rest row.number

  new_total : (measure : NodeRow → ℕ) → total measure nodes new ≡ total measure nodes rest + total measure nodes (inside nodes row.number)
  new_total measure = ap (total measure nodes) goes_on ∙ sum_by-append (λ n. sum_by measure (under nodes n)) rest (inside nodes row.number)

  pub takes : Takes nodes old new row
  takes =
      record {
        found = found;
        there = subst (AreThere nodes) (sym goes_on) (there-append nodes rest (inside nodes row.number) rest_there (inside_there nodes row.number));
        each = λ measure. omega (arith, old_total measure, new_total measure, inside_total K nodes measure row.number row v found);
      }

  -- the looks: one at the node, and if it is a folder one for its children and one for each
  pub takes_looks : (start now : ℕ) → now ≤ start + (2 + length (inside_if row.folder nodes row.number)) → now + (length old + 3 * left nodes new) ≤ start + (length new + 3 * left nodes old)
  takes_looks start now h =
      omega (
        arith,
        h,
        old_total one,
        new_total one,
        inside_total K nodes one row.number row v found,
        ap length last,
        length-append rest (row.number ∷ []),
        ap length goes,
        length-append rest (inside_if row.folder nodes row.number),
      )

-- and if memory runs out on the way
module _ (K : Capacity) (nodes : List NodeRow) (old rest : List ℕ) (n : ℕ) (v : IsVolume K nodes) (waits : AreThere nodes old) (last : old ≡ rest ++ n ∷ []) where
  pub last_there : has_row number n nodes ≡ true
  last_there = there-last nodes rest n (subst (AreThere nodes) last waits)

  pub stopped_looks : (start now : ℕ) → now ≤ start + (2 + length (inside nodes n)) → now + length old ≤ start + 3 * left nodes old
  stopped_looks start now h =
      let f = has_found number n nodes last_there in
      omega (
        arith,
        h,
        inside_total K nodes one n f.row v f.is,
        few K nodes (inside nodes n) v (inside_there nodes n),
        few K nodes rest v (there-front nodes rest (n ∷ []) (subst (AreThere nodes) last waits)),
        ap (left nodes) last,
        sum_by_push (λ m. sum_by one (under nodes m)) rest n,
        ap length last,
        length-append rest (n ∷ []),
      )
