-- Numbers in lists that have the same ones, and the numbers of all nodes but the root.
use Rattle.std.proofs.Common.{◌≡◌, ◌≢◌, ℕ, zero, suc, ◌<◌, ◌==◌, ◌||◌, Bool, true, false, cond, not, filter, inl, inr, All, AllPairs, List, [], ◌∷◌, ◌++◌, length, get_or, map, Option, Some, None, IsPermutation, refl, sym, ◌∙◌, ap, subst, arith}
use Rattle.std.specs.Prelude.{if◌then◌else◌}
use Rattle.std.specs.List.{Contains, list_any}
use Rattle.std.proofs.lemmas.Bool.Decides.{nat_tests, Decides-eqb}
use Rattle.std.proofs.lemmas.List.{get_or-map, length-map}
use Rattle.std.proofs.lemmas.List.Elements.{All-contains_itself, filter_passes}
use Rattle.std.proofs.lemmas.List.Folds.{list_any_at, list_any_none, list_any-append}
use Rattle.std.proofs.lemmas.List.Sorted.{IsPermutation-append_left, IsPermutation-append_right, IsPermutation-cons, IsPermutation-map, IsPermutation-middle, IsPermutation-refl, IsPermutation-sym, IsPermutation-trans, Contains-permutation, length_permutation, list_any-IsPermutation}
use Rattle.std.proofs.lemmas.Map.Keys.{IsDistinct-IsPermutation}
use Rattle.std.proofs.lemmas.Map.Made.{AllPairs-from_IsDistinct, IsDistinct-from_AllPairs}
use Rattle.std.proofs.lemmas.Option.{same_Some}
use Rattle.fsrm_base.proofs.EditedRows.{absent_later, ascending_tail, without_absent}
use Rattle.fsrm_base.proofs.Look.{found_any, found_key, row_of-without}
use Rattle.fsrm_base.proofs.Order.{ascending-filter}
use Rattle.fsrm_base.proofs.TestLaws.{clash, eq_is, eq_same, is_false, is_or, not_true, or_later}
use Rattle.fsrm_base.specs.Keyed.{has_row, is_ascending, row_of, with_change, with_row, without_row}
use Rattle.fsrm_base.specs.Numbers.{is_in}
use Rattle.fsrm_model.specs.declared.row.NodeRow.{NodeRow}
use Rattle.fsrm_model.specs.nodes.Tree.{number, node_of}
use Rattle.node_order.specs.Order.{inner}
use Rattle.node_order.proofs.Edits.{filter-map, filters_turned, map-map_same, with_row_moves}
use Rattle.node_order.proofs.Items.{contains_cases, contains_head, contains_more, pairs_first, pairs_rest, same_items}
use Rattle.node_order.proofs.ListLaws.{ascending_pairs}

-- a number that stands in a list
pub in_contains : (ns : List ℕ) (n : ℕ) → Contains ns n → is_in ns n ≡ true
in_contains ns n c = list_any_at (λ k. k == n) ns c.0 n c.1 (ap (λ k. k == n) c.2 ∙ eq_same n)

pub contains_in : (ns : List ℕ) (n : ℕ) → is_in ns n ≡ true → Contains ns n
contains_in [] n h = cc
contains_in (k ∷ ns) n h =
    elim (is_or (k == n) (is_in ns n) h) [
      | inl e ↦ subst (Contains (k ∷ ns)) (eq_is k n e) (contains_head k ns)
      | inr d ↦ contains_more k ns n (contains_in ns n d)
    ]

pub in_permuted : (ns ms : List ℕ) (n : ℕ) → IsPermutation ns ms → is_in ns n ≡ is_in ms n
in_permuted ns ms n p = list_any-IsPermutation (λ k. k == n) ns ms p

pub in_append : (ns ms : List ℕ) (n : ℕ) → is_in (ns ++ ms) n ≡ (is_in ns n || is_in ms n)
in_append ns ms n = list_any-append (λ k. k == n) ns ms

-- numbers of which none stands twice
abbrev pub Once : List ℕ → Type 0
Once ns = AllPairs (λ (a b : ℕ). a ≢ b) ns

pub once_permuted : (ns ms : List ℕ) → IsPermutation ns ms → Once ns → Once ms
once_permuted ns ms p h =
    AllPairs-from_IsDistinct Decides-eqb ms (IsDistinct-IsPermutation ◌==◌ eq_flips ns ms p (IsDistinct-from_AllPairs Decides-eqb ns h))
  where
    eq_flips : (m n : ℕ) → (m == n) ≡ (n == m)
    eq_flips m n = grind (arith, nat_tests)

pub first_once : (n : ℕ) (ns : List ℕ) → Once (n ∷ ns) → is_in ns n ≡ false
first_once n ns h = not_true _ (λ t. pairs_first (λ (a b : ℕ). a ≢ b) n ns n h (contains_in ns n t) refl)

-- without its first number
pub cancel : (n : ℕ) (ns ms : List ℕ) → Once (n ∷ ns) → IsPermutation (n ∷ ns) (n ∷ ms) → IsPermutation ns ms
cancel n ns ms apart p =
    let size = length_permutation (n ∷ ns) (n ∷ ms) p in
    same_items ns ms (pairs_rest (λ (a b : ℕ). a ≢ b) n ns apart)
    (λ k d l.
    let x = get_or ns k d in
    let c : Contains ns x = All-contains_itself ns k d l in
    elim (contains_cases n ms x (Contains-permutation (n ∷ ns) (n ∷ ms) x p (contains_more n ns x c))) [
      | inl e ↦ absurd (pairs_first (λ (a b : ℕ). a ≢ b) n ns x apart c e)
      | inr h ↦ h
    ])
    (omega (arith, size))

-- a number of a part comes to the front
pub front : {X : Type 0} (xs ys : List X) (x : X) (zs : List X) → IsPermutation (xs ++ (ys ++ x ∷ zs)) (x ∷ (xs ++ (ys ++ zs)))
front xs ys x zs =
    IsPermutation-trans (xs ++ (ys ++ x ∷ zs)) (xs ++ x ∷ (ys ++ zs)) (x ∷ (xs ++ (ys ++ zs)))
    (IsPermutation-append_right xs (ys ++ x ∷ zs) (x ∷ (ys ++ zs)) (IsPermutation-middle ys x zs))
    (IsPermutation-middle xs x (ys ++ zs))

-- a row of a number, and the others
gone_at : {X : Type 0} (key : X → ℕ) (n : ℕ) (r x : X) (xs : List X) (b : Bool) → (key x == n) ≡ b → is_ascending key (x ∷ xs) ≡ true → cond b (Some x) (row_of key n xs) ≡ Some r → (row_of key n xs ≡ Some r → IsPermutation xs (r ∷ without_row key n xs)) → IsPermutation (x ∷ xs) (r ∷ cond (not b) (x ∷ without_row key n xs) (without_row key n xs))
gone_at key n r x xs true e a f rest =
    let low = eq_is (key x) n e in
    let same : without_row key n xs ≡ xs = without_absent key n xs (absent_later key n x xs (omega (arith, low)) a) in
    subst (λ ys. IsPermutation (x ∷ xs) (r ∷ ys)) (sym same) (subst (λ y. IsPermutation (x ∷ xs) (y ∷ xs)) (same_Some x r f) (IsPermutation-refl (x ∷ xs)))
gone_at key n r x xs false e a f rest =
    let others = without_row key n xs in
    IsPermutation-trans (x ∷ xs) (x ∷ r ∷ others) (r ∷ x ∷ others)
    (IsPermutation-cons x xs (r ∷ others) (rest f))
    (IsPermutation-middle (x ∷ []) r others)

gone_moves : {X : Type 0} (key : X → ℕ) (n : ℕ) (r : X) (rows : List X) → is_ascending key rows ≡ true → row_of key n rows ≡ Some r → IsPermutation rows (r ∷ without_row key n rows)
gone_moves key n r [] a f = cc
gone_moves key n r (x ∷ xs) a f = gone_at key n r x xs (key x == n) refl a f (gone_moves key n r xs (ascending_tail key x xs a))

-- the numbers of all nodes but the root
abbrev pub inner_numbers : List NodeRow → List ℕ
inner_numbers nodes = map number (inner nodes)

pub inner_once : (nodes : List NodeRow) → is_ascending number nodes ≡ true → Once (inner_numbers nodes)
inner_once nodes a i j d l m e =
    let up = ascending_pairs number (inner nodes) (ascending-filter number (λ (node : NodeRow). not (node.number == 0)) nodes a) in
    some_row (inner nodes) i j d l m e up
  where
    some_row : (rows : List NodeRow) (i j d : ℕ) → i < j → j < length (map number rows) → get_or (map number rows) i d ≡ get_or (map number rows) j d → AllPairs (λ (x y : NodeRow). x.number < y.number) rows → ⊥
    some_row [] i j d l m e up = absurd (omega arith)
    some_row (r ∷ rows) i j d l m e up =
        let size = length-map (r ∷ rows) number in
        let low = get_or-map number (r ∷ rows) i r d (omega (arith, l, m, size)) in
        let high = get_or-map number (r ∷ rows) j r d (omega (arith, m, size)) in
        let less = up i j r l (omega (arith, m, size)) in
        omega (arith, less, e, low, high)

pub root_out : (nodes : List NodeRow) → is_in (inner_numbers nodes) 0 ≡ false
root_out nodes = none_zero (inner nodes) (filter_passes (λ (node : NodeRow). not (node.number == 0)) nodes)
  where
    at : (rows : List NodeRow) → All (λ (r : NodeRow). not (r.number == 0) ≡ true) rows → (k d : ℕ) → k < length rows → (get_or (map number rows) k d == 0) ≡ false
    at [] h k d l = absurd (omega arith)
    at (r ∷ rows) h k d l =
        let read = get_or-map number (r ∷ rows) k r d l in
        ap (λ n. n == 0) read ∙ is_false _ (h k r l)

    none_zero : (rows : List NodeRow) → All (λ (r : NodeRow). not (r.number == 0) ≡ true) rows → is_in (map number rows) 0 ≡ false
    none_zero rows h =
        list_any_none (λ k. k == 0) (map number rows) (λ k d l.
        let size = length-map rows number in
        at rows h k d (omega (arith, l, size)))

pub node_in : (nodes : List NodeRow) (n : ℕ) (row : NodeRow) → node_of nodes n ≡ Some row → (n == 0) ≡ false → is_in (inner_numbers nodes) n ≡ true
node_in nodes n row found other =
    any_in (inner nodes) (found_any number (λ (r : NodeRow). number r == n) n (inner nodes) row (row_of-without number 0 n nodes other ∙ found) (ap (λ m. m == n) (found_key number n nodes row found) ∙ eq_same n))
  where
    any_in : (rows : List NodeRow) → list_any (λ (r : NodeRow). number r == n) rows ≡ true → is_in (map number rows) n ≡ true
    any_in [] h = h
    any_in (r ∷ rows) h = elim (is_or (number r == n) (list_any (λ (x : NodeRow). number x == n) rows) h) [
      | inl e ↦ rw e refl
      | inr d ↦ or_later (number r == n) (is_in (map number rows) n) (any_in rows d)
    ]

has_at : (r : NodeRow) (rows : List NodeRow) (n : ℕ) (b : Bool) → (is_in (inner_numbers rows) n ≡ true → has_row number n rows ≡ true) → is_in (map number (cond b (r ∷ inner rows) (inner rows))) n ≡ true → ((number r == n) || has_row number n rows) ≡ true
has_at r rows n true more t = elim (is_or (number r == n) (is_in (inner_numbers rows) n) t) [ inl e ↦ rw e refl | inr d ↦ or_later _ _ (more d) ]
has_at r rows n false more t = or_later _ _ (more t)

pub inner_has : (nodes : List NodeRow) (n : ℕ) → is_in (inner_numbers nodes) n ≡ true → has_row number n nodes ≡ true
inner_has [] n t = t
inner_has (r ∷ rows) n t = has_at r rows n (not (r.number == 0)) (inner_has rows n) t

-- after a node is new, changed or gone
pub inner_new : (nodes : List NodeRow) (row : NodeRow) → (row.number == 0) ≡ false → IsPermutation (inner_numbers (with_row number row nodes)) (row.number ∷ inner_numbers nodes)
inner_new nodes row other =
    IsPermutation-map number (inner (with_row number row nodes)) (row ∷ inner nodes)
    (IsPermutation-sym (row ∷ inner nodes) (inner (with_row number row nodes)) (with_row_moves number (λ (node : NodeRow). not (node.number == 0)) row nodes (ap not other)))

kept_number : (c : NodeRow → NodeRow) (r : NodeRow) (b : Bool) → (c r).number ≡ r.number → (cond b (c r) r).number ≡ r.number
kept_number c r true h = h
kept_number c r false h = refl

pub inner_changed : (nodes : List NodeRow) (n : ℕ) (c : NodeRow → NodeRow) → ((r : NodeRow) → (c r).number ≡ r.number) → inner_numbers (with_change number n c nodes) ≡ inner_numbers nodes
inner_changed nodes n c keeps =
    let g : NodeRow → NodeRow = λ r. if number r == n then c r else r in
    let same : (r : NodeRow) → (g r).number ≡ r.number = λ r. kept_number c r (number r == n) (keeps r) in
    ap (map number) (filter-map (λ (node : NodeRow). not (node.number == 0)) g (λ r. ap (λ i. not (i == 0)) (same r)) nodes) ∙ map-map_same number g same (inner nodes)

pub inner_gone : (nodes : List NodeRow) (n : ℕ) (row : NodeRow) → is_ascending number nodes ≡ true → node_of nodes n ≡ Some row → (n == 0) ≡ false → IsPermutation (inner_numbers nodes) (n ∷ inner_numbers (without_row number n nodes))
inner_gone nodes n row a found other =
    let up = ascending-filter number (λ (node : NodeRow). not (node.number == 0)) nodes a in
    let turned : inner (without_row number n nodes) ≡ without_row number n (inner nodes) = filters_turned (λ (node : NodeRow). not (node.number == 0)) (λ (node : NodeRow). not (node.number == n)) nodes in
    let moves = gone_moves number n row (inner nodes) up (row_of-without number 0 n nodes other ∙ found) in
    let all = IsPermutation-map number (inner nodes) (row ∷ without_row number n (inner nodes)) moves in
    subst (λ (m : ℕ). IsPermutation (inner_numbers nodes) (m ∷ inner_numbers (without_row number n nodes))) (found_key number n nodes row found)
    (subst (λ (rows : List NodeRow). IsPermutation (inner_numbers nodes) (row.number ∷ map number rows)) (sym turned) all)
