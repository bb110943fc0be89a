-- Rows of which one is new, changed or gone: what is found, sums and lengths.
use Rattle.std.proofs.Common.{◌≡◌, ℕ, suc, ◌+◌, ◌<◌, ◌≤◌, ◌==◌, Bool, true, false, cond, not, ◌||◌, List, [], ◌∷◌, length, refl, sym, ◌∙◌, ap, arith, nat_lt, Some, None}
use Rattle.std.proofs.lemmas.Bool.Decides.{nat_tests}
use Rattle.std.proofs.lemmas.List.Sums.{sum_by-cons}
use Rattle.std.specs.Prelude.{find, filter, sum_by, if◌then◌else◌}
use Rattle.std.specs.List.{AllByRecursion, list_any}
use Rattle.fsrm_base.specs.Keyed.{row_of, has_row, with_row, with_change, without_row, is_ascending}
use Rattle.fsrm_base.proofs.TestLaws.{both, eq_same, lt_is, neither, or_later}

-- sums of rows
sum_by_kept : {X : Type 0} (f : X → ℕ) (x : X) (xs : List X) (b : Bool) → sum_by f (cond b (x ∷ xs) xs) ≡ cond b (f x) 0 + sum_by f xs
sum_by_kept f x xs true = sum_by-cons f x xs
sum_by_kept f x xs false = omega arith

pub sum_by-filter : {X : Type 0} (p : X → Bool) (f : X → ℕ) (xs : List X) → sum_by f (filter p xs) ≡ sum_by (λ x. if p x then f x else 0) xs
sum_by-filter p f [] = refl
sum_by-filter {X} p f (x ∷ xs) =
    let g : X → ℕ = λ y. if p y then f y else 0 in
    sum_by_kept f x (filter p xs) (p x) ∙ (ap (λ n. g x + n) (sum_by-filter p f xs) ∙ sym (sum_by-cons g x xs))

pub sum_by_same : {X : Type 0} (f g : X → ℕ) (xs : List X) → AllByRecursion (λ x. f x ≡ g x) xs → sum_by f xs ≡ sum_by g xs
sum_by_same f g [] h = refl
sum_by_same f g (x ∷ xs) h = omega (arith, sum_by-cons f x xs, sum_by-cons g x xs, h.0, sum_by_same f g xs h.1)

sum_by_placed : {X : Type 0} (f : X → ℕ) (row x : X) (xs more : List X) (b : Bool) → sum_by f more ≡ f row + sum_by f xs → sum_by f (cond b (row ∷ x ∷ xs) (x ∷ more)) ≡ f row + sum_by f (x ∷ xs)
sum_by_placed f row x xs more true h = sum_by-cons f row (x ∷ xs)
sum_by_placed f row x xs more false h = omega (arith, sum_by-cons f x more, sum_by-cons f x xs, h)

pub sum_by-with_row : {X : Type 0} (key : X → ℕ) (f : X → ℕ) (row : X) (xs : List X) → sum_by f (with_row key row xs) ≡ f row + sum_by f xs
sum_by-with_row key f row [] = omega arith
sum_by-with_row key f row (x ∷ xs) = sum_by_placed f row x xs (with_row key row xs) (nat_lt (key row) (key x)) (sum_by-with_row key f row xs)

-- what is found beside a new row
find_placed : {X : Type 0} (p : X → Bool) (row x : X) (xs more : List X) (b : Bool) → p row ≡ false → find p more ≡ find p xs → find p (cond b (row ∷ x ∷ xs) (x ∷ more)) ≡ find p (x ∷ xs)
find_placed p row x xs more true h e = rw h refl
find_placed p row x xs more false h e = rw e refl

pub find-with_row : {X : Type 0} (key : X → ℕ) (p : X → Bool) (row : X) (xs : List X) → p row ≡ false → find p (with_row key row xs) ≡ find p xs
find-with_row key p row [] h = rw h refl
find-with_row key p row (x ∷ xs) h = find_placed p row x xs (with_row key row xs) (nat_lt (key row) (key x)) h (find-with_row key p row xs h)

find_absent : {X : Type 0} (p : X → Bool) (xs : List X) → list_any p xs ≡ false → find p xs ≡ None
find_absent p [] h = refl
find_absent p (x ∷ xs) h = let apart : (p x ≡ false) × (list_any p xs ≡ false) = neither _ _ h in rw (apart.0, find_absent p xs apart.1) refl

find_placed_same : {X : Type 0} (p : X → Bool) (row x : X) (more : List X) (xs : List X) (b : Bool) → p row ≡ true → p x ≡ false → find p more ≡ Some row → find p (cond b (row ∷ x ∷ xs) (x ∷ more)) ≡ Some row
find_placed_same p row x more xs true h o e = rw h refl
find_placed_same p row x more xs false h o e = rw (o, e) refl

pub find-with_row_same : {X : Type 0} (key : X → ℕ) (p : X → Bool) (row : X) (xs : List X) → p row ≡ true → list_any p xs ≡ false → find p (with_row key row xs) ≡ Some row
find-with_row_same key p row [] h absent = rw h refl
find-with_row_same key p row (x ∷ xs) h absent =
    let apart : (p x ≡ false) × (list_any p xs ≡ false) = neither _ _ absent in
    find_placed_same p row x (with_row key row xs) xs (nat_lt (key row) (key x)) h apart.0 (find-with_row_same key p row xs h apart.1)

-- what holds of each row that has its number holds of all rows
pub all_rows : {X : Type 0} (key : X → ℕ) (P : X → Type 0) (rows : List X) → ((r : X) → has_row key (key r) rows ≡ true → P r) → AllByRecursion P rows
all_rows key P [] h = tt
all_rows key P (x ∷ xs) h = (h x (rw (eq_same (key x)) refl), all_rows key P xs (λ r m. h r (or_later _ _ m)))

pub length-with_row : {X : Type 0} (key : X → ℕ) (row : X) (xs : List X) → length (with_row key row xs) ≡ suc (length xs)
length-with_row key row [] = refl
length-with_row key row (x ∷ xs) = placed (nat_lt (key row) (key x)) (length-with_row key row xs)
  where
    placed : (b : Bool) → length (with_row key row xs) ≡ suc (length xs) → length (cond b (row ∷ x ∷ xs) (x ∷ with_row key row xs)) ≡ suc (suc (length xs))
    placed true e = refl
    placed false e = ap suc e

apart_of : (m n : ℕ) → m < n → (n == m) ≡ false
apart_of m n h = grind (arith, nat_tests)

-- a number that isn't above the first row's is no later row's
pub absent_later : {X : Type 0} (key : X → ℕ) (n : ℕ) (r : X) (rows : List X) → n ≤ key r → is_ascending key (r ∷ rows) ≡ true → has_row key n rows ≡ false
absent_later key n r [] h a = refl
absent_later key n r (s ∷ rows) h a =
    let parts : (nat_lt (key r) (key s) ≡ true) × (is_ascending key (s ∷ rows) ≡ true) = both _ _ a in
    let up : key r < key s = lt_is _ _ parts.0 in
    let less : n < key s = omega arith in
    rw (apart_of n (key s) less) (absent_later key n s rows (omega arith) parts.1)

pub ascending_tail : {X : Type 0} (key : X → ℕ) (r : X) (rows : List X) → is_ascending key (r ∷ rows) ≡ true → is_ascending key rows ≡ true
ascending_tail key r [] h = refl
ascending_tail key r (s ∷ rows) h = (both _ _ h).1

-- a change of a row that isn't there
change_head : {X : Type 0} (b : Bool) (c : X → X) (r : X) (rows rows' : List X) (m : Bool) → (b || m) ≡ false → (m ≡ false → rows' ≡ rows) → cond b (c r) r ∷ rows' ≡ r ∷ rows
change_head true c r rows rows' m h f = cc
change_head false c r rows rows' m h f = ap (λ xs. r ∷ xs) (f h)

pub change_absent : {X : Type 0} (key : X → ℕ) (n : ℕ) (c : X → X) (rows : List X) → has_row key n rows ≡ false → with_change key n c rows ≡ rows
change_absent key n c [] h = refl
change_absent key n c (r ∷ rows) h = change_head (key r == n) c r rows (with_change key n c rows) (has_row key n rows) h (change_absent key n c rows)

pub length-change : {X : Type 0} (key : X → ℕ) (n : ℕ) (c : X → X) (rows : List X) → length (with_change key n c rows) ≡ length rows
length-change key n c [] = refl
length-change key n c (x ∷ rows) = ap suc (length-change key n c rows)

change_sum_at : {X : Type 0} (key : X → ℕ) (f : X → ℕ) (n : ℕ) (c : X → X) (x r : X) (rows : List X) (b : Bool) → (key x == n) ≡ b → is_ascending key (x ∷ rows) ≡ true → cond b (Some x) (row_of key n rows) ≡ Some r → (row_of key n rows ≡ Some r → sum_by f (with_change key n c rows) + f r ≡ sum_by f rows + f (c r)) → sum_by f (cond b (c x) x ∷ with_change key n c rows) + f r ≡ sum_by f (x ∷ rows) + f (c r)
change_sum_at key f n c x r rows true e a h g =
    let is : x ≡ r = cc in
    let same : with_change key n c rows ≡ rows = change_absent key n c rows (absent_later key n x rows (grind (arith, nat_tests)) a) in
    let fx : f x ≡ f r = ap f is in
    let fc : f (c x) ≡ f (c r) = ap (λ y. f (c y)) is in
    omega (arith, sum_by-cons f (c x) (with_change key n c rows), sum_by-cons f x rows, ap (sum_by f) same, fx, fc)
change_sum_at key f n c x r rows false e a h g =
    omega (arith, sum_by-cons f x (with_change key n c rows), sum_by-cons f x rows, g h)

-- the sum if one row changes
pub sum_by-with_change : {X : Type 0} (key : X → ℕ) (f : X → ℕ) (n : ℕ) (c : X → X) (r : X) (rows : List X) → is_ascending key rows ≡ true → row_of key n rows ≡ Some r → sum_by f (with_change key n c rows) + f r ≡ sum_by f rows + f (c r)
sum_by-with_change key f n c r [] a h = cc
sum_by-with_change key f n c r (x ∷ rows) a h =
    change_sum_at key f n c x r rows (key x == n) refl a h (sum_by-with_change key f n c r rows (ascending_tail key x rows a))

-- the sum without a row
kept_row : {X : Type 0} (b : Bool) (r : X) (rows rows' : List X) (m : Bool) → (b || m) ≡ false → (m ≡ false → rows' ≡ rows) → cond (not b) (r ∷ rows') rows' ≡ r ∷ rows
kept_row true r rows rows' m h f = cc
kept_row false r rows rows' m h f = ap (λ xs. r ∷ xs) (f h)

pub without_absent : {X : Type 0} (key : X → ℕ) (n : ℕ) (rows : List X) → has_row key n rows ≡ false → without_row key n rows ≡ rows
without_absent key n [] h = refl
without_absent key n (r ∷ rows) h = kept_row (key r == n) r rows (without_row key n rows) (has_row key n rows) h (without_absent key n rows)

without_sum_at : {X : Type 0} (key : X → ℕ) (f : X → ℕ) (n : ℕ) (x r : X) (rows : List X) (b : Bool) → (key x == n) ≡ b → is_ascending key (x ∷ rows) ≡ true → cond b (Some x) (row_of key n rows) ≡ Some r → (row_of key n rows ≡ Some r → sum_by f (without_row key n rows) + f r ≡ sum_by f rows) → sum_by f (cond (not b) (x ∷ without_row key n rows) (without_row key n rows)) + f r ≡ sum_by f (x ∷ rows)
without_sum_at key f n x r rows true e a h g =
    let is : x ≡ r = cc in
    let same : without_row key n rows ≡ rows = without_absent key n rows (absent_later key n x rows (grind (arith, nat_tests)) a) in
    let fx : f x ≡ f r = ap f is in
    omega (arith, sum_by-cons f x rows, ap (sum_by f) same, fx)
without_sum_at key f n x r rows false e a h g = omega (arith, sum_by-cons f x (without_row key n rows), sum_by-cons f x rows, g h)

pub sum_by-without_row : {X : Type 0} (key : X → ℕ) (f : X → ℕ) (n : ℕ) (r : X) (rows : List X) → is_ascending key rows ≡ true → row_of key n rows ≡ Some r → sum_by f (without_row key n rows) + f r ≡ sum_by f rows
sum_by-without_row key f n r [] a h = cc
sum_by-without_row key f n r (x ∷ rows) a h =
    without_sum_at key f n x r rows (key x == n) refl a h (sum_by-without_row key f n r rows (ascending_tail key x rows a))
