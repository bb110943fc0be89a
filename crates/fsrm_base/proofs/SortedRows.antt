-- Ascending rows: what a search by halves finds, and what an edit at that place makes.
use Rattle.std.proofs.Common.{◌≡◌, ℕ, zero, suc, ◌<◌, ◌≤◌, ◌==◌, true, false, cond, not, ◌||◌, List, [], ◌∷◌, length, get_or, insert, remove, Some, None, Option, Result, Ok, Err, IfOk, IfErr, refl, sym, ◌∙◌, ap, subst, arith, tests}
use Rattle.std.proofs.lemmas.Cmp.{ranked}
use Rattle.std.proofs.lemmas.Option.{same_Some, slice_get-get_or, slice_get_within, get_or_from_slice_get}
use Rattle.std.specs.List.Sorted.{IsSearchInRange, IsBinarySearchResult, IsNonDecreasingBy}
use Rattle.std.specs.Ordering.{nat_cmp, ordering_index}
use Rattle.std.specs.Borrow.{Bor}
use Rattle.std.specs.Option.{option_copied}
use Rattle.std.specs.Prelude.{slice_get, slice_set, is_some}
use Rattle.fsrm_base.specs.Keyed.{row_of, has_row, with_row, with_change, without_row, is_ascending}
use Rattle.fsrm_base.proofs.EditedRows.{absent_later, ascending_tail, change_absent, without_absent}
use Rattle.fsrm_base.proofs.Look.{FoundRow, found_key, found_has, is_some-find}
use Rattle.fsrm_base.proofs.Order.{parts, ascending-filter}
use Rattle.fsrm_base.proofs.TestLaws.{lt_is, lt_test, eq_test, eq_below, eq_above, not_lt}
use Rattle.fsrm_base.specs.Places.{IsAt, IsGap}

-- a later row's number is greater
pub later_above : {X : Type 0} (key : X → ℕ) (x : X) (rows : List X) (p : ℕ) (r : X) → is_ascending key (x ∷ rows) ≡ true → slice_get rows p ≡ Some r → key x < key r
later_above key x [] p r a h = cc
later_above key x (y ∷ rows) zero r a h =
    let e : key y ≡ key r = ap key (same_Some y r h) in
    let l : key x < key y = lt_is _ _ (parts key x (y ∷ rows) a).above in
    omega arith
later_above key x (y ∷ rows) (suc p) r a h =
    let l : key x < key y = lt_is _ _ (parts key x (y ∷ rows) a).above in
    let m : key y < key r = later_above key y rows p r (parts key x (y ∷ rows) a).rest h in
    omega arith

-- the row at a place is the row of its number
pub row_at : {X : Type 0} (key : X → ℕ) (n : ℕ) (rows : List X) (p : ℕ) (r : X) → is_ascending key rows ≡ true → slice_get rows p ≡ Some r → key r ≡ n → row_of key n rows ≡ Some r
row_at key n [] p r a h e = cc
row_at key n (x ∷ rows) zero r a h e =
    let same : (key x == n) ≡ true = eq_test (key x) n (ap key (same_Some x r h) ∙ e) in
    ap (λ b. cond b (Some x) (row_of key n rows)) same ∙ h
row_at key n (x ∷ rows) (suc p) r a h e =
    let l : key x < key r = later_above key x rows p r a h in
    let apart : (key x == n) ≡ false = eq_below (key x) n (omega arith) in
    ap (λ b. cond b (Some x) (row_of key n rows)) apart ∙ row_at key n rows p r (ascending_tail key x rows a) h e

-- a write at a place is a change of its row
pub set_row : {X : Type 0} (key : X → ℕ) (n : ℕ) (c : X → X) (rows : List X) (p : ℕ) (r : X) → is_ascending key rows ≡ true → slice_get rows p ≡ Some r → key r ≡ n → slice_set rows p (c r) ≡ with_change key n c rows
set_row key n c [] p r a h e = cc
set_row key n c (x ∷ rows) zero r a h e =
    let is : x ≡ r = same_Some x r h in
    let number : key x ≡ n = ap key is ∙ e in
    let rest : with_change key n c rows ≡ rows = change_absent key n c rows (absent_later key n x rows (omega arith) a) in
    sym (ap (λ b. cond b (c x) x ∷ with_change key n c rows) (eq_test (key x) n number) ∙ (ap (λ ys. c x ∷ ys) rest ∙ ap (λ y. c y ∷ rows) is))
set_row key n c (x ∷ rows) (suc p) r a h e =
    let l : key x < key r = later_above key x rows p r a h in
    let apart : (key x == n) ≡ false = eq_below (key x) n (omega arith) in
    ap (λ ys. x ∷ ys) (set_row key n c rows p r (ascending_tail key x rows a) h e) ∙ sym (ap (λ b. cond b (c x) x ∷ with_change key n c rows) apart)

-- a removal at a place takes its row away
pub remove_row : {X : Type 0} (key : X → ℕ) (n : ℕ) (rows : List X) (p : ℕ) (r : X) → is_ascending key rows ≡ true → slice_get rows p ≡ Some r → key r ≡ n → remove rows p ≡ without_row key n rows
remove_row key n [] p r a h e = cc
remove_row key n (x ∷ rows) zero r a h e =
    let number : key x ≡ n = ap key (same_Some x r h) ∙ e in
    let rest : without_row key n rows ≡ rows = without_absent key n rows (absent_later key n x rows (omega arith) a) in
    sym (ap (λ b. cond (not b) (x ∷ without_row key n rows) (without_row key n rows)) (eq_test (key x) n number) ∙ rest)
remove_row key n (x ∷ rows) (suc p) r a h e =
    let l : key x < key r = later_above key x rows p r a h in
    let apart : (key x == n) ≡ false = eq_below (key x) n (omega arith) in
    ap (λ ys. x ∷ ys) (remove_row key n rows p r (ascending_tail key x rows a) h e) ∙ sym (ap (λ b. cond (not b) (x ∷ without_row key n rows) (without_row key n rows)) apart)

-- what stands before and after a place
abbrev Before : {X : Type 0} → (X → ℕ) → ℕ → List X → ℕ → Type 0
Before {X} key n rows p = (k : ℕ) (row : X) → k < p → slice_get rows k ≡ Some row → key row < n

abbrev After : {X : Type 0} → (X → ℕ) → ℕ → List X → ℕ → Type 0
After {X} key n rows p = (k : ℕ) (row : X) → p ≤ k → slice_get rows k ≡ Some row → n < key row

-- a number with a gap is no row's
lacks : {X : Type 0} (key : X → ℕ) (n : ℕ) (rows : List X) (p : ℕ) → Before key n rows p → After key n rows p → has_row key n rows ≡ false
lacks key n [] p before after = refl
lacks key n (x ∷ rows) zero before after =
    ap (λ b. b || has_row key n rows) (eq_above (key x) n (after 0 x (omega arith) refl))
    ∙ lacks key n rows zero (λ k row l h. absurd (omega arith)) (λ k row l h. after (suc k) row (omega arith) h)
lacks key n (x ∷ rows) (suc p) before after =
    ap (λ b. b || has_row key n rows) (eq_below (key x) n (before 0 x (omega arith) refl))
    ∙ lacks key n rows p (λ k row l h. before (suc k) row (omega arith) h) (λ k row l h. after (suc k) row (omega arith) h)

-- a row put into its gap
inserted : {X : Type 0} (key : X → ℕ) (row : X) (rows : List X) (p : ℕ) → Before key (key row) rows p → After key (key row) rows p → insert rows p row ≡ with_row key row rows
inserted key row [] zero before after = refl
inserted key row [] (suc p) before after = refl
inserted key row (x ∷ rows) zero before after =
    sym (ap (λ b. cond b (row ∷ x ∷ rows) (x ∷ with_row key row rows)) (lt_test (key row) (key x) (after 0 x (omega arith) refl)))
inserted key row (x ∷ rows) (suc p) before after =
    let l : key x < key row = before 0 x (omega arith) refl in
    ap (λ ys. x ∷ ys) (inserted key row rows p (λ k r l h. before (suc k) r (omega arith) h) (λ k r l h. after (suc k) r (omega arith) h))
    ∙ sym (ap (λ b. cond b (row ∷ x ∷ rows) (x ∷ with_row key row rows)) (not_lt (key row) (key x) (omega arith)))

pub insert_row : {X : Type 0} (key : X → ℕ) (row : X) (rows : List X) (p : ℕ) → IsGap key (key row) rows p → insert rows p row ≡ with_row key row rows
insert_row key row rows p gap = inserted key row rows p gap.before gap.after

-- rows that ascend answer a comparison in ascending order
pub in_order : {X : Type 0} (key : X → ℕ) (rows : List X) (i j : ℕ) (d : X) → is_ascending key rows ≡ true → i ≤ j → j < length rows → key (get_or rows i d) ≤ key (get_or rows j d)
in_order key [] i j d a le l = absurd (omega arith)
in_order key (x ∷ rows) zero zero d a le l = omega arith
in_order key (x ∷ rows) zero (suc j) d a le l =
    let m : key x < key (get_or rows j d) = later_above key x rows j (get_or rows j d) a (slice_get-get_or rows j d (omega arith)) in
    omega arith
in_order key (x ∷ rows) (suc i) zero d a le l = absurd (omega arith)
in_order key (x ∷ rows) (suc i) (suc j) d a le l = in_order key rows i j d (ascending_tail key x rows a) (omega arith) (omega arith)

higher : (m k n : ℕ) → m ≤ k → ordering_index (nat_cmp m n) ≤ ordering_index (nat_cmp k n)
higher m k n le = grind (arith, tests)

pub rising : {X : Type 0} (key : X → ℕ) (n : ℕ) (rows : List X) → is_ascending key rows ≡ true → IsNonDecreasingBy (λ y. ordering_index (nat_cmp (key y) n)) rows
rising key n rows a i j d le l = higher (key (get_or rows i d)) (key (get_or rows j d)) n (in_order key rows i j d a le l)

pub there : {X : Type 0} (rows : List X) (p : ℕ) → p < length rows → FoundRow (slice_get rows p)
there [] p l = absurd (omega arith)
there (x ∷ rows) zero l = record { row = x; is = refl }
there (x ∷ rows) (suc p) l = there rows p (omega arith)

-- what a search by halves finds
found_at : {X : Type 0} (key : X → ℕ) (n : ℕ) (rows : List X) (p : ℕ) → is_ascending key rows ≡ true → p < length rows → IsBinarySearchResult (λ y. nat_cmp (key y) n) rows (Ok p) → IsAt key n rows p
found_at key n rows p a l h =
    let f = there rows p l in
    let read : get_or rows p f.row ≡ f.row = get_or_from_slice_get rows p f.row f.row f.is in
    let number : key (get_or rows p f.row) ≡ n = ranked _ n _ (sym (h f.row)) in
    record { within = l; found = f.is ∙ sym (row_at key n rows p f.row a f.is (ap key (sym read) ∙ number)) }

gap_at : {X : Type 0} (key : X → ℕ) (n : ℕ) (rows : List X) (p : ℕ) → is_ascending key rows ≡ true → p ≤ length rows → IsBinarySearchResult (λ y. nat_cmp (key y) n) rows (Err p) → IsGap key n rows p
gap_at {X} key n rows p a l h =
    let parted = h (rising key n rows a) in
    let before : Before key n rows p = λ (k : ℕ) (row : X) (m : k < p) (is : slice_get rows k ≡ Some row).
    (let read : get_or rows k row ≡ row = get_or_from_slice_get rows k row row is in
    let less : key (get_or rows k row) < n = ranked _ n _ (sym (parted.0 k row (omega arith) m)) in
    subst (λ y. key y < n) read less) in
    let after : After key n rows p = λ (k : ℕ) (row : X) (m : p ≤ k) (is : slice_get rows k ≡ Some row).
    (let read : get_or rows k row ≡ row = get_or_from_slice_get rows k row row is in
    let greater : n < key (get_or rows k row) = ranked _ n _ (sym (parted.1 k row m (slice_get_within rows k row is))) in
    subst (λ y. n < key y) read greater) in
    record { within = l; absent = lacks key n rows p before after; before = before; after = after }

pub searched_ok : {X : Type 0} (key : X → ℕ) (n : ℕ) (rows : List X) (r : Result ℕ ℕ) → is_ascending key rows ≡ true → IsSearchInRange r (length rows) → IsBinarySearchResult (λ y. nat_cmp (key y) n) rows r → IfOk r (IsAt key n rows)
searched_ok key n rows (Ok p) a l h = found_at key n rows p a l h
searched_ok key n rows (Err p) a l h = tt

pub searched_err : {X : Type 0} (key : X → ℕ) (n : ℕ) (rows : List X) (r : Result ℕ ℕ) → is_ascending key rows ≡ true → IsSearchInRange r (length rows) → IsBinarySearchResult (λ y. nat_cmp (key y) n) rows r → IfErr r (IsGap key n rows)
searched_err key n rows (Ok p) a l h = tt
searched_err key n rows (Err p) a l h = gap_at key n rows p a l h

-- the row at the place of a number
pub record RowAt {X : Type 0} (key : X → ℕ) (n : ℕ) (rows : List X) (p : ℕ) : Type 0 where
  pub row : X
  pub at : slice_get rows p ≡ Some row
  pub number : key row ≡ n
  pub has : has_row key n rows ≡ true

pub row_found : {X : Type 0} (key : X → ℕ) (n : ℕ) (rows : List X) (p : ℕ) → IsAt key n rows p → RowAt key n rows p
row_found key n rows p at =
    let f = there rows p at.within in
    let is : row_of key n rows ≡ Some f.row = sym at.found ∙ f.is in
    record { row = f.row; at = f.is; number = found_key key n rows f.row is; has = found_has key n rows f.row is }

pub remove_found : {X : Type 0} (key : X → ℕ) (n : ℕ) (rows : List X) (p : ℕ) → is_ascending key rows ≡ true → IsAt key n rows p → remove rows p ≡ without_row key n rows
remove_found key n rows p a at =
    let f = row_found key n rows p at in
    remove_row key n rows p f.row a f.at f.number

-- the rows ascend without the one that was found
pub ascending-remove : {X : Type 0} (key : X → ℕ) (n : ℕ) (rows : List X) (p : ℕ) → is_ascending key rows ≡ true → IsAt key n rows p → is_ascending key (remove rows p) ≡ true
ascending-remove key n rows p a at =
    ap (is_ascending key) (remove_found key n rows p a at) ∙ ascending-filter key _ rows a

-- a number is a row's exactly if that row is lent
lent_some : {X : Type 0} (o : Option (Bor X)) → is_some o ≡ is_some (option_copied o)
lent_some None = refl
lent_some (Some row) = refl

pub has_lent : {X : Type 0} (key : X → ℕ) (n : ℕ) (rows : List X) (o : Option (Bor X)) → option_copied o ≡ row_of key n rows → is_some o ≡ has_row key n rows
has_lent key n rows o h = lent_some o ∙ (ap is_some h ∙ is_some-find (λ row. key row == n) rows)
