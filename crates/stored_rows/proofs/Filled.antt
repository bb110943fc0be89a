-- Tables that are filled row by row, in the order of the rows: after each row they have those that came so far.
use Rattle.std.proofs.Common.{◌≡◌, ℕ, zero, suc, ◌+◌, ◌<◌, ◌≤◌, Bool, true, false, cond, List, [], ◌∷◌, ◌++◌, length, take, get_or, sum_by, nat_lt, nat_le, ◌&&◌, not, ◌==◌, Option, refl, ap, sym, ◌∙◌, subst, add-one, length-append, arith}
use Rattle.std.proofs.lemmas.Bool.Decides.{nat_tests}
use Rattle.std.proofs.lemmas.List.Sums.{sum_by-cons}
use Rattle.std.specs.List.{list_all, list_any}
use Rattle.fsrm_base.specs.Causes.{◌when◌, first}
use Rattle.fsrm_base.specs.Keyed.{has_row, is_ascending, with_row}
use Rattle.fsrm_base.proofs.Order.{parts}
use Rattle.fsrm_base.proofs.TestLaws.{both, clash, is_false, lt_is, neither, nor, not_le, not_true}
use Rattle.fsrm_model.specs.values.Name.{is_named, names_differ, same_name}
use Rattle.fsrm_model.proofs.nodes.Keeps.{same_turned}

-- rows of which some came, and one comes next
pub record Next {X : Type 0} (rows came : List X) (row : X) : Type 0 where
  pub rest : List X
  pub is : rows ≡ came ++ row ∷ rest

pub next : {X : Type 0} (rows : List X) (i : ℕ) (row : X) → i < length rows → row ≡ get_or rows i row → Next rows (take i rows) row
next [] i row low is = absurd (omega (arith, low))
next (x ∷ rows) zero row low is = record { rest = rows; is = ap (λ r. r ∷ rows) (sym is) }
next (x ∷ rows) (suc i) row low is =
    let n = next rows i row (omega (arith, low)) is in
    record { rest = n.rest; is = ap (λ rs. x ∷ rs) n.is }

one_more : {X : Type 0} (rows : List X) (i : ℕ) (row : X) → i < length rows → row ≡ get_or rows i row → take (suc i) rows ≡ take i rows ++ row ∷ []
one_more [] i row low is = absurd (omega (arith, low))
one_more (x ∷ rows) zero row low is = ap (λ r. r ∷ []) (sym is)
one_more (x ∷ rows) (suc i) row low is = ap (λ rs. x ∷ rs) (one_more rows i row (omega (arith, low)) is)

-- ---- the order
last_above : {X : Type 0} (key : X → ℕ) (c : X) (came : List X) (row : X) (rest : List X) → is_ascending key (c ∷ (came ++ row ∷ rest)) ≡ true → key c < key row
last_above key c [] row rest asc = lt_is (key c) (key row) (parts key c (row ∷ rest) asc).above
last_above key c (x ∷ came) row rest asc =
    let p = parts key c (x ∷ (came ++ row ∷ rest)) asc in
    let low : key c < key x = lt_is (key c) (key x) p.above in
    let high : key x < key row = last_above key x came row rest p.rest in
    omega (arith, low, high)

tail_ascends : {X : Type 0} (key : X → ℕ) (c : X) (rows : List X) → is_ascending key (c ∷ rows) ≡ true → is_ascending key rows ≡ true
tail_ascends key c [] asc = refl
tail_ascends key c (x ∷ rows) asc = (parts key c (x ∷ rows) asc).rest

not_before : (x y : ℕ) → x < y → nat_lt y x ≡ false
not_before x y h = grind (arith, nat_tests)

put_last : {X : Type 0} (key : X → ℕ) (came : List X) (row : X) (rest : List X) → is_ascending key (came ++ row ∷ rest) ≡ true → with_row key row came ≡ came ++ row ∷ []
put_last key [] row rest asc = refl
put_last key (c ∷ came) row rest asc =
    ap (λ b. cond b (row ∷ c ∷ came) (c ∷ with_row key row came)) (not_before (key c) (key row) (last_above key c came row rest asc))
    ∙ ap (λ rs. c ∷ rs) (put_last key came row rest (tail_ascends key c (came ++ row ∷ rest) asc))

absent : {X : Type 0} (key : X → ℕ) (came : List X) (row : X) (rest : List X) → is_ascending key (came ++ row ∷ rest) ≡ true → has_row key (key row) came ≡ false
absent key [] row rest asc = refl
absent key (c ∷ came) row rest asc =
    nor (key c == key row) (has_row key (key row) came) (below (key c) (key row) (last_above key c came row rest asc))
    (absent key came row rest (tail_ascends key c (came ++ row ∷ rest) asc))
  where
    below : (m n : ℕ) → m < n → (m == n) ≡ false
    below m n h = grind (arith, nat_tests)

-- ---- what each table asks
own : {X : Type 0} (p : X → Bool) (came : List X) (row : X) (rest : List X) → list_all p (came ++ row ∷ rest) ≡ true → p row ≡ true
own p [] row rest all = (both (p row) (list_all p rest) all).0
own p (c ∷ came) row rest all = own p came row rest (both (p c) (list_all p (came ++ row ∷ rest)) all).1

summed : {X : Type 0} (bytes : X → ℕ) (came : List X) (row : X) (rest : List X) → bytes row ≤ sum_by bytes (came ++ row ∷ rest)
summed bytes [] row rest = omega (arith, sum_by-cons bytes row rest)
summed bytes (c ∷ came) row rest = omega (arith, sum_by-cons bytes c (came ++ row ∷ rest), summed bytes came row rest)

-- a row that comes in its order, of rows of which each passes a test
pub record Fills {X : Type 0} (key : X → ℕ) (p : X → Bool) (bytes : X → ℕ) (most : ℕ) (rows : List X) (i : ℕ) (row : X) : Type 0 where
  pub free : has_row key (key row) (take i rows) ≡ false
  pub room : nat_le most (length (take i rows)) ≡ false
  pub passes : p row ≡ true
  pub put : with_row key row (take i rows) ≡ take (i + 1) rows
  pub part : bytes row ≤ sum_by bytes rows
  pub next : Next rows (take i rows) row

pub fills : {X : Type 0} (key : X → ℕ) (p : X → Bool) (bytes : X → ℕ) (most : ℕ) (rows : List X) (i : ℕ) (row : X) → (is_ascending key rows && nat_le (length rows) most) && list_all p rows ≡ true → i < length rows → row ≡ get_or rows i row → Fills key p bytes most rows i row
fills {X} key p bytes most rows i row are low is =
    let own_parts = both (is_ascending key rows && nat_le (length rows) most) (list_all p rows) are in
    let listed = both (is_ascending key rows) (nat_le (length rows) most) own_parts.0 in
    let came = take i rows in
    let n = next rows i row low is in
    let ascends : is_ascending key (came ++ row ∷ n.rest) ≡ true = ap (is_ascending key) (sym n.is) ∙ listed.0 in
    record {
      free = absent key came row n.rest ascends;
      room = not_le most (length came) (fewer came row n.rest (ap length n.is) (few listed.1));
      passes = own p came row n.rest (ap (list_all p) (sym n.is) ∙ own_parts.1);
      put = put_last key came row n.rest ascends ∙ (sym (one_more rows i row low is) ∙ ap (λ k. take k rows) (sym (add-one i)));
      part = subst (λ (all : List X). bytes row ≤ sum_by bytes all) (sym n.is) (summed bytes came row n.rest);
      next = n;
    }
  where
    few : nat_le (length rows) most ≡ true → length rows ≤ most
    few h = grind (arith, nat_tests)

    fewer : (came : List X) (row : X) (rest : List X) → length rows ≡ length (came ++ row ∷ rest) → length rows ≤ most → length came < most
    fewer came row rest same h = omega (arith, same, h, length-append came (row ∷ rest))

-- a copy of the row at a place
pub copied : {X : Type 0} (rows : List X) (i : ℕ) (row copy : X) → copy ≡ row → row ≡ get_or rows i row → copy ≡ get_or rows i copy
copied rows i row copy same is = same ∙ (is ∙ ap (λ r. get_or rows i r) (sym same))

-- ---- causes
pub skip : {X : Type 0} (cause : X) (condition : Bool) (causes : List (Option X)) → condition ≡ false → first ((cause when condition) ∷ causes) ≡ first causes
skip cause true causes h = cc
skip cause false causes h = refl

-- ---- names
not_at : {X : Type 0} (p : X → Bool) (came : List X) (row : X) (rest : List X) → list_any p (came ++ row ∷ rest) ≡ false → p row ≡ false
not_at p [] row rest none = (neither (p row) (list_any p rest) none).0
not_at p (c ∷ came) row rest none = not_at p came row rest (neither (p c) (list_any p (came ++ row ∷ rest)) none).1

none_named : {X : Type 0} (name : X → List ℕ) (came : List X) (row : X) (rest : List X) → names_differ name (came ++ row ∷ rest) ≡ true → list_any (is_named name (name row)) came ≡ false
none_named name [] row rest apart = refl
none_named name (c ∷ came) row rest apart =
    let ps = both (not (list_any (is_named name (name c)) (came ++ row ∷ rest))) (names_differ name (came ++ row ∷ rest)) apart in
    let other : same_name (name row) (name c) ≡ false = not_at (is_named name (name c)) came row rest (is_false _ ps.0) in
    nor (same_name (name c) (name row)) (list_any (is_named name (name row)) came)
    (not_true (same_name (name c) (name row)) (λ h. clash (same_name (name row) (name c)) (same_turned (name c) (name row) h) other))
    (none_named name came row rest ps.1)

-- of rows whose names differ, none that came has the name of the next
pub unnamed : {X : Type 0} (name : X → List ℕ) (rows : List X) (i : ℕ) (row : X) → names_differ name rows ≡ true → Next rows (take i rows) row → list_any (is_named name (name row)) (take i rows) ≡ false
unnamed name rows i row apart n = none_named name (take i rows) row n.rest (ap (names_differ name) (sym n.is) ∙ apart)
