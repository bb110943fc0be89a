-- Rows that are read one after another, the root first.
use Rattle.std.proofs.Common.{◌≡◌, ℕ, zero, suc, ◌+◌, ◌<◌, ◌≤◌, ◌==◌, not, true, false, cond, inl, inr, ◌-◌, All, List, [], ◌∷◌, length, get_or, map, drop, Some, refl, sym, ◌∙◌, ap, subst, arith}
use Rattle.std.proofs.lemmas.List.{drop_more}
use Rattle.fsrm_model.specs.declared.row.NodeRow.{NodeRow}
use Rattle.fsrm_base.specs.Keyed.{has_row, is_ascending}
use Rattle.fsrm_base.proofs.EditedRows.{absent_later}
use Rattle.fsrm_base.proofs.TestLaws.{clash, eq_is, is_or_not, is_inner}
use Rattle.fsrm_model.specs.nodes.Tree.{number, node_of}
use Rattle.node_order.specs.Order.{inner}
use Rattle.node_order.proofs.ListLaws.{later_above, rows_found}

-- rows of which none is the root
all_inner : (n : ℕ) (rows : List NodeRow) → All (λ (r : NodeRow). n < r.number) rows → inner rows ≡ rows
all_inner n [] h = refl
all_inner n (row ∷ rows) h =
    let less = h 0 row (omega arith) in
    let other : (row.number == 0) ≡ false = is_inner row.number (λ z. omega (arith, less, z)) in
    let rest = all_inner n rows (λ k d l. h (suc k) d (omega arith)) in
    ap (λ b. cond (not b) (row ∷ inner rows) (inner rows)) other ∙ ap (λ rs. row ∷ rs) rest

-- the first of ascending rows is the root, if there is one
absent_root : (row : NodeRow) (rows : List NodeRow) → is_ascending number (row ∷ rows) ≡ true → (row.number == 0) ≡ false → has_row number 0 (row ∷ rows) ≡ false
absent_root row rows a f = rw (f, absent_later number 0 row rows (omega arith) a) refl

root_first : (row : NodeRow) (rows : List NodeRow) → is_ascending number (row ∷ rows) ≡ true → has_row number 0 (row ∷ rows) ≡ true → row.number ≡ 0
root_first row rows a h =
    elim (is_or_not (row.number == 0)) [
      | inl t ↦ eq_is row.number 0 t
      | inr f ↦ absurd (clash (has_row number 0 (row ∷ rows)) h (absent_root row rows a f))
    ]

-- so the others are those behind it
pub others_inner : (rows : List NodeRow) → is_ascending number rows ≡ true → has_row number 0 rows ≡ true → inner rows ≡ drop 1 rows
others_inner [] a h = cc
others_inner (row ∷ rows) a h =
    let root = root_first row rows a h in
    let rest = all_inner row.number rows (later_above number row rows a) in
    ap (λ n. cond (not (n == 0)) (row ∷ inner rows) (inner rows)) root ∙ rest

pub others_fit : (rows : List NodeRow) → has_row number 0 rows ≡ true → 0 < length rows
others_fit [] h = cc
others_fit (row ∷ rows) h = omega arith

-- a row behind the first one
pub record IsOther (rows : List NodeRow) (row : NodeRow) : Type 0 where
  pub found : node_of rows row.number ≡ Some row
  pub inside : (row.number == 0) ≡ false

pub inner_few : (rows : List NodeRow) → is_ascending number rows ≡ true → has_row number 0 rows ≡ true → length (inner rows) < length rows
inner_few [] a h = cc
inner_few (row ∷ rows) a h = omega (arith, ap length (others_inner (row ∷ rows) a h))

other_there : (rows : List NodeRow) (i : ℕ) (row : NodeRow) → is_ascending number rows ≡ true → i < length (drop 1 rows) → row ≡ get_or (drop 1 rows) i row → IsOther rows row
other_there [] i row a l is = absurd (omega arith)
other_there (r ∷ rows) i row a l is =
    let found = rows_found number (r ∷ rows) a (suc i) row (omega arith) in
    let less = later_above number r rows a i row l in
    record {
      found = subst (λ (x : NodeRow). node_of (r ∷ rows) x.number ≡ Some x) (sym is) found;
      inside = is_inner row.number (λ z. omega (arith, less, ap number is, z));
    }

pub other_of : (rows others : List NodeRow) (i : ℕ) (row : NodeRow) → is_ascending number rows ≡ true → others ≡ drop 1 rows → i < length others → row ≡ get_or others i row → IsOther rows row
other_of rows others i row a same l is =
    other_there rows i row a (subst (λ (rs : List NodeRow). i < length rs) same l) (is ∙ ap (λ (rs : List NodeRow). get_or rs i row) same)

-- the numbers that are left when one more is taken
pub numbers_left : (rows : List NodeRow) (i : ℕ) (row : NodeRow) → i < length rows → row ≡ get_or rows i row → map number (drop i rows) ≡ row.number ∷ map number (drop (i + 1) rows)
numbers_left rows i row l is = ap (map number) (drop_more rows i row l ∙ ap (λ r. r ∷ drop (i + 1) rows) (sym is))

pub none_left : (rows : List NodeRow) (i : ℕ) → length rows ≤ i → map number (drop i rows) ≡ []
none_left [] i l = ap (map number) (drop_none i)
  where
    drop_none : (i : ℕ) → drop {A = NodeRow} i [] ≡ []
    drop_none zero = refl
    drop_none (suc i) = refl
none_left (row ∷ rows) zero l = absurd (omega arith)
none_left (row ∷ rows) (suc i) l = none_left rows i (omega arith)
