-- The numbers of the nodes that pass a test, as a set.
use Rattle.std.proofs.Common.{◌≡◌, ℕ, ◌==◌, Bool, true, false, cond, ◌||◌, ◌&&◌, List, [], ◌∷◌, refl, sym, ◌∙◌, ap, arith, Some, nat_lt}
use Rattle.std.specs.Option.{option_map_or}
use Rattle.std.specs.Prelude.{map, filter}
use Rattle.fsrm_model.specs.declared.row.NodeRow.{NodeRow}
use Rattle.fsrm_base.specs.Keyed.{is_ascending, has_row, row_of}
use Rattle.fsrm_base.specs.Numbers.{is_in, is_set}
use Rattle.fsrm_model.specs.nodes.Tree.{number, node_of}
use Rattle.fsrm_base.proofs.EditedRows.{absent_later, ascending_tail}
use Rattle.fsrm_base.proofs.Look.{none_row, is_some-find}
use Rattle.fsrm_base.proofs.Order.{ascending-filter}
use Rattle.fsrm_base.proofs.TestLaws.{eq_is}

-- of rows of any kind
in_keys : {X : Type 0} (key : X → ℕ) (rows : List X) (n : ℕ) → is_in (map key rows) n ≡ has_row key n rows
in_keys key [] n = refl
in_keys key (x ∷ rows) n = ap (λ b. (key x == n) || b) (in_keys key rows n)

ascending_keys : {X : Type 0} (key : X → ℕ) (rows : List X) → is_set (map key rows) ≡ is_ascending key rows
ascending_keys key [] = refl
ascending_keys key (x ∷ []) = refl
ascending_keys key (x ∷ y ∷ rows) = ap (λ b. nat_lt (key x) (key y) && b) (ascending_keys key (y ∷ rows))

-- whether a row that is left has a number: whether the row of the number is left
lost : {X : Type 0} (key : X → ℕ) (p : X → Bool) (x : X) (rows : List X) (n : ℕ) → is_ascending key (x ∷ rows) ≡ true → (key x == n) ≡ true → option_map_or p (row_of key n rows) false ≡ false
lost key p x rows n a e =
    let is : key x ≡ n = eq_is (key x) n e in
    let absent : has_row key n rows ≡ false = absent_later key n x rows (omega arith) a in
    ap (λ o. option_map_or p o false) (none_row (row_of key n rows) (is_some-find (λ r. key r == n) rows ∙ absent))

left_at : {X : Type 0} (key : X → ℕ) (p : X → Bool) (x : X) (rows : List X) (n : ℕ) (b c : Bool) → p x ≡ b → (key x == n) ≡ c → has_row key n (filter p rows) ≡ option_map_or p (row_of key n rows) false → (c ≡ true → option_map_or p (row_of key n rows) false ≡ false) → has_row key n (cond b (x ∷ filter p rows) (filter p rows)) ≡ option_map_or p (cond c (Some x) (row_of key n rows)) false
left_at key p x rows n true true e g h f = ap (λ d. d || has_row key n (filter p rows)) g ∙ sym e
left_at key p x rows n true false e g h f = ap (λ d. d || has_row key n (filter p rows)) g ∙ h
left_at key p x rows n false true e g h f = h ∙ (f refl ∙ sym e)
left_at key p x rows n false false e g h f = h

pub has_row-filter : {X : Type 0} (key : X → ℕ) (p : X → Bool) (rows : List X) → is_ascending key rows ≡ true → (n : ℕ) → has_row key n (filter p rows) ≡ option_map_or p (row_of key n rows) false
has_row-filter key p [] a n = refl
has_row-filter key p (x ∷ rows) a n =
    left_at key p x rows n (p x) (key x == n) refl refl (has_row-filter key p rows (ascending_tail key x rows a) n) (lost key p x rows n a)

-- of nodes
pub in_numbers : (p : NodeRow → Bool) (nodes : List NodeRow) → is_ascending number nodes ≡ true → (n : ℕ) → is_in (map number (filter p nodes)) n ≡ option_map_or p (node_of nodes n) false
in_numbers p nodes a n = in_keys number (filter p nodes) n ∙ has_row-filter number p nodes a n

pub set_numbers : (p : NodeRow → Bool) (nodes : List NodeRow) → is_ascending number nodes ≡ true → is_set (map number (filter p nodes)) ≡ true
set_numbers p nodes a = ascending_keys number (filter p nodes) ∙ ascending-filter number p nodes a
