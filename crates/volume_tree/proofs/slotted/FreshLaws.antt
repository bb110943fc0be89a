-- The least free number, how many nodes there may be, and the bytes of their names.
use Rattle.std.proofs.Common.{◌≡◌, ℕ, suc, ◌+◌, ◌<◌, ◌≤◌, ◌==◌, Bool, true, false, cond, ◌||◌, ◌⊎◌, inl, inr, List, [], ◌∷◌, length, refl, sym, ◌∙◌, ap, arith, Some, None, Option}
use Rattle.std.proofs.lemmas.Bool.{cases_order}
use Rattle.std.specs.List.{AllByRecursion}
use Rattle.fsrm_model.specs.declared.row.Capacity.{Capacity}
use Rattle.fsrm_model.specs.declared.row.NodeRow.{NodeRow}
use Rattle.fsrm_base.specs.Keyed.{is_ascending, has_row, least_free, least_free_from}
use Rattle.fsrm_model.specs.nodes.Tree.{number, node_of, fresh}
use Rattle.fsrm_model.specs.store.Valid.{IsVolume}
use Rattle.fsrm_base.proofs.EditedRows.{all_rows}
use Rattle.fsrm_base.proofs.Look.{FoundRow, has_found}
use Rattle.fsrm_base.proofs.Order.{parts, least_free_is}
use Rattle.fsrm_base.proofs.TestLaws.{clash, lt_is}
use Rattle.volume_tree.specs.Kept.{rows_of, AreSlots}
use Rattle.node_order.proofs.SlotRows.{slots_ascend}

-- numbers below the least free one are taken
below_at : (n k : ℕ) (r : NodeRow) (rows : List NodeRow) (b : Bool) → (r.number == n) ≡ b → n ≤ k → k < cond b (least_free_from number (n + 1) rows) n → (n + 1 ≤ k → k < least_free_from number (n + 1) rows → has_row number k rows ≡ true) → ((r.number == k) || has_row number k rows) ≡ true
below_at n k r rows false e h l f = absurd (omega arith)
below_at n k r rows true e h l f = choose (cases_order n k)
  where
    choose : (n ≡ k) ⊎ ((n < k) ⊎ (k < n)) → ((r.number == k) || has_row number k rows) ≡ true
    choose (inl s) = ap (λ b. b || has_row number k rows) (ap (λ i. r.number == i) (sym s) ∙ e)
    choose (inr (inl g)) = or_right (r.number == k) (has_row number k rows) (f (omega arith) l)
      where
        or_right : (a b : Bool) → b ≡ true → (a || b) ≡ true
        or_right true b t = refl
        or_right false b t = t
    choose (inr (inr g)) = absurd (omega arith)

below_from : (n k : ℕ) (rows : List NodeRow) → n ≤ k → k < least_free_from number n rows → has_row number k rows ≡ true
below_from n k [] h l = absurd (omega arith)
below_from n k (r ∷ rows) h l = below_at n k r rows (r.number == n) refl h l (below_from (n + 1) k rows)

pub fresh_below : (k : ℕ) (nodes : List NodeRow) → k < fresh nodes → has_row number k nodes ≡ true
fresh_below k nodes l = below_from 0 k nodes (omega arith) l

-- the least free number is free
pub fresh_free : (nodes : List NodeRow) → is_ascending number nodes ≡ true → has_row number (fresh nodes) nodes ≡ false
fresh_free nodes a = (least_free_is number nodes a).free

pub fresh_most : (nodes : List NodeRow) → is_ascending number nodes ≡ true → fresh nodes ≤ length nodes
fresh_most nodes a =
    let m : least_free number nodes ≤ 0 + length nodes = (least_free_is number nodes a).most in
    omega (arith, m)

-- it's the only number that is free and has none free below it
pub fresh_is : (nodes : List NodeRow) (k : ℕ) → is_ascending number nodes ≡ true → has_row number k nodes ≡ false → ((j : ℕ) → j < k → has_row number j nodes ≡ true) → k ≡ fresh nodes
fresh_is nodes k a free taken = choose (cases_order k (fresh nodes))
  where
    choose : (k ≡ fresh nodes) ⊎ ((k < fresh nodes) ⊎ (fresh nodes < k)) → k ≡ fresh nodes
    choose (inl s) = s
    choose (inr (inl l)) = absurd (clash (has_row number k nodes) (fresh_below k nodes l) free)
    choose (inr (inr l)) = absurd (clash (has_row number (fresh nodes) nodes) (taken (fresh nodes) l) (fresh_free nodes a))

-- a node's number isn't the least free one
pub fresh_apart : (n : ℕ) (nodes : List NodeRow) → is_ascending number nodes ≡ true → has_row number n nodes ≡ true → n ≡ fresh nodes → ⊥
fresh_apart n nodes a h e = clash (has_row number (fresh nodes) nodes) (ap (λ i. has_row number i nodes) (sym e) ∙ h) (fresh_free nodes a)

-- how many ascending numbers are below a bound
fit_from : (b : ℕ) (r : NodeRow) (rows : List NodeRow) → is_ascending number (r ∷ rows) ≡ true → AllByRecursion (λ (x : NodeRow). x.number < b) (r ∷ rows) → r.number + suc (length rows) ≤ b
fit_from b r [] a h = let l : r.number < b = h.0 in omega arith
fit_from b r (s ∷ rows) a h =
    let p = parts number r (s ∷ rows) a in
    let l : r.number < s.number = lt_is r.number s.number p.above in
    let m = fit_from b s rows p.rest h.1 in
    omega (arith, m)

fit : (b : ℕ) (rows : List NodeRow) → is_ascending number rows ≡ true → AllByRecursion (λ (x : NodeRow). x.number < b) rows → length rows ≤ b
fit b [] a h = omega arith
fit b (r ∷ rows) a h = let m = fit_from b r rows a h in omega (arith, m)

-- a volume has no more nodes than it may
pub few_nodes : (K : Capacity) (nodes : List NodeRow) → IsVolume K nodes → length nodes ≤ K.nodes
few_nodes K nodes v =
    fit K.nodes nodes v.ascending (all_rows number (λ (x : NodeRow). x.number < K.nodes) nodes (λ r h. below r (has_found number r.number nodes h)))
  where
    below : (r : NodeRow) → FoundRow (node_of nodes r.number) → r.number < K.nodes
    below r f = lt_is r.number K.nodes (v.below r.number f.row f.is)

rows_fit : (slots : List (Option NodeRow)) → length (rows_of slots) ≤ length slots
rows_fit [] = omega arith
rows_fit (None ∷ slots) = let l = rows_fit slots in omega (arith, l)
rows_fit (Some row ∷ slots) = let l = rows_fit slots in omega (arith, l)

-- the least free number is at most the next slot's
pub fresh_near : (slots : List (Option NodeRow)) → AreSlots 0 slots → fresh (rows_of slots) ≤ length slots
fresh_near slots a =
    let most = fresh_most (rows_of slots) (slots_ascend slots a) in
    let fit = rows_fit slots in
    omega (arith, most, fit)
