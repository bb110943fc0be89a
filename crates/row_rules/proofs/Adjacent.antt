-- Rows ascend exactly if the number of each is below that of the next.
use Rattle.std.proofs.Common.{◌≡◌, ℕ, zero, suc, ◌+◌, ◌<◌, Bool, true, false, List, [], ◌∷◌, length, slice_index_or, nat_lt, ◌&&◌, refl, ap, sym, ◌∙◌, add-one, arith}
use Rattle.std.specs.List.{AllAdjacentBelow, IsAllAdjacentAnswer}
use Rattle.fsrm_base.specs.Keyed.{is_ascending}
use Rattle.fsrm_base.proofs.TestLaws.{and_false, both_true}

-- a row and the next, and the same two once another row stands before them
abbrev is_below : {X : Type 0} (key : X → ℕ) (d : X) (rows : List X) → ℕ → Bool
is_below key d rows k = nat_lt (key (slice_index_or rows k d)) (key (slice_index_or rows (k + 1) d))

moved_on : {X : Type 0} (key : X → ℕ) (d x : X) (rows : List X) (k : ℕ) → is_below key d (x ∷ rows) (suc k) ≡ is_below key d rows k
moved_on key d x rows k =
    let low = key (slice_index_or rows k d) in
    ap (λ n. nat_lt low (key (slice_index_or (x ∷ rows) n d))) (add-one (suc k)) ∙ ap (λ n. nat_lt low (key (slice_index_or rows n d))) (sym (add-one k))

each_below : {X : Type 0} (key : X → ℕ) (rows : List X) → AllAdjacentBelow (λ a b. true ≡ nat_lt (key a) (key b)) rows (length rows) → is_ascending key rows ≡ true
each_below key [] h = refl
each_below key (x ∷ []) h = refl
each_below key (x ∷ y ∷ rows) h =
    both_true (nat_lt (key x) (key y)) (is_ascending key (y ∷ rows)) (sym (h 0 x (omega arith)))
    (each_below key (y ∷ rows) (λ k d low. h (suc k) d (omega (arith, low)) ∙ moved_on key d x (y ∷ rows) k))

some_above : {X : Type 0} (key : X → ℕ) (rows : List X) (k : ℕ) → k + 1 < length rows → ((d : X) → false ≡ is_below key d rows k) → is_ascending key rows ≡ false
some_above key [] k low h = absurd (omega (arith, low))
some_above key (x ∷ []) k low h = absurd (omega (arith, low))
some_above key (x ∷ y ∷ rows) zero low h = ap (λ b. b && is_ascending key (y ∷ rows)) (sym (h x))
some_above key (x ∷ y ∷ rows) (suc k) low h =
    ap (λ b. nat_lt (key x) (key y) && b) (some_above key (y ∷ rows) k (omega (arith, low)) (λ d. h d ∙ moved_on key d x (y ∷ rows) k)) ∙ and_false (nat_lt (key x) (key y))

pub adjacent : {X : Type 0} (key : X → ℕ) (rows : List X) (r : Bool) → IsAllAdjacentAnswer (λ a b answer. answer ≡ nat_lt (key a) (key b)) rows r → r ≡ is_ascending key rows
adjacent key rows true h = sym (each_below key rows h)
adjacent key rows false h = sym (some_above key rows h.0 h.1 h.2)
