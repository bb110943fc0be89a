-- A list whose part from a place on has lost its first entry, and entries of which one has gone.
use Rattle.std.proofs.Common.{◌≡◌, ℕ, zero, suc, ◌+◌, ◌-◌, ◌<◌, ◌≤◌, ◌==◌, nat_le, nat_lt, ◌≢◌, Bool, true, false, cond, List, [], ◌∷◌, ◌++◌, Option, Some, None, IfSome, MatchOption, drop, length, length-append, slice_get, slice_set, take, refl, sym, ◌∙◌, ap, subst, arith}
use Rattle.std.proofs.Math.Seq.{take-append-add}
use Rattle.std.proofs.lemmas.List.{drop-drop, length-drop, length-take-le, take-append-le, take-take, take_rest}
use Rattle.std.proofs.lemmas.List.Edits.{length-remove}
use Rattle.std.proofs.lemmas.Option.{same_Some, slice_get_within}
use Rattle.std.specs.List.{remove}
use Rattle.fsrm_base.specs.Keyed.{has_row, is_ascending, with_row}
use Rattle.fsrm_base.specs.Places.{IsAt}
use Rattle.fsrm_base.proofs.EditedRows.{ascending_tail}
use Rattle.fsrm_base.proofs.EditedTests.{list_any-filter}
use Rattle.fsrm_base.proofs.Look.{has_row-without}
use Rattle.fsrm_base.proofs.Order.{parts}
use Rattle.fsrm_base.proofs.SortedRows.{ascending-remove, later_above, remove_found, remove_row, row_at, row_found, there}
use Rattle.fsrm_base.proofs.TestLaws.{clash, eq_is, eq_test, ge_is, gt_is, le_is, lt_is, lt_test, not_lt}
use Rattle.row_table.specs.declared.index.Entry.{Entry}
use Rattle.row_table.specs.Indexed.{AreIndexed, number_of}
use Rattle.row_table.specs.Ordered.{IsOrder, living, place_among, place_in}
use Rattle.row_table.proofs.IndexLaws.{held_less, held_more, indexed}

abbrev pub part : {X : Type 0} → List X → ℕ → List X
part xs place = take (length xs - place) (drop place xs)

pub cut : {X : Type 0} (xs moved after tail : List X) (place n m : ℕ) → place < length xs → n ≡ length xs → m ≡ length xs - 1 → take (length (part xs place) - 1) moved ≡ drop 1 (part xs place) → length moved ≡ length (part xs place) → take m (take n ((take place xs ++ (moved ++ after)) ++ tail)) ≡ remove xs place
cut xs moved after tail place n m within all less rest same =
    let whole : part xs place ≡ drop place xs = take_rest xs place in
    let long : length moved ≡ length xs - place = same ∙ (ap length whole ∙ length-drop place xs) in
    let left : take (length (drop place xs) - 1) moved ≡ drop 1 (drop place xs) = subst (λ r. take (length r - 1) moved ≡ drop 1 r) whole rest in
    let front : length (take place xs) ≡ place = length-take-le place xs (omega arith) in
    let k : ℕ = length (drop place xs) - 1 in
    let next : place + 1 ≡ suc place = omega arith in
    let ends : m ≡ length (take place xs) + k = omega (arith, less, front, within, length-drop place xs) in
    let most : m ≤ length (take place xs ++ (moved ++ after)) = omega (arith, less, front, long, within, length-append (take place xs) (moved ++ after), length-append moved after) in
    take-take m n _ (omega (arith, all, less))
    ∙ (take-append-le m (take place xs ++ (moved ++ after)) tail most
    ∙ (ap (λ j. take j (take place xs ++ (moved ++ after))) ends
    ∙ (take-append-add (take place xs) (moved ++ after) k
    ∙ ap (λ l. take place xs ++ l) (take-append-le k moved after (omega (arith, long, length-drop place xs)) ∙ (left ∙ (drop-drop 1 place xs ∙ ap (λ j. drop j xs) next))))))

-- ---- one of the entries has gone
abbrev Within : Option ℕ → List Entry → Type 0
Within gone es = IfSome gone (λ place. place < length es)

-- one stands at the place of its number
pub at_number : (es : List Entry) (n p : ℕ) (e : Entry) → is_ascending number_of es ≡ true → slice_get es p ≡ Some e → e.number ≡ n → IsAt number_of n es p
at_number es n p e a at same =
    record { within = slice_get_within es p e at; found = at ∙ sym (row_at number_of n es p e a at same) }

pub living_ascending : (gone : Option ℕ) (es : List Entry) → is_ascending number_of es ≡ true → Within gone es → is_ascending number_of (living gone es) ≡ true
living_ascending None es a l = a
living_ascending (Some p) es a l =
    let f = there es p l in
    ascending-remove number_of f.row.number es p a (at_number es f.row.number p f.row a f.is refl)

-- ---- where those that are there stand
kept_before : (es : List Entry) (p i : ℕ) → i < p → slice_get (remove es p) i ≡ slice_get es i
kept_before [] zero i l = absurd (omega arith)
kept_before [] (suc p) i l = refl
kept_before (x ∷ es) zero i l = absurd (omega arith)
kept_before (x ∷ es) (suc p) zero l = refl
kept_before (x ∷ es) (suc p) (suc i) l = kept_before es p i (omega arith)

kept_after : (es : List Entry) (p i : ℕ) → p ≤ i → slice_get (remove es p) i ≡ slice_get es (suc i)
kept_after [] zero i l = refl
kept_after [] (suc p) i l = refl
kept_after (x ∷ es) zero i l = refl
kept_after (x ∷ es) (suc p) zero l = absurd (omega arith)
kept_after (x ∷ es) (suc p) (suc i) l = kept_after es p i (omega arith)

stands_at : (es : List Entry) (p i : ℕ) (b : Bool) → nat_le p i ≡ b → slice_get (remove es p) i ≡ slice_get es (cond b (i + 1) i)
stands_at es p i true e =
    let next : suc i ≡ i + 1 = omega arith in
    kept_after es p i (le_is p i e) ∙ ap (slice_get es) next
stands_at es p i false e = kept_before es p i (gt_is p i e)

pub stands : (gone : Option ℕ) (es : List Entry) (i : ℕ) → slice_get (living gone es) i ≡ slice_get es (place_in gone i)
stands None es i = refl
stands (Some p) es i = stands_at es p i (nat_le p i) refl

stands_within_at : (es : List Entry) (p i : ℕ) (b : Bool) → nat_le p i ≡ b → i + 1 < length es → cond b (i + 1) i < length es
stands_within_at es p i true e l = l
stands_within_at es p i false e l = omega (arith, l)

pub stands_within : (gone : Option ℕ) (es : List Entry) (i : ℕ) → Within gone es → i < length (living gone es) → place_in gone i < length es
stands_within None es i l within = within
stands_within (Some p) es i l within = stands_within_at es p i (nat_le p i) refl (omega (arith, within, length-remove es p l))

-- ---- their places among those that are there
-- what stands where it did, or one place before, is still found
stays : (es : List Entry) (p n i j : ℕ) → is_ascending number_of es ≡ true → p < length es → IsAt number_of n es i → slice_get (remove es p) j ≡ slice_get es i → IsAt number_of n (remove es p) j
stays es p n i j a l at same =
    let f = row_found number_of n es i at in
    at_number (remove es p) n j f.row (living_ascending (Some p) es a l) (same ∙ f.at) f.number

placed_at : (es : List Entry) (p n i : ℕ) → is_ascending number_of es ≡ true → p < length es → IsAt number_of n es i → (b : Bool) → (p == i) ≡ b → (c : Bool) → nat_lt p i ≡ c → MatchOption (cond b None (cond c (Some (i - 1)) (Some i))) (has_row number_of n (remove es p) ≡ false) (IsAt number_of n (remove es p))
placed_at es p n i a l at true e c h =
    ap (λ j. has_row number_of n (remove es j)) (eq_is p i e) ∙ (ap (has_row number_of n) (remove_found number_of n es i a at) ∙ has_row-without number_of n es)
placed_at es p n i a l at false e true h =
    let before : p < i = lt_is p i h in
    let next : suc (i - 1) ≡ i = omega arith in
    stays es p n i (i - 1) a l at (kept_after es p (i - 1) (omega arith) ∙ ap (slice_get es) next)
placed_at es p n i a l at false e false h =
    let most : i ≤ p = ge_is p i h in
    let apart : p ≢ i = λ same. clash (p == i) (eq_test p i same) e in
    stays es p n i i a l at (kept_before es p i (omega arith))

pub placed : (gone : Option ℕ) (es : List Entry) (n i : ℕ) → is_ascending number_of es ≡ true → Within gone es → IsAt number_of n es i → MatchOption (place_among gone i) (has_row number_of n (living gone es) ≡ false) (IsAt number_of n (living gone es))
placed None es n i a l at = at
placed (Some p) es n i a l at = placed_at es p n i a l at (p == i) refl (nat_lt p i) refl

pub absent_too : (gone : Option ℕ) (es : List Entry) (n : ℕ) → is_ascending number_of es ≡ true → Within gone es → has_row number_of n es ≡ false → has_row number_of n (living gone es) ≡ false
absent_too None es n a l absent = absent
absent_too (Some p) es n a l absent =
    let f = there es p l in
    ap (has_row number_of n) (remove_row number_of f.row.number es p f.row a f.is refl) ∙ list_any-filter (λ e. e.number == n) _ es absent

-- ---- entries that come and go
-- one takes the place of the one that had its number
pub filled : (es : List Entry) (p : ℕ) (r e : Entry) → is_ascending number_of es ≡ true → slice_get es p ≡ Some r → r.number ≡ e.number → slice_set es p e ≡ with_row number_of e (remove es p)
filled [] p r e a h same = cc
filled (x ∷ []) zero r e a h same = refl
filled (x ∷ y ∷ es) zero r e a h same =
    let first : x.number ≡ e.number = ap number_of (same_Some x r h) ∙ same in
    let above : x.number < y.number = lt_is x.number y.number (parts number_of x (y ∷ es) a).above in
    sym (ap (λ b. cond b (e ∷ y ∷ es) (y ∷ with_row number_of e es)) (lt_test e.number y.number (omega (arith, first, above))))
filled (x ∷ es) (suc p) r e a h same =
    let below : x.number < r.number = later_above number_of x es p r a h in
    ap (λ ys. x ∷ ys) (filled es p r e (ascending_tail number_of x es a) h same)
    ∙ sym (ap (λ b. cond b (e ∷ x ∷ remove es p) (x ∷ with_row number_of e (remove es p))) (not_lt e.number x.number (omega (arith, below, same))))

pub order_more : (es : List Entry) (gone : Option ℕ) (room capacity new : ℕ) (e : Entry) → IsOrder es gone room capacity → has_row number_of e.number (living gone es) ≡ false → length (living gone es) < room → e.slot < 65535 → capacity ≤ new → IsOrder (with_row number_of e (living gone es)) None room new
order_more es gone room capacity new e is free fits small up =
    let held = held_more (indexed (living gone es) room) e is.held free fits small in
    record { held = held; ascending = held.ascending; there = tt; memory = omega (arith, is.memory, up) }

pub order_less : (es : List Entry) (gone : Option ℕ) (room capacity n p : ℕ) → IsOrder es gone room capacity → IsAt number_of n (living gone es) p → IsOrder (living gone es) (Some p) room capacity
order_less es gone room capacity n p is at =
    let rest = remove_found number_of n (living gone es) p is.held.ascending at in
    record {
      held = subst (λ (l : List Entry). AreIndexed (indexed l room)) (sym rest) (held_less (indexed (living gone es) room) n is.held);
      ascending = is.held.ascending;
      there = at.within;
      memory = is.memory;
    }
