-- What is lent of the runs of an order, and what is left then.
use Rattle.std.proofs.Common.{◌≡◌, ℕ, zero, suc, ◌+◌, ◌-◌, ◌<◌, ◌≤◌, inl, inr, List, [], ◌∷◌, ◌++◌, length, take, drop, refl, sym, ◌∙◌, ap, arith, length-append, length-drop, take-add}
use Rattle.std.specs.Prelude.{min}
use Rattle.std.proofs.lemmas.Bool.{cases_lt}
use Rattle.std.proofs.lemmas.List.{drop-drop, take-append-le, take_rest}
use Rattle.block_list.specs.declared.place.Place.{Place}
use Rattle.block_list.specs.Places.{index_of}
use Rattle.block_list.specs.Runs.{entries_of, run_at, start_of}
use Rattle.block_list.proofs.Joined.{run_within}
use Rattle.volume_tree.specs.Kept.{IsLeft, numbers_from}

-- what is lent of a run, and what is left then
drop_front : (xs ys : List ℕ) (k : ℕ) → k ≤ length xs → drop k (xs ++ ys) ≡ drop k xs ++ ys
drop_front xs ys zero l = refl
drop_front [] ys (suc k) l = absurd (omega arith)
drop_front (x ∷ xs) ys (suc k) l = drop_front xs ys k (omega arith)

drop_past : (xs ys : List ℕ) (n k : ℕ) → n ≡ length xs + k → drop n (xs ++ ys) ≡ drop k ys
drop_past [] ys n k e = let same : n ≡ k = omega (arith, e) in ap (λ m. drop m ys) same
drop_past (x ∷ xs) ys zero k e = absurd (omega (arith, e))
drop_past (x ∷ xs) ys (suc n) k e = drop_past xs ys n k (omega (arith, e))

pub rest_of : (runs : List (List ℕ)) (i offset n m : ℕ) → i < length runs → offset ≤ length (run_at runs i) → n ≡ start_of runs i + offset → m ≡ start_of runs i + length (run_at runs i) → drop n (entries_of runs) ≡ drop offset (run_at runs i) ++ drop m (entries_of runs)
rest_of [] i offset n m within l e f = absurd (omega arith)
rest_of (run ∷ runs) zero offset n m within l e f =
    let same : n ≡ offset = omega (arith, e) in
    ap (λ k. drop k (run ++ entries_of runs)) same
    ∙ (drop_front run (entries_of runs) offset l ∙ ap (λ ys. drop offset run ++ ys) (sym (drop_past run (entries_of runs) m 0 (omega (arith, f)))))
rest_of (run ∷ runs) (suc i) offset n m within l e f =
    let size = length-append run (entries_of (take i runs)) in
    drop_past run (entries_of runs) n (start_of runs i + offset) (omega (arith, e, size))
    ∙ (rest_of runs i offset (start_of runs i + offset) (start_of runs i + length (run_at runs i)) (omega arith) l refl refl
    ∙ ap (λ ys. drop offset (run_at runs i) ++ ys) (sym (drop_past run (entries_of runs) m (start_of runs i + length (run_at runs i)) (omega (arith, f, size)))))

pub lent_before : (runs : List (List ℕ)) (place next : Place) (left few rest : ℕ) → place.run < length runs → few + place.offset ≤ length (run_at runs place.run) → index_of runs next ≡ index_of runs place + few → few + rest ≡ left → numbers_from runs place left ≡ take few (drop place.offset (run_at runs place.run)) ++ numbers_from runs next rest
lent_before runs place next left few rest within most is e =
    let run = run_at runs place.run in
    let all = entries_of runs in
    let at = index_of runs place in
    let end = start_of runs place.run + length run in
    let front : take few (drop at all) ≡ take few (drop place.offset run) =
    ap (take few) (rest_of runs place.run place.offset at end within (omega (arith, most)) refl refl)
    ∙ take-append-le few (drop place.offset run) (drop end all) (omega (arith, most, length-drop place.offset run)) in
    let back : drop few (drop at all) ≡ drop (index_of runs next) all = drop-drop few at all ∙ ap (λ k. drop k all) (sym is) in
    ap (λ k. take k (drop at all)) (sym e)
    ∙ (take-add few rest (drop at all)
    ∙ (ap (λ xs. xs ++ take rest (drop few (drop at all))) front
    ∙ ap (λ xs. take few (drop place.offset run) ++ take rest xs) back))

pub left_after : (runs : List (List ℕ)) (place next : Place) (left few rest : ℕ) → IsLeft runs place left → index_of runs next ≡ index_of runs place + few → few + rest ≡ left → (0 < next.offset → next.offset < length (run_at runs next.run)) → IsLeft runs next rest
left_after runs place next left few rest h is e offset =
    let fit : index_of runs next + rest ≤ length (entries_of runs) = omega (arith, h.within, is, e) in
    record {
      within = fit;
      run = λ some. run_within runs next.run (omega (arith, fit, some));
      offset = λ some l. offset l;
    }

pub offset_within : (runs : List (List ℕ)) (place : Place) (left : ℕ) → IsLeft runs place left → 0 < left → place.offset ≤ length (run_at runs place.run)
offset_within runs place left h some = elim (cases_lt 0 place.offset) [ inl l ↦ let m = h.offset some l in omega (arith, m) | inr l ↦ omega (arith, l) ]

-- as many as are left of a run, but no more than are left in all
pub lent_few : {X : Type 0} (all : List X) (offset left few : ℕ) → offset ≤ length all → few ≡ min (length (take (length all - offset) (drop offset all))) left → (few + offset ≤ length all) × (few + (left - few) ≡ left)
lent_few all offset left few l f =
    let size : length (take (length all - offset) (drop offset all)) ≡ length all - offset = ap length (take_rest all offset) ∙ length-drop offset all in
    (omega (arith, f, size, l), omega (arith, f, size))
