-- The entries of runs of which one is changed.
use Rattle.std.proofs.Common.{◌≡◌, ℕ, zero, suc, ◌+◌, ◌-◌, ◌<◌, ◌≤◌, List, [], ◌∷◌, ◌++◌, length, set, take, drop, insert, remove, refl, sym, ◌∙◌, ap, arith, append_assoc, length-append, add-one}
use Rattle.std.proofs.lemmas.List.{take-append-drop, set-append_left, set-append_right, take_all, drop_all}
use Rattle.std.specs.Prelude.{slice_get}
use Rattle.std.proofs.lemmas.List.Edits.{insert-append_left, insert-append_right, remove-append_left, remove-append_right}
use Rattle.block_list.specs.declared.place.Place.{Place}
use Rattle.block_list.specs.Places.{IsGap}
use Rattle.block_list.specs.Runs.{entries_of, run_at, start_of}

module _ {T : Type 0} where
  -- one more run before the place
  pub entries_more : (runs : List (List T)) (i : ℕ) → i < length runs → length (entries_of (take (i + 1) runs)) ≡ length (entries_of (take i runs)) + length (run_at runs i)
  entries_more runs i within = rw add-one (more runs i within)
    where
      more : (runs : List (List T)) (i : ℕ) → i < length runs → length (entries_of (take (suc i) runs)) ≡ length (entries_of (take i runs)) + length (run_at runs i)
      more [] i within = absurd (omega arith)
      more (run ∷ runs) zero within = simp length-append (omega arith)
      more (run ∷ runs) (suc i) within =
          let rest = more runs i (omega arith) in
          omega (arith, rest, length-append run (entries_of (take (suc i) runs)), length-append run (entries_of (take i runs)))

  -- a place of a run, in the list
  pub entries_place : (runs : List (List T)) (i p : ℕ) → i < length runs → p ≤ length (run_at runs i) → length (entries_of (take i runs)) + p ≤ length (entries_of runs)
  entries_place [] i p within le = absurd (omega arith)
  entries_place (run ∷ runs) zero p within le = omega (arith, length-append run (entries_of runs))
  entries_place (run ∷ runs) (suc i) p within le =
      let rest = entries_place runs i p (omega arith) le in
      omega (arith, rest, length-append run (entries_of (take i runs)), length-append run (entries_of runs))

  pub entries_before : (runs : List (List T)) (i p : ℕ) → i < length runs → p < length (run_at runs i) → length (entries_of (take i runs)) + p < length (entries_of runs)
  entries_before runs i p within lt = let next = entries_place runs i (p + 1) within (omega arith) in omega (arith, next)

  -- an entry more in a run
  pub entries-insert : (runs : List (List T)) (i p n : ℕ) (e : T) → i < length runs → p ≤ length (run_at runs i) → n ≡ length (entries_of (take i runs)) + p → entries_of (set runs i (insert (run_at runs i) p e)) ≡ insert (entries_of runs) n e
  entries-insert [] i p n e within le at = absurd (omega arith)
  entries-insert (run ∷ runs) zero p n e within le at = let is : n ≡ p = omega arith in rw is (sym (insert-append_left run (entries_of runs) p e le))
  entries-insert (run ∷ runs) (suc i) p n e within le at =
      let before = length-append run (entries_of (take i runs)) in
      ap (λ es. run ++ es) (entries-insert runs i p (n - length run) e (omega arith) le (omega arith)) ∙ sym (insert-append_right run (entries_of runs) (length run) n e refl (omega arith))

  -- an entry less in a run
  pub entries-remove : (runs : List (List T)) (i p n : ℕ) → i < length runs → p < length (run_at runs i) → n ≡ length (entries_of (take i runs)) + p → entries_of (set runs i (remove (run_at runs i) p)) ≡ remove (entries_of runs) n
  entries-remove [] i p n within lt at = absurd (omega arith)
  entries-remove (run ∷ runs) zero p n within lt at = let is : n ≡ p = omega arith in rw is (sym (remove-append_left run (entries_of runs) p lt))
  entries-remove (run ∷ runs) (suc i) p n within lt at =
      let before = length-append run (entries_of (take i runs)) in
      ap (λ es. run ++ es) (entries-remove runs i p (n - length run) (omega arith) lt (omega arith)) ∙ sym (remove-append_right run (entries_of runs) (length run) n refl (omega arith))

  -- a run of one entry more
  pub entries-start : (runs : List (List T)) (i n : ℕ) (e : T) → i ≤ length runs → n ≡ length (entries_of (take i runs)) → entries_of (insert runs i (e ∷ [])) ≡ insert (entries_of runs) n e
  entries-start runs zero n e within at = rw at refl
  entries-start [] (suc i) n e within at = absurd (omega arith)
  entries-start (run ∷ runs) (suc i) n e within at =
      let before = length-append run (entries_of (take i runs)) in
      ap (λ es. run ++ es) (entries-start runs i (n - length run) e (omega arith) (omega arith)) ∙ sym (insert-append_right run (entries_of runs) (length run) n e refl (omega arith))

  -- a run of one entry less
  pub entries-end : (runs : List (List T)) (i n : ℕ) → i < length runs → length (run_at runs i) ≡ 1 → n ≡ length (entries_of (take i runs)) → entries_of (remove runs i) ≡ remove (entries_of runs) n
  entries-end [] i n within one at = absurd (omega arith)
  entries-end ([] ∷ runs) zero n within one at = absurd (omega arith)
  entries-end ((e ∷ []) ∷ runs) zero n within one at = rw at refl
  entries-end ((e ∷ f ∷ es) ∷ runs) zero n within one at = absurd (omega arith)
  entries-end (run ∷ runs) (suc i) n within one at =
      let before = length-append run (entries_of (take i runs)) in
      ap (λ es. run ++ es) (entries-end runs i (n - length run) (omega arith) one (omega arith)) ∙ sym (remove-append_right run (entries_of runs) (length run) n refl (omega arith))

  -- two runs in place of one
  pub entries-split : (runs : List (List T)) (i at : ℕ) → i < length runs → entries_of (insert (set runs i (take at (run_at runs i))) (i + 1) (drop at (run_at runs i))) ≡ entries_of runs
  entries-split runs i at within = rw add-one (parted runs i at within)
    where
      parted : (runs : List (List T)) (i at : ℕ) → i < length runs → entries_of (insert (set runs i (take at (run_at runs i))) (suc i) (drop at (run_at runs i))) ≡ entries_of runs
      parted [] i at within = absurd (omega arith)
      parted (run ∷ runs) zero at within = sym (append_assoc (take at run) (drop at run) (entries_of runs)) ∙ ap (λ es. es ++ entries_of runs) (take-append-drop at run)
      parted (run ∷ runs) (suc i) at within = ap (λ es. run ++ es) (parted runs i at (omega arith))

  -- one run in place of two
  pub entries-join : (runs : List (List T)) (i : ℕ) → i + 1 < length runs → entries_of (remove (set runs i (run_at runs i ++ run_at runs (i + 1))) (i + 1)) ≡ entries_of runs
  entries-join runs i within = rw add-one (united runs i (omega arith))
    where
      united : (runs : List (List T)) (i : ℕ) → suc i < length runs → entries_of (remove (set runs i (run_at runs i ++ run_at runs (suc i))) (suc i)) ≡ entries_of runs
      united [] i within = absurd (omega arith)
      united (run ∷ []) i within = absurd (omega arith)
      united (run ∷ next ∷ runs) zero within = append_assoc run next (entries_of runs)
      united (run ∷ next ∷ runs) (suc i) within = ap (λ es. run ++ es) (united (next ∷ runs) i (omega arith))

  -- an entry of the list is one of its run

  get-left : (xs ys : List T) (k : ℕ) → k < length xs → slice_get (xs ++ ys) k ≡ slice_get xs k
  get-left [] ys k within = absurd (omega arith)
  get-left (x ∷ xs) ys zero within = refl
  get-left (x ∷ xs) ys (suc k) within = get-left xs ys k (omega arith)

  get-right : (xs ys : List T) (n k : ℕ) → n ≡ length xs + k → slice_get (xs ++ ys) n ≡ slice_get ys k
  get-right [] ys n k at = let is : n ≡ k = omega arith in rw is refl
  get-right (x ∷ xs) ys zero k at = absurd (omega arith)
  get-right (x ∷ xs) ys (suc n) k at = get-right xs ys n k (omega arith)

  pub entries-get : (runs : List (List T)) (i k n : ℕ) → i < length runs → k < length (run_at runs i) → n ≡ start_of runs i + k → slice_get (entries_of runs) n ≡ slice_get (run_at runs i) k
  entries-get [] i k n within lt at = absurd (omega arith)
  entries-get (run ∷ runs) zero k n within lt at = let is : n ≡ k = omega arith in rw is (get-left run (entries_of runs) k lt)
  entries-get (run ∷ runs) (suc i) k n within lt at =
      let before = length-append run (entries_of (take i runs)) in
      get-right run (entries_of runs) n (n - length run) (omega arith) ∙ entries-get runs i k (n - length run) (omega arith) lt (omega arith)

  pub get-drop : (xs : List T) (o k n : ℕ) → n ≡ o + k → slice_get (drop o xs) k ≡ slice_get xs n
  get-drop xs zero k n at = let is : n ≡ k = omega arith in rw is refl
  get-drop [] (suc o) k n at = refl
  get-drop (x ∷ xs) (suc o) k zero at = absurd (omega arith)
  get-drop (x ∷ xs) (suc o) k (suc n) at = get-drop xs o k n (omega arith)

  -- another entry in a run
  pub entries-set : (runs : List (List T)) (i p n : ℕ) (e : T) → i < length runs → p < length (run_at runs i) → n ≡ start_of runs i + p → entries_of (set runs i (set (run_at runs i) p e)) ≡ set (entries_of runs) n e
  entries-set [] i p n e within lt at = absurd (omega arith)
  entries-set (run ∷ runs) zero p n e within lt at = let is : n ≡ p = omega arith in rw is (sym (set-append_left run (entries_of runs) p e lt))
  entries-set (run ∷ runs) (suc i) p n e within lt at =
      let before = length-append run (entries_of (take i runs)) in
      ap (λ es. run ++ es) (entries-set runs i p (n - length run) e (omega arith) lt (omega arith)) ∙ sym (set-append_right run (entries_of runs) (length run) n e refl (omega arith))

  -- a run that begins before the end is one of the list
  pub run_within : (runs : List (List T)) (i : ℕ) → start_of runs i < length (entries_of runs) → i < length runs
  run_within [] i lt = absurd (omega arith)
  run_within (run ∷ runs) zero lt = omega arith
  run_within (run ∷ runs) (suc i) lt =
      let rest = run_within runs i (omega (arith, length-append run (entries_of (take i runs)), length-append run (entries_of runs))) in
      omega (arith, rest)

  -- an entry may be put no further than after the last one
  pub gap_within : (runs : List (List T)) (place : Place) → IsGap runs place → start_of runs place.run + place.offset ≤ length (entries_of runs)
  gap_within [] place gap = within_none place.run place.offset (omega (arith, gap.run)) gap.offset
    where
      within_none : (i p : ℕ) → i < 1 → p ≤ length (run_at {T = T} [] i) → start_of {T = T} [] i + p ≤ 0
      within_none zero p lt le = omega arith
      within_none (suc i) p lt le = absurd (omega arith)
  gap_within (run ∷ runs) place gap = entries_place (run ∷ runs) place.run place.offset (omega (arith, gap.run)) gap.offset
