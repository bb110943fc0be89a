-- Runs of which none is empty, of which one is changed.
use Rattle.std.proofs.Common.{◌≡◌, ℕ, zero, suc, ◌+◌, ◌-◌, ◌<◌, ◌≤◌, List, [], ◌∷◌, ◌++◌, length, set, take, drop, insert, remove, refl, ◌∙◌, ap, inl, inr, arith, add-one}
use Rattle.std.proofs.lemmas.Bool.{cases_eq, cases_lt}
use Rattle.std.proofs.lemmas.List.{length-set, length-take-le, set_at, take-set, drop-set-lt}
use Rattle.std.proofs.lemmas.List.Edits.{length-insert, get_or-insert_at, get_or-insert_below, length-remove}
use Rattle.block_list.specs.Runs.{AreUsed, run_at}
use Rattle.block_list.proofs.Pairs.{width, width-set_same, width-set_other, width-insert_below, width-insert_at, width-insert_above, width-remove_below, width-remove_above}

module _ {T : Type 0} where
  pub used-set : (runs : List (List T)) (i : ℕ) (run : List T) → AreUsed runs → i < length runs → 0 < length run → AreUsed (set runs i run)
  used-set runs i run used within some = record {
    used = λ k lt.
        elim (cases_eq k i) [
          | inl is ↦ let same = ap (width (set runs i run)) is in let here = width-set_same runs i run within in omega (arith, same, here)
          | inr ne ↦ let other = width-set_other runs i k run ne in let old = used.used k (omega (arith, length-set runs i run)) in omega (arith, other, old)
        ];
  }

  pub used-insert : (runs : List (List T)) (i : ℕ) (run : List T) → AreUsed runs → i ≤ length runs → 0 < length run → AreUsed (insert runs i run)
  used-insert runs i run used within some = record {
    used = λ k lt.
        let count = length-insert runs i run within in
        elim (cases_lt k i) [
          | inl below ↦ let same = width-insert_below runs i k run within below in let old = used.used k (omega arith) in omega (arith, same, old)
          | inr ge ↦
              elim (cases_eq k i) [
                | inl is ↦ let same = ap (width (insert runs i run)) is in let here = width-insert_at runs i run within in omega (arith, same, here)
                | inr ne ↦
                    let more : k - 1 + 1 ≡ k = omega arith in
                    let same = ap (width (insert runs i run)) more in
                    let above = width-insert_above runs i (k - 1) run within (omega arith) in
                    let old = used.used (k - 1) (omega (arith, count)) in
                    omega (arith, same, above, old)
              ]
        ];
  }

  pub used-remove : (runs : List (List T)) (i : ℕ) → AreUsed runs → i < length runs → AreUsed (remove runs i)
  used-remove runs i used within = record {
    used = λ k lt.
        let count = length-remove runs i within in
        elim (cases_lt k i) [
          | inl below ↦ let same = width-remove_below runs i k within below in let old = used.used k (omega arith) in omega (arith, same, old)
          | inr ge ↦ let same = width-remove_above runs i k within ge in let old = used.used (k + 1) (omega (arith, count)) in omega (arith, same, old)
        ];
  }

  -- two edits that are one

  pub started : (runs : List (List T)) (i : ℕ) (e : T) → i ≤ length runs → set (insert runs i []) i (insert (run_at (insert runs i []) i) 0 e) ≡ insert runs i (e ∷ [])
  started runs i e within =
      ap (λ run. set (insert runs i []) i (insert run 0 e)) (get_or-insert_at runs i [] [] within)
      ∙ set_at (take i runs) [] (drop i runs) (e ∷ []) i (length-take-le i runs within)

  pub remove-set_at : (runs : List (List T)) (i : ℕ) (run : List T) → remove (set runs i run) i ≡ remove runs i
  remove-set_at runs i run =
      let more : i < suc i = omega arith in
      ap (λ front. front ++ drop (suc i) (set runs i run)) (take-set runs i run) ∙ ap (λ back. take i runs ++ back) (drop-set-lt (suc i) runs i run more)

  set-insert_next : (runs : List (List T)) (i : ℕ) (first second : List T) → i < length runs → set (insert runs (i + 1) second) i first ≡ insert (set runs i first) (i + 1) second
  set-insert_next runs i first second within = rw add-one (next runs i within)
    where
      next : (runs : List (List T)) (i : ℕ) → i < length runs → set (insert runs (suc i) second) i first ≡ insert (set runs i first) (suc i) second
      next [] i within = absurd (omega arith)
      next (run ∷ runs) zero within = refl
      next (run ∷ runs) (suc i) within = ap (λ rs. run ∷ rs) (next runs i (omega arith))

  -- a run is made behind another one, and takes what stands in that from a place on
  pub parted : (runs : List (List T)) (i at : ℕ) → i < length runs →
      set (set (insert runs (i + 1) []) (i + 1) (run_at (insert runs (i + 1) []) (i + 1) ++ drop at (run_at (insert runs (i + 1) []) i))) i (take at (run_at (insert runs (i + 1) []) i))
      ≡ insert (set runs i (take at (run_at runs i))) (i + 1) (drop at (run_at runs i))
  parted runs i at within =
      let more : i + 1 ≤ length runs = omega arith in
      let none : run_at (insert runs (i + 1) []) (i + 1) ≡ [] = get_or-insert_at runs (i + 1) [] [] more in
      let same : run_at (insert runs (i + 1) []) i ≡ run_at runs i = get_or-insert_below runs (i + 1) [] [] i (omega arith) more in
      ap (λ run. set (set (insert runs (i + 1) []) (i + 1) (run ++ drop at (run_at (insert runs (i + 1) []) i))) i (take at (run_at (insert runs (i + 1) []) i))) none
      ∙ (ap (λ run. set (set (insert runs (i + 1) []) (i + 1) (drop at run)) i (take at run)) same
      ∙ (ap (λ rs. set rs i (take at (run_at runs i))) (set_at (take (i + 1) runs) [] (drop (i + 1) runs) (drop at (run_at runs i)) (i + 1) (length-take-le (i + 1) runs more))
      ∙ set-insert_next runs i (take at (run_at runs i)) (drop at (run_at runs i)) within))
