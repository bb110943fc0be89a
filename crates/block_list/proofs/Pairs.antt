-- Neighbours that do not fit into one block, in runs of which one is changed.
use Rattle.std.proofs.Common.{◌≡◌, ◌≢◌, ℕ, suc, ◌+◌, ◌-◌, ◌*◌, ◌<◌, ◌≤◌, List, [], ◌∷◌, ◌++◌, length, set, take, drop, insert, remove, sym, ◌∙◌, ap, inl, inr, arith, length-append, get_or-set_same, get_or-set_other, subst}
use Rattle.std.proofs.lemmas.Bool.{cases_eq, cases_lt}
use Rattle.std.proofs.lemmas.List.{length-set, length-take-le, length-drop, take-append-le, take-take, take-set}
use Rattle.std.proofs.lemmas.List.Edits.{length-insert, get_or-insert_below, get_or-insert_at, get_or-insert_above, length-remove, get_or-remove_below, get_or-remove_above}
use Rattle.block_list.specs.Runs.{entries_of, run_at}
use Rattle.block_list.specs.Tight.{IsTight, IsTightBut}

-- a run of one entry less: its neighbours are full
end_pair : (l t : ℕ → ℕ) (i n j : ℕ) → ((k : ℕ) → k + 1 < n → 128 < l k + l (k + 1)) → l i ≡ 1 → ((k : ℕ) → k < i → t k ≡ l k) → ((k : ℕ) → i ≤ k → t k ≡ l (k + 1)) → j + 2 < n → 128 < t j + t (j + 1)
end_pair l t i n j old one below above within =
    let p0 = old j (omega arith) in
    let p1 : 128 < l (j + 1) + l (j + 1 + 1) = old (j + 1) (omega arith) in
    elim (cases_lt (j + 1) i) [
      | inl lt ↦ let a = below j (omega arith) in let b = below (j + 1) lt in omega (arith, a, b, p0)
      | inr ge ↦
          elim (cases_lt j i) [
            | inl lt ↦
                let is : i ≡ j + 1 = omega arith in
                let mid : l (j + 1) ≡ 1 = ap l (sym is) ∙ one in
                let a = below j lt in
                let b : t (j + 1) ≡ l (j + 1 + 1) = above (j + 1) (omega arith) in
                omega (arith, a, b, p0, p1, mid)
            | inr le ↦
                let a = above j le in
                let b : t (j + 1) ≡ l (j + 1 + 1) = above (j + 1) (omega arith) in
                omega (arith, a, b, p1)
          ]
    ]

-- a run of one entry behind a full one
start_pair : (l t : ℕ → ℕ) (i n j : ℕ) → ((k : ℕ) → k + 1 < n → 128 < l k + l (k + 1)) → l i ≡ 128 → (i + 1 < n → l (i + 1) ≡ 128) → t (i + 1) ≡ 1 → ((k : ℕ) → k < i + 1 → t k ≡ l k) → ((k : ℕ) → i + 1 ≤ k → t (k + 1) ≡ l k) → i < n → j < n
    → 128 < t j + t (j + 1)
start_pair l t i n j old full next one below above place within =
    elim (cases_lt j i) [
      | inl lt ↦ let p = old j (omega arith) in let a = below j (omega arith) in let b = below (j + 1) (omega arith) in omega (arith, a, b, p)
      | inr ge ↦
          elim (cases_eq j i) [
            | inl is ↦ let a : t j ≡ 128 = below j (omega arith) ∙ (ap l is ∙ full) in let b : t (j + 1) ≡ 1 = ap (λ k. t (k + 1)) is ∙ one in omega (arith, a, b)
            | inr ne ↦
                elim (cases_eq j (i + 1)) [
                  | inl is ↦
                      let a : t j ≡ 1 = ap t is ∙ one in
                      let b : t (j + 1) ≡ l (i + 1) = ap (λ k. t (k + 1)) is ∙ above (i + 1) (omega arith) in
                      let c = next (omega arith) in
                      omega (arith, a, b, c)
                  | inr more ↦
                      let is : j - 1 + 1 ≡ j = omega arith in
                      let p : 128 < l (j - 1) + l j = subst (λ k. 128 < l (j - 1) + l k) is (old (j - 1) (omega arith)) in
                      let a : t j ≡ l (j - 1) = ap t (sym is) ∙ above (j - 1) (omega arith) in
                      let b = above j (omega arith) in
                      omega (arith, a, b, p)
                ]
          ]
    ]

join_pair : (l t : ℕ → ℕ) (i j : ℕ) → ((k : ℕ) → k < i → t k ≡ l k) → t i ≡ l i + l (i + 1) → ((k : ℕ) → i < k → t k ≡ l (k + 1)) → (j < i → 128 < l j + l (j + 1)) → (i ≤ j → 128 < l (j + 1) + l (j + 1 + 1)) → 128 < t j + t (j + 1)
join_pair l t i j below at above before after =
    elim (cases_lt (j + 1) i) [
      | inl lt ↦ let a = below j (omega arith) in let b = below (j + 1) lt in let p = before (omega arith) in omega (arith, a, b, p)
      | inr ge ↦
          elim (cases_lt j i) [
            | inl lt ↦
                let is : j + 1 ≡ i = omega arith in
                let p : 128 < l j + l i = subst (λ k. 128 < l j + l k) is (before lt) in
                let a = below j lt in
                let b : t (j + 1) ≡ l i + l (i + 1) = ap t is ∙ at in
                omega (arith, a, b, p)
            | inr le ↦
                let p = after le in
                let b : t (j + 1) ≡ l (j + 1 + 1) = above (j + 1) (omega arith) in
                elim (cases_eq j i) [
                  | inl is ↦ let a : t j ≡ l j + l (j + 1) = ap t is ∙ (at ∙ ap (λ k. l k + l (k + 1)) (sym is)) in omega (arith, a, b, p)
                  | inr ne ↦ let a = above j (omega arith) in omega (arith, a, b, p)
                ]
          ]
    ]

module _ {T : Type 0} where
  -- how long the run at a place is
  abbrev pub width : List (List T) → ℕ → ℕ
  width runs k = length (run_at runs k)

  -- at most so many runs hold a list
  pub counted : (run : List T) (runs : List (List T)) → IsTight (run ∷ runs) → 129 * length runs + length run ≤ 2 * (length run + length (entries_of runs))
  counted run [] tight = omega arith
  counted run (next ∷ runs) tight =
      let first : 128 < length run + length next = tight.pairs 0 (omega arith) in
      let rest = counted next runs (record { pairs = pairs }) in
      omega (arith, first, rest, length-append next (entries_of runs))
    where
      pairs : (j : ℕ) → j + 1 < length (next ∷ runs) → 128 < width (next ∷ runs) j + width (next ∷ runs) (j + 1)
      pairs j lt = let is : suc j + 1 ≡ suc (j + 1) = omega arith in subst (λ k. 128 < width (next ∷ runs) j + width (run ∷ next ∷ runs) k) is (tight.pairs (suc j) (omega arith))

  pub tight_count : (runs : List (List T)) → IsTight runs → 129 * length runs ≤ 2 * length (entries_of runs) + 129
  tight_count [] tight = omega arith
  tight_count (run ∷ runs) tight = let bound = counted run runs tight in omega (arith, bound, length-append run (entries_of runs))

  -- a longer run
  pub tight-longer : (runs : List (List T)) (i : ℕ) (run : List T) → IsTight runs → i < length runs → width runs i ≤ length run → IsTight (set runs i run)
  tight-longer runs i run tight within longer = record { pairs = pairs }
    where
      wider : (k : ℕ) → width runs k ≤ width (set runs i run) k
      wider k = grind (arith, get_or-set_same, get_or-set_other)

      pairs : (j : ℕ) → j + 1 < length (set runs i run) → 128 < width (set runs i run) j + width (set runs i run) (j + 1)
      pairs j lt = let first = wider j in let second = wider (j + 1) in let old = tight.pairs j (omega (arith, length-set runs i run)) in omega (arith, first, second, old)

  -- a shorter run
  pub tight_but-shorter : (runs : List (List T)) (i : ℕ) (run : List T) → IsTight runs → i < length runs → IsTightBut (set runs i run) i (i - 1)
  tight_but-shorter runs i run tight within = record { pairs = pairs }
    where
      pairs : (j : ℕ) → j ≢ i → j ≢ i - 1 → j + 1 < length (set runs i run) → 128 < width (set runs i run) j + width (set runs i run) (j + 1)
      pairs j first before lt =
          let next : j + 1 ≢ i = omega arith in
          let old = tight.pairs j (omega (arith, length-set runs i run)) in
          omega (arith, old, ap length (get_or-set_other runs i j run [] first), ap length (get_or-set_other runs i (j + 1) run [] next))

  -- how long the runs of changed lists are

  pub width-remove_below : (runs : List (List T)) (i k : ℕ) → i < length runs → k < i → width (remove runs i) k ≡ width runs k
  width-remove_below runs i k within lt = ap length (get_or-remove_below runs i [] k lt within)

  pub width-remove_above : (runs : List (List T)) (i k : ℕ) → i < length runs → i ≤ k → width (remove runs i) k ≡ width runs (k + 1)
  width-remove_above runs i k within le = ap length (get_or-remove_above runs i [] k le within)

  pub width-insert_below : (runs : List (List T)) (i k : ℕ) (run : List T) → i ≤ length runs → k < i → width (insert runs i run) k ≡ width runs k
  width-insert_below runs i k run within lt = ap length (get_or-insert_below runs i run [] k lt within)

  pub width-insert_at : (runs : List (List T)) (i : ℕ) (run : List T) → i ≤ length runs → width (insert runs i run) i ≡ length run
  width-insert_at runs i run within = ap length (get_or-insert_at runs i run [] within)

  pub width-insert_above : (runs : List (List T)) (i k : ℕ) (run : List T) → i ≤ length runs → i ≤ k → width (insert runs i run) (k + 1) ≡ width runs k
  width-insert_above runs i k run within le = ap length (get_or-insert_above runs i run [] k le within)

  pub width-set_same : (runs : List (List T)) (i : ℕ) (run : List T) → i < length runs → width (set runs i run) i ≡ length run
  width-set_same runs i run within = ap length (get_or-set_same runs i run [] within)

  pub width-set_other : (runs : List (List T)) (i k : ℕ) (run : List T) → k ≢ i → width (set runs i run) k ≡ width runs k
  width-set_other runs i k run other = ap length (get_or-set_other runs i k run [] other)

  pub tight-end : (runs : List (List T)) (i : ℕ) → IsTight runs → i < length runs → width runs i ≡ 1 → IsTight (remove runs i)
  tight-end runs i tight within one = record {
    pairs = λ j lt. end_pair (width runs) (width (remove runs i)) i (length runs) j tight.pairs one (λ k below. width-remove_below runs i k within below) (λ k above. width-remove_above runs i k within above) (omega (arith, length-remove runs i within));
  }

  pub tight-start : (runs : List (List T)) (i : ℕ) (e : T) → IsTight runs → i < length runs → width runs i ≡ 128 → (i + 1 < length runs → width runs (i + 1) ≡ 128) → IsTight (insert runs (i + 1) (e ∷ []))
  tight-start runs i e tight within full next = record {
    pairs = λ j lt.
        start_pair (width runs) (width (insert runs (i + 1) (e ∷ []))) i (length runs) j tight.pairs full next (width-insert_at runs (i + 1) (e ∷ []) (omega arith))
        (λ k below. width-insert_below runs (i + 1) k (e ∷ []) (omega arith) below) (λ k above. width-insert_above runs (i + 1) k (e ∷ []) (omega arith) above) within
        (omega (arith, length-insert runs (i + 1) (e ∷ []) (omega arith)));
  }

  -- two runs in place of a full one, and an entry more in one of them
  pub record IsDivided (runs parts : List (List T)) (i : ℕ) : Type 0 where
    pub count : length parts ≡ length runs + 1
    pub below : (k : ℕ) → k < i → width parts k ≡ width runs k
    pub both : width parts i + width parts (i + 1) ≡ 129
    pub above : (k : ℕ) → i < k → width parts (k + 1) ≡ width runs k

  pub tight_but-divided : (runs parts : List (List T)) (i : ℕ) → IsTight runs → i < length runs → IsDivided runs parts i → IsTightBut parts (i + 1) (i - 1)
  tight_but-divided runs parts i tight within is_divided = record { pairs = λ j after before lt. pair (width runs) (width parts) (length runs) j tight.pairs within is_divided.below is_divided.both is_divided.above after before (omega (arith, is_divided.count)) }
    where
      pair : (l t : ℕ → ℕ) (n j : ℕ) → ((k : ℕ) → k + 1 < n → 128 < l k + l (k + 1)) → i < n → ((k : ℕ) → k < i → t k ≡ l k) → t i + t (i + 1) ≡ 129 → ((k : ℕ) → i < k → t (k + 1) ≡ l k) → j ≢ i + 1 → j ≢ i - 1 → j < n → 128 < t j + t (j + 1)
      pair l t n j old inside below both above after before within =
          elim (cases_lt j i) [
            | inl lt ↦ let p = old j (omega arith) in let a = below j lt in let b = below (j + 1) (omega arith) in omega (arith, a, b, p)
            | inr ge ↦
                elim (cases_eq j i) [
                  | inl is ↦ let a : t j + t (j + 1) ≡ 129 = ap (λ k. t k + t (k + 1)) is ∙ both in omega (arith, a)
                  | inr ne ↦
                      let is : j - 1 + 1 ≡ j = omega arith in
                      let p : 128 < l (j - 1) + l j = subst (λ k. 128 < l (j - 1) + l k) is (old (j - 1) (omega arith)) in
                      let a : t j ≡ l (j - 1) = ap t (sym is) ∙ above (j - 1) (omega arith) in
                      let b = above j (omega arith) in
                      omega (arith, a, b, p)
                ]
          ]

  -- two parts in place of a full run
  pub record IsParted (runs parts : List (List T)) (i at : ℕ) : Type 0 where
    pub count : length parts ≡ length runs + 1
    pub before : take i parts ≡ take i runs
    pub below : (k : ℕ) → k < i → width parts k ≡ width runs k
    pub first : width parts i ≡ at
    pub second : width parts (i + 1) ≡ 128 - at
    pub above : (k : ℕ) → i < k → width parts (k + 1) ≡ width runs k

  abbrev pub parts_of : List (List T) → ℕ → ℕ → List (List T)
  parts_of runs i at = insert (set runs i (take at (run_at runs i))) (i + 1) (drop at (run_at runs i))

  pub parted : (runs : List (List T)) (i at : ℕ) → i < length runs → width runs i ≡ 128 → at ≤ 128 → IsParted runs (parts_of runs i at) i at
  parted runs i at within full le =
      let low = take at (run_at runs i) in
      let high = drop at (run_at runs i) in
      let runs' = set runs i low in
      let same : length runs' ≡ length runs = length-set runs i low in
      let within' : i + 1 ≤ length runs' = omega (arith, same) in
      let short : i ≤ length (take (i + 1) runs') = omega (arith, length-take-le (i + 1) runs' within') in
      let some : i ≤ i + 1 = omega arith in
      record {
        count = length-insert runs' (i + 1) high within' ∙ ap (λ n. n + 1) same;
        before = take-append-le i (take (i + 1) runs') (high ∷ drop (i + 1) runs') short ∙ (take-take i (i + 1) runs' some ∙ take-set runs i low);
        below = λ k lt. width-insert_below runs' (i + 1) k high within' (omega arith) ∙ width-set_other runs i k low (omega arith);
        first = width-insert_below runs' (i + 1) i high within' (omega arith) ∙ (width-set_same runs i low within ∙ length-take-le at (run_at runs i) (omega arith));
        second = width-insert_at runs' (i + 1) high within' ∙ (length-drop at (run_at runs i) ∙ ap (λ n. n - at) full);
        above = λ k lt. width-insert_above runs' (i + 1) k high within' (omega arith) ∙ width-set_other runs i k low (omega arith);
      }

  pub divided : (runs parts : List (List T)) (i at p : ℕ) (e : T) → i < length runs → IsParted runs parts i at → at ≤ 128 → p ≤ at → IsDivided runs (set parts i (insert (run_at parts i) p e)) i
  divided runs parts i at p e within is_parted le p_le =
      let run = insert (run_at parts i) p e in
      let longer = length-insert (run_at parts i) p e (omega (arith, is_parted.first)) in
      let here = width-set_same parts i run (omega (arith, is_parted.count)) in
      let next = width-set_other parts i (i + 1) run (omega arith) in
      record {
        count = length-set parts i run ∙ is_parted.count;
        below = λ k lt. width-set_other parts i k run (omega arith) ∙ is_parted.below k lt;
        both = omega (arith, longer, here, next, is_parted.first, is_parted.second);
        above = λ k lt. width-set_other parts i (k + 1) run (omega arith) ∙ is_parted.above k lt;
      }

  -- one run in place of two
  abbrev pub joined : List (List T) → ℕ → List (List T)
  joined runs i = remove (set runs i (run_at runs i ++ run_at runs (i + 1))) (i + 1)

  pub pair-joined : (runs : List (List T)) (i j : ℕ) → i + 1 < length runs → (j < i → 128 < width runs j + width runs (j + 1)) → (i ≤ j → 128 < width runs (j + 1) + width runs (j + 1 + 1)) → 128 < width (joined runs i) j + width (joined runs i) (j + 1)
  pair-joined runs i j within before after =
      let both = run_at runs i ++ run_at runs (i + 1) in
      let runs' = set runs i both in
      let within' : i + 1 < length runs' = omega (arith, length-set runs i both) in
      join_pair (width runs) (width (joined runs i)) i j
      (λ k lt. width-remove_below runs' (i + 1) k within' (omega arith) ∙ width-set_other runs i k both (omega arith))
      (width-remove_below runs' (i + 1) i within' (omega arith) ∙ (width-set_same runs i both (omega arith) ∙ length-append (run_at runs i) (run_at runs (i + 1))))
      (λ k lt. width-remove_above runs' (i + 1) k within' (omega arith) ∙ width-set_other runs i (k + 1) both (omega arith))
      before after

  pub length-joined : (runs : List (List T)) (i : ℕ) → i + 1 < length runs → length (joined runs i) + 1 ≡ length runs
  length-joined runs i within =
      let both = run_at runs i ++ run_at runs (i + 1) in
      let same = length-set runs i both in
      length-remove (set runs i both) (i + 1) (omega (arith, same)) ∙ same

  pub tight-joined : (runs : List (List T)) (i : ℕ) → i + 1 < length runs → IsTightBut runs i i → IsTight (joined runs i)
  tight-joined runs i within tight = record {
    pairs = λ j lt. let n = length-joined runs i within in pair-joined runs i j within (λ before. tight.pairs j (omega arith) (omega arith) (omega arith)) (λ after. tight.pairs (j + 1) (omega arith) (omega arith) (omega (arith, n)));
  }

  pub tight_but-joined : (runs : List (List T)) (i q : ℕ) → i + 1 < length runs → q ≤ i → IsTightBut runs i q → IsTightBut (joined runs i) q q
  tight_but-joined runs i q within le tight = record {
    pairs = λ j other _ lt. let n = length-joined runs i within in pair-joined runs i j within (λ before. tight.pairs j (omega arith) other (omega arith)) (λ after. tight.pairs (j + 1) (omega arith) (omega arith) (omega (arith, n)));
  }
