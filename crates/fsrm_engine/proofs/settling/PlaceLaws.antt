-- What is gathered of the rows at some places is that of all rows, if the others give nothing.
use Rattle.std.proofs.Common.{◌≡◌, ℕ, suc, ◌+◌, ◌-◌, ◌<◌, ◌≤◌, ◌==◌, Bool, true, false, inl, inr, ◌||◌, List, [], ◌∷◌, ◌++◌, length, Some, slice_get, refl, ap, sym, ◌∙◌, subst, arith}
use Rattle.std.proofs.lemmas.Bool.Decides.{nat_tests}
use Rattle.std.specs.Prelude.{flat_map}
use Rattle.std.specs.Option.{option_map_or}
use Rattle.fsrm_base.specs.Numbers.{itself, is_in, is_set}
use Rattle.fsrm_base.proofs.EditedRows.{ascending_tail}
use Rattle.fsrm_base.proofs.NumberLaws.{first_least}
use Rattle.fsrm_base.proofs.TestLaws.{eq_is, eq_same, is_apart, is_or_not, or_later}

-- of rows that begin with the one at the place k
abbrev gathered_from : {X Y : Type 0} → (X → List Y) → List X → ℕ → List ℕ → List Y
gathered_from h rows k places = flat_map (λ place. option_map_or h (slice_get rows (place - k)) []) places

-- places of these rows, which begin with the one at the place k: the rows that they take give the same either way, and the others
-- give nothing
record Fits {X Y : Type 0} (h f : X → List Y) (rows : List X) (k : ℕ) (places : List ℕ) : Type 0 where
  set : is_set places ≡ true
  from : (n : ℕ) → is_in places n ≡ true → k ≤ n
  within : (n : ℕ) → is_in places n ≡ true → n < k + length rows
  taken : (i : ℕ) (x : X) → slice_get rows i ≡ Some x → is_in places (k + i) ≡ true → h x ≡ f x
  left : (i : ℕ) (x : X) → slice_get rows i ≡ Some x → is_in places (k + i) ≡ false → f x ≡ []

above : (k n : ℕ) → k ≤ n → (n == k) ≡ false → k < n
above k n l e = grind (arith, nat_tests, l, e)

module _ {X Y : Type 0} (h f : X → List Y) where
  -- places after the first row are places of the rest
  past : (x : X) (rows : List X) (k : ℕ) (places : List ℕ) → ((n : ℕ) → is_in places n ≡ true → k < n) → gathered_from h (x ∷ rows) k places ≡ gathered_from h rows (suc k) places
  past x rows k [] later = refl
  past x rows k (n ∷ places) later =
      ap (λ i. option_map_or h (slice_get (x ∷ rows) i) [] ++ gathered_from h (x ∷ rows) k places) (next n (later n (ap (λ b. b || is_in places n) (eq_same n))))
      ∙ ap (λ ys. option_map_or h (slice_get rows (n - suc k)) [] ++ ys) (past x rows k places (λ m t. later m (or_later (n == m) (is_in places m) t)))
    where
      next : (n : ℕ) → k < n → n - k ≡ suc (n - suc k)
      next n l = omega (arith, l)

  -- the rest, if the first row's place is none of them
  skipped : (x : X) (rows : List X) (k : ℕ) (places : List ℕ) → ((n : ℕ) → is_in places n ≡ true → k < n) → Fits h f (x ∷ rows) k places → Fits h f rows (suc k) places
  skipped x rows k places later fits =
      record {
        set = fits.set;
        from = λ n t. let l = later n t in omega (arith, l);
        within = λ n t. let l = fits.within n t in omega (arith, l);
        taken = λ i y at t. fits.taken (suc i) y at (ap (is_in places) (moved i) ∙ t);
        left = λ i y at t. fits.left (suc i) y at (ap (is_in places) (moved i) ∙ t);
      }
    where
      moved : (i : ℕ) → k + suc i ≡ suc k + i
      moved i = omega arith

  -- and if it is the first of them
  stepped : (x : X) (rows : List X) (k : ℕ) (places : List ℕ) → Fits h f (x ∷ rows) k (k ∷ places) → Fits h f rows (suc k) places
  stepped x rows k places fits =
      record {
        set = ascending_tail itself k places fits.set;
        from = λ n t. let l = first_least k n places fits.set t in omega (arith, l);
        within = λ n t. let l = fits.within n (or_later (k == n) (is_in places n) t) in omega (arith, l);
        taken = λ i y at t. fits.taken (suc i) y at (same i ∙ t);
        left = λ i y at t. fits.left (suc i) y at (same i ∙ t);
      }
    where
      below : (i : ℕ) → (k == (k + suc i)) ≡ false
      below i = is_apart k (k + suc i) (λ e. absurd (omega (arith, e)))

      moved : (i : ℕ) → k + suc i ≡ suc k + i
      moved i = omega arith

      same : (i : ℕ) → is_in (k ∷ places) (k + suc i) ≡ is_in places (suc k + i)
      same i = ap (λ b. b || is_in places (k + suc i)) (below i) ∙ ap (is_in places) (moved i)

  -- the first row, if its place is the first of them
  taken_first : (x : X) (rows : List X) (k : ℕ) (places : List ℕ) → Fits h f (x ∷ rows) k (k ∷ places) → gathered_from h rows (suc k) places ≡ flat_map f rows → gathered_from h (x ∷ rows) k (k ∷ places) ≡ f x ++ flat_map f rows
  taken_first x rows k places fits rest =
      ap (λ i. option_map_or h (slice_get (x ∷ rows) i) [] ++ gathered_from h (x ∷ rows) k places) none
      ∙ (ap (λ ys. ys ++ gathered_from h (x ∷ rows) k places) (fits.taken 0 x refl (ap (is_in (k ∷ places)) start ∙ ap (λ b. b || is_in places k) (eq_same k)))
      ∙ ap (λ ys. f x ++ ys) (past x rows k places (λ m t. first_least k m places fits.set t) ∙ rest))
    where
      none : k - k ≡ 0
      none = omega arith

      start : k + 0 ≡ k
      start = omega arith

  -- and if it is none of them
  left_first : (x : X) (rows : List X) (k : ℕ) (places : List ℕ) → ((n : ℕ) → is_in places n ≡ true → k < n) → Fits h f (x ∷ rows) k places → gathered_from h rows (suc k) places ≡ flat_map f rows → gathered_from h (x ∷ rows) k places ≡ f x ++ flat_map f rows
  left_first x rows k places later fits rest =
      past x rows k places later
      ∙ (rest ∙ ap (λ ys. ys ++ flat_map f rows) (sym (fits.left 0 x refl (ap (is_in places) start ∙ absent (is_in places k) refl))))
    where
      start : k + 0 ≡ k
      start = omega arith

      absent : (b : Bool) → is_in places k ≡ b → b ≡ false
      absent true t = let l = later k t in absurd (omega (arith, l))
      absent false t = refl

  -- which of both it is
  all_later : (k n : ℕ) (places : List ℕ) → is_set (n ∷ places) ≡ true → k < n → (m : ℕ) → is_in (n ∷ places) m ≡ true → k < m
  all_later k n places set low m t = at (n == m) refl t
    where
      at : (b : Bool) → (n == m) ≡ b → (b || is_in places m) ≡ true → k < m
      at true same t = let is = eq_is n m same in omega (arith, is, low)
      at false same t = let l = first_least n m places set t in omega (arith, l, low)

  gathered_all : (rows : List X) (k : ℕ) (places : List ℕ) → Fits h f rows k places → gathered_from h rows k places ≡ flat_map f rows
  gathered_all [] k [] fits = refl
  gathered_all [] k (n ∷ places) fits =
      let there : is_in (n ∷ places) n ≡ true = ap (λ b. b || is_in places n) (eq_same n) in
      let low = fits.from n there in
      let high = fits.within n there in
      absurd (omega (arith, low, high))
  gathered_all (x ∷ rows) k [] fits =
      left_first x rows k [] (λ n t. cc t) fits (gathered_all rows (suc k) [] (skipped x rows k [] (λ n t. cc t) fits))
  gathered_all (x ∷ rows) k (n ∷ places) fits =
      elim (is_or_not (n == k)) [
        | inl e ↦
            let is : n ≡ k = eq_is n k e in
            let own : Fits h f (x ∷ rows) k (k ∷ places) = subst (λ m. Fits h f (x ∷ rows) k (m ∷ places)) is fits in
            ap (λ m. gathered_from h (x ∷ rows) k (m ∷ places)) is
            ∙ taken_first x rows k places own (gathered_all rows (suc k) places (stepped x rows k places own))
        | inr e ↦
            let there : is_in (n ∷ places) n ≡ true = ap (λ b. b || is_in places n) (eq_same n) in
            let low : k < n = above k n (fits.from n there) e in
            let later = all_later k n places fits.set low in
            left_first x rows k (n ∷ places) later fits (gathered_all rows (suc k) (n ∷ places) (skipped x rows k (n ∷ places) later fits))
      ]

pub by_places : {X Y : Type 0} (h f : X → List Y) (rows : List X) (places : List ℕ) → is_set places ≡ true → ((n : ℕ) → is_in places n ≡ true → n < length rows) → ((i : ℕ) (x : X) → slice_get rows i ≡ Some x → is_in places i ≡ true → h x ≡ f x) → ((i : ℕ) (x : X) → slice_get rows i ≡ Some x → is_in places i ≡ false → f x ≡ []) → flat_map (λ place. option_map_or h (slice_get rows place) []) places ≡ flat_map f rows
by_places h f rows places set within taken left =
    from places
    ∙ gathered_all h f rows 0 places (record { set = set; from = λ n t. least n; within = λ n t. subst (λ m. n < m) (whole_length (length rows)) (within n t); taken = λ i x at t. taken i x at (ap (is_in places) (same i) ∙ t); left = λ i x at t. left i x at (ap (is_in places) (same i) ∙ t) })
  where
    whole_length : (n : ℕ) → n ≡ 0 + n
    whole_length n = omega arith

    same : (i : ℕ) → i ≡ 0 + i
    same i = omega arith

    least : (n : ℕ) → 0 ≤ n
    least n = omega arith

    whole : (n : ℕ) → n ≡ n - 0
    whole n = omega arith

    from : (places : List ℕ) → flat_map (λ place. option_map_or h (slice_get rows place) []) places ≡ gathered_from h rows 0 places
    from [] = refl
    from (n ∷ places) =
        ap (λ i. option_map_or h (slice_get rows i) [] ++ flat_map (λ place. option_map_or h (slice_get rows place) []) places) (whole n)
        ∙ ap (λ ys. option_map_or h (slice_get rows (n - 0)) [] ++ ys) (from places)
