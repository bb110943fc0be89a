-- Lists with another element at a place.
use Rattle.std.proofs.Common.{◌≡◌, ◌≢◌, ℕ, zero, suc, ◌+◌, ◌<◌, ◌≤◌, List, [], ◌∷◌, ◌++◌, length, get_or, set, refl, ap, arith}
use Rattle.std.specs.Prelude.{max, Result, Ok, Err, IsOk, is_ok, if◌then◌else◌}
use Rattle.node_table.specs.Slots.{with_at}

module _ {X : Type 0} (filler : X) where
  pub length-with_at : (xs : List X) (n : ℕ) (x : X) → length (with_at filler xs n x) ≡ max (length xs) (n + 1)
  length-with_at [] zero x = omega arith
  length-with_at [] (suc n) x = let rest = length-with_at [] n x in omega (arith, rest)
  length-with_at (y ∷ ys) zero x = omega arith
  length-with_at (y ∷ ys) (suc n) x = let rest = length-with_at ys n x in omega (arith, rest)

  pub at_same : (xs : List X) (n : ℕ) (x : X) → get_or (with_at filler xs n x) n filler ≡ x
  at_same [] zero x = refl
  at_same [] (suc n) x = at_same [] n x
  at_same (y ∷ ys) zero x = refl
  at_same (y ∷ ys) (suc n) x = at_same ys n x

  pub at_other : (xs : List X) (n j : ℕ) (x : X) → j ≢ n → get_or (with_at filler xs n x) j filler ≡ get_or xs j filler
  at_other [] zero zero x ne = absurd (ne refl)
  at_other [] zero (suc j) x ne = refl
  at_other [] (suc n) zero x ne = refl
  at_other [] (suc n) (suc j) x ne = at_other [] n j x (λ e. ne (ap suc e))
  at_other (y ∷ ys) zero zero x ne = absurd (ne refl)
  at_other (y ∷ ys) zero (suc j) x ne = refl
  at_other (y ∷ ys) (suc n) zero x ne = refl
  at_other (y ∷ ys) (suc n) (suc j) x ne = at_other ys n j x (λ e. ne (ap suc e))

  -- within the list it is a write
  pub set-with_at : (xs : List X) (n : ℕ) (x : X) → n < length xs → set xs n x ≡ with_at filler xs n x
  set-with_at [] n x within = absurd (omega arith)
  set-with_at (y ∷ ys) zero x within = refl
  set-with_at (y ∷ ys) (suc n) x within = ap (λ zs. y ∷ zs) (set-with_at ys n x (omega arith))

  -- the list may be filled up before
  pub filled_up : (xs : List X) (n : ℕ) (x : X) → length xs ≤ n → with_at filler (xs ++ filler ∷ []) n x ≡ with_at filler xs n x
  filled_up [] zero x past = refl
  filled_up [] (suc n) x past = refl
  filled_up (y ∷ ys) zero x past = absurd (omega arith)
  filled_up (y ∷ ys) (suc n) x past = ap (λ zs. y ∷ zs) (filled_up ys n x (omega arith))

  -- the second of two at one place stays
  pub with_at-with_at : (xs : List X) (n : ℕ) (x z : X) → with_at filler (with_at filler xs n x) n z ≡ with_at filler xs n z
  with_at-with_at [] zero x z = refl
  with_at-with_at [] (suc n) x z = ap (λ zs. filler ∷ zs) (with_at-with_at [] n x z)
  with_at-with_at (y ∷ ys) zero x z = refl
  with_at-with_at (y ∷ ys) (suc n) x z = ap (λ zs. y ∷ zs) (with_at-with_at ys n x z)

-- what a call leaves that succeeds
pub succeeded : {V E A : Type 0} (r : Result V E) (x y z : A) → IsOk r → z ≡ (if is_ok r then x else y) → z ≡ x
succeeded (Ok v) x y z ok is = is
succeeded (Err e) x y z ok is = cc
