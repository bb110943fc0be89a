-- The CR at the end of a line.
use Rattle.std.proofs.Common.{◌≡◌, ℕ, suc, ◌-◌, ◌==◌, Bool, true, false, List, [], ◌∷◌, length, take, drop, refl, sym, ap, ◌∙◌, arith}
use Rattle.std.specs.Prelude.{nat_eq}
use Rattle.fsrm_model.specs.lines.Script.{without_cr}
use lib.Pointwise.{pointwise}

one_byte : (b : ℕ) → (test : Bool) → (b == 13) ≡ test → pointwise nat_eq (b ∷ []) (13 ∷ []) ≡ test
one_byte b true e = rw e refl
one_byte b false e = rw e refl

-- the line goes by whether its last byte is a CR
pub cr_ends : (line : List ℕ) → pointwise nat_eq (drop (length line - 1) line) (13 ∷ []) ≡ true → take (length line - 1) line ≡ without_cr line
cr_ends [] h = refl
cr_ends (b ∷ []) h = by (b == 13) refl
  where
    by : (test : Bool) → (b == 13) ≡ test → [] ≡ without_cr (b ∷ [])
    by true e = rw e refl
    by false e = let no = one_byte b false e in absurd cc
cr_ends (b ∷ c ∷ bs) h =
    let one_less : length (b ∷ c ∷ bs) - 1 ≡ suc (length (c ∷ bs) - 1) = omega arith in
    let rest : pointwise nat_eq (drop (length (c ∷ bs) - 1) (c ∷ bs)) (13 ∷ []) ≡ true = sym (ap (λ (n : ℕ). pointwise nat_eq (drop n (b ∷ c ∷ bs)) (13 ∷ [])) one_less) ∙ h in
    ap (λ (n : ℕ). take n (b ∷ c ∷ bs)) one_less ∙ ap (λ (xs : List ℕ). b ∷ xs) (cr_ends (c ∷ bs) rest)

pub no_cr_ends : (line : List ℕ) → pointwise nat_eq (drop (length line - 1) line) (13 ∷ []) ≡ false → line ≡ without_cr line
no_cr_ends [] h = refl
no_cr_ends (b ∷ []) h = by (b == 13) refl
  where
    by : (test : Bool) → (b == 13) ≡ test → b ∷ [] ≡ without_cr (b ∷ [])
    by true e = let yes' = one_byte b true e in absurd cc
    by false e = rw e refl
no_cr_ends (b ∷ c ∷ bs) h =
    let one_less : length (b ∷ c ∷ bs) - 1 ≡ suc (length (c ∷ bs) - 1) = omega arith in
    let rest : pointwise nat_eq (drop (length (c ∷ bs) - 1) (c ∷ bs)) (13 ∷ []) ≡ false = sym (ap (λ (n : ℕ). pointwise nat_eq (drop n (b ∷ c ∷ bs)) (13 ∷ [])) one_less) ∙ h in
    ap (λ (xs : List ℕ). b ∷ xs) (no_cr_ends (c ∷ bs) rest)
