-- A search for a number in a list.
use Rattle.std.proofs.Common.{◌≡◌, ◌↔◌, ℕ, zero, suc, Bool, true, nat_eq, List, [], ◌∷◌, Contains, IsTrue, ⊎_elim, ◌∙◌, refl, arith}
use Rattle.std.specs.List.{list_any}
use Rattle.std.proofs.lemmas.Bool.Decides.{eqb_tells}
use Rattle.std.proofs.lemmas.Bool.{eq-eqb}

found : (x : ℕ) (xs : List ℕ) → list_any (λ y. nat_eq y x) xs ≡ true → Contains xs x
found x [] h = absurd (cc)
found x (y ∷ xs) h =
    ⊎_elim
    (λ same. (0, omega arith, same.1))
    (λ other.
    let rest : list_any (λ z. nat_eq z x) xs ≡ true = rw other.0 at h in
    let r = found x xs rest in
    (suc r.0, omega (arith, r.1), r.2))
    (eqb_tells y x)

present : (x : ℕ) (xs : List ℕ) → Contains xs x → list_any (λ y. nat_eq y x) xs ≡ true
present x [] h = absurd (omega (arith, h.1))
present x (y ∷ xs) (zero, few, is) = rw (eq-eqb y x is) refl
present x (y ∷ xs) (suc k, few, is) =
    ⊎_elim
    (λ same. rw same.0 refl)
    (λ other. rw other.0 (present x xs (k, omega (arith, few), is)))
    (eqb_tells y x)

pub is_found : (x : ℕ) (xs : List ℕ) (r : Bool) → r ≡ list_any (λ y. nat_eq y x) xs → IsTrue r ↔ Contains xs x
is_found x xs r is = (λ yes. found x xs (cc), λ has. is ∙ present x xs has)
