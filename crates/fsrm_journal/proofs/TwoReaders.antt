-- Two readers that began at one place: one has come on from where the other stands.
use Rattle.std.proofs.Common.{◌≡◌, ◌⊎◌, inl, inr, ⊎_elim, ℕ, ◌+◌, List, [], ◌∷◌, length, take, drop, refl, sym, ◌∙◌, ap, subst}
use Rattle.std.specs.Prelude.{Option, None, Some, Result, Ok, Err}
use Rattle.fsrm_journal.specs.Next.{record_at}
use Rattle.fsrm_journal.specs.Reading.{Comes, GoesOn}

size_in : Result (Option (ℕ × ℕ)) ℕ → ℕ
size_in (Ok (Some found)) = found.1
size_in (Ok None) = 0
size_in (Err place) = 0

same_size : (r : Result (Option (ℕ × ℕ)) ℕ) (p q n m : ℕ) → r ≡ Ok (Some (p, n)) → r ≡ Ok (Some (q, m)) → n ≡ m
unfolding size_in
same_size r p q n m a b = ap size_in (sym a ∙ b)

pub readers_agree : (half : List ℕ) (place : ℕ) (a b : List (List ℕ)) (e f : ℕ) → Comes half place a e → Comes half place b f → GoesOn half a b e f ⊎ GoesOn half b a f e
readers_agree half place [] b e f first second = inl (record { more = b; are = refl; comes = subst (λ (k : ℕ). Comes half k b f) first second })
readers_agree half place (x ∷ a) [] e f first second = inr (record { more = x ∷ a; are = refl; comes = subst (λ (k : ℕ). Comes half k (x ∷ a) e) second first })
readers_agree half place (x ∷ a) (y ∷ b) e f first second =
    let len : length x ≡ length y = same_size (record_at half place) (place + 5) (place + 5) (length x) (length y) first.0 second.0 in
    let same : x ≡ y = sym first.1 ∙ ap (λ (k : ℕ). take k (drop (place + 5) half)) len ∙ second.1 in
    ⊎_elim
    (λ g. inl (record { more = g.more; are = ap (λ (z : List ℕ). z ∷ b) (sym same) ∙ ap (λ (l : List (List ℕ)). x ∷ l) g.are; comes = g.comes }))
    (λ g. inr (record { more = g.more; are = ap (λ (z : List ℕ). z ∷ a) same ∙ ap (λ (l : List (List ℕ)). y ∷ l) g.are; comes = g.comes }))
    (readers_agree half (place + 5 + length x) a b e f first.2 (subst (λ (k : ℕ). Comes half (place + 5 + k) b f) (sym len) second.2))
