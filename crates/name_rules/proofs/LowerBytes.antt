-- The table of bytes in lower case is held against the definition at each byte, by computing.
use Rattle.std.proofs.Common.{◌≡◌, ℕ, zero, suc, ◌<◌, ◌==◌, ◌&&◌, Bool, true, inl, inr, get_or, refl, arith}
use Rattle.std.proofs.lemmas.Bool.{cases_eq}
use Rattle.std.specs.Char.{to_ascii_lowercase}
use Rattle.fsrm_base.proofs.TestLaws.{both, eq_is}
use Rattle.name_rules.specs.declared.prefix.TheConstants.{LOWER}

-- the two give the same below n
unfoldable same_below : (ℕ → ℕ) → (ℕ → ℕ) → ℕ → Bool
same_below f g zero = true
same_below f g (suc n) = (f n == g n) && same_below f g n

same_at : (f g : ℕ → ℕ) (n : ℕ) → same_below f g n ≡ true → (b : ℕ) → b < n → f b ≡ g b
unfolding same_below
same_at f g zero h b l = absurd (omega (arith, l))
same_at f g (suc n) h b l =
    let two = both (f n == g n) (same_below f g n) h in
    elim (cases_eq b n) [ inl same ↦ rw same (eq_is (f n) (g n) two.0) | inr other ↦ same_at f g n two.1 b (omega (arith, l, other)) ]

pub lower_byte : (b : ℕ) → b < 128 → get_or LOWER b 0 ≡ to_ascii_lowercase b
unfolding same_below
lower_byte b l = same_at (λ b. get_or LOWER b 0) to_ascii_lowercase 128 refl b l
