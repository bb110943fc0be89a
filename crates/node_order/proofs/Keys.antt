-- The order of folders and prefixes by the numbers made of both.
use Rattle.std.proofs.Common.{◌≡◌, ℕ, ◌^◌, ◌<◌, ◌==◌, ◌&&◌, ◌||◌, nat_lt, true, false, inl, inr, refl, sym, ◌∙◌, arith}
use Rattle.std.proofs.lemmas.Bool.{cases_order}
use Rattle.std.proofs.lemmas.Bool.Decides.{nat_tests}
use Rattle.fsrm_base.proofs.TestLaws.{eq_test, is_apart}
use Rattle.node_order.specs.Entries.{place_key}

key_equal : (p a q b : ℕ) → a < 2 ^ 64 → b < 2 ^ 64 → (place_key p a == place_key q b) ≡ ((p == q) && (a == b))
key_equal p a q b l m =
    elim (cases_order p q) [
      | inl e ↦
          let same : (p == q) ≡ true = grind (arith, nat_tests) in
          let rest : (place_key p a == place_key q b) ≡ (a == b) = grind (arith, nat_tests) in
          rw (same, rest) refl
      | inr (inl less) ↦
          let apart : (p == q) ≡ false = grind (arith, nat_tests) in
          let keys : (place_key p a == place_key q b) ≡ false = grind (arith, nat_tests) in
          rw (apart, keys) refl
      | inr (inr more) ↦
          let apart : (p == q) ≡ false = grind (arith, nat_tests) in
          let keys : (place_key p a == place_key q b) ≡ false = grind (arith, nat_tests) in
          rw (apart, keys) refl
    ]

pub keys_same : (p a q b : ℕ) → a < 2 ^ 64 → b < 2 ^ 64 → place_key p a ≡ place_key q b → ((p == q) && (a == b)) ≡ true
keys_same p a q b l m e = sym (key_equal p a q b l m) ∙ eq_test (place_key p a) (place_key q b) e

pub keys_apart : (p a q b : ℕ) → a < 2 ^ 64 → b < 2 ^ 64 → (place_key p a ≡ place_key q b → ⊥) → ((p == q) && (a == b)) ≡ false
keys_apart p a q b l m e = sym (key_equal p a q b l m) ∙ is_apart (place_key p a) (place_key q b) e

pub key_less : (p a q b : ℕ) → a < 2 ^ 64 → b < 2 ^ 64 → nat_lt (place_key p a) (place_key q b) ≡ (nat_lt p q || ((p == q) && nat_lt a b))
key_less p a q b l m =
    elim (cases_order p q) [
      | inl e ↦
          let none : nat_lt p q ≡ false = grind (arith, nat_tests) in
          let same : (p == q) ≡ true = grind (arith, nat_tests) in
          let rest : nat_lt (place_key p a) (place_key q b) ≡ nat_lt a b = grind (arith, nat_tests) in
          rw (none, same, rest) refl
      | inr (inl less) ↦
          let test : nat_lt p q ≡ true = grind (arith, nat_tests) in
          let keys : nat_lt (place_key p a) (place_key q b) ≡ true = grind (arith, nat_tests) in
          rw (test, keys) refl
      | inr (inr more) ↦
          let none : nat_lt p q ≡ false = grind (arith, nat_tests) in
          let apart : (p == q) ≡ false = grind (arith, nat_tests) in
          let keys : nat_lt (place_key p a) (place_key q b) ≡ false = grind (arith, nat_tests) in
          rw (none, apart, keys) refl
    ]
