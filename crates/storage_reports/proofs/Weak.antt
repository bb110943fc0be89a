-- The order of ranks.
use Rattle.std.proofs.Common.{◌≡◌, ℕ, ◌==◌, Bool, true, false, ◌&&◌, ◌||◌, nat_lt, arith}
use Rattle.std.proofs.lemmas.Bool.Decides.{nat_tests}
use Rattle.std.specs.Cmp.{IsStrictWeakOrder}
use Rattle.storage_reports.specs.Ranks.{comes_before, stands_before}

-- two numbers, the first of which decides if they differ
abbrev twice : Bool → ℕ → ℕ → ℕ → ℕ → Bool
twice b m n s t = (nat_lt s t && (m == n)) || comes_before b m n

one_way : (b : Bool) (m n s t : ℕ) → twice b m n s t ≡ true → twice b n m t s ≡ false
one_way true m n s t h = grind (arith, nat_tests)
one_way false m n s t h = grind (arith, nat_tests)

chain : (b : Bool) (l m n s t u : ℕ) → twice b l m s t ≡ false → twice b m n t u ≡ false → twice b l n s u ≡ false
chain true l m n s t u h g = grind (arith, nat_tests)
chain false l m n s t u h g = grind (arith, nat_tests)

pub weak : (b : Bool) → IsStrictWeakOrder (stands_before b)
weak b = record {
  one_way = λ x y h. one_way b x.rank y.rank x.second y.second h;
  chain = λ x y z h g. chain b x.rank y.rank z.rank x.second y.second z.second h g;
}
