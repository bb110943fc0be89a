-- What a set of numbers is to its callers.
use Rattle.std.specs.Prelude.{ℕ, List, []}

-- the members, ascending, and the bound that all numbers below may be members
pub record Numbers : Type 0 where
  pub bound : ℕ
  pub members : List ℕ

abbrev pub no_numbers : ℕ → Numbers
no_numbers bound = record { bound = bound; members = [] }
