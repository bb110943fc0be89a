-- How large a store may be, part by part, and what its files may take.
use Rattle.std.proofs.Common.{◌≡◌, ℕ, zero, suc, ◌+◌, ◌-◌, ◌*◌, ◌/◌, ◌%◌, ◌^◌, ◌<◌, ◌≤◌, true, List, [], ◌∷◌, inl, inr, refl, ap, ◌∙◌, subst, arith}
use Rattle.std.proofs.Math.Nat.{div-eq_of_lt, mod-eq_of_lt}
use Rattle.std.specs.Int.{w32, trailing_zeros}
use Rattle.std.specs.Int.Count.{count_trailing_zeros}
use Rattle.std.specs.List.{AllByRecursion}
use Rattle.fsrm_model.specs.declared.row.Capacity.{Capacity}
use Rattle.fsrm_model.specs.store.Capacities.{cluster_sizes, is_cluster, is_capacity}
use Rattle.fsrm_model.specs.values.Limits.{longest_file, most_nodes, most_names}
use Rattle.fsrm_base.specs.Numbers.{is_in}
use Rattle.fsrm_model.specs.values.Space.{rounded, alloc}
use Rattle.fsrm_base.proofs.TestLaws.{both, le_is, eq_is, is_or}

pub nodes_most : (K : Capacity) → is_capacity K ≡ true → K.nodes ≤ most_nodes
nodes_most K h = le_is K.nodes most_nodes (both _ _ (both _ _ h).0).1

pub names_most : (K : Capacity) → is_capacity K ≡ true → K.names ≤ most_names
names_most K h = le_is K.names most_names (both _ _ (both _ _ (both _ _ h).1).0).1

pub cluster_is : (K : Capacity) → is_capacity K ≡ true → is_cluster K.cluster ≡ true
cluster_is K h = (both _ _ (both _ _ h).1).1

-- what holds of all members holds of each
member : (P : ℕ → Type 0) (members : List ℕ) → AllByRecursion P members → (n : ℕ) → is_in members n ≡ true → P n
member P [] all n h = absurd (cc h)
member P (k ∷ ks) all n h = elim (is_or _ _ h) [
  | inl e ↦ subst P (eq_is k n e) all.0
  | inr e ↦ member P ks all.1 n e
]

abbrev IsFit : ℕ → Type 0
IsFit cluster = (n : ℕ) → n ≤ longest_file → rounded cluster n ≤ longest_file

fits : (cluster : ℕ) → is_cluster cluster ≡ true → IsFit cluster
fits cluster h =
    let at : AllByRecursion IsFit cluster_sizes =
    (λ n h. omega arith, (λ n h. omega arith, (λ n h. omega arith, (λ n h. omega arith, (λ n h. omega arith, (λ n h. omega arith, (λ n h. omega arith, (λ n h. omega arith, tt)))))))) in
    member IsFit cluster_sizes at cluster h

-- the longest file ends with a cluster, of whatever size
pub rounded_most : (cluster n : ℕ) → is_cluster cluster ≡ true → n ≤ longest_file → rounded cluster n ≤ longest_file
rounded_most cluster n h most = fits cluster h n most

-- the zeros at the end of a cluster's size tell which power of 2 it is
abbrev IsPower : ℕ → Type 0
IsPower cluster = 2 ^ trailing_zeros w32 cluster ≡ cluster

power : (cluster : ℕ) → is_cluster cluster ≡ true → IsPower cluster
unfolding count_trailing_zeros
power cluster h =
    let at : AllByRecursion IsPower cluster_sizes = (refl, (refl, (refl, (refl, (refl, (refl, (refl, (refl, tt)))))))) in
    member IsPower cluster_sizes at cluster h

-- so whole clusters are had by shifts, and none of the bits that are shifted up is lost
pub rounded_shifted : (cluster n : ℕ) → is_cluster cluster ≡ true → n ≤ longest_file → (n + (cluster - 1)) / 2 ^ trailing_zeros w32 cluster * 2 ^ trailing_zeros w32 cluster % 2 ^ 64 ≡ rounded cluster n
rounded_shifted cluster n h most =
    let small : rounded cluster n < 2 ^ 64 = omega (arith, rounded_most cluster n h most) in
    ap (λ p. (n + (cluster - 1)) / p * p % 2 ^ 64) (power cluster h) ∙ mod-eq_of_lt small

-- nothing takes nothing
pub rounded_none : (cluster : ℕ) → rounded cluster 0 ≡ 0
rounded_none zero = refl
rounded_none (suc n) =
    let none : (0 + (suc n - 1)) / suc n ≡ 0 = div-eq_of_lt (omega arith) in
    ap (λ k. k * suc n) none ∙ omega arith

pub alloc_most : (K : Capacity) (n : ℕ) → is_capacity K ≡ true → n ≤ longest_file → alloc K n ≤ longest_file
alloc_most K n h most = rounded_most K.cluster n (cluster_is K h) most
