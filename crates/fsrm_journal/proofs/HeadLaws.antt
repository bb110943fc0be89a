-- What a half without a fault has.
use Rattle.std.proofs.Common.{◌≡◌, ⊎_elim, ℕ, zero, suc, ◌^◌, ◌≤◌, ◌<◌, Bool, true, false, List, [], ◌∷◌, length, get_or, nat_eq, refl, sym, ◌∙◌, ap, subst}
use Rattle.std.specs.Prelude.{None, Some, cond, ◌&&◌, nat_le}
use Rattle.std.proofs.lemmas.Bool.{cond-true, cond-false, eqb-true, leb-true}
use Rattle.fsrm_base.proofs.TestLaws.{both, both_true, is_or}
use Rattle.fsrm_model.specs.store.Capacities.{is_capacity, is_cluster as is_cluster_size}
use Rattle.fsrm_model.specs.values.Limits.{most_nodes, most_names}
use Rattle.fsrm_journal.specs.Heads.{first_failed, head_tests, head_fault, half_fault, is_open, is_version, is_cluster, has_generation, has_version, has_nodes, has_names, has_cluster, has_image, generation_at, version_at, nodes_at, names_at, cluster_at, image_at}
use Rattle.fsrm_journal.specs.HeadSays.{head_says}
use Rattle.fsrm_journal.specs.Legal.{IsLegal}
use Rattle.fsrm_journal.specs.declared.heads.Head.{Head}

-- where tests choose
pub ruleset chosen = (cond-true, cond-false)

none_failed : (place : ℕ) (ok : Bool) (rest : List (ℕ × Bool)) → first_failed ((place, ok) ∷ rest) ≡ None → (ok ≡ true) × (first_failed rest ≡ None)
none_failed place true rest none = (refl, none)
none_failed place false rest none = absurd (cc)

-- if none of the tests failed, each one holds
each_holds : (tests : List (ℕ × Bool)) → first_failed tests ≡ None → (i : ℕ) → (get_or tests i (0, true)).1 ≡ true
each_holds [] none i = refl
each_holds ((place, ok) ∷ tests) none zero = (none_failed place ok tests none).0
each_holds ((place, ok) ∷ tests) none (suc i) = each_holds tests (none_failed place ok tests none).1 i

open_holds : (head : List ℕ) → half_fault head ≡ None → is_open head ≡ true → (i : ℕ) → (get_or (head_tests head) i (0, true)).1 ≡ true
open_holds head none open' = each_holds (head_tests head) (go (nat_eq (length head) 0) refl)
  where
    go : (empty : Bool) → nat_eq (length head) 0 ≡ empty → head_fault head ≡ None
    go true is = absurd (cc (ap (λ (c : Bool). cond c (Some 0) (cond (is_open head) (head_fault head) None)) is, none))
    go false is =
        sym (cond-false (nat_eq (length head) 0) (Some 0) (cond (is_open head) (head_fault head) None) is ∙ cond-true (is_open head) (head_fault head) None open') ∙ none

long_generation : (head : List ℕ) → has_generation head ≡ true → 24 ≤ length head
unfolding has_generation
long_generation head is = leb-true 24 (length head) (both (nat_le 24 (length head)) (nat_le 1 (generation_at head)) is).0

long_image : (head : List ℕ) → has_image head ≡ true → 48 ≤ length head
unfolding has_image
long_image head is = leb-true 48 (length head) is

-- an open half without a fault has its generation, the third field,
pub open_long : (head : List ℕ) → half_fault head ≡ None → is_open head ≡ true → 24 ≤ length head
open_long head none open' = long_generation head (open_holds head none open' 2)

-- and is whole
pub open_whole : (head : List ℕ) → half_fault head ≡ None → is_open head ≡ true → 48 ≤ length head
open_whole head none open' = long_image head (open_holds head none open' 7)

-- each field that is there is legal
legal_generation : (head : List ℕ) → has_generation head ≡ true → 1 ≤ generation_at head
unfolding has_generation
legal_generation head is = leb-true 1 (generation_at head) (both (nat_le 24 (length head)) (nat_le 1 (generation_at head)) is).1

legal_version : (head : List ℕ) → has_version head ≡ true → is_version (version_at head) ≡ true
unfolding has_version
legal_version head is = (both (nat_le 28 (length head)) (is_version (version_at head)) is).1

legal_cluster : (head : List ℕ) → has_cluster head ≡ true → is_cluster (version_at head) (cluster_at head) ≡ true
unfolding has_cluster
legal_cluster head is = (both (nat_le 40 (length head)) (is_cluster (version_at head) (cluster_at head)) is).1

-- in each version a cluster has the size of one
cluster_size : (version cluster : ℕ) → is_cluster version cluster ≡ true → is_cluster_size cluster ≡ true
cluster_size version cluster is = ⊎_elim
    (λ first. ap is_cluster_size (eqb-true cluster 4096 first))
    (λ second. (both (nat_eq version 2) (is_cluster_size cluster) second).1)
    (is_or (nat_eq cluster 4096) (nat_eq version 2 && is_cluster_size cluster) is)

legal_size : (head : List ℕ) → has_nodes head ≡ true → has_names head ≡ true → has_cluster head ≡ true → is_capacity (head_says head).size ≡ true
unfolding has_nodes has_names
legal_size head nodes names cluster =
    let few_nodes = nat_le 2 (nodes_at head) && nat_le (nodes_at head) most_nodes in
    let few_names = nat_le 256 (names_at head) && nat_le (names_at head) most_names in
    both_true few_nodes (few_names && is_cluster_size (cluster_at head)) (both (nat_le 32 (length head)) few_nodes nodes).1
    (both_true few_names (is_cluster_size (cluster_at head)) (both (nat_le 36 (length head)) few_names names).1
    (cluster_size (version_at head) (cluster_at head) (legal_cluster head cluster)))

open_legal : (head : List ℕ) → half_fault head ≡ None → is_open head ≡ true → generation_at head < 2 ^ 64 → image_at head < 2 ^ 64 → IsLegal (head_says head)
open_legal head none open' generation image =
    let holds = open_holds head none open' in
    record {
      generation = legal_generation head (holds 2);
      version = legal_version head (holds 3);
      size = legal_size head (holds 4) (holds 5) (holds 6);
      cluster = legal_cluster head (holds 6);
      generation_fits = generation;
      image_fits = image;
    }

-- and says what is legal; its numbers fit, since they were read into a `Head`
pub says_legal : (head : List ℕ) (says : Head) → says ≡ head_says head → half_fault head ≡ None → is_open head ≡ true → says.generation < 2 ^ 64 → says.image < 2 ^ 64 → IsLegal says
says_legal head says is none open' generation image =
    subst IsLegal (sym is) (open_legal head none open' (subst (λ (h : Head). h.generation < 2 ^ 64) is generation) (subst (λ (h : Head). h.image < 2 ^ 64) is image))
