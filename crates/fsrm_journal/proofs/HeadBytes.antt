-- A head that was spelled is read back, without a fault.
use Rattle.std.proofs.Common.{◌≡◌, ⊎_elim, ℕ, ◌+◌, ◌≤◌, Bool, true, List, [], ◌∷◌, ◌++◌, length, drop, refl, ◌∙◌, ap, arith, length-append}
use Rattle.std.specs.Prelude.{None, nat_le, nat_eq, ◌&&◌, ◌==◌}
use Rattle.std.specs.List.{AllByRecursion}
use Rattle.std.proofs.lemmas.Bool.{le-leb, eq-eqb, eqb-true}
use Rattle.fsrm_base.specs.Numbers.{is_in}
use Rattle.fsrm_base.proofs.TestLaws.{both, eq_is, is_or}
use Rattle.fsrm_model.specs.store.Capacities.{cluster_sizes, is_cluster as is_cluster_size}
use Rattle.fsrm_model.specs.values.Limits.{most_nodes, most_names}
use Rattle.fsrm_model.proofs.valid.CapacityLaws.{nodes_most, names_most, cluster_is}
use Rattle.byteorder.specs.Endian.{little_number, little_bytes}
use Rattle.byteorder.specs.Numbers.{little_number-reads_back}
use Rattle.fsrm_journal.specs.Heads.{first_failed, half_fault, magic, has_zeros, has_magic, has_generation, has_version, has_nodes, has_names, has_cluster, has_image, is_version, is_cluster, generation_at, version_at, nodes_at, names_at, cluster_at, image_at}
use Rattle.fsrm_journal.specs.HeadSays.{head_says}
use Rattle.fsrm_journal.specs.Halves.{head_tail}
use Rattle.fsrm_journal.specs.Legal.{IsLegal}
use Rattle.fsrm_journal.specs.declared.heads.Head.{Head}

-- with an open gate
abbrev pub spelled : Head → List ℕ
spelled head = 1 ∷ head_tail head

-- what comes after a field
abbrev after_cluster : Head → List ℕ
after_cluster head = little_bytes 8 head.image

abbrev after_names : Head → List ℕ
after_names head = little_bytes 4 head.size.cluster ++ after_cluster head

abbrev after_nodes : Head → List ℕ
after_nodes head = little_bytes 4 head.size.names ++ after_names head

abbrev after_version : Head → List ℕ
after_version head = little_bytes 4 head.size.nodes ++ after_nodes head

abbrev after_generation : Head → List ℕ
after_generation head = little_bytes 4 head.version ++ after_version head

abbrev after_magic : Head → List ℕ
after_magic head = little_bytes 8 head.generation ++ after_generation head

-- what is legal has room in its field
version_most : (version : ℕ) → is_version version ≡ true → version ≤ 2
version_most version is =
    ⊎_elim (λ first. omega (arith, eqb-true version 1 first)) (λ second. omega (arith, eqb-true version 2 second)) (is_or (nat_eq version 1) (nat_eq version 2) is)

in_below : (most : ℕ) (members : List ℕ) → AllByRecursion (λ k. k ≤ most) members → (n : ℕ) → is_in members n ≡ true → n ≤ most
in_below most [] all n is = absurd (cc is)
in_below most (k ∷ ks) all n is = ⊎_elim (λ here. omega (arith, eq_is k n here, all.0)) (λ later. in_below most ks all.1 n later) (is_or (k == n) (is_in ks n) is)

cluster_most : (bytes : ℕ) → is_cluster_size bytes ≡ true → bytes ≤ 65536
cluster_most bytes is = in_below 65536 cluster_sizes (omega arith, (omega arith, (omega arith, (omega arith, (omega arith, (omega arith, (omega arith, (omega arith, tt)))))))) bytes is

-- each field is read back
pub generation_back : (head : Head) → IsLegal head → generation_at (spelled head) ≡ head.generation
generation_back head l = little_number-reads_back 8 head.generation (after_generation head) (omega (arith, l.generation_fits))

version_back : (head : Head) → IsLegal head → version_at (spelled head) ≡ head.version
version_back head l = little_number-reads_back 4 head.version (after_version head) (omega (arith, version_most head.version l.version))

nodes_back : (head : Head) → IsLegal head → nodes_at (spelled head) ≡ head.size.nodes
nodes_back head l = little_number-reads_back 4 head.size.nodes (after_nodes head) (omega (arith, nodes_most head.size l.size))

names_back : (head : Head) → IsLegal head → names_at (spelled head) ≡ head.size.names
names_back head l = little_number-reads_back 4 head.size.names (after_names head) (omega (arith, names_most head.size l.size))

cluster_back : (head : Head) → IsLegal head → cluster_at (spelled head) ≡ head.size.cluster
cluster_back head l = little_number-reads_back 4 head.size.cluster (after_cluster head) (omega (arith, cluster_most head.size.cluster (cluster_is head.size l.size)))

image_back : (head : Head) → IsLegal head → image_at (spelled head) ≡ head.image
image_back head l = little_number-reads_back 8 head.image [] (omega (arith, l.image_fits))

-- and is legal
zeros_ok : (head : Head) → has_zeros (spelled head) ≡ true
unfolding has_zeros
zeros_ok head = refl

magic_ok : (head : Head) → has_magic (spelled head) ≡ true
unfolding has_magic
magic_ok head = eq-eqb (little_number 8 (drop 8 (spelled head))) magic (little_number-reads_back 8 magic (after_magic head) (omega arith))

generation_ok : (head : Head) → IsLegal head → has_generation (spelled head) ≡ true
unfolding has_generation
generation_ok head l = le-leb 1 (generation_at (spelled head)) (omega (arith, generation_back head l, l.generation))

version_ok : (head : Head) → IsLegal head → has_version (spelled head) ≡ true
unfolding has_version
version_ok head l = ap is_version (version_back head l) ∙ l.version

nodes_ok : (head : Head) → IsLegal head → has_nodes (spelled head) ≡ true
unfolding has_nodes
nodes_ok head l = ap (λ (n : ℕ). nat_le 2 n && nat_le n most_nodes) (nodes_back head l) ∙ (both (nat_le 2 head.size.nodes && nat_le head.size.nodes most_nodes) ((nat_le 256 head.size.names && nat_le head.size.names most_names) && is_cluster_size head.size.cluster) l.size).0

names_ok : (head : Head) → IsLegal head → has_names (spelled head) ≡ true
unfolding has_names
names_ok head l =
    let more = (both (nat_le 2 head.size.nodes && nat_le head.size.nodes most_nodes) ((nat_le 256 head.size.names && nat_le head.size.names most_names) && is_cluster_size head.size.cluster) l.size).1 in
    ap (λ (n : ℕ). nat_le 256 n && nat_le n most_names) (names_back head l) ∙ (both (nat_le 256 head.size.names && nat_le head.size.names most_names) (is_cluster_size head.size.cluster) more).0

cluster_ok : (head : Head) → IsLegal head → has_cluster (spelled head) ≡ true
unfolding has_cluster
cluster_ok head l = ap (λ (v : ℕ). is_cluster v (cluster_at (spelled head))) (version_back head l) ∙ ap (is_cluster head.version) (cluster_back head l) ∙ l.cluster

image_ok : (head : Head) → has_image (spelled head) ≡ true
unfolding has_image
image_ok head = refl

none_failed : (a b c d e f g h : Bool) → a ≡ true → b ≡ true → c ≡ true → d ≡ true → e ≡ true → f ≡ true → g ≡ true → h ≡ true
    → first_failed ((1, a) ∷ (8, b) ∷ (16, c) ∷ (24, d) ∷ (28, e) ∷ (32, f) ∷ (36, g) ∷ (40, h) ∷ []) ≡ None
none_failed a b c d e f g h p q r s t u v w = rw (p, q, r, s, t, u, v, w) refl

pub spelled_sound : (head : Head) → IsLegal head → half_fault (spelled head) ≡ None
spelled_sound head l =
    none_failed
    (has_zeros (spelled head)) (has_magic (spelled head)) (has_generation (spelled head)) (has_version (spelled head))
    (has_nodes (spelled head)) (has_names (spelled head)) (has_cluster (spelled head)) (has_image (spelled head))
    (zeros_ok head) (magic_ok head) (generation_ok head l) (version_ok head l) (nodes_ok head l) (names_ok head l) (cluster_ok head l) (image_ok head)

-- a head of these fields
abbrev with_fields : ℕ → ℕ → ℕ → ℕ → ℕ → ℕ → Head
with_fields g v n t c m = record { generation = g; version = v; size = record { nodes = n; names = t; cluster = c }; image = m }

same_fields : (head : Head) (g v n t c m : ℕ) → g ≡ head.generation → v ≡ head.version → n ≡ head.size.nodes → t ≡ head.size.names → c ≡ head.size.cluster → m ≡ head.image
    → with_fields g v n t c m ≡ head
same_fields head g v n t c m p q r s u w = rw (p, q, r, s, u, w) refl

-- it says what was spelled
pub spelled_says : (head : Head) → IsLegal head → head_says (spelled head) ≡ head
spelled_says head l = same_fields head (generation_at (spelled head)) (version_at (spelled head)) (nodes_at (spelled head)) (names_at (spelled head)) (cluster_at (spelled head)) (image_at (spelled head))
    (generation_back head l) (version_back head l) (nodes_back head l) (names_back head l) (cluster_back head l) (image_back head l)

-- the place after the front of an image, in the half and in the bytes after the gate
pub place_after : (head : Head) (front : List ℕ) (place : ℕ) → place ≡ 48 + length front → place ≡ 1 + length (head_tail head ++ front)
place_after head front place is =
    let long : length (head_tail head) ≡ 47 = refl in
    omega (arith, is, long, length-append (head_tail head) front)
