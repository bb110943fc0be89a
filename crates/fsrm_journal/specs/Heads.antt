-- Heads of halves, and which half rules. A head is the first 48 bytes of a half, or all if there are fewer.
use Rattle.std.specs.Prelude.{ℕ, Bool, ◌&&◌, ◌||◌, not, cond, if◌then◌else◌, nat_le, nat_lt, nat_eq, Option, None, Some, Result, Ok, Err, List, [], ◌∷◌, length, take, drop, slice_index}
use Rattle.byteorder.specs.Endian.{little_number}
use Rattle.fsrm_model.specs.store.Capacities.{is_cluster as is_cluster_size}
use Rattle.fsrm_model.specs.values.Limits.{most_nodes, most_names}
use Rattle.fsrm_outside.specs.declared.traits.Part.{Part}
use Rattle.fsrm_outside.specs.declared.traits.Part.TheVariants.{Zero, One}
use Rattle.fsrm_journal.specs.declared.fault.JournalFault.{JournalFault}
use Rattle.fsrm_journal.specs.declared.fault.JournalFault.TheVariants.{NoStore, Damaged}

abbrev pub head_of : List ℕ → List ℕ
head_of half = take 48 half

-- the gate is 1; a missing byte is closed
abbrev pub is_open : List ℕ → Bool
is_open head = nat_eq (slice_index head 0) 1

-- the fields; each of these says something where its bytes are there
abbrev pub generation_at : List ℕ → ℕ
generation_at head = little_number 8 (drop 16 head)

abbrev pub version_at : List ℕ → ℕ
version_at head = little_number 4 (drop 24 head)

abbrev pub nodes_at : List ℕ → ℕ
nodes_at head = little_number 4 (drop 28 head)

abbrev pub names_at : List ℕ → ℕ
names_at head = little_number 4 (drop 32 head)

abbrev pub cluster_at : List ℕ → ℕ
cluster_at head = little_number 4 (drop 36 head)

abbrev pub image_at : List ℕ → ℕ
image_at head = little_number 8 (drop 40 head)

-- FSRMHALF, as a number
abbrev pub magic : ℕ
magic = 0x464c_4148_4d52_5346

abbrev pub is_version : ℕ → Bool
is_version version = nat_eq version 1 || nat_eq version 2

-- in version 1 each cluster has 4,096 bytes
abbrev pub is_cluster : ℕ → ℕ → Bool
is_cluster version cluster = nat_eq cluster 4096 || (nat_eq version 2 && is_cluster_size cluster)

-- each field is there, and legal
unfoldable pub has_zeros : List ℕ → Bool
has_zeros head = nat_le 8 (length head) && nat_eq (little_number 7 (drop 1 head)) 0

unfoldable pub has_magic : List ℕ → Bool
has_magic head = nat_le 16 (length head) && nat_eq (little_number 8 (drop 8 head)) magic

unfoldable pub has_generation : List ℕ → Bool
has_generation head = nat_le 24 (length head) && nat_le 1 (generation_at head)

unfoldable pub has_version : List ℕ → Bool
has_version head = nat_le 28 (length head) && is_version (version_at head)

unfoldable pub has_nodes : List ℕ → Bool
has_nodes head = nat_le 32 (length head) && (nat_le 2 (nodes_at head) && nat_le (nodes_at head) most_nodes)

unfoldable pub has_names : List ℕ → Bool
has_names head = nat_le 36 (length head) && (nat_le 256 (names_at head) && nat_le (names_at head) most_names)

unfoldable pub has_cluster : List ℕ → Bool
has_cluster head = nat_le 40 (length head) && is_cluster (version_at head) (cluster_at head)

unfoldable pub has_image : List ℕ → Bool
has_image head = nat_le 48 (length head)

-- the place of the first test that fails
abbrev pub first_failed : List (ℕ × Bool) → Option ℕ
first_failed [] = None
first_failed (test ∷ tests) = cond test.1 (first_failed tests) (Some test.0)

-- the fields of an open half, each with its place
abbrev pub head_tests : List ℕ → List (ℕ × Bool)
head_tests head =
    (1, has_zeros head) ∷ (8, has_magic head) ∷ (16, has_generation head) ∷ (24, has_version head)
    ∷ (28, has_nodes head) ∷ (32, has_names head) ∷ (36, has_cluster head) ∷ (40, has_image head) ∷ []

-- the place of the first of them that is missing, cut or not legal
abbrev pub head_fault : List ℕ → Option ℕ
head_fault head = first_failed (head_tests head)

-- where there is a store, a half has at least its gate, and behind an open one a legal head
abbrev pub half_fault : List ℕ → Option ℕ
half_fault head = if nat_eq (length head) 0 then Some 0 else if is_open head then head_fault head else None

-- of two halves that are as they should be, which one rules
abbrev pub ruling : List ℕ → List ℕ → Result Part JournalFault
ruling zero one =
    if not (is_open one) then Ok Zero
    else if not (is_open zero) then Ok One
    else if nat_eq (generation_at zero) (generation_at one) then Err (Damaged One 16)
    else if nat_lt (generation_at zero) (generation_at one) then Ok One
    else Ok Zero

abbrev pub unless_damaged : Part → Option ℕ → Result Part JournalFault → Result Part JournalFault
unless_damaged part None rest = rest
unless_damaged part (Some place) rest = Err (Damaged part place)

-- what the heads of both halves say: which rules, that there is no store, or the first damage
abbrev pub judged : List ℕ → List ℕ → Result Part JournalFault
judged zero one =
    if is_open zero || is_open one then unless_damaged Zero (half_fault zero) (unless_damaged One (half_fault one) (ruling zero one))
    else Err NoStore
