-- Worked examples of what the bytes of a store hold, as equations.
use Rattle.std.specs.Prelude.{◌≡◌, ℕ, true, List, [], ◌∷◌, ◌++◌, codes, drop}
use Rattle.fsrm_model.specs.declared.row.NodeRow.{NodeRow}
use Rattle.fsrm_model.specs.declared.row.Rows.{Rows}
use Rattle.fsrm_model.specs.nodes.Fresh.{default_capacity, new_rows, root_node}
use Rattle.fsrm_outside.specs.Parts.{Parts}
use Rattle.fsrm_outside.specs.declared.traits.Part.TheVariants.{Zero, One}
use Rattle.image_codec.specs.NewImage.{new_image, zeros}
use Rattle.fsrm_store.specs.States.{state_of}
use Rattle.fsrm_store.specs.States.State.{NoState, DamagedAt, Holds}

-- ---- bytes
-- an open half of a generation and a version, whose head says that the image has so many bytes: 65,536 nodes, 4,194,304
-- bytes of names, clusters of 4,096 bytes
abbrev pub half : ℕ → ℕ → ℕ → List ℕ → List ℕ
half generation version long rest =
    1 ∷ zeros 7 ++ codes "FSRMHALF" ++ generation ∷ zeros 7 ++ version ∷ zeros 3
    ++ 0 ∷ 0 ∷ 1 ∷ 0 ∷ 0 ∷ 0 ∷ 64 ∷ 0 ∷ 0 ∷ 16 ∷ 0 ∷ 0 ∷ long ∷ zeros 7 ++ rest

-- the image of a new store, which has 99 bytes, and then records
abbrev pub new_half : List ℕ → List ℕ
new_half records = half 1 2 99 (new_image ++ records)

-- part 0 has these bytes, and part 1 only a closed gate
abbrev pub alone : List ℕ → Parts
alone bytes = record { zero = bytes; one = 0 ∷ [] }

-- the record of 100 mkdir D:\x 1, from its gate to the end of its body, but with another kind or owner
abbrev pub a_record : ℕ → ℕ → List ℕ
a_record kind owner = 1 ∷ 23 ∷ zeros 3 ++ 100 ∷ zeros 7 ++ kind ∷ 4 ∷ 0 ∷ codes "D:\\x" ++ owner ∷ zeros 7

abbrev pub mkdir : List ℕ
mkdir = a_record 1 1

-- the rows after it
abbrev pub folder : NodeRow
folder = record { number = 1; parent = 0; name = codes "x"; folder = true; length = 0; owner = 1; created = 100; modified = 100; accessed = 100 }

abbrev pub with_folder : Rows
with_folder = record new_rows { nodes = root_node ∷ folder ∷ []; last_moment = 100 }

-- ---- no store, and which half rules
abbrev pub no_bytes : Type 0
no_bytes = state_of (record { zero = []; one = [] }) ≡ NoState

abbrev pub closed_gates : Type 0
closed_gates = state_of (record { zero = 0 ∷ mkdir; one = 2 ∷ mkdir }) ≡ NoState

abbrev pub new_store : Type 0
new_store = state_of (alone (new_half (0 ∷ []))) ≡ Holds default_capacity new_rows

abbrev pub no_part : Type 0
no_part = state_of (record { zero = new_half (0 ∷ []); one = [] }) ≡ DamagedAt One 0

abbrev pub newer_half : Type 0
newer_half = state_of (record { zero = new_half (0 ∷ []); one = half 2 1 99 (new_image ++ mkdir ++ 0 ∷ []) }) ≡ Holds default_capacity with_folder

abbrev pub equal_halves : Type 0
equal_halves = state_of (record { zero = new_half (0 ∷ []); one = new_half (0 ∷ []) }) ≡ DamagedAt One 16

abbrev pub wrong_version : Type 0
wrong_version = state_of (alone (half 1 3 99 (new_image ++ 0 ∷ []))) ≡ DamagedAt Zero 24

-- ---- the image: its last field is cut, it is shorter than the head says, also if the part ends there, or its rows have
-- no root
abbrev pub cut_image : Type 0
cut_image = state_of (alone (half 1 2 98 (new_image ++ 0 ∷ []))) ≡ DamagedAt Zero 143

abbrev pub short_image : Type 0
short_image = state_of (alone (half 1 2 100 (new_image ++ 0 ∷ []))) ≡ DamagedAt Zero 147

abbrev pub short_part : Type 0
short_part = state_of (alone (half 1 2 100 new_image)) ≡ DamagedAt Zero 147

abbrev pub wrong_rows : Type 0
wrong_rows = state_of (alone (half 1 2 52 (zeros 52 ++ 0 ∷ []))) ≡ DamagedAt Zero 48

-- ---- the records
abbrev pub one_record : Type 0
one_record = state_of (alone (new_half (mkdir ++ 0 ∷ []))) ≡ Holds default_capacity with_folder

-- the machine refuses the second one
abbrev pub refused_record : Type 0
refused_record = state_of (alone (new_half (mkdir ++ mkdir ++ 0 ∷ []))) ≡ Holds default_capacity with_folder

abbrev pub closed_record : Type 0
closed_record = state_of (alone (new_half (0 ∷ mkdir ++ 0 ∷ []))) ≡ Holds default_capacity new_rows

-- no gate, no length, a length of 0, no body, and no gate after a body
abbrev pub no_gate : Type 0
no_gate = state_of (alone (new_half [])) ≡ DamagedAt Zero 147

abbrev pub no_length : Type 0
no_length = state_of (alone (new_half (1 ∷ 23 ∷ zeros 2))) ≡ DamagedAt Zero 148

abbrev pub length_zero : Type 0
length_zero = state_of (alone (new_half (1 ∷ zeros 9))) ≡ DamagedAt Zero 148

abbrev pub no_body : Type 0
no_body = state_of (alone (new_half (1 ∷ 23 ∷ zeros 25))) ≡ DamagedAt Zero 152

abbrev pub no_next_gate : Type 0
no_next_gate = state_of (alone (new_half mkdir)) ≡ DamagedAt Zero 175

-- no such kind, an owner that isn't legal, and a byte too many. A wrong body is told before what follows it
abbrev pub wrong_kind : Type 0
wrong_kind = state_of (alone (new_half (a_record 7 1))) ≡ DamagedAt Zero 160

abbrev pub wrong_owner : Type 0
wrong_owner = state_of (alone (new_half (a_record 1 0 ++ 0 ∷ []))) ≡ DamagedAt Zero 167

abbrev pub long_body : Type 0
long_body = state_of (alone (new_half (1 ∷ 24 ∷ drop 2 mkdir ++ 0 ∷ 0 ∷ []))) ≡ DamagedAt Zero 175
