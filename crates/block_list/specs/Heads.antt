-- Heads of runs in a pool, and blocks that are free.
use Rattle.std.specs.Prelude.{◌≡◌, ℕ, ◌+◌, ◌*◌, ◌<◌, ◌≤◌, ◌==◌, ◌++◌, ◌⊎◌, if◌then◌else◌, List, [], ◌∷◌, length, map, Vec}
use Rattle.std.specs.List.{slice_index_or}
use Rattle.std.specs.declared.alloc.Global.{Global}
use Rattle.std.specs.Vec.{vec_capacity}
use Rattle.block_list.specs.declared.head.Head.{Head}
use Rattle.block_list.specs.Pool.{run_in}

-- the run of a head
abbrev pub run_of : {T : Type 0} → List T → Head T → List T
run_of pool head = run_in pool head.block head.len

abbrev pub runs_in : {T : Type 0} → List (Head T) → List T → List (List T)
runs_in heads pool = map (run_of pool) heads

-- a run fits into its block, and its first entry is at hand
pub record IsHead {T : Type 0} (pool : List T) (head : Head T) : Type 0 where
  pub len : head.len ≤ 128
  pub first : (d : T) → 0 < head.len → slice_index_or (run_of pool head) 0 d ≡ head.first

-- one where two numbers are the same, else none
unfoldable pub mark : ℕ → ℕ → ℕ
mark b x = if b == x then 1 else 0

-- how many heads have a block
abbrev pub held : {T : Type 0} → ℕ → List (Head T) → ℕ
held b [] = 0
held b (head ∷ heads) = mark b head.block + held b heads

-- how often a block is free
abbrev pub times : ℕ → List ℕ → ℕ
times b [] = 0
times b (x ∷ xs) = mark b x + times b xs

-- the runs of a pool that has one more block
pub record IsLonger {T : Type 0} (old new : List T) : Type 0 where
  pub count : length new ≡ length old + 128
  pub runs : (b n : ℕ) → b * 128 + n ≤ length old → run_in new b n ≡ run_in old b n

-- a free block is taken, or if there is none, a new one
abbrev pub TakesBlock : {T : Type 0} → ℕ → List ℕ → List ℕ → List T → List T → ℕ → Type 0
TakesBlock used free free' pool pool' block = ((free ≡ free' ++ block ∷ []) × (pool' ≡ pool)) ⊎ ((free ≡ []) × (free' ≡ []) × (block ≡ used) × IsLonger pool pool')

-- each block of the pool has one head at most, or is free
pub record IsLaid {T : Type 0} (heads : List (Head T)) (free : List ℕ) (pool : List T) : Type 0 where
  pub blocks : length pool ≡ (length heads + length free) * 128
  pub once : (b : ℕ) → held b heads + times b free ≤ 1
  pub within : (b : ℕ) → 0 < held b heads + times b free → b < length heads + length free
  pub each : (k : ℕ) (d : Head T) → k < length heads → IsHead pool (slice_index_or heads k d)

-- and there is room for so many runs
pub record IsStore {T : Type 0} (most : ℕ) (heads : Vec (Head T) Global) (free : Vec ℕ Global) (pool : Vec T Global) : Type 0 where
  pub small : most < 4294967296
  pub room : length heads.items + length free.items ≤ most
  pub heads_room : most ≤ vec_capacity heads
  pub free_room : most ≤ vec_capacity free
  pub pool_room : most * 128 ≤ vec_capacity pool
  pub laid : IsLaid heads.items free.items pool.items
