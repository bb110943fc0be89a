-- Runs in blocks of a pool.
use Rattle.std.specs.Prelude.{◌≡◌, ◌≢◌, ℕ, ◌*◌, ◌≤◌, List, length, take, drop}

-- the first entries of a block
abbrev pub run_in : {T : Type 0} → List T → ℕ → ℕ → List T
run_in pool block len = take len (drop (block * 128) pool)

-- the same in all blocks but one
pub record SameBut {T : Type 0} (old new : List T) (block : ℕ) : Type 0 where
  pub length : length new ≡ length old
  pub runs : (b n : ℕ) → b ≢ block → n ≤ 128 → run_in new b n ≡ run_in old b n
