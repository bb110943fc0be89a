-- The numbers that are drawn for a made script.
use Rattle.std.specs.Prelude.{ℕ, zero, suc, ◌+◌, ◌*◌, ◌/◌, ◌%◌, ◌^◌}
use Rattle.made_script.specs.declared.draws.Draws.{Draws}

-- the state after one more draw
unfoldable pub next_state : ℕ → ℕ
next_state x = (x * 6364136223846793005 + 1442695040888963407) % 2 ^ 64

-- and after n more
abbrev pub state_after : ℕ → ℕ → ℕ
state_after x zero = x
state_after x (suc n) = next_state (state_after x n)

-- the number that a state gives, below n
unfoldable pub draw : ℕ → ℕ → ℕ
draw x n = (x / 2 ^ 33) % n

-- what is drawn for a line, from the state before it
abbrev pub draws : ℕ → Draws
draws x = record {
  kind = draw (state_after x 1) 16;
  folder = draw (state_after x 2) 32;
  name = draw (state_after x 3) 64;
  other_folder = draw (state_after x 4) 32;
  other_name = draw (state_after x 5) 64;
  size = draw (state_after x 6) 400000;
}
