-- What a device in memory is told to do, how far it has come, and how often it had no memory for it.
use Rattle.std.specs.Prelude.{◌≡◌, ◌⊎◌, ℕ, ◌+◌, ◌≤◌, min, Option, None, Some, List, length, Contains}
use Rattle.fsrm_outside.specs.Causes.{Rose}

pub record Plan : Type 0 where
  -- the numbers of the calls that are to fail
  pub fail : List ℕ
  -- the number of the call from which on all are to fail
  pub stop : Option ℕ
  -- how many calls were made
  pub calls : ℕ
  -- the most bytes that one read gives
  pub piece : ℕ
  -- how many writes failed for want of memory
  pub lacked : ℕ

abbrev pub IsFrom : Option ℕ → ℕ → Type 0
IsFrom None call = ⊥
IsFrom (Some stop) call = stop ≤ call

-- the next call is to fail
abbrev pub FailsNext : Plan → Type 0
FailsNext plan = Contains plan.fail (plan.calls + 1) ⊎ IsFrom plan.stop (plan.calls + 1)

-- how many of the bytes left a read gives into this room
abbrev pub most_of : Plan → List ℕ → List ℕ → ℕ
most_of plan left room = min (min (length left) (length room)) plan.piece

-- The plan stays, and one call was made or, for want of memory, none.
pub record GoesBy (old new : Plan) : Type 0 where
  pub same : record new { calls = old.calls } ≡ old
  pub no_fewer : old.calls ≤ new.calls
  pub at_most : new.calls ≤ old.calls + 1

-- so by a write, which may have lacked memory
abbrev pub WritesBy : Plan → Plan → Type 0
WritesBy old new = GoesBy old (record new { lacked = old.lacked })

-- one write more lacked memory
abbrev pub Lacked : Plan → Plan → Type 0
Lacked old new = Rose old.lacked new.lacked
