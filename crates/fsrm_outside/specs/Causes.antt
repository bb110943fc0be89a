-- How failed calls are counted, and when a call may answer that its device failed.
use Rattle.std.specs.Prelude.{◌≡◌, ℕ, ◌+◌, ◌-◌, ◌^◌, ◌≤◌, min, Result, Ok, Err, OnOk, OnErr}

-- The count rose, or stands at its last value, which is that of a counter of 64 bits.
abbrev pub Rose : ℕ → ℕ → Type 0
Rose before now = min (before + 1) (2 ^ 64 - 1) ≤ now

-- The count of failed calls never falls, an `Err` comes only where it rose, and an `Ok` leaves it as it was.
pub record HasCause {T E : Type 0} (before now : ℕ) (result : Result T E) : Type 0 where
  pub later : before ≤ now
  pub failed : OnErr result (Rose before now)
  pub kept : OnOk result (now ≡ before)

-- the count after a call, where an `Err` counts once and an `Ok` does not
abbrev pub count_after : {T E : Type 0} → ℕ → Result T E → ℕ
count_after before (Ok value) = before
count_after before (Err error) = min (before + 1) (2 ^ 64 - 1)
