-- Values of rows that stand for numbers.
use Rattle.std.specs.Prelude.{ℕ, ◌-◌, ◌^◌, ◌==◌, nat_lt, Bool, true, false, ℤ, pos, negsuc, Option, Some, None, if◌then◌else◌}
use Rattle.fsrm_model.specs.declared.row.QuotaState.{QuotaState}
use Rattle.fsrm_model.specs.declared.row.QuotaState.TheVariants.{Complete, Disabled, Rebuilding, Incomplete}
use Rattle.record_fields.specs.Formats.{Format, number, standing, choice}

-- minutes, in two's complement in four bytes
abbrev pub minutes_of : ℕ → Option ℤ
minutes_of n = if nat_lt n (2 ^ 31) then Some (pos n) else if nat_lt n (2 ^ 32) then Some (negsuc (2 ^ 32 - 1 - n)) else None

abbrev pub minutes_code : ℤ → ℕ
minutes_code (pos n) = n
minutes_code (negsuc n) = 2 ^ 32 - 1 - n

abbrev pub has_32_bits : ℤ → Bool
has_32_bits (pos n) = nat_lt n (2 ^ 31)
has_32_bits (negsuc n) = nat_lt n (2 ^ 31)

abbrev pub minutes : Format ℤ
minutes = standing minutes_of minutes_code has_32_bits (number 4)

-- the state of a quota. One that is rebuilt has no spelling of its own: it is written as incomplete, and so isn't read again
abbrev pub state_of : ℕ → Option QuotaState
state_of n =
    if n == 0 then Some Complete
    else if n == 1 then Some Disabled
    else if n == 2 then Some Incomplete else None

abbrev pub state_code : QuotaState → ℕ
state_code Complete = 0
state_code Disabled = 1
state_code Rebuilding = 2
state_code Incomplete = 2

abbrev pub is_kept_state : QuotaState → Bool
is_kept_state Rebuilding = false
is_kept_state other = true

abbrev pub state : Format QuotaState
state = choice state_of state_code is_kept_state
