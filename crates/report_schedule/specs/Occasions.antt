-- The moments at which a schedule has its job run.
use Rattle.std.specs.Prelude.{◌≡◌, ℕ, ◌+◌, ◌-◌, ◌*◌, ◌/◌, ◌%◌, ◌<◌, ◌≤◌, ◌==◌, ◌&&◌, nat_lt, nat_le, min, pos, Bool, true, false}
use Rattle.std.specs.Int.{bit_at}
use Rattle.jiff_core.specs.Calendar.{days_in_month}
use Rattle.fsrm_model.specs.values.Date.{Civil, date_of}
use Rattle.fsrm_model.specs.values.Limits.{latest_moment}
use Rattle.report_schedule.specs.declared.schedule.Schedule.{Schedule}
use Rattle.report_schedule.specs.declared.schedule.Schedule.TheVariants.{Never, Daily, Weekly, Monthly}

-- whether a date is this day of its month, or the last one of a month that is shorter
abbrev pub falls_on : ℕ → Civil → Bool
falls_on place date = date.day == min place (days_in_month (pos date.year) date.month)

-- the same of a day since 1970-01-01
unfoldable pub is_month_day : ℕ → ℕ → Bool
is_month_day place day = falls_on place (date_of day)

-- whether a schedule is for a day since 1970-01-01, if its job was made on this day
abbrev pub is_on : Schedule → ℕ → ℕ → Bool
is_on Never made day = false
is_on (Daily minute every) made day = nat_le made day && ((day - made) % every == 0)
is_on (Weekly minute days) made day = bit_at days ((day + 3) % 7) == 1
is_on (Monthly minute place) made day = is_month_day place day

abbrev pub minute_of : Schedule → ℕ
minute_of Never = 0
minute_of (Daily minute every) = minute
minute_of (Weekly minute days) = minute
minute_of (Monthly minute place) = minute

-- the moment of a day at which its job would run
abbrev pub moment_on : Schedule → ℕ → ℕ
moment_on schedule day = 86400 * day + 60 * minute_of schedule

-- whether a moment is one of those of a schedule whose job was made then
abbrev pub is_occasion : Schedule → ℕ → ℕ → Bool
is_occasion schedule made o =
    (nat_lt made o && nat_le o latest_moment) && ((o == moment_on schedule (o / 86400)) && is_on schedule (made / 86400) (o / 86400))

-- the values that a schedule may have
abbrev pub is_schedule : Schedule → Bool
is_schedule Never = true
is_schedule (Daily minute every) = nat_lt minute 1440 && (nat_le 1 every && nat_le every 366)
is_schedule (Weekly minute days) = nat_lt minute 1440
is_schedule (Monthly minute place) = nat_lt minute 1440 && (nat_le 1 place && nat_le place 31)

-- the least of these moments after another one
pub record IsNext (schedule : Schedule) (made base o : ℕ) : Type 0 where
  pub occasion : is_occasion schedule made o ≡ true
  pub after : base < o
  pub least : (p : ℕ) → is_occasion schedule made p ≡ true → base < p → o ≤ p

-- none of them is after it
abbrev pub HasNone : Schedule → ℕ → ℕ → Type 0
HasNone schedule made base = (p : ℕ) → is_occasion schedule made p ≡ true → p ≤ base

-- one of them is after a moment, and not after another
pub record IsDue (schedule : Schedule) (made base moment : ℕ) : Type 0 where
  pub at : ℕ
  pub occasion : is_occasion schedule made at ≡ true
  pub after : base < at
  pub by : at ≤ moment
