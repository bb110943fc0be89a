-- The civil date of a moment, in UTC (the proleptic Gregorian calendar, ISO 8601).
use Rattle.std.specs.Prelude.{ℕ, zero, suc, ◌+◌, ◌-◌, ◌/◌, ◌%◌, nat_lt, pos, List, [], ◌∷◌, ◌++◌, if◌then◌else◌}
use Rattle.jiff_core.specs.Calendar.{days_in_year, days_in_month}

-- a year, month and day, each from 1
pub record Civil : Type 0 where
  pub year : ℕ
  pub month : ℕ
  pub day : ℕ

-- the date of a day, if day 0 begins this month, and so many months may be left
abbrev pub in_months : ℕ → ℕ → ℕ → ℕ → Civil
in_months zero year month day = record { year = year; month = month; day = day + 1 }
in_months (suc months) year month day =
    if nat_lt day (days_in_month (pos year) month) then record { year = year; month = month; day = day + 1 }
    else in_months months year (month + 1) (day - days_in_month (pos year) month)

-- the date of a day, if day 0 begins this year, and so many years may be left
abbrev pub in_years : ℕ → ℕ → ℕ → Civil
in_years zero year day = in_months 11 year 1 day
in_years (suc years) year day =
    if nat_lt day (days_in_year (pos year)) then in_months 11 year 1 day
    else in_years years (year + 1) (day - days_in_year (pos year))

-- the date of a day since 1970-01-01, up to 2099-12-31
abbrev pub date_of : ℕ → Civil
date_of day = in_years 129 1970 day

abbrev pub two_digits : ℕ → List ℕ
two_digits n = (48 + n / 10) ∷ (48 + n % 10) ∷ []

abbrev pub four_digits : ℕ → List ℕ
four_digits n = two_digits (n / 100) ++ two_digits (n % 100)

-- a date as YYYY-MM-DD
abbrev pub day_text : Civil → List ℕ
day_text date = four_digits date.year ++ 45 ∷ two_digits date.month ++ 45 ∷ two_digits date.day

-- a second of a day as hh:mm:ss
abbrev pub time_text : ℕ → List ℕ
time_text second = two_digits (second / 3600) ++ 58 ∷ two_digits (second / 60 % 60) ++ 58 ∷ two_digits (second % 60)

-- a moment as YYYY-MM-DD hh:mm:ss
abbrev pub date_text : ℕ → List ℕ
date_text moment = day_text (date_of (moment / 86400)) ++ 32 ∷ time_text (moment % 86400)
