-- The date of a day against the calendar's day numbers.
use Rattle.std.proofs.Common.{◌≡◌, ℕ, zero, suc, ◌+◌, ◌-◌, ◌<◌, ◌≤◌, nat_lt, cond, Bool, true, false, refl, arith, ℤ, pos, ⊎_elim}
use Rattle.std.proofs.lemmas.Bool.{cases_order}
use Rattle.std.proofs.lemmas.Bool.Decides.{nat_tests}
use Rattle.std.proofs.lemmas.Int.{by_lt_z}
use Rattle.jiff_core.specs.Calendar.{days_in_year, days_in_month, day_count, days_from_civil, IsCivilDate}
use Rattle.jiff_core.proofs.CalendarLemmas.{day_count-epoch, days_from_civil-day_count, day_count-next_year, day_count-next_month, day_count-day, day_count-last_of_year, day_count-lt_year, day_count-lt_month}
use Rattle.jiff_core.proofs.MarchLemmas.{day_count-early}
use Rattle.jiff_core.proofs.SignedLemmas.{signed_arith}
use Rattle.fsrm_model.specs.values.Date.{Civil, in_months, in_years, date_of}

-- a date of the calendar, from 1970 to 2099, that comes so many days after the calendar's first
pub record IsDayOf (place : ℕ) (date : Civil) : Type 0 where
  pub count : day_count (pos date.year) date.month date.day ≡ place
  pub first_year : 1970 ≤ date.year
  pub last_year : date.year ≤ 2099
  pub first_month : 1 ≤ date.month
  pub last_month : date.month ≤ 12
  pub first_day : 1 ≤ date.day
  pub last_day : date.day ≤ days_in_month (pos date.year) date.month

-- either of two dates is of this day, each if it is taken
either_day : (b : Bool) (count : ℕ) (x y : Civil) → (b ≡ true → IsDayOf count x) → (b ≡ false → IsDayOf count y) → IsDayOf count (cond b x y)
either_day true count x y h k = h refl
either_day false count x y h k = k refl

-- a day of the month
here : (count year month day : ℕ) → 1970 ≤ year → year ≤ 2099 → 1 ≤ month → month ≤ 12 → day < days_in_month (pos year) month → day_count (pos year) month 1 + day ≡ count → IsDayOf count (record { year = year; month = month; day = day + 1 })
here count year month day low high first last lt e = record {
  count = omega (arith, day_count-day (pos year) month 1 (day + 1) (omega arith) (omega arith));
  first_year = low;
  last_year = high;
  first_month = first;
  last_month = last;
  first_day = omega arith;
  last_day = omega arith;
}

months_law : (months count year month day : ℕ) → 1970 ≤ year → year ≤ 2099 → 1 ≤ month → month + months ≡ 12 → day_count (pos year) month 1 + day ≡ count → count < day_count (pos year) 1 1 + days_in_year (pos year) → IsDayOf count (in_months months year month day)
months_law zero count year month day low high first sum e lt =
    let is : month ≡ 12 = omega arith in
    here count year month day low high first (omega arith) (rw is (omega (arith, rw is at e, day_count-last_of_year (pos year), day_count-day (pos year) 12 1 31 (omega arith) (omega arith)))) e
months_law (suc months) count year month day low high first sum e lt =
    either_day (nat_lt day (days_in_month (pos year) month)) count _ _
    (λ is. here count year month day low high first (omega arith) (grind (arith, nat_tests)) e)
    (λ not. let past : days_in_month (pos year) month ≤ day = grind (arith, nat_tests) in
    months_law months count year (month + 1) (day - days_in_month (pos year) month) low high (omega arith) (omega arith) (omega (arith, day_count-next_month (pos year) month first)) lt)

century : day_count (pos 2100) 1 1 ≡ 4419435
century = day_count-early (pos 2100) 12099 1 1 refl (omega arith) (omega arith) (omega arith)

next_year : (year : ℕ) → day_count (pos (year + 1)) 1 1 ≡ day_count (pos year) 1 1 + days_in_year (pos year)
next_year year = day_count-next_year (pos year) (pos (year + 1)) (omega (arith, signed_arith)) (omega (arith, signed_arith))

years_law : (years count year day : ℕ) → 1970 ≤ year → year + years ≡ 2099 → day_count (pos year) 1 1 + day ≡ count → count < 4419435 → IsDayOf count (in_years years year day)
years_law zero count year day low sum e lt =
    let is : year + 1 ≡ 2100 = omega arith in
    months_law 11 count year 1 day low (omega arith) (omega arith) (omega arith) e (omega (arith, rw is at (next_year year), century))
years_law (suc years) count year day low sum e lt =
    either_day (nat_lt day (days_in_year (pos year))) count _ _
    (λ is. let within : day < days_in_year (pos year) = grind (arith, nat_tests) in
    months_law 11 count year 1 day low (omega arith) (omega arith) (omega arith) e (omega arith))
    (λ not. let past : days_in_year (pos year) ≤ day = grind (arith, nat_tests) in
    years_law years count (year + 1) (day - days_in_year (pos year)) (omega arith) (omega arith) (omega (arith, next_year year)) lt)

-- the date of a day, as a date of the calendar
pub date_counts : (day : ℕ) → day ≤ 47481 → IsDayOf (4371953 + day) (date_of day)
date_counts day h = years_law 129 (4371953 + day) 1970 day (omega arith) (omega arith) (omega (arith, day_count-epoch)) (omega arith)

number_of : (day : ℕ) (date : Civil) → IsDayOf (4371953 + day) date → days_from_civil (pos date.year) date.month date.day ≡ pos day
number_of day date h =
    omega (arith, signed_arith, days_from_civil-day_count (pos date.year) date.month date.day, h.count)

-- its day number is that day
pub date_is : (day : ℕ) → day ≤ 47481 → days_from_civil (pos (date_of day).year) (date_of day).month (date_of day).day ≡ pos day
date_is day h = number_of day (date_of day) (date_counts day h)

-- a day is of one month of its year, and has one place in it
same_month : (y : ℤ) (m d m₂ d₂ : ℕ) → IsCivilDate y m d → IsCivilDate y m₂ d₂ → day_count y m d ≡ day_count y m₂ d₂ → (m ≡ m₂) × (d ≡ d₂)
same_month y m d m₂ d₂ h k e =
    ⊎_elim
    (λ same.
    let at : day_count y m d ≡ day_count y m d₂ = rw (← same) at e in
    (same, omega (arith, day_count-day y m d d₂ h.2.0 k.2.0)))
    (λ apart. ⊎_elim
    (λ lt. absurd (omega (arith, day_count-lt_month y m d m₂ d₂ h k.2.0 lt)))
    (λ gt. absurd (omega (arith, day_count-lt_month y m₂ d₂ m d k h.2.0 gt)))
    apart)
    (cases_order m m₂)

same_year : (y y₂ : ℤ) (m d m₂ d₂ : ℕ) → IsCivilDate y m d → IsCivilDate y₂ m₂ d₂ → day_count y m d ≡ day_count y₂ m₂ d₂ → y ≡ y₂
same_year y y₂ m d m₂ d₂ h k e =
    by_lt_z y y₂ (λ lt. absurd (omega (arith, day_count-lt_year y m d y₂ m₂ d₂ h k.2.0 lt)))
    (λ le. by_lt_z y₂ y (λ gt. absurd (omega (arith, day_count-lt_year y₂ m₂ d₂ y m d k h.2.0 gt)))
    (λ ge. omega (arith, signed_arith)))

-- a date of the calendar is this one
pub record IsOnly (y : ℤ) (m d : ℕ) (date : Civil) : Type 0 where
  pub year_is : y ≡ pos date.year
  pub month_is : m ≡ date.month
  pub day_is : d ≡ date.day

only : (count : ℕ) (y : ℤ) (m d : ℕ) (date : Civil) → IsDayOf count date → IsCivilDate y m d → day_count y m d ≡ count → IsOnly y m d date
only count y m d date h k e =
    let civil : IsCivilDate (pos date.year) date.month date.day = ((omega (arith, signed_arith, h.last_year), omega (arith, signed_arith, h.last_year)), (h.first_month, h.last_month), (h.first_day, h.last_day)) in
    let same : day_count y m d ≡ day_count (pos date.year) date.month date.day = omega (arith, h.count) in
    let year : y ≡ pos date.year = same_year y (pos date.year) m d date.month date.day k civil same in
    let here : IsCivilDate (pos date.year) m d = rw year at k in
    let rest = same_month (pos date.year) m d date.month date.day here civil (rw year at same) in
    record { year_is = year; month_is = rest.0; day_is = rest.1 }

-- no other date of the calendar has the day's number
pub date_only : (day : ℕ) → day ≤ 47481 → (y : ℤ) (m d : ℕ) → IsCivilDate y m d → days_from_civil y m d ≡ pos day → IsOnly y m d (date_of day)
date_only day few y m d h e =
    only (4371953 + day) y m d (date_of day) (date_counts day few) h (omega (arith, signed_arith, days_from_civil-day_count y m d, e))
