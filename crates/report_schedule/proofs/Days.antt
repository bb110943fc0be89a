-- Days of months, by jiff's calendar.
use Rattle.std.proofs.Common.{◌≡◌, ℕ, ◌≤◌, ℤ, pos, refl}
use Rattle.std.specs.Prelude.{◌==◌, min}
use Rattle.jiff_core.specs.Calendar.{days_in_month, days_from_civil, IsCivilDate}
use Rattle.fsrm_model.specs.values.Date.{Civil, date_of}
use Rattle.fsrm_model.proofs.DateLaws.{IsOnly, date_only}
use Rattle.report_schedule.specs.Occasions.{falls_on, is_month_day}

same_place : (place : ℕ) (y : ℤ) (m d : ℕ) (date : Civil) → IsOnly y m d date → (d == min place (days_in_month y m)) ≡ falls_on place date
same_place place y m d date h = rw (h.year_is, h.month_is, h.day_is) refl

-- a date of the calendar tells whether its day is such a day
pub place_shown : (place day : ℕ) (y : ℤ) (m d : ℕ) → day ≤ 47481 → IsCivilDate y m d → days_from_civil y m d ≡ pos day → (d == min place (days_in_month y m)) ≡ is_month_day place day
unfolding is_month_day
place_shown place day y m d few h e = same_place place y m d (date_of day) (date_only day few y m d h e)
