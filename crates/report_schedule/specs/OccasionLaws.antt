-- The moments of a schedule, without computing them.
use Rattle.std.specs.Prelude.{◌≡◌, ℕ, ◌+◌, ◌*◌, ◌/◌, ◌%◌, ◌<◌, ◌≤◌, ◌↔◌, ℤ, pos, min, true, List, Some}
use Rattle.std.specs.Int.{bit_at}
use Rattle.std.specs.List.{Any, slice_split}
use Rattle.jiff_core.specs.Calendar.{days_from_civil, days_in_month, IsCivilDate}
use Rattle.fsrm_model.specs.values.Limits.{latest_moment}
use Rattle.report_schedule.specs.declared.schedule.Schedule.{Schedule}
use Rattle.report_schedule.specs.declared.schedule.Schedule.TheVariants.{Daily, Weekly, Monthly}
use Rattle.report_schedule.specs.Occasions.{IsDue, is_occasion, is_schedule}
use Rattle.report_schedule.specs.ScheduleText.{days_from, is_mark, weekday_from}
use Rattle.report_schedule.specs.DueJobs.{is_due}

-- a moment of a day, after a job was made
pub record IsTime (minute made day o : ℕ) : Type 0 where
  pub moment : o ≡ 86400 * day + 60 * minute
  pub after : made < o
  pub within : o ≤ latest_moment

-- every so many days from the day on which the job was made
pub record IsDaily (minute every made o : ℕ) : Type 0 where
  pub turns : ℕ
  pub time : IsTime minute made (made / 86400 + turns * every) o

pub record IsWeekly (minute days made o : ℕ) : Type 0 where
  pub day : ℕ
  pub time : IsTime minute made day o
  pub weekday : bit_at days ((day + 3) % 7) ≡ 1

-- on a day of each month, or the last one of a month that is shorter
pub record IsMonthly (minute place made o : ℕ) : Type 0 where
  pub day : ℕ
  pub time : IsTime minute made day o
  pub year : ℤ
  pub month : ℕ
  pub date : IsCivilDate year month (min place (days_in_month year month))
  pub number : days_from_civil year month (min place (days_in_month year month)) ≡ pos day

abbrev pub daily_moments : Type 0
daily_moments = (minute every made o : ℕ) → is_schedule (Daily minute every) ≡ true → (is_occasion (Daily minute every) made o ≡ true) ↔ IsDaily minute every made o

abbrev pub weekly_moments : Type 0
weekly_moments = (minute days made o : ℕ) → is_schedule (Weekly minute days) ≡ true → (is_occasion (Weekly minute days) made o ≡ true) ↔ IsWeekly minute days made o

abbrev pub monthly_moments : Type 0
monthly_moments = (minute place made o : ℕ) → is_schedule (Monthly minute place) ≡ true → (is_occasion (Monthly minute place) made o ≡ true) ↔ IsMonthly minute place made o

-- the bits of a text's days are those of its names
abbrev pub named_days : Type 0
named_days =
    (text : List ℕ) (days k : ℕ) → days_from text ≡ Some days → (bit_at days k ≡ 1) ↔ Any (λ name. weekday_from name ≡ Some k) (slice_split (is_mark 44) text)

-- the test and the relation
abbrev pub due_moments : Type 0
due_moments = (s : Schedule) (made base moment : ℕ) → (is_due s made base moment ≡ true) ↔ IsDue s made base moment
