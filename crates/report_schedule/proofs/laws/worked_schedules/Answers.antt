-- Each example computes.
use Rattle.std.proofs.Common.{refl}
use Rattle.report_schedule.specs.Occasions.{is_month_day}
use Rattle.report_schedule.specs.ScheduleText.{days_from, minute_from, timed_from}
use Rattle.report_schedule.specs.DueJobs.{is_due}
use Rattle.report_schedule.proofs.laws.worked_schedules.Goals as goal

pub returns-clause-spelled_daily : goal.returns-clause-spelled_daily
unfolding is_month_day days_from minute_from timed_from is_due
returns-clause-spelled_daily c = refl

pub returns-clause-spelled_weekly : goal.returns-clause-spelled_weekly
unfolding is_month_day days_from minute_from timed_from is_due
returns-clause-spelled_weekly c = refl

pub returns-clause-spelled_monthly : goal.returns-clause-spelled_monthly
unfolding is_month_day days_from minute_from timed_from is_due
returns-clause-spelled_monthly c = refl

pub returns-clause-spelled_never : goal.returns-clause-spelled_never
unfolding is_month_day days_from minute_from timed_from is_due
returns-clause-spelled_never c = refl

pub returns-clause-unspelled : goal.returns-clause-unspelled
unfolding is_month_day days_from minute_from timed_from is_due
returns-clause-unspelled c = refl

pub returns-clause-first_daily : goal.returns-clause-first_daily
unfolding is_month_day days_from minute_from timed_from is_due
returns-clause-first_daily c = refl

pub returns-clause-first_weekly : goal.returns-clause-first_weekly
unfolding is_month_day days_from minute_from timed_from is_due
returns-clause-first_weekly c = refl

pub returns-clause-first_monthly : goal.returns-clause-first_monthly
unfolding is_month_day days_from minute_from timed_from is_due
returns-clause-first_monthly c = refl

pub returns-clause-ran_daily : goal.returns-clause-ran_daily
unfolding is_month_day days_from minute_from timed_from is_due
returns-clause-ran_daily c = refl

pub returns-clause-ran_late : goal.returns-clause-ran_late
unfolding is_month_day days_from minute_from timed_from is_due
returns-clause-ran_late c = refl

pub returns-clause-made_then : goal.returns-clause-made_then
unfolding is_month_day days_from minute_from timed_from is_due
returns-clause-made_then c = refl

pub returns-clause-leap_year : goal.returns-clause-leap_year
unfolding is_month_day days_from minute_from timed_from is_due
returns-clause-leap_year c = refl
