-- Worked examples, most of a job that was made at 1000000000, on a Sunday.
use Rattle.std.specs.Prelude.{◌≡◌, ℕ, List, [], ◌∷◌, codes, is_none, map, Bool, true, false, Some}
use Rattle.std.specs.List.{list_all}
use Rattle.report_schedule.specs.declared.schedule.Schedule.TheVariants.{Never, Daily, Weekly, Monthly}
use Rattle.report_schedule.specs.ScheduleText.{schedule_from}
use Rattle.report_schedule.specs.DueJobs.{is_due, is_due_if}

-- what texts spell
abbrev pub spelled_daily : Type 0
spelled_daily = map schedule_from (codes "daily 02:00 1" ∷ codes "daily 23:59 366" ∷ codes "daily 00:00 007" ∷ []) ≡ Some (Daily 120 1) ∷ Some (Daily 1439 366) ∷ Some (Daily 0 7) ∷ []

abbrev pub spelled_weekly : Type 0
spelled_weekly = map schedule_from (codes "weekly 01:00 sun,mon" ∷ codes "weekly 00:30 mon,tue,wed,thu,fri,sat,sun" ∷ []) ≡ Some (Weekly 60 65) ∷ Some (Weekly 30 127) ∷ []

abbrev pub spelled_monthly : Type 0
spelled_monthly = map schedule_from (codes "monthly 00:00 31" ∷ codes "monthly 00:00 01" ∷ []) ≡ Some (Monthly 0 31) ∷ Some (Monthly 0 1) ∷ []

abbrev pub spelled_never : Type 0
spelled_never = schedule_from [] ≡ Some Never

-- texts that spell nothing: of each kind, and others
abbrev pub unspelled_daily : List (List ℕ)
unspelled_daily =
    codes "daily" ∷ codes "daily 02:00" ∷ codes "daily 02:00 " ∷ codes "daily 2:00 1" ∷ codes "daily 24:00 1" ∷ codes "daily 02:60 1" ∷ codes "daily 0200 1" ∷ codes "daily 02:00:00 1" ∷ codes "daily  02:00 1" ∷ codes "daily 02:00  1" ∷ codes " daily 02:00 1" ∷ codes "daily 02:00 1 " ∷ codes "daily 02:00 0" ∷ codes "daily 02:00 367" ∷ codes "daily 02:00 0001" ∷ codes "daily 02:00 +1" ∷ codes "Daily 02:00 1" ∷ []

abbrev pub unspelled_weekly : List (List ℕ)
unspelled_weekly =
    codes "weekly 01:00 " ∷ codes "weekly 01:00 mon,mon" ∷ codes "weekly 01:00 mon," ∷ codes "weekly 01:00 mon,,tue" ∷ codes "weekly 01:00 mon, tue" ∷ codes "weekly 01:00 Mon" ∷ codes "weekly 01:00 monday" ∷ codes "weekly 01:00 1" ∷ []

abbrev pub unspelled_others : List (List ℕ)
unspelled_others =
    codes "monthly 00:00 0" ∷ codes "monthly 00:00 32" ∷ codes "monthly 00:00 001" ∷ codes "monthly 00:00 last" ∷ codes "hourly 00:00 1" ∷ codes "never" ∷ codes " " ∷ []

abbrev pub is_unspelled : List ℕ → Bool
is_unspelled text = is_none (schedule_from text)

abbrev pub unspelled : Type 0
unspelled = map (list_all is_unspelled) (unspelled_daily ∷ unspelled_weekly ∷ unspelled_others ∷ []) ≡ true ∷ true ∷ true ∷ []

-- whether the schedule of a text is due at a moment, and at the one before it
abbrev pub due_from : List ℕ → ℕ → Bool
due_from text moment = is_due_if (schedule_from text) 1000000000 1000000000 moment

abbrev pub first_daily : Type 0
first_daily = map (due_from (codes "daily 02:00 1")) (1000000799 ∷ 1000000800 ∷ []) ≡ false ∷ true ∷ []

abbrev pub first_weekly : Type 0
first_weekly = map (due_from (codes "weekly 01:00 sun,mon")) (1000083599 ∷ 1000083600 ∷ []) ≡ false ∷ true ∷ []

abbrev pub first_monthly : Type 0
first_monthly = map (due_from (codes "monthly 00:00 31")) (1001807999 ∷ 1001808000 ∷ []) ≡ false ∷ true ∷ []

-- after a run it isn't due again before the next day
abbrev pub ran_daily : Type 0
ran_daily = map (is_due (Daily 120 1) 1000000000 1000000800) (1000000800 ∷ 1000087199 ∷ 1000087200 ∷ []) ≡ false ∷ false ∷ true ∷ []

-- a late run on the day after puts no day off: every second day counts from that on which the job was made
abbrev pub ran_late : Type 0
ran_late = map (is_due (Daily 120 2) 1000000000 1000100000) (1000173599 ∷ 1000173600 ∷ []) ≡ false ∷ true ∷ []

-- the moment at which a job is made is none of its schedule's
abbrev pub made_then : Type 0
made_then = map (is_due (Daily 120 1) 1000000800 1000000800) (1000000800 ∷ 1000087199 ∷ 1000087200 ∷ []) ≡ false ∷ false ∷ true ∷ []

-- of a job that was made on 2004-02-01: the last day of that month is the 29th
abbrev pub leap_year : Type 0
leap_year = map (is_due (Monthly 720 31) 1075593600 1075593600) (1078055999 ∷ 1078056000 ∷ []) ≡ false ∷ true ∷ []
