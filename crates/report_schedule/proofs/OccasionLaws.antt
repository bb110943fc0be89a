-- The moments of a schedule, as relations.
use Rattle.std.proofs.Common.{◌≡◌, ℕ, zero, suc, ◌+◌, ◌-◌, ◌*◌, ◌/◌, ◌%◌, ◌^◌, ◌<◌, ◌≤◌, ℤ, pos, List, [], ◌∷◌, true, Some, length, get_or, refl, sym, ap, ◌∙◌, inl, inr, arith, ⊎_elim}
use Rattle.std.specs.Prelude.{◌==◌, ◌⊎◌, nat_le, min, bit_or}
use Rattle.std.specs.Int.{bit_at}
use Rattle.std.specs.List.{Any, slice_split}
use Rattle.std.proofs.Math.Nat.{add-mul-mod_self_right, div-mul-le_self, mod-eq-sub-div-mul}
use Rattle.std.proofs.lemmas.Nat.Bits.{bit_at_or, bit_at-pow_same, bit_at-pow_other, bit_at-zero, bit_at-lt}
use Rattle.std.proofs.lemmas.Bool.{cases_order}
use Rattle.jiff_core.specs.Calendar.{days_from_civil, days_in_month, IsCivilDate}
use Rattle.jiff_core.proofs.SignedLemmas.{signed_arith}
use Rattle.fsrm_base.proofs.TestLaws.{both, both_true, eq_is, eq_test, le_is, le_test}
use Rattle.fsrm_model.specs.values.Date.{Civil, date_of}
use Rattle.fsrm_model.proofs.DateLaws.{IsDayOf, IsOnly, date_counts, date_is, date_only}
use Rattle.report_schedule.specs.declared.schedule.Schedule.{Schedule}
use Rattle.report_schedule.specs.declared.schedule.Schedule.TheVariants.{Daily, Weekly, Monthly}
use Rattle.report_schedule.specs.Occasions.{falls_on, is_month_day, is_occasion, is_on, is_schedule, minute_of, moment_on}
use Rattle.report_schedule.specs.OccasionLaws.{IsTime, IsDaily, IsMonthly, daily_moments, due_moments, monthly_moments, named_days, weekly_moments}
use Rattle.report_schedule.specs.ScheduleText.{◌>>=◌, days_from, is_mark, weekday_from, with_day, with_names}
use Rattle.report_schedule.proofs.DueLaws.{due_is, is_due_at}
use Rattle.report_schedule.proofs.NextLaws.{IsAt, at_is, on_this_day}
use Rattle.report_schedule.proofs.Texts.{bound, guards}

time_of : (s : Schedule) (made o : ℕ) → IsAt s made o → IsTime (minute_of s) made (o / 86400) o
time_of s made o h = record { moment = h.moment; after = h.after; within = h.within }

-- a moment of a day on which a schedule is
occasion_of : (s : Schedule) (made day o : ℕ) → is_schedule s ≡ true → IsTime (minute_of s) made day o → is_on s (made / 86400) day ≡ true → is_occasion s made o ≡ true
occasion_of s made day o h time on =
    let few : day < 47482 = omega (arith, time.moment, time.within) in
    let after : made < moment_on s day = omega (arith, time.moment, time.after) in
    ap (is_occasion s made) time.moment ∙ on_this_day s made day h few after on

-- ---- every so many days
turned : (d m every : ℕ) → m ≤ d → (d - m) % every ≡ 0 → d ≡ m + (d - m) / every * every
turned d m every le h = omega (arith, h, mod-eq-sub-div-mul (d - m) every, div-mul-le_self (d - m) every)

daily_is : (minute every made o : ℕ) → is_occasion (Daily minute every) made o ≡ true → IsDaily minute every made o
daily_is minute every made o h =
    let at = at_is (Daily minute every) made o h in
    let day = o / 86400 in
    let from = made / 86400 in
    let parts = both (nat_le from day) ((day - from) % every == 0) at.day in
    let is : day ≡ from + (day - from) / every * every = turned day from every (le_is from day parts.0) (eq_is ((day - from) % every) 0 parts.1) in
    record { turns = (day - from) / every; time = record { moment = at.moment ∙ ap (λ d. 86400 * d + 60 * minute) is; after = at.after; within = at.within } }

is_daily : (minute every made o : ℕ) → is_schedule (Daily minute every) ≡ true → IsDaily minute every made o → is_occasion (Daily minute every) made o ≡ true
is_daily minute every made o s h =
    let from = made / 86400 in
    let n = h.turns * every in
    let rest : from + n - from ≡ 0 + n = omega arith in
    let none : (from + n - from) % every ≡ 0 = ap (λ d. d % every) rest ∙ add-mul-mod_self_right 0 h.turns every ∙ omega (arith, mod-eq-sub-div-mul 0 every) in
    occasion_of (Daily minute every) made (from + n) o s h.time (both_true _ _ (le_test from (from + n) (omega arith)) (eq_test ((from + n - from) % every) 0 none))

pub daily : daily_moments
daily minute every made o s = (daily_is minute every made o, is_daily minute every made o s)

-- ---- days of the week
pub weekly : weekly_moments
weekly minute days made o s = (
  (λ h. let at = at_is (Weekly minute days) made o h in
      record { day = o / 86400; time = time_of (Weekly minute days) made o at; weekday = eq_is (bit_at days ((o / 86400 + 3) % 7)) 1 at.day }),
  (λ h. occasion_of (Weekly minute days) made h.day o s h.time (eq_test (bit_at days ((h.day + 3) % 7)) 1 h.weekday)),
)

-- ---- days of months
civil_is : (count : ℕ) (date : Civil) → IsDayOf count date → IsCivilDate (pos date.year) date.month date.day
civil_is count date h = ((omega (arith, signed_arith, h.last_year), omega (arith, signed_arith, h.last_year)), (h.first_month, h.last_month), (h.first_day, h.last_day))

falls_is : (place day : ℕ) → is_month_day place day ≡ true → falls_on place (date_of day) ≡ true
unfolding is_month_day
falls_is place day h = h

is_falling : (place day : ℕ) → falls_on place (date_of day) ≡ true → is_month_day place day ≡ true
unfolding is_month_day
is_falling place day h = h

record HasDate (place day : ℕ) : Type 0 where
  pub year : ℤ
  pub month : ℕ
  pub date : IsCivilDate year month (min place (days_in_month year month))
  pub number : days_from_civil year month (min place (days_in_month year month)) ≡ pos day

date_has : (place day : ℕ) (date : Civil) → falls_on place date ≡ true → IsCivilDate (pos date.year) date.month date.day → days_from_civil (pos date.year) date.month date.day ≡ pos day → HasDate place day
date_has place day date h civil number =
    let is : date.day ≡ min place (days_in_month (pos date.year) date.month) = eq_is date.day (min place (days_in_month (pos date.year) date.month)) h in
    record { year = pos date.year; month = date.month; date = rw is at civil; number = ap (days_from_civil (pos date.year) date.month) (sym is) ∙ number }

has_date : (place : ℕ) (date : Civil) (y : ℤ) (m : ℕ) → IsOnly y m (min place (days_in_month y m)) date → falls_on place date ≡ true
has_date place date y m h =
    eq_test date.day (min place (days_in_month (pos date.year) date.month)) (sym h.day_is ∙ ap (λ y. min place (days_in_month y m)) h.year_is ∙ ap (λ m. min place (days_in_month (pos date.year) m)) h.month_is)

monthly_is : (minute place made o : ℕ) → is_occasion (Monthly minute place) made o ≡ true → IsMonthly minute place made o
monthly_is minute place made o h =
    let at = at_is (Monthly minute place) made o h in
    let few : o / 86400 ≤ 47481 = omega (arith, at.within) in
    let has = date_has place (o / 86400) (date_of (o / 86400)) (falls_is place (o / 86400) at.day) (civil_is _ (date_of (o / 86400)) (date_counts (o / 86400) few)) (date_is (o / 86400) few) in
    record { day = o / 86400; time = time_of (Monthly minute place) made o at; year = has.year; month = has.month; date = has.date; number = has.number }

is_monthly : (minute place made o : ℕ) → is_schedule (Monthly minute place) ≡ true → IsMonthly minute place made o → is_occasion (Monthly minute place) made o ≡ true
is_monthly minute place made o s h =
    let few : h.day ≤ 47481 = omega (arith, h.time.moment, h.time.within) in
    occasion_of (Monthly minute place) made h.day o s h.time
    (is_falling place h.day (has_date place (date_of h.day) h.year h.month (date_only h.day few h.year h.month (min place (days_in_month h.year h.month)) h.date h.number)))

pub monthly : monthly_moments
monthly minute place made o s = (monthly_is minute place made o, is_monthly minute place made o s)

-- ---- the names of days
abbrev Names : ℕ → List (List ℕ) → Type 0
Names k names = Any (λ name. weekday_from name ≡ Some k) names

first_name : (k : ℕ) (name : List ℕ) (names : List (List ℕ)) → weekday_from name ≡ Some k → Names k (name ∷ names)
first_name k name names h = (0, name, omega arith, refl, h)

later_name : (k : ℕ) (name : List ℕ) (names : List (List ℕ)) → Names k names → Names k (name ∷ names)
later_name k name names h = (suc h.0, h.1, omega (arith, h.2), h.3, h.4)

there : (k i : ℕ) (name x : List ℕ) (names : List (List ℕ)) → i < length (name ∷ names) → get_or (name ∷ names) i x ≡ x → weekday_from x ≡ Some k → (weekday_from name ≡ Some k) ⊎ Names k names
there k zero name x names within is h = inl (ap weekday_from is ∙ h)
there k (suc i) name x names within is h = inr (i, x, omega (arith, within), is, h)

first_or_later : (k : ℕ) (name : List ℕ) (names : List (List ℕ)) → Names k (name ∷ names) → (weekday_from name ≡ Some k) ⊎ Names k names
first_or_later k name names h = there k h.0 name h.1 names h.2 h.3 h.4

set_is : (days j k : ℕ) → bit_at (bit_or days (2 ^ j)) k ≡ 1 → (bit_at days k ≡ 1) ⊎ (j ≡ k)
set_is days j k h =
    ⊎_elim (λ same. inr same)
    (λ apart. inl (omega (arith, bit_at_or days (2 ^ j) k, h, bit_at-pow_other j k (⊎_elim (λ lt e. omega (arith, e)) (λ gt e. omega (arith, e)) apart))))
    (cases_order j k)

set_kept : (days j k : ℕ) → bit_at days k ≡ 1 → bit_at (bit_or days (2 ^ j)) k ≡ 1
set_kept days j k h = omega (arith, bit_at_or days (2 ^ j) k, h, bit_at-lt (2 ^ j) k)

set_there : (days k : ℕ) → bit_at (bit_or days (2 ^ k)) k ≡ 1
set_there days k = omega (arith, bit_at_or days (2 ^ k) k, bit_at-pow_same k, bit_at-lt days k)

names_of : (names : List (List ℕ)) (days more k : ℕ) → with_names days names ≡ Some more → bit_at more k ≡ 1 → (bit_at days k ≡ 1) ⊎ Names k names
names_of [] days more k h e = inl (let same : days ≡ more = cc h in ap (λ n. bit_at n k) same ∙ e)
names_of (name ∷ names) days more k h e =
    let next = bound (weekday_from name >>= with_day days) (λ next. with_names next names) more h in
    let weekday = bound (weekday_from name) (with_day days) next.0 next.1 in
    let set = guards (bit_at days weekday.0 == 0) (bit_or days (2 ^ weekday.0)) next.0 weekday.2 in
    ⊎_elim
    (λ had. ⊎_elim (λ old. inl old) (λ new. inr (first_name k name names (weekday.1 ∙ ap Some new))) (set_is days weekday.0 k (ap (λ n. bit_at n k) set.1 ∙ had)))
    (λ later. inr (later_name k name names later))
    (names_of names next.0 more k next.2 e)

of_names : (names : List (List ℕ)) (days more k : ℕ) → with_names days names ≡ Some more → (bit_at days k ≡ 1) ⊎ Names k names → bit_at more k ≡ 1
of_names [] days more k h e = let same : days ≡ more = cc h in ap (λ n. bit_at n k) (sym same) ∙ ⊎_elim (λ had. had) (λ none. absurd (omega (arith, none.2))) e
of_names (name ∷ names) days more k h e =
    let next = bound (weekday_from name >>= with_day days) (λ next. with_names next names) more h in
    let weekday = bound (weekday_from name) (with_day days) next.0 next.1 in
    let set = guards (bit_at days weekday.0 == 0) (bit_or days (2 ^ weekday.0)) next.0 weekday.2 in
    of_names names next.0 more k next.2
    (⊎_elim
    (λ had. inl (ap (λ n. bit_at n k) (sym set.1) ∙ set_kept days weekday.0 k had))
    (λ named. ⊎_elim
    (λ first. let is : weekday.0 ≡ k = cc (weekday.1, first) in inl (ap (λ n. bit_at n k) (sym set.1) ∙ (ap (λ j. bit_at (bit_or days (2 ^ j)) k) is ∙ set_there days k)))
    (λ later. inr later)
    (first_or_later k name names named))
    e)

pub names : named_days
unfolding days_from
names text days k h = (
  (λ e. ⊎_elim (λ none. absurd (omega (arith, none, bit_at-zero k))) (λ named. named) (names_of (slice_split (is_mark 44) text) 0 days k h e)),
  (λ named. of_names (slice_split (is_mark 44) text) 0 days k h (inr named)),
)

pub due : due_moments
due s made base moment = (due_is s made base moment, is_due_at s made base moment)
