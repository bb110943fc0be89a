-- The first moment of a schedule after a base.
use Rattle.std.proofs.Common.{◌≡◌, ℕ, ◌+◌, ◌/◌, ◌<◌, ◌≤◌, true, max, sym, ap, ◌∙◌, arith, ⊎_elim}
use Rattle.std.specs.Prelude.{◌==◌, nat_lt, nat_le}
use Rattle.std.proofs.lemmas.Bool.{cases_lt}
use Rattle.fsrm_base.proofs.TestLaws.{both, both_true, eq_is, eq_test, le_is, le_test, lt_is, lt_test}
use Rattle.fsrm_model.specs.values.Limits.{latest_moment}
use Rattle.report_schedule.specs.declared.schedule.Schedule.{Schedule}
use Rattle.report_schedule.specs.declared.schedule.Schedule.TheVariants.{Never, Daily, Weekly, Monthly}
use Rattle.report_schedule.specs.Occasions.{HasNone, IsNext, is_occasion, is_on, is_schedule, minute_of, moment_on}

pub minute_within : (s : Schedule) → is_schedule s ≡ true → minute_of s < 1440
minute_within Never h = omega arith
minute_within (Daily minute every) h = lt_is minute 1440 (both _ _ h).0
minute_within (Weekly minute days) h = lt_is minute 1440 h
minute_within (Monthly minute place) h = lt_is minute 1440 (both _ _ h).0

-- a moment of a schedule, by its day
pub record IsAt (s : Schedule) (made o : ℕ) : Type 0 where
  pub after : made < o
  pub within : o ≤ latest_moment
  pub moment : o ≡ moment_on s (o / 86400)
  pub day : is_on s (made / 86400) (o / 86400) ≡ true

pub at_is : (s : Schedule) (made o : ℕ) → is_occasion s made o ≡ true → IsAt s made o
at_is s made o h =
    let parts = both _ _ h in
    let bounds = both (nat_lt made o) (nat_le o latest_moment) parts.0 in
    let rest = both (o == moment_on s (o / 86400)) (is_on s (made / 86400) (o / 86400)) parts.1 in
    record { after = lt_is made o bounds.0; within = le_is o latest_moment bounds.1; moment = eq_is o (moment_on s (o / 86400)) rest.0; day = rest.1 }

pub is_at : (s : Schedule) (made o : ℕ) → IsAt s made o → is_occasion s made o ≡ true
is_at s made o h =
    both_true _ _ (both_true _ _ (lt_test made o h.after) (le_test o latest_moment h.within)) (both_true _ _ (eq_test o (moment_on s (o / 86400)) h.moment) h.day)

-- the moment of a day is on that day
pub day_of_moment : (s : Schedule) (day : ℕ) → is_schedule s ≡ true → moment_on s day / 86400 ≡ day
day_of_moment s day h = omega (arith, minute_within s h)

-- no moment of a schedule after this one comes before a day
abbrev pub NoneBefore : Schedule → ℕ → ℕ → ℕ → Type 0
NoneBefore s made after day = (p : ℕ) → is_occasion s made p ≡ true → after < p → day ≤ p / 86400

pub none_at_first : (s : Schedule) (made after : ℕ) → NoneBefore s made after (after / 86400)
none_at_first s made after p h lt = omega arith

-- a moment of this day
pub on_this_day : (s : Schedule) (made day : ℕ) → is_schedule s ≡ true → day < 47482 → made < moment_on s day → is_on s (made / 86400) day ≡ true → is_occasion s made (moment_on s day) ≡ true
on_this_day s made day h few after on =
    let same : moment_on s day / 86400 ≡ day = day_of_moment s day h in
    is_at s made (moment_on s day) (record {
      after = after;
      within = omega (arith, minute_within s h);
      moment = ap (moment_on s) (sym same);
      day = ap (is_on s (made / 86400)) same ∙ on;
    })

pub none_on_day : (s : Schedule) (made after day : ℕ) → NoneBefore s made after day → (after < moment_on s day → is_on s (made / 86400) day ≡ true → ⊥) → NoneBefore s made after (day + 1)
none_on_day s made after day none not p h lt =
    let at = at_is s made p h in
    ⊎_elim
    (λ same. let is : p / 86400 ≡ day = omega (arith, none p h lt) in
    let here : p ≡ moment_on s day = at.moment ∙ ap (moment_on s) is in
    absurd (not (omega arith) (ap (is_on s (made / 86400)) (sym is) ∙ at.day)))
    (λ more. omega arith)
    (cases_lt (p / 86400) (day + 1))

pub first_found : (s : Schedule) (made base after day : ℕ) → is_schedule s ≡ true → after ≡ max made base → day < 47482 → NoneBefore s made after day → after < moment_on s day → is_on s (made / 86400) day ≡ true → IsNext s made base (moment_on s day)
first_found s made base after day h is few none lt on = record {
  occasion = on_this_day s made day h few (omega arith) on;
  after = omega arith;
  least = λ p q less. omega (arith, none p q (omega (arith, (at_is s made p q).after)), (at_is s made p q).moment);
}

pub never_comes : (made base : ℕ) → HasNone Never made base
never_comes made base p h = absurd (cc (at_is Never made p h).day)

pub none_found : (s : Schedule) (made base after : ℕ) → after ≡ max made base → NoneBefore s made after 47482 → HasNone s made base
none_found s made base after is none p h =
    let at = at_is s made p h in
    ⊎_elim
    (λ lt. absurd (omega (arith, none p h lt)))
    (λ le. omega arith)
    (cases_lt after p)
