-- The text of a moment.
use Rattle.std.proofs.Common.{◌≡◌, ℕ, ◌+◌, ◌/◌, ◌%◌, ◌≤◌, ℤ, pos, unsigned_abs, List, [], ◌∷◌, ◌++◌, length, take, drop, refl, sym, ap, ◌∙◌, append_assoc, length-append, arith}
use Rattle.std.specs.Prelude.{codes}
use Rattle.std.proofs.lemmas.List.{append-nil, drop_at, take_at}
use Rattle.jiff_core.specs.Calendar.{IsCivilDate, days_from_civil}
use Rattle.fsrm_model.specs.values.Date.{Civil, date_of, day_text, time_text}
use Rattle.fsrm_model.proofs.DateLaws.{IsOnly, date_only}
use Rattle.line_parts.specs.Moments.{moment_text}

same_text : (y : ℤ) (m d : ℕ) (date : Civil) → IsOnly y m d date → day_text (record { year = unsigned_abs y; month = m; day = d }) ≡ day_text date
same_text y m d date h =
    let year : unsigned_abs y ≡ date.year = ap unsigned_abs h.year_is in
    rw (year, h.month_is, h.day_is)

-- the date of a day has one text
pub day_shown : (day : ℕ) (y : ℤ) (m d : ℕ) → day ≤ 47481 → IsCivilDate y m d → days_from_civil y m d ≡ pos day → day_text (record { year = unsigned_abs y; month = m; day = d }) ≡ day_text (date_of day)
day_shown day y m d few h e = same_text y m d (date_of day) (date_only day few y m d h e)

-- a date and a time that are put into a line of spaces
pub joined : (date time : List ℕ) → length date ≡ 10 → take 11 (date ++ codes "         ") ++ (time ++ drop 8 (drop 11 (date ++ codes "         "))) ≡ date ++ 32 ∷ time
joined date time h =
    let parted : date ++ codes "         " ≡ (date ++ 32 ∷ []) ++ codes "        " = sym (append_assoc date (32 ∷ []) (codes "        ")) in
    let ends : length (date ++ 32 ∷ []) ≡ 11 = omega (arith, h, length-append date (32 ∷ [])) in
    let front : take 11 (date ++ codes "         ") ≡ date ++ 32 ∷ [] = ap (take 11) parted ∙ take_at (date ++ 32 ∷ []) (codes "        ") 11 ends in
    let back : drop 8 (drop 11 (date ++ codes "         ")) ≡ [] = ap (λ (xs : List ℕ). drop 8 (drop 11 xs)) parted ∙ ap (drop 8) (drop_at (date ++ 32 ∷ []) (codes "        ") 11 ends) in
    ap (λ (xs : List ℕ). xs ++ (time ++ drop 8 (drop 11 (date ++ codes "         ")))) front
    ∙ ap (λ (xs : List ℕ). (date ++ 32 ∷ []) ++ (time ++ xs)) back
    ∙ ap (λ (xs : List ℕ). (date ++ 32 ∷ []) ++ xs) (append-nil time)
    ∙ append_assoc date (32 ∷ []) time

-- a date and a time of day
pub moment_shown : (moment : ℕ) (date time text : List ℕ) → date ≡ day_text (date_of (moment / 86400)) → time ≡ time_text (moment % 86400) → text ≡ date ++ 32 ∷ time → text ≡ moment_text moment
unfolding moment_text
moment_shown moment date time text p q r = r ∙ rw (p, q) refl

-- a date, from its digits
date_digits : (a b c d e f g h year month day : ℕ) → a ≡ 48 + year / 100 / 10 → b ≡ 48 + year / 100 % 10 → c ≡ 48 + year % 100 / 10 → d ≡ 48 + year % 100 % 10 → e ≡ 48 + month / 10 → f ≡ 48 + month % 10 → g ≡ 48 + day / 10 → h ≡ 48 + day % 10 → (a ∷ b ∷ c ∷ d ∷ 45 ∷ e ∷ f ∷ 45 ∷ g ∷ h ∷ []) ≡ day_text (record { year = year; month = month; day = day })
date_digits a b c d e f g h year month day p q r s t u v w = rw (p, q, r, s, t, u, v, w) refl

pub date_shown : (a b c d e f g h year month day m k : ℕ) (y : ℤ) (text : List ℕ) → a ≡ 48 + year / 100 / 10 → b ≡ 48 + year / 100 % 10 → c ≡ 48 + year % 100 / 10 → d ≡ 48 + year % 100 % 10 → e ≡ 48 + month / 10 → f ≡ 48 + month % 10 → g ≡ 48 + day / 10 → h ≡ 48 + day % 10 → year ≡ unsigned_abs y → month ≡ m → day ≡ k → day_text (record { year = unsigned_abs y; month = m; day = k }) ≡ text → (a ∷ b ∷ c ∷ d ∷ 45 ∷ e ∷ f ∷ 45 ∷ g ∷ h ∷ []) ≡ text
date_shown a b c d e f g h year month day m k y text p q r s t u v w years months days same =
    date_digits a b c d e f g h year month day p q r s t u v w ∙ rw (years, months, days) same
