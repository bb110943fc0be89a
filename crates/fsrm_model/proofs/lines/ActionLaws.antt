-- Actions and notifications are read exactly as they are written, and refused only as a line is.
use Rattle.std.proofs.Common.{◌≡◌, ℕ, ◌+◌, ◌≤◌, List, [], ◌∷◌, ◌++◌, Bool, true, false, refl, sym, ◌∙◌, ap, subst, inl, inr, arith, ℤ, pos, negsuc}
use Rattle.std.specs.Prelude.{Ok, cond, nat_le, codes, count_by, Option, Some, None, if◌then◌else◌}
use Rattle.std.specs.Char.{is_ascii_digit}
use Rattle.std.specs.List.{list_all, list_any, before_first, after_first}
use Rattle.std.specs.Str.{str_eq_ignore_ascii_case, bytes_eq}
use Rattle.std.proofs.lemmas.Bool.{and_parts, or_parts, cases_Bool, true≢false, le-leb, leb-true}
use Rattle.std.proofs.lemmas.Bool.Decides.{nat_tests}
use Rattle.std.proofs.lemmas.List.Sums.{sum_by-append, sum_by-cons}
use Rattle.std.proofs.lemmas.Slice.Eq.{bytes_eq-Decides}
use Rattle.fsrm_model.specs.declared.command.Added.{Added}
use Rattle.fsrm_model.specs.declared.command.Refusal.TheVariants.{BadLine, InvalidName}
use Rattle.fsrm_model.specs.declared.row.Action.{Action}
use Rattle.fsrm_model.specs.declared.row.ActionKind.{ActionKind}
use Rattle.fsrm_model.specs.declared.row.ActionKind.TheVariants.{Event, Mail, Program, Report}
use Rattle.fsrm_model.specs.texts.ActionWords.{kind_word, kind_named, percent_from, minutes_from, is_comma, with_commas, action_from, notice_from}
use Rattle.fsrm_model.specs.values.Limits.{greatest_percent, most_minutes}
use Rattle.fsrm_model.specs.lines.Reading.{Read, ◌>>=◌, guarded, known, is_number, number_from}
use Rattle.fsrm_model.specs.meaning.Spelling.{IsNamed, Writes, WritesMinutes, WritesAction, WritesNotice}
use Rattle.fsrm_model.specs.objects.Thresholds.{is_action_text}
use Rattle.fsrm_base.proofs.Look.{found_passes}
use Rattle.fsrm_model.proofs.lines.LineValues.{AsLine, then_line, guarded_line, known_line, if_line, number_line}
use Rattle.fsrm_model.proofs.lines.ReadLaws.{then_ok, both_ok, guarded_then, guarded_from, number_writes, number_reads}
use Rattle.fsrm_model.proofs.lines.ValueLaws.{IsCaseless, name_same, named_any, mark_parts, mark_plain, mark_before, mark_after, known_ok}

-- ---- commas
abbrev pub commas : List ℕ → ℕ
commas text = count_by is_comma text

count_first : (b : ℕ) (text : List ℕ) → commas (b ∷ text) ≡ cond (is_comma b) 1 0 + commas text
count_first b text = sum_by-cons (λ (b : ℕ). cond (is_comma b) 1 0) b text

pub none_counted : (text : List ℕ) → list_any is_comma text ≡ false → commas text ≡ 0
none_counted [] h = refl
none_counted (b ∷ text) h =
    let parts = or_parts (is_comma b) (list_any is_comma text) h in
    let first : cond {A = ℕ} (is_comma b) 1 0 ≡ 0 = rw parts.0 refl in
    omega (arith, count_first b text, first, none_counted text parts.1)

counted_any : (text : List ℕ) → 1 ≤ commas text → list_any is_comma text ≡ true
counted_any text h = elim (cases_Bool (list_any is_comma text)) [
  | inl some ↦ some
  | inr none ↦ let zero = none_counted text none in absurd (omega (arith, h, zero))
]

-- what is counted after the first of them
count_parted : (front rest : List ℕ) → list_any is_comma front ≡ false → commas (front ++ 44 ∷ rest) ≡ 1 + commas rest
count_parted front rest plain =
    let none = none_counted front plain in
    let split : commas (front ++ 44 ∷ rest) ≡ commas front + commas (44 ∷ rest) = sum_by-append (λ (b : ℕ). cond (is_comma b) 1 0) front (44 ∷ rest) in
    let first : commas (44 ∷ rest) ≡ 1 + commas rest = count_first 44 rest in
    omega (arith, none, split, first)

-- a text that has one has one more than what stands after it
pub one_counted : (text : List ℕ) → list_any is_comma text ≡ true → commas text ≡ 1 + commas (after_first is_comma text)
one_counted text some = ap commas (mark_parts 44 text some) ∙ count_parted (before_first is_comma text) (after_first is_comma text) (mark_plain 44 text)

-- a text that has more commas than one is parted at the first
record Parted (n : ℕ) (text : List ℕ) : Type 0 where
  parts : text ≡ before_first is_comma text ++ 44 ∷ after_first is_comma text
  plain : list_any is_comma (before_first is_comma text) ≡ false
  more : n ≤ commas (after_first is_comma text)

parted : (n : ℕ) (text : List ℕ) → nat_le (n + 1) (commas text) ≡ true → Parted n text
parted n text h =
    let many = leb-true (n + 1) (commas text) h in
    let parts = mark_parts 44 text (counted_any text (omega (arith, many))) in
    let plain = mark_plain 44 text in
    let count = ap commas parts ∙ count_parted (before_first is_comma text) (after_first is_comma text) plain in
    record { parts = parts; plain = plain; more = omega (arith, many, count) }

comma_caseless : IsCaseless is_comma
comma_caseless b = grind (arith, nat_tests)

no_comma : (b : ℕ) → is_ascii_digit b ≡ true → is_comma b ≡ false
no_comma b h = grind (arith, nat_tests)

digits_plain : (text : List ℕ) → list_all is_ascii_digit text ≡ true → list_any is_comma text ≡ false
digits_plain [] h = refl
digits_plain (b ∷ text) h = let parts = and_parts (is_ascii_digit b) (list_all is_ascii_digit text) h in rw (no_comma b parts.0, digits_plain text parts.1) refl

number_plain : (low high : ℕ) (text : List ℕ) (n : ℕ) → Writes low high text n → list_any is_comma text ≡ false
number_plain low high text n w = digits_plain text (and_parts _ (list_all is_ascii_digit text) w.form).1

-- ---- kinds
kind_writes : (text : List ℕ) (kind : ActionKind) → kind_named text ≡ Some kind → IsNamed (kind_word kind) text
kind_writes text kind h = found_passes (λ kind. str_eq_ignore_ascii_case (kind_word kind) text) (Event ∷ Mail ∷ Program ∷ Report ∷ []) kind h

-- the letters in their order, each of which is the text's or isn't
abbrev by_letters : Bool → Bool → Bool → Bool → Option ActionKind
by_letters e m c r = cond e (Some Event) (cond m (Some Mail) (cond c (Some Program) (cond r (Some Report) None)))

kind_reads : (text : List ℕ) (kind : ActionKind) → IsNamed (kind_word kind) text → kind_named text ≡ Some kind
kind_reads text kind w =
    ap (λ b. by_letters b (str_eq_ignore_ascii_case (codes "m") text) (str_eq_ignore_ascii_case (codes "c") text) (str_eq_ignore_ascii_case (codes "r") text)) (name_same (codes "e") (kind_word kind) text w)
    ∙ (ap (λ b. by_letters (str_eq_ignore_ascii_case (codes "e") (kind_word kind)) b (str_eq_ignore_ascii_case (codes "c") text) (str_eq_ignore_ascii_case (codes "r") text)) (name_same (codes "m") (kind_word kind) text w)
    ∙ (ap (λ b. by_letters (str_eq_ignore_ascii_case (codes "e") (kind_word kind)) (str_eq_ignore_ascii_case (codes "m") (kind_word kind)) b (str_eq_ignore_ascii_case (codes "r") text)) (name_same (codes "c") (kind_word kind) text w)
    ∙ (ap (λ b. by_letters (str_eq_ignore_ascii_case (codes "e") (kind_word kind)) (str_eq_ignore_ascii_case (codes "m") (kind_word kind)) (str_eq_ignore_ascii_case (codes "c") (kind_word kind)) b) (name_same (codes "r") (kind_word kind) text w)
    ∙ own kind)))
  where
    own : (kind : ActionKind) → by_letters (str_eq_ignore_ascii_case (codes "e") (kind_word kind)) (str_eq_ignore_ascii_case (codes "m") (kind_word kind)) (str_eq_ignore_ascii_case (codes "c") (kind_word kind)) (str_eq_ignore_ascii_case (codes "r") (kind_word kind)) ≡ Some kind
    own Event = refl
    own Mail = refl
    own Program = refl
    own Report = refl

kind_plain : (text : List ℕ) (kind : ActionKind) → IsNamed (kind_word kind) text → list_any is_comma text ≡ false
kind_plain text kind w = named_any is_comma (kind_word kind) text comma_caseless w ∙ own kind
  where
    own : (kind : ActionKind) → list_any is_comma (kind_word kind) ≡ false
    own Event = refl
    own Mail = refl
    own Program = refl
    own Report = refl

-- ---- minutes
minutes_writes : (column : ℕ) (text : List ℕ) (minutes : ℤ) → minutes_from column text ≡ Ok minutes → WritesMinutes text minutes
minutes_writes column text minutes h = by (bytes_eq text (codes "-1")) refl h
  where
    by : (b : Bool) → bytes_eq text (codes "-1") ≡ b → (if b then Ok (negsuc 0) else (number_from 0 most_minutes column text >>= λ n. Ok (pos n))) ≡ Ok minutes → WritesMinutes text minutes
    by true e h = let same : negsuc 0 ≡ minutes = cc h in subst (WritesMinutes text) same (refl, (bytes_eq-Decides text (codes "-1")).0 e)
    by false e h =
        let n = both_ok (number_from 0 most_minutes column text) (λ n. Ok (pos n)) minutes h in
        let same : pos n.0 ≡ minutes = cc n.2 in
        subst (WritesMinutes text) same (number_writes 0 most_minutes column text n.0 n.1)

minutes_reads : (column : ℕ) (text : List ℕ) (minutes : ℤ) → WritesMinutes text minutes → minutes_from column text ≡ Ok minutes
minutes_reads column text (pos n) w = by (bytes_eq text (codes "-1")) refl
  where
    by : (b : Bool) → bytes_eq text (codes "-1") ≡ b → (if b then Ok (negsuc 0) else (number_from 0 most_minutes column text >>= λ n. Ok (pos n))) ≡ Ok (pos n)
    by true e =
        let same : is_number (codes "-1") ≡ true = subst (λ (t : List ℕ). is_number t ≡ true) ((bytes_eq-Decides text (codes "-1")).0 e) w.form in
        absurd (true≢false (sym same))
    by false e = then_ok (number_from 0 most_minutes column text) n (λ n. Ok (pos n)) (number_reads 0 most_minutes column text n w)
minutes_reads column text (negsuc n) w =
    ap (minutes_from column) w.1 ∙ ap (λ k. Ok (negsuc k)) (sym w.0)

minutes_plain : (text : List ℕ) (minutes : ℤ) → WritesMinutes text minutes → list_any is_comma text ≡ false
minutes_plain text (pos n) w = number_plain 0 most_minutes text n w
minutes_plain text (negsuc n) w = ap (list_any is_comma) w.1

pub minutes_line : (column : ℕ) (text : List ℕ) → AsLine (minutes_from column text)
minutes_line column text =
    if_line (bytes_eq text (codes "-1")) (Ok (negsuc 0)) (number_from 0 most_minutes column text >>= λ minutes. Ok (pos minutes)) tt
    (then_line (number_from 0 most_minutes column text) (λ minutes. Ok (pos minutes)) (number_line 0 most_minutes column text) (λ n. tt))

-- ---- actions
abbrev new_action : ActionKind → ℤ → List ℕ → Action
new_action kind minutes text = record { kind = kind; minutes = minutes; text = text; last_run = None }

-- what is read after the minutes, after the kind, and of the whole
abbrev text_part : ActionKind → ℤ → List ℕ → Read Action
text_part kind minutes text = guarded (is_action_text text) InvalidName text >>= λ words. Ok (new_action kind minutes words)

abbrev minutes_part : ℕ → ActionKind → List ℕ → Read Action
minutes_part column kind rest = minutes_from column (before_first is_comma rest) >>= λ minutes. text_part kind minutes (after_first is_comma rest)

abbrev kind_part : ℕ → List ℕ → Read Action
kind_part column given = known (BadLine column) (kind_named (before_first is_comma given)) >>= λ kind. minutes_part column kind (after_first is_comma given)

pub action_writes : (column : ℕ) (text : List ℕ) (action : Action) → action_from column text ≡ Ok action → WritesAction text action
action_writes column text action h =
    let some = guarded_then (nat_le 2 (commas text)) (BadLine column) text (kind_part column) action h in
    let first = parted 1 text some.0 in
    let rest = after_first is_comma text in
    let kind = both_ok (known (BadLine column) (kind_named (before_first is_comma text))) (λ kind. minutes_part column kind rest) action some.1 in
    let second = parted 0 rest (le-leb 1 (commas rest) first.more) in
    let minutes = both_ok (minutes_from column (before_first is_comma rest)) (λ minutes. text_part kind.0 minutes (after_first is_comma rest)) action kind.2 in
    let words = guarded_then (is_action_text (after_first is_comma rest)) InvalidName (after_first is_comma rest) (λ words. Ok (new_action kind.0 minutes.0 words)) action minutes.2 in
    let made : new_action kind.0 minutes.0 (after_first is_comma rest) ≡ action = cc words.1 in
    subst (WritesAction text) made (record {
      kind = before_first is_comma text;
      minutes = before_first is_comma rest;
      text_is = first.parts ∙ ap (λ (r : List ℕ). before_first is_comma text ++ 44 ∷ r) second.parts;
      kind_is = kind_writes (before_first is_comma text) kind.0 (known_ok (BadLine column) (kind_named (before_first is_comma text)) kind.0 kind.1);
      minutes_are = minutes_writes column (before_first is_comma rest) minutes.0 minutes.1;
      legal = words.0;
      new = refl;
    })

pub action_reads : (column : ℕ) (text : List ℕ) (action : Action) → WritesAction text action → action_from column text ≡ Ok action
action_reads column text action w =
    let rest = w.minutes ++ 44 ∷ action.text in
    let kind_free = kind_plain w.kind action.kind w.kind_is in
    let minutes_free = minutes_plain w.minutes action.minutes w.minutes_are in
    let first : commas (w.kind ++ 44 ∷ rest) ≡ 1 + commas rest = count_parted w.kind rest kind_free in
    let second : commas rest ≡ 1 + commas action.text = count_parted w.minutes action.text minutes_free in
    let many : nat_le 2 (commas (w.kind ++ 44 ∷ rest)) ≡ true = le-leb 2 _ (omega (arith, first, second)) in
    ap (action_from column) w.text_is
    ∙ then_ok (guarded (nat_le 2 (commas (w.kind ++ 44 ∷ rest))) (BadLine column) (w.kind ++ 44 ∷ rest)) (w.kind ++ 44 ∷ rest) (kind_part column) (guarded_from (nat_le 2 (commas (w.kind ++ 44 ∷ rest))) (BadLine column) (w.kind ++ 44 ∷ rest) many)
    ∙ ap (λ (k : List ℕ). known (BadLine column) (kind_named k) >>= λ kind. minutes_part column kind (after_first is_comma (w.kind ++ 44 ∷ rest))) (mark_before 44 w.kind rest kind_free)
    ∙ ap (λ (o : Option ActionKind). known (BadLine column) o >>= λ kind. minutes_part column kind (after_first is_comma (w.kind ++ 44 ∷ rest))) (kind_reads w.kind action.kind w.kind_is)
    ∙ ap (minutes_part column action.kind) (mark_after 44 w.kind rest kind_free)
    ∙ ap (λ (m : List ℕ). minutes_from column m >>= λ minutes. text_part action.kind minutes (after_first is_comma rest)) (mark_before 44 w.minutes action.text minutes_free)
    ∙ then_ok (minutes_from column w.minutes) action.minutes (λ minutes. text_part action.kind minutes (after_first is_comma rest)) (minutes_reads column w.minutes action.minutes w.minutes_are)
    ∙ ap (text_part action.kind action.minutes) (mark_after 44 w.minutes action.text minutes_free)
    ∙ then_ok (guarded (is_action_text action.text) InvalidName action.text) action.text (λ words. Ok (new_action action.kind action.minutes words)) (guarded_from (is_action_text action.text) InvalidName action.text w.legal)
    ∙ ap (λ (last : Option ℕ). Ok (record { kind = action.kind; minutes = action.minutes; text = action.text; last_run = last })) (sym w.new)

pub action_line : (column : ℕ) (text : List ℕ) → AsLine (action_from column text)
action_line column text =
    then_line (with_commas 2 column text) (kind_part column) (guarded_line (nat_le 2 (commas text)) (BadLine column) text refl)
    (λ given. then_line (known (BadLine column) (kind_named (before_first is_comma given))) (λ kind. minutes_part column kind (after_first is_comma given))
    (known_line (BadLine column) (kind_named (before_first is_comma given)) refl)
    (λ kind. let rest = after_first is_comma given in
    then_line (minutes_from column (before_first is_comma rest)) (λ minutes. text_part kind minutes (after_first is_comma rest)) (minutes_line column (before_first is_comma rest))
    (λ minutes. then_line (guarded (is_action_text (after_first is_comma rest)) InvalidName (after_first is_comma rest)) (λ words. Ok (new_action kind minutes words))
    (guarded_line (is_action_text (after_first is_comma rest)) InvalidName (after_first is_comma rest) refl) (λ words. tt))))

-- ---- notifications
abbrev action_part : ℕ → ℕ → List ℕ → Read Added
action_part column percent text = action_from column text >>= λ action. Ok (record { percent = percent; action = action })

abbrev percent_part : ℕ → List ℕ → Read Added
percent_part column given = percent_from column (before_first is_comma given) >>= λ percent. action_part column percent (after_first is_comma given)

pub notice_writes : (column : ℕ) (text : List ℕ) (notice : Added) → notice_from column text ≡ Ok notice → WritesNotice text notice
notice_writes column text notice h =
    let some = guarded_then (nat_le 3 (commas text)) (BadLine column) text (percent_part column) notice h in
    let first = parted 2 text some.0 in
    let rest = after_first is_comma text in
    let percent = both_ok (percent_from column (before_first is_comma text)) (λ percent. action_part column percent rest) notice some.1 in
    let action = both_ok (action_from column rest) (λ action. Ok (record { percent = percent.0; action = action })) notice percent.2 in
    let made : record { percent = percent.0; action = action.0 } ≡ notice = cc action.2 in
    subst (WritesNotice text) made (record {
      percent = before_first is_comma text;
      action = rest;
      text_is = first.parts;
      percent_is = number_writes 1 greatest_percent column (before_first is_comma text) percent.0 percent.1;
      action_is = action_writes column rest action.0 action.1;
    })

-- an action has two commas at least
action_commas : (text : List ℕ) (action : Action) → WritesAction text action → 2 ≤ commas text
action_commas text action w =
    let rest = w.minutes ++ 44 ∷ action.text in
    let first : commas (w.kind ++ 44 ∷ rest) ≡ 1 + commas rest = count_parted w.kind rest (kind_plain w.kind action.kind w.kind_is) in
    let second : commas rest ≡ 1 + commas action.text = count_parted w.minutes action.text (minutes_plain w.minutes action.minutes w.minutes_are) in
    let whole = ap commas w.text_is in
    omega (arith, first, second, whole)

pub notice_reads : (column : ℕ) (text : List ℕ) (notice : Added) → WritesNotice text notice → notice_from column text ≡ Ok notice
notice_reads column text notice w =
    let free = number_plain 1 greatest_percent w.percent notice.percent w.percent_is in
    let first : commas (w.percent ++ 44 ∷ w.action) ≡ 1 + commas w.action = count_parted w.percent w.action free in
    let two = action_commas w.action notice.action w.action_is in
    let many : nat_le 3 (commas (w.percent ++ 44 ∷ w.action)) ≡ true = le-leb 3 _ (omega (arith, first, two)) in
    ap (notice_from column) w.text_is
    ∙ then_ok (guarded (nat_le 3 (commas (w.percent ++ 44 ∷ w.action))) (BadLine column) (w.percent ++ 44 ∷ w.action)) (w.percent ++ 44 ∷ w.action) (percent_part column) (guarded_from (nat_le 3 (commas (w.percent ++ 44 ∷ w.action))) (BadLine column) (w.percent ++ 44 ∷ w.action) many)
    ∙ ap (λ (p : List ℕ). percent_from column p >>= λ percent. action_part column percent (after_first is_comma (w.percent ++ 44 ∷ w.action))) (mark_before 44 w.percent w.action free)
    ∙ then_ok (percent_from column w.percent) notice.percent (λ percent. action_part column percent (after_first is_comma (w.percent ++ 44 ∷ w.action))) (number_reads 1 greatest_percent column w.percent notice.percent w.percent_is)
    ∙ ap (action_part column notice.percent) (mark_after 44 w.percent w.action free)
    ∙ then_ok (action_from column w.action) notice.action (λ action. Ok (record { percent = notice.percent; action = action })) (action_reads column w.action notice.action w.action_is)

pub notice_line : (column : ℕ) (text : List ℕ) → AsLine (notice_from column text)
notice_line column text =
    then_line (with_commas 3 column text) (percent_part column) (guarded_line (nat_le 3 (commas text)) (BadLine column) text refl)
    (λ given. then_line (percent_from column (before_first is_comma given)) (λ percent. action_part column percent (after_first is_comma given)) (number_line 1 greatest_percent column (before_first is_comma given))
    (λ percent. then_line (action_from column (after_first is_comma given)) (λ action. Ok (record { percent = percent; action = action })) (action_line column (after_first is_comma given)) (λ action. tt)))
