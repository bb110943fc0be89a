-- Options are read exactly as they are spelled, one after another, and refused only as a line is.
use Rattle.std.proofs.Common.{◌≡◌, ℕ, ◌+◌, ◌≤◌, List, [], ◌∷◌, ◌++◌, Bool, true, false, refl, sym, ◌∙◌, ap, subst, inl, inr, append_assoc, arith}
use Rattle.std.specs.Prelude.{Ok, ◌&&◌, not, cond, count_by, bytes_eq, Option, Some, None, if◌then◌else◌}
use Rattle.std.specs.List.{list_any, before_first, after_first}
use Rattle.std.proofs.lemmas.Bool.{cases_Bool}
use Rattle.std.proofs.lemmas.List.{append-nil}
use Rattle.std.proofs.lemmas.List.Sums.{sum_by-append, sum_by-cons}
use Rattle.std.proofs.lemmas.Slice.Eq.{bytes_eq-Decides}
use Rattle.fsrm_model.specs.declared.command.Refusal.TheVariants.{BadLine, OutOfRange}
use Rattle.fsrm_model.specs.lines.ValueForms.{ValueForm, Value, value_from, same_form}
use Rattle.fsrm_model.specs.lines.Options.{Times, Once, Repeated, AtMost, Key, Given, same_times, is_same, is_of, is_colon, key_named, word_key, may_repeat, is_full, times_in, with_option, options}
use Rattle.fsrm_model.specs.lines.Reading.{Read, ◌>>=◌, guarded, known}
use Rattle.fsrm_model.specs.meaning.Spelling.{WritesValue, SpellsEach, IsAllowed, AreAllowed, SpellsOptions}
use Rattle.fsrm_model.specs.lines.Words.{Word}
use Rattle.fsrm_base.proofs.TestLaws.{both, both_true, eq_is, eq_same, eq_test, gt_is, is_false, not_le}
use Rattle.fsrm_model.proofs.lines.ValueFormLaws.{is_form, value_reads, form_same, form_is_itself}
use Rattle.fsrm_model.proofs.lines.LineValues.{AsLine, then_line, guarded_line, known_line}
use Rattle.fsrm_model.proofs.lines.ReadLaws.{both_ok, guarded_ok, guarded_then}
use Rattle.fsrm_model.proofs.lines.ValueLaws.{colon_parts, colon_before, colon_after, colon_there, before_plain, known_ok}
use Rattle.fsrm_model.proofs.lines.WordLaws.{texts}

-- ---- an option is the same as itself, and as no other
times_same : (a b : Times) → same_times a b ≡ true → a ≡ b
times_same Once Once h = refl
times_same Repeated Repeated h = refl
times_same (AtMost most) (AtMost other) h = ap AtMost (eq_is most other h)
times_same a b h = absurd (cc h)

times_is_itself : (times : Times) → same_times times times ≡ true
times_is_itself Once = refl
times_is_itself Repeated = refl
times_is_itself (AtMost most) = eq_same most

pub is_itself : (key : Key) → is_same key key ≡ true
is_itself key =
    both_true (bytes_eq key.name key.name) (same_times key.times key.times && same_form key.form key.form) ((bytes_eq-Decides key.name key.name).1 refl)
    (both_true (same_times key.times key.times) (same_form key.form key.form) (times_is_itself key.times) (form_is_itself key.form))

pub same_is : (key other : Key) → is_same key other ≡ true → key ≡ other
same_is key other h =
    let parts = both (bytes_eq key.name other.name) (same_times key.times other.times && same_form key.form other.form) h in
    let more = both (same_times key.times other.times) (same_form key.form other.form) parts.1 in
    ap (λ (name : List ℕ). record { name = name; times = key.times; form = key.form }) ((bytes_eq-Decides key.name other.name).0 parts.0)
    ∙ ap (λ (times : Times). record { name = other.name; times = times; form = key.form }) (times_same key.times other.times more.0)
    ∙ ap (λ (form : ValueForm). record { name = other.name; times = other.times; form = form }) (form_same key.form other.form more.1)

-- A word that gives an option is its name, a colon and a value
record Names (keys : List Key) (text : List ℕ) (key : Key) : Type 0 where
  name : List ℕ
  value : List ℕ
  plain : list_any is_colon name ≡ false
  text_is : text ≡ name ++ 58 ∷ value
  named : key_named keys name ≡ Some key
  value_is : after_first is_colon text ≡ value

if_some : {A : Type 0} (test : Bool) (o : Option A) (x : A) → (if test then o else None) ≡ Some x
    → (test ≡ true) × (o ≡ Some x)
if_some true o x h = (refl, h)
if_some false o x h = absurd (cc h)

word_names : (keys : List Key) (text : List ℕ) (key : Key) → word_key keys text ≡ Some key → Names keys text key
word_names keys text key h =
    let found = if_some (list_any is_colon text) (key_named keys (before_first is_colon text)) key h in
    record {
      name = before_first is_colon text;
      value = after_first is_colon text;
      plain = before_plain text;
      text_is = colon_parts text found.0;
      named = found.1;
      value_is = refl;
    }

word_named : (keys : List Key) (text name value : List ℕ) (key : Key) → list_any is_colon name ≡ false
    → text ≡ name ++ 58 ∷ value → key_named keys name ≡ Some key
    → (word_key keys text ≡ Some key) × (after_first is_colon text ≡ value)
word_named keys text name value key plain e named = (
  ap (word_key keys) e
      ∙ ap (λ (there : Bool). if there then key_named keys (before_first is_colon (name ++ 58 ∷ value)) else None) (colon_there name value)
      ∙ ap (key_named keys) (colon_before name value plain)
      ∙ named,
  ap (after_first is_colon) e ∙ colon_after name value plain,
)

-- how often an option was given
count-append : (key : Key) (xs ys : List Given)
    → count_by (is_of key) (xs ++ ys) ≡ count_by (is_of key) xs + count_by (is_of key) ys
count-append key xs ys = sum_by-append (λ (x : Given). cond (is_of key x) 1 0) xs ys

count_cons : {X : Type 0} (p : X → Bool) (x : X) (xs : List X) → count_by p (x ∷ xs) ≡ cond (p x) 1 0 + count_by p xs
count_cons p x xs = sum_by-cons (λ x. cond (p x) 1 0) x xs

-- ---- an option may be given once more exactly if it may be given so often
room : (times : Times) (n m : ℕ) → m ≡ n + 1 → may_repeat times n ≡ true → is_full times n ≡ false → IsAllowed times m
room Once n m e may free = let none = eq_is n 0 may in omega (arith, e, none)
room Repeated n m e may free = tt
room (AtMost most) n m e may free = let below = gt_is most n free in omega (arith, e, below)

record IsFree (times : Times) (n : ℕ) : Type 0 where
  may : may_repeat times n ≡ true
  free : not (is_full times n) ≡ true

free : (times : Times) (n m : ℕ) → n + 1 ≤ m → IsAllowed times m → IsFree times n
free Once n m less may = record { may = eq_test n 0 (omega (arith, less, may)); free = refl }
free Repeated n m less may = record { may = refl; free = refl }
free (AtMost most) n m less may = record { may = refl; free = ap not (not_le most n (omega (arith, less, may))) }

allowed_more : (given : List Given) (next : Given) → AreAllowed given
    → may_repeat next.key.times (times_in next.key given) ≡ true
    → is_full next.key.times (times_in next.key given) ≡ false → AreAllowed (given ++ next ∷ [])
allowed_more given next allowed may free k =
    let split : times_in k (given ++ next ∷ []) ≡ times_in k given + times_in k (next ∷ []) = count-append k given (next ∷ []) in
    elim (cases_Bool (is_of k next)) [
      | inl here ↦
          let same : next.key ≡ k = sym (same_is k next.key here) in
          let added : times_in k (next ∷ []) ≡ 1 = rw here refl in
          room k.times (times_in k given) (times_in k (given ++ next ∷ [])) (omega (arith, split, added))
          (subst (λ (k : Key). may_repeat k.times (times_in k given) ≡ true) same may) (subst (λ (k : Key). is_full k.times (times_in k given) ≡ false) same free)
      | inr other ↦
          let added : times_in k (next ∷ []) ≡ 0 = rw other refl in
          let same : times_in k given ≡ times_in k (given ++ next ∷ []) = omega (arith, split, added) in
          subst (IsAllowed k.times) same (allowed k)
    ]

allowed_free : (given more : List Given) (next : Given) → AreAllowed (given ++ next ∷ more)
    → IsFree next.key.times (times_in next.key given)
allowed_free given more next allowed =
    let k = next.key in
    let split : times_in k (given ++ next ∷ more) ≡ times_in k given + times_in k (next ∷ more) = count-append k given (next ∷ more) in
    let here : times_in k (next ∷ more) ≡ 1 + times_in k more = count_cons (is_of k) next more ∙ ap (λ (b : Bool). cond b 1 0 + times_in k more) (is_itself k) in
    free k.times (times_in k given) (times_in k (given ++ next ∷ more)) (omega (arith, split, here)) (allowed k)

-- words that are read as options spell them, after those that were given
record Reading (keys : List Key) (words : List (List ℕ)) (given all : List Given) : Type 0 where
  more : List Given
  all_is : all ≡ given ++ more
  each : SpellsEach keys words more
  allowed : AreAllowed all

joined : (given next more all : List Given) (x : Given) → given ++ x ∷ [] ≡ next → all ≡ next ++ more
    → all ≡ given ++ x ∷ more
joined given next more all x made e =
    e ∙ (ap (λ (xs : List Given). xs ++ more) (sym made) ∙ append_assoc given (x ∷ []) more)

-- what is given of a value
abbrev pub own : Key → Value → Given
own key value = record { key = key; value = value }

options_read : (keys : List Key) (words : List Word) (given all : List Given) → AreAllowed given
    → options keys words given ≡ Ok all → Reading keys (texts words) given all
options_read keys [] given all allowed h =
    let same : given ≡ all = cc h in
    record { more = []; all_is = sym (append-nil given ∙ same); each = tt; allowed = subst AreAllowed same allowed }
options_read keys (word ∷ words) given all allowed h =
    let value = after_first is_colon word.text in
    let found = both_ok (known (BadLine word.column) (word_key keys word.text)) (λ key. with_option key word.column value given >>= λ more. options keys words more) all h in
    let key = found.0 in
    let n = times_in key given in
    let add : Value → Read (List Given) = λ x. guarded (not (is_full key.times n)) OutOfRange (given ++ own key x ∷ []) in
    let next = both_ok (with_option key word.column value given) (λ more. options keys words more) all found.2 in
    let fresh = guarded_then (may_repeat key.times n) (BadLine word.column) key (λ fresh. value_from fresh.form word.column value >>= add) next.0 next.1 in
    let read = both_ok (value_from key.form word.column value) add next.0 fresh.1 in
    let room = guarded_ok (not (is_full key.times n)) OutOfRange (given ++ own key read.0 ∷ []) next.0 read.2 in
    let made : given ++ own key read.0 ∷ [] ≡ next.0 = room.1 in
    let writes = (is_form key.form).writes word.column value read.0 read.1 in
    let names = word_names keys word.text key (known_ok (BadLine word.column) (word_key keys word.text) key found.1) in
    let more = allowed_more given (own key read.0) allowed fresh.0 (is_false (is_full key.times n) room.0) in
    let now = options_read keys words next.0 all (subst AreAllowed made more) next.2 in
    record {
      more = own key read.0 ∷ now.more;
      all_is = joined given next.0 now.more all (own key read.0) made now.all_is;
      each = (
        (names.name, names.value, names.plain, names.text_is, names.named, subst (λ (text : List ℕ). WritesValue key.form text read.0) names.value_is writes),
        now.each,
      );
      allowed = now.allowed;
    }

-- and options that words spell are read
options_spelled : (keys : List Key) (words : List Word) (given more : List Given) → SpellsEach keys (texts words) more
    → AreAllowed (given ++ more) → options keys words given ≡ Ok (given ++ more)
options_spelled keys [] given [] each allowed = ap (λ (xs : List Given). Ok xs) (sym (append-nil given))
options_spelled keys [] given (next ∷ more) each allowed = absurd each
options_spelled keys (word ∷ words) given [] each allowed = absurd each
options_spelled keys (word ∷ words) given (next ∷ more) each allowed =
    let s = each.0 in
    let key = next.key in
    let n = times_in key given in
    let named = word_named keys word.text s.0 s.1 key s.2 s.3 s.4 in
    let may = allowed_free given more next allowed in
    let all : (given ++ next ∷ []) ++ more ≡ given ++ next ∷ more = append_assoc given (next ∷ []) more in
    ap (λ (o : Option Key). known (BadLine word.column) o >>= λ key. with_option key word.column (after_first is_colon word.text) given >>= λ more. options keys words more) named.0
    ∙ ap (λ (v : List ℕ). with_option key word.column v given >>= λ more. options keys words more) named.1
    ∙ ap (λ (b : Bool). (guarded b (BadLine word.column) key >>= λ fresh. value_from fresh.form word.column s.1 >>= λ x. guarded (not (is_full key.times n)) OutOfRange (given ++ own key x ∷ [])) >>= λ more. options keys words more) may.may
    ∙ ap (λ (r : Read Value). (r >>= λ x. guarded (not (is_full key.times n)) OutOfRange (given ++ own key x ∷ [])) >>= λ more. options keys words more) (value_reads key.form word.column s.1 next.value s.5)
    ∙ ap (λ (b : Bool). guarded b OutOfRange (given ++ next ∷ []) >>= λ more. options keys words more) may.free
    ∙ options_spelled keys words (given ++ next ∷ []) more each.1 (subst AreAllowed (sym all) allowed)
    ∙ ap (λ (xs : List Given). Ok xs) all

none_given : AreAllowed []
none_given key = none key.times
  where
    none : (times : Times) → IsAllowed times 0
    none Once = omega arith
    none Repeated = tt
    none (AtMost most) = omega arith

pub options_spell : (keys : List Key) (words : List Word) (given : List Given) → options keys words [] ≡ Ok given
    → SpellsOptions keys (texts words) given
options_spell keys words given h =
    let read = options_read keys words [] given none_given h in
    record { each = subst (SpellsEach keys (texts words)) (sym read.all_is) read.each; allowed = read.allowed }

pub spelled_options : (keys : List Key) (words : List Word) (given : List Given)
    → SpellsOptions keys (texts words) given → options keys words [] ≡ Ok given
spelled_options keys words given s = options_spelled keys words [] given s.each s.allowed

-- options are refused as a line is
pub options_line : (keys : List Key) (words : List Word) (given : List Given) → AsLine (options keys words given)
options_line keys [] given = tt
options_line keys (word ∷ words) given =
    let value = after_first is_colon word.text in
    let add : Key → Value → Read (List Given) = λ key x. guarded (not (is_full key.times (times_in key given))) OutOfRange (given ++ own key x ∷ []) in
    then_line (known (BadLine word.column) (word_key keys word.text)) (λ key. with_option key word.column value given >>= λ more. options keys words more)
    (known_line (BadLine word.column) (word_key keys word.text) refl)
    (λ key. then_line (with_option key word.column value given) (λ more. options keys words more)
    (then_line (guarded (may_repeat key.times (times_in key given)) (BadLine word.column) key) (λ fresh. value_from fresh.form word.column value >>= add key)
    (guarded_line (may_repeat key.times (times_in key given)) (BadLine word.column) key refl)
    (λ fresh. then_line (value_from fresh.form word.column value) (add key) ((is_form fresh.form).line word.column value)
    (λ x. guarded_line (not (is_full key.times (times_in key given))) OutOfRange (given ++ own key x ∷ []) refl)))
    (λ more. options_line keys words more))
