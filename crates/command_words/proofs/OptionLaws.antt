-- Which option a word names, and what one option more comes to.
use Rattle.std.proofs.Common.{◌≡◌, ℕ, suc, ◌+◌, ◌<◌, Bool, true, false, cond, List, [], ◌∷◌, ◌++◌, length, Some, None, refl, sym, ◌∙◌, ap, subst, arith}
use Rattle.std.specs.Prelude.{◌||◌, not, nat_le, if◌then◌else◌, Option, Result, Ok, Err, is_none, is_some}
use Rattle.std.specs.List.{cons_option, list_any, position_or_len, before_first, after_first}
use Rattle.std.specs.Option.{option_or}
use Rattle.std.specs.Str.{str_eq_ignore_ascii_case}
use Rattle.std.proofs.lemmas.List.{length-append}
use Rattle.std.proofs.lemmas.List.Elements.{filter_map-append}
use Rattle.fsrm_model.specs.declared.command.Refusal.{Refusal}
use Rattle.fsrm_model.specs.declared.command.Refusal.TheVariants.{BadLine, OutOfRange}
use Rattle.fsrm_model.specs.lines.ValueForms.{ValueForm, Value, value_from}
use Rattle.fsrm_model.specs.lines.Options.{Key, Given, once, repeated, at_most, is_same, are_apart, its, each_of, times_in, key_named, word_key, is_colon, may_repeat, is_full, with_option, options}
use Rattle.fsrm_model.specs.lines.Reading.{Read, ◌>>=◌, guarded, known}
use Rattle.fsrm_model.specs.lines.Words.{Word}
use Rattle.fsrm_base.proofs.TestLaws.{both, both_true, is_false, is_inner, nor, or_later}
use Rattle.fsrm_model.proofs.lines.OptionLaws.{is_itself, same_is}
use Rattle.fsrm_model.proofs.lines.ReadLaws.{both_ok, guarded_ok, guarded_then}
use Rattle.command_words.specs.OptionWords.{ReadsValue, HoldsOnce, HoldsEach, Adds, AddsWord, option_word, in_keys}
use Rattle.command_words.specs.KeptLaws.{neither_in, first_more, counted, times_more}
use Rattle.command_words.specs.LineFaults.{Reads}
use Rattle.command_words.specs.declared.fault.LineFault.{LineFault}
use Rattle.command_words.specs.declared.fault.LineFault.TheVariants.{Refused, NoMemory}

-- ---- words
pub none_passes : {X : Type 0} (p : X → Bool) (xs : List X) → position_or_len p xs ≡ length xs → list_any p xs ≡ false
none_passes p [] e = refl
none_passes {X} p (x ∷ xs) e = at (p x) e (none_passes p xs)
  where
    at : (b : Bool) → cond (not b) (1 + position_or_len p xs) 0 ≡ suc (length xs)
        → (position_or_len p xs ≡ length xs → list_any p xs ≡ false) → (b || list_any p xs) ≡ false
    at true e others = absurd (omega arith)
    at false e others = others (omega arith)

-- a word without a colon names no option
pub no_key : (keys : List Key) (text : List ℕ) → position_or_len is_colon text ≡ length text → word_key keys text ≡ None
no_key keys text none = rw (none_passes is_colon text none) refl

pub one_passes : {X : Type 0} (p : X → Bool) (xs : List X) → position_or_len p xs < length xs → list_any p xs ≡ true
one_passes p [] short = absurd (omega arith)
one_passes {X} p (x ∷ xs) short = at (p x) short (one_passes p xs)
  where
    at : (b : Bool) → cond (not b) (1 + position_or_len p xs) 0 < suc (length xs)
        → (position_or_len p xs < length xs → list_any p xs ≡ true) → (b || list_any p xs) ≡ true
    at true less others = refl
    at false less others = others (omega arith)

-- a word with a colon names the option that has the name before it
pub key_before : (keys : List Key) (text name : List ℕ) → position_or_len is_colon text < length text
    → name ≡ before_first is_colon text → word_key keys text ≡ key_named keys name
key_before keys text name some same = rw (one_passes is_colon text some, same) refl

-- ---- among two lists of options
-- options that are apart
record AreApart (xs ys : List Key) : Type 0 where
  first : are_apart xs ≡ true
  second : are_apart ys ≡ true
  before : (key : Key) → in_keys xs key ≡ true → in_keys ys key ≡ false
  after : (key : Key) → in_keys ys key ≡ true → in_keys xs key ≡ false

parted : (xs ys : List Key) → are_apart (xs ++ ys) ≡ true → AreApart xs ys
parted [] ys h = record { first = refl; second = h; before = λ key e. absurd (cc e); after = λ key e. refl }
parted (x ∷ xs) ys h =
    let parts = both (not (in_keys (xs ++ ys) x)) (are_apart (xs ++ ys)) h in
    let rest = parted xs ys parts.1 in
    let none = neither_in x xs ys (is_false (in_keys (xs ++ ys) x) parts.0) in
    record {
      first = both_true (not (in_keys xs x)) (are_apart xs) (ap not none.0) rest.first;
      second = rest.second;
      before = λ key e. before key (is_same x key) refl e none.1 rest;
      after = λ key e. nor (is_same x key) (in_keys xs key) (not_same key e none.1) (rest.after key e);
    }
  where
    before : (key : Key) (b : Bool) → is_same x key ≡ b → (b || in_keys xs key) ≡ true → in_keys ys x ≡ false
        → AreApart xs ys → in_keys ys key ≡ false
    before key true is e none rest = subst (λ (k : Key). in_keys ys k ≡ false) (same_is x key is) none
    before key false is e none rest = rest.before key e

    not_same : (key : Key) → in_keys ys key ≡ true → in_keys ys x ≡ false → is_same x key ≡ false
    not_same key e none = at (is_same x key) refl
      where
        at : (b : Bool) → is_same x key ≡ b → b ≡ false
        at true is = absurd (cc (sym e ∙ (sym (ap (in_keys ys) (same_is x key is)) ∙ none)))
        at false is = refl

-- the option that is found is among them
pub found_in : (keys : List Key) (name : List ℕ) (key : Key) → key_named keys name ≡ Some key → in_keys keys key ≡ true
found_in [] name key h = absurd (cc h)
found_in (k ∷ keys) name key h = at (str_eq_ignore_ascii_case k.name name) h (found_in keys name key)
  where
    at : (b : Bool) → cond b (Some k) (key_named keys name) ≡ Some key
        → (key_named keys name ≡ Some key → in_keys keys key ≡ true) → (is_same k key || in_keys keys key) ≡ true
    at true e rest =
        let same : k ≡ key = cc e in let own : is_same k key ≡ true = subst (λ (o : Key). is_same k o ≡ true) same (is_itself k) in rw own refl
    at false e rest = or_later (is_same k key) (in_keys keys key) (rest e)

pub found_first : (xs ys : List Key) (name : List ℕ) (key : Key) → key_named xs name ≡ Some key
    → key_named (xs ++ ys) name ≡ Some key
found_first [] ys name key h = absurd (cc h)
found_first (k ∷ xs) ys name key h = at (str_eq_ignore_ascii_case k.name name) h (found_first xs ys name key)
  where
    at : (b : Bool) → cond b (Some k) (key_named xs name) ≡ Some key
        → (key_named xs name ≡ Some key → key_named (xs ++ ys) name ≡ Some key)
        → cond b (Some k) (key_named (xs ++ ys) name) ≡ Some key
    at true e rest = e
    at false e rest = rest e

pub found_later : (xs ys : List Key) (name : List ℕ) → key_named xs name ≡ None
    → key_named (xs ++ ys) name ≡ key_named ys name
found_later [] ys name h = refl
found_later (k ∷ xs) ys name h = at (str_eq_ignore_ascii_case k.name name) h (found_later xs ys name)
  where
    at : (b : Bool) → cond b (Some k) (key_named xs name) ≡ None
        → (key_named xs name ≡ None → key_named (xs ++ ys) name ≡ key_named ys name)
        → cond b (Some k) (key_named (xs ++ ys) name) ≡ key_named ys name
    at true e rest = absurd (cc e)
    at false e rest = rest e

-- ---- what was given, with one option more of the same
abbrev pub own : Key → Value → Given
own key value = record { key = key; value = value }

its_own : {X : Type 0} (of : Value → Option X) (key : Key) (value : Value) (x : X) → of value ≡ Some x
    → its of key (own key value) ≡ Some x
its_own of key value x e = ap (λ (b : Bool). if b then of value else None) (is_itself key) ∙ e

one_time : (key : Key) (value : Value) → counted key (own key value) ≡ 1
one_time key value = ap (λ (b : Bool). cond {A = ℕ} b 1 0) (is_itself key)

pub once_more : {X : Type 0} (of : Value → Option X) (key : Key) (held : Option X) (given : List Given)
    (value : Value) (x : X) → held ≡ None → of value ≡ Some x → HoldsOnce of key held given
    → HoldsOnce of key (Some x) (given ++ own key value ∷ [])
once_more {X} of key held given value x nothing e h =
    let n = times_more key given (own key value) in
    let one_more = one_time key value in
    record {
      value = sym (first_more (its of key) given (own key value) ∙ (ap (λ (o : Option X). option_or o (its of key (own key value))) (sym h.value ∙ nothing) ∙ its_own of key value x e));
      none = sym (is_inner (times_in key (given ++ own key value ∷ [])) (λ zero. absurd (omega (arith, n, one_more, zero))));
    }

pub each_more : {X : Type 0} (of : Value → Option X) (key : Key) (held : List X) (given : List Given) (value : Value)
    (x : X) → of value ≡ Some x → HoldsEach of key held given
    → HoldsEach of key (held ++ x ∷ []) (given ++ own key value ∷ [])
each_more {X} of key held given value x e h =
    record {
      values =
          ap (λ (list : List X). list ++ x ∷ []) h.values
          ∙ sym (filter_map-append (its of key) given (own key value ∷ []) ∙ ap (λ (o : Option X). each_of of key given ++ cons_option o []) (its_own of key value x e));
      count = omega (arith, length-append held (x ∷ []), h.count, times_more key given (own key value), one_time key value);
    }

-- ---- one option
-- that is named
pub named_own : (key : Key) (name : List ℕ) → str_eq_ignore_ascii_case key.name name ≡ true
    → key_named (key ∷ []) name ≡ Some key
named_own key name h = ap (λ (b : Bool). cond b (Some key) None) h

-- that may be given once
pub not_some : {X : Type 0} (o : Option X) → is_some o ≡ false → o ≡ None
not_some None h = refl
not_some (Some x) h = absurd (cc h)

some_there : {X : Type 0} (o : Option X) → is_some o ≡ true → is_none o ≡ false
some_there None h = absurd (cc h)
some_there (Some x) h = refl

pub once_again : {X : Type 0} (of : Value → Option X) (name : List ℕ) (form : ValueForm) (held : Option X)
    (column : ℕ) (text : List ℕ) (given : List Given) → is_some held ≡ true → HoldsOnce of (once name form) held given
    → with_option (once name form) column text given ≡ Err (BadLine column)
once_again of name form held column text given some h =
    ap (λ (b : Bool). guarded b (BadLine column) (once name form) >>= λ fresh. value_from fresh.form column text >>= λ x. Ok (given ++ own (once name form) x ∷ [])) (sym h.none ∙ some_there held some)

pub once_fresh : {X : Type 0} (of : Value → Option X) (name : List ℕ) (form : ValueForm) (held : Option X)
    (column : ℕ) (text : List ℕ) (given : List Given) (read : Read Value) → held ≡ None
    → HoldsOnce of (once name form) held given → value_from form column text ≡ read
    → with_option (once name form) column text given ≡ (read >>= λ x. Ok (given ++ own (once name form) x ∷ []))
once_fresh {X} of name form held column text given read nothing h is =
    ap (λ (b : Bool). guarded b (BadLine column) (once name form) >>= λ fresh. value_from fresh.form column text >>= λ x. Ok (given ++ own (once name form) x ∷ [])) (sym h.none ∙ ap (λ (o : Option X). is_none o) nothing)
    ∙ ap (λ (r : Read Value). r >>= λ x. Ok (given ++ own (once name form) x ∷ [])) is

-- that may repeat
pub repeated_fresh : (name : List ℕ) (form : ValueForm) (column : ℕ) (text : List ℕ) (given : List Given)
    (read : Read Value) → value_from form column text ≡ read
    → with_option (repeated name form) column text given ≡ (read >>= λ x. Ok (given ++ own (repeated name form) x ∷ []))
repeated_fresh name form column text given read is =
    ap (λ (r : Read Value). r >>= λ x. Ok (given ++ own (repeated name form) x ∷ [])) is

pub at_most_fresh : (most : ℕ) (name : List ℕ) (form : ValueForm) (column : ℕ) (text : List ℕ) (given : List Given)
    (read : Read Value) (full : Bool) → value_from form column text ≡ read
    → nat_le most (times_in (at_most most name form) given) ≡ full
    → with_option (at_most most name form) column text given ≡ (read >>= λ x. guarded (not full) OutOfRange (given ++ own (at_most most name form) x ∷ []))
at_most_fresh most name form column text given read full is room =
    ap (λ (r : Read Value). r >>= λ x. guarded (not (nat_le most (times_in (at_most most name form) given))) OutOfRange (given ++ own (at_most most name form) x ∷ [])) is
    ∙ ap (λ (b : Bool). read >>= λ x. guarded (not b) OutOfRange (given ++ own (at_most most name form) x ∷ [])) room

-- a fault at its value is that of the whole
pub faulty : {X Y : Type 0} (fault : LineFault) (read : Read X) (whole : Read Y) (next : X → Read Y)
    → Reads {X = X} (Err fault) read → ((r : Read X) → read ≡ r → whole ≡ (r >>= next))
    → Reads {X = Y} (Err fault) whole
faulty (Refused refusal) read whole next h is = is (Err refusal) h
faulty NoMemory read whole next h is = tt

-- ---- a value of a form
pub reads_value : {X : Type 0} (of : Value → Option X) (make : X → Value) (code : Result X LineFault) (read : Read X)
    → ((x : X) → of (make x) ≡ Some x) → Reads code read → ReadsValue of code (read >>= λ x. Ok (make x))
reads_value {X} of make (Ok x) read own h = (make x, ap (λ (r : Read X). r >>= λ x. Ok (make x)) h, own x)
reads_value {X} of make (Err (Refused refusal)) read own h = ap (λ (r : Read X). r >>= λ x. Ok (make x)) h
reads_value of make (Err NoMemory) read own h = tt

-- ---- a pair of options
-- what an option adds is its value
pub added_is : (key : Key) (column : ℕ) (text : List ℕ) (given more : List Given)
    → with_option key column text given ≡ Ok more → (x : Value) × (more ≡ given ++ own key x ∷ [])
added_is key column text given more h =
    let next : Value → Read (List Given) = λ x. guarded (not (is_full key.times (times_in key given))) OutOfRange (given ++ own key x ∷ []) in
    let fresh = guarded_then (may_repeat key.times (times_in key given)) (BadLine column) key (λ fresh. value_from fresh.form column text >>= next) more h in
    let value = both_ok (value_from key.form column text) next more fresh.1 in
    let added = guarded_ok (not (is_full key.times (times_in key given))) OutOfRange (given ++ own key value.0 ∷ []) more value.2 in
    (value.0, sym added.1)

-- if one of the first adds it, what is held of the second stays
pub first_added : {A B : Type 0} (first : A → List Given → Type 0) (second : B → List Given → Type 0)
    (xs ys : List Key) (result : Result Bool LineFault) (old new : A) (held : B) (name : List ℕ) (column : ℕ)
    (text : List ℕ) (given : List Given) → are_apart (xs ++ ys) ≡ true → result ≡ Ok true
    → ((next : Given) → in_keys ys next.key ≡ false → second held (given ++ next ∷ []))
    → Adds first result old new xs name column text given
    → (key : Key) × (more : List Given) × (key_named (xs ++ ys) name ≡ Some key) × (with_option key column text given ≡ Ok more) × (first new more × second held more)
first_added first second xs ys (Ok true) old new held name column text given apart is kept added =
    let x = added_is added.0 column text given added.1 added.3 in
    let none = (parted xs ys apart).before added.0 (found_in xs name added.0 added.2) in
    (added.0, added.1, found_first xs ys name added.0 added.2, added.3, (added.4, subst (λ (more : List Given). second held more) (sym x.1) (kept (own added.0 x.0) none)))
first_added first second xs ys (Ok false) old new held name column text given apart is kept added = absurd (cc is)
first_added first second xs ys (Err fault) old new held name column text given apart is kept added = absurd (cc is)

-- if it is none of them, nothing changes
pub not_added : {A : Type 0} (first : A → List Given → Type 0) (xs : List Key) (result : Result Bool LineFault)
    (old new : A) (name : List ℕ) (column : ℕ) (text : List ℕ) (given : List Given) → result ≡ Ok false
    → Adds first result old new xs name column text given → (key_named xs name ≡ None) × (new ≡ old)
not_added first xs (Ok false) old new name column text given is added = added
not_added first xs (Ok true) old new name column text given is added = absurd (cc is)
not_added first xs (Err fault) old new name column text given is added = absurd (cc is)

-- and then what the second adds is added to both
pub second_added : {A B : Type 0} (first : A → List Given → Type 0) (second : B → List Given → Type 0)
    (xs ys : List Key) (result : Result Bool LineFault) (held new : A) (old more : B) (name : List ℕ) (column : ℕ)
    (text : List ℕ) (given : List Given) → are_apart (xs ++ ys) ≡ true → (key_named xs name ≡ None) × (new ≡ held)
    → ((next : Given) → in_keys xs next.key ≡ false → first held (given ++ next ∷ []))
    → Adds second result old more ys name column text given
    → Adds {V = A × B} (λ held line. first held.0 line × second held.1 line) result (held, old) (new, more) (xs ++ ys) name column text given
second_added {A} {B} first second xs ys (Ok true) held new old more name column text given apart none kept added =
    let x = added_is added.0 column text given added.1 added.3 in
    let not_first = (parted xs ys apart).after added.0 (found_in ys name added.0 added.2) in
    let still : first held added.1 = subst (λ (all : List Given). first held all) (sym x.1) (kept (own added.0 x.0) not_first) in
    (added.0, added.1, found_later xs ys name none.0 ∙ added.2, added.3, (subst (λ (a : A). first a added.1) (sym none.1) still, added.4))
second_added {A} {B} first second xs ys (Ok false) held new old more name column text given apart none kept added =
    (found_later xs ys name none.0 ∙ added.0, ap (λ (b : B). (new, b)) added.1 ∙ ap (λ (a : A). (a, old)) none.1)
second_added first second xs ys (Err fault) held new old more name column text given apart none kept added =
    (added.0, found_later xs ys name none.0 ∙ added.1, added.2)

-- a pair's options are apart
pub apart_first : (xs ys : List Key) → are_apart (xs ++ ys) ≡ true → are_apart xs ≡ true
apart_first xs ys h = (parted xs ys h).first

pub apart_second : (xs ys : List Key) → are_apart (xs ++ ys) ≡ true → are_apart ys ≡ true
apart_second xs ys h = (parted xs ys h).second

-- ---- a word
abbrev asked : List Key → List ℕ → ℕ → List ℕ → List Given → Read (List Given)
asked keys name column value given =
    known (BadLine column) (key_named keys name) >>= λ key. with_option key column value given

asked_is : (keys : List Key) (word : Word) (name value : List ℕ) (given : List Given)
    → word_key keys word.text ≡ key_named keys name → value ≡ after_first is_colon word.text
    → option_word keys word given ≡ asked keys name word.column value given
asked_is keys word name value given named is =
    ap (λ (o : Option Key). known (BadLine word.column) o >>= λ key. with_option key word.column (after_first is_colon word.text) given) named
    ∙ ap (λ (v : List ℕ). asked keys name word.column v given) (sym is)

pub word_without : (keys : List Key) (word : Word) (given : List Given) → word_key keys word.text ≡ None
    → option_word keys word given ≡ Err (BadLine word.column)
word_without keys word given none =
    ap (λ (o : Option Key). known (BadLine word.column) o >>= λ key. with_option key word.column (after_first is_colon word.text) given) none

-- a word that gives an option, unless memory runs out
pub word_added : {V : Type 0} (holds : V → List Given → Type 0) (keys : List Key) (word : Word) (name value : List ℕ)
    (given : List Given) (result : Result Bool LineFault) (old new : V)
    → word_key keys word.text ≡ key_named keys name → value ≡ after_first is_colon word.text → result ≡ Ok true
    → Adds holds result old new keys name word.column value given
    → AddsWord holds (Ok tt) new (option_word keys word given)
word_added holds keys word name value given (Ok true) old new named is done added =
    (added.1, asked_is keys word name value given named is ∙ (ap (λ (o : Option Key). known (BadLine word.column) o >>= λ key. with_option key word.column value given) added.2 ∙ added.3), added.4)
word_added holds keys word name value given (Ok false) old new named is done added = absurd (cc done)
word_added holds keys word name value given (Err fault) old new named is done added = absurd (cc done)

pub word_other : {V : Type 0} (holds : V → List Given → Type 0) (keys : List Key) (word : Word) (name value : List ℕ)
    (given : List Given) (result : Result Bool LineFault) (old new : V)
    → word_key keys word.text ≡ key_named keys name → value ≡ after_first is_colon word.text → result ≡ Ok false
    → Adds holds result old new keys name word.column value given
    → option_word keys word given ≡ Err (BadLine word.column)
word_other holds keys word name value given (Ok false) old new named is done added =
    asked_is keys word name value given named is
    ∙ ap (λ (o : Option Key). known (BadLine word.column) o >>= λ key. with_option key word.column value given) added.0
word_other holds keys word name value given (Ok true) old new named is done added = absurd (cc done)
word_other holds keys word name value given (Err fault) old new named is done added = absurd (cc done)

pub word_faulty : {V : Type 0} (holds : V → List Given → Type 0) (keys : List Key) (word : Word) (name value : List ℕ)
    (given : List Given) (fault : LineFault) (old new : V) → word_key keys word.text ≡ key_named keys name
    → value ≡ after_first is_colon word.text → Adds holds (Err fault) old new keys name word.column value given
    → Reads {X = List Given} (Err fault) (option_word keys word given)
word_faulty holds keys word name value given (Refused refusal) old new named is added =
    asked_is keys word name value given named is
    ∙ (ap (λ (o : Option Key). known (BadLine word.column) o >>= λ key. with_option key word.column value given) added.1 ∙ added.2)
word_faulty holds keys word name value given NoMemory old new named is added = tt

-- one more word
pub word_more : (keys : List Key) (word : Word) (words : List Word) (given more : List Given)
    → option_word keys word given ≡ Ok more → options keys (word ∷ words) given ≡ options keys words more
word_more keys word words given more h = at (word_key keys word.text) h
  where
    value : List ℕ
    value = after_first is_colon word.text

    at : (o : Option Key)
        → (known (BadLine word.column) o >>= λ key. with_option key word.column value given) ≡ Ok more
        → (known (BadLine word.column) o >>= λ key. with_option key word.column value given >>= λ more. options keys words more) ≡ options keys words more
    at None e = absurd (cc e)
    at (Some key) e = ap (λ (r : Read (List Given)). r >>= λ more. options keys words more) e

pub words_more : (keys : List Key) (before after : List Word) (word : Word) (given more : List Given)
    (whole : Read (List Given)) → before ≡ word ∷ after → options keys before given ≡ whole
    → option_word keys word given ≡ Ok more → options keys after more ≡ whole
words_more keys before after word given more whole e is h =
    sym (word_more keys word after given more h) ∙ ap (λ (words : List Word). options keys words given) (sym e) ∙ is

-- a word that is refused
word_fails : (keys : List Key) (words : List Word) (word : Word) (given : List Given) (refusal : Refusal)
    → option_word keys word given ≡ Err refusal → options keys (word ∷ words) given ≡ Err refusal
word_fails keys words word given refusal h = at (word_key keys word.text) h
  where
    at : (o : Option Key)
        → (known (BadLine word.column) o >>= λ key. with_option key word.column (after_first is_colon word.text) given) ≡ Err refusal
        → (known (BadLine word.column) o >>= λ key. with_option key word.column (after_first is_colon word.text) given >>= λ more. options keys words more) ≡ Err refusal
    at None e = e
    at (Some key) e = ap (λ (r : Read (List Given)). r >>= λ more. options keys words more) e

pub words_fail : (keys : List Key) (before after : List Word) (word : Word) (given : List Given)
    (whole : Read (List Given)) (fault : LineFault) → before ≡ word ∷ after → options keys before given ≡ whole
    → Reads {X = List Given} (Err fault) (option_word keys word given) → Reads {X = List Given} (Err fault) whole
words_fail keys before after word given whole (Refused refusal) e is h =
    sym is ∙ ap (λ (words : List Word). options keys words given) e ∙ word_fails keys after word given refusal h
words_fail keys before after word given whole NoMemory e is h = tt
