-- What options give is valid, and has no more bytes in an entry than the words that give it.
use Rattle.std.proofs.Common.{◌≡◌, ℕ, ◌+◌, ◌≤◌, List, [], ◌∷◌, Bool, true, false, length, refl, sym, ◌∙◌, ap, subst, arith}
use Rattle.std.specs.Prelude.{sum_by, Option, Some, None, cond, ◌||◌, not, if◌then◌else◌}
use Rattle.std.specs.List.{AllByRecursion, cons_option, list_all, list_any}
use Rattle.std.specs.Option.{option_or, option_map_or}
use Rattle.std.proofs.lemmas.List.{length-append}
use Rattle.std.proofs.lemmas.List.Sums.{sum_by-cons}
use Rattle.fsrm_model.specs.declared.command.Added.{Added}
use Rattle.fsrm_model.specs.declared.row.Action.{Action}
use Rattle.fsrm_model.specs.commands.Entry.{number_bytes, text_bytes, path_bytes, notice_bytes, screen_notice_bytes}
use Rattle.fsrm_model.specs.values.Limits.{longest_path}
use Rattle.fsrm_model.specs.lines.ValueForms.{Value, PathValue, NumberValue, TextValue, TextsValue, NoticeValue, ActionValue, path_of, number_of, text_of, texts_of, notice_of, action_of}
use Rattle.fsrm_model.specs.lines.Options.{Key, Given, is_same, is_of, are_apart, its, one, each_of}
use Rattle.fsrm_model.specs.meaning.Spelling.{SpellsEach, AreAllowed, SpellsOptions}
use Rattle.fsrm_base.proofs.TestLaws.{both, both_true, is_false}
use Rattle.fsrm_model.proofs.lines.OptionLaws.{same_is}
use Rattle.fsrm_model.proofs.lines.SoundValues.{Path, IsSoundValue, IsSoundGiven, lengths, name_pays, weight, weigh, value_sound, name_length, value_fits}

-- what is known of options that words of so many bytes give
pub record AreSound (L : ℕ) (given : List Given) : Type 0 where
  pub each : AllByRecursion IsSoundGiven given
  pub bytes : sum_by weigh given ≤ L
  pub allowed : AreAllowed given

pub each_sound : (L : ℕ) (keys : List Key) (words : List (List ℕ)) (given : List Given)
    → SpellsOptions keys words given → sum_by length words ≤ L → L ≤ longest_path → AreSound L given
each_sound L keys words given s fits short =
    let f = weights keys words given s.each in
    record { each = values keys words given (omega (arith, fits, short)) s.each; bytes = omega (arith, f, fits); allowed = s.allowed }
  where
    values : (keys : List Key) (words : List (List ℕ)) (given : List Given) → sum_by length words ≤ longest_path
        → SpellsEach keys words given → AllByRecursion IsSoundGiven given
    values keys [] [] few s = tt
    values keys [] (next ∷ given) few s = absurd s
    values keys (word ∷ words) [] few s = absurd s
    values keys (word ∷ words) (next ∷ given) few s =
        let o = s.0 in
        let size = sum_by-cons length word words in
        (value_sound next.key.form o.1 next.value (omega (arith, few, size, ap length o.3, length-append o.0 (58 ∷ o.1))) o.5, values keys words given (omega (arith, few, size)) s.1)

    weights : (keys : List Key) (words : List (List ℕ)) (given : List Given) → SpellsEach keys words given
        → sum_by weigh given ≤ sum_by length words
    weights keys [] [] s = omega arith
    weights keys [] (next ∷ given) s = absurd s
    weights keys (word ∷ words) [] s = absurd s
    weights keys (word ∷ words) (next ∷ given) s =
        let o = s.0 in
        omega (
          arith,
          sum_by-cons length word words,
          sum_by-cons weigh next given,
          ap length o.3,
          length-append o.0 (58 ∷ o.1),
          name_length keys o.0 next.key o.4,
          value_fits next.key o.1 next.value o.5,
          weights keys words given s.1,
        )

-- ---- what was given of an option
-- a kind of values
pub record IsKind {X : Type 0} (of : Value → Option X) : Type 0 where
  pub make : X → Value
  pub made : (value : Value) (x : X) → of value ≡ Some x → value ≡ make x

pub paths_made : (value : Value) (x : Path) → path_of value ≡ Some x → value ≡ PathValue x
paths_made (PathValue own) x e = ap PathValue (cc e)
paths_made other x e = absurd (cc e)

abbrev pub paths_kind : IsKind path_of
paths_kind = record { make = PathValue; made = paths_made }

pub numbers_made : (value : Value) (x : ℕ) → number_of value ≡ Some x → value ≡ NumberValue x
numbers_made (NumberValue own) x e = ap NumberValue (cc e)
numbers_made other x e = absurd (cc e)

abbrev pub numbers_kind : IsKind number_of
numbers_kind = record { make = NumberValue; made = numbers_made }

pub text_made : (value : Value) (x : List ℕ) → text_of value ≡ Some x → value ≡ TextValue x
text_made (TextValue own) x e = ap TextValue (cc e)
text_made other x e = absurd (cc e)

abbrev pub text_kind : IsKind text_of
text_kind = record { make = TextValue; made = text_made }

pub texts_made : (value : Value) (x : List (List ℕ)) → texts_of value ≡ Some x → value ≡ TextsValue x
texts_made (TextsValue own) x e = ap TextsValue (cc e)
texts_made other x e = absurd (cc e)

abbrev pub texts_kind : IsKind texts_of
texts_kind = record { make = TextsValue; made = texts_made }

pub notices_made : (value : Value) (x : Added) → notice_of value ≡ Some x → value ≡ NoticeValue x
notices_made (NoticeValue own) x e = ap NoticeValue (cc e)
notices_made other x e = absurd (cc e)

abbrev pub notices_kind : IsKind notice_of
notices_kind = record { make = NoticeValue; made = notices_made }

pub actions_made : (value : Value) (x : Action) → action_of value ≡ Some x → value ≡ ActionValue x
actions_made (ActionValue own) x e = ap ActionValue (cc e)
actions_made other x e = absurd (cc e)

abbrev pub actions_kind : IsKind action_of
actions_kind = record { make = ActionValue; made = actions_made }

-- a value that was given is that of its option
record IsIts {X : Type 0} (of : Value → Option X) (key : Key) (given : Given) (x : X) : Type 0 where
  here : is_of key given ≡ true
  own : key ≡ given.key
  value : of given.value ≡ Some x

is_its : {X : Type 0} (of : Value → Option X) (key : Key) (given : Given) (x : X) → its of key given ≡ Some x
    → IsIts of key given x
is_its {X} of key given x e = at (is_of key given) refl e
  where
    at : (b : Bool) → is_of key given ≡ b → (if b then of given.value else None) ≡ Some x → IsIts of key given x
    at true is e = record { here = is; own = same_is key given.key is; value = e }
    at false is e = absurd (cc e)

its_sound : {X : Type 0} (of : Value → Option X) (kind : IsKind of) (key : Key) (given : Given) (x : X)
    → IsSoundGiven given → its of key given ≡ Some x → IsSoundValue key.form (kind.make x)
its_sound of kind key given x s e =
    let i = is_its of key given x e in
    let same : given.value ≡ kind.make x = kind.made given.value x i.value in
    subst (λ (k : Key). IsSoundValue k.form (kind.make x)) (sym i.own) (subst (λ (value : Value). IsSoundValue given.key.form value) same s)

-- what was given is sound
pub one_sound : {X : Type 0} (of : Value → Option X) (kind : IsKind of) (key : Key) (given : List Given) (x : X)
    → AllByRecursion IsSoundGiven given → one of key given ≡ Some x → IsSoundValue key.form (kind.make x)
one_sound of kind key [] x s e = absurd (cc e)
one_sound {X} of kind key (g ∷ given) x s e = at (its of key g) refl (one_sound of kind key given x s.1) e
  where
    at : (o : Option X) → its of key g ≡ o → (one of key given ≡ Some x → IsSoundValue key.form (kind.make x))
        → option_or o (one of key given) ≡ Some x → IsSoundValue key.form (kind.make x)
    at None is rest e = rest e
    at (Some y) is rest e = its_sound of kind key g x s.0 (is ∙ e)

pub each_of_sound : {X : Type 0} (p : X → Bool) (of : Value → Option X) (kind : IsKind of) (key : Key)
    → ((x : X) → IsSoundValue key.form (kind.make x) → p x ≡ true) → (given : List Given)
    → AllByRecursion IsSoundGiven given → list_all p (each_of of key given) ≡ true
each_of_sound p of kind key each [] s = refl
each_of_sound {X} p of kind key each (g ∷ given) s = at (its of key g) refl (each_of_sound p of kind key each given s.1)
  where
    at : (o : Option X) → its of key g ≡ o → list_all p (each_of of key given) ≡ true
        → list_all p (cons_option o (each_of of key given)) ≡ true
    at None is rest = rest
    at (Some x) is rest =
        both_true (p x) (list_all p (each_of of key given)) (each x (its_sound of kind key g x s.0 is)) rest

-- what may be left out passes a test if it does where it is given
pub maybe_sound : {X : Type 0} (p : X → Bool) (o : Option X) → ((x : X) → o ≡ Some x → p x ≡ true)
    → option_map_or p o true ≡ true
maybe_sound p None each = refl
maybe_sound p (Some x) each = each x refl

-- ---- how many bytes what was given of an option has
abbrev pub share : Key → List Given → ℕ
share key given = sum_by (λ (g : Given). cond (is_of key g) (weigh g) 0) given

abbrev pub shares : List Key → List Given → ℕ
shares [] given = 0
shares (key ∷ keys) given = share key given + shares keys given

-- options that are apart have no bytes in common
abbrev in_any : List Key → Given → Bool
in_any keys g = list_any (λ (key : Key). is_of key g) keys

part : List Key → List Given → ℕ
part keys given = sum_by (λ (g : Given). cond (in_any keys g) (weigh g) 0) given

parted : (key : Key) (keys : List Key) (given : List Given)
    → list_any (λ (other : Key). is_same other key) keys ≡ false
    → part (key ∷ keys) given ≡ share key given + part keys given
unfolding part
parted key keys [] apart = refl
parted key keys (g ∷ given) apart =
    omega (
      arith,
      parted key keys given apart,
      sum_by-cons (λ (g : Given). cond (in_any (key ∷ keys) g) (weigh g) 0) g given,
      sum_by-cons (λ (g : Given). cond (is_of key g) (weigh g) 0) g given,
      sum_by-cons (λ (g : Given). cond (in_any keys g) (weigh g) 0) g given,
      at (is_of key g) refl,
    )
  where
    at : (b : Bool) → is_of key g ≡ b
        → cond (b || in_any keys g) (weigh g) 0 ≡ cond b (weigh g) 0 + cond (in_any keys g) (weigh g) 0
    at true is =
        let none : in_any keys g ≡ false = subst (λ (k : Key). list_any (λ (other : Key). is_same other k) keys ≡ false) (same_is key g.key is) apart in
        let zero : cond (in_any keys g) (weigh g) 0 ≡ 0 = rw none refl in
        omega (arith, zero)
    at false is = omega arith

no_part : (given : List Given) → part [] given ≡ 0
unfolding part
no_part [] = refl
no_part (g ∷ given) = omega (arith, sum_by-cons (λ (g : Given). cond (in_any [] g) (weigh g) 0) g given, no_part given)

shared : (keys : List Key) (given : List Given) → are_apart keys ≡ true → shares keys given ≡ part keys given
unfolding part
shared [] given apart = sym (no_part given)
shared (key ∷ keys) given apart =
    let parts = both (not (list_any (λ (other : Key). is_same other key) keys)) (are_apart keys) apart in
    let rest = shared keys given parts.1 in
    omega (arith, rest, parted key keys given (is_false (list_any (λ (other : Key). is_same other key) keys) parts.0))

part_fits : (keys : List Key) (given : List Given) → part keys given ≤ sum_by weigh given
unfolding part
part_fits keys [] = omega arith
part_fits keys (g ∷ given) =
    omega (arith, part_fits keys given, sum_by-cons (λ (g : Given). cond (in_any keys g) (weigh g) 0) g given, sum_by-cons weigh g given, at (in_any keys g))
  where
    at : (b : Bool) → cond b (weigh g) 0 ≤ weigh g
    at true = omega arith
    at false = omega arith

pub shares_fit : (keys : List Key) (given : List Given) → are_apart keys ≡ true → shares keys given ≤ sum_by weigh given
shares_fit keys given apart = omega (arith, shared keys given apart, part_fits keys given)

-- a value has no more bytes than its option's share
abbrev pub Weighs : {X : Type 0} → (Value → Option X) → Key → (X → ℕ) → Type 0
Weighs {X} of key bytes = (value : Value) (x : X) → of value ≡ Some x → bytes x ≤ weight key value

its_weigh : {X : Type 0} (of : Value → Option X) (key : Key) (bytes : X → ℕ) → Weighs of key bytes
    → (g : Given) (x : X) → its of key g ≡ Some x → bytes x ≤ cond (is_of key g) (weigh g) 0
its_weigh of key bytes each g x e =
    let i = is_its of key g x e in
    let here : cond (is_of key g) (weigh g) 0 ≡ weigh g = rw i.here refl in
    let fits : bytes x ≤ weigh g = subst (λ (k : Key). bytes x ≤ weight k g.value) i.own (each g.value x i.value) in
    omega (arith, here, fits)

pub one_fits : {X : Type 0} (of : Value → Option X) (key : Key) (bytes : X → ℕ) → Weighs of key bytes
    → (given : List Given) → option_map_or bytes (one of key given) 0 ≤ share key given
one_fits of key bytes each [] = omega arith
one_fits {X} of key bytes each (g ∷ given) =
    omega (arith, sum_by-cons (λ (g : Given). cond (is_of key g) (weigh g) 0) g given, at (its of key g) refl (one_fits of key bytes each given))
  where
    at : (o : Option X) → its of key g ≡ o → option_map_or bytes (one of key given) 0 ≤ share key given
        → option_map_or bytes (option_or o (one of key given)) 0 ≤ cond (is_of key g) (weigh g) 0 + share key given
    at None is rest = omega (arith, rest)
    at (Some x) is rest = omega (arith, its_weigh of key bytes each g x is)

pub each_fits : {X : Type 0} (of : Value → Option X) (key : Key) (bytes : X → ℕ) → Weighs of key bytes
    → (given : List Given) → sum_by bytes (each_of of key given) ≤ share key given
each_fits of key bytes each [] = omega arith
each_fits {X} of key bytes each (g ∷ given) =
    omega (arith, sum_by-cons (λ (g : Given). cond (is_of key g) (weigh g) 0) g given, at (its of key g) refl (each_fits of key bytes each given))
  where
    at : (o : Option X) → its of key g ≡ o → sum_by bytes (each_of of key given) ≤ share key given
        → sum_by bytes (cons_option o (each_of of key given)) ≤ cond (is_of key g) (weigh g) 0 + share key given
    at None is rest = omega (arith, rest)
    at (Some x) is rest =
        omega (arith, rest, sum_by-cons bytes x (each_of of key given), its_weigh of key bytes each g x is)

pub path_weighs : (key : Key) → name_pays key 2 ≡ 2 → Weighs path_of key path_bytes
path_weighs key long (PathValue own) x e = let same : own ≡ x = cc e in omega (arith, long, ap path_bytes same)
path_weighs key long other x e = absurd (cc e)

pub text_weighs : (key : Key) → name_pays key 2 ≡ 2 → Weighs text_of key text_bytes
text_weighs key long (TextValue own) x e = let same : own ≡ x = cc e in omega (arith, long, ap text_bytes same)
text_weighs key long other x e = absurd (cc e)

pub texts_weigh : (key : Key) → Weighs texts_of key lengths
texts_weigh key (TextsValue own) x e = let same : own ≡ x = cc e in omega (arith, ap lengths same)
texts_weigh key other x e = absurd (cc e)

pub number_weighs : (key : Key) → name_pays key 8 ≡ 8 → Weighs number_of key (λ n. number_bytes)
number_weighs key long (NumberValue own) x e = omega (arith, long)
number_weighs key long other x e = absurd (cc e)

pub notice_weighs : (key : Key) → name_pays key 16 ≡ 16 → Weighs notice_of key notice_bytes
notice_weighs key long (NoticeValue own) x e = let same : own ≡ x = cc e in omega (arith, long, ap notice_bytes same)
notice_weighs key long other x e = absurd (cc e)

pub action_weighs : (key : Key) → name_pays key 9 ≡ 9 → Weighs action_of key screen_notice_bytes
action_weighs key long (ActionValue own) x e =
    let same : own ≡ x = cc e in omega (arith, long, ap screen_notice_bytes same)
action_weighs key long other x e = absurd (cc e)
